use Rattle.std.proofs.Common.{rules, arith, ◌+◌, ◌/◌, ◌%◌, ◌∙◌}
use Rattle.std.proofs.lemmas.Int.{to_z-of_z, to_z_pos}
use Rattle.std.proofs.lemmas.Nat.{mod_below}
use mir.Syntax.{w64, w128}
use mir.Val.{SFits}
use Rattle.source_pick.specs.Catalogue.{measured_row}
use Rattle.source_pick.proofs.CellsMeans.{widest}
use Rattle.source_pick.proofs.CellsRows.{moment-read, moment_of, moment_along, weighted-read, mean-read, centre_is, moment_fits, moment_fits_along}
use Rattle.source_pick.proofs.CellsColumns.{same_row}
use Rattle.source_pick.proofs.catalogue.row_from.Goals as goal

pub weighted-requires : goal.weighted-requires
weighted-requires c =
    moment-read c.args.s.now.rx c.args.base c.args.s.now.x (moment_of c.args.base c.args.s.now c.requires.base_up_to c.requires.sizes)
    (moment_fits c.args.base c.args.s.now c.requires.base_up_to c.requires.sizes) c.ranges.base

pub centre-requires : goal.centre-requires
centre-requires c =
    let got : SFits w128 c.weighted.result = search rules in
    widest _ c.args.s.now.x _ c.args.s.now.area c.args.s.now.xmin c.args.s.now.xmax
    (mean-read _ _ c.args.s.now.x c.args.flux c.args.s.now.area c.args.s.now.xmin c.args.s.now.xmax c.requires.across
    (weighted-read c.weighted.result c.args.s.now.rx c.args.base c.args.s.now.x got
    (moment_fits c.args.base c.args.s.now c.requires.base_up_to c.requires.sizes) c.ranges.base c.weighted.ensures) c.ranges.flux)

pub weighted-requires-2 : goal.weighted-requires-2
weighted-requires-2 c =
    moment-read c.args.s.now.ry c.args.base c.args.s.now.y (moment_along c.args.base c.args.s.now c.requires.base_up_to c.requires.sizes)
    (moment_fits_along c.args.base c.args.s.now c.requires.base_up_to c.requires.sizes) c.ranges.base

pub centre-requires-2 : goal.centre-requires-2
centre-requires-2 c =
    let got : SFits w128 c.weighted-2.result = search rules in
    widest _ c.args.s.now.y _ c.args.s.now.area c.args.s.now.ymin c.args.s.now.ymax
    (mean-read _ _ c.args.s.now.y c.args.flux c.args.s.now.area c.args.s.now.ymin c.args.s.now.ymax c.requires.along
    (weighted-read c.weighted-2.result c.args.s.now.ry c.args.base c.args.s.now.y got
    (moment_fits_along c.args.base c.args.s.now c.requires.base_up_to c.requires.sizes) c.ranges.base c.weighted-2.ensures) c.ranges.flux)

pub returns : goal.returns
unfolding measured_row
returns c =
    let peak : SFits w64 c.args.s.now.peak = search rules in
    let weighed : SFits w128 c.weighted.result = search rules in
    let weighed_along : SFits w128 c.weighted-2.result = search rules in
    let across : SFits w64 c.centre.result = search rules in
    let along : SFits w64 c.centre-2.result = search rules in
    let spread : SFits w64 c.spread.result = search rules in
    let spread_along : SFits w64 c.spread-2.result = search rules in
    let both : SFits w64 c.spread-3.result = search rules in
    same_row _ _
    (to_z_pos w64 c.args.number (omega (arith, c.requires.few)))
    (to_z-of_z w64 c.args.level c.ranges.level)
    (to_z-of_z w64 c.args.base c.ranges.base)
    (to_z_pos w64 c.args.s.now.area (omega (arith, c.requires.sizes.area)))
    (to_z-of_z w64 c.args.flux c.ranges.flux)
    (to_z-of_z w64 c.args.s.now.peak peak)
    (to_z_pos w64 c.args.s.now.xmin (omega (arith, c.requires.across.ordered, c.requires.across.high_small)))
    (to_z_pos w64 c.args.s.now.xmax (omega (arith, c.requires.across.high_small)))
    (to_z_pos w64 c.args.s.now.ymin (omega (arith, c.requires.along.ordered, c.requires.along.high_small)))
    (to_z_pos w64 c.args.s.now.ymax (omega (arith, c.requires.along.high_small)))
    (to_z_pos w64 (c.args.s.now.first % c.args.width + 1)
    (omega (arith, mod_below c.args.s.now.first c.args.width c.requires.some_columns, c.requires.few_columns)))
    (to_z_pos w64 (c.args.s.now.first / c.args.width + 1) (omega (arith, c.requires.few_rows)))
    (centre_is c.centre.result _ _ c.args.s.now.x c.args.flux c.args.s.now.area across c.ranges.flux
    (weighted-read c.weighted.result c.args.s.now.rx c.args.base c.args.s.now.x weighed
    (moment_fits c.args.base c.args.s.now c.requires.base_up_to c.requires.sizes) c.ranges.base c.weighted.ensures) c.centre.ensures)
    (centre_is c.centre-2.result _ _ c.args.s.now.y c.args.flux c.args.s.now.area along c.ranges.flux
    (weighted-read c.weighted-2.result c.args.s.now.ry c.args.base c.args.s.now.y weighed_along
    (moment_fits_along c.args.base c.args.s.now c.requires.base_up_to c.requires.sizes) c.ranges.base c.weighted-2.ensures) c.centre-2.ensures)
    (to_z-of_z w64 c.spread.result spread ∙ c.spread.ensures)
    (to_z-of_z w64 c.spread-2.result spread_along ∙ c.spread-2.ensures)
    (to_z-of_z w64 c.spread-3.result both ∙ c.spread-3.ensures)
