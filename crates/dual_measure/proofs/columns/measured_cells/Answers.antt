use Rattle.std.proofs.Common.{◌≡◌, ◌∙◌, [], ◌∷◌, ap, refl, arith, rules}
use Rattle.std.specs.Prelude.{ℤ, pos}
use Rattle.std.proofs.lemmas.Int.{to_z-of_z, to_z_pos}
use mir.Syntax.{w64}
use mir.Val.{SFits}
use Rattle.source_pick.specs.Catalogue.{cells_of}
use Rattle.dual_measure.specs.Measures.{floor_mean, mean_of}
use Rattle.dual_measure.specs.Columns.{measured_cells_of}
use Rattle.dual_measure.proofs.Backs.{same_seven}
use Rattle.dual_measure.proofs.columns.measured_cells.Goals as goal

pub returns : goal.returns
returns c =
    let first : c.copy_from_slice.new.self ≡ cells_of c.args.row.now = c.copy_from_slice.ensures.after ∙ c.cells.ensures in
    let v : SFits w64 c.args.measure.now.v = search rules in
    let low : SFits w64 c.args.measure.now.low = search rules in
    let peak : SFits w64 c.args.measure.now.peak = search rules in
    let mean : SFits w64 c.mean.result = search rules in
    let last : c.copy_from_slice-2.new.self ≡ pos c.args.measure.now.seen ∷ pos
    c.args.measure.now.missing ∷ c.args.measure.now.v ∷ c.args.measure.now.low ∷ c.args.measure.now.peak ∷ mean_of c.args.measure.now ∷ c.args.back ∷ [] =
    c.copy_from_slice-2.ensures.after
    ∙ same_seven _ _ _ _ _ _ _ _ _ _ _ _ _ _
    (to_z_pos w64 c.args.measure.now.seen (omega arith))
    (to_z_pos w64 c.args.measure.now.missing (omega arith))
    (to_z-of_z w64 c.args.measure.now.v v)
    (to_z-of_z w64 c.args.measure.now.low low)
    (to_z-of_z w64 c.args.measure.now.peak peak)
    (to_z-of_z w64 c.mean.result mean ∙ c.mean.ensures ∙ ap (λ (z : ℤ). floor_mean z c.args.measure.now.seen) (to_z-of_z w64 c.args.measure.now.v v))
    (to_z-of_z w64 c.args.back c.ranges.back) in
    rw (first, last) (refl {a = measured_cells_of c.args.row.now c.args.measure.now c.args.back})
