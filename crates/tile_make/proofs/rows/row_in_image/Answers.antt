use Rattle.std.proofs.Common.{◌≡◌, ◌<◌, sym, ◌∙◌, ap, subst, arith, length}
use Rattle.std.specs.Prelude.{FitsSigned}
use Rattle.std.specs.Int.{w64}
use Rattle.std.specs.List.{AllByRecursion}
use Rattle.comp_tree.specs.ComponentTree.{ComponentTree}
use Rattle.comp_tree.specs.Components.{nodes}
use Rattle.comp_tree.proofs.Exported.{length-rows, shape-of}
use Rattle.source_pick.specs.declared.catalogue.CatRow.{CatRow}
use Rattle.source_pick.specs.Catalogue.{catalogue_row, cells_of, moved_row}
use Rattle.source_pick.proofs.Exported.{catalogue_row_fits}
use Rattle.tile_join.specs.Tiles.{IsWritableRow}
use Rattle.tile_make.specs.Placed.{window_of_place}
use Rattle.tile_make.specs.Told.{FirstStandsIn}
use Rattle.tile_make.proofs.Moving.{first_stands, moved_fits, moved_whole}
use Rattle.tile_make.proofs.rows.row_in_image.Goals as goal

pub returns-clause-stands : goal.returns-clause-stands
returns-clause-stands c =
    let t = c.requires.sums in
    let tree = c.args.tree.now in
    let connect = t.connect in
    let w = window_of_place c.args.place.now tree.shape in
    let node : c.args.node < length (nodes t.plane connect) =
    omega (arith, c.requires.node, ap (λ (x : ComponentTree). length x.rows) t.tree_is, length-rows t.plane connect) in
    let shape : t.plane.shape ≡ tree.shape = sym (ap (λ (x : ComponentTree). x.shape) t.tree_is ∙ shape-of t.plane connect) in
    let same : c.in_image.result ≡ moved_row w (catalogue_row t.plane connect c.args.number c.args.node) =
    c.in_image.ensures tree.shape ∙ ap (moved_row w) (c.row.ensures.exact t.plane connect t.tree_is t.sums_are) in
    subst (FirstStandsIn c.args.place.now.whole) (sym same)
    (first_stands t.plane connect c.args.number c.args.node c.args.place.now.whole w t.one_each node shape c.requires.inside)

pub returns-clause-fits : goal.returns-clause-fits
returns-clause-fits c =
    let t = c.requires.sums in
    let tree = c.args.tree.now in
    let connect = t.connect in
    let w = window_of_place c.args.place.now tree.shape in
    let node : c.args.node < length (nodes t.plane connect) =
    omega (arith, c.requires.node, ap (λ (x : ComponentTree). length x.rows) t.tree_is, length-rows t.plane connect) in
    let shape : t.plane.shape ≡ tree.shape = sym (ap (λ (x : ComponentTree). x.shape) t.tree_is ∙ shape-of t.plane connect) in
    let row_is = c.row.ensures.exact t.plane connect t.tree_is t.sums_are in
    let stands : FirstStandsIn c.args.place.now.whole (moved_row w c.row.result) =
    subst (λ (x : CatRow). FirstStandsIn c.args.place.now.whole (moved_row w x)) (sym row_is)
    (first_stands t.plane connect c.args.number c.args.node c.args.place.now.whole w t.one_each node shape c.requires.inside) in
    let columns =
    moved_fits t.plane connect c.args.number c.args.node c.args.place.now.whole w c.row.result t.one_each node shape c.requires.inside row_is
    c.row.ensures.columns c.row.ensures.centred stands in
    let whole =
    subst (λ (x : CatRow). AllByRecursion (FitsSigned w64) (cells_of x)) (sym row_is)
    (catalogue_row_fits t.plane connect c.args.node c.args.number t.one_each t.in_range node c.requires.few).1 in
    subst IsWritableRow (sym (c.in_image.ensures tree.shape)) (record { columns = columns; whole = moved_whole w c.row.result whole columns })
