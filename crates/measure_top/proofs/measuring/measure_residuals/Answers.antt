use Rattle.std.proofs.Common.{◌∙◌, ◌*◌, ap, subst, subst₂, sym, refl, rules, to_z, of_z, w64, SFits}
use Rattle.std.proofs.lemmas.Int.{to_z-of_z}
use Rattle.comp_tree.specs.declared.shape.Shape.{Shape}
use Rattle.comp_tree.specs.Raster.{Raster}
use Rattle.measure_top.specs.Cuts.{cut}
use Rattle.measure_top.specs.Picks.{HaveFittingRows, HaveBasesFrom, StandIn, all_cells}
use Rattle.measure_top.proofs.InCut.{sources_stand, plane-cut}
use Rattle.measure_top.proofs.MeasuredSources.{can_be_put, are_sources, cut_tree, cut_tree_shape}
use Rattle.measure_top.proofs.measuring.measure_residuals.Goals as goal

pub cells_in_tree-requires-clause-shape : goal.cells_in_tree-requires-clause-shape
cells_in_tree-requires-clause-shape g c =
    let left : Raster = cut c.args.plane (to_z w64 (of_z w64 c.lowest_base-level.result)) in
    cut_tree_shape c.args.plane left c.args.values.now c.args.order.connect _ c.in_ok-tree.tree refl c.in_ok-tree.ensures
    c.requires.shape

pub cells_in_tree-requires-clause-tree : goal.cells_in_tree-requires-clause-tree
cells_in_tree-requires-clause-tree g c =
    let left : Raster = cut c.args.plane (to_z w64 (of_z w64 c.lowest_base-level.result)) in
    let one = c.shape-shape.ensures.pixels ∙ ap (λ (s : Shape). s.width * s.height) c.shape-shape.ensures.same in
    cut_tree c.args.plane left c.args.order.connect _ c.in_ok-tree.tree one refl c.in_ok-tree.ensures

pub cells_in_tree-requires-clause-there : goal.cells_in_tree-requires-clause-there
cells_in_tree-requires-clause-there g c =
    let left : Raster = cut c.args.plane (to_z w64 (of_z w64 c.lowest_base-level.result)) in
    let one = c.shape-shape.ensures.pixels ∙ ap (λ (s : Shape). s.width * s.height) c.shape-shape.ensures.same in
    let level : SFits w64 c.lowest_base-level.result = search rules in
    let low =
    subst₂ (λ h nodes. HaveBasesFrom h nodes) (sym (to_z-of_z w64 c.lowest_base-level.result level)) c.deref.ensures.value c.lowest_base-level.ensures.bases in
    subst (StandIn c.in_ok-tree.tree) (sym c.deref-2.ensures.value)
    (sources_stand c.args.plane left c.args.order.connect c.args.choice.now _ c.in_ok-tree.tree c.in_ok-picked.picked.nodes.items one
    refl c.in_ok-tree.ensures c.in_ok-picked.ensures.exact.nodes_are low)

pub cells_in_tree-requires-clause-fits : goal.cells_in_tree-requires-clause-fits
cells_in_tree-requires-clause-fits g c = subst HaveFittingRows (sym c.deref-2.ensures.value) c.in_ok-picked.ensures.listed.fits

pub returns-clause-writable : goal.returns-clause-writable
returns-clause-writable g c =
    can_be_put c.args.plane c.shape-shape.result _ c.in_ok-picked.picked.nodes.items _ c.shape-shape.ensures.same c.in_ok-picked.ensures.listed
    c.in_ok-cells.ensures.table

pub returns-clause-bytes : goal.returns-clause-bytes
returns-clause-bytes g c =
    let left : Raster = cut c.args.plane (to_z w64 (of_z w64 c.lowest_base-level.result)) in
    let one = c.shape-shape.ensures.pixels ∙ ap (λ (s : Shape). s.width * s.height) c.shape-shape.ensures.same in
    let level : SFits w64 c.lowest_base-level.result = search rules in
    let low =
    subst₂ (λ h nodes. HaveBasesFrom h nodes) (sym (to_z-of_z w64 c.lowest_base-level.result level)) c.deref.ensures.value c.lowest_base-level.ensures.bases in
    are_sources c.args.plane left c.args.values.now c.args.order.connect c.args.choice.now c.shape-shape.result _ _
    c.in_ok-picked.picked.nodes.items _ one c.shape-shape.ensures.same c.in_ok-picked.ensures.exact refl low
    (c.in_ok-cells.ensures.exact left c.args.order.connect (plane-cut c.args.plane left _ one refl)
    c.in_ok-tree.ensures ∙ ap (all_cells left c.args.values.now c.args.order.connect) c.deref-2.ensures.value)
