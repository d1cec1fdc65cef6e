use Rattle.std.proofs.Common.{◌≡◌, ◌≤◌, ◌*◌, ℕ, List, length, ap, sym, subst, ◌∙◌, arith}
use Rattle.std.specs.Prelude.{count_by, sum_by}
use Rattle.comp_tree.specs.declared.shape.Shape.{Shape}
use Rattle.comp_tree.specs.Raster.{IsPlane}
use Rattle.comp_tree.specs.ComponentTree.{ComponentTree}
use Rattle.node_sums.specs.declared.outline.Outline.{Outline}
use Rattle.node_sums.specs.Outlines.{AreOutlinesOfTree}
use Rattle.node_sums.proofs.Exported.{outlines_rows}
use Rattle.source_pick.specs.Segmentation.{segmentation_of, segmentation}
use Rattle.source_pick.proofs.Exported.{few_marked, few_rows, numbers-length}
use Rattle.tree_products.specs.Trials.{is_root_row, is_mapped, total_area, summary_of}
use Rattle.tree_products.specs.TrialSizes.{HasSmallFluxes}
use Rattle.tree_products.proofs.Trials.{small_fluxes, areas_of_outlines}
use Rattle.tree_products.proofs.trial.summary_in.Goals as goal

pub sum_areas-requires : goal.sum_areas-requires
sum_areas-requires g c =
    let rows : length c.in_ok-outlines.outlines.items ≡ length c.args.tree.now.rows =
    outlines_rows c.args.tree.now c.in_ok-outlines.outlines.items c.in_ok-outlines.ensures.of_tree in
    omega (arith, rows, ap length c.deref-3.ensures.value, c.node_count.ensures.all, c.node_count.ensures.few)

pub sum_fluxes-requires-clause-small : goal.sum_fluxes-requires-clause-small
sum_fluxes-requires-clause-small g c =
    let plane : IsPlane c.args.plane.now = c.shape-shape.ensures.pixels ∙ ap (λ (s : Shape). s.width * s.height) c.shape-shape.ensures.same in
    subst (λ (xs : List Outline). HasSmallFluxes c.args.tree.now xs) (sym c.deref-4.ensures.value)
    (small_fluxes c.args.plane.now c.args.tree.now c.in_ok-outlines.outlines.items plane c.requires.small c.in_ok-outlines.ensures.of_plane)

pub pick_by_outlines-requires-clause-outlines : goal.pick_by_outlines-requires-clause-outlines
pick_by_outlines-requires-clause-outlines g c =
    subst (λ (xs : List Outline). AreOutlinesOfTree c.args.tree.now xs) (sym c.deref.ensures.value) c.in_ok-outlines.ensures.of_tree

pub pick_by_outlines-requires-clause-of_plane : goal.pick_by_outlines-requires-clause-of_plane
pick_by_outlines-requires-clause-of_plane g c = λ connect is. c.deref.ensures.value ∙ c.in_ok-outlines.ensures.exact connect is

pub overflow_cast-result : goal.overflow_cast-result
overflow_cast-result g c =
    let d = c.in_ok-sources.ensures.disjoint in
    let few : length c.in_ok-sources.field-0.nodes.items ≤ length c.args.tree.now.rows = few_marked c.args.tree.now c.in_ok-sources.field-0.nodes.items d in
    let rows : length c.args.tree.now.rows ≤ 2147483647 = few_rows c.args.tree.now c.in_ok-sources.field-0.nodes.items d in
    record { fits = omega (arith, few, rows, c.len.ensures, c.deref-2.ensures.len, ap length c.deref-2.ensures.value) }

pub count_mapped-requires : goal.count_mapped-requires
count_mapped-requires g c =
    let long = numbers-length c.args.plane.now c.requires.of_plane.0 c.args.tree.now c.requires.of_plane.1 in
    let few = c.shape-shape.result.within_limits.few_pixels in
    omega (arith, long, few, c.shape-shape.ensures.pixels, c.in_ok-numbers.ensures.one_each, ap length c.deref-5.ensures.value)

pub returns : goal.returns
unfolding summary_of total_area segmentation
returns g c = λ connect is.
    let plane = c.args.plane.now in
    let outlines_are = c.in_ok-outlines.ensures.exact connect is in
    let picked_are = (c.in_ok-sources.ensures.exact connect is).nodes_are in
    let numbers_are = c.in_ok-numbers.ensures.exact plane connect is ∙ ap (segmentation_of plane connect) (c.deref-2.ensures.value ∙ picked_are) in
    let pixels : c.pixels.result ≡ length plane.values = c.pixels.ensures.product ∙ sym c.shape-shape.ensures.pixels in
    let nodes = c.node_count.ensures.all ∙ ap (λ (t : ComponentTree). length t.rows) is in
    let roots = c.count_roots.ensures ∙ ap (count_by is_root_row) (c.rows.ensures ∙ ap (λ (t : ComponentTree). t.rows) is) in
    let areas = c.sum_areas.ensures ∙ ap (sum_by (λ (o : Outline). o.area)) (c.deref-3.ensures.value ∙ outlines_are) ∙ areas_of_outlines plane connect in
    let fluxes = c.sum_fluxes.ensures plane connect is (c.deref-4.ensures.value ∙ outlines_are) in
    let found = c.len.ensures ∙ sym c.deref-2.ensures.len ∙ ap (λ (l : List ℕ). length l) (c.deref-2.ensures.value ∙ picked_are) in
    let mapped = c.count_mapped.ensures ∙ ap (count_by is_mapped) (c.deref-5.ensures.value ∙ numbers_are) in
    λ i. record {
      pixels = pixels i;
      nodes = nodes i;
      roots = roots i;
      areas = areas i;
      fluxes = fluxes i;
      sources = found i;
      mapped = mapped i;
    }
