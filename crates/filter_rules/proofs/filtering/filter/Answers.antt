use Rattle.std.proofs.Common.{◌≡◌, ℕ, ◌*◌, ◌<◌, ◌∙◌, sym, ap, subst, length, map, Bool, List, ℤ, ◌⊎◌}
use Rattle.std.specs.Prelude.{slice_index}
use Rattle.comp_tree.specs.declared.shape.Shape.{Shape}
use Rattle.comp_tree.specs.declared.tree.NodeRow.{NodeRow}
use Rattle.comp_tree.specs.Raster.{Raster, IsPlane, HasValuesInRange}
use Rattle.comp_tree.specs.ComponentTree.{ComponentTree, no_node}
use Rattle.node_sums.specs.declared.outline.Outline.{Outline}
use Rattle.node_sums.specs.Outlines.{AreOutlinesOfPlane, AreOutlinesOfTree}
use Rattle.node_sums.proofs.Exported.{numbers_for_pixels}
use Rattle.filter_rules.specs.Passes.{HasRisingLevels, AreValues, flag, filled_pixel, value_in}
use Rattle.filter_rules.proofs.Boxes.{trees_rise, levels_within}
use Rattle.filter_rules.proofs.Filling.{values_within}
use Rattle.comp_tree.specs.Limits.{IsWithin, value_bound}
use Rattle.filter_rules.proofs.Whole.{both_ok, made_is_filtered, numbers_fit}
use Rattle.filter_rules.proofs.filtering.filter.Goals as goal

of_tree : (plane : Raster) (tree : ComponentTree) (outlines : List Outline) (shape : Shape) → length plane.values ≡ shape.width * shape.height
    → shape ≡ plane.shape
    → HasValuesInRange plane.values → AreOutlinesOfPlane plane tree outlines → AreOutlinesOfTree tree outlines
of_tree plane tree outlines shape pixels same in_range of_plane = record {
  plane = plane;
  one_each = pixels ∙ ap (λ (s : Shape). s.width * s.height) same;
  in_range = in_range;
  of_plane = of_plane;
}

pub kept_nodes-requires-clause-outlines : goal.kept_nodes-requires-clause-outlines
kept_nodes-requires-clause-outlines c =
    subst (λ (outlines : List Outline). AreOutlinesOfTree c.args.tree.now outlines) (sym c.deref.ensures.value)
    (of_tree c.args.plane.now _ _ c.shape-shape.result c.shape-shape.ensures.pixels c.shape-shape.ensures.same c.shape-shape.ensures.in_range
    c.requires.of_plane)

pub node_values-requires-clause-rows : goal.node_values-requires-clause-rows
node_values-requires-clause-rows c =
    let trees =
    of_tree c.args.plane.now _ _ c.shape-shape.result c.shape-shape.ensures.pixels c.shape-shape.ensures.same c.shape-shape.ensures.in_range
    c.requires.of_plane in
    subst (λ (rows : List NodeRow). HasRisingLevels rows) (sym c.rows.ensures) (trees_rise c.args.tree.now c.args.outlines.items trees)

pub fill-requires-clause-pixels : goal.fill-requires-clause-pixels
fill-requires-clause-pixels c =
    ap length c.node_of.ensures.same ∙ numbers_for_pixels c.args.plane.now c.args.tree.now (c.requires.of_plane.connect, c.requires.of_plane.tree_is)
    ∙ c.shape-shape.ensures.pixels

pub fill-requires-clause-nodes : goal.fill-requires-clause-nodes
fill-requires-clause-nodes c =
    let plane : IsPlane c.args.plane.now = c.shape-shape.ensures.pixels ∙ ap (λ (s : Shape). s.width * s.height) c.shape-shape.ensures.same in
    let count : length c.deref-3.result.now ≡ length c.args.tree.now.rows =
    ap length c.deref-3.ensures.value ∙ c.in_ok-values.ensures.one_each ∙ ap length c.rows.ensures in
    subst (λ (numbers : List ℕ). (p : ℕ) → p < length numbers → (slice_index numbers p ≡ no_node) ⊎ (slice_index numbers p < length c.deref-3.result.now))
    (sym c.node_of.ensures.same)
    (subst (λ (k : ℕ). (p : ℕ) → p < length c.args.tree.now.node_of → (slice_index c.args.tree.now.node_of p ≡ no_node) ⊎ (slice_index c.args.tree.now.node_of
    p < k)) (sym count)
    (numbers_fit c.args.plane.now c.requires.of_plane.connect c.args.tree.now plane c.requires.of_plane.tree_is))

pub fill-requires-clause-values : goal.fill-requires-clause-values
fill-requires-clause-values c =
    let trees =
    of_tree c.args.plane.now _ _ c.shape-shape.result c.shape-shape.ensures.pixels c.shape-shape.ensures.same c.shape-shape.ensures.in_range
    c.requires.of_plane in
    let count : length c.deref-3.result.now ≡ length c.args.tree.now.rows =
    ap length c.deref-3.ensures.value ∙ c.in_ok-values.ensures.one_each ∙ ap length c.rows.ensures in
    subst (λ (k : ℕ). (n : ℕ) → n < length c.deref-3.result.now → IsWithin (value_bound k) (value_in c.deref-3.result.now n)) c.shape-shape.ensures.pixels
    (values_within c.args.tree.now.rows c.args.rule c.deref-2.result.now c.deref-3.result.now (value_bound (length c.args.plane.now.values))
    (trees_rise c.args.tree.now c.args.outlines.items trees) count
    (subst (λ (values : List ℤ). AreValues c.args.tree.now.rows c.args.rule c.deref-2.result.now values) (sym c.deref-3.ensures.value)
    (subst (λ (rows : List NodeRow). AreValues rows c.args.rule c.deref-2.result.now c.in_ok-values.values.items) c.rows.ensures
    c.in_ok-values.ensures.values))
    (levels_within c.args.plane.now c.requires.of_plane.connect c.args.tree.now.rows (ap (λ (t : ComponentTree). t.rows) c.requires.of_plane.tree_is)
    c.shape-shape.ensures.in_range))

pub returns : goal.returns
returns c =
    let plane : IsPlane c.args.plane.now = c.shape-shape.ensures.pixels ∙ ap (λ (s : Shape). s.width * s.height) c.shape-shape.ensures.same in
    both_ok c.fill.result (λ left. left.shape ≡ c.shape-shape.result) (λ left. left.values ≡ map (filled_pixel c.deref-3.result.now) c.node_of.result.now) _
    c.fill.ensures.shape c.fill.ensures.values (λ left s v connect e f.
    made_is_filtered c.args.plane.now left connect c.args.tree.now c.args.rule c.args.criterion.now c.deref-2.result.now c.deref-3.result.now plane (record {
      tree_is = e;
      flags = λ n h. ap (λ (flags : List Bool). flag flags n) c.deref-2.ensures.value
          ∙ c.in_ok-kept.ensures.kept c.args.plane.now connect e (c.deref.ensures.value ∙ f) plane n h;
      one_each = ap length c.deref-3.ensures.value ∙ c.in_ok-values.ensures.one_each ∙ ap length c.rows.ensures;
      made = subst (λ (values : List ℤ). AreValues c.args.tree.now.rows c.args.rule c.deref-2.result.now values) (sym c.deref-3.ensures.value)
          (subst (λ (rows : List NodeRow). AreValues rows c.args.rule c.deref-2.result.now c.in_ok-values.values.items) c.rows.ensures
          c.in_ok-values.ensures.values);
      same_shape = s ∙ c.shape-shape.ensures.same;
      filled = v ∙ ap (map (filled_pixel c.deref-3.result.now)) c.node_of.ensures.same;
    }))
