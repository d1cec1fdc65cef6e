-- What is known of the outlines and the rows of a tree.
use Rattle.std.proofs.Common.{◌≡◌, ℕ, ◌<◌, ◌≤◌, Bool, true, false, List, [], ◌∷◌, length, refl, sym, ◌∙◌, ap, subst, arith, get_or}
use Rattle.std.specs.Prelude.{filter, ℤ, ◌≤ℤ◌, ◌<ℤ◌}
use Rattle.std.proofs.lemmas.Int.{ints}
use Rattle.std.proofs.lemmas.List.{get_or-map}
use Rattle.std.proofs.lemmas.List.FromFn.{get_or-map-range_with_len}
use Rattle.lemmas.proofs.Exported.{IsAmong, int_lt-true}
use Rattle.comp_tree.specs.declared.shape.Connect.{Connect}
use Rattle.comp_tree.specs.Limits.{IsWithin, IsWithinRange, value_bound}
use Rattle.comp_tree.specs.declared.tree.NodeRow.{NodeRow}
use Rattle.comp_tree.specs.Raster.{Raster, IsPlane, HasValuesInRange, level}
use Rattle.comp_tree.specs.ComponentTree.{ComponentTree, parent_in}
use Rattle.comp_tree.specs.Components.{nodes, tree_of}
use Rattle.comp_tree.specs.Laws.{top_of}
use Rattle.comp_tree.proofs.Exported.{below_from_defined, in_node-defined, in_node_from_among, length-rows, parent-of_node, parent-candidate}
use Rattle.comp_tree.proofs.Exported.{among_pixels, top_inside}
use Rattle.node_sums.specs.declared.entry.Sums.{Sums}
use Rattle.node_sums.specs.declared.outline.Outline.{Outline}
use Rattle.node_sums.specs.Outlines.{outline_of, outlines_in, AreOutlinesOfTree}
use Rattle.node_sums.specs.Sums.{sums_of, sums_in, sums_over, x_of, y_of}
use Rattle.comp_tree.specs.Nesting.{pixels_of, level_in}
use Rattle.node_sums.proofs.Exported.{few-pixels_of, goes_down, length-sums_in, level-of_node, level_up_to, level_within, x_small, y_small}
use Rattle.node_sums.proofs.Exported.{least_at_most, greatest_at_least, greatest_up_to}
use Rattle.node_sums.specs.Flux.{flux_of}
use Rattle.node_sums.specs.Sizes.{IsUpTo, level_bound}
use Rattle.filter_rules.specs.declared.rule.Criterion.{Criterion}
use Rattle.filter_rules.specs.Criteria.{admits, satisfies}
use Rattle.filter_rules.specs.Passes.{HasRisingLevels, HasBox}

pub length_grows : (f g : ℕ → Bool) (ps : List ℕ) → ((p : ℕ) → f p ≡ true → g p ≡ true) → length (filter f ps) ≤ length (filter g ps)
length_grows f g [] h = omega arith
length_grows f g (p ∷ ps) h = go (f p) (g p) refl refl (length_grows f g ps h)
  where
    go : (s t : Bool) → f p ≡ s → g p ≡ t → length (filter f ps) ≤ length (filter g ps) → length (filter f (p ∷ ps)) ≤ length (filter g (p ∷ ps))
    go true t u v ih = rw (u, h p u) (omega arith)
    go false true u v ih = rw (u, v) (omega arith)
    go false false u v ih = rw (u, v) ih

pub has_box : (r : Raster) (connect : Connect) (n : ℕ) → IsPlane r → n < length (nodes r connect) → HasBox (outline_of (sums_of r connect n))
unfolding sums_of sums_over
has_box r connect n plane hn = record {
  area = few-pixels_of r connect n plane;
  columns = omega (
    arith,
    least_at_most (x_of r) (pixels_of r connect n) (top_of r connect n) there,
    greatest_at_least (x_of r) (pixels_of r connect n)
        (top_of r connect n) there,
  );
  few_columns = greatest_up_to (x_of r) 65535 (pixels_of r connect n) (λ p m. x_small r p);
  rows = omega (
    arith,
    least_at_most (y_of r) (pixels_of r connect n) (top_of r connect n) there,
    greatest_at_least (y_of r) (pixels_of r connect n)
        (top_of r connect n) there,
  );
  few_rows = greatest_up_to (y_of r) 65535 (pixels_of r connect n) (λ p m. y_small r p plane (below_from_defined r p (in_node-defined r connect n p (in_node_from_among r connect n p m))));
}
  where
    there : IsAmong (top_of r connect n) (pixels_of r connect n)
    there = among_pixels r connect n (top_of r connect n) (top_inside r connect n hn)

-- ---- the outlines of some plane's tree

outline_is : (r : Raster) (connect : Connect) (outlines : List Outline) (n : ℕ) (d : Outline) → outlines ≡ outlines_in r connect → n < length (nodes r connect)
    → get_or outlines n d ≡ outline_of (sums_of r connect n)
unfolding sums_in
outline_is r connect outlines n d e h =
    ap (λ (xs : List Outline). get_or xs n d) e
    ∙ get_or-map outline_of (sums_in r connect) n (sums_of r connect n) d (omega (arith, length-sums_in r connect))
    ∙ ap outline_of (get_or-map-range_with_len (sums_of r connect) 0 (length (nodes r connect)) n n (sums_of r connect n) h (omega arith))

rows_of : (tree : ComponentTree) (outlines : List Outline) → (t : AreOutlinesOfTree tree outlines)
    → length tree.rows ≡ length (nodes t.plane t.of_plane.connect)
rows_of tree outlines t = ap (λ (x : ComponentTree). length x.rows) t.of_plane.tree_is ∙ length-rows t.plane t.of_plane.connect

pub trees_box : (tree : ComponentTree) (outlines : List Outline) (n : ℕ) (d : Outline) → AreOutlinesOfTree tree outlines → n < length tree.rows
    → HasBox (get_or outlines n d)
trees_box tree outlines n d t h =
    let hn : n < length (nodes t.plane t.of_plane.connect) = omega (arith, rows_of tree outlines t) in
    subst HasBox (sym (outline_is t.plane t.of_plane.connect outlines n d t.of_plane.outlines_are hn)) (has_box t.plane t.of_plane.connect n t.one_each hn)

-- what is asked of the outline is asked of the node
pub admitted : (r : Raster) (connect : Connect) (tree : ComponentTree) (outlines : List Outline) (criterion : Criterion) (n : ℕ) (d : Outline) (flux : ℤ)
    (answer : Bool)
    → tree ≡ tree_of r connect → outlines ≡ outlines_in r connect → n < length tree.rows → flux ≡ flux_of r connect n
    → ((s : Sums) → get_or outlines n d ≡ outline_of s → answer ≡ admits criterion s flux)
    → answer ≡ satisfies r connect criterion n
unfolding satisfies
admitted r connect tree outlines criterion n d flux answer e f h g asked =
    asked (sums_of r connect n)
    (outline_is r connect outlines n d f (omega (arith, ap (λ (x : ComponentTree). length x.rows) e, length-rows r connect)))
    ∙ ap (λ (z : ℤ). admits criterion (sums_of r connect n) z) g

-- the rows of the tree rise
pub trees_rise : (tree : ComponentTree) (outlines : List Outline) → AreOutlinesOfTree tree outlines → HasRisingLevels tree.rows
trees_rise tree outlines t =
    subst (λ (x : ComponentTree). HasRisingLevels x.rows) (sym t.of_plane.tree_is) (rise t.plane t.of_plane.connect t.one_each t.in_range)
  where
    rise : (r : Raster) (connect : Connect) → IsPlane r → HasValuesInRange r.values → HasRisingLevels (tree_of r connect).rows
    rise r connect plane range = record {
      few = (goes_down r connect plane).few;
      parents = (goes_down r connect plane).parents;
      levels = λ n h. let hn : n < length (nodes r connect) = omega (arith, length-rows r connect) in
          subst IsWithinRange (sym (level-of_node r connect n hn)) (in_range (top_of r connect n));
      rising = λ n h k. rising n (omega (arith, length-rows r connect)) (omega (arith, length-rows r connect));
    }
      where
        in_range : (p : ℕ) → IsWithinRange (level r p)
        in_range p = let u : IsUpTo level_bound (level r p) = level_up_to r p range in record { low = u.low; high = u.high }

        rising : (n : ℕ) → n < length (nodes r connect) → parent_in (tree_of r connect).rows n < length (nodes r connect)
            → level_in (tree_of r connect).rows (parent_in (tree_of r connect).rows n) ≤ℤ level_in (tree_of r connect).rows n
        rising n hn hp =
            let low : level r (top_of r connect (parent_in (tree_of r connect).rows n)) <ℤ level r (top_of r connect n) =
            int_lt-true (level r (top_of r connect (parent_in (tree_of r connect).rows n))) (level r (top_of r connect n))
            (parent-candidate r connect (parent_in (tree_of r connect).rows n) n plane hn hp (sym (parent-of_node r connect n hn))).candidate.lower in
            let a : level_in (tree_of r connect).rows n ≡ level r (top_of r connect n) = level-of_node r connect n hn in
            let b : level_in (tree_of r connect).rows (parent_in (tree_of r connect).rows n) ≡ level r
            (top_of r connect (parent_in (tree_of r connect).rows n)) =
            level-of_node r connect (parent_in (tree_of r connect).rows n) hp in
            omega (arith, ints)

-- the levels of a tree's rows are within the bound of the plane's values
pub levels_within : (r : Raster) (connect : Connect) (rows : List NodeRow) → rows ≡ (tree_of r connect).rows → HasValuesInRange r.values
    → (n : ℕ) → n < length rows → IsWithin (value_bound (length r.values)) (level_in rows n)
levels_within r connect rows same range n h =
    let hn : n < length (nodes r connect) = omega (arith, length-rows r connect, ap length same, h) in
    let u : IsUpTo (value_bound (length r.values)) (level r (top_of r connect n)) = level_within r (top_of r connect n) range in
    subst (IsWithin (value_bound (length r.values))) (sym (ap (λ (xs : List NodeRow). level_in xs n) same ∙ level-of_node r connect n hn))
    (record { low = u.low; high = u.high })
