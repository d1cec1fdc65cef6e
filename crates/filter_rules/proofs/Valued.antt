-- The values that the nodes hand down are what the pixels of each node get.
use Rattle.std.proofs.Common.{◌≡◌, ℕ, ◌<◌, zero, suc, Bool, true, false, ◌&&◌, ◌||◌, cond, List, length, refl, sym, ◌∙◌, ap, arith, ◌⊎◌, inl, inr}
use Rattle.std.specs.Prelude.{IsTrue, ℤ, pos, ◌+ℤ◌, ◌-ℤ◌, Some, Option}
use Rattle.std.specs.List.{list_all}
use Rattle.std.specs.Option.{option_map_or}
use Rattle.std.proofs.lemmas.Bool.{or_left, eq-eqb, ne_eqb}
use Rattle.lemmas.proofs.Exported.{IsAmong, among-filter, among-range, find_some}
use Rattle.comp_tree.specs.declared.shape.Connect.{Connect}
use Rattle.comp_tree.specs.Raster.{Raster, IsPlane, is_defined}
use Rattle.comp_tree.specs.ComponentTree.{parent_in, no_node}
use Rattle.comp_tree.specs.Components.{nodes, node_of, is_in_node, tree_of}
use Rattle.comp_tree.specs.Laws.{top_of}
use Rattle.comp_tree.proofs.Exported.{top-defined, length-rows, below_no_node, all_gives, within_from_test}
use Rattle.comp_tree.proofs.Exported as Nodes
use Rattle.node_sums.specs.Sums.{total}
use Rattle.comp_tree.specs.Nesting.{level_in, is_root, node_numbers, lies_within}
use Rattle.node_sums.proofs.Exported.{goes_down}
use Rattle.filter_rules.specs.declared.rule.Rule.{Rule}
use Rattle.filter_rules.specs.declared.rule.Rule.TheVariants.{Min, Max, Direct, Subtractive}
use Rattle.filter_rules.specs.declared.rule.Criterion.{Criterion}
use Rattle.filter_rules.specs.Filtered.{satisfies_rule, is_kept, holders, smallest, level_of_smallest, rise_in, value_from, filtered_value}
use Rattle.filter_rules.specs.Laws.{IsSmallestHolder, EachPixelHasASmallestHolder}
use Rattle.filter_rules.specs.Passes.{flag, value_in, value_of_kept, value_of_node, AreValues}
use Rattle.comp_tree.proofs.Exported.{node_of_top}
use Rattle.filter_rules.proofs.Holding.{IsChild, holders_of_dropped, smallest_of_kept, rises_of_root, rises_of_kept, same_value, same_holders, IsHolder}
use Rattle.filter_rules.proofs.Holding.{holder_is}

module _ (r : Raster) (connect : Connect) (plane : IsPlane r) where
  -- a node is a root, or a child
  pub data NodeCase (n : ℕ) : Type 0 where
    at_root : parent_in (tree_of r connect).rows n ≡ no_node → NodeCase n
    at_child : (parent_in (tree_of r connect).rows n ≡ no_node → ⊥) → parent_in (tree_of r connect).rows n < n
        → IsChild r connect n (parent_in (tree_of r connect).rows n) → NodeCase n

  pub node_case : (n : ℕ) → n < length (nodes r connect) → NodeCase n
  node_case n hn = go ((goes_down r connect plane).parents n (omega (arith, length-rows r connect)))
    where
      go : (parent_in (tree_of r connect).rows n ≡ no_node) ⊎ (parent_in (tree_of r connect).rows n < n) → NodeCase n
      go (inl e) = at_root e
      go (inr l) =
          let hp : parent_in (tree_of r connect).rows n < length (nodes r connect) = omega arith in
          at_child (below_no_node r connect (parent_in (tree_of r connect).rows n) plane hp) l (record { node = hn; parent_is = refl; parent_listed = hp })

  module _ (rule : Rule) (criterion : Criterion) where
    pub kept_root : (n : ℕ) → parent_in (tree_of r connect).rows n ≡ no_node → is_kept r connect rule criterion n ≡ true
    unfolding is_kept
    kept_root n e =
        or_left (is_root (tree_of r connect) n) (satisfies_rule r connect rule criterion n) (eq-eqb (parent_in (tree_of r connect).rows n) no_node e)

    pub kept_child : (n : ℕ) → (parent_in (tree_of r connect).rows n ≡ no_node → ⊥)
        → is_kept r connect rule criterion n ≡ satisfies_rule r connect rule criterion n
    unfolding is_kept
    kept_child n e = ap (λ (b : Bool). b || satisfies_rule r connect rule criterion n) (ne_eqb (parent_in (tree_of r connect).rows n) no_node e)

    -- a kept node gives its level where the rule takes the smallest
    level_given : (n : ℕ) → n < length (nodes r connect) → is_kept r connect rule criterion n ≡ true
        → level_of_smallest r connect (holders r connect rule criterion (top_of r connect n)) ≡ level_in (tree_of r connect).rows n
    level_given n hn k =
        ap (λ (o : Option ℕ). option_map_or (level_in (tree_of r connect).rows) o (pos 0)) (smallest_of_kept r connect plane rule criterion n hn k)

  rise_root : (n : ℕ) → parent_in (tree_of r connect).rows n ≡ no_node → rise_in (tree_of r connect) n ≡ level_in (tree_of r connect).rows n
  unfolding rise_in
  rise_root n e =
      ap (λ (b : Bool). cond b (level_in (tree_of r connect).rows n)
      (level_in (tree_of r connect).rows n -ℤ level_in (tree_of r connect).rows (parent_in (tree_of r connect).rows n)))
      (eq-eqb (parent_in (tree_of r connect).rows n) no_node e)

  rise_child : (n : ℕ) → (parent_in (tree_of r connect).rows n ≡ no_node → ⊥)
      → rise_in (tree_of r connect) n ≡ level_in (tree_of r connect).rows n -ℤ level_in (tree_of r connect).rows (parent_in (tree_of r connect).rows n)
  unfolding rise_in
  rise_child n e =
      ap (λ (b : Bool). cond b (level_in (tree_of r connect).rows n)
      (level_in (tree_of r connect).rows n -ℤ level_in (tree_of r connect).rows (parent_in (tree_of r connect).rows n)))
      (ne_eqb (parent_in (tree_of r connect).rows n) no_node e)

  root_value : (rule : Rule) (criterion : Criterion) (n : ℕ) → n < length (nodes r connect) → parent_in (tree_of r connect).rows n ≡ no_node
      → filtered_value r connect rule criterion (top_of r connect n) ≡ level_in (tree_of r connect).rows n
  unfolding filtered_value value_from
  root_value Min criterion n hn e = level_given Min criterion n hn (kept_root Min criterion n e)
  root_value Max criterion n hn e = level_given Max criterion n hn (kept_root Max criterion n e)
  root_value Direct criterion n hn e = level_given Direct criterion n hn (kept_root Direct criterion n e)
  root_value Subtractive criterion n hn e =
      rises_of_root r connect plane Subtractive criterion n hn e (kept_root Subtractive criterion n e) (rise_in (tree_of r connect)) ∙ rise_root n e

  kept_value : (rule : Rule) (criterion : Criterion) (n : ℕ) → (parent_in (tree_of r connect).rows n ≡ no_node → ⊥)
      → IsChild r connect n (parent_in (tree_of r connect).rows n)
      → is_kept r connect rule criterion n ≡ true
      → filtered_value r connect rule criterion (top_of r connect n)
      ≡ value_of_kept rule (level_in (tree_of r connect).rows n) (level_in (tree_of r connect).rows (parent_in (tree_of r connect).rows n))
      (filtered_value r connect rule criterion (top_of r connect (parent_in (tree_of r connect).rows n)))
  unfolding filtered_value value_from
  kept_value Min criterion n e c k = level_given Min criterion n c.node k
  kept_value Max criterion n e c k = level_given Max criterion n c.node k
  kept_value Direct criterion n e c k = level_given Direct criterion n c.node k
  kept_value Subtractive criterion n e c k =
      rises_of_kept r connect plane Subtractive criterion n (parent_in (tree_of r connect).rows n) c k (rise_in (tree_of r connect))
      ∙ ap (λ (z : ℤ). total (rise_in (tree_of r connect))
      (holders r connect Subtractive criterion (top_of r connect (parent_in (tree_of r connect).rows n))) +ℤ z) (rise_child n e)

  dropped_value : (rule : Rule) (criterion : Criterion) (n : ℕ) → IsChild r connect n (parent_in (tree_of r connect).rows n)
      → is_kept r connect rule criterion n ≡ false
      → filtered_value r connect rule criterion (top_of r connect n)
      ≡ filtered_value r connect rule criterion (top_of r connect (parent_in (tree_of r connect).rows n))
  unfolding filtered_value
  dropped_value rule criterion n c k =
      ap (value_from r connect rule) (holders_of_dropped r connect plane rule criterion n (parent_in (tree_of r connect).rows n) c k)

  -- ---- the values of all nodes

  module _ (rule : Rule) (criterion : Criterion) (kept : List Bool) (values : List ℤ) (count : length values ≡ length (nodes r connect))
      (flags : (n : ℕ) → n < length (nodes r connect) → flag kept n ≡ satisfies_rule r connect rule criterion n)
      (made : AreValues (tree_of r connect).rows rule kept values) where
    step : (n : ℕ) → n < length (nodes r connect) → NodeCase n
        → (parent_in (tree_of r connect).rows n < n
        → value_in values (parent_in (tree_of r connect).rows n)
        ≡ filtered_value r connect rule criterion (top_of r connect (parent_in (tree_of r connect).rows n)))
        → value_of_node (tree_of r connect).rows rule kept values n ≡ filtered_value r connect rule criterion (top_of r connect n)
    step n hn (at_root e) ih = rw (eq-eqb (parent_in (tree_of r connect).rows n) no_node e) (sym (root_value rule criterion n hn e))
    step n hn (at_child e l c) ih =
        rw (ne_eqb (parent_in (tree_of r connect).rows n) no_node e) (go (flag kept n) refl)
      where
        above_is : value_in values (parent_in (tree_of r connect).rows n)
            ≡ filtered_value r connect rule criterion (top_of r connect (parent_in (tree_of r connect).rows n))
        above_is = ih l

        go : (b : Bool) → flag kept n ≡ b
            → cond b (value_of_kept rule (level_in (tree_of r connect).rows n) (level_in (tree_of r connect).rows (parent_in (tree_of r connect).rows n))
            (value_in values (parent_in (tree_of r connect).rows n)))
            (value_in values (parent_in (tree_of r connect).rows n))
            ≡ filtered_value r connect rule criterion (top_of r connect n)
        go true u =
            ap (value_of_kept rule (level_in (tree_of r connect).rows n) (level_in (tree_of r connect).rows (parent_in (tree_of r connect).rows n))) above_is
            ∙ sym (kept_value rule criterion n e c (kept_child rule criterion n e ∙ sym (flags n hn) ∙ u))
        go false u = above_is ∙ sym (dropped_value rule criterion n c (kept_child rule criterion n e ∙ sym (flags n hn) ∙ u))

    values_by : (fuel n : ℕ) → n < fuel → n < length (nodes r connect) → value_in values n ≡ filtered_value r connect rule criterion (top_of r connect n)
    values_by zero n f hn = absurd (omega arith)
    values_by (suc fuel) n f hn =
        made.each n (omega (arith, count)) ∙ step n hn (node_case n hn) (λ l. values_by fuel (parent_in (tree_of r connect).rows n) (omega arith) (omega arith))

    pub value_of_pixel : (p : ℕ) → IsTrue (is_defined r p) → value_in values (node_of r connect p) ≡ filtered_value r connect rule criterion p
    value_of_pixel p d =
        let hn : node_of r connect p < length (nodes r connect) = (Nodes.node_of-is r connect p d).below in
        values_by (suc (node_of r connect p)) (node_of r connect p) (omega arith) hn ∙ sym (same_value r connect rule criterion p plane d)

-- ---- each pixel has a smallest holder

-- node k is kept and above n, and the definition takes it
record Found (r : Raster) (connect : Connect) (rule : Rule) (criterion : Criterion) (n : ℕ) : Type 0 where
  it : ℕ
  it_is : smallest r connect (holders r connect rule criterion (top_of r connect n)) ≡ Some it

found_by : (r : Raster) (connect : Connect) (rule : Rule) (criterion : Criterion) (fuel n : ℕ) → IsPlane r → n < fuel → n < length (nodes r connect)
    → Found r connect rule criterion n
found_by r connect rule criterion zero n plane f hn = absurd (omega arith)
found_by r connect rule criterion (suc fuel) n plane f hn =
    go (node_case r connect plane n hn) (λ l. found_by r connect rule criterion fuel (parent_in (tree_of r connect).rows n) plane (omega arith) (omega arith))
  where
    go : NodeCase r connect plane n → (parent_in (tree_of r connect).rows n < n → Found r connect rule criterion (parent_in (tree_of r connect).rows n))
        → Found r connect rule criterion n
    go (at_root e) ih = record { it = n; it_is = smallest_of_kept r connect plane rule criterion n hn (kept_root r connect plane rule criterion n e) }
    go (at_child e l c) ih = split (is_kept r connect rule criterion n) refl
      where
        split : (b : Bool) → is_kept r connect rule criterion n ≡ b → Found r connect rule criterion n
        split true u = record { it = n; it_is = smallest_of_kept r connect plane rule criterion n hn u }
        split false u = record {
          it = (ih l).it;
          it_is = ap (smallest r connect) (holders_of_dropped r connect plane rule criterion n (parent_in (tree_of r connect).rows n) c u) ∙ (ih l).it_is;
        }

among_all : (r : Raster) (connect : Connect) (rule : Rule) (criterion : Criterion) (p m : ℕ) → m < length (nodes r connect)
    → is_kept r connect rule criterion m ≡ true
    → is_in_node r connect m p ≡ true → IsAmong m (holders r connect rule criterion p)
unfolding holders
among_all r connect rule criterion p m hm k h =
    among-filter (λ n. is_kept r connect rule criterion n && is_in_node r connect n p) m (node_numbers r connect)
    (among-range 0 (length (nodes r connect)) m (omega arith) (omega arith)) (both (is_kept r connect rule criterion m) k)
  where
    both : (b : Bool) → b ≡ true → b && is_in_node r connect m p ≡ true
    both b u = rw u h

smallest_is : (r : Raster) (connect : Connect) (rule : Rule) (criterion : Criterion) (p n : ℕ) → IsPlane r
    → smallest r connect (holders r connect rule criterion p) ≡ Some n → IsSmallestHolder r connect rule criterion p n
unfolding smallest
smallest_is r connect rule criterion p n plane e = record {
  node = h.node;
  kept = h.kept;
  holds = h.holds_it;
  least = λ m hm k x. within_from_test r connect n m
      (all_gives (lies_within r connect n) (holders r connect rule criterion p) m found.1 (among_all r connect rule criterion p m hm k x));
}
  where
    found : IsAmong n (holders r connect rule criterion p) × IsTrue (list_all (lies_within r connect n) (holders r connect rule criterion p))
    found = find_some (λ m. list_all (lies_within r connect m) (holders r connect rule criterion p)) (holders r connect rule criterion p) n e

    h : IsHolder r connect plane rule criterion p n
    h = holder_is r connect plane rule criterion p n found.0

pub each_pixel_has_a_smallest_holder : EachPixelHasASmallestHolder
each_pixel_has_a_smallest_holder r connect rule criterion p plane d =
    let hn : node_of r connect p < length (nodes r connect) = (Nodes.node_of-is r connect p d).below in
    let f : Found r connect rule criterion (node_of r connect p) =
    found_by r connect rule criterion (suc (node_of r connect p)) (node_of r connect p) plane (omega arith) hn in
    let same : holders r connect rule criterion p ≡ holders r connect rule criterion (top_of r connect (node_of r connect p)) =
    same_holders r connect rule criterion p (top_of r connect (node_of r connect p)) plane d (top-defined r connect (node_of r connect p) hn)
    (sym (node_of_top r connect (node_of r connect p) hn)) in
    let e : smallest r connect (holders r connect rule criterion p) ≡ Some f.it = ap (smallest r connect) same ∙ f.it_is in
    (f.it, e, smallest_is r connect rule criterion p f.it plane e)
