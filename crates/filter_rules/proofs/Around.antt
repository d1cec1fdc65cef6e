-- A node's component lies within that of the node itself and of its ancestors, and of no others.
use Rattle.std.proofs.Common.{◌≡◌, ℕ, ◌<◌, true, List, length, sym, subst, arith, ◌⊎◌, inl, inr}
use Rattle.std.specs.Prelude.{IsTrue}
use Rattle.lemmas.proofs.Exported.{IsAmong, IsWitness, among-filter, among_from_filter, any_from_among, witness_from_any}
use Rattle.comp_tree.specs.declared.shape.Connect.{Connect}
use Rattle.comp_tree.specs.declared.tree.NodeRow.{NodeRow}
use Rattle.comp_tree.specs.Raster.{Raster, IsPlane, is_defined}
use Rattle.comp_tree.specs.Components.{nodes, node_of, is_in_node, tree_of}
use Rattle.comp_tree.specs.Nesting.{node_numbers, lies_within}
use Rattle.comp_tree.specs.Laws.{IsAncestor, parent, above, top_of}
use Rattle.comp_tree.proofs.Exported.{length-rows, ancestors_are_the_larger_nodes, pixels_belong_to_their_ancestors}
use Rattle.comp_tree.proofs.Exported.{all_gives, all_from, in_node-defined, top_inside, within_from_test, test_from_within}
use Rattle.comp_tree.proofs.Exported as Nodes
use Rattle.node_sums.proofs.Exported.{among_nodes, ancestor_smaller, goes_down, node_from_among}
use Rattle.filter_rules.specs.declared.rule.Rule.TheVariants.{Min, Max}
use Rattle.filter_rules.specs.declared.rule.Criterion.{Criterion}
use Rattle.filter_rules.specs.Criteria.{satisfies}
use Rattle.filter_rules.specs.Filtered.{around, inside, satisfies_rule}

-- m is n, or one of its ancestors
abbrev pub IsAbove : List NodeRow → ℕ → ℕ → Type 0
IsAbove rows m n = (m ≡ n) ⊎ IsAncestor rows m n

pub ancestor_listed : (rows : List NodeRow) (m n : ℕ) → IsAncestor rows m n → m < length rows
ancestor_listed rows m _ (parent n e l) = l
ancestor_listed rows m _ (above k n e l rest) = ancestor_listed rows m k rest

-- ---- the nodes around a pixel

pub above_from_in : (r : Raster) (connect : Connect) (m p : ℕ) → IsPlane r → m < length (nodes r connect) → is_in_node r connect m p ≡ true
    → IsAbove (tree_of r connect).rows m (node_of r connect p)
above_from_in r connect m p plane hm h = go ((pixels_belong_to_their_ancestors r connect m p plane hm (in_node-defined r connect m p h)).0 h)
  where
    go : (node_of r connect p ≡ m) ⊎ IsAncestor (tree_of r connect).rows m (node_of r connect p) → IsAbove (tree_of r connect).rows m (node_of r connect p)
    go (inl e) = inl (sym e)
    go (inr a) = inr a

pub in_from_above : (r : Raster) (connect : Connect) (m p : ℕ) → IsPlane r → m < length (nodes r connect) → IsTrue (is_defined r p)
    → IsAbove (tree_of r connect).rows m (node_of r connect p) → is_in_node r connect m p ≡ true
in_from_above r connect m p plane hm d a = (pixels_belong_to_their_ancestors r connect m p plane hm d).1 (go a)
  where
    go : IsAbove (tree_of r connect).rows m (node_of r connect p) → (node_of r connect p ≡ m) ⊎ IsAncestor (tree_of r connect).rows m (node_of r connect p)
    go (inl e) = inl (sym e)
    go (inr b) = inr b

-- ---- the nodes around a node

pub above_from_within : (r : Raster) (connect : Connect) (n m : ℕ) → IsPlane r → n < length (nodes r connect) → m < length (nodes r connect)
    → lies_within r connect n m ≡ true → IsAbove (tree_of r connect).rows m n
above_from_within r connect n m plane hn hm h =
    subst (λ (k : ℕ). IsAbove (tree_of r connect).rows m k) (Nodes.node_of_top r connect n hn)
    (above_from_in r connect m (top_of r connect n) plane hm (within_from_test r connect n m h (top_of r connect n) (top_inside r connect n hn)))

pub within_from_above : (r : Raster) (connect : Connect) (n m : ℕ) → IsPlane r → n < length (nodes r connect) → m < length (nodes r connect)
    → IsAbove (tree_of r connect).rows m n → lies_within r connect n m ≡ true
within_from_above r connect n m plane hn hm (inl e) = test_from_within r connect n m (λ q k. subst (λ (j : ℕ). is_in_node r connect j q ≡ true) (sym e) k)
within_from_above r connect n m plane hn hm (inr a) = test_from_within r connect n m ((ancestors_are_the_larger_nodes r connect m n plane hm hn).1 a).0

-- two nodes that lie within each other are one
pub above_both : (r : Raster) (connect : Connect) (m n : ℕ) → IsPlane r → m < length (nodes r connect) → n < length (nodes r connect)
    → IsAbove (tree_of r connect).rows m n → IsAbove (tree_of r connect).rows n m → m ≡ n
above_both r connect m n plane hm hn (inl e) b = e
above_both r connect m n plane hm hn (inr a) (inl e) = sym e
above_both r connect m n plane hm hn (inr a) (inr b) =
    let x : m < n = ancestor_smaller (tree_of r connect).rows m n (goes_down r connect plane) (omega (arith, length-rows r connect)) a in
    let y : n < m = ancestor_smaller (tree_of r connect).rows n m (goes_down r connect plane) (omega (arith, length-rows r connect)) b in
    absurd (omega arith)

-- ---- what `Min` and `Max` keep

pub min_gives : (r : Raster) (connect : Connect) (criterion : Criterion) (n m : ℕ) → IsPlane r → n < length (nodes r connect)
    → satisfies_rule r connect Min criterion n ≡ true
    → m < length (nodes r connect) → IsAbove (tree_of r connect).rows m n → satisfies r connect criterion m ≡ true
unfolding satisfies_rule
min_gives r connect criterion n m plane hn h hm a =
    all_gives (satisfies r connect criterion) (around r connect n) m h
    (among-filter (λ k. lies_within r connect n k) m (node_numbers r connect) (among_nodes r connect m hm) (within_from_above r connect n m plane hn hm a))

pub min_from : (r : Raster) (connect : Connect) (criterion : Criterion) (n : ℕ) → IsPlane r → n < length (nodes r connect)
    → ((m : ℕ) → m < length (nodes r connect) → IsAbove (tree_of r connect).rows m n → satisfies r connect criterion m ≡ true)
    → satisfies_rule r connect Min criterion n ≡ true
unfolding satisfies_rule
min_from r connect criterion n plane hn h = all_from (satisfies r connect criterion) (around r connect n) at
  where
    at : (m : ℕ) → IsAmong m (around r connect n) → satisfies r connect criterion m ≡ true
    at m k =
        let parts : IsAmong m (node_numbers r connect) × IsTrue (lies_within r connect n m) =
        among_from_filter (λ k. lies_within r connect n k) m (node_numbers r connect) k in
        let hm : m < length (nodes r connect) = node_from_among r connect m parts.0 in
        h m hm (above_from_within r connect n m plane hn hm parts.1)

-- a node from which n is kept under `Max`
pub record IsKeptFor (r : Raster) (connect : Connect) (criterion : Criterion) (n : ℕ) : Type 0 where
  pub node : ℕ
  pub listed : node < length (nodes r connect)
  pub within : IsAbove (tree_of r connect).rows n node
  pub satisfied : satisfies r connect criterion node ≡ true

pub max_gives : (r : Raster) (connect : Connect) (criterion : Criterion) (n : ℕ) → IsPlane r → n < length (nodes r connect)
    → satisfies_rule r connect Max criterion n ≡ true
    → IsKeptFor r connect criterion n
unfolding satisfies_rule
max_gives r connect criterion n plane hn h = go (witness_from_any (satisfies r connect criterion) (inside r connect n) h)
  where
    go : IsWitness (satisfies r connect criterion) (inside r connect n) → IsKeptFor r connect criterion n
    go w =
        let parts : IsAmong w.it (node_numbers r connect) × IsTrue (lies_within r connect w.it n) =
        among_from_filter (λ k. lies_within r connect k n) w.it (node_numbers r connect) w.among in
        let hm : w.it < length (nodes r connect) = node_from_among r connect w.it parts.0 in
        record { node = w.it; listed = hm; within = above_from_within r connect w.it n plane hm hn parts.1; satisfied = w.passes }

pub max_from : (r : Raster) (connect : Connect) (criterion : Criterion) (n m : ℕ) → IsPlane r → n < length (nodes r connect) → m < length (nodes r connect)
    → IsAbove (tree_of r connect).rows n m → satisfies r connect criterion m ≡ true → satisfies_rule r connect Max criterion n ≡ true
unfolding satisfies_rule
max_from r connect criterion n m plane hn hm a s =
    any_from_among (satisfies r connect criterion) m (inside r connect n)
    (among-filter (λ k. lies_within r connect k n) m (node_numbers r connect) (among_nodes r connect m hm) (within_from_above r connect m n plane hm hn a)) s
