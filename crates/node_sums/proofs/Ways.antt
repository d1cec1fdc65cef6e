-- Which components lie within which, by the ways upwards.
use Rattle.std.proofs.Common.{◌≡◌, ℕ, ◌<◌, true, List, length, refl, sym, ◌∙◌, subst, arith, ◌⊎◌, inl, inr}
use Rattle.std.specs.Prelude.{ℤ, ◌≤ℤ◌}
use Rattle.std.proofs.lemmas.Bool.{true≢false, cases_order}
use Rattle.comp_tree.specs.declared.shape.Connect.{Connect}
use Rattle.comp_tree.specs.declared.tree.NodeRow.{NodeRow}
use Rattle.comp_tree.specs.Raster.{Raster, IsPlane, level}
use Rattle.comp_tree.specs.ComponentTree.{parent_in}
use Rattle.comp_tree.specs.Components.{nodes, is_in_node, tree_of}
use Rattle.comp_tree.specs.Nesting.{level_of_node}
use Rattle.comp_tree.specs.Laws.{IsAncestor, parent, above, top_of, IsNestedIn}
use Rattle.comp_tree.proofs.Exported.{top_inside, length-rows, ancestors_are_the_larger_nodes}
use Rattle.node_sums.specs.NodeNumbers.{IsOnWay}
use Rattle.node_sums.proofs.Counting.{goes_down, holders_are_nested, ancestor_smaller}
use Rattle.node_sums.proofs.Fluxes.{level-of_node, level_at_least}

-- ---- rows and nodes

-- a number of a row is a node's
pub node_from_row : (r : Raster) (connect : Connect) (n : ℕ) → n < length (tree_of r connect).rows → n < length (nodes r connect)
node_from_row r connect n h = let l : length (tree_of r connect).rows ≡ length (nodes r connect) = length-rows r connect in omega arith

pub row_from_node : (r : Raster) (connect : Connect) (n : ℕ) → n < length (nodes r connect) → n < length (tree_of r connect).rows
row_from_node r connect n h = let l : length (tree_of r connect).rows ≡ length (nodes r connect) = length-rows r connect in omega arith

-- ---- ways upwards

pub within_from_way : (r : Raster) (connect : Connect) (m n : ℕ) → IsPlane r → m < length (nodes r connect) → n < length (nodes r connect)
    → IsOnWay (tree_of r connect).rows m n → IsNestedIn r connect n m
within_from_way r connect m n plane hm hn (inl e) = subst (λ (x : ℕ). IsNestedIn r connect n x) e (λ q k. k)
within_from_way r connect m n plane hm hn (inr a) = ((ancestors_are_the_larger_nodes r connect m n plane hm hn).1 a).0

-- of two nodes that share a pixel one is on the way from the other
pub way_from_shared : (r : Raster) (connect : Connect) (m n q : ℕ) → IsPlane r → m < length (nodes r connect) → n < length (nodes r connect)
    → is_in_node r connect m q ≡ true → is_in_node r connect n q ≡ true → IsOnWay (tree_of r connect).rows m n ⊎ IsOnWay (tree_of r connect).rows n m
way_from_shared r connect m n q plane hm hn in_m in_n = go (cases_order m n)
  where
    go : (m ≡ n) ⊎ ((m < n) ⊎ (n < m)) → IsOnWay (tree_of r connect).rows m n ⊎ IsOnWay (tree_of r connect).rows n m
    go (inl e) = inl (inl (sym e))
    go (inr (inl l)) = inl (inr (holders_are_nested r connect m n q plane l hn in_m in_n))
    go (inr (inr l)) = inr (inr (holders_are_nested r connect n m q plane l hm in_n in_m))

pub way_from_within : (r : Raster) (connect : Connect) (m n : ℕ) → IsPlane r → m < length (nodes r connect) → n < length (nodes r connect)
    → IsNestedIn r connect n m → IsOnWay (tree_of r connect).rows m n
way_from_within r connect m n plane hm hn w = go (cases_order m n)
  where
    in_n : is_in_node r connect n (top_of r connect n) ≡ true
    in_n = top_inside r connect n hn

    in_m : is_in_node r connect m (top_of r connect n) ≡ true
    in_m = w (top_of r connect n) in_n

    go : (m ≡ n) ⊎ ((m < n) ⊎ (n < m)) → IsOnWay (tree_of r connect).rows m n
    go (inl e) = inl (sym e)
    go (inr (inl l)) = inr (holders_are_nested r connect m n (top_of r connect n) plane l hn in_m in_n)
    go (inr (inr l)) =
        let more =
        ((ancestors_are_the_larger_nodes r connect n m plane hn hm).1 (holders_are_nested r connect n m (top_of r connect n) plane l hm in_n in_m)).1 in
        absurd (true≢false (sym (w more.0 more.1) ∙ more.2))

pub way_trans : (rows : List NodeRow) (a b c : ℕ) → IsOnWay rows a b → IsOnWay rows b c → IsOnWay rows a c
way_trans rows a b c u (inl e) = subst (λ (x : ℕ). IsOnWay rows a x) (sym e) u
way_trans rows a b c (inl e) (inr v) = subst (λ (x : ℕ). IsOnWay rows x c) e (inr v)
way_trans rows a b c (inr u) (inr v) = inr (along c v)
  where
    along : (x : ℕ) → IsAncestor rows b x → IsAncestor rows a x
    along _ (parent x e l) = above b x e l u
    along _ (above k x e l rest) = above k x e l (along k rest)

-- an ancestor is on the way from the parent
pub record HasParent (rows : List NodeRow) (m n : ℕ) : Type 0 where
  pub up : ℕ
  pub is_parent : parent_in rows n ≡ up
  pub inside : up < length rows
  pub way : IsOnWay rows m up

pub way_up : (rows : List NodeRow) (m n : ℕ) → IsAncestor rows m n → HasParent rows m n
way_up rows m _ (parent n e l) = record { up = m; is_parent = e; inside = l; way = inl refl }
way_up rows m _ (above k n e l rest) = record { up = k; is_parent = e; inside = l; way = inr rest }

pub way_of_child : (rows : List NodeRow) (m n p : ℕ) → parent_in rows n ≡ p → p < length rows → IsOnWay rows m p → IsAncestor rows m n
way_of_child rows m n p e l (inl f) = parent n (e ∙ f) (subst (λ (x : ℕ). x < length rows) f l)
way_of_child rows m n p e l (inr a) = above p n e l a

pub way_smaller : (r : Raster) (connect : Connect) (m n : ℕ) → IsPlane r → n < length (nodes r connect) → IsAncestor (tree_of r connect).rows m n → m < n
way_smaller r connect m n plane hn a =
    ancestor_smaller (tree_of r connect).rows m n (goes_down r connect plane)
    (let l : length (tree_of r connect).rows ≡ length (nodes r connect) = length-rows r connect in omega arith) a

-- levels rise on the way downwards
pub level_on_way : (r : Raster) (connect : Connect) (m n : ℕ) → IsPlane r → m < length (nodes r connect) → n < length (nodes r connect)
    → IsOnWay (tree_of r connect).rows m n → level_of_node r connect m ≤ℤ level_of_node r connect n
level_on_way r connect m n plane hm hn w =
    subst (λ (z : ℤ). z ≤ℤ level_of_node r connect n) (sym (level-of_node r connect m hm))
    (subst (λ (z : ℤ). level r (top_of r connect m) ≤ℤ z) (sym (level-of_node r connect n hn))
    (level_at_least r connect m (top_of r connect n) (within_from_way r connect m n plane hm hn w (top_of r connect n) (top_inside r connect n hn))))
