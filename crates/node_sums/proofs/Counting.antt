-- Which nodes hold a pixel, and which pixels are in a node's entry while the nodes are added to their parents.
use Rattle.std.proofs.Common.{◌≡◌, ℕ, ◌<◌, ◌≤◌, zero, suc, Bool, true, false, ◌&&◌, not, List}
use Rattle.std.proofs.Common.{length, map, refl, sym, ◌∙◌, ap, subst, arith, ◌⊎◌, inl, inr}
use Rattle.std.specs.Prelude.{◌==◌, nat_lt, slice_index}
use Rattle.std.proofs.lemmas.Bool.{true≢false, eqb-true, eq-eqb, ltb-true, lt-ltb, le-ltb, and_parts, and_from, and_left, and_right}
use Rattle.std.proofs.lemmas.Bool.{not-true, not_from_false, false_from_ne_true, true_from_ne_false, cases_lt, cases_eq}
use Rattle.lemmas.proofs.Exported.{same_bool}
use Rattle.comp_tree.specs.declared.shape.Connect.{Connect}
use Rattle.comp_tree.specs.declared.tree.NodeRow.{NodeRow}
use Rattle.comp_tree.specs.Raster.{Raster, IsPlane, pixels, is_defined}
use Rattle.comp_tree.specs.ComponentTree.{parent_in, no_node}
use Rattle.comp_tree.specs.Components.{nodes, node_of, is_in_node, tree_of}
use Rattle.comp_tree.specs.Laws.{IsAncestor, parent, above}
use Rattle.comp_tree.proofs.Exported.{below_from_defined, pixels_belong_to_their_ancestors, length-rows}
use Rattle.comp_tree.proofs.Exported.{read-node_of, length-nodes-le, in_node-defined, tree_of-well_formed}
use Rattle.comp_tree.proofs.Exported as Nodes
use Rattle.node_sums.specs.Counted.{none_between, is_counted}

-- ---- ways upwards

-- as in the tree of a plane: the parents of the first count nodes are none or smaller
pub record GoesDown (rows : List NodeRow) : Type 0 where
  pub few : length rows ≤ 2147483647
  pub parents : (n : ℕ) → n < length rows → (parent_in rows n ≡ no_node) ⊎ (parent_in rows n < n)

pub parent_smaller : (rows : List NodeRow) (m n : ℕ) → GoesDown rows → n < length rows → parent_in rows n ≡ m → m < length rows → m < n
parent_smaller rows m n g h e l = go (g.parents n h)
  where
    go : (parent_in rows n ≡ no_node) ⊎ (parent_in rows n < n) → m < n
    go (inl none) = absurd (omega (arith, g.few))
    go (inr less) = omega arith

pub ancestor_smaller : (rows : List NodeRow) (m n : ℕ) → GoesDown rows → n < length rows → IsAncestor rows m n → m < n
ancestor_smaller rows m _ g h (parent n e l) = parent_smaller rows m n g h e l
ancestor_smaller rows m _ g h (above k n e l rest) =
    let a : k < n = parent_smaller rows k n g h e l in
    let b : m < k = ancestor_smaller rows m k g l rest in
    omega arith

-- the parent of an ancestor is one too
pub ancestor_up : (rows : List NodeRow) (a m n : ℕ) → parent_in rows m ≡ a → a < length rows → IsAncestor rows m n → IsAncestor rows a n
ancestor_up rows a m _ e l (parent n f h) = above m n f h (parent m e l)
ancestor_up rows a m _ e l (above k n f h rest) = above k n f h (ancestor_up rows a m k e l rest)

-- of two ancestors one is an ancestor of the other
one_way : (rows : List NodeRow) (i j n : ℕ) → IsAncestor rows i n → IsAncestor rows j n → (i ≡ j) ⊎ (IsAncestor rows i j ⊎ IsAncestor rows j i)
one_way rows i j n (parent _ e l) b = first b
  where
    first : IsAncestor rows j n → (i ≡ j) ⊎ (IsAncestor rows i j ⊎ IsAncestor rows j i)
    first (parent _ f h) = inl (sym e ∙ f)
    first (above k _ f h rest) = inr (inr (subst (λ (x : ℕ). IsAncestor rows j x) (sym f ∙ e) rest))
one_way rows i j n (above k _ e l rest) b = second b (one_way rows i j k rest)
  where
    second : IsAncestor rows j n → (IsAncestor rows j k → (i ≡ j) ⊎ (IsAncestor rows i j ⊎ IsAncestor rows j i))
        → (i ≡ j) ⊎ (IsAncestor rows i j ⊎ IsAncestor rows j i)
    second (parent _ f h) ih = inr (inl (subst (λ (x : ℕ). IsAncestor rows i x) (sym e ∙ f) rest))
    second (above m _ f h more) ih = ih (subst (λ (x : ℕ). IsAncestor rows j x) (sym f ∙ e) more)

-- an ancestor's number is at most the parent's
pub ancestor_of_parent : (rows : List NodeRow) (j k : ℕ) → GoesDown rows → IsAncestor rows j k → (parent_in rows k < length rows) × (j ≤ parent_in rows k)
ancestor_of_parent rows j _ g (parent k e l) = (omega arith, omega arith)
ancestor_of_parent rows j _ g (above m k e l rest) =
    let a : j < m = ancestor_smaller rows j m g l rest in
    (omega arith, omega arith)

-- ---- which nodes hold a pixel

pub goes_down : (r : Raster) (connect : Connect) → IsPlane r → GoesDown (tree_of r connect).rows
goes_down r connect plane = record {
  few = omega (arith, length-rows r connect, length-nodes-le r connect, plane, r.shape.within_limits.few_pixels);
  parents = (tree_of-well_formed r connect plane).parents;
}

-- node n holds q: it is the smallest node of q, or one of that node's ancestors
abbrev Holds : Raster → Connect → ℕ → ℕ → Type 0
Holds r connect n q = (node_of r connect q ≡ n) ⊎ IsAncestor (tree_of r connect).rows n (node_of r connect q)

holds : (r : Raster) (connect : Connect) (n q : ℕ) → IsPlane r → n < length (nodes r connect) → is_in_node r connect n q ≡ true → Holds r connect n q
holds r connect n q plane hn h = (pixels_belong_to_their_ancestors r connect n q plane hn (in_node-defined r connect n q h)).0 h

node_below : (r : Raster) (connect : Connect) (n q : ℕ) → is_in_node r connect n q ≡ true → node_of r connect q < length (tree_of r connect).rows
node_below r connect n q h = omega (arith, length-rows r connect, (Nodes.node_of-is r connect q (in_node-defined r connect n q h)).below)

-- of two nodes that hold a pixel, the one with the smaller number is an ancestor of the other
pub holders_are_nested : (r : Raster) (connect : Connect) (j k q : ℕ) → IsPlane r → j < k → k < length (nodes r connect)
    → is_in_node r connect j q ≡ true → is_in_node r connect k q ≡ true → IsAncestor (tree_of r connect).rows j k
holders_are_nested r connect j k q plane l hk in_j in_k = go (holds r connect j q plane (omega arith) in_j) (holds r connect k q plane hk in_k)
  where
    rows : List NodeRow
    rows = (tree_of r connect).rows

    inside : node_of r connect q < length (tree_of r connect).rows
    inside = node_below r connect j q in_j

    smaller : (m n : ℕ) → n < length (tree_of r connect).rows → IsAncestor (tree_of r connect).rows m n → m < n
    smaller m n h a = ancestor_smaller (tree_of r connect).rows m n (goes_down r connect plane) h a

    in_rows : (n : ℕ) → n < length (nodes r connect) → n < length (tree_of r connect).rows
    in_rows n h = omega (arith, length-rows r connect)

    both : (j ≡ k) ⊎ (IsAncestor (tree_of r connect).rows j k ⊎ IsAncestor (tree_of r connect).rows k j) → IsAncestor (tree_of r connect).rows j k
    both (inl e) = absurd (omega arith)
    both (inr (inl a)) = a
    both (inr (inr a)) = let x : k < j = smaller k j (in_rows j (omega arith)) a in absurd (omega arith)

    go : Holds r connect j q → Holds r connect k q → IsAncestor (tree_of r connect).rows j k
    go (inl e) (inl f) = absurd (omega arith)
    go (inl e) (inr b) = let x : k < node_of r connect q = smaller k (node_of r connect q) inside b in absurd (omega arith)
    go (inr a) (inl f) = subst (λ (x : ℕ). IsAncestor (tree_of r connect).rows j x) f a
    go (inr a) (inr b) = both (one_way (tree_of r connect).rows j k (node_of r connect q) a b)

-- what a node holds its parent holds
pub parent_holds : (r : Raster) (connect : Connect) (a k q : ℕ) → IsPlane r → k < length (nodes r connect) → parent_in (tree_of r connect).rows k ≡ a
    → a < length (nodes r connect) → is_in_node r connect k q ≡ true → is_in_node r connect a q ≡ true
parent_holds r connect a k q plane hk e ha h =
    (pixels_belong_to_their_ancestors r connect a q plane ha (in_node-defined r connect k q h)).1 (go (holds r connect k q plane hk h))
  where
    in_rows : a < length (tree_of r connect).rows
    in_rows = omega (arith, length-rows r connect)

    go : Holds r connect k q → Holds r connect a q
    go (inl f) = inr (parent (node_of r connect q) (subst (λ (x : ℕ). parent_in (tree_of r connect).rows x ≡ a) (sym f) e) in_rows)
    go (inr b) = inr (ancestor_up (tree_of r connect).rows a k (node_of r connect q) e in_rows b)

-- ---- which pixels are counted

pub none_between-from : (r : Raster) (connect : Connect) (q m k : ℕ) → ((j : ℕ) → m < j → j < k → is_in_node r connect j q ≡ false)
    → none_between r connect q m k ≡ true
unfolding none_between
none_between-from r connect q m zero h = refl
none_between-from r connect q m (suc k) h =
    rw (none_between-from r connect q m k (λ j l u. h j l (omega arith))) (go (nat_lt m k) refl)
  where
    go : (b : Bool) → nat_lt m k ≡ b → not (b && is_in_node r connect k q) ≡ true
    go false u = refl
    go true u = rw (h k (ltb-true m k u) (omega arith)) refl

pub none_between-gives : (r : Raster) (connect : Connect) (q m k : ℕ) → none_between r connect q m k ≡ true → (j : ℕ) → m < j → j < k
    → is_in_node r connect j q ≡ false
unfolding none_between
none_between-gives r connect q m zero h j l u = absurd (omega arith)
none_between-gives r connect q m (suc k) h j l u = go (cases_lt j k) (λ x. none_between-gives r connect q m k parts.0 j l x)
  where
    parts : (none_between r connect q m k ≡ true) × (not (nat_lt m k && is_in_node r connect k q) ≡ true)
    parts = and_parts (none_between r connect q m k) (not (nat_lt m k && is_in_node r connect k q)) h

    last : j ≡ k → is_in_node r connect j q ≡ false
    last e =
        let after : nat_lt m k ≡ true = lt-ltb m k (omega arith) in
        subst (λ (x : ℕ). is_in_node r connect x q ≡ false) (sym e)
        (not-true (is_in_node r connect k q) (subst (λ (b : Bool). not (b && is_in_node r connect k q) ≡ true) after parts.1))

    go : (j < k) ⊎ (k ≤ j) → (j < k → is_in_node r connect j q ≡ false) → is_in_node r connect j q ≡ false
    go (inl x) ih = ih x
    go (inr x) ih = last (omega arith)

pub numbers-are : (r : Raster) (connect : Connect) → (tree_of r connect).node_of ≡ map (node_of r connect) (pixels r)
unfolding tree_of
numbers-are r connect = refl

pub number-within : (r : Raster) (connect : Connect) (q : ℕ) → q < length r.values → slice_index (tree_of r connect).node_of q ≡ node_of r connect q
number-within r connect q h = ap (λ (xs : List ℕ). slice_index xs q) (numbers-are r connect) ∙ read-node_of r connect q h

pub number-is : (r : Raster) (connect : Connect) (q : ℕ) → is_defined r q ≡ true → slice_index (tree_of r connect).node_of q ≡ node_of r connect q
number-is r connect q d = number-within r connect q (below_from_defined r q d)

-- at first a node's entry has the pixels whose smallest node it is
pub counted-start : (r : Raster) (connect : Connect) (k m q : ℕ) → IsPlane r → k ≡ length (nodes r connect) → m < k
    → is_counted r connect k m q ≡ (is_defined r q && (slice_index (tree_of r connect).node_of q == m))
unfolding is_counted
counted-start r connect k m q plane e hm =
    same_bool (is_in_node r connect m q && none_between r connect q m k) (is_defined r q && (slice_index (tree_of r connect).node_of q == m)) there back
  where
    own : is_defined r q ≡ true → is_in_node r connect (node_of r connect q) q ≡ true
    own d = (pixels_belong_to_their_ancestors r connect (node_of r connect q) q plane (Nodes.node_of-is r connect q d).below d).1 (inl refl)

    there : is_in_node r connect m q && none_between r connect q m k ≡ true → is_defined r q && (slice_index (tree_of r connect).node_of q == m) ≡ true
    there h =
        and_from (is_defined r q) (slice_index (tree_of r connect).node_of q == m) defined
        (eq-eqb (slice_index (tree_of r connect).node_of q) m (number-is r connect q defined ∙ smallest (holds r connect m q plane (omega arith) parts.0)))
      where
        parts : (is_in_node r connect m q ≡ true) × (none_between r connect q m k ≡ true)
        parts = and_parts (is_in_node r connect m q) (none_between r connect q m k) h

        defined : is_defined r q ≡ true
        defined = in_node-defined r connect m q parts.0

        smallest : Holds r connect m q → node_of r connect q ≡ m
        smallest (inl f) = f
        smallest (inr a) =
            let less : m < node_of r connect q =
            ancestor_smaller (tree_of r connect).rows m (node_of r connect q) (goes_down r connect plane) (node_below r connect m q parts.0) a in
            let inside : node_of r connect q < k = omega (arith, (Nodes.node_of-is r connect q defined).below) in
            absurd (true≢false (sym (own defined) ∙ none_between-gives r connect q m k parts.1 (node_of r connect q) less inside))

    back : is_defined r q && (slice_index (tree_of r connect).node_of q == m) ≡ true → is_in_node r connect m q && none_between r connect q m k ≡ true
    back h = and_from (is_in_node r connect m q) (none_between r connect q m k) in_m (none_between-from r connect q m k none)
      where
        parts : (is_defined r q ≡ true) × ((slice_index (tree_of r connect).node_of q == m) ≡ true)
        parts = and_parts (is_defined r q) (slice_index (tree_of r connect).node_of q == m) h

        node_is : node_of r connect q ≡ m
        node_is = sym (number-is r connect q parts.0) ∙ eqb-true (slice_index (tree_of r connect).node_of q) m parts.1

        in_m : is_in_node r connect m q ≡ true
        in_m = subst (λ (x : ℕ). is_in_node r connect x q ≡ true) node_is (own parts.0)

        none : (j : ℕ) → m < j → j < k → is_in_node r connect j q ≡ false
        none j l u = false_from_ne_true (is_in_node r connect j q) (λ in_j. refuse in_j (holds r connect j q plane (omega arith) in_j))
          where
            refuse : is_in_node r connect j q ≡ true → Holds r connect j q → ⊥
            refuse in_j (inl f) = absurd (omega (arith, node_is))
            refuse in_j (inr a) =
                let less : j < node_of r connect q =
                ancestor_smaller (tree_of r connect).rows j (node_of r connect q) (goes_down r connect plane) (node_below r connect j q in_j) a in
                absurd (omega (arith, node_is))

-- in the end it has all its pixels
pub counted-end : (r : Raster) (connect : Connect) (m q : ℕ) → is_counted r connect 0 m q ≡ is_in_node r connect m q
unfolding is_counted none_between
counted-end r connect m q = go (is_in_node r connect m q)
  where
    go : (b : Bool) → b && true ≡ b
    go true = refl
    go false = refl

-- adding node k to its parent leaves what the other nodes have
pub counted-same : (r : Raster) (connect : Connect) (k m q : ℕ) → IsPlane r → k < length (nodes r connect)
    → (parent_in (tree_of r connect).rows k ≡ m → m < length (nodes r connect) → ⊥)
    → is_counted r connect (suc k) m q ≡ is_counted r connect k m q
unfolding is_counted none_between
counted-same r connect k m q plane hk other =
    same_bool (is_in_node r connect m q && (none_between r connect q m k && not (nat_lt m k && is_in_node r connect k q)))
    (is_in_node r connect m q && none_between r connect q m k) fewer more
  where
    fewer : is_in_node r connect m q && (none_between r connect q m k && not (nat_lt m k && is_in_node r connect k q)) ≡ true
        → is_in_node r connect m q && none_between r connect q m k ≡ true
    fewer h =
        let a : (is_in_node r connect m q ≡ true) × ((none_between r connect q m k && not (nat_lt m k && is_in_node r connect k q)) ≡ true) =
        and_parts (is_in_node r connect m q) (none_between r connect q m k && not (nat_lt m k && is_in_node r connect k q)) h in
        let b : (none_between r connect q m k ≡ true) × (not (nat_lt m k && is_in_node r connect k q) ≡ true) =
        and_parts (none_between r connect q m k) (not (nat_lt m k && is_in_node r connect k q)) a.1 in
        and_from (is_in_node r connect m q) (none_between r connect q m k) a.0 b.0

    more : is_in_node r connect m q && none_between r connect q m k ≡ true
        → is_in_node r connect m q && (none_between r connect q m k && not (nat_lt m k && is_in_node r connect k q)) ≡ true
    more h =
        and_from (is_in_node r connect m q) (none_between r connect q m k && not (nat_lt m k && is_in_node r connect k q)) parts.0
        (and_from (none_between r connect q m k) (not (nat_lt m k && is_in_node r connect k q)) parts.1
        (not_from_false (nat_lt m k && is_in_node r connect k q) (false_from_ne_true (nat_lt m k && is_in_node r connect k q) refuse)))
      where
        parts : (is_in_node r connect m q ≡ true) × (none_between r connect q m k ≡ true)
        parts = and_parts (is_in_node r connect m q) (none_between r connect q m k) h

        refuse : nat_lt m k && is_in_node r connect k q ≡ true → ⊥
        refuse u = go (cases_eq (parent_in (tree_of r connect).rows k) m)
          where
            both : (nat_lt m k ≡ true) × (is_in_node r connect k q ≡ true)
            both = and_parts (nat_lt m k) (is_in_node r connect k q) u

            less : m < k
            less = ltb-true m k both.0

            in_rows : k < length (tree_of r connect).rows
            in_rows = omega (arith, length-rows r connect)

            at : (parent_in (tree_of r connect).rows k < length (tree_of r connect).rows) × (m ≤ parent_in (tree_of r connect).rows k)
            at = ancestor_of_parent (tree_of r connect).rows m k (goes_down r connect plane) (holders_are_nested r connect m k q plane less hk parts.0 both.1)

            go : (parent_in (tree_of r connect).rows k ≡ m) ⊎ (parent_in (tree_of r connect).rows k ≡ m → ⊥) → ⊥
            go (inl e) = other e (omega (arith, length-rows r connect, at.0))
            go (inr ne) =
                absurd (true≢false (sym (parent_holds r connect (parent_in (tree_of r connect).rows k) k q plane hk refl
                (omega (arith, length-rows r connect, at.0)) both.1)
                ∙ none_between-gives r connect q m k parts.1 (parent_in (tree_of r connect).rows k) (strictly at.1)
                (parent_smaller (tree_of r connect).rows (parent_in (tree_of r connect).rows k) k (goes_down r connect plane) in_rows refl at.0)))
              where
                strictly : m ≤ parent_in (tree_of r connect).rows k → m < parent_in (tree_of r connect).rows k
                strictly l = side (cases_lt m (parent_in (tree_of r connect).rows k))
                  where
                    side : (m < parent_in (tree_of r connect).rows k) ⊎ (parent_in (tree_of r connect).rows k ≤ m) → m < parent_in (tree_of r connect).rows k
                    side (inl x) = x
                    side (inr x) = absurd (ne (omega arith))

-- what the parent has then, it had before or node k has, and not both
pub record IsUnion (all some others : ℕ → Bool) : Type 0 where
  pub apart : (q : ℕ) → some q ≡ true → (all q ≡ true) × (others q ≡ false)
  pub rest : (q : ℕ) → some q ≡ false → all q ≡ others q

pub counted-parent : (r : Raster) (connect : Connect) (k a : ℕ) → IsPlane r → k < length (nodes r connect)
    → parent_in (tree_of r connect).rows k ≡ a → a < length (nodes r connect)
    → IsUnion (is_counted r connect k a) (is_counted r connect (suc k) a) (is_counted r connect (suc k) k)
unfolding is_counted none_between
counted-parent r connect k a plane hk e ha = record { apart = apart; rest = rest }
  where
    rows_count : length (tree_of r connect).rows ≡ length (nodes r connect)
    rows_count = length-rows r connect

    less : a < k
    less = parent_smaller (tree_of r connect).rows a k (goes_down r connect plane) (omega (arith, rows_count)) e (omega (arith, rows_count))

    is_less : nat_lt a k ≡ true
    is_less = lt-ltb a k less

    apart : (q : ℕ) → is_in_node r connect a q && (none_between r connect q a k && not (nat_lt a k && is_in_node r connect k q)) ≡ true
        → (is_in_node r connect a q && none_between r connect q a k ≡ true)
        × (is_in_node r connect k q && (none_between r connect q k k && not (nat_lt k k && is_in_node r connect k q)) ≡ false)
    apart q h =
        let u : (is_in_node r connect a q ≡ true) × ((none_between r connect q a k && not (nat_lt a k && is_in_node r connect k q)) ≡ true) =
        and_parts (is_in_node r connect a q) (none_between r connect q a k && not (nat_lt a k && is_in_node r connect k q)) h in
        let v : (none_between r connect q a k ≡ true) × (not (nat_lt a k && is_in_node r connect k q) ≡ true) =
        and_parts (none_between r connect q a k) (not (nat_lt a k && is_in_node r connect k q)) u.1 in
        let out : is_in_node r connect k q ≡ false =
        not-true (is_in_node r connect k q) (subst (λ (b : Bool). not (b && is_in_node r connect k q) ≡ true) is_less v.1) in (
          and_from (is_in_node r connect a q) (none_between r connect q a k) u.0 v.0,
          and_left (is_in_node r connect k q) (none_between r connect q k k && not (nat_lt k k && is_in_node r connect k q)) out,
        )

    rest : (q : ℕ) → is_in_node r connect a q && (none_between r connect q a k && not (nat_lt a k && is_in_node r connect k q)) ≡ false
        → (is_in_node r connect a q && none_between r connect q a k)
        ≡ (is_in_node r connect k q && (none_between r connect q k k && not (nat_lt k k && is_in_node r connect k q)))
    rest q h =
        same_bool (is_in_node r connect a q && none_between r connect q a k)
        (is_in_node r connect k q && (none_between r connect q k k && not (nat_lt k k && is_in_node r connect k q))) there back
      where
        there : is_in_node r connect a q && none_between r connect q a k ≡ true
            → is_in_node r connect k q && (none_between r connect q k k && not (nat_lt k k && is_in_node r connect k q)) ≡ true
        there u = and_from (is_in_node r connect k q) (none_between r connect q k k && not (nat_lt k k && is_in_node r connect k q)) in_k (none_here in_k)
          where
            parts : (is_in_node r connect a q ≡ true) × (none_between r connect q a k ≡ true)
            parts = and_parts (is_in_node r connect a q) (none_between r connect q a k) u

            in_k : is_in_node r connect k q ≡ true
            in_k = true_from_ne_false (is_in_node r connect k q) (λ out.
                true≢false (sym (and_from (is_in_node r connect a q) (none_between r connect q a k && not (nat_lt a k && is_in_node r connect k q)) parts.0
                (and_from (none_between r connect q a k) (not (nat_lt a k && is_in_node r connect k q)) parts.1
                (not_from_false (nat_lt a k && is_in_node r connect k q) (and_right (nat_lt a k) (is_in_node r connect k q) out)))) ∙ h))

            none_here : is_in_node r connect k q ≡ true → none_between r connect q k k && not (nat_lt k k && is_in_node r connect k q) ≡ true
            none_here _ =
                and_from (none_between r connect q k k) (not (nat_lt k k && is_in_node r connect k q))
                (none_between-from r connect q k k (λ j l m. absurd (omega arith)))
                (not_from_false (nat_lt k k && is_in_node r connect k q) (and_left (nat_lt k k) (is_in_node r connect k q) (le-ltb k k (omega arith))))

        back : is_in_node r connect k q && (none_between r connect q k k && not (nat_lt k k && is_in_node r connect k q)) ≡ true
            → is_in_node r connect a q && none_between r connect q a k ≡ true
        back u =
            and_from (is_in_node r connect a q) (none_between r connect q a k) (parent_holds r connect a k q plane hk e ha in_k)
            (none_between-from r connect q a k none)
          where
            in_k : is_in_node r connect k q ≡ true
            in_k = (and_parts (is_in_node r connect k q) (none_between r connect q k k && not (nat_lt k k && is_in_node r connect k q)) u).0

            none : (j : ℕ) → a < j → j < k → is_in_node r connect j q ≡ false
            none j l m = false_from_ne_true (is_in_node r connect j q) (λ in_j.
                let at : (parent_in (tree_of r connect).rows k < length (tree_of r connect).rows) × (j ≤ parent_in (tree_of r connect).rows k) =
                ancestor_of_parent (tree_of r connect).rows j k (goes_down r connect plane) (holders_are_nested r connect j k q plane m hk in_j in_k) in
                absurd (omega arith))
