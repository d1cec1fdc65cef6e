-- The law of the flux.
use Rattle.std.proofs.Common.{◌≡◌, ℕ, ◌<◌, zero, suc, Bool, true, cond, List, [], ◌∷◌, length, map, refl, sym, ◌∙◌, ap, arith, ◌⊎◌, inl, inr}
use Rattle.std.specs.Prelude.{IsTrue, pos, ◌-ℤ◌, ◌≤ℤ◌, ◌<ℤ◌, slice_index}
use Rattle.std.proofs.lemmas.Int.{ints}
use Rattle.std.proofs.lemmas.Bool.{eq-eqb, ne_eqb, cases_order}
use Rattle.lemmas.proofs.Exported.{IsAmong, int_le-true, int_lt-true}
use Rattle.comp_tree.specs.declared.shape.Connect.{Connect}
use Rattle.comp_tree.specs.Raster.{Raster, IsPlane, pixels, level}
use Rattle.comp_tree.specs.ComponentTree.{ComponentTree, parent_in, no_node}
use Rattle.comp_tree.specs.Components.{nodes, is_in_node, row_of, tree_of}
use Rattle.comp_tree.specs.Nesting.{level_in, pixels_of}
use Rattle.comp_tree.specs.Laws.{IsAncestor, parent, above, top_of, IsNestedIn}
use Rattle.comp_tree.proofs.Exported.{top_inside, among_pixels, in_node_from_among, length-rows, parent-of_node, parent-candidate, below_no_node}
use Rattle.comp_tree.proofs.Exported as Nodes
use Rattle.node_sums.specs.Sums.{total}
use Rattle.node_sums.specs.Flux.{base_of, flux_of}
use Rattle.node_sums.specs.Laws.{FluxGrowsWithTheComponent, FluxIsNeverNegative, FluxIsZeroAtFlatRootsAlone, IsFlatRoot}
use Rattle.node_sums.proofs.Counting.{goes_down, holders_are_nested}
use Rattle.node_sums.proofs.Totals.{total_not_negative, each_zero, total_zero, total_grows}

-- ---- levels and bases

level_in-rows : (r : Raster) (connect : Connect) (xs : List ℕ) (n : ℕ) → n < length xs → level_in (map (row_of r connect) xs) n ≡ level r (slice_index xs n)
unfolding row_of
level_in-rows r connect [] n h = absurd (omega arith)
level_in-rows r connect (x ∷ xs) zero h = refl
level_in-rows r connect (x ∷ xs) (suc n) h = level_in-rows r connect xs n (omega arith)

pub level-of_node : (r : Raster) (connect : Connect) (n : ℕ) → n < length (nodes r connect) → level_in (tree_of r connect).rows n ≡ level r (top_of r connect n)
unfolding tree_of
level-of_node r connect n h = level_in-rows r connect (nodes r connect) n h

pub base-root : (tree : ComponentTree) (n : ℕ) → parent_in tree.rows n ≡ no_node → base_of tree n ≡ level_in tree.rows n
unfolding base_of
base-root tree n e = ap (λ (b : Bool). cond b (level_in tree.rows n) (level_in tree.rows (parent_in tree.rows n))) (eq-eqb (parent_in tree.rows n) no_node e)

pub base-child : (tree : ComponentTree) (n : ℕ) → (parent_in tree.rows n ≡ no_node → ⊥) → base_of tree n ≡ level_in tree.rows (parent_in tree.rows n)
unfolding base_of
base-child tree n e = ap (λ (b : Bool). cond b (level_in tree.rows n) (level_in tree.rows (parent_in tree.rows n))) (ne_eqb (parent_in tree.rows n) no_node e)

-- the base at a root, and at a child
pub data BaseCase (r : Raster) (connect : Connect) (n : ℕ) : Type 0 where
  at_root : parent_in (tree_of r connect).rows n ≡ no_node → base_of (tree_of r connect) n ≡ level r (top_of r connect n) → BaseCase r connect n
  at_child : (a : ℕ) → parent_in (tree_of r connect).rows n ≡ a → a < length (nodes r connect) → base_of (tree_of r connect) n ≡ level r (top_of r connect a)
      → level r (top_of r connect a) <ℤ level r (top_of r connect n) → BaseCase r connect n

pub base-case : (r : Raster) (connect : Connect) (n : ℕ) → IsPlane r → n < length (nodes r connect) → BaseCase r connect n
base-case r connect n plane hn = go ((goes_down r connect plane).parents n (omega (arith, length-rows r connect)))
  where
    go : (parent_in (tree_of r connect).rows n ≡ no_node) ⊎ (parent_in (tree_of r connect).rows n < n) → BaseCase r connect n
    go (inl e) = at_root e (base-root (tree_of r connect) n e ∙ level-of_node r connect n hn)
    go (inr l) =
        let ha : parent_in (tree_of r connect).rows n < length (nodes r connect) = omega arith in
        at_child (parent_in (tree_of r connect).rows n) refl ha
        (base-child (tree_of r connect) n (below_no_node r connect (parent_in (tree_of r connect).rows n) plane ha) ∙ level-of_node r connect
        (parent_in (tree_of r connect).rows n) ha)
        (int_lt-true (level r (top_of r connect (parent_in (tree_of r connect).rows n))) (level r (top_of r connect n))
        (parent-candidate r connect (parent_in (tree_of r connect).rows n) n plane hn ha (sym (parent-of_node r connect n hn))).candidate.lower)

base_at_most : (r : Raster) (connect : Connect) (n : ℕ) → IsPlane r → n < length (nodes r connect)
    → base_of (tree_of r connect) n ≤ℤ level r (top_of r connect n)
base_at_most r connect n plane hn = go (base-case r connect n plane hn)
  where
    go : BaseCase r connect n → base_of (tree_of r connect) n ≤ℤ level r (top_of r connect n)
    go (at_root e b) = omega (arith, ints)
    go (at_child a e ha b l) = omega (arith, ints)

-- the pixels of a node have at least its level
pub level_at_least : (r : Raster) (connect : Connect) (n q : ℕ) → is_in_node r connect n q ≡ true → level r (top_of r connect n) ≤ℤ level r q
unfolding is_in_node
level_at_least r connect n q h =
    int_le-true (level r (top_of r connect n)) (level r q)
    (Nodes.level_from_at_least r (level r (top_of r connect n)) q (Nodes.reaches_end r connect (level r (top_of r connect n)) (top_of r connect n) q h))

value_above_base : (r : Raster) (connect : Connect) (n q : ℕ) → IsPlane r → n < length (nodes r connect) → is_in_node r connect n q ≡ true
    → pos 0 ≤ℤ (level r q -ℤ base_of (tree_of r connect) n)
value_above_base r connect n q plane hn h =
    let a : base_of (tree_of r connect) n ≤ℤ level r (top_of r connect n) = base_at_most r connect n plane hn in
    let b : level r (top_of r connect n) ≤ℤ level r q = level_at_least r connect n q h in
    omega (arith, ints)

-- an ancestor's level is at most the base
ancestor_level : (r : Raster) (connect : Connect) (m n : ℕ) → IsPlane r → n < length (nodes r connect) → IsAncestor (tree_of r connect).rows m n
    → level r (top_of r connect m) ≤ℤ base_of (tree_of r connect) n
ancestor_level r connect m _ plane hn (parent n e l) = go (base-case r connect n plane hn)
  where
    go : BaseCase r connect n → level r (top_of r connect m) ≤ℤ base_of (tree_of r connect) n
    go (at_root f b) = absurd (below_no_node r connect m plane (omega (arith, length-rows r connect)) (sym e ∙ f))
    go (at_child a f ha b k) =
        let s : level r (top_of r connect a) ≡ level r (top_of r connect m) = ap (λ (j : ℕ). level r (top_of r connect j)) (sym f ∙ e) in omega (arith, ints)
ancestor_level r connect m _ plane hn (above k n e l rest) = go (base-case r connect n plane hn) (λ hk. ancestor_level r connect m k plane hk rest)
  where
    go : BaseCase r connect n → (k < length (nodes r connect) → level r (top_of r connect m) ≤ℤ base_of (tree_of r connect) k)
        → level r (top_of r connect m) ≤ℤ base_of (tree_of r connect) n
    go (at_root f b) ih = absurd (below_no_node r connect k plane (omega (arith, length-rows r connect)) (sym e ∙ f))
    go (at_child a f ha b u) ih =
        let s : level r (top_of r connect a) ≡ level r (top_of r connect k) = ap (λ (j : ℕ). level r (top_of r connect j)) (sym f ∙ e) in
        let hk : k < length (nodes r connect) = omega (arith, length-rows r connect) in
        let x : level r (top_of r connect m) ≤ℤ base_of (tree_of r connect) k = ih hk in
        let y : base_of (tree_of r connect) k ≤ℤ level r (top_of r connect k) = base_at_most r connect k plane hk in
        omega (arith, ints)

-- a node within another has at least its base
base_grows : (r : Raster) (connect : Connect) (m n : ℕ) → IsPlane r → m < length (nodes r connect) → n < length (nodes r connect) → IsNestedIn r connect n m
    → base_of (tree_of r connect) m ≤ℤ base_of (tree_of r connect) n
base_grows r connect m n plane hm hn w = go (cases_order m n)
  where
    top_in_n : is_in_node r connect n (top_of r connect n) ≡ true
    top_in_n = top_inside r connect n hn

    top_in_m : is_in_node r connect m (top_of r connect n) ≡ true
    top_in_m = w (top_of r connect n) top_in_n

    go : (m ≡ n) ⊎ ((m < n) ⊎ (n < m)) → base_of (tree_of r connect) m ≤ℤ base_of (tree_of r connect) n
    go (inl e) = let s : base_of (tree_of r connect) m ≡ base_of (tree_of r connect) n = ap (base_of (tree_of r connect)) e in omega (arith, ints)
    go (inr (inl l)) =
        let x : level r (top_of r connect m) ≤ℤ base_of (tree_of r connect) n =
        ancestor_level r connect m n plane hn (holders_are_nested r connect m n (top_of r connect n) plane l hn top_in_m top_in_n) in
        let y : base_of (tree_of r connect) m ≤ℤ level r (top_of r connect m) = base_at_most r connect m plane hm in
        omega (arith, ints)
    go (inr (inr l)) = refuse (base-case r connect m plane hm)
      where
        a : IsAncestor (tree_of r connect).rows n m
        a = holders_are_nested r connect n m (top_of r connect n) plane l hm top_in_n top_in_m

        x : level r (top_of r connect n) ≤ℤ base_of (tree_of r connect) m
        x = ancestor_level r connect n m plane hm a

        y : level r (top_of r connect m) ≤ℤ level r (top_of r connect n)
        y = level_at_least r connect m (top_of r connect n) top_in_m

        has_parent : IsAncestor (tree_of r connect).rows n m → parent_in (tree_of r connect).rows m < length (tree_of r connect).rows
        has_parent (parent _ e k) = omega arith
        has_parent (above j _ e k rest) = omega arith

        refuse : BaseCase r connect m → base_of (tree_of r connect) m ≤ℤ base_of (tree_of r connect) n
        refuse (at_root e b) =
            absurd (below_no_node r connect (parent_in (tree_of r connect).rows m) plane (omega (arith, length-rows r connect, has_parent a)) e)
        refuse (at_child j e hj b u) = absurd (omega (arith, ints, x, y))

-- ---- the law

pub flux_grows : FluxGrowsWithTheComponent
unfolding flux_of pixels_of
flux_grows r connect m n plane hm hn w =
    total_grows (λ p. level r p -ℤ base_of (tree_of r connect) n) (λ p. level r p -ℤ base_of (tree_of r connect) m) (is_in_node r connect n)
    (is_in_node r connect m) (pixels r)
    (λ p h. (w p h, let b : base_of (tree_of r connect) m ≤ℤ base_of (tree_of r connect) n = base_grows r connect m n plane hm hn w in omega (arith, ints)))
    (λ p h. value_above_base r connect m p plane hm h)

-- each number that the flux sums is not negative
terms : (r : Raster) (connect : Connect) (n : ℕ) → IsPlane r → n < length (nodes r connect) → (p : ℕ) → IsAmong p (pixels_of r connect n)
    → pos 0 ≤ℤ (level r p -ℤ base_of (tree_of r connect) n)
terms r connect n plane hn p k = value_above_base r connect n p plane hn (in_node_from_among r connect n p k)

pub never_negative : FluxIsNeverNegative
unfolding flux_of
never_negative r connect n plane hn = total_not_negative (λ p. level r p -ℤ base_of (tree_of r connect) n) (pixels_of r connect n) (terms r connect n plane hn)

pub zero_at_flat_roots : FluxIsZeroAtFlatRootsAlone
unfolding flux_of
zero_at_flat_roots r connect n plane hn = (flat, zero_flux)
  where
    value_is : total (λ p. level r p -ℤ base_of (tree_of r connect) n) (pixels_of r connect n) ≡ pos 0
        → (p : ℕ) → IsTrue (is_in_node r connect n p) → level r p ≡ base_of (tree_of r connect) n
    value_is z p h =
        let e : level r p -ℤ base_of (tree_of r connect) n ≡ pos 0 =
        each_zero (λ q. level r q -ℤ base_of (tree_of r connect) n) (pixels_of r connect n) (terms r connect n plane hn) z p (among_pixels r connect n p h) in
        omega (arith, ints)

    flat : total (λ p. level r p -ℤ base_of (tree_of r connect) n) (pixels_of r connect n) ≡ pos 0 → IsFlatRoot r connect n
    flat z = (root (base-case r connect n plane hn), λ p q h k. value_is z p h ∙ sym (value_is z q k))
      where
        root : BaseCase r connect n → parent_in (tree_of r connect).rows n ≡ no_node
        root (at_root e b) = e
        root (at_child a e ha b l) =
            let t : level r (top_of r connect n) ≡ base_of (tree_of r connect) n =
            value_is z (top_of r connect n) (top_inside r connect n hn) in absurd (omega (arith, ints))

    zero_flux : IsFlatRoot r connect n → total (λ p. level r p -ℤ base_of (tree_of r connect) n) (pixels_of r connect n) ≡ pos 0
    zero_flux f =
        total_zero (λ p. level r p -ℤ base_of (tree_of r connect) n) (pixels_of r connect n) (λ p k.
        let same : level r p ≡ level r (top_of r connect n) = f.1 p (top_of r connect n) (in_node_from_among r connect n p k) (top_inside r connect n hn) in
        let b : base_of (tree_of r connect) n ≡ level r (top_of r connect n) = base-root (tree_of r connect) n f.0 ∙ level-of_node r connect n hn in
        omega (arith, ints))
