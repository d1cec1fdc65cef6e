-- Areas: a pixel is counted at its smallest node, and a node's area is added to that of its parent.
use Rattle.std.proofs.Common.{◌≡◌, ◌≢◌, ℕ, ◌+◌, ◌-◌, ◌<◌, ◌≤◌, zero, suc, Bool, true, false, List, [], ◌∷◌, length, map}
use Rattle.std.proofs.Common.{replicate, refl, sym, ◌∙◌, ap, subst, arith, ◌⊎◌, inl, inr, set, get_or-set_same, get_or-set_other}
use Rattle.std.specs.Prelude.{◌==◌, ◌&&◌, filter, slice_index, slice_index_or}
use Rattle.std.specs.List.{range_with_len}
use Rattle.std.proofs.lemmas.Bool.{eq-eqb, ne_eqb, cases_eq}
use Rattle.std.proofs.lemmas.List.{length-append, length-set, get_or-replicate, length-replicate}
use Rattle.std.proofs.lemmas.List.FromFn.{length-range_with_len}
use Rattle.lemmas.proofs.Exported.{IsAmong, among_from_range, filter_same_among}
use Rattle.comp_tree.specs.declared.shape.Connect.{Connect}
use Rattle.comp_tree.specs.declared.tree.NodeRow.{NodeRow}
use Rattle.comp_tree.specs.Raster.{Raster, IsPlane, pixels, is_defined}
use Rattle.comp_tree.specs.ComponentTree.{ComponentTree, parent_in, no_node}
use Rattle.comp_tree.specs.Components.{nodes, is_in_node, tree_of}
use Rattle.comp_tree.specs.Nesting.{pixels_of}
use Rattle.comp_tree.proofs.Exported.{below_no_node, node-undefined, row-parent}
use Rattle.node_sums.specs.declared.entry.Sums.{Sums}
use Rattle.node_sums.specs.Sums.{sums_over, sums_of, sums_in, IsTreeOfPlane}
use Rattle.node_sums.specs.Counted.{is_counted}
use Rattle.node_sums.specs.Areas.{area_of, areas_in}
use Rattle.node_sums.specs.AreaPasses.{times_among, AreCounts, AreSoFar}
use Rattle.node_sums.proofs.Merging.{sums_over-union}
use Rattle.node_sums.proofs.Sizes.{length-filter-le}
use Rattle.node_sums.proofs.Counting.{counted-start, counted-end, counted-same, counted-parent, number-within, IsUnion}
use Rattle.node_sums.proofs.Passes.{range-push, filter_yes, filter_no, filter_same, rows_are, parent_is, parent_inside}

-- ---- the pass over the pixels

pub counts_none : (numbers : List ℕ) (n : ℕ) (areas : List ℕ) → areas ≡ replicate n 0 → AreCounts numbers 0 areas
counts_none numbers n areas e = record {
  counts = λ m h. ap (λ (xs : List ℕ). slice_index xs m) e ∙ get_or-replicate n m 0 0 (omega (arith, ap length e, length-replicate {A = ℕ} n 0));
}

times_yes : (numbers : List ℕ) (m i : ℕ) → slice_index numbers i ≡ m → times_among numbers m (suc i) ≡ times_among numbers m i + 1
times_yes numbers m i e =
    ap (λ (ps : List ℕ). length (filter (λ q. slice_index numbers q == m) ps)) (range-push 0 i i (omega arith))
    ∙ ap length (filter_yes (λ q. slice_index numbers q == m) (range_with_len 0 i) i (eq-eqb (slice_index numbers i) m e))
    ∙ length-append (filter (λ q. slice_index numbers q == m) (range_with_len 0 i)) (i ∷ [])

times_no : (numbers : List ℕ) (m i : ℕ) → slice_index numbers i ≢ m → times_among numbers m (suc i) ≡ times_among numbers m i
times_no numbers m i ne =
    ap (λ (ps : List ℕ). length (filter (λ q. slice_index numbers q == m) ps)) (range-push 0 i i (omega arith))
    ∙ ap length (filter_no (λ q. slice_index numbers q == m) (range_with_len 0 i) i (ne_eqb (slice_index numbers i) m ne))

pub counts_more : (numbers areas : List ℕ) (i node area : ℕ) → AreCounts numbers i areas → slice_index numbers i ≡ node → node < length areas
    → area ≡ slice_index areas node + 1
    → AreCounts numbers (i + 1) (set areas node area)
counts_more numbers areas i node area h e inside more =
    subst (λ (j : ℕ). AreCounts numbers j (set areas node area)) (let f : suc i ≡ i + 1 = omega arith in f)
    (record { counts = λ m l. at m (cases_eq m node) l })
  where
    at : (m : ℕ) → (m ≡ node) ⊎ (m ≢ node) → m < length (set areas node area) → slice_index (set areas node area) m ≡ times_among numbers m (suc i)
    at m (inl f) l =
        ap (slice_index (set areas node area)) f ∙ get_or-set_same areas node area 0 inside ∙ more
        ∙ ap (λ (n : ℕ). n + 1) (h.counts node inside) ∙ sym (times_yes numbers node i e) ∙ ap (λ (n : ℕ). times_among numbers n (suc i)) (sym f)
    at m (inr ne) l =
        get_or-set_other areas node m area 0 ne ∙ h.counts m (omega (arith, length-set areas node area))
        ∙ sym (times_no numbers m i (λ f. ne (sym f ∙ e)))

pub counts_skip : (numbers areas : List ℕ) (i : ℕ) → AreCounts numbers i areas → length areas ≤ slice_index numbers i → AreCounts numbers (i + 1) areas
counts_skip numbers areas i h past =
    subst (λ (j : ℕ). AreCounts numbers j areas) (let f : suc i ≡ i + 1 = omega arith in f)
    (record { counts = λ m l. h.counts m l ∙ sym (times_no numbers m i (λ f. let g : slice_index numbers i ≡ m = f in absurd (omega arith))) })

pub counts_size : (numbers areas : List ℕ) (i m : ℕ) → AreCounts numbers i areas → m < length areas → slice_index areas m ≤ i
counts_size numbers areas i m h l =
    omega (arith, h.counts m l, length-filter-le (λ q. slice_index numbers q == m) (range_with_len 0 i), length-range_with_len 0 i)

-- ---- before the pass over the nodes

pub areas_from_counts : (r : Raster) (tree : ComponentTree) (areas : List ℕ) → IsPlane r → length areas ≡ length tree.rows
    → AreCounts tree.node_of (length r.values) areas
    → AreSoFar r tree (length tree.rows) areas
unfolding pixels
areas_from_counts r tree areas plane l h = record { one_each = l; counted = counted }
  where
    counted : (connect : Connect) (m : ℕ) → tree ≡ tree_of r connect → m < length areas
        → slice_index areas m ≡ length (filter (is_counted r connect (length tree.rows) m) (pixels r))
    counted connect m e inside =
        h.counts m inside
        ∙ ap length (filter_same_among (λ q. slice_index tree.node_of q == m) (is_counted r connect (length tree.rows) m) (range_with_len 0 (length r.values))
        same)
      where
        in_nodes : m < length (nodes r connect)
        in_nodes = omega (arith, rows_are r connect tree e)

        own : (q : ℕ) → q < length r.values → (b : Bool) → is_defined r q ≡ b
            → (slice_index (tree_of r connect).node_of q == m) ≡ (is_defined r q && (slice_index (tree_of r connect).node_of q == m))
        own q below true d = rw d refl
        own q below false d =
            let none : slice_index (tree_of r connect).node_of q ≡ no_node = number-within r connect q below ∙ sym (node-undefined r connect q d) in
            ne_eqb (slice_index (tree_of r connect).node_of q) m
            (λ f. below_no_node r connect m plane in_nodes (sym f ∙ none))
            ∙ sym (ap (λ (b : Bool). b && (slice_index (tree_of r connect).node_of q == m)) d)

        same : (q : ℕ) → IsAmong q (range_with_len 0 (length r.values)) → (slice_index tree.node_of q == m) ≡ is_counted r connect (length tree.rows) m q
        same q among =
            let within : (0 ≤ q) × (q < 0 + length r.values) = among_from_range 0 (length r.values) q among in
            ap (λ (t : ComponentTree). slice_index t.node_of q == m) e
            ∙ own q (omega (arith, within.1)) (is_defined r q) refl
            ∙ sym (counted-start r connect (length tree.rows) m q plane (rows_are r connect tree e) (omega arith))

-- ---- a node's area is added to its parent's

union_area : (r : Raster) (all some others : ℕ → Bool) (ps : List ℕ) → IsUnion all some others
    → length (filter all ps) ≡ length (filter some ps) + length (filter others ps)
unfolding sums_over
union_area r all some others ps u = ap (λ (s : Sums). s.area) (sums_over-union r all some others ps u.apart u.rest)

-- the nodes numbered above k were added; k has the parent a
pub record IsAreaStep (r : Raster) (tree : ComponentTree) (areas : List ℕ) (k a : ℕ) : Type 0 where
  pub so_far : AreSoFar r tree (suc k) areas
  pub below : k < length tree.rows
  pub parent : parent_in tree.rows k ≡ a
  pub inside : a < length tree.rows

parent_area : (r : Raster) (connect : Connect) (tree : ComponentTree) (areas : List ℕ) (k a : ℕ) → IsPlane r → IsAreaStep r tree areas k a
    → tree ≡ tree_of r connect
    → slice_index areas a + slice_index areas k ≡ length (filter (is_counted r connect k a) (pixels r))
parent_area r connect tree areas k a plane s e =
    let u : IsUnion (is_counted r connect k a) (is_counted r connect (suc k) a) (is_counted r connect (suc k) k) =
    counted-parent r connect k a plane (omega (arith, s.below, rows_are r connect tree e)) (sym (parent_is r connect tree k e) ∙ s.parent)
    (omega (arith, s.inside, rows_are r connect tree e)) in
    let one : slice_index areas a ≡ length (filter (is_counted r connect (suc k) a) (pixels r)) =
    s.so_far.counted connect a e (omega (arith, s.inside, s.so_far.one_each)) in
    let two : slice_index areas k ≡ length (filter (is_counted r connect (suc k) k) (pixels r)) =
    s.so_far.counted connect k e (omega (arith, s.below, s.so_far.one_each)) in
    omega (arith, one, two, union_area r (is_counted r connect k a) (is_counted r connect (suc k) a) (is_counted r connect (suc k) k) (pixels r) u)

pub step_small : (r : Raster) (tree : ComponentTree) (areas : List ℕ) (k a : ℕ) → IsPlane r → IsTreeOfPlane r tree → IsAreaStep r tree areas k a
    → slice_index areas a + slice_index areas k ≤ 2147483647
unfolding pixels
step_small r tree areas k a plane (connect, e) s =
    omega (
      arith,
      parent_area r connect tree areas k a plane s e,
      length-filter-le (is_counted r connect k a) (range_with_len 0 (length r.values)),
      length-range_with_len 0 (length r.values),
      plane,
      r.shape.within_limits.few_pixels,
    )

pub step_yes : (r : Raster) (tree : ComponentTree) (areas : List ℕ) (k a v : ℕ) → IsPlane r → IsAreaStep r tree areas k a
    → v ≡ slice_index areas a + slice_index areas k
    → AreSoFar r tree k (set areas a v)
step_yes r tree areas k a v plane s w = record {
  one_each = length-set areas a v ∙ s.so_far.one_each;
  counted = λ connect m e l. go connect m e l (cases_eq m a);
}
  where
    go : (connect : Connect) (m : ℕ) → tree ≡ tree_of r connect → m < length (set areas a v) → (m ≡ a) ⊎ (m ≢ a)
        → slice_index (set areas a v) m ≡ length (filter (is_counted r connect k m) (pixels r))
    go connect m e l (inl f) =
        ap (slice_index (set areas a v)) f ∙ get_or-set_same areas a v 0 (omega (arith, s.inside, s.so_far.one_each)) ∙ w
        ∙ parent_area r connect tree areas k a plane s e ∙ ap (λ (j : ℕ). length (filter (is_counted r connect k j) (pixels r))) (sym f)
    go connect m e l (inr ne) =
        get_or-set_other areas a m v 0 ne ∙ s.so_far.counted connect m e (omega (arith, length-set areas a v))
        ∙ ap length (filter_same (is_counted r connect (suc k) m) (is_counted r connect k m) (pixels r)
        (λ q. counted-same r connect k m q plane (omega (arith, s.below, rows_are r connect tree e))
        (λ z _. ne (sym z ∙ sym (parent_is r connect tree k e) ∙ s.parent))))

pub step_no : (r : Raster) (tree : ComponentTree) (areas : List ℕ) (k : ℕ) → IsPlane r → AreSoFar r tree (suc k) areas → k < length tree.rows
    → parent_in tree.rows k ≡ no_node
    → AreSoFar r tree k areas
step_no r tree areas k plane h hk p = record { one_each = h.one_each; counted = counted }
  where
    counted : (connect : Connect) (m : ℕ) → tree ≡ tree_of r connect → m < length areas
        → slice_index areas m ≡ length (filter (is_counted r connect k m) (pixels r))
    counted connect m e l =
        h.counted connect m e l
        ∙ ap length (filter_same (is_counted r connect (suc k) m) (is_counted r connect k m) (pixels r)
        (λ q. counted-same r connect k m q plane (omega (arith, rows_are r connect tree e))
        (λ z j. below_no_node r connect m plane j (sym z ∙ sym (parent_is r connect tree k e) ∙ p))))

-- ---- after it

-- a list by its places
same_from_places : (f : ℕ → ℕ) (n : ℕ) (xs : List ℕ) → length xs ≡ n → ((m : ℕ) → m < length xs → slice_index xs m ≡ f m) → xs ≡ map f (range_with_len 0 n)
same_from_places f n xs l h = from 0 n xs l (λ m g. h m g ∙ ap f (omega arith))
  where
    from : (a n : ℕ) (xs : List ℕ) → length xs ≡ n → ((m : ℕ) → m < length xs → slice_index xs m ≡ f (a + m)) → xs ≡ map f (range_with_len a n)
    from a zero [] l h = refl
    from a zero (x ∷ xs) l h = absurd (omega arith)
    from a (suc n) [] l h = absurd (omega arith)
    from a (suc n) (x ∷ xs) l h =
        let first : x ≡ f a = h 0 (omega arith) ∙ ap f (omega arith) in
        let rest : xs ≡ map f (range_with_len (a + 1) n) = from (a + 1) n xs (omega arith) (λ m g. h (suc m) (omega arith) ∙ ap f (omega arith)) in
        ap (λ (y : ℕ). y ∷ xs) first ∙ ap (λ (ys : List ℕ). f a ∷ ys) rest

pub areas_from_steps : (r : Raster) (connect : Connect) (tree : ComponentTree) (areas : List ℕ) → AreSoFar r tree 0 areas → tree ≡ tree_of r connect
    → areas ≡ areas_in r connect
unfolding areas_in pixels_of
areas_from_steps r connect tree areas h e =
    same_from_places (area_of r connect) (length (nodes r connect)) areas (h.one_each ∙ rows_are r connect tree e)
    (λ m l. h.counted connect m e l ∙ ap length (filter_same (is_counted r connect 0 m) (is_in_node r connect m) (pixels r) (counted-end r connect m)))

-- the area of a node is that of its sums
pub areas-of_sums : (r : Raster) (connect : Connect) → areas_in r connect ≡ map (λ s. s.area) (sums_in r connect)
unfolding areas_in sums_in sums_of sums_over
areas-of_sums r connect = over (range_with_len 0 (length (nodes r connect)))
  where
    over : (ns : List ℕ) → map (area_of r connect) ns ≡ map (λ (s : Sums). s.area) (map (sums_of r connect) ns)
    over [] = refl
    over (n ∷ ns) = ap (λ (xs : List ℕ). area_of r connect n ∷ xs) (over ns)

-- ---- a turn of the pass over the nodes

pub area_step_from_code : (r : Raster) (tree : ComponentTree) (areas : List ℕ) (n : ℕ) (rows : List NodeRow) (row : NodeRow) → IsPlane r → IsTreeOfPlane r tree
    → AreSoFar r tree n areas → 0 < n → n ≤ length rows → rows ≡ tree.rows → ((slice_index_or rows (n - 1) row).parent ≡ no_node → ⊥)
    → IsAreaStep r tree areas (n - 1) (slice_index_or rows (n - 1) row).parent
area_step_from_code r tree areas n rows row plane of_plane h some most same has = record {
  so_far = subst (λ (m : ℕ). AreSoFar r tree m areas) next h;
  below = below;
  parent = parent;
  inside = parent_inside r tree (n - 1) (slice_index_or rows (n - 1) row).parent plane of_plane below parent has;
}
  where
    next : n ≡ suc (n - 1)
    next = omega arith

    below : n - 1 < length tree.rows
    below = omega (arith, ap length same)

    parent : parent_in tree.rows (n - 1) ≡ (slice_index_or rows (n - 1) row).parent
    parent = ap (λ (xs : List NodeRow). parent_in xs (n - 1)) (sym same) ∙ sym (row-parent rows (n - 1) row (omega arith))

pub step_root : (r : Raster) (tree : ComponentTree) (areas : List ℕ) (n : ℕ) (rows : List NodeRow) (row : NodeRow) → IsPlane r → AreSoFar r tree n areas
    → 0 < n → n ≤ length rows
    → rows ≡ tree.rows → (slice_index_or rows (n - 1) row).parent ≡ no_node → AreSoFar r tree (n - 1) areas
step_root r tree areas n rows row plane h some most same root =
    let next : n ≡ suc (n - 1) = omega arith in
    let parent : parent_in tree.rows (n - 1) ≡ (slice_index_or rows (n - 1) row).parent =
    ap (λ (xs : List NodeRow). parent_in xs (n - 1)) (sym same) ∙ sym (row-parent rows (n - 1) row (omega arith)) in
    step_no r tree areas (n - 1) plane (subst (λ (m : ℕ). AreSoFar r tree m areas) next h) (omega (arith, ap length same)) (parent ∙ root)
