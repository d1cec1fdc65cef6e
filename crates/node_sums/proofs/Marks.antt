-- Numbers of the nodes of a list, and of the nodes and pixels that lie in them.
use Rattle.std.proofs.Common.{◌≡◌, ℕ, ◌+◌, ◌*◌, ◌<◌, ◌≤◌, zero, suc, Bool, true, false, cond, List, [], ◌∷◌, length, refl, sym, ◌∙◌, ap, subst, arith}
use Rattle.std.proofs.Common.{◌⊎◌, inl, inr, get_or, set, ◌↔◌}
use Rattle.std.specs.Prelude.{Option, Some, unwrap_or, replicate, slice_get, slice_index, ◌==◌}
use Rattle.std.specs.List.{position_from, list_any, IsDistinct, AllByRecursion}
use Rattle.std.proofs.lemmas.Bool.{true≢false, eqb-true, ne_eqb, or_cases, false_from_ne_true, cases_lt, cases_eq}
use Rattle.std.proofs.lemmas.List.{length-set, get_or-set_same, get_or-set_other}
use Rattle.std.proofs.lemmas.Map.Steps.{length-le_from_distinct_below}
use Rattle.std.proofs.lemmas.Option.{slice_get_within, same_Some}
use Rattle.lemmas.proofs.Exported.{same_bool}
use Rattle.comp_tree.specs.declared.shape.Connect.{Connect}
use Rattle.comp_tree.specs.Raster.{Raster, IsPlane, is_defined}
use Rattle.comp_tree.specs.ComponentTree.{ComponentTree, parent_in, no_node}
use Rattle.comp_tree.specs.Components.{nodes, node_of, is_in_node, tree_of}
use Rattle.comp_tree.specs.Laws.{top_of, parent_of_node}
use Rattle.comp_tree.proofs.Exported.{top-defined, node_of_top, below_no_node, pixels_belong_to_their_ancestors, length-nodes-le, read-node_of}
use Rattle.comp_tree.proofs.Exported.{in_node-defined, top_inside}
use Rattle.comp_tree.proofs.Exported as Nodes
use Rattle.node_sums.specs.DisjointNodes.{listed_number_at, AreDisjointNodes, AreNumbered}
use Rattle.node_sums.specs.NodeNumbers.{IsOnWay, AreMarked}
use Rattle.node_sums.proofs.Ways.{within_from_way, way_from_shared, HasParent, way_up, way_of_child}
use Rattle.node_sums.proofs.Ways.{node_from_row, row_from_node}
use Rattle.node_sums.proofs.Passes.{rows_are, numbers_for_pixels}

pub node_inside : (r : Raster) (connect : Connect) (tree : ComponentTree) (n : ℕ) → tree ≡ tree_of r connect → n < length tree.rows
    → n < length (nodes r connect)
node_inside r connect tree n e h = let l : length tree.rows ≡ length (nodes r connect) = rows_are r connect tree e in omega arith

-- ---- a list that is filled place by place

pub filled : {X : Type 0} (xs : List X) (k : ℕ) (x d : X) (f : ℕ → X) → k < length xs → ((n : ℕ) → n < k → get_or xs n d ≡ f n) → x ≡ f k
    → (n : ℕ) → n < k + 1 → get_or (set xs k x) n d ≡ f n
filled xs k x d f inside before here n l = go (cases_eq n k)
  where
    go : (n ≡ k) ⊎ (n ≡ k → ⊥) → get_or (set xs k x) n d ≡ f n
    go (inl e) = ap (λ (m : ℕ). get_or (set xs k x) m d) e ∙ get_or-set_same xs k x d inside ∙ here ∙ ap f (sym e)
    go (inr ne) = get_or-set_other xs k n x d ne ∙ before n (omega arith)

pub zeros_replicate : (xs : List ℕ) (k : ℕ) → xs ≡ replicate k 0 → (n : ℕ) → slice_index xs n ≡ 0
zeros_replicate xs k e n = ap (λ (ys : List ℕ). slice_index ys n) e ∙ go k n
  where
    go : (k n : ℕ) → slice_index (replicate k 0) n ≡ 0
    go zero n = refl
    go (suc k) zero = refl
    go (suc k) (suc n) = go k n

-- ---- the place of the first number that passes

place_found : (test : ℕ → Bool) (k : ℕ) (xs : List ℕ) (i s : ℕ) → slice_get xs i ≡ Some s → test s ≡ true
    → ((j u : ℕ) → j < i → slice_get xs j ≡ Some u → test u ≡ false)
    → unwrap_or (position_from test k xs) 0 ≡ k + i
place_found test k [] i s g h before = absurd (cc)
place_found test k (x ∷ xs) zero s g h before = let on : test x ≡ true = ap test (same_Some x s g) ∙ h in rw on (omega arith)
place_found test k (x ∷ xs) (suc i) s g h before =
    let off : test x ≡ false = before 0 x (omega arith) refl in
    let rest : unwrap_or (position_from test (k + 1) xs) 0 ≡ k + 1 + i = place_found test (k + 1) xs i s g h (λ j u l f. before (suc j) u (omega arith) f) in
    rw off (rest ∙ omega arith)

place_none : (test : ℕ → Bool) (k : ℕ) (xs : List ℕ) → ((j u : ℕ) → slice_get xs j ≡ Some u → test u ≡ false) → unwrap_or (position_from test k xs) 0 ≡ 0
place_none test k [] h = refl
place_none test k (x ∷ xs) h = let off : test x ≡ false = h 0 x refl in rw off (place_none test (k + 1) xs (λ j u f. h (suc j) u f))

place_same : (f g : ℕ → Bool) (k : ℕ) (xs : List ℕ) → ((j u : ℕ) → slice_get xs j ≡ Some u → f u ≡ g u) → position_from f k xs ≡ position_from g k xs
place_same f g k [] h = refl
place_same f g k (x ∷ xs) h =
    ap (λ (b : Bool). cond b (Some k) (position_from f (k + 1) xs)) (h 0 x refl)
    ∙ ap (λ (o : Option ℕ). cond (g x) (Some k) o) (place_same f g (k + 1) xs (λ j u e. h (suc j) u e))

place_bound : (test : ℕ → Bool) (k : ℕ) (xs : List ℕ) → 1 ≤ k → unwrap_or (position_from test k xs) 0 + 1 ≤ k + length xs
place_bound test k [] h = omega arith
place_bound test k (x ∷ xs) h = go (test x) (place_bound test (k + 1) xs (omega arith))
  where
    go : (b : Bool) → unwrap_or (position_from test (k + 1) xs) 0 + 1 ≤ k + 1 + length xs
        → unwrap_or (cond b (Some k) (position_from test (k + 1) xs)) 0 + 1 ≤ k + suc (length xs)
    go true ih = omega arith
    go false ih = omega arith

-- ---- which nodes hold a pixel

-- node s holds a defined pixel where it is on the way from the pixel's node
holds-way : (r : Raster) (connect : Connect) (s q : ℕ) → IsPlane r → s < length (nodes r connect) → is_defined r q ≡ true
    → (is_in_node r connect s q ≡ true) ↔ IsOnWay (tree_of r connect).rows s (node_of r connect q)
holds-way r connect s q plane hs d = pixels_belong_to_their_ancestors r connect s q plane hs d

-- ---- disjoint nodes

ways_apart : (tree : ComponentTree) (marked : List ℕ) (i j s t : ℕ) → AreDisjointNodes tree marked → i < j → slice_get marked i ≡ Some s
    → slice_get marked j ≡ Some t
    → IsOnWay tree.rows s t ⊎ IsOnWay tree.rows t s → ⊥
ways_apart tree marked i j s t d l f g = go
  where
    hs : s < length (nodes d.plane d.connect)
    hs = node_inside d.plane d.connect tree s d.tree_is (d.nodes i s f)

    ht : t < length (nodes d.plane d.connect)
    ht = node_inside d.plane d.connect tree t d.tree_is (d.nodes j t g)

    go : IsOnWay tree.rows s t ⊎ IsOnWay tree.rows t s → ⊥
    go (inl w) =
        d.disjoint i j s t l f g (top_of d.plane d.connect t)
        (within_from_way d.plane d.connect s t d.one_each hs ht (subst (λ (x : ComponentTree). IsOnWay x.rows s t) d.tree_is w) (top_of d.plane d.connect t)
        (top_inside d.plane d.connect t ht))
        (top_inside d.plane d.connect t ht)
    go (inr w) =
        d.disjoint i j s t l f g (top_of d.plane d.connect s) (top_inside d.plane d.connect s hs)
        (within_from_way d.plane d.connect t s d.one_each ht hs (subst (λ (x : ComponentTree). IsOnWay x.rows t s) d.tree_is w) (top_of d.plane d.connect s)
        (top_inside d.plane d.connect s hs))

distinct_from : (xs : List ℕ) → ((i j s t : ℕ) → i < j → slice_get xs i ≡ Some s → slice_get xs j ≡ Some t → s ≡ t → ⊥) → IsDistinct ◌==◌ xs
unfolding IsDistinct
distinct_from [] h = tt
distinct_from (x ∷ xs) h =
    (others xs (λ j t g. h 0 (suc j) x t (omega arith) refl g), distinct_from xs (λ i j s t l f g. h (suc i) (suc j) s t (omega arith) f g))
  where
    others : (ys : List ℕ) → ((j t : ℕ) → slice_get ys j ≡ Some t → x ≡ t → ⊥) → AllByRecursion (λ y. x == y ≡ false) ys
    others [] k = tt
    others (y ∷ ys) k = (ne_eqb x y (k 0 y refl), others ys (λ j t g. k (suc j) t g))

-- a member that a test finds
found : (xs : List ℕ) (q : ℕ) → list_any (λ x. q == x) xs ≡ true → (i : ℕ) × (slice_get xs i ≡ Some q)
found [] q h = absurd (true≢false (sym h))
found (x ∷ xs) q h = go (or_cases (q == x) (list_any (λ y. q == y) xs) h) (found xs q)
  where
    later : (i : ℕ) × (slice_get xs i ≡ Some q) → (i : ℕ) × (slice_get (x ∷ xs) i ≡ Some q)
    later (i, g) = (suc i, g)

    go : (q == x ≡ true) ⊎ (list_any (λ y. q == y) xs ≡ true) → (list_any (λ y. q == y) xs ≡ true → (i : ℕ) × (slice_get xs i ≡ Some q))
        → (i : ℕ) × (slice_get (x ∷ xs) i ≡ Some q)
    go (inl e) ih = (0, ap Some (sym (eqb-true q x e)))
    go (inr e) ih = later (ih e)

-- there are no more than the tree has nodes
pub few_marked : (tree : ComponentTree) (marked : List ℕ) → AreDisjointNodes tree marked → length marked ≤ length tree.rows
few_marked tree marked d =
    length-le_from_distinct_below marked (length tree.rows)
    (distinct_from marked (λ i j s t l f g e. ways_apart tree marked i j s t d l f g (inl (inl (sym e)))))
    (λ q h. below q (found marked q h))
  where
    below : (q : ℕ) → (i : ℕ) × (slice_get marked i ≡ Some q) → q < length tree.rows
    below q (i, g) = d.nodes i q g

pub few_rows : (tree : ComponentTree) (marked : List ℕ) → AreDisjointNodes tree marked → length tree.rows ≤ 2147483647
few_rows tree marked d =
    let a : length tree.rows ≡ length (nodes d.plane d.connect) = rows_are d.plane d.connect tree d.tree_is in
    let b : length (nodes d.plane d.connect) ≤ length d.plane.values = length-nodes-le d.plane d.connect in
    let e : length d.plane.values ≡ d.plane.shape.width * d.plane.shape.height = d.one_each in
    let f : d.plane.shape.width * d.plane.shape.height ≤ 2147483647 = d.plane.shape.within_limits.few_pixels in
    omega arith

-- ---- the number of a pixel

module _ (r : Raster) (connect : Connect) (tree : ComponentTree) (marked : List ℕ) (plane : IsPlane r) (same : tree ≡ tree_of r connect)
    (d : AreDisjointNodes tree marked) where
  node : (n : ℕ) → n < length tree.rows → n < length (nodes r connect)
  node n h = node_inside r connect tree n same h

  is_node : (j u : ℕ) → slice_get marked j ≡ Some u → u < length (nodes r connect)
  is_node j u g = node u (d.nodes j u g)

  apart : (i j s t q : ℕ) → i < j → slice_get marked i ≡ Some s → slice_get marked j ≡ Some t → is_in_node r connect s q ≡ true
      → is_in_node r connect t q ≡ true → ⊥
  apart i j s t q l f g in_s in_t =
      ways_apart tree marked i j s t d l f g
      (subst (λ (x : ComponentTree). IsOnWay x.rows s t ⊎ IsOnWay x.rows t s) (sym same)
      (way_from_shared r connect s t q plane (is_node i s f) (is_node j t g) in_s in_t))

  pub number-found : (i s p : ℕ) → slice_get marked i ≡ Some s → is_in_node r connect s p ≡ true → listed_number_at r connect marked p ≡ i + 1
  unfolding listed_number_at
  number-found i s p g h =
      place_found (λ n. is_in_node r connect n p) 1 marked i s g h
      (λ j u l f. false_from_ne_true (is_in_node r connect u p) (λ k. apart j i u s p l f g k h)) ∙ omega arith

  pub number-none : (p : ℕ) → ((j u : ℕ) → slice_get marked j ≡ Some u → is_in_node r connect u p ≡ false) → listed_number_at r connect marked p ≡ 0
  unfolding listed_number_at
  number-none p h = place_none (λ n. is_in_node r connect n p) 1 marked h

  pub number-same : (p q : ℕ) → ((j u : ℕ) → slice_get marked j ≡ Some u → is_in_node r connect u p ≡ is_in_node r connect u q)
      → listed_number_at r connect marked p ≡ listed_number_at r connect marked q
  unfolding listed_number_at
  number-same p q h = ap (λ (o : Option ℕ). unwrap_or o 0) (place_same (λ n. is_in_node r connect n p) (λ n. is_in_node r connect n q) 1 marked h)

  pub number_bound : (p : ℕ) → listed_number_at r connect marked p ≤ length marked
  unfolding listed_number_at
  number_bound p =
      let b : unwrap_or (position_from (λ n. is_in_node r connect n p) 1 marked) 0 + 1 ≤ 1 + length marked =
      place_bound (λ n. is_in_node r connect n p) 1 marked (omega arith) in omega arith

  -- the top of node m
  top_way : (u m : ℕ) → u < length (nodes r connect) → m < length (nodes r connect)
      → (is_in_node r connect u (top_of r connect m) ≡ true) ↔ IsOnWay (tree_of r connect).rows u m
  top_way u m hu hm =
      subst (λ (x : ℕ). (is_in_node r connect u (top_of r connect m) ≡ true) ↔ IsOnWay (tree_of r connect).rows u x) (node_of_top r connect m hm)
      (holds-way r connect u (top_of r connect m) plane hu (top-defined r connect m hm))

  pub number_of_marked : (i n : ℕ) → n < length tree.rows → slice_get marked i ≡ Some n → listed_number_at r connect marked (top_of r connect n) ≡ i + 1
  number_of_marked i n h g = number-found i n (top_of r connect n) g (top_inside r connect n (node n h))

  -- a node that isn't in the list
  pub number_of_child : (n p : ℕ) → n < length tree.rows → p ≡ parent_of_node r connect n → p < n → ((j : ℕ) → slice_get marked j ≡ Some n → ⊥)
      → listed_number_at r connect marked (top_of r connect p) ≡ listed_number_at r connect marked (top_of r connect n)
  number_of_child n p h is_parent l out = number-same (top_of r connect p) (top_of r connect n) each
    where
      hn : n < length (nodes r connect)
      hn = node n h

      hp : p < length (nodes r connect)
      hp = omega (arith, hn)

      each : (j u : ℕ) → slice_get marked j ≡ Some u → is_in_node r connect u (top_of r connect p) ≡ is_in_node r connect u (top_of r connect n)
      each j u g = same_bool (is_in_node r connect u (top_of r connect p)) (is_in_node r connect u (top_of r connect n)) down up
        where
          down : is_in_node r connect u (top_of r connect p) ≡ true → is_in_node r connect u (top_of r connect n) ≡ true
          down k = (top_way u n (is_node j u g) hn).1
              (inr (way_of_child (tree_of r connect).rows u n p (sym is_parent) (row_from_node r connect p hp) ((top_way u p (is_node j u g) hp).0 k)))

          from : IsOnWay (tree_of r connect).rows u n → is_in_node r connect u (top_of r connect p) ≡ true
          from (inl e) = absurd (out j (g ∙ ap Some (sym e)))
          from (inr a) =
              let x : HasParent (tree_of r connect).rows u n = way_up (tree_of r connect).rows u n a in
              (top_way u p (is_node j u g) hp).1 (subst (λ (y : ℕ). IsOnWay (tree_of r connect).rows u y) (sym x.is_parent ∙ sym is_parent) x.way)

          up : is_in_node r connect u (top_of r connect n) ≡ true → is_in_node r connect u (top_of r connect p) ≡ true
          up k = from ((top_way u n (is_node j u g) hn).0 k)

  pub number_of_root : (n p : ℕ) → n < length tree.rows → p ≡ parent_of_node r connect n → p ≡ no_node → ((j : ℕ) → slice_get marked j ≡ Some n → ⊥)
      → listed_number_at r connect marked (top_of r connect n) ≡ 0
  number_of_root n p h is_parent none out =
      number-none (top_of r connect n) (λ j u g. false_from_ne_true (is_in_node r connect u (top_of r connect n))
      (λ k. from j u g ((top_way u n (is_node j u g) (node n h)).0 k)))
    where
      from : (j u : ℕ) → slice_get marked j ≡ Some u → IsOnWay (tree_of r connect).rows u n → ⊥
      from j u g (inl e) = out j (g ∙ ap Some (sym e))
      from j u g (inr a) =
          let x : HasParent (tree_of r connect).rows u n = way_up (tree_of r connect).rows u n a in
          below_no_node r connect x.up plane (node_from_row r connect x.up x.inside) (sym x.is_parent ∙ sym is_parent ∙ none)

  -- ---- pixels

  numbers_read : (p : ℕ) → p < length tree.node_of → slice_index tree.node_of p ≡ node_of r connect p
  unfolding tree_of
  numbers_read p h =
      ap (λ (t : ComponentTree). slice_index t.node_of p) same
      ∙ read-node_of r connect p (let l : length tree.node_of ≡ length r.values = numbers_for_pixels r tree (connect, same) in omega arith)

  undefined_none : (p : ℕ) → is_defined r p ≡ false → node_of r connect p ≡ no_node
  unfolding node_of
  undefined_none p e = rw e refl

  pub number_of_defined : (p n : ℕ) → p < length tree.node_of → n ≡ slice_index tree.node_of p → (n ≡ no_node → ⊥)
      → (n < length tree.rows) × (listed_number_at r connect marked (top_of r connect n) ≡ listed_number_at r connect marked p)
  number_of_defined p n h e some = go (is_defined r p) refl
    where
      is : n ≡ node_of r connect p
      is = e ∙ numbers_read p h

      go : (b : Bool) → is_defined r p ≡ b
          → (n < length tree.rows) × (listed_number_at r connect marked (top_of r connect n) ≡ listed_number_at r connect marked p)
      go false u = absurd (some (is ∙ undefined_none p u))
      go true u =
          (let l : length tree.rows ≡ length (nodes r connect) = rows_are r connect tree same in omega (arith, hn), number-same (top_of r connect n) p each)
        where
          hn : n < length (nodes r connect)
          hn = subst (λ (x : ℕ). x < length (nodes r connect)) (sym is) (Nodes.node_of-is r connect p u).below

          each : (j v : ℕ) → slice_get marked j ≡ Some v → is_in_node r connect v (top_of r connect n) ≡ is_in_node r connect v p
          each j v g = same_bool (is_in_node r connect v (top_of r connect n)) (is_in_node r connect v p)
              (λ k. (holds-way r connect v p plane (is_node j v g) u).1
              (subst (λ (x : ℕ). IsOnWay (tree_of r connect).rows v x) is ((top_way v n (is_node j v g) hn).0 k)))
              (λ k. (top_way v n (is_node j v g) hn).1
              (subst (λ (x : ℕ). IsOnWay (tree_of r connect).rows v x) (sym is) ((holds-way r connect v p plane (is_node j v g) u).0 k)))

  pub number_of_undefined : (p n : ℕ) → p < length tree.node_of → n ≡ slice_index tree.node_of p → n ≡ no_node → listed_number_at r connect marked p ≡ 0
  number_of_undefined p n h e none =
      number-none p (λ j u g. false_from_ne_true (is_in_node r connect u p) (λ k.
      below_no_node r connect (node_of r connect p) plane (Nodes.node_of-is r connect p (in_node-defined r connect u p k)).below
      (sym (e ∙ numbers_read p h) ∙ none)))

-- ---- marking

pub marked_none : (size : ℕ) (marked numbers : List ℕ) → length numbers ≡ size → ((n : ℕ) → slice_index numbers n ≡ 0) → AreMarked size marked 0 numbers
marked_none size marked numbers l e = record { one_each = l; sound = λ n h. inl (e n); complete = λ i n h. absurd (omega arith) }

pub marked_more : (size : ℕ) (marked numbers : List ℕ) (i n v : ℕ) → AreMarked size marked i numbers → slice_get marked i ≡ Some n → n < size → v ≡ i + 1
    → AreMarked size marked (i + 1) (set numbers n v)
marked_more size marked numbers i n v h g inside e = record {
  one_each = length-set numbers n v ∙ h.one_each;
  sound = λ m x. sound m (cases_eq m n) (h.sound m x);
  complete = λ j m x f z. complete j m (cases_eq m n) (cases_lt j i) x f z;
}
  where
    here : n < length numbers
    here = omega (arith, h.one_each)

    at_n : slice_index (set numbers n v) n ≡ i + 1
    at_n = get_or-set_same numbers n v 0 here ∙ e

    sound : (m : ℕ) → (m ≡ n) ⊎ (m ≡ n → ⊥)
        → (slice_index numbers m ≡ 0) ⊎ ((j : ℕ) × (j < i) × (slice_get marked j ≡ Some m) × (slice_index numbers m ≡ j + 1))
        → (slice_index (set numbers n v) m ≡ 0) ⊎ ((j : ℕ) × (j < i + 1) × (slice_get marked j ≡ Some m) × (slice_index (set numbers n v) m ≡ j + 1))
    sound m (inl s) old = inr (i, omega arith, g ∙ ap Some (sym s), ap (λ (x : ℕ). slice_index (set numbers n v) x) s ∙ at_n)
    sound m (inr s) (inl z) = inl (get_or-set_other numbers n m v 0 s ∙ z)
    sound m (inr s) (inr (j, l, f, z)) = inr (j, omega arith, f, get_or-set_other numbers n m v 0 s ∙ z)

    complete : (j m : ℕ) → (m ≡ n) ⊎ (m ≡ n → ⊥) → (j < i) ⊎ (i ≤ j) → j < i + 1 → slice_get marked j ≡ Some m → slice_index (set numbers n v) m ≡ 0 → ⊥
    complete j m (inl s) t x f z =
        let a : slice_index (set numbers n v) m ≡ i + 1 = ap (λ (y : ℕ). slice_index (set numbers n v) y) s ∙ at_n in absurd (omega arith)
    complete j m (inr s) (inl t) x f z = h.complete j m t f (sym (get_or-set_other numbers n m v 0 s) ∙ z)
    complete j m (inr s) (inr t) x f z = let b : j ≡ i = omega arith in s (same_Some m n (sym f ∙ ap (slice_get marked) b ∙ g))

pub marked_up_to : (size : ℕ) (marked numbers : List ℕ) (j k : ℕ) → AreMarked size marked k numbers → j ≡ k → AreMarked size marked j numbers
marked_up_to size marked numbers j k h e = subst (λ (n : ℕ). AreMarked size marked n numbers) (sym e) h

-- ---- passing down

pub numbered_none : (tree : ComponentTree) (marked numbers : List ℕ) → length numbers ≡ length tree.rows → AreNumbered tree marked 0 numbers
numbered_none tree marked numbers l = record { one_each = l; each = λ r connect plane e n h. absurd (omega arith) }

-- a node that isn't marked isn't in the list
unmarked : (tree : ComponentTree) (marked first : List ℕ) (n : ℕ) → AreMarked (length tree.rows) marked (length marked) first → slice_index first n ≡ 0
    → (j : ℕ) → slice_get marked j ≡ Some n → ⊥
unmarked tree marked first n m z j g = m.complete j n (slice_get_within marked j n g) g z

pub numbered_child : (tree : ComponentTree) (marked first numbers : List ℕ) (n p x : ℕ) → AreDisjointNodes tree marked
    → AreMarked (length tree.rows) marked (length marked) first
    → AreNumbered tree marked n numbers → n < length tree.rows → slice_index first n ≡ 0 → parent_in tree.rows n ≡ p → p < n → x ≡ slice_index numbers p
    → AreNumbered tree marked (n + 1) (set numbers n x)
numbered_child tree marked first numbers n p x d m h inside zeros is_parent l e = record {
  one_each = length-set numbers n x ∙ h.one_each;
  each = λ r connect plane same.
      filled numbers n x 0 (λ k. listed_number_at r connect marked (top_of r connect k)) (let a : length numbers ≡ length tree.rows = h.one_each in omega arith)
      (h.each r connect plane same)
      (e ∙ h.each r connect plane same p l
      ∙ number_of_child r connect tree marked plane same d n p inside (sym is_parent ∙ ap (λ (t : ComponentTree). parent_in t.rows n) same) l
      (unmarked tree marked first n m zeros));
}

one_further : (tree : ComponentTree) (marked numbers : List ℕ) (n : ℕ) → AreNumbered tree marked n numbers
    → ((r : Raster) (connect : Connect) → IsPlane r → tree ≡ tree_of r connect → slice_index numbers n
    ≡ listed_number_at r connect marked (top_of r connect n)) → AreNumbered tree marked (n + 1) numbers
one_further tree marked numbers n h here = record { one_each = h.one_each; each = λ r connect plane same k l. go r connect plane same k (cases_lt k n) l }
  where
    go : (r : Raster) (connect : Connect) → IsPlane r → tree ≡ tree_of r connect → (k : ℕ) → (k < n) ⊎ (n ≤ k) → k < n + 1
        → slice_index numbers k ≡ listed_number_at r connect marked (top_of r connect k)
    go r connect plane same k (inl x) l = h.each r connect plane same k x
    go r connect plane same k (inr x) l =
        let e : n ≡ k =
        omega arith in subst (λ (y : ℕ). slice_index numbers y ≡ listed_number_at r connect marked (top_of r connect y)) e (here r connect plane same)

pub numbered_marked : (tree : ComponentTree) (marked first numbers : List ℕ) (n : ℕ) → AreDisjointNodes tree marked
    → AreMarked (length tree.rows) marked (length marked) first
    → AreNumbered tree marked n numbers → n < length tree.rows → slice_index numbers n ≡ slice_index first n → (slice_index numbers n ≡ 0 → ⊥)
    → AreNumbered tree marked (n + 1) numbers
numbered_marked tree marked first numbers n d m h inside still some =
    one_further tree marked numbers n h (λ r connect plane same. go r connect plane same (m.sound n inside))
  where
    go : (r : Raster) (connect : Connect) → IsPlane r → tree ≡ tree_of r connect
        → (slice_index first n ≡ 0) ⊎ ((i : ℕ) × (i < length marked) × (slice_get marked i ≡ Some n) × (slice_index first n ≡ i + 1))
        → slice_index numbers n ≡ listed_number_at r connect marked (top_of r connect n)
    go r connect plane same (inl z) = absurd (some (still ∙ z))
    go r connect plane same (inr (i, l, g, z)) = still ∙ z ∙ sym (number_of_marked r connect tree marked plane same d i n inside g)

pub numbered_root : (tree : ComponentTree) (marked first numbers : List ℕ) (n p : ℕ) → AreDisjointNodes tree marked
    → AreMarked (length tree.rows) marked (length marked) first
    → AreNumbered tree marked n numbers → n < length tree.rows → slice_index numbers n ≡ slice_index first n → slice_index numbers n ≡ 0
    → parent_in tree.rows n ≡ p → p ≡ no_node
    → AreNumbered tree marked (n + 1) numbers
numbered_root tree marked first numbers n p d m h inside still z is_parent none =
    one_further tree marked numbers n h (λ r connect plane same.
    z ∙ sym (number_of_root r connect tree marked plane same d n p inside (sym is_parent ∙ ap (λ (t : ComponentTree). parent_in t.rows n) same) none
    (unmarked tree marked first n m (sym still ∙ z))))

pub numbered_up_to : (tree : ComponentTree) (marked numbers : List ℕ) (j k : ℕ) → AreNumbered tree marked k numbers → j ≤ k → AreNumbered tree marked j numbers
numbered_up_to tree marked numbers j k h l = record { one_each = h.one_each; each = λ r connect plane same n x. h.each r connect plane same n (omega arith) }

pub untouched : (first numbers : List ℕ) (n x : ℕ) → ((m : ℕ) → n ≤ m → slice_index numbers m ≡ slice_index first m) → (m : ℕ) → n + 1 ≤ m
    → slice_index (set numbers n x) m ≡ slice_index first m
untouched first numbers n x h m l = get_or-set_other numbers n m x 0 (λ e. absurd (omega arith)) ∙ h m (omega arith)

pub untouched_yet : (first numbers : List ℕ) (n : ℕ) → ((m : ℕ) → n ≤ m → slice_index numbers m ≡ slice_index first m) → (m : ℕ) → n + 1 ≤ m
    → slice_index numbers m ≡ slice_index first m
untouched_yet first numbers n h m l = h m (omega arith)
