-- The pass over the pixels that adds each at the listed node that holds it, and what it has added in the end.
use Rattle.std.proofs.Common.{◌≡◌, ℕ, ◌+◌, ◌-◌, ◌*◌, ◌<◌, ◌≤◌, zero, suc, Bool, true, false, cond, List, [], ◌∷◌, ◌++◌, length, map, refl, sym, ◌∙◌, ap, subst, arith}
use Rattle.std.proofs.Common.{◌⊎◌, inl, inr, get_or, add-one}
use Rattle.std.specs.Prelude.{ℤ, ◌==◌, Option, Some, unwrap_or, slice_get, slice_index}
use Rattle.std.specs.List.{range_with_len, position_from}
use Rattle.std.proofs.lemmas.Bool.{eq-eqb, eqb-true, ne_eqb, cases_lt, and_from, and_parts, and_right}
use Rattle.std.proofs.lemmas.List.{get_or-map, length-map}
use Rattle.std.proofs.lemmas.Option.{slice_get_within, same_Some}
use mir.Syntax.{w64}
use mir.Val.{to_z, of_z}
use Rattle.lemmas.proofs.Exported.{same_bool}
use Rattle.comp_tree.specs.declared.shape.Connect.{Connect}
use Rattle.comp_tree.specs.Limits.{IsWithin, value_bound}
use Rattle.comp_tree.specs.Raster.{Raster, IsPlane, HasValuesInRange, pixels, is_defined, level, value_at}
use Rattle.comp_tree.specs.ComponentTree.{ComponentTree, no_node}
use Rattle.comp_tree.specs.Components.{is_in_node, tree_of}
use Rattle.comp_tree.specs.Laws.{top_of}
use Rattle.comp_tree.specs.Nesting.{pixels_of}
use Rattle.comp_tree.proofs.Exported.{below_from_defined, in_node-defined}
use Rattle.comp_tree.proofs.Exported as Nodes
use Rattle.node_sums.specs.declared.entry.Sums.{Sums}
use Rattle.node_sums.specs.Sums.{sums_over, sums_of, AreSumsOfNode, AreSumsOfNodes}
use Rattle.node_sums.specs.Sizes.{IsUpTo}
use Rattle.node_sums.specs.DisjointNodes.{listed_number_at, AreDisjointNodes, AreNumbered}
use Rattle.node_sums.specs.Merging.{sums_at_place, is_own, AreOwn, AreOwnTo, place_from, places_of}
use Rattle.node_sums.proofs.Passes.{range-push, filter_no, filter_same, IsTurn, turn_from_code, numbers_for_pixels, number_below}
use Rattle.node_sums.proofs.Marks.{few_marked, few_rows, number-found, number_of_defined, number_bound}

-- ---- the place of a pixel

place-read : (numbers node_of : List ℕ) (p : ℕ) → p < length node_of
    → slice_index (places_of numbers node_of) p ≡ place_from (slice_index numbers (slice_index node_of p))
place-read numbers node_of p h = get_or-map (λ n. place_from (slice_index numbers n)) node_of p 0 0 h

pub positive : (k : ℕ) → (k ≡ 0 → ⊥) → 0 < k
positive zero some = absurd (some refl)
positive (suc k) some = omega arith

place_before : (k : ℕ) → 0 < k → place_from k ≡ k - 1
place_before zero l = absurd (omega arith)
place_before (suc k) l = omega arith

pub place_listed : (numbers node_of : List ℕ) (p k : ℕ) → p < length node_of → k ≡ slice_index numbers (slice_index node_of p) → (k ≡ 0 → ⊥)
    → slice_index (places_of numbers node_of) p ≡ k - 1
place_listed numbers node_of p k h e some = place-read numbers node_of p h ∙ ap place_from (sym e) ∙ place_before k (positive k some)

pub place_unlisted : (numbers node_of : List ℕ) (p k : ℕ) → p < length node_of → k ≡ slice_index numbers (slice_index node_of p) → k ≡ 0
    → slice_index (places_of numbers node_of) p ≡ no_node
place_unlisted numbers node_of p k h e none = place-read numbers node_of p h ∙ ap place_from (sym e ∙ none)

-- ---- a turn of the pass

pub listed_turn : (r : Raster) (numbers node_of : List ℕ) (sums : List Sums) (first row column p k : ℕ) (v : ℤ) (got : Option ℤ) (d pixel : Sums)
    → AreOwnTo r (places_of numbers node_of) p sums → first ≡ row * r.shape.width → p ≡ first + column → column < r.shape.width → p < length r.values
    → got ≡ value_at r.values p → got ≡ Some v → IsWithin (value_bound (length r.values)) v → pixel ≡ sums_at_place (column + 1) (row + 1) p (to_z w64 (of_z w64 v))
    → p < length node_of → k ≡ slice_index numbers (slice_index node_of p) → (k ≡ 0 → ⊥) → k ≤ length sums
    → IsTurn r (places_of numbers node_of) sums p (k - 1) v (get_or sums (k - 1) d) pixel
listed_turn r numbers node_of sums first row column p k v got d pixel own begins at within inside reads is in_range made there e some few =
    let place : slice_index (places_of numbers node_of) p ≡ k - 1 = place_listed numbers node_of p k there e some in
    let least : 0 < k = positive k some in
    subst (λ (n : ℕ). IsTurn r (places_of numbers node_of) sums p n v (get_or sums n d) pixel) place
    (turn_from_code r (places_of numbers node_of) sums first row column p v got d pixel own begins at within inside reads is in_range made
    (omega (arith, place, least, few)))

-- a pixel that no listed node holds is added nowhere
pub to_next_unlisted : (r : Raster) (places : List ℕ) (sums : List Sums) (p : ℕ) (v : ℤ) → AreOwnTo r places p sums → value_at r.values p ≡ Some v
    → IsWithin (value_bound (length r.values)) v → length sums ≤ 2147483647 → slice_index places p ≡ no_node → AreOwnTo r places (p + 1) sums
to_next_unlisted r places sums p v h is in_range few none = record {
  own = subst (λ (ps : List ℕ). AreOwn r places ps sums) (sym next) (record {
    own = λ m s g. h.own.own m s g
        ∙ ap (sums_over r) (sym (filter_no (is_own r places m) (range_with_len 0 p) p
        (and_right (is_defined r p) (slice_index places p == m) (ne_eqb (slice_index places p) m
        (λ e. let inside : m < length sums = slice_get_within sums m s g in let far : no_node ≡ m = sym none ∙ e in absurd (omega (arith, inside, far, few)))))));
  });
  small = λ q l. go q (cases_lt q p) l;
}
  where
    next : range_with_len 0 (p + 1) ≡ range_with_len 0 p ++ p ∷ []
    next = rw add-one (range-push 0 p p (omega arith))

    go : (q : ℕ) → (q < p) ⊎ (p ≤ q) → q < p + 1 → IsUpTo (value_bound (length r.values)) (level r q)
    go q (inl k) l = h.small q k
    go q (inr k) l =
        let e : p ≡ q = omega arith in
        subst (λ (j : ℕ). IsUpTo (value_bound (length r.values)) (level r j)) e
        (subst (IsUpTo (value_bound (length r.values))) (sym (Nodes.level-value r p v is)) (record { low = in_range.low; high = in_range.high }))

-- ---- what holds the place that was found

place_low : (test : ℕ → Bool) (k : ℕ) (xs : List ℕ)
    → (unwrap_or (position_from test k xs) 0 ≡ 0) ⊎ (k ≤ unwrap_or (position_from test k xs) 0)
place_low test k [] = inl refl
place_low test k (x ∷ xs) = go (test x) (place_low test (k + 1) xs)
  where
    go : (b : Bool) → (unwrap_or (position_from test (k + 1) xs) 0 ≡ 0) ⊎ (k + 1 ≤ unwrap_or (position_from test (k + 1) xs) 0)
        → (unwrap_or (cond b (Some k) (position_from test (k + 1) xs)) 0 ≡ 0) ⊎ (k ≤ unwrap_or (cond b (Some k) (position_from test (k + 1) xs)) 0)
    go true ih = inr (omega arith)
    go false (inl e) = inl e
    go false (inr l) = inr (omega arith)

place_holds : (test : ℕ → Bool) (k : ℕ) (xs : List ℕ) (i s : ℕ) → 1 ≤ k → slice_get xs i ≡ Some s → unwrap_or (position_from test k xs) 0 ≡ k + i
    → test s ≡ true
place_holds test k [] i s l g h = absurd (cc)
place_holds test k (x ∷ xs) zero s l g h = go (test x) refl (place_low test (k + 1) xs)
  where
    go : (b : Bool) → test x ≡ b → (unwrap_or (position_from test (k + 1) xs) 0 ≡ 0) ⊎ (k + 1 ≤ unwrap_or (position_from test (k + 1) xs) 0) → test s ≡ true
    go true u low = ap test (sym (same_Some x s g)) ∙ u
    go false u (inl e) =
        let f : unwrap_or (position_from test (k + 1) xs) 0 ≡ k + 0 =
        ap (λ (b : Bool). unwrap_or (cond b (Some k) (position_from test (k + 1) xs)) 0) (sym u) ∙ h in
        absurd (omega (arith, e, f, l))
    go false u (inr le) =
        let f : unwrap_or (position_from test (k + 1) xs) 0 ≡ k + 0 =
        ap (λ (b : Bool). unwrap_or (cond b (Some k) (position_from test (k + 1) xs)) 0) (sym u) ∙ h in
        absurd (omega (arith, le, f))
place_holds test k (x ∷ xs) (suc i) s l g h = go (test x) refl (λ f. place_holds test (k + 1) xs i s (omega arith) g f)
  where
    go : (b : Bool) → test x ≡ b → (unwrap_or (position_from test (k + 1) xs) 0 ≡ k + 1 + i → test s ≡ true) → test s ≡ true
    go true u later =
        let f : k ≡ k + suc i = ap (λ (b : Bool). unwrap_or (cond b (Some k) (position_from test (k + 1) xs)) 0) (sym u) ∙ h in absurd (omega arith)
    go false u later =
        let f : unwrap_or (position_from test (k + 1) xs) 0 ≡ k + suc i =
        ap (λ (b : Bool). unwrap_or (cond b (Some k) (position_from test (k + 1) xs)) 0) (sym u) ∙ h in
        later (omega (arith, f))

-- ---- the sums in the end

same_by_places : (f : ℕ → Sums) (listed : List ℕ) (sums : List Sums) → length sums ≡ length listed
    → ((i n : ℕ) (s : Sums) → slice_get sums i ≡ Some s → slice_get listed i ≡ Some n → s ≡ f n) → sums ≡ map f listed
same_by_places f [] [] l h = refl
same_by_places f [] (s ∷ sums) l h = absurd (omega arith)
same_by_places f (n ∷ listed) [] l h = absurd (omega arith)
same_by_places f (n ∷ listed) (s ∷ sums) l h =
    ap (λ (x : Sums). x ∷ sums) (h 0 n s refl refl)
    ∙ ap (λ (xs : List Sums). f n ∷ xs) (same_by_places f listed sums (omega (arith, l)) (λ i m t g k. h (suc i) m t g k))

module _ (r : Raster) (connect : Connect) (tree : ComponentTree) (listed numbers : List ℕ) (plane : IsPlane r) (same : tree ≡ tree_of r connect)
    (d : AreDisjointNodes tree listed) (known : AreNumbered tree listed (length tree.rows) numbers) where
  few : length listed ≤ 2147483647
  few = omega (arith, few_marked tree listed d, few_rows tree listed d)

  -- the place of a defined pixel
  place_of_defined : (q : ℕ) → is_defined r q ≡ true → slice_index (places_of numbers tree.node_of) q ≡ place_from (listed_number_at r connect listed q)
  place_of_defined q on =
      place-read numbers tree.node_of q within
      ∙ ap place_from (known.each r connect plane same (slice_index tree.node_of q) both.0 ∙ both.1)
    where
      within : q < length tree.node_of
      within = let l : q < length r.values = below_from_defined r q on in omega (arith, l, numbers_for_pixels r tree (connect, same))

      below : slice_index tree.node_of q < length tree.rows
      below = number_below r tree (connect, same) q on

      both : (slice_index tree.node_of q < length tree.rows)
          × (listed_number_at r connect listed (top_of r connect (slice_index tree.node_of q)) ≡ listed_number_at r connect listed q)
      both = number_of_defined r connect tree listed plane same d q (slice_index tree.node_of q) within refl
          (λ e. absurd (omega (arith, e, below, few_rows tree listed d)))

  number_from_place : (k i : ℕ) → i < length listed → place_from k ≡ i → k ≡ i + 1
  number_from_place zero i l e = absurd (omega (arith, e, l, few))
  number_from_place (suc k) i l e = omega (arith, e)

  holds_same : (i n q : ℕ) → slice_get listed i ≡ Some n → is_own r (places_of numbers tree.node_of) i q ≡ is_in_node r connect n q
  unfolding listed_number_at
  holds_same i n q g = same_bool (is_own r (places_of numbers tree.node_of) i q) (is_in_node r connect n q) there back
    where
      there : is_own r (places_of numbers tree.node_of) i q ≡ true → is_in_node r connect n q ≡ true
      there k =
          let both = and_parts (is_defined r q) (slice_index (places_of numbers tree.node_of) q == i) k in
          let at : place_from (listed_number_at r connect listed q) ≡ i =
          sym (place_of_defined q both.0) ∙ eqb-true (slice_index (places_of numbers tree.node_of) q) i both.1 in
          let number : listed_number_at r connect listed q ≡ i + 1 =
          number_from_place (listed_number_at r connect listed q) i (slice_get_within listed i n g) at in
          place_holds (λ m. is_in_node r connect m q) 1 listed i n (omega arith) g (number ∙ omega arith)

      back : is_in_node r connect n q ≡ true → is_own r (places_of numbers tree.node_of) i q ≡ true
      back k =
          let on : is_defined r q ≡ true = in_node-defined r connect n q k in
          let number : listed_number_at r connect listed q ≡ i + 1 = number-found r connect tree listed plane same d i n q g k in
          and_from (is_defined r q) (slice_index (places_of numbers tree.node_of) q == i) on
          (eq-eqb (slice_index (places_of numbers tree.node_of) q) i
          (place_of_defined q on ∙ ap place_from (number ∙ add-one i)))

  pub listed_sums : (sums : List Sums) → length sums ≡ length listed → AreOwn r (places_of numbers tree.node_of) (pixels r) sums
      → sums ≡ map (sums_of r connect) listed
  unfolding sums_of pixels_of
  listed_sums sums l own = same_by_places (sums_of r connect) listed sums l
      (λ i n s g k. own.own i s g
      ∙ ap (sums_over r) (filter_same (is_own r (places_of numbers tree.node_of) i) (is_in_node r connect n) (pixels r) (λ q. holds_same i n q k)))

-- the numbers stay below the count of the nodes
pub numbers_up_to : (tree : ComponentTree) (listed numbers : List ℕ) → AreDisjointNodes tree listed → AreNumbered tree listed (length tree.rows) numbers
    → (n : ℕ) → slice_index numbers n ≤ length listed
numbers_up_to tree listed numbers d known n = go (cases_lt n (length tree.rows))
  where
    past : (xs : List ℕ) (m : ℕ) → length xs ≤ m → slice_index xs m ≡ 0
    past [] m h = refl
    past (x ∷ xs) zero h = absurd (omega arith)
    past (x ∷ xs) (suc m) h = past xs m (omega arith)

    go : (n < length tree.rows) ⊎ (length tree.rows ≤ n) → slice_index numbers n ≤ length listed
    go (inl l) = omega (
      arith,
      known.each d.plane d.connect d.one_each d.tree_is n l,
      number_bound d.plane d.connect tree listed d.one_each d.tree_is d (top_of d.plane d.connect n),
    )
    go (inr l) = omega (arith, past numbers n (omega (arith, l, known.one_each)))

pub sums_of_plane : (r : Raster) (connect : Connect) (tree : ComponentTree) (listed : List ℕ) (sums : List Sums) → IsPlane r → HasValuesInRange r.values
    → tree ≡ tree_of r connect → sums ≡ map (sums_of r connect) listed → AreSumsOfNodes tree listed sums
sums_of_plane r connect tree listed sums plane range same are = record {
  plane = r;
  connect = connect;
  one_each = plane;
  in_range = range;
  tree_is = same;
  sums_are = are;
}

-- ---- the sums of one of the nodes

pub count_of_sums : (tree : ComponentTree) (listed : List ℕ) (sums : List Sums) → AreSumsOfNodes tree listed sums → length sums ≡ length listed
count_of_sums tree listed sums s = ap length s.sums_are ∙ length-map listed (sums_of s.plane s.connect)

pub sums_at : (r : Raster) (connect : Connect) (listed : List ℕ) (sums : List Sums) (i : ℕ) (d : Sums) → sums ≡ map (sums_of r connect) listed → i < length listed
    → get_or sums i d ≡ sums_of r connect (get_or listed i 0)
sums_at r connect listed sums i d are l =
    ap (λ (xs : List Sums). get_or xs i d) are ∙ get_or-map (sums_of r connect) listed i 0 d l

pub sums_of_one : (tree : ComponentTree) (listed : List ℕ) (sums : List Sums) (i : ℕ) (d : Sums) → AreSumsOfNodes tree listed sums → i < length listed
    → AreSumsOfNode tree (get_or listed i 0) (get_or sums i d)
sums_of_one tree listed sums i d s l = record {
  plane = s.plane;
  connect = s.connect;
  one_each = s.one_each;
  in_range = s.in_range;
  tree_is = s.tree_is;
  sums_are = sums_at s.plane s.connect listed sums i d s.sums_are l;
}
