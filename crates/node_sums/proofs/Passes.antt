-- The steps of both passes: a pixel is added to its smallest node's entry, and a node's entry to that of its parent.
use Rattle.std.proofs.Common.{◌≡◌, ℕ, ◌+◌, ◌-◌, ◌*◌, ◌/◌, ◌%◌, ◌<◌, ◌≤◌, zero, suc, Bool, true, false, cond, List, [], ◌∷◌, ◌++◌}
use Rattle.std.proofs.Common.{length, map, take, refl, sym, ◌∙◌, ap, subst, arith, ◌⊎◌, inl, inr, get_or, set, add-one, lit<}
use Rattle.std.specs.Prelude.{IsTrue, is_some, ◌==◌, ℤ, Option, Some, None, filter, replicate, slice_get, slice_index, slice_index_or}
use Rattle.std.specs.List.{range_with_len}
use Rattle.std.proofs.lemmas.Bool.{eq-eqb, ne_eqb, cases_lt, and_from, and_left, and_right}
use Rattle.std.proofs.lemmas.List.{append-nil, length-set}
use Rattle.std.proofs.lemmas.List.Elements.{filter-append}
use Rattle.std.proofs.lemmas.Option.{slice_get-get_or, slice_get_within, get_or_from_slice_get}
use Rattle.std.proofs.lemmas.Int.{ints, to_z-of_z}
use Rattle.std.proofs.lemmas.Nat.{mod-mul-add, div-mul-add, mul-le}
use Rattle.std.proofs.Math.Nat.{mul_comm, suc-mul}
use mir.Syntax.{w64}
use mir.Val.{to_z, of_z}
use Rattle.comp_tree.specs.declared.shape.Connect.{Connect}
use Rattle.comp_tree.specs.declared.tree.NodeRow.{NodeRow}
use Rattle.comp_tree.specs.Limits.{IsWithin, value_bound}
use Rattle.comp_tree.proofs.Exported.{within_range}
use Rattle.comp_tree.specs.Raster.{Raster, IsPlane, HasValuesInRange, HasGap, pixels, is_defined, level, value_at}
use Rattle.comp_tree.specs.ComponentTree.{ComponentTree, parent_in, no_node}
use Rattle.comp_tree.specs.Components.{nodes, node_of, is_in_node, tree_of}
use Rattle.comp_tree.specs.Nesting.{pixels_of}
use Rattle.comp_tree.proofs.Exported.{length-rows, below_no_node, row-parent}
use Rattle.comp_tree.proofs.Exported as Nodes
use Rattle.node_sums.specs.declared.entry.Sums.{Sums}
use Rattle.node_sums.specs.Sums.{sums_over, sums_of, sums_in, IsTreeOfPlane}
use Rattle.node_sums.specs.Sizes.{IsUpTo, HasSizes, level_bound}
use Rattle.node_sums.specs.Counted.{is_counted}
use Rattle.node_sums.specs.Merging.{together, sums_of_pixel, is_own, AreCounted, AreOwn, AreOwnTo, sums_at_place}
use Rattle.node_sums.proofs.Merging.{sums_at, sums_over-push, sums_over-union}
use Rattle.node_sums.proofs.Sizes.{sizes, filtered_pixels, level_within}
use Rattle.node_sums.proofs.Counting.{GoesDown, goes_down, counted-start, counted-end, counted-same, counted-parent, number-is, IsUnion}
use Rattle.node_sums.proofs.Reading.{get-written, fits}

-- ---- lists

pub range-push : (a n j : ℕ) → j ≡ a + n → range_with_len a (suc n) ≡ range_with_len a n ++ j ∷ []
range-push a zero j e = ap (λ (x : ℕ). x ∷ []) (omega arith)
range-push a (suc n) j e = ap (λ (xs : List ℕ). a ∷ xs) (range-push (a + 1) n j (omega arith))

pub filter_yes : (test : ℕ → Bool) (ps : List ℕ) (p : ℕ) → test p ≡ true → filter test (ps ++ p ∷ []) ≡ filter test ps ++ p ∷ []
filter_yes test ps p h = filter-append test ps (p ∷ []) ∙ ap (λ (b : Bool). filter test ps ++ cond b (p ∷ []) []) h

pub filter_no : (test : ℕ → Bool) (ps : List ℕ) (p : ℕ) → test p ≡ false → filter test (ps ++ p ∷ []) ≡ filter test ps
filter_no test ps p h = filter-append test ps (p ∷ []) ∙ ap (λ (b : Bool). filter test ps ++ cond b (p ∷ []) []) h ∙ append-nil (filter test ps)

pub filter_same : (f g : ℕ → Bool) (ps : List ℕ) → ((q : ℕ) → f q ≡ g q) → filter f ps ≡ filter g ps
filter_same f g ps at = ap (λ (test : ℕ → Bool). filter test ps) (λ i q. at q i)

-- ---- the pass over the pixels

own_sum : (r : Raster) (node_of ps : List ℕ) (sums : List Sums) (n p : ℕ) (s : Sums) → AreOwn r node_of ps sums → is_defined r p ≡ true
    → slice_index node_of p ≡ n
    → slice_get sums n ≡ Some s → together s (sums_at r p) ≡ sums_over r (filter (is_own r node_of n) (ps ++ p ∷ []))
own_sum r node_of ps sums n p s h d e g =
    ap (λ (t : Sums). together t (sums_at r p)) (h.own n s g)
    ∙ sym (sums_over-push r p (filter (is_own r node_of n) ps))
    ∙ ap (sums_over r) (sym (filter_yes (is_own r node_of n) ps p
    (and_from (is_defined r p) (slice_index node_of p == n) d (eq-eqb (slice_index node_of p) n e))))

pub own_size : (r : Raster) (node_of : List ℕ) (sums : List Sums) (n p : ℕ) (s : Sums) → IsPlane r → AreOwn r node_of (range_with_len 0 p) sums
    → is_defined r p ≡ true
    → slice_index node_of p ≡ n → slice_get sums n ≡ Some s → p < length r.values → ((q : ℕ) → q < suc p → IsUpTo (value_bound (length r.values)) (level r q))
    → HasSizes (together s (sums_at r p))
own_size r node_of sums n p s plane h d e g l small =
    subst HasSizes (sym (own_sum r node_of (range_with_len 0 p) sums n p s h d e g))
    (subst (λ (ps : List ℕ). HasSizes (sums_over r (filter (is_own r node_of n) ps))) (range-push 0 p p (omega arith))
    (sizes r (filter (is_own r node_of n) (range_with_len 0 (suc p))) plane (filtered_pixels r (is_own r node_of n) (suc p) plane (omega arith) small)))

pub own_yes : (r : Raster) (node_of ps : List ℕ) (sums : List Sums) (n p : ℕ) (s v : Sums) → AreOwn r node_of ps sums → is_defined r p ≡ true
    → slice_index node_of p ≡ n
    → slice_get sums n ≡ Some s → v ≡ together s (sums_at r p) → AreOwn r node_of (ps ++ p ∷ []) (set sums n v)
own_yes r node_of ps sums n p s v h d e g k = record { own = λ m t f. go m t (get-written sums n v m t f) }
  where
    go : (m : ℕ) (t : Sums) → ((m ≡ n) × (v ≡ t)) ⊎ ((m ≡ n → ⊥) × (slice_get sums m ≡ Some t)) → t ≡ sums_over r (filter (is_own r node_of m) (ps ++ p ∷ []))
    go m t (inl x) =
        sym x.1 ∙ k ∙ own_sum r node_of ps sums n p s h d e g ∙ ap (λ (j : ℕ). sums_over r (filter (is_own r node_of j) (ps ++ p ∷ []))) (sym x.0)
    go m t (inr x) =
        h.own m t x.1
        ∙ ap (sums_over r) (sym (filter_no (is_own r node_of m) ps p
        (and_right (is_defined r p) (slice_index node_of p == m) (ne_eqb (slice_index node_of p) m (λ f. x.0 (sym f ∙ e))))))

pub own_no : (r : Raster) (node_of ps : List ℕ) (sums : List Sums) (p : ℕ) → AreOwn r node_of ps sums → is_defined r p ≡ false
    → AreOwn r node_of (ps ++ p ∷ []) sums
own_no r node_of ps sums p h d = record {
  own = λ m t f. h.own m t f ∙ ap (sums_over r) (sym (filter_no (is_own r node_of m) ps p (and_left (is_defined r p) (slice_index node_of p == m) d)));
}

-- ---- the pass over the nodes

-- before it each entry has the pixels whose smallest node it is
pub counted_from_own : (r : Raster) (tree : ComponentTree) (sums : List Sums) → IsPlane r → length sums ≡ length tree.rows
    → AreOwn r tree.node_of (pixels r) sums → AreCounted r tree (length tree.rows) sums
counted_from_own r tree sums plane l h = record { one_each = l; counted = counted }
  where
    counted : (connect : Connect) (m : ℕ) (s : Sums) → tree ≡ tree_of r connect → slice_get sums m ≡ Some s
        → s ≡ sums_over r (filter (is_counted r connect (length tree.rows) m) (pixels r))
    counted connect m s e g =
        h.own m s g ∙ ap (sums_over r) (filter_same (is_own r tree.node_of m) (is_counted r connect (length tree.rows) m) (pixels r) same)
      where
        same : (q : ℕ) → is_own r tree.node_of m q ≡ is_counted r connect (length tree.rows) m q
        same q =
            ap (λ (t : ComponentTree). is_own r t.node_of m q) e
            ∙ sym (counted-start r connect (length tree.rows) m q plane (ap (λ (t : ComponentTree). length t.rows) e ∙ length-rows r connect)
            (let inside : m < length sums = slice_get_within sums m s g in omega arith))

-- a list by its places
same_from_places : (f : ℕ → Sums) (n : ℕ) (sums : List Sums) → length sums ≡ n → ((m : ℕ) (s : Sums) → slice_get sums m ≡ Some s → s ≡ f m)
    → sums ≡ map f (range_with_len 0 n)
same_from_places f n sums l h = from 0 n sums l (λ m s g. h m s g ∙ ap f (omega arith))
  where
    from : (a n : ℕ) (xs : List Sums) → length xs ≡ n → ((m : ℕ) (s : Sums) → slice_get xs m ≡ Some s → s ≡ f (a + m)) → xs ≡ map f (range_with_len a n)
    from a zero [] l h = refl
    from a zero (x ∷ xs) l h = absurd (omega arith)
    from a (suc n) [] l h = absurd (omega arith)
    from a (suc n) (x ∷ xs) l h =
        let first : x ≡ f a = h 0 x refl ∙ ap f (omega arith) in
        let rest : xs ≡ map f (range_with_len (a + 1) n) = from (a + 1) n xs (omega arith) (λ m s g. h (suc m) s g ∙ ap f (omega arith)) in
        ap (λ (y : Sums). y ∷ xs) first ∙ ap (λ (ys : List Sums). f a ∷ ys) rest

-- after it each entry is the node's
pub sums_from_counted : (r : Raster) (connect : Connect) (tree : ComponentTree) (sums : List Sums) → AreCounted r tree 0 sums → tree ≡ tree_of r connect
    → sums ≡ sums_in r connect
unfolding sums_in sums_of pixels_of
sums_from_counted r connect tree sums h e =
    same_from_places (sums_of r connect) (length (nodes r connect)) sums
    (h.one_each ∙ ap (λ (t : ComponentTree). length t.rows) e ∙ length-rows r connect)
    (λ m s g. h.counted connect m s e g ∙ ap (sums_over r)
    (filter_same (is_counted r connect 0 m) (is_in_node r connect m) (pixels r) (counted-end r connect m)))

-- ---- a node is added to its parent

-- the numbers of the nodes that are there
pub rows_are : (r : Raster) (connect : Connect) (tree : ComponentTree) → tree ≡ tree_of r connect → length tree.rows ≡ length (nodes r connect)
rows_are r connect tree e = ap (λ (t : ComponentTree). length t.rows) e ∙ length-rows r connect

pub parent_is : (r : Raster) (connect : Connect) (tree : ComponentTree) (k : ℕ) → tree ≡ tree_of r connect
    → parent_in tree.rows k ≡ parent_in (tree_of r connect).rows k
parent_is r connect tree k e = ap (λ (t : ComponentTree). parent_in t.rows k) e

parent_sum : (r : Raster) (connect : Connect) (tree : ComponentTree) (sums : List Sums) (k a : ℕ) (s t : Sums) → IsPlane r → AreCounted r tree (suc k) sums
    → tree ≡ tree_of r connect
    → k < length tree.rows → parent_in tree.rows k ≡ a → a < length tree.rows → slice_get sums a ≡ Some s → slice_get sums k ≡ Some t
    → together s t ≡ sums_over r (filter (is_counted r connect k a) (pixels r))
parent_sum r connect tree sums k a s t plane h e hk p ha f g =
    let u : IsUnion (is_counted r connect k a) (is_counted r connect (suc k) a) (is_counted r connect (suc k) k) =
    counted-parent r connect k a plane (omega (arith, rows_are r connect tree e)) (sym (parent_is r connect tree k e) ∙ p)
    (omega (arith, rows_are r connect tree e)) in
    ap (λ (x : Sums). together x t) (h.counted connect a s e f)
    ∙ ap (together (sums_over r (filter (is_counted r connect (suc k) a) (pixels r)))) (h.counted connect k t e g)
    ∙ sym (sums_over-union r (is_counted r connect k a) (is_counted r connect (suc k) a) (is_counted r connect (suc k) k) (pixels r) u.apart u.rest)

pub parent_size : (r : Raster) (tree : ComponentTree) (sums : List Sums) (k a : ℕ) (s t : Sums) → IsPlane r → HasValuesInRange r.values
    → AreCounted r tree (suc k) sums → IsTreeOfPlane r tree
    → k < length tree.rows → parent_in tree.rows k ≡ a → a < length tree.rows → slice_get sums a ≡ Some s → slice_get sums k ≡ Some t → HasSizes (together s t)
unfolding pixels
parent_size r tree sums k a s t plane range h (connect, e) hk p ha f g =
    subst HasSizes (sym (parent_sum r connect tree sums k a s t plane h e hk p ha f g))
    (sizes r (filter (is_counted r connect k a) (range_with_len 0 (length r.values))) plane
    (filtered_pixels r (is_counted r connect k a) (length r.values) plane (omega arith) (λ q _. level_within r q range)))

pub parent_yes : (r : Raster) (tree : ComponentTree) (sums : List Sums) (k a : ℕ) (s t v : Sums) → IsPlane r → AreCounted r tree (suc k) sums
    → k < length tree.rows → parent_in tree.rows k ≡ a → a < length tree.rows → slice_get sums a ≡ Some s → slice_get sums k ≡ Some t
    → v ≡ together s t → AreCounted r tree k (set sums a v)
parent_yes r tree sums k a s t v plane h hk p ha f g w = record {
  one_each = length-set sums a v ∙ h.one_each;
  counted = λ connect m x e y. go connect m x e (get-written sums a v m x y);
}
  where
    go : (connect : Connect) (m : ℕ) (x : Sums) → tree ≡ tree_of r connect → ((m ≡ a) × (v ≡ x)) ⊎ ((m ≡ a → ⊥) × (slice_get sums m ≡ Some x))
        → x ≡ sums_over r (filter (is_counted r connect k m) (pixels r))
    go connect m x e (inl y) =
        sym y.1 ∙ w ∙ parent_sum r connect tree sums k a s t plane h e hk p ha f g
        ∙ ap (λ (j : ℕ). sums_over r (filter (is_counted r connect k j) (pixels r))) (sym y.0)
    go connect m x e (inr y) =
        h.counted connect m x e y.1
        ∙ ap (sums_over r) (filter_same (is_counted r connect (suc k) m) (is_counted r connect k m) (pixels r)
        (λ q. counted-same r connect k m q plane (omega (arith, rows_are r connect tree e)) (λ z _. y.0 (sym z ∙ sym (parent_is r connect tree k e) ∙ p))))

pub parent_no : (r : Raster) (tree : ComponentTree) (sums : List Sums) (k : ℕ) → IsPlane r → AreCounted r tree (suc k) sums
    → k < length tree.rows → parent_in tree.rows k ≡ no_node → AreCounted r tree k sums
parent_no r tree sums k plane h hk p = record { one_each = h.one_each; counted = counted }
  where
    counted : (connect : Connect) (m : ℕ) (x : Sums) → tree ≡ tree_of r connect → slice_get sums m ≡ Some x
        → x ≡ sums_over r (filter (is_counted r connect k m) (pixels r))
    counted connect m x e y =
        h.counted connect m x e y
        ∙ ap (sums_over r) (filter_same (is_counted r connect (suc k) m) (is_counted r connect k m) (pixels r)
        (λ q. counted-same r connect k m q plane (omega (arith, rows_are r connect tree e))
        (λ z l. below_no_node r connect m plane l (sym z ∙ sym (parent_is r connect tree k e) ∙ p))))

-- ---- a turn of the pass over the pixels

-- pixel p has the value v, and the code has made its sums and read its node's entry
pub record IsTurn (r : Raster) (node_of : List ℕ) (sums : List Sums) (p n : ℕ) (v : ℤ) (entry pixel : Sums) : Type 0 where
  pub own : AreOwn r node_of (range_with_len 0 p) sums
  pub small : (q : ℕ) → q < p → IsUpTo (value_bound (length r.values)) (level r q)
  pub inside : p < length r.values
  pub value : value_at r.values p ≡ Some v
  pub in_range : IsWithin (value_bound (length r.values)) v
  pub node : slice_index node_of p ≡ n
  pub entry_is : slice_get sums n ≡ Some entry
  pub pixel_is : pixel ≡ sums_of_pixel r.shape.width p v

pub turn_from_code : (r : Raster) (node_of : List ℕ) (sums : List Sums) (first row column p : ℕ) (v : ℤ) (got : Option ℤ) (d pixel : Sums)
    → AreOwnTo r node_of p sums → first ≡ row * r.shape.width → p ≡ first + column → column < r.shape.width → p < length r.values
    → got ≡ value_at r.values p → got ≡ Some v → IsWithin (value_bound (length r.values)) v → pixel ≡ sums_at_place (column + 1) (row + 1) p (to_z w64 (of_z w64 v))
    → slice_index node_of p < length sums → IsTurn r node_of sums p (slice_index node_of p) v (get_or sums (slice_index node_of p) d) pixel
turn_from_code r node_of sums first row column p v got d pixel h begins at within inside reads is in_range made there = record {
  own = h.own;
  small = h.small;
  inside = inside;
  value = sym reads ∙ is;
  in_range = in_range;
  node = refl;
  entry_is = slice_get-get_or sums (slice_index node_of p) d there;
  pixel_is =
      made
      ∙ ap (sums_at_place (column + 1) (row + 1) p) (to_z-of_z w64 v (fits w64 level_bound v (record { low = (within_range (length r.values) v in_range).low; high = (within_range (length r.values) v in_range).high }) (lit< tt)))
      ∙ ap (λ (x : ℕ). sums_at_place (x + 1) (row + 1) p v) (sym (ap (λ (n : ℕ). n % r.shape.width) place ∙ mod-mul-add row r.shape.width column within))
      ∙ ap (λ (y : ℕ). sums_at_place (p % r.shape.width + 1) (y + 1) p v)
      (sym (ap (λ (n : ℕ). n / r.shape.width) place ∙ div-mul-add row r.shape.width column within));
}
  where
    place : p ≡ row * r.shape.width + column
    place = at ∙ ap (λ (n : ℕ). n + column) begins

-- the pixels of a row are pixels of the plane
pub row_in_plane : (r : Raster) (row : ℕ) → IsPlane r → row < r.shape.height → row * r.shape.width + r.shape.width ≤ length r.values
row_in_plane r row plane below =
    let rows : suc row * r.shape.width ≤ r.shape.height * r.shape.width =
    mul-le (suc row) r.shape.width r.shape.height r.shape.width (omega arith) (omega arith) in
    let next : suc row * r.shape.width ≡ row * r.shape.width + r.shape.width = suc-mul row r.shape.width in
    omega (arith, plane, mul_comm r.shape.height r.shape.width)

-- a row of a plane is within it, and its numbers are small
pub record RowFits (r : Raster) (row width : ℕ) : Type 0 where
  pub inside : row * width + width ≤ length r.values
  pub small : row * width + width ≤ 2147483647
  pub few_columns : width ≤ 65535
  pub few_rows : row + 1 ≤ 65535

pub row_fits : (r : Raster) (row width : ℕ) → IsPlane r → width ≡ r.shape.width → row < r.shape.height → RowFits r row width
row_fits r row width plane same below =
    let inside : row * width + width ≤ length r.values =
    subst (λ (n : ℕ). row * n + n ≤ length r.values) (sym same) (row_in_plane r row plane below) in
    record {
      inside = inside;
      small = omega (arith, inside, plane, r.shape.within_limits.few_pixels);
      few_columns = omega (arith, same, r.shape.within_limits.few_columns);
      few_rows = omega (arith, below, r.shape.within_limits.few_rows);
    }

pub defined-of : (r : Raster) (p : ℕ) (v : ℤ) → value_at r.values p ≡ Some v → is_defined r p ≡ true
defined-of r p v e = ap (λ (o : Option ℤ). is_some o) e

pub undefined-of : (r : Raster) (p : ℕ) → value_at r.values p ≡ None → is_defined r p ≡ false
undefined-of r p e = ap (λ (o : Option ℤ). is_some o) e

pub level_undefined : (r : Raster) (p : ℕ) → value_at r.values p ≡ None → IsUpTo (value_bound (length r.values)) (level r p)
unfolding level
level_undefined r p e = rw e (record { low = omega (arith, ints); high = omega (arith, ints) })

pixel_at : (r : Raster) (p : ℕ) (v : ℤ) (pixel : Sums) → value_at r.values p ≡ Some v → pixel ≡ sums_of_pixel r.shape.width p v → pixel ≡ sums_at r p
pixel_at r p v pixel e k = k ∙ ap (sums_of_pixel r.shape.width p) (sym (Nodes.level-value r p v e))

pub turn_small : (r : Raster) (node_of : List ℕ) (sums : List Sums) (p n : ℕ) (v : ℤ) (entry pixel : Sums) → IsTurn r node_of sums p n v entry pixel
    → (q : ℕ) → q < p + 1 → IsUpTo (value_bound (length r.values)) (level r q)
turn_small r node_of sums p n v entry pixel t q l = go (cases_lt q p)
  where
    go : (q < p) ⊎ (p ≤ q) → IsUpTo (value_bound (length r.values)) (level r q)
    go (inl k) = t.small q k
    go (inr k) =
        let e : p ≡ q = omega arith in
        subst (λ (j : ℕ). IsUpTo (value_bound (length r.values)) (level r j)) e
        (subst (IsUpTo (value_bound (length r.values))) (sym (Nodes.level-value r p v t.value)) (record { low = t.in_range.low; high = t.in_range.high }))

pub turn_size : (r : Raster) (node_of : List ℕ) (sums : List Sums) (p n : ℕ) (v : ℤ) (entry pixel : Sums) → IsPlane r → IsTurn r node_of sums p n v entry pixel
    → HasSizes (together entry pixel)
turn_size r node_of sums p n v entry pixel plane t =
    subst (λ (s : Sums). HasSizes (together entry s)) (sym (pixel_at r p v pixel t.value t.pixel_is))
    (own_size r node_of sums n p entry plane t.own (defined-of r p v t.value) t.node t.entry_is t.inside
    (λ q l. turn_small r node_of sums p n v entry pixel t q (omega arith)))

pub turn_own : (r : Raster) (node_of : List ℕ) (sums : List Sums) (p n : ℕ) (v : ℤ) (entry pixel whole : Sums) → IsTurn r node_of sums p n v entry pixel
    → whole ≡ together entry pixel → AreOwn r node_of (range_with_len 0 (p + 1)) (set sums n whole)
turn_own r node_of sums p n v entry pixel whole t k =
    let next : range_with_len 0 (p + 1) ≡ range_with_len 0 p ++ p ∷ [] = rw add-one (range-push 0 p p (omega arith)) in
    subst (λ (ps : List ℕ). AreOwn r node_of ps (set sums n whole)) (sym next)
    (own_yes r node_of (range_with_len 0 p) sums n p entry whole t.own (defined-of r p v t.value) t.node t.entry_is
    (k ∙ ap (together entry) (pixel_at r p v pixel t.value t.pixel_is)))

pub turn_undefined : (r : Raster) (node_of : List ℕ) (sums : List Sums) (p : ℕ) → AreOwn r node_of (range_with_len 0 p) sums → value_at r.values p ≡ None
    → AreOwn r node_of (range_with_len 0 (p + 1)) sums
turn_undefined r node_of sums p h e =
    let next : range_with_len 0 (p + 1) ≡ range_with_len 0 p ++ p ∷ [] = rw add-one (range-push 0 p p (omega arith)) in
    subst (λ (ps : List ℕ). AreOwn r node_of ps sums) (sym next) (own_no r node_of (range_with_len 0 p) sums p h (undefined-of r p e))

pub small_undefined : (r : Raster) (p : ℕ) → ((q : ℕ) → q < p → IsUpTo (value_bound (length r.values)) (level r q)) → value_at r.values p ≡ None → (q : ℕ) → q < p + 1
    → IsUpTo (value_bound (length r.values)) (level r q)
small_undefined r p h e q l = go (cases_lt q p)
  where
    go : (q < p) ⊎ (p ≤ q) → IsUpTo (value_bound (length r.values)) (level r q)
    go (inl k) = h q k
    go (inr k) = let f : p ≡ q = omega arith in subst (λ (j : ℕ). IsUpTo (value_bound (length r.values)) (level r j)) f (level_undefined r p e)

pub to_next : (r : Raster) (node_of : List ℕ) (sums : List Sums) (p n : ℕ) (v : ℤ) (entry pixel whole : Sums) → IsTurn r node_of sums p n v entry pixel
    → whole ≡ together entry pixel
    → AreOwnTo r node_of (p + 1) (set sums n whole)
to_next r node_of sums p n v entry pixel whole t k = record {
  own = turn_own r node_of sums p n v entry pixel whole t k;
  small = turn_small r node_of sums p n v entry pixel t;
}

pub to_next_undefined : (r : Raster) (node_of : List ℕ) (sums : List Sums) (p : ℕ) → AreOwnTo r node_of p sums → value_at r.values p ≡ None
    → AreOwnTo r node_of (p + 1) sums
to_next_undefined r node_of sums p h e = record {
  own = turn_undefined r node_of sums p h.own e;
  small = small_undefined r p h.small e;
}

-- what a pixel without a value carries on, pixels without values carry on
carried_over : (values : List (Option ℤ)) (Holds : ℕ → Type 0) → ((p : ℕ) → value_at values p ≡ None → Holds p → Holds (p + 1))
    → (k n : ℕ) → HasGap values n (n + k) → Holds n → Holds (n + k)
carried_over values Holds step zero n gap h = subst Holds (let same : n ≡ n + 0 = omega arith in same) h
carried_over values Holds step (suc k) n gap h =
    subst Holds (let same : n + 1 + k ≡ n + suc k = omega arith in same)
    (carried_over values Holds step k (n + 1) (λ p low below. gap p (omega (arith, low)) (omega (arith, below)))
    (step n (gap n (omega arith) (omega arith)) h))

over_gap : (values : List (Option ℤ)) (Holds : ℕ → Type 0) → ((p : ℕ) → value_at values p ≡ None → Holds p → Holds (p + 1))
    → (n m : ℕ) → n ≤ m → HasGap values n m → Holds n → Holds m
over_gap values Holds step n m le gap h =
    let end : n + (m - n) ≡ m = omega arith in
    subst Holds end (carried_over values Holds step (m - n) n (λ p low below. gap p low (omega (arith, below, end))) h)

pub to_next_defined : (r : Raster) (node_of : List ℕ) (sums : List Sums) (n m : ℕ) → AreOwnTo r node_of n sums → n ≤ m → HasGap r.values n m
    → AreOwnTo r node_of m sums
to_next_defined r node_of sums n m h le gap =
    over_gap r.values (λ k. AreOwnTo r node_of k sums) (λ p e own. to_next_undefined r node_of sums p own e) n m le gap h

-- when all pixels were read, the values are in the range
pub range_from_small : (r : Raster) (n : ℕ) → length r.values ≤ n → ((q : ℕ) → q < n → IsUpTo (value_bound (length r.values)) (level r q)) → HasValuesInRange r.values
range_from_small r n l h p v e =
    let inside : p < length r.values = slice_get_within r.values p (Some v) e in
    let k : IsUpTo (value_bound (length r.values)) v =
    subst (IsUpTo (value_bound (length r.values))) (Nodes.level-value r p v (get_or_from_slice_get r.values p (Some v) None e)) (h p (omega arith)) in
    record { low = k.low; high = k.high }

pub own_all : (r : Raster) (node_of : List ℕ) (n : ℕ) (sums : List Sums) → n ≡ length r.values → AreOwn r node_of (range_with_len 0 n) sums
    → AreOwn r node_of (pixels r) sums
unfolding pixels
own_all r node_of n sums e h = subst (λ (k : ℕ). AreOwn r node_of (range_with_len 0 k) sums) e h

-- after the last row
pub all_rows : (row height width n : ℕ) → row ≤ height → height ≤ row → n ≡ width * height → row * width ≡ n
all_rows row height width n most least e = ap (λ (y : ℕ). y * width) (let same : row ≡ height = omega arith in same) ∙ mul_comm height width ∙ sym e

-- ---- a turn of the pass over the nodes

-- the nodes numbered above k were added; k has the parent a, and the code has read both entries
pub record IsStep (r : Raster) (tree : ComponentTree) (sums : List Sums) (k a : ℕ) (entry child : Sums) : Type 0 where
  pub counted : AreCounted r tree (suc k) sums
  pub below : k < length tree.rows
  pub parent : parent_in tree.rows k ≡ a
  pub inside : a < length tree.rows
  pub entry_is : slice_get sums a ≡ Some entry
  pub child_is : slice_get sums k ≡ Some child

pub parent_inside : (r : Raster) (tree : ComponentTree) (k a : ℕ) → IsPlane r → IsTreeOfPlane r tree → k < length tree.rows → parent_in tree.rows k ≡ a
    → (a ≡ no_node → ⊥) → a < length tree.rows
parent_inside r tree k a plane (connect, e) hk p some = go (g.parents k hk)
  where
    g : GoesDown tree.rows
    g = subst (λ (t : ComponentTree). GoesDown t.rows) (sym e) (goes_down r connect plane)

    go : (parent_in tree.rows k ≡ no_node) ⊎ (parent_in tree.rows k < k) → a < length tree.rows
    go (inl none) = absurd (some (sym p ∙ none))
    go (inr less) = omega arith

pub step_from_code : (r : Raster) (tree : ComponentTree) (sums : List Sums) (n : ℕ) (rows : List NodeRow) (row : NodeRow) (d e : Sums) → IsPlane r
    → IsTreeOfPlane r tree
    → AreCounted r tree n sums → 0 < n → n ≤ length rows → rows ≡ tree.rows → ((slice_index_or rows (n - 1) row).parent ≡ no_node → ⊥)
    → IsStep r tree sums (n - 1) (slice_index_or rows (n - 1) row).parent (get_or sums (slice_index_or rows (n - 1) row).parent d) (get_or sums (n - 1) e)
step_from_code r tree sums n rows row d e plane of_plane counted some most same has = record {
  counted = subst (λ (m : ℕ). AreCounted r tree m sums) next counted;
  below = below;
  parent = parent;
  inside = inside;
  entry_is = slice_get-get_or sums (slice_index_or rows (n - 1) row).parent d (omega (arith, inside, counted.one_each));
  child_is = slice_get-get_or sums (n - 1) e (omega (arith, below, counted.one_each));
}
  where
    next : n ≡ suc (n - 1)
    next = omega arith

    below : n - 1 < length tree.rows
    below = omega (arith, ap length same)

    parent : parent_in tree.rows (n - 1) ≡ (slice_index_or rows (n - 1) row).parent
    parent = ap (λ (xs : List NodeRow). parent_in xs (n - 1)) (sym same) ∙ sym (row-parent rows (n - 1) row (omega arith))

    inside : (slice_index_or rows (n - 1) row).parent < length tree.rows
    inside = parent_inside r tree (n - 1) (slice_index_or rows (n - 1) row).parent plane of_plane below parent has

pub parent_place : (r : Raster) (tree : ComponentTree) (sums : List Sums) (n : ℕ) (rows : List NodeRow) (row : NodeRow) → IsPlane r → IsTreeOfPlane r tree
    → AreCounted r tree n sums → 0 < n → n ≤ length rows → rows ≡ tree.rows → ((slice_index_or rows (n - 1) row).parent ≡ no_node → ⊥)
    → (slice_index_or rows (n - 1) row).parent < length sums
parent_place r tree sums n rows row plane of_plane counted some most same has =
    let below : n - 1 < length tree.rows = omega (arith, ap length same) in
    let parent : parent_in tree.rows (n - 1) ≡ (slice_index_or rows (n - 1) row).parent =
    ap (λ (xs : List NodeRow). parent_in xs (n - 1)) (sym same) ∙ sym (row-parent rows (n - 1) row (omega arith)) in
    omega (arith, parent_inside r tree (n - 1) (slice_index_or rows (n - 1) row).parent plane of_plane below parent has, counted.one_each)

pub step_size : (r : Raster) (tree : ComponentTree) (sums : List Sums) (k a : ℕ) (entry child : Sums) → IsPlane r → HasValuesInRange r.values
    → IsTreeOfPlane r tree
    → IsStep r tree sums k a entry child → HasSizes (together entry child)
step_size r tree sums k a entry child plane range of_plane s =
    parent_size r tree sums k a entry child plane range s.counted of_plane s.below s.parent s.inside s.entry_is s.child_is

pub step_counted : (r : Raster) (tree : ComponentTree) (sums : List Sums) (k a : ℕ) (entry child whole : Sums) → IsPlane r → IsStep r tree sums k a entry child
    → whole ≡ together entry child → AreCounted r tree k (set sums a whole)
step_counted r tree sums k a entry child whole plane s w =
    parent_yes r tree sums k a entry child whole plane s.counted s.below s.parent s.inside s.entry_is s.child_is w

pub step_root : (r : Raster) (tree : ComponentTree) (sums : List Sums) (n : ℕ) (rows : List NodeRow) (row : NodeRow) → IsPlane r → AreCounted r tree n sums
    → 0 < n → n ≤ length rows
    → rows ≡ tree.rows → (slice_index_or rows (n - 1) row).parent ≡ no_node → AreCounted r tree (n - 1) sums
step_root r tree sums n rows row plane counted some most same root =
    let next : n ≡ suc (n - 1) = omega arith in
    let parent : parent_in tree.rows (n - 1) ≡ (slice_index_or rows (n - 1) row).parent =
    ap (λ (xs : List NodeRow). parent_in xs (n - 1)) (sym same) ∙ sym (row-parent rows (n - 1) row (omega arith)) in
    parent_no r tree sums (n - 1) plane (subst (λ (m : ℕ). AreCounted r tree m sums) next counted) (omega (arith, ap length same)) (parent ∙ root)

-- ---- the lists that are handed from pass to pass

pub take_front : {X : Type 0} (ws xs : List X) (n : ℕ) → length ws ≡ n → take n (ws ++ xs) ≡ ws
take_front [] xs zero e = refl
take_front [] xs (suc n) e = absurd (omega arith)
take_front (w ∷ ws) xs zero e = absurd (omega arith)
take_front (w ∷ ws) xs (suc n) e = ap (λ (ys : List _). w ∷ ys) (take_front ws xs n (omega arith))

-- at first each entry has no pixel
pub own_none : (r : Raster) (node_of : List ℕ) (n : ℕ) (sums : List Sums) → sums ≡ replicate n (sums_over r []) → AreOwn r node_of [] sums
own_none r node_of n sums f = record { own = λ m s g. is_none n m s (sym (ap (λ (xs : List Sums). slice_get xs m) f) ∙ g) }
  where
    is_none : (k m : ℕ) (s : Sums) → slice_get (replicate k (sums_over r [])) m ≡ Some s → s ≡ sums_over r []
    is_none zero m s g = absurd (cc)
    is_none (suc k) zero s g = let x : sums_over r [] ≡ s = cc in sym x
    is_none (suc k) (suc m) s g = is_none k m s g

pub numbers_for_pixels : (r : Raster) (tree : ComponentTree) → IsTreeOfPlane r tree → length tree.node_of ≡ length r.values
numbers_for_pixels r tree (connect, e) = ap (λ (t : ComponentTree). length t.node_of) e ∙ Nodes.length-numbers r connect

pub number_below : (r : Raster) (tree : ComponentTree) → IsTreeOfPlane r tree → (p : ℕ) → IsTrue (is_defined r p)
    → slice_index tree.node_of p < length tree.rows
number_below r tree (connect, e) p d =
    let is : slice_index tree.node_of p ≡ node_of r connect p = ap (λ (t : ComponentTree). slice_index t.node_of p) e ∙ number-is r connect p d in
    omega (arith, is, (Nodes.node_of-is r connect p d).below, ap (λ (t : ComponentTree). length t.rows) e, length-rows r connect)
