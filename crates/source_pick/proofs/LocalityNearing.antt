-- Marks on the pixels near those of at least the threshold, and the plane without the others.
use Rattle.std.proofs.Common.{◌≡◌, ℕ, ◌+◌, ◌-◌, ◌*◌, ◌/◌, ◌<◌, ◌≤◌, Bool, true, false, cond, List, [], ◌∷◌, length, map, replicate, refl, sym, ◌∙◌, ap}
use Rattle.std.proofs.Common.{subst, arith, ◌⊎◌, inl, inr, set}
use Rattle.std.specs.Prelude.{IsTrue, ℤ, Option, Some, None, filter, slice_index_or, is_some}
use Rattle.std.specs.List.{range_with_len, list_any}
use Rattle.std.proofs.lemmas.Bool.{true≢false, or_cases, cases_eq, cases_lt}
use Rattle.std.proofs.lemmas.List.{length-map, length-set, get_or-set_same, get_or-set_other, get_or-replicate, get_or_past, length-replicate, ext_get_or}
use Rattle.std.proofs.lemmas.List.FromFn.{get_or-map-range_with_len, length-range_with_len}
use Rattle.lemmas.proofs.Exported.{IsAmong, IsWitness, among_from_filter, among_from_range, same_bool, witness_from_any}
use Rattle.comp_tree.specs.declared.shape.Connect.{Connect}
use Rattle.comp_tree.specs.Raster.{Raster, IsPlane, pixels, value_at, is_defined, is_at_least, without_unmarked}
use Rattle.comp_tree.specs.Grid.{distance, are_neighbours}
use Rattle.comp_tree.proofs.Exported.{are_neighbours_comm, defined_from_at_least, below_from_defined}
use Rattle.source_pick.specs.Locality.{is_beside_high, is_near_high, kept}
use Rattle.source_pick.specs.Clearing.{HasNoneBelow, IsAround, columns_beside, AreSetBetween, AreSetAround, AreMarkedNear}
use Rattle.source_pick.proofs.LocalityKeeping.{near_from_own, near_from_neighbour}
use Rattle.source_pick.proofs.LocalityAround.{first_row, last_row, IsPartOfRow, part_around, around_part, around_after, around_before}

-- ---- marks of a run of pixels

pub between_none : (start first end low : ℕ) (old : List Bool) → (low ≡ first) ⊎ (low ≡ start) → AreSetBetween start first end low old old
between_none start first end low old e = record {
  one_each = refl;
  sound = λ k m. inl m;
  kept = λ k m. m;
  complete = λ k l a b. elim e [
    | inl f ↦ absurd (omega arith)
    | inr f ↦ absurd (omega arith)
  ];
}

pub between_more : (start first end p : ℕ) (old new : List Bool) → AreSetBetween start first end p old new → first ≤ p → p < end → start ≤ p
    → p - start < length old
    → AreSetBetween start first end (p + 1) old (set new (p - start) true)
between_more start first end p old new s low high from inside = record {
  one_each = length-set new (p - start) true ∙ s.one_each;
  sound = λ k m. sound k m (cases_eq k (p - start));
  kept = λ k m. after k (cases_eq k (p - start)) (s.kept k m);
  complete = λ k l a b. complete k l a b (cases_eq k (p - start));
}
  where
    here : p - start < length new
    here = omega (arith, s.one_each, inside)

    at : (k : ℕ) → k ≡ p - start → slice_index_or (set new (p - start) true) k false ≡ true
    at k e = ap (λ (x : ℕ). slice_index_or (set new (p - start) true) x false) e ∙ get_or-set_same new (p - start) true false here

    after : (k : ℕ) → (k ≡ p - start) ⊎ (k ≡ p - start → ⊥) → slice_index_or new k false ≡ true → slice_index_or (set new (p - start) true) k false ≡ true
    after k (inl e) m = at k e
    after k (inr d) m = get_or-set_other new (p - start) k true false d ∙ m

    sound : (k : ℕ) → slice_index_or (set new (p - start) true) k false ≡ true → (k ≡ p - start) ⊎ (k ≡ p - start → ⊥)
        → (slice_index_or old k false ≡ true) ⊎ ((first ≤ start + k) × (start + k < end))
    sound k m (inl e) = inr (omega arith, omega arith)
    sound k m (inr d) = s.sound k (sym (get_or-set_other new (p - start) k true false d) ∙ m)

    complete : (k : ℕ) → k < length old → first ≤ start + k → start + k < p + 1 → (k ≡ p - start) ⊎ (k ≡ p - start → ⊥)
        → slice_index_or (set new (p - start) true) k false ≡ true
    complete k l a b (inl e) = at k e
    complete k l a b (inr d) = after k (inr d) (s.complete k l a (before (cases_eq (start + k) p)))
      where
        before : (start + k ≡ p) ⊎ (start + k ≡ p → ⊥) → start + k < p
        before (inl e) = absurd (d (omega arith))
        before (inr f) = go (cases_lt (start + k) p)
          where
            go : (start + k < p) ⊎ (p ≤ start + k) → start + k < p
            go (inl c) = c
            go (inr c) = absurd (f (omega arith))

pub between_all : (start first end p : ℕ) (old new : List Bool) → AreSetBetween start first end p old new → (end ≤ p) ⊎ (start + length old ≤ p)
    → AreSetBetween start first end end old new
between_all start first end p old new s all = record {
  one_each = s.one_each;
  sound = s.sound;
  kept = s.kept;
  complete = λ k l a b. elim all [
    | inl e ↦ s.complete k l a (omega arith)
    | inr e ↦ s.complete k l a (omega arith)
  ];
}

-- ---- marks around a pixel

pub around_none : (connect : Connect) (width x y start first : ℕ) (old : List Bool) → x < width → first ≡ y - 1
    → AreSetAround connect width (y * width + x) start (first * width) old old
around_none connect width x y start first old inside e = record {
  one_each = refl;
  sound = λ k m. inl m;
  kept = λ k m. m;
  complete = λ k l b a. absurd (around_after connect width x y first (start + k) inside e b a);
}

pub around_more : (connect : Connect) (width x y start v first end : ℕ) (old before after : List Bool) → x < width → y ≤ v + 1 → v ≤ y + 1
    → IsPartOfRow width x (columns_beside connect (distance y v)) v first end → AreSetAround connect width (y * width + x) start (v * width) old before
    → AreSetBetween start first end end before after → AreSetAround connect width (y * width + x) start ((v + 1) * width) old after
around_more connect width x y start v first end old before after inside low high part s b = record {
  one_each = b.one_each ∙ s.one_each;
  sound = λ k m. sound k (b.sound k m);
  kept = λ k m. b.kept k (s.kept k m);
  complete = λ k l u a. complete k l u a (cases_lt (start + k) (v * width));
}
  where
    sound : (k : ℕ) → (slice_index_or before k false ≡ true) ⊎ ((first ≤ start + k) × (start + k < end))
        → (slice_index_or old k false ≡ true) ⊎ IsAround connect width (y * width + x) (start + k)
    sound k (inl m) = s.sound k m
    sound k (inr (c, d)) = inr (part_around connect width x y v first end (start + k) inside low high part c d)

    complete : (k : ℕ) → k < length old → start + k < (v + 1) * width → IsAround connect width (y * width + x) (start + k)
        → (start + k < v * width) ⊎ (v * width ≤ start + k)
        → slice_index_or after k false ≡ true
    complete k l u a (inl c) = b.kept k (s.complete k l c a)
    complete k l u a (inr c) =
        let between : (first ≤ start + k) × (start + k < end) = around_part connect width x y v first end (start + k) inside part c u a in
        b.complete k (omega (arith, l, s.one_each)) between.0 between.1

pub around_all : (connect : Connect) (width height x y start row : ℕ) (old new : List Bool) → x < width → (y + 2 ≤ row) ⊎ (height ≤ row)
    → AreSetAround connect width (y * width + x) start (row * width) old new → AreSetAround connect width (y * width + x) start (width * height) old new
around_all connect width height x y start row old new inside end s = record {
  one_each = s.one_each;
  sound = s.sound;
  kept = s.kept;
  complete = λ k l u a. s.complete k l (around_before connect width height x y row (start + k) inside end (omega arith) a) a;
}

-- ---- marks near the pixels of at least h

pub near_none : (r : Raster) (connect : Connect) (h : ℤ) (start first : ℕ) (marks : List Bool) → ((k : ℕ) → slice_index_or marks k false ≡ false)
    → AreMarkedNear r connect h start first first marks
near_none r connect h start first marks blank = record {
  sound = λ k m. absurd (true≢false (sym m ∙ blank k));
  complete = λ p k a b hi l n. absurd (omega arith);
}

step_back : (p count : ℕ) → p < count + 1 → (p ≡ count → ⊥) → p < count
step_back p count l d = go (cases_lt p count)
  where
    go : (p < count) ⊎ (count ≤ p) → p < count
    go (inl k) = k
    go (inr k) = absurd (d (omega arith))

-- a count may be written otherwise
pub near_at_count : (r : Raster) (connect : Connect) (h : ℤ) (start first count other : ℕ) (marks : List Bool)
    → AreMarkedNear r connect h start first count marks → other ≡ count
    → AreMarkedNear r connect h start first other marks
near_at_count r connect h start first count other marks m e = subst (λ (n : ℕ). AreMarkedNear r connect h start first n marks) (sym e) m

pub near_skip : (r : Raster) (connect : Connect) (h : ℤ) (start first count : ℕ) (marks : List Bool) → is_at_least r h count ≡ false
    → AreMarkedNear r connect h start first count marks → AreMarkedNear r connect h start first (count + 1) marks
near_skip r connect h start first count marks low m = record {
  sound = m.sound;
  complete = λ p k a b hi l n. m.complete p k a (step_back p count b (λ e. absurd (true≢false (sym hi ∙ ap (is_at_least r h) e ∙ low)))) hi l n;
}

pub near_more : (r : Raster) (connect : Connect) (h : ℤ) (start first count limit : ℕ) (before after : List Bool) → is_at_least r h count ≡ true
    → start + length before ≤ limit
    → AreMarkedNear r connect h start first count before → AreSetAround connect r.shape.width count start limit before after
    → AreMarkedNear r connect h start first (count + 1) after
near_more r connect h start first count limit before after high inside m s = record {
  sound = λ k t. sound k (s.sound k t);
  complete = λ p k a b hi l n. complete p k a b hi (omega (arith, l, s.one_each)) n (cases_eq p count);
}
  where
    sound : (k : ℕ) → (slice_index_or before k false ≡ true) ⊎ IsAround connect r.shape.width count (start + k) → is_near_high r connect h (start + k) ≡ true
    sound k (inl t) = m.sound k t
    sound k (inr (inl e)) = near_from_own r connect h (start + k) (ap (is_at_least r h) e ∙ high)
    sound k (inr (inr n)) = near_from_neighbour r connect h (start + k) count high n

    complete : (p k : ℕ) → first ≤ p → p < count + 1 → IsTrue (is_at_least r h p) → k < length before → IsAround connect r.shape.width p (start + k)
        → (p ≡ count) ⊎ (p ≡ count → ⊥)
        → slice_index_or after k false ≡ true
    complete p k a b hi l n (inl e) = s.complete k l (omega arith) (subst (λ (x : ℕ). IsAround connect r.shape.width x (start + k)) e n)
    complete p k a b hi l n (inr d) = s.kept k (m.complete p k a (step_back p count b d) hi l n)

-- a pixel near one of at least h is around it
record HasHighAround (r : Raster) (connect : Connect) (h : ℤ) (q : ℕ) : Type 0 where
  pub it : ℕ
  pub high : IsTrue (is_at_least r h it)
  pub around : IsAround connect r.shape.width it q

high_around : (r : Raster) (connect : Connect) (h : ℤ) (q : ℕ) → is_near_high r connect h q ≡ true → HasHighAround r connect h q
unfolding is_near_high is_beside_high
high_around r connect h q k = go (or_cases (is_at_least r h q) (list_any (is_at_least r h) (filter (are_neighbours connect r.shape.width q) (pixels r))) k)
  where
    go : (is_at_least r h q ≡ true) ⊎ (list_any (is_at_least r h) (filter (are_neighbours connect r.shape.width q) (pixels r)) ≡ true)
        → HasHighAround r connect h q
    go (inl x) = record { it = q; high = x; around = inl refl }
    go (inr x) =
        let w : IsWitness (is_at_least r h) (filter (are_neighbours connect r.shape.width q) (pixels r)) =
        witness_from_any (is_at_least r h) (filter (are_neighbours connect r.shape.width q) (pixels r)) x in
        record {
          it = w.it;
          high = w.passes;
          around = inr (are_neighbours_comm connect r.shape.width w.it
              q ∙ (among_from_filter (are_neighbours connect r.shape.width q) w.it (pixels r) w.among).1);
        }

-- the rows of a band and those beside it are enough for its marks
pub near_band : (r : Raster) (connect : Connect) (h : ℤ) (start first row size : ℕ) (marks : List Bool) → IsPlane r → 0 < r.shape.width
    → first ≡ start / r.shape.width - 1
    → ((start + size - 1) / r.shape.width + 2 ≤ row) ⊎ (r.shape.height ≤ row) → length marks ≡ size
    → AreMarkedNear r connect h start (first * r.shape.width) (row * r.shape.width) marks
    → (k : ℕ) → k < size → slice_index_or marks k false ≡ is_near_high r connect h (start + k)
near_band r connect h start first row size marks plane some begin end l m k inside =
    same_bool (slice_index_or marks k false) (is_near_high r connect h (start + k)) (m.sound k) (λ n. back (high_around r connect h (start + k) n))
  where
    back : HasHighAround r connect h (start + k) → slice_index_or marks k false ≡ true
    back w =
        let pixel : w.it < length r.values = below_from_defined r w.it (defined_from_at_least r h w.it w.high) in
        let low : first * r.shape.width ≤ w.it = first_row connect r.shape.width start first w.it (start + k) some begin (omega arith) w.around in
        let high : w.it < row * r.shape.width =
        last_row connect r.shape.width r.shape.height (start + size - 1) row w.it (start + k) some end (omega arith) (omega (arith, plane)) w.around in
        m.complete w.it k low high w.high (omega arith) w.around

-- what is said of each mark is said of the list
pub near_list : (r : Raster) (connect : Connect) (h : ℤ) (marks : List Bool) → length marks ≡ length r.values
    → ((k : ℕ) → k < length r.values → slice_index_or marks k false ≡ is_near_high r connect h k) → marks ≡ map (is_near_high r connect h) (pixels r)
unfolding pixels
near_list r connect h marks l each =
    ext_get_or false marks (map (is_near_high r connect h) (range_with_len 0 (length r.values)))
    (l ∙ sym (length-map (range_with_len 0 (length r.values)) (is_near_high r connect h) ∙ length-range_with_len 0 (length r.values)))
    (λ q k. let b : q < length r.values = omega arith in
    each q b ∙ sym (get_or-map-range_with_len (is_near_high r connect h) 0 (length r.values) q q false b (omega arith)))

-- a mark of a band is that of its pixel
pub marked_there : (r : Raster) (connect : Connect) (h other : ℤ) (band marks : List Bool) (start k q : ℕ)
    → slice_index_or band k false ≡ slice_index_or marks q false
    → slice_index_or band k false ≡ is_near_high r connect h (start + k) → start + k ≡ q → h ≡ other
    → slice_index_or marks q false ≡ is_near_high r connect other q
marked_there r connect h other band marks start k q same near e u =
    sym same ∙ near ∙ ap (is_near_high r connect h) e ∙ ap (λ (z : ℤ). is_near_high r connect z q) u

pub blank_marks : (count : ℕ) (marks : List Bool) → marks ≡ replicate count false → (k : ℕ) → slice_index_or marks k false ≡ false
blank_marks count marks e k = ap (λ (xs : List Bool). slice_index_or xs k false) e ∙ go (cases_lt k count)
  where
    go : (k < count) ⊎ (count ≤ k) → slice_index_or (replicate count false) k false ≡ false
    go (inl l) = get_or-replicate count k false false l
    go (inr l) = get_or_past (replicate count false) k false (omega (arith, length-replicate count false))

pub blank_part : (count : ℕ) (marks part : List Bool) (start : ℕ) → marks ≡ replicate count false
    → ((k : ℕ) → k < length part → slice_index_or part k false ≡ slice_index_or marks (start + k) false)
    → (k : ℕ) → slice_index_or part k false ≡ false
blank_part count marks part start e each k = go (cases_lt k (length part))
  where
    go : (k < length part) ⊎ (length part ≤ k) → slice_index_or part k false ≡ false
    go (inl l) = each k l ∙ blank_marks count marks e (start + k)
    go (inr l) = get_or_past part k false l

-- ---- the plane without the others

-- with the marks near the pixels of at least h it is the plane that is kept
pub without-kept : (r : Raster) (connect : Connect) (h : ℤ) (marks : List Bool) → marks ≡ map (is_near_high r connect h) (pixels r)
    → without_unmarked r marks ≡ kept r connect h
unfolding without_unmarked kept pixels
without-kept r connect h marks e = ap (λ (vs : List (Option ℤ)). let x : Raster = record { shape = r.shape; values = vs } in x)
    (map_alike (range_with_len 0 (length r.values)) (λ p k. ap (λ (b : Bool). cond b (value_at r.values p) None) (at p (below p k))))
  where
    below : (p : ℕ) → IsAmong p (range_with_len 0 (length r.values)) → p < length r.values
    below p k = let l : (0 ≤ p) × (p < 0 + length r.values) = among_from_range 0 (length r.values) p k in omega arith

    at : (p : ℕ) → p < length r.values → slice_index_or marks p false ≡ is_near_high r connect h p
    at p l =
        ap (λ (xs : List Bool). slice_index_or xs p false) e
        ∙ get_or-map-range_with_len (is_near_high r connect h) 0 (length r.values) p p false l (omega arith)

    map_alike : (ps : List ℕ)
        → ((p : ℕ) → IsAmong p ps → cond (slice_index_or marks p false) (value_at r.values p) None
        ≡ cond (is_near_high r connect h p) (value_at r.values p) None)
        → map (λ p. cond (slice_index_or marks p false) (value_at r.values p) None) ps
        ≡ map (λ p. cond (is_near_high r connect h p) (value_at r.values p) None) ps
    map_alike [] f = refl
    map_alike (p ∷ ps) f =
        ap (λ (v : Option ℤ). v ∷ map (λ p. cond (slice_index_or marks p false) (value_at r.values p) None) ps) (f p (inl refl))
        ∙ ap (λ (vs : List (Option ℤ)). cond (is_near_high r connect h p) (value_at r.values p) None ∷ vs) (map_alike ps (λ q k. f q (inr k)))

pub length_of_marks : (r : Raster) (connect : Connect) (h : ℤ) (marks : List Bool) → marks ≡ map (is_near_high r connect h) (pixels r)
    → length marks ≡ length r.values
unfolding pixels
length_of_marks r connect h marks e =
    ap length e ∙ length-map (range_with_len 0 (length r.values)) (is_near_high r connect h) ∙ length-range_with_len 0 (length r.values)

-- ---- a plane in which nothing is far

pub none_below_more : (r : Raster) (h : ℤ) (p : ℕ) → HasNoneBelow r h p → (is_defined r p ≡ false) ⊎ (is_at_least r h p ≡ true) → HasNoneBelow r h (p + 1)
none_below_more r h p n one q l d = go (cases_eq q p)
  where
    go : (q ≡ p) ⊎ (q ≡ p → ⊥) → IsTrue (is_at_least r h q)
    go (inr f) = n q (step_back q p l f) d
    go (inl e) = elim one [
      | inl u ↦ absurd (true≢false (sym d ∙ ap (is_defined r) e ∙ u))
      | inr k ↦ ap (is_at_least r h) e ∙ k
    ]

pub none_below_all : (r : Raster) (h : ℤ) (count : ℕ) → HasNoneBelow r h count → length r.values ≤ count → HasNoneBelow r h (length r.values)
none_below_all r h count n all p l d = n p (omega arith) d

-- is kept as it is
pub kept_whole : (r : Raster) (connect : Connect) (h : ℤ) → HasNoneBelow r h (length r.values) → r ≡ kept r connect h
unfolding kept pixels
kept_whole r connect h none = ap (λ (vs : List (Option ℤ)). let x : Raster = record { shape = r.shape; values = vs } in x) same
  where
    stays : (q : ℕ) → q < length r.values → (v : Option ℤ) → value_at r.values q ≡ v
        → value_at r.values q ≡ cond (is_near_high r connect h q) (value_at r.values q) None
    stays q l None e = e ∙ go (is_near_high r connect h q)
      where
        go : (b : Bool) → None ≡ cond b (value_at r.values q) None
        go true = sym e
        go false = refl
    stays q l (Some v) e =
        let near : is_near_high r connect h q ≡ true = near_from_own r connect h q (none q l (ap is_some e)) in
        sym (ap (λ (b : Bool). cond b (value_at r.values q) None) near)

    same : r.values ≡ map (λ p. cond (is_near_high r connect h p) (value_at r.values p) None) (range_with_len 0 (length r.values))
    same = ext_get_or None r.values (map (λ p. cond (is_near_high r connect h p) (value_at r.values p) None) (range_with_len 0 (length r.values)))
        (sym (length-map (range_with_len 0 (length r.values)) (λ p. cond (is_near_high r connect h p) (value_at r.values p) None) ∙ length-range_with_len 0
        (length r.values)))
        (λ q l. stays q l (value_at r.values q) refl
        ∙ sym (get_or-map-range_with_len (λ p. cond (is_near_high r connect h p) (value_at r.values p) None) 0 (length r.values) q q None l (omega arith)))
