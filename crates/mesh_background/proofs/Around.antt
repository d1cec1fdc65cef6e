-- The numbers of a cell and of those around it, gathered row by row.
use Rattle.std.proofs.Common.{◌≡◌, ℕ, ◌+◌, ◌-◌, ◌*◌, ◌/◌, ◌%◌, ◌<◌, ◌≤◌, zero, suc, min, max, Bool, true, false, cond, List, [], ◌∷◌, ◌++◌, length, map}
use Rattle.std.proofs.Common.{get_or, take, drop, refl, sym, ap, ◌∙◌, arith}
use Rattle.std.specs.Prelude.{◌&&◌, nat_le, filter, ℤ, pos, Option, unwrap_or}
use Rattle.std.specs.List.{range_with_len, flat_map}
use Rattle.std.proofs.Math.Seq.{drop-cons}
use Rattle.std.proofs.lemmas.Bool.{le-leb, lt-leb, and_from}
use Rattle.std.proofs.Math.Bool.{and-false}
use Rattle.std.proofs.lemmas.List.{append-nil, map-append}
use Rattle.std.proofs.Math.Nat.{mul_comm, mul-le-mul_right}
use Rattle.std.proofs.lemmas.List.Elements.{filter-append}
use Rattle.std.proofs.lemmas.Grind.{flat_map-append}
use Rattle.mesh_background.specs.Medians.{lower_median}
use Rattle.mesh_background.specs.Smoothing.{number_in_grid, places_around, numbers_around, filtered_number, filtered_mesh}
use Rattle.mesh_background.proofs.Extents.{range-append, filter-every}

-- ---- the places around one

filter-no : (f : ℕ → Bool) (a n : ℕ) → ((k : ℕ) → a ≤ k → k < a + n → f k ≡ false) → filter f (range_with_len a n) ≡ []
filter-no f a zero h = refl
filter-no f a (suc n) h =
    ap (λ (b : Bool). cond b (a ∷ filter f (range_with_len (a + 1) n)) (filter f (range_with_len (a + 1) n))) (h a (omega arith) (omega arith))
    ∙ filter-no f (a + 1) n (λ k low high. h k (omega arith) (omega arith))

-- where a test passes from place low up to high alone, these are left
filter-between : (f : ℕ → Bool) (n low high : ℕ) → low ≤ high → high ≤ n → ((k : ℕ) → k < low → f k ≡ false) → ((k : ℕ) → low ≤ k → k < high → f k ≡ true)
    → ((k : ℕ) → high ≤ k → k < n → f k ≡ false) → filter f (range_with_len 0 n) ≡ range_with_len low (high - low)
filter-between f n low high lh hn before inside after =
    let whole : n ≡ low + (n - low) = omega arith in
    let rest : n - low ≡ high - low + (n - high) = omega arith in
    ap (λ (m : ℕ). filter f (range_with_len 0 m)) whole
    ∙ ap (filter f) (range-append 0 low (n - low) low (omega arith))
    ∙ filter-append f (range_with_len 0 low) (range_with_len low (n - low))
    ∙ ap (λ (xs : List ℕ). xs ++ filter f (range_with_len low (n - low))) (filter-no f 0 low (λ k a b. before k (omega arith)))
    ∙ ap (λ (m : ℕ). filter f (range_with_len low m)) rest
    ∙ ap (filter f) (range-append low (high - low) (n - high) high (omega arith))
    ∙ filter-append f (range_with_len low (high - low)) (range_with_len high (n - high))
    ∙ ap (λ (xs : List ℕ). xs ++ filter f (range_with_len high (n - high))) (filter-every f low (high - low) (λ k a b. inside k a (omega arith)))
    ∙ ap (λ (xs : List ℕ). range_with_len low (high - low) ++ xs) (filter-no f high (n - high) (λ k a b. after k a (omega arith)))
    ∙ append-nil (range_with_len low (high - low))

pub places-are : (n i : ℕ) → i < n → places_around n i ≡ range_with_len (max i 1 - 1) (min (i + 2) n - (max i 1 - 1))
unfolding places_around
places-are n i lt = filter-between (λ k. nat_le i (k + 1) && nat_le k (i + 1)) n (max i 1 - 1) (min (i + 2) n) (omega arith) (omega arith) before inside after
  where
    before : (k : ℕ) → k < max i 1 - 1 → (nat_le i (k + 1) && nat_le k (i + 1)) ≡ false
    before k l = ap (λ (b : Bool). b && nat_le k (i + 1)) (lt-leb i (k + 1) (omega arith))

    inside : (k : ℕ) → max i 1 - 1 ≤ k → k < min (i + 2) n → (nat_le i (k + 1) && nat_le k (i + 1)) ≡ true
    inside k l h = and_from (nat_le i (k + 1)) (nat_le k (i + 1)) (le-leb i (k + 1) (omega arith)) (le-leb k (i + 1) (omega arith))

    after : (k : ℕ) → min (i + 2) n ≤ k → k < n → (nat_le i (k + 1) && nat_le k (i + 1)) ≡ false
    after k h l = ap (λ (b : Bool). nat_le i (k + 1) && b) (lt-leb k (i + 1) (omega arith)) ∙ and-false (nat_le i (k + 1))

-- ---- a part of one row of the grid

-- consecutive members of a list
part-is : (xs : List ℤ) (a n : ℕ) → a + n ≤ length xs → take n (drop a xs) ≡ map (λ k. get_or xs k (pos 0)) (range_with_len a n)
part-is xs a zero le = refl
part-is xs a (suc n) le =
    ap (take (suc n)) (drop-cons xs a (pos 0) (omega arith))
    ∙ ap (λ (ys : List ℤ). get_or xs a (pos 0) ∷ ys) (ap (λ (m : ℕ). take n (drop m xs)) (next a) ∙ part-is xs (a + 1) n (omega arith))
  where
    next : (m : ℕ) → suc m ≡ m + 1
    next m = omega arith

shifted : (f : ℕ → ℤ) (b a n c : ℕ) → c ≡ b + a → map f (range_with_len c n) ≡ map (λ k. f (b + k)) (range_with_len a n)
shifted f b a zero c e = refl
shifted f b a (suc n) c e =
    ap (λ (m : ℕ). f m ∷ map f (range_with_len (c + 1) n)) e ∙ ap (λ (ys : List ℤ). f (b + a) ∷ ys) (shifted f b (a + 1) n (c + 1) (omega arith))

pub row-part : (values : List ℤ) (columns rows near left right : ℕ) → length values ≡ columns * rows → near < rows → left ≤ right → right ≤ columns
    → take (near * columns + right - (near * columns + left)) (drop (near * columns + left) values)
    ≡ map (λ k. number_in_grid values columns k near) (range_with_len left (right - left))
row-part values columns rows near left right long lt lr rc =
    let count : near * columns + right - (near * columns + left) ≡ right - left = omega arith in
    let more : (near + 1) * columns ≤ rows * columns = mul-le-mul_right columns (omega arith) in
    let swap : columns * rows ≡ rows * columns = mul_comm columns rows in
    ap (λ (n : ℕ). take n (drop (near * columns + left) values)) count
    ∙ part-is values (near * columns + left) (right - left) (omega (arith, more, swap, long))
    ∙ shifted (λ k. get_or values k (pos 0)) (near * columns) left (right - left) (near * columns + left) refl

-- ---- one row after the other

-- the numbers in the columns around column i, of the rows from low up to near
abbrev pub gathered_rows : List ℤ → ℕ → ℕ → ℕ → ℕ → List ℤ
gathered_rows values columns i low near =
    flat_map (λ j. map (λ k. number_in_grid values columns k j) (places_around columns i)) (range_with_len low (near - low))

pub rows-none : (values : List ℤ) (columns i low near : ℕ) → near ≡ low → [] ≡ gathered_rows values columns i low near
rows-none values columns i low near e =
    let none : near - low ≡ 0 = omega arith in
    sym (ap (λ (n : ℕ). flat_map (λ j. map (λ k. number_in_grid values columns k j) (places_around columns i)) (range_with_len low n)) none)

pub rows-next : (values items new : List ℤ) (columns rows i low near : ℕ) → length values ≡ columns * rows → i < columns → near < rows → low ≤ near
    → items ≡ gathered_rows values columns i low near
    → new ≡ items ++ take (near * columns + min (i + 2) columns - (near * columns + (max i 1 - 1))) (drop (near * columns + (max i 1 - 1)) values)
    → new ≡ gathered_rows values columns i low (near + 1)
rows-next values items new columns rows i low near long il nl le here is =
    let row : ℕ → List ℤ = λ j. map (λ k. number_in_grid values columns k j) (places_around columns i) in
    let count : near + 1 - low ≡ near - low + 1 = omega arith in
    let part : List ℤ = take (near * columns + min (i + 2) columns - (near * columns + (max i 1 - 1))) (drop (near * columns + (max i 1 - 1)) values) in
    let same : part ≡ row near = row-part values columns rows near (max i 1 - 1) (min (i + 2) columns) long nl (omega arith) (omega arith)
    ∙ ap (map (λ k. number_in_grid values columns k near)) (sym (places-are columns i il)) in
    is ∙ ap (λ (xs : List ℤ). xs ++ part) here ∙ ap (λ (xs : List ℤ). gathered_rows values columns i low near ++ xs) (same ∙ sym (append-nil (row near)))
    ∙ sym (flat_map-append row (range_with_len low (near - low)) (near ∷ []))
    ∙ ap (flat_map row) (sym (range-append low (near - low) 1 near (omega arith)))
    ∙ ap (λ (n : ℕ). flat_map row (range_with_len low n)) (sym count)

pub rows-all : (values items : List ℤ) (columns rows i j low near : ℕ) → j < rows → low ≡ max j 1 - 1 → near - low ≡ min (j + 2) rows - (max j 1 - 1)
    → items ≡ gathered_rows values columns i low near → items ≡ numbers_around values columns rows i j
unfolding numbers_around
rows-all values items columns rows i j low near jl e f is =
    let row : ℕ → List ℤ = λ l. map (λ k. number_in_grid values columns k l) (places_around columns i) in
    is ∙ (λ t. flat_map row (range_with_len (e t) (f t))) ∙ ap (flat_map row) (sym (places-are rows j jl))

-- ---- one cell after the other

pub filtered-next : (values items new : List ℤ) (columns rows n : ℕ) (number : ℤ) → items ≡ map (filtered_number values columns rows) (range_with_len 0 n)
    → new ≡ items ++ number ∷ []
    → number ≡ filtered_number values columns rows n → new ≡ map (filtered_number values columns rows) (range_with_len 0 (n + 1))
filtered-next values items new columns rows n number here is e =
    let f : ℕ → ℤ = filtered_number values columns rows in
    is ∙ (λ t. here t ++ e t ∷ []) ∙ sym (map-append f (range_with_len 0 n) (n ∷ [])) ∙ ap (map f) (sym (range-append 0 n 1 n (omega arith)))

pub filtered-from : (values around : List ℤ) (columns rows n : ℕ) (median : Option ℤ) (number : ℤ)
    → around ≡ numbers_around values columns rows (n % columns) (n / columns)
    → median ≡ lower_median around → number ≡ unwrap_or median (pos 0) → number ≡ filtered_number values columns rows n
unfolding filtered_number
filtered-from values around columns rows n median number all is got = got ∙ ap (λ (o : Option ℤ). unwrap_or o (pos 0)) (is ∙ ap lower_median all)

pub filtered-all : (values items : List ℤ) (columns rows n : ℕ) → n ≡ columns * rows → items ≡ map (filtered_number values columns rows) (range_with_len 0 n)
    → items ≡ filtered_mesh values columns rows
unfolding filtered_mesh
filtered-all values items columns rows n e is = is ∙ ap (λ (m : ℕ). map (filtered_number values columns rows) (range_with_len 0 m)) e
