-- The rows of an even cut.
use Rattle.std.proofs.Common.{◌≡◌, ℕ, ◌+◌, ◌*◌, ◌/◌, ◌<◌, ◌≤◌, ◌++◌, [], ◌∷◌, length, get_or, refl, ap, ◌∙◌, arith, add-mul, one-mul, zero-mul, mul_comm}
use Rattle.std.proofs.Common.{mul-le-mul_right, mul-le-mul_left, ◌-◌, ◌^◌, ◌⊎◌, inl, inr, min, List, subst, sym}
use Rattle.std.proofs.Math.Nat.{div-le_self, div-mul-le_self, div-lt_iff_lt-mul, lt-div-mul-add}
use Rattle.std.proofs.lemmas.Nat.{le-div}
use Rattle.std.proofs.lemmas.Bool.{cases_lt}
use Rattle.std.proofs.lemmas.List.{get_or_past, get_or_default}
use Rattle.std.proofs.lemmas.List.FromFn.{get_or-map-range_with_len, length-map-range_with_len, map-range_with_len_more}
use Rattle.tree_join.specs.Cuts.{IsCut}
use Rattle.strip_crew.specs.Run.{rows_of_cut, even_rows, HasShortStrips}

pub rows_none : (height count : ℕ) → [] ≡ rows_of_cut height count 0
unfolding rows_of_cut
rows_none height count = refl

pub rows_more : (height count n : ℕ) → rows_of_cut height count (n + 1) ≡ rows_of_cut height count n ++ n * height / count ∷ []
unfolding rows_of_cut
rows_more height count n = map-range_with_len_more (λ i. i * height / count) 0 n n (let e : 0 + n ≡ n = omega arith in e)

pub rows_length : (height count n : ℕ) → length (rows_of_cut height count n) ≡ n
unfolding rows_of_cut
rows_length height count n = length-map-range_with_len (λ i. i * height / count) 0 n

pub row_value : (height count n i : ℕ) → i < n → get_or (rows_of_cut height count n) i 0 ≡ i * height / count
unfolding rows_of_cut
row_value height count n i h = get_or-map-range_with_len (λ j. j * height / count) 0 n i i 0 h (let e : 0 + i ≡ i = omega arith in e)

next_product : (height i : ℕ) → (i + 1) * height ≡ i * height + height
next_product height i = add-mul i 1 height ∙ ap (λ n. i * height + n) (one-mul height)

-- each strip has a row at least
row_rises : (height count i : ℕ) → 0 < count → count ≤ height → i * height / count < (i + 1) * height / count
row_rises height count i some_strip few =
    let r : ℕ = i * height / count in
    let low : r * count ≤ i * height = div-mul-le_self (i * height) count in
    let here : (r + 1) * count ≡ r * count + count = next_product count r in
    let next : (i + 1) * height ≡ i * height + height = next_product height i in
    let up : r + 1 ≤ (i + 1) * height / count =
    le-div (r + 1) ((i + 1) * height) count some_strip (let a : (r + 1) * count ≤ (i + 1) * height = omega arith in a) in
    omega arith

row_below : (height count i : ℕ) → 0 < count → count ≤ height → i < count → i * height / count < height
row_below height count i some_strip few near =
    let more : (i + 1) * height ≤ count * height = mul-le-mul_right height (let h : i + 1 ≤ count = omega arith in h) in
    let next : (i + 1) * height ≡ i * height + height = next_product height i in
    let turned : count * height ≡ height * count = mul_comm count height in
    (div-lt_iff_lt-mul some_strip).1 (let h : i * height < height * count = omega arith in h)

pub even_is_cut : (height count : ℕ) → 0 < count → count ≤ height → IsCut height (even_rows height count)
even_is_cut height count some_strip few =
    let n : length (even_rows height count) ≡ count = rows_length height count count in record {
      some = omega arith;
      first = row_value height count count 0 some_strip
          ∙ (let z : 0 * height ≡ 0 = zero-mul height in let a : 0 * height / count ≤ 0 * height = div-le_self (0 * height) count in omega arith);
      rises = λ i h. (let a = row_value height count count i (omega arith) in let b = row_value height count count (i + 1) (omega arith) in let c =
          row_rises height count i some_strip few in omega arith);
      below = λ i h. (let a = row_value height count count i (omega arith) in let b = row_below height count i some_strip few (omega arith) in omega arith);
    }

-- no strip has more rows than it takes for so many strips to have all
row_steps : (height count n i : ℕ) → 0 < count → height ≤ n * count → (i + 1) * height / count ≤ i * height / count + n
row_steps height count n i some enough =
    let next : (i + 1) * height ≡ i * height + height = next_product height i in
    let low : i * height < i * height / count * count + count = lt-div-mul-add some in
    let whole : (i * height / count + n + 1) * count ≡ i * height / count * count + n * count + count = omega arith in
    let less : (i + 1) * height / count < i * height / count + n + 1 = (div-lt_iff_lt-mul some).1 (omega (arith, next, low, whole, enough)) in
    omega (arith, less)

pub even_is_even : (height count n : ℕ) → 0 < count → height ≤ n * count → (i : ℕ) → i < length (even_rows height count)
    → get_or (even_rows height count) (i + 1) height ≤ get_or (even_rows height count) i 0 + n
even_is_even height count n some enough i lt = go (cases_lt (i + 1) count)
  where
    near : i < count
    near = omega (arith, lt, rows_length height count count)

    here : get_or (even_rows height count) i 0 ≡ i * height / count
    here = row_value height count count i near

    go : (i + 1 < count) ⊎ (count ≤ i + 1) → get_or (even_rows height count) (i + 1) height ≤ get_or (even_rows height count) i 0 + n
    go (inl l) =
        let there : get_or (even_rows height count) (i + 1) 0 ≡ (i + 1) * height / count = row_value height count count (i + 1) l in
        let any : get_or (even_rows height count) (i + 1) height ≡ get_or (even_rows height count) (i + 1) 0 =
        get_or_default (even_rows height count) (i + 1) height 0 (omega (arith, l, rows_length height count count)) in
        omega (arith, here, there, any, row_steps height count n i some enough)
    go (inr le) =
        let past : get_or (even_rows height count) (i + 1) height ≡ height =
        get_or_past (even_rows height count) (i + 1) height (omega (arith, le, rows_length height count count)) in
        let last : i + 1 ≡ count = omega (arith, near, le) in
        let all : height * count ≤ (i + 1) * height = omega (arith, mul_comm height count, ap (λ k. k * height) last) in
        let high : height ≤ (i + 1) * height / count = le-div height ((i + 1) * height) count some all in
        omega (arith, here, past, high, row_steps height count n i some enough)

-- of a width there fit some rows into so many pixels, and the strips of so many rows are not more than the rows
pub some_rows_fit : (width : ℕ) → 0 < width → width ≤ 65535 → 0 < 2 ^ 24 / width
some_rows_fit width some few = let l : 1 ≤ 2 ^ 24 / width = le-div 1 (2 ^ 24) width some (omega (arith, few)) in l

pub ceil_some : (height rows strips : ℕ) → 0 < height → height ≤ strips * rows → 0 < strips
ceil_some height rows strips some enough = go (cases_lt 0 strips)
  where
    go : (0 < strips) ⊎ (strips ≤ 0) → 0 < strips
    go (inl l) = l
    go (inr none) = let z : strips * rows ≡ 0 = ap (λ k. k * rows) (omega (arith, none)) ∙ zero-mul rows in absurd (omega (arith, z, some, enough))

pub ceil_most : (height rows strips : ℕ) → 0 < rows → strips * rows < height + rows → strips ≤ height
ceil_most height rows strips some less = go (cases_lt height strips)
  where
    go : (height < strips) ⊎ (strips ≤ height) → strips ≤ height
    go (inr le) = le
    go (inl l) =
        let more : (height + 1) * rows ≤ strips * rows = mul-le-mul_right rows (omega (arith, l)) in
        let whole : (height + 1) * rows ≡ height * rows + rows = next_product rows height in
        let wide : height * 1 ≤ height * rows = mul-le-mul_left height (omega (arith, some)) in
        absurd (omega (arith, more, whole, wide, less))

-- such a cut is short
pub short_cut : (width height least strips : ℕ) (cut : List ℕ) → 0 < width → width ≤ 65535 → 0 < height → height ≤ 2 ^ 24 / width * least → least ≤ strips
    → ((n : ℕ) → height ≤ n * min height strips → (i : ℕ) → i < length cut → get_or cut (i + 1) height ≤ get_or cut i 0 + n)
    → HasShortStrips width height cut
short_cut width height least strips cut some narrow rows enough least_of even many i lt =
    let step : get_or cut (i + 1) height ≤ get_or cut i 0 + 2 ^ 24 / width = even (2 ^ 24 / width) all i lt in
    let product : (get_or cut (i + 1) height - get_or cut i 0) * width ≤ 2 ^ 24 / width * width = mul-le-mul_right width (omega (arith, step)) in
    omega (arith, product, div-mul-le_self (2 ^ 24) width)
  where
    all : height ≤ 2 ^ 24 / width * min height strips
    all = go (cases_lt height strips)
      where
        go : (height < strips) ⊎ (strips ≤ height) → height ≤ 2 ^ 24 / width * min height strips
        go (inl l) =
            let is : min height strips ≡ height = omega (arith, l) in
            let once : 1 * height ≤ 2 ^ 24 / width * height = mul-le-mul_right height (omega (arith, some_rows_fit width some narrow)) in
            subst (λ k. height ≤ 2 ^ 24 / width * k) (sym is) (omega (arith, once))
        go (inr le) =
            let is : min height strips ≡ strips = omega (arith, le) in
            let more : 2 ^ 24 / width * least ≤ 2 ^ 24 / width * strips = mul-le-mul_left (2 ^ 24 / width) least_of in
            subst (λ k. height ≤ 2 ^ 24 / width * k) (sym is) (omega (arith, more, enough))

-- the product that a row is found by fits 32 bits
pub product_small : (height count i : ℕ) → height ≤ 65535 → count ≤ 65535 → i < count → i * height ≤ 4294836225
product_small height count i low few near =
    let a : i * height ≤ 65535 * height = mul-le-mul_right height (let h : i ≤ 65535 = omega arith in h) in
    let b : 65535 * height ≤ 65535 * 65535 = mul-le-mul_left 65535 low in omega arith
