-- Bands of whole rows: where their rows stand, what is known of their values, and bands that are lessened row by row.
use Rattle.std.proofs.Common.{◌≡◌, ℕ, ◌+◌, ◌-◌, ◌*◌, ◌/◌, ◌%◌, ◌<◌, ◌≤◌, ◌^◌, min, Bool, true, false, List, length, ◌++◌, refl, sym, ap, subst, ◌∙◌, arith}
use Rattle.std.proofs.Common.{◌⊎◌, inl, inr}
use Rattle.std.specs.Prelude.{ℤ, pos, ◌-ℤ◌, All, Option, Some, None, unwrap_or, IfSome}
use Rattle.std.specs.Option.{option_map}
use Rattle.std.specs.Fork.{IsChunk}
use Rattle.std.proofs.Math.Nat.{mul_comm, mul-sub, mul-mod_left, mul-le-mul_right}
use Rattle.std.proofs.lemmas.Bool.{cases_lt}
use Rattle.std.proofs.lemmas.List.{length-append, get_or_append_left, get_or-append_right, get_or_past}
use Rattle.std.proofs.lemmas.Nat.{div-add-mod', div_below, div-mul-add}
use Rattle.std.proofs.lemmas.Option.{unwrap_or-slice_get}
use Rattle.comp_tree.specs.declared.shape.Shape.{Shape}
use Rattle.comp_tree.specs.Limits.{IsWithin, IsInHalfRange, IsWithinRange, value_bound, half_bound}
use Rattle.comp_tree.proofs.Exported.{half_most, half_twice, some_within, within_half, within_more}
use Rattle.comp_tree.specs.Raster.{Raster, IsPlane, HasValuesInHalfRange, HasValuesWithin, value_at}
use Rattle.mesh_background.specs.Mesh.{mesh_cell_of}
use Rattle.mesh_background.specs.Laws.{IsNumberInHalfRange}
use Rattle.mesh_background.specs.Lessened.{numbers_under, number_of_cell, level_of, AreNumbers, IsInHalfRangeFrom, IsBand, IsLessened}
use Rattle.mesh_background.proofs.Levels.{within-zero}
use Rattle.mesh_background.proofs.Residuals.{half-of, within-of, within-pixel_level, within-values, within-smooth, length-values, length-smooth, within_twice}
use Rattle.mesh_background.proofs.Lessening.{lessened-none, lessened-more}

-- ---- whole rows

-- a whole number of rows is so many times the width
whole : (width n : ℕ) → n % width ≡ 0 → n / width * width ≡ n
whole width n e = let parts : n / width * width + n % width ≡ n = div-add-mod' n width in omega (arith, parts, e)

times-whole : (width n q : ℕ) → n ≡ q * width → n % width ≡ 0
times-whole width n q e = ap (λ (k : ℕ). k % width) e ∙ mul-mod_left q width

-- a multiple of a whole number of rows
pub whole-multiple : (width size start : ℕ) → size % width ≡ 0 → start % size ≡ 0 → start % width ≡ 0
whole-multiple width size start e f =
    let rows : size / width * width ≡ size = whole width size e in
    let bands : start / size * size ≡ start = whole size start f in
    times-whole width start (start / size * (size / width)) (sym (
    omega arith ∙ ap (λ (n : ℕ). start / size * n) rows ∙ bands))

-- what is left of an image behind whole rows
whole-rest : (width height start : ℕ) → start % width ≡ 0 → (width * height - start) % width ≡ 0
whole-rest width height start e =
    let rows : start / width * width ≡ start = whole width start e in
    let less : width * (height - start / width) ≡ width * height - width * (start / width) = mul-sub width height (start / width) in
    times-whole width (width * height - start) (height - start / width)
    (omega (arith, rows, less, mul_comm width (start / width), mul_comm width (height - start / width)))

whole-min : (width size rest : ℕ) → size % width ≡ 0 → rest % width ≡ 0 → min size rest % width ≡ 0
whole-min width size rest e f = go (cases_lt size rest)
  where
    go : (size < rest) ⊎ (rest ≤ size) → min size rest % width ≡ 0
    go (inl lt) = let is : min size rest ≡ size = omega arith in ap (λ (n : ℕ). n % width) is ∙ e
    go (inr le) = let is : min size rest ≡ rest = omega arith in ap (λ (n : ℕ). n % width) is ∙ f

-- the number of a band's row, in the image
pub row-below : (width height start count row : ℕ) → 0 < width → start % width ≡ 0 → count % width ≡ 0 → start + count ≤ width * height → row < count / width
    → start / width + row < height
row-below width height start count row wide e f inside lt =
    let rows : count / width * width ≡ count = whole width count f in
    let top : start / width * width ≡ start = whole width start e in
    let place : (start / width + row) * width + 0 ≡ start + row * width = omega (arith, top) in
    let below : (row + 1) * width ≤ count / width * width = mul-le-mul_right width (omega (arith, lt)) in
    let few : (start / width + row) * width + 0 < height * width = omega (arith, place, below, rows, inside, wide, mul_comm width height) in
    subst (λ (n : ℕ). n < height) (div-mul-add (start / width + row) width 0 wide) (div_below _ width height wide few)

-- ---- values in half of the range

pub half-band : (r : Raster) (size start : ℕ) (band : List (Option ℤ)) → HasValuesInHalfRange r.values → IsChunk r.values size start band
    → IsInHalfRangeFrom 0 band
half-band r size start band h chunk = record { each = λ k v low e. go k v e (cases_lt k (length band)) }
  where
    no_element : (v : ℤ) → None ≡ Some v → ⊥
    no_element v e = cc

    go : (k : ℕ) (v : ℤ) → value_at band k ≡ Some v → (k < length band) ⊎ (length band ≤ k) → IsInHalfRange v
    go k v e (inl lt) = half-of r (start + k) v h (sym (chunk.elements k None lt) ∙ e)
    go k v e (inr le) = absurd (no_element v (sym (get_or_past band k None le) ∙ e))

-- a plane's band
pub band-of : (r : Raster) (own : Shape) (size start : ℕ) (band : List (Option ℤ)) → own ≡ r.shape → IsPlane r → HasValuesInHalfRange r.values
    → size % r.shape.width ≡ 0 → IsChunk r.values size start band → IsBand own start band
band-of r own size start band same plane h rows chunk = subst (λ (s : Shape). IsBand s start band) (sym same) (record {
  whole_start = from;
  whole_rows = ap (λ (n : ℕ). n % r.shape.width) chunk.len
      ∙ whole-min r.shape.width size (length r.values - start) rows
      (ap (λ (n : ℕ). (n - start) % r.shape.width) plane ∙ whole-rest r.shape.width r.shape.height start from);
  inside = omega (arith, plane, chunk.in_bounds);
  in_range = half-band r size start band h chunk;
})
  where
    from : start % r.shape.width ≡ 0
    from = whole-multiple r.shape.width size start rows chunk.start_is_multiple

within-cell : (b mesh width p : ℕ) (numbers : List ℤ) → All (IsWithin b) numbers → IsWithin b (number_of_cell mesh width numbers p)
within-cell b mesh width p numbers all = go (cases_lt (mesh_cell_of mesh width p) (length numbers))
  where
    go : (mesh_cell_of mesh width p < length numbers) ⊎ (length numbers ≤ mesh_cell_of mesh width p)
        → IsWithin b (number_of_cell mesh width numbers p)
    go (inl lt) = all (mesh_cell_of mesh width p) (pos 0) lt
    go (inr le) = subst (IsWithin b) (sym (get_or_past numbers (mesh_cell_of mesh width p) (pos 0) le)) (within-zero b)

pub within-level_of : (b : ℕ) (flat : Bool) (mesh : ℕ) (shape : Shape) (numbers : List ℤ) (p : ℕ) → 0 < mesh → All (IsWithin b) numbers
    → IsWithin b (level_of flat mesh shape numbers p)
within-level_of b true mesh shape numbers p some all = within-cell b mesh shape.width p numbers all
within-level_of b false mesh shape numbers p some all = within-pixel_level b mesh shape numbers p some all

-- what is left is within twice the bound
pub lessened-within : (b : ℕ) (old new : List (Option ℤ)) (by : ℕ → ℤ) → ((k : ℕ) (v : ℤ) → k < length old → value_at old k ≡ Some v → IsWithin b v)
    → ((k : ℕ) → IsWithin b (by k)) → IsLessened old by 0 (length old) new → HasValuesWithin (b + b) new
lessened-within b old new by h half less p v e = go (cases_lt p (length old))
  where
    read : value_at new p ≡ Some v
    read = sym (unwrap_or-slice_get new p None) ∙ ap (λ (o : Option (Option ℤ)). unwrap_or o None) e

    no_element : None ≡ Some v → ⊥
    no_element e = cc

    difference : p < length old → (o : Option ℤ) → value_at old p ≡ o → option_map (λ w. w -ℤ by p) o ≡ Some v → IsWithin (b + b) v
    difference lt None u f = absurd (no_element f)
    difference lt (Some w) u f =
        let same : w -ℤ by p ≡ v = cc in subst (IsWithin (b + b)) same (within_twice b w (by p) (h p w lt u) (half p))

    go : (p < length old) ⊎ (length old ≤ p) → IsWithin (b + b) v
    go (inl lt) = difference lt (value_at old p) refl (sym (less.inside p (omega arith) lt) ∙ read)
    go (inr le) = let long : length new ≡ length old = less.one_each in
        absurd (no_element (sym (get_or_past new p None (omega (arith, long, le))) ∙ read))

-- ---- one row of a band

-- a band of three parts, of which the second is a row
pub record IsCut (band : List (Option ℤ)) (first width : ℕ) (front row behind : List (Option ℤ)) : Type 0 where
  pub is : band ≡ front ++ (row ++ behind)
  pub before : length front ≡ first
  pub wide : length row ≡ width

read-before : (band front row behind : List (Option ℤ)) (first width k : ℕ) → IsCut band first width front row behind → k < first
    → value_at band k ≡ value_at front k
read-before band front row behind first width k h lt =
    ap (λ (xs : List (Option ℤ)). value_at xs k) h.is ∙ get_or_append_left front (row ++ behind) None k (subst (λ (n : ℕ). k < n) (sym h.before) lt)

read-from : (band front row behind : List (Option ℤ)) (first width k : ℕ) → IsCut band first width front row behind → first ≤ k
    → value_at band k ≡ value_at (row ++ behind) (k - first)
read-from band front row behind first width k h le =
    ap (λ (xs : List (Option ℤ)). value_at xs k) h.is ∙ get_or-append_right front (row ++ behind) first k None h.before le

read-row : (band front row behind : List (Option ℤ)) (first width k : ℕ) → IsCut band first width front row behind → first ≤ k → k < first + width
    → value_at band k ≡ value_at row (k - first)
read-row band front row behind first width k h le lt =
    read-from band front row behind first width k h le
    ∙ get_or_append_left row behind None (k - first) (subst (λ (n : ℕ). k - first < n) (sym h.wide) (omega arith))

read-behind : (band front row behind : List (Option ℤ)) (first width k : ℕ) → IsCut band first width front row behind → first + width ≤ k
    → value_at band k ≡ value_at behind (k - first - width)
read-behind band front row behind first width k h le =
    read-from band front row behind first width k h (omega arith) ∙ get_or-append_right row behind width (k - first) None h.wide (omega arith)

pub half-row : (band front row behind : List (Option ℤ)) (first width : ℕ) → IsCut band first width front row behind → IsInHalfRangeFrom first band
    → IsInHalfRangeFrom 0 row
half-row band front row behind first width cut h = record { each = λ k v low e. go k v e (cases_lt k width) }
  where
    no_element : (v : ℤ) → None ≡ Some v → ⊥
    no_element v e = cc

    go : (k : ℕ) (v : ℤ) → value_at row k ≡ Some v → (k < width) ⊎ (width ≤ k) → IsInHalfRange v
    go k v e (inl lt) =
        let place : first + k - first ≡ k = omega arith in
        h.each (first + k) v (omega arith) (read-row band front row behind first width (first + k) cut (omega arith) (omega arith)
        ∙ ap (value_at row) place ∙ e)
    go k v e (inr le) = absurd (no_element v (sym (get_or_past row k None (subst (λ (n : ℕ). n ≤ k) (sym cut.wide) le)) ∙ e))

pub cut-lessened : (old new front row behind left : List (Option ℤ)) (by : ℕ → ℤ) (first width : ℕ) → IsCut old first width front row behind
    → new ≡ front ++ (left ++ behind) → IsLessened row by 0 width left
    → IsLessened old (λ k. by (k - first)) first (first + width) new
cut-lessened old new front row behind left by first width cut is less = record {
  one_each = ap length is ∙ length-append front (left ++ behind) ∙ ap (λ (n : ℕ). length front + n) (length-append left behind)
      ∙ ap (λ (n : ℕ). length front + (n + length behind)) less.one_each
      ∙ sym (ap length cut.is ∙ length-append front (row ++ behind) ∙ ap (λ (n : ℕ). length front + n) (length-append row behind));
  before = λ k lt. read-before new front left behind first width k now lt ∙ sym (read-before old front row behind first width k cut lt);
  inside = λ k le lt. read-row new front left behind first width k now le lt ∙ less.inside (k - first) (omega arith) (omega arith)
      ∙ sym (ap (option_map (λ v. v -ℤ by (k - first))) (read-row old front row behind first width k cut le lt));
  behind = λ k le. read-behind new front left behind first width k now le ∙ sym (read-behind old front row behind first width k cut le);
}
  where
    now : IsCut new first width front left behind
    now = record { is = is; before = cut.before; wide = less.one_each ∙ cut.wide }

-- ---- one row after the other

pub band-none : (old : List (Option ℤ)) (by : ℕ → ℤ) (width : ℕ) → IsLessened old by 0 (0 * width) old
band-none old by width = let none : 0 ≡ 0 * width = omega arith in subst (λ (n : ℕ). IsLessened old by 0 n old) none (lessened-none old by 0)

-- the levels are those of an image whose row y is the next one
pub band-next : (old m new : List (Option ℤ)) (level : ℕ → ℤ) (width start row : ℕ) → start % width ≡ 0
    → IsLessened old (λ k. level (start + k)) 0 (row * width) m
    → IsLessened m (λ k. level ((start / width + row) * width + (k - row * width))) (row * width) (row * width + width) new
    → IsLessened old (λ k. level (start + k)) 0 ((row + 1) * width) new
band-next old m new level width start row e h k =
    let top : start / width * width ≡ start = whole width start e in
    let next : row * width + width ≡ (row + 1) * width = omega arith in
    let place : (start / width + row) * width ≡ start + row * width = omega (arith, top) in
    subst (λ (n : ℕ). IsLessened old (λ q. level (start + q)) 0 n new) next
    (lessened-more old m new (λ q. level (start + q)) (λ q. level ((start / width + row) * width + (q - row * width))) 0 (row * width) (row * width + width) h k
    (omega arith) (omega arith) (λ q low high. let same : (start / width + row) * width + (q - row * width) ≡ start + q = omega (arith, place, low) in
    ap level same))

pub band-done : (old new : List (Option ℤ)) (by : ℕ → ℤ) (width n : ℕ) → length old % width ≡ 0 → n ≡ length old / width
    → IsLessened old by 0 (n * width) new → IsLessened old by 0 (length old) new
band-done old new by width n rows is h =
    subst (λ (k : ℕ). IsLessened old by 0 k new) (ap (λ (k : ℕ). k * width) is ∙ whole width (length old) rows) h

-- ---- the bands of a plane

-- what is known of the numbers
pub numbers-known : (empty : Option ℤ) (r : Raster) (own : Shape) (mesh : ℕ) (flat : Bool) (numbers : List ℤ) → own ≡ r.shape → HasValuesInHalfRange r.values
    → IsNumberInHalfRange empty r → numbers ≡ numbers_under empty r mesh flat → AreNumbers mesh own numbers
numbers-known empty r own mesh flat numbers same h given is =
    subst (λ (s : Shape). AreNumbers mesh s numbers) (sym same) (subst (λ (ns : List ℤ). AreNumbers mesh r.shape ns) (sym is) (go flat))
  where
    weaker : (xs : List ℤ) → All (IsWithin (half_bound (length r.values))) xs → All IsInHalfRange xs
    weaker xs all k d lt = within_half (length r.values) _ (all k d lt)

    go : (f : Bool) → AreNumbers mesh r.shape (numbers_under empty r mesh f)
    go true = record { one_each = length-values empty r mesh; in_range = weaker _ (within-values empty (half_bound (length r.values)) r mesh h.each given) }
    go false = record { one_each = length-smooth empty r mesh; in_range = weaker _ (within-smooth empty (half_bound (length r.values)) r mesh h.each given) }

-- the numbers are within the bound of the plane's values
numbers-within : (empty : Option ℤ) (b : ℕ) (r : Raster) (mesh : ℕ) (flat : Bool) (numbers : List ℤ) → HasValuesWithin b r.values
    → IfSome empty (λ v. IsWithin b v) → numbers ≡ numbers_under empty r mesh flat
    → All (IsWithin b) numbers
numbers-within empty b r mesh flat numbers h given is = subst (λ (ns : List ℤ). All (IsWithin b) ns) (sym is) (go flat)
  where
    go : (f : Bool) → All (IsWithin b) (numbers_under empty r mesh f)
    go true = within-values empty b r mesh h given
    go false = within-smooth empty b r mesh h given

-- what a band leaves is within a bound, where the values are within half of it
pub band-within : (empty : Option ℤ) (most : ℕ) (r : Raster) (mesh : ℕ) (own : Shape) (flat : Bool) (numbers : List ℤ) (size start : ℕ) (band after : List (Option ℤ)) → 0 < mesh
    → HasValuesWithin (most / 2) r.values → IfSome empty (λ v. IsWithin (most / 2) v) → numbers ≡ numbers_under empty r mesh flat → IsChunk r.values size start band
    → IsLessened band (λ k. level_of flat mesh own numbers (start + k)) 0 (length band) after
    → HasValuesWithin most after
band-within empty most r mesh own flat numbers size start band after some h given is chunk less p v e =
    within_more (most / 2 + most / 2) most v (omega arith)
    (lessened-within (most / 2) band after (λ k. level_of flat mesh own numbers (start + k))
    (λ k w lt f. within-of (most / 2) r (start + k) w h (sym (chunk.elements k None lt) ∙ f))
    (λ k. within-level_of (most / 2) flat mesh own numbers (start + k) some (numbers-within empty (most / 2) r mesh flat numbers h given is)) less p v e)

-- values within one of two bounds, and within half of the other, are within half of the least of twice the first and the second
pub half-of_least : (own range : ℕ) (values : List (Option ℤ)) → HasValuesWithin own values → range ≡ value_bound (length values)
    → HasValuesInHalfRange values → HasValuesWithin (min (own * 2) range / 2) values
half-of_least own range values within is half p v e = go (cases_lt (own * 2) range)
  where
    twice : half_bound (length values) + half_bound (length values) ≡ value_bound (length values)
    twice = half_twice (length values)

    go : (own * 2 < range) ⊎ (range ≤ own * 2) → IsWithin (min (own * 2) range / 2) v
    go (inl lt) = within_more own _ v (omega (arith, lt)) (within p v e)
    go (inr le) = within_more (half_bound (length values)) _ v (omega (arith, le, is, twice)) (half.each p v e)

-- and so is a number
pub half-of_given : (own range count : ℕ) (given : Option ℤ) → IfSome given (λ v. IsWithin own v) → range ≡ value_bound count
    → IfSome given (λ v. IsWithin (half_bound count) v) → IfSome given (λ v. IsWithin (min (own * 2) range / 2) v)
half-of_given own range count None within is half = tt
half-of_given own range count (Some v) within is half = go (cases_lt (own * 2) range)
  where
    twice : half_bound count + half_bound count ≡ value_bound count
    twice = half_twice count

    go : (own * 2 < range) ⊎ (range ≤ own * 2) → IsWithin (min (own * 2) range / 2) v
    go (inl lt) = within_more own _ v (omega (arith, lt)) within
    go (inr le) = within_more (half_bound count) _ v (omega (arith, le, is, twice)) half

-- a number within half of the range is in it, and within the bound of values
pub given-in_range : (count : ℕ) (given : Option ℤ) → IfSome given (λ v. IsWithin (half_bound count) v) → IfSome given (λ v. IsWithinRange v)
given-in_range count given h =
    let least : half_bound count ≤ 2 ^ 36 = half_most count in
    let wider : 2 ^ 36 ≤ 2 ^ 37 = omega arith in
    some_within (half_bound count) (2 ^ 37) given (omega (arith, least, wider)) h

pub given-bounded : (count : ℕ) (given : Option ℤ) → IfSome given (λ v. IsWithin (half_bound count) v) → IfSome given (λ v. IsWithin (value_bound count) v)
given-bounded count given h =
    let twice : half_bound count + half_bound count ≡ value_bound count = half_twice count in
    some_within (half_bound count) (value_bound count) given (omega (arith, twice)) h

-- a pixel of a plane, which stands in one of its bands
pub pixel-lessened : (old new band after : List (Option ℤ)) (own shape : Shape) (mesh : ℕ) (flat : Bool) (numbers : List ℤ) (start offset p : ℕ) → own ≡ shape
    → start + offset ≡ p → offset < length band → value_at band offset ≡ value_at old p → value_at after offset ≡ value_at new p
    → IsLessened band (λ k. level_of flat mesh own numbers (start + k)) 0 (length band) after
    → value_at new p ≡ option_map (λ v. v -ℤ level_of flat mesh shape numbers p) (value_at old p)
pixel-lessened old new band after own shape mesh flat numbers start offset p same place lt before now less =
    sym now ∙ less.inside offset (omega arith) lt
    ∙ (λ i. option_map (λ v. v -ℤ level_of flat mesh (same i) numbers (place i)) (before i))
