-- Bands of the pixels of a plane.
use Rattle.std.proofs.Common.{◌≡◌, ℕ, ◌+◌, ◌*◌, ◌/◌, ◌%◌, ◌<◌, ◌≤◌, min, take, drop, sym, ◌∙◌, ap, subst, arith, ◌⊎◌, inl, inr, List, length}
use Rattle.std.specs.Prelude.{ℤ, Option, Some, None, IfSome}
use Rattle.std.specs.Fork.{IsChunk, AllInChunks}
use Rattle.std.proofs.lemmas.Bool.{cases_lt}
use Rattle.std.proofs.lemmas.List.{ext_get_or, get_or-take, get_or-drop, length-take, length-drop}
use Rattle.std.proofs.lemmas.Nat.{mod-mul-add}
use Rattle.std.proofs.lemmas.Grind.{div_ceil_times}
use Rattle.std.proofs.Math.Nat.{mul-le-mul_right, zero-mul}
use Rattle.std.proofs.lemmas.Option.{get_or_from_slice_get, slice_get_within}
use denote.Ref.{MutBor}
use denote.Param.Members.{Shared}
use Rattle.comp_tree.specs.Limits.{IsWithin}
use Rattle.comp_tree.specs.Raster.{HasValuesWithin, value_at}
use Rattle.comp_tree.specs.Bands.{LeavesWithin}
use Rattle.comp_tree.proofs.Values.{in_range-value}

-- ---- how many pixels a band has

-- a band has at least a pixel
pub some_pixels : (width height parts rows : ℕ) → 0 < width → 0 < height → 0 < parts → rows ≡ height / parts + min 1 (height % parts) → 0 < rows * width
some_pixels width height parts rows wide high some e =
    let least : 1 * width ≤ rows * width = mul-le-mul_right width one in
    let same : 1 * width ≡ width = omega arith in
    omega arith
  where
    one : 1 ≤ rows
    one = go (cases_lt 0 rows)
      where
        go : (0 < rows) ⊎ (rows ≤ 0) → 1 ≤ rows
        go (inl l) = l
        go (inr l) =
            let enough : (height ≤ (height / parts + min 1 (height % parts)) * parts) × ((height / parts + min 1 (height % parts)) * parts < height + parts) =
            div_ceil_times height parts some in
            let none : height / parts + min 1 (height % parts) ≡ 0 = omega arith in
            let zero : (height / parts + min 1 (height % parts)) * parts ≡ 0 = ap (λ n. n * parts) none ∙ zero-mul parts in
            absurd (omega arith)

-- it ends with a row
pub whole_rows : (rows width : ℕ) → 0 < width → (rows * width) % width ≡ 0
whole_rows rows width wide = let e : rows * width + 0 ≡ rows * width = omega arith in ap (λ n. n % width) (sym e) ∙ mod-mul-add rows width 0 wide

-- ---- values in bands

read : {v : ℤ} (bound : ℕ) (o : Option ℤ) → IfSome o (λ w. IsWithin bound w) → o ≡ Some v → IsWithin bound v
read bound None h e = absurd cc
read bound (Some w) h e = let same : w ≡ _ = cc in subst (λ (z : ℤ). IsWithin bound z) same h

-- a band of values within a bound is within it
pub in_range-band : (bound : ℕ) (values band : List (Option ℤ)) (size start : ℕ) → HasValuesWithin bound values → IsChunk values size start band
    → HasValuesWithin bound band
in_range-band bound values band size start range chunk p v is =
    let lt : p < length band = slice_get_within band p (Some v) is in
    read bound (value_at values (start + p)) (in_range-value bound values (start + p) range)
    (sym (chunk.elements p None lt) ∙ get_or_from_slice_get band p (Some v) None is)

-- values that calls left, each in its band, are within a bound if all that a call may leave is
pub within-bands : {F : Type 0} (most : ℕ) (g : Shared F (ℕ × (MutBor (List (Option ℤ)) × Unit {0})) (Unit {0} × (MutBor (List (Option ℤ)) × Unit {0})))
    (f : F) (size : ℕ) (values new : List (Option ℤ)) → LeavesWithin most g f size values → length new ≡ length values → AllInChunks g f size values new
    → HasValuesWithin most new
within-bands most g f size values new leaves same all p v is =
    let in_band = (all p None (omega (arith, same, slice_get_within new p (Some v) is))).1 in
    read most (value_at in_band.after_call.now in_band.offset)
    (in_range-value most in_band.after_call.now in_band.offset (leaves in_band.start in_band.argument in_band.after_call in_band.argument_is in_band.call))
    (in_band.new_element ∙ get_or_from_slice_get new p (Some v) None is)

-- values that are, one by one, those of a list from a place on
pub band_taken : (values band : List (Option ℤ)) (start count : ℕ) → length band ≡ count → start + count ≤ length values
    → ((k : ℕ) → k < count → value_at band k ≡ value_at values (start + k)) → band ≡ take count (drop start values)
band_taken values band start count size inside same = ext_get_or None band (take count (drop start values)) (size ∙ sym long) (λ k lt.
    let below : k < count = omega (arith, lt, size) in
    same k below ∙ sym (get_or-take count (drop start values) k None below ∙ get_or-drop start values k None))
  where
    long : length (take count (drop start values)) ≡ count
    long = let a = length-take count (drop start values) in let b = length-drop start values in omega (arith, a, b, inside)
