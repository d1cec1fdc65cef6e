-- Values of a plane stay within their range, and are read as they were kept.
use Rattle.std.proofs.Common.{◌≡◌, ◌∙◌, ℕ, zero, suc, ◌+◌, ◌*◌, ◌^◌, ◌==◌, ◌≢◌, ◌<◌, ◌≤◌, Bool, true, false, cond, ◌&&◌, List}
use Rattle.std.proofs.Common.{[], ◌∷◌, ◌++◌, length, take, get_or, refl, sym, ap, subst, eq-eqb, arith}
use Rattle.std.specs.Prelude.{ℤ, pos, neg_ℤ, int_le, nat_le, if◌then◌else◌, Option, Some, None, IfSome, replicate, slice_get, slice_set}
use Rattle.std.specs.Int.RustNames.{unsigned_abs}
use Rattle.std.specs.Ordering.{int_eq}
use Rattle.std.proofs.lemmas.Int.{ints}
use Rattle.std.specs.List.{list_all}
use Rattle.std.proofs.lemmas.List.{take_more}
use Rattle.std.proofs.lemmas.List.Folds.{list_all_more}
use Rattle.comp_tree.specs.Limits.{most_pixels, IsWithin, IsWithinRange, IsInHalfRange, value_bound, half_bound}
use Rattle.comp_tree.specs.declared.shape.Shape.{Shape}
use Rattle.comp_tree.specs.Raster.{Raster, HasValuesInRange, HasValuesWithin, value_at, is_pixel_value, raster_of}
use Rattle.comp_tree.specs.Limits.{undefined_number}
use Rattle.comp_tree.specs.Numbers.{undefined_short, most_short, pixel_of}
use Rattle.lemmas.proofs.Exported.{int_eq-true, int_eq_refl, int_le-true}
use Rattle.std.proofs.lemmas.Bool.{and_parts, ne_eqb, cond-true}
use Rattle.std.proofs.lemmas.Bool.Decides.{nat_tests}

none_some : (v : ℤ) → (let o : Option (Option ℤ) = None in o) ≡ Some (Some v) → ⊥
none_some v h = cc

undefined_some : (v : ℤ) → (let o : Option (Option ℤ) = Some None in o) ≡ Some (Some v) → ⊥
undefined_some v h = cc

-- the bound is never above 2 ^ 37, and each value in range is below that
pub bound_most : (count : ℕ) → value_bound count ≤ 2 ^ 37
unfolding value_bound
bound_most count = go (nat_le count (2 ^ 24))
  where
    go : (b : Bool) → cond b (2 ^ 37) (2 ^ 30) ≤ 2 ^ 37
    go true = omega arith
    go false = omega arith

-- it is never below 2 ^ 30
pub bound_least : (count : ℕ) → 2 ^ 30 ≤ value_bound count
unfolding value_bound
bound_least count = go (nat_le count (2 ^ 24))
  where
    go : (b : Bool) → 2 ^ 30 ≤ cond b (2 ^ 37) (2 ^ 30)
    go true = omega arith
    go false = omega arith

pub within_more : (a b : ℕ) (v : ℤ) → a ≤ b → IsWithin a v → IsWithin b v
within_more a b v le h = let low : _ = h.low in let high : _ = h.high in record { low = omega (arith, ints); high = omega (arith, ints) }

pub within_small : (count : ℕ) (v : ℤ) → IsWithin (2 ^ 30) v → IsWithin (value_bound count) v
within_small count v h = within_more (2 ^ 30) (value_bound count) v (bound_least count) h

pub within_range : (count : ℕ) (v : ℤ) → IsWithin (value_bound count) v → IsWithinRange v
within_range count v h = within_more (value_bound count) (2 ^ 37) v (bound_most count) h

-- of a plane with few pixels it is 2 ^ 37
pub usual_bound : (count : ℕ) → count ≤ 2 ^ 24 → value_bound count ≡ 2 ^ 37
unfolding value_bound
usual_bound count few = cond-true (nat_le count (2 ^ 24)) (2 ^ 37) (2 ^ 30) (grind (arith, nat_tests))

-- the values of a whole plane add up to at most 2 ^ 61
pub bound_of_sum : (count : ℕ) → count ≤ most_pixels → value_bound count * count ≤ 2 ^ 61
unfolding value_bound
bound_of_sum count few = go (nat_le count (2 ^ 24)) refl
  where
    go : (b : Bool) → nat_le count (2 ^ 24) ≡ b → cond b (2 ^ 37) (2 ^ 30) * count ≤ 2 ^ 61
    go true e = let l : count ≤ 2 ^ 24 = grind (arith, nat_tests) in omega (arith, l)
    go false e = omega (arith, few)

-- half of it
pub half_most : (count : ℕ) → half_bound count ≤ 2 ^ 36
unfolding half_bound
half_most count = go (nat_le count (2 ^ 24))
  where
    go : (b : Bool) → cond b (2 ^ 36) (2 ^ 29) ≤ 2 ^ 36
    go true = omega arith
    go false = omega arith

pub half_twice : (count : ℕ) → half_bound count + half_bound count ≡ value_bound count
unfolding half_bound value_bound
half_twice count = go (nat_le count (2 ^ 24))
  where
    go : (b : Bool) → cond b (2 ^ 36) (2 ^ 29) + cond b (2 ^ 36) (2 ^ 29) ≡ cond b (2 ^ 37) (2 ^ 30)
    go true = refl
    go false = refl

pub usual_half : (count : ℕ) → count ≤ 2 ^ 24 → half_bound count ≡ 2 ^ 36
unfolding half_bound
usual_half count few = cond-true (nat_le count (2 ^ 24)) (2 ^ 36) (2 ^ 29) (grind (arith, nat_tests))

pub within_half : (count : ℕ) (v : ℤ) → IsWithin (half_bound count) v → IsInHalfRange v
within_half count v h = within_more (half_bound count) (2 ^ 36) v (half_most count) h

pub some_within : (a b : ℕ) (o : Option ℤ) → a ≤ b → IfSome o (λ v. IsWithin a v) → IfSome o (λ v. IsWithin b v)
some_within a b None le h = tt
some_within a b (Some v) le h = within_more a b v le h

pub some_within_most : (most count : ℕ) (o : Option ℤ) → most ≤ value_bound count → IfSome o (λ v. IsWithin most v) → IfSome o (λ v. IsWithinRange v)
some_within_most most count None le h = tt
some_within_most most count (Some v) le h = within_range count v (within_more most (value_bound count) v le h)

-- values within a bound that is none above that of the plane
pub in_range-of_within : (most : ℕ) (values : List (Option ℤ)) → HasValuesWithin most values → most ≤ value_bound (length values) → HasValuesInRange values
in_range-of_within most values within bounded p v e = within_more most (value_bound (length values)) v bounded (within p v e)

pub within-blank : (bound n : ℕ) → HasValuesWithin bound (replicate n None)
within-blank bound zero p v h = absurd (none_some v h)
within-blank bound (suc n) zero v h = absurd (undefined_some v h)
within-blank bound (suc n) (suc p) v h = within-blank bound n p v h

pub within-set : (bound : ℕ) (xs : List (Option ℤ)) (p : ℕ) (value : Option ℤ) → HasValuesWithin bound xs → IfSome value (λ v. IsWithin bound v)
    → HasValuesWithin bound (slice_set xs p value)
within-set bound [] p value old new q v h = old q v h
within-set bound (x ∷ xs) zero value old new zero v h = go value new h
  where
    go : (o : Option ℤ) → IfSome o (λ v. IsWithin bound v) → (let a : Option (Option ℤ) = Some o in a) ≡ Some (Some v) → IsWithin bound v
    go None k e = absurd (undefined_some v e)
    go (Some w) k e = let f : w ≡ v = cc in subst (λ (z : ℤ). IsWithin bound z) f k
within-set bound (x ∷ xs) zero value old new (suc q) v h = old (suc q) v h
within-set bound (x ∷ xs) (suc p) value old new zero v h = old zero v h
within-set bound (x ∷ xs) (suc p) value old new (suc q) v h = within-set bound xs p value (λ j w k. old (suc j) w k) new q v h

pub in_range-get : (bound : ℕ) (xs : List (Option ℤ)) (p : ℕ) (o : Option ℤ) → HasValuesWithin bound xs → slice_get xs p ≡ Some o
    → IfSome o (λ v. IsWithin bound v)
in_range-get bound xs p None h e = tt
in_range-get bound xs p (Some v) h e = h p v e

pub in_range-value : (bound : ℕ) (values : List (Option ℤ)) (p : ℕ) → HasValuesWithin bound values → IfSome (value_at values p) (λ v. IsWithin bound v)
in_range-value bound [] p h = tt
in_range-value bound (x ∷ xs) zero h = in_range-get bound (x ∷ xs) 0 x h refl
in_range-value bound (x ∷ xs) (suc p) h = in_range-value bound xs p (λ j v e. h (suc j) v e)

-- so it is a value that any pixel may have
pub in_range-of_value : (values : List (Option ℤ)) (p : ℕ) → HasValuesInRange values → IfSome (value_at values p) (λ v. IsWithinRange v)
in_range-of_value values p h = some_within_most (value_bound (length values)) (length values) (value_at values p) (omega arith) (in_range-value (value_bound (length values)) values p h)

-- ---- pixels as numbers

pub pixel_of-undefined : pixel_of undefined_number undefined_number ≡ None
unfolding pixel_of
pixel_of-undefined = refl

pub pixel_of-undefined_short : pixel_of undefined_short undefined_short ≡ None
unfolding pixel_of
pixel_of-undefined_short = refl

-- a number that is that of the undefined ones is no value
pub pixel_of-same : (undefined v : ℤ) → v ≡ undefined → pixel_of undefined v ≡ None
unfolding pixel_of
pixel_of-same undefined v same = cond-true (int_eq v undefined) None (Some v) (rw same (int_eq_refl undefined))

-- another number than that of the undefined ones is a value
pub pixel_of-other : (undefined v : ℤ) → (v ≡ undefined → ⊥) → pixel_of undefined v ≡ Some v
unfolding pixel_of
pixel_of-other undefined v other = go (int_eq v undefined) refl
  where
    go : (b : Bool) → int_eq v undefined ≡ b → cond b None (Some v) ≡ Some v
    go true e = absurd (other (int_eq-true v undefined e))
    go false e = refl

-- no value of a pixel is the number of the undefined ones
pub pixel_of-in_range : (v : ℤ) → IsWithinRange v → pixel_of undefined_number v ≡ Some v
pixel_of-in_range v r = pixel_of-other undefined_number v (λ same. let low : _ = r.low in omega (arith, ints, same))

pub pixel_of-short : (v : ℤ) → IsWithin most_short v → pixel_of undefined_short v ≡ Some v
pixel_of-short v r = pixel_of-other undefined_short v (λ same. let low : _ = r.low in omega (arith, ints, same))

-- ---- how far a value is from 0

within_abs : (v : ℤ) (n : ℕ) → n ≡ unsigned_abs v → IsWithin n v
within_abs v n e = record { low = omega (arith, ints, e); high = omega (arith, ints, e) }

abs_least : (v : ℤ) (n most : ℕ) → n ≡ unsigned_abs v → IsWithin most v → n ≤ most
abs_least v n most e h = let low : _ = h.low in let high : _ = h.high in omega (arith, ints, e, low, high)

-- of the value of a pixel that has one
pub within_abs_value : (o : Option ℤ) (v : ℤ) (n : ℕ) → o ≡ Some v → n ≡ unsigned_abs v → IfSome o (λ w. IsWithin n w)
within_abs_value o v n is e = rw is (within_abs v n e)

pub abs_value_least : (o : Option ℤ) (v : ℤ) (n most : ℕ) → o ≡ Some v → n ≡ unsigned_abs v → IfSome o (λ w. IsWithin most w) → n ≤ most
abs_value_least o v n most is e h = abs_least v n most e (rw is at h)

-- ---- pixels that were kept

-- one pixel more
pub kept_more : (bound : ℕ) (kept values : List (Option ℤ)) (i : ℕ) (value d : Option ℤ) → i < length values
    → (kept ≡ take i values) × (list_all (is_pixel_value bound) (take i values) ≡ true)
    → value ≡ get_or values i d → is_pixel_value bound (get_or values i d) ≡ true
    → (kept ++ value ∷ [] ≡ take (i + 1) values) × (list_all (is_pixel_value bound) (take (i + 1) values) ≡ true)
kept_more bound kept values i value d within before here may = (
  ap (λ l. l ++ value ∷ []) before.0 ∙ ap (λ v. take i values ++ v ∷ []) here ∙ sym (take_more values i d within),
  list_all_more (is_pixel_value bound) values i d within ∙ ap (λ b. b && is_pixel_value bound (get_or values i d)) before.1 ∙ may,
)

-- ---- planes of given values

pub of_other_count : (shape : Shape) (values : List (Option ℤ)) → length values ≢ shape.width * shape.height → raster_of shape values ≡ None
unfolding raster_of
of_other_count shape values other = let e : length values == shape.width * shape.height ≡ false = ne_eqb _ _ other in rw e refl

pub of_other_values : (shape : Shape) (values : List (Option ℤ)) → list_all (is_pixel_value (value_bound (length values))) values ≡ false → raster_of shape values ≡ None
unfolding raster_of
of_other_values shape values other = go (length values == shape.width * shape.height)
  where
    go : (b : Bool)
        → (if b && list_all (is_pixel_value (value_bound (length values))) values then Some (record { shape = shape; values = values }) else (let o : Option Raster = None in o)) ≡ None
    go true = rw other refl
    go false = refl

pub of_values : (shape : Shape) (values : List (Option ℤ)) → length values ≡ shape.width * shape.height → list_all (is_pixel_value (value_bound (length values))) values ≡ true
    → raster_of shape values ≡ Some (record { shape = shape; values = values })
unfolding raster_of
of_values shape values count may = let e : length values == shape.width * shape.height ≡ true = eq-eqb _ _ count in rw (e, may) refl

pub within-of_test : (bound : ℕ) (values : List (Option ℤ)) → list_all (is_pixel_value bound) values ≡ true → HasValuesWithin bound values
within-of_test bound [] may p v h = absurd (none_some v h)
within-of_test bound (x ∷ xs) may zero v h =
    let same : x ≡ Some v = cc in
    let test : is_pixel_value bound (Some v) ≡ true =
    ap (is_pixel_value bound) (sym same) ∙ (and_parts (is_pixel_value bound x) (list_all (is_pixel_value bound) xs) may).0 in
    let sides : _ = and_parts (int_le (neg_ℤ (pos bound)) v) (int_le v (pos bound)) test in
    record { low = int_le-true _ _ sides.0; high = int_le-true _ _ sides.1 }
within-of_test bound (x ∷ xs) may (suc p) v h =
    within-of_test bound xs (and_parts (is_pixel_value bound x) (list_all (is_pixel_value bound) xs) may).1 p v h
