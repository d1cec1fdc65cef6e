-- How far from 0 the values of an image can be.
use Rattle.std.proofs.Common.{◌≡◌, ◌∙◌, ℕ, ◌+◌, ◌^◌, ◌≤◌, ◌==◌, min, Bool, true, false, refl, sym, ap, subst, arith, ℤ, pos, negsuc, neg_ℤ, ◌+ℤ◌, ◌-ℤ◌, ◌≤ℤ◌, w64, to_z, of_z}
use Rattle.std.proofs.Common.{unsigned_abs}
use Rattle.std.specs.Prelude.{IfSome, Some, if◌then◌else◌}
use Rattle.std.specs.declared.option.Option.{Option}
use Rattle.std.specs.Option.{option_eq}
use Rattle.std.specs.Ordering.{int_eq}
use Rattle.std.specs.Int.{int_max}
use Rattle.std.proofs.lemmas.Bool.{and_parts}
use Rattle.std.proofs.lemmas.Bool.Decides.{nat_tests}
use Rattle.std.proofs.lemmas.Int.{ints, clamps, by_lt_z}
use Rattle.comp_tree.specs.Limits.{IsWithin, half_bound, value_bound}
use Rattle.comp_tree.proofs.Exported.{half_twice, int_eq-true}
use Rattle.pixel_plane.specs.declared.limits.Limits.{Limits}
use Rattle.pixel_plane.specs.WithinLimits.{IsInRange, SuitCount}
use Rattle.pixel_plane.specs.Nearness.{IsNumberOf, limits_most, leaves_out_least, most_of_four, numbers_most, most_of}

-- a canvas for values up to this bound takes the value
pub settable : (most bound : ℕ) (value : Option ℤ) → most ≡ bound → IfSome value (λ v. IsWithin bound v) → IfSome value (λ v. IsWithin most v)
settable most bound value same h = subst (λ (b : ℕ). IfSome value (λ v. IsWithin b v)) (sym same) h

-- ---- the limits

not_negative : (m : ℤ) → pos 0 ≤ℤ m → pos (unsigned_abs m) ≡ m
not_negative (pos n) h = refl
not_negative (negsuc n) h = absurd (omega (arith, ints))

limits_most_is : (limits : Limits) → pos (limits_most limits) ≡ int_max (int_max limits.greatest (neg_ℤ limits.least)) (pos 0)
unfolding limits_most
limits_most_is limits = not_negative (int_max (int_max limits.greatest (neg_ℤ limits.least)) (pos 0)) (omega (arith, ints, clamps))

-- the values in them are within their bound
limits_within : (limits : Limits) (v : ℤ) → IsInRange limits v → IsWithin (limits_most limits) v
limits_within limits v it =
    let bound : ℕ = limits_most limits in
    let least : ℤ = limits.least in
    let greatest : ℤ = limits.greatest in
    let is : pos bound ≡ int_max (int_max greatest (neg_ℤ least)) (pos 0) = limits_most_is limits in
    let low : least ≤ℤ v = it.low in
    let high : v ≤ℤ greatest = it.high in
    record { low = omega (arith, ints, clamps); high = omega (arith, ints, clamps) }

-- limits that suit so many pixels have a bound that a canvas of so many takes
limits_few : (limits : Limits) (count : ℕ) → SuitCount limits count → limits_most limits ≤ half_bound count
limits_few limits count suited =
    let bound : ℕ = limits_most limits in
    let half : ℕ = half_bound count in
    let least : ℤ = limits.least in
    let greatest : ℤ = limits.greatest in
    let is : pos bound ≡ int_max (int_max greatest (neg_ℤ least)) (pos 0) = limits_most_is limits in
    let low : neg_ℤ (pos half) ≤ℤ least = suited.low in
    let high : greatest ≤ℤ pos half = suited.high in
    omega (arith, ints, clamps)

pub most_fits : (size : ℕ) (zero : ℤ) (blank : Option ℤ) (limits : Limits) (count : ℕ) → SuitCount limits count → most_of size zero blank limits ≤ value_bound count
unfolding most_of
most_fits size zero blank limits count suited =
    let few : limits_most limits ≤ half_bound count = limits_few limits count suited in
    let twice = half_twice count in
    omega (arith, few, twice)

-- as they are computed
pub limits_read : (limits : Limits) (first : ℤ) (second : ℤ)
    → first ≡ int_max (to_z w64 (of_z w64 limits.greatest)) (to_z w64 (of_z w64 (pos 0 -ℤ to_z w64 (of_z w64 limits.least))))
    → second ≡ int_max (to_z w64 (of_z w64 first)) (pos 0)
    → unsigned_abs (to_z w64 (of_z w64 second)) ≡ limits_most limits
unfolding limits_most
limits_read limits first second one two =
    let least : ℤ = limits.least in
    let greatest : ℤ = limits.greatest in
    let a = limits.range.least_low in
    let b = limits.range.least_high in
    let c = limits.range.greatest_low in
    let d = limits.range.greatest_high in
    let l : to_z w64 (of_z w64 least) ≡ least = omega (arith, ints) in
    let g : to_z w64 (of_z w64 greatest) ≡ greatest = omega (arith, ints) in
    let n : to_z w64 (of_z w64 (pos 0 -ℤ to_z w64 (of_z w64 least))) ≡ neg_ℤ least = rw l (omega (arith, ints)) in
    let v : first ≡ int_max greatest (neg_ℤ least) = one ∙ (λ i. int_max (g i) (n i)) in
    let f : to_z w64 (of_z w64 first) ≡ first = omega (arith, ints, clamps) in
    let w : second ≡ int_max (int_max greatest (neg_ℤ least)) (pos 0) = two ∙ ap (λ x. int_max x (pos 0)) (f ∙ v) in
    let s : to_z w64 (of_z w64 second) ≡ second = omega (arith, ints, clamps) in
    ap unsigned_abs (s ∙ w)

-- ---- the numbers

abs_bounds : (z : ℤ) → IsWithin (unsigned_abs z) z
abs_bounds (pos n) = record { low = omega (arith, ints); high = omega (arith, ints) }
abs_bounds (negsuc n) = record { low = omega (arith, ints); high = omega (arith, ints) }

-- what is added to a number, and the number that isn't BLANK
pub record IsAdded (size : ℕ) (zero : ℤ) (blank : Option ℤ) (number : ℤ) : Type 0 where
  pub low : neg_ℤ (pos (2 ^ 32)) ≤ℤ zero
  pub high : zero ≤ℤ pos (2 ^ 32)
  pub number_is : IsNumberOf size number
  pub there : option_eq int_eq blank (Some number) ≡ false

short_within : (zero number : ℤ) → IsWithin (2 ^ 15) number → IsWithin (unsigned_abs zero + 2 ^ 15) (zero +ℤ number)
short_within zero number it =
    let bound : ℕ = unsigned_abs zero in
    let both : IsWithin bound zero = abs_bounds zero in
    let a : neg_ℤ (pos bound) ≤ℤ zero = both.low in
    let b : zero ≤ℤ pos bound = both.high in
    let c = it.low in
    let d = it.high in
    record { low = omega (arith, ints); high = omega (arith, ints) }

-- a number of four bytes
four_within : (zero : ℤ) (blank : Option ℤ) (number : ℤ) → IsAdded 4 zero blank number → IsWithin most_of_four (zero +ℤ number)
four_within zero blank number it =
    let a = it.low in
    let b = it.high in
    let c = it.number_is.four_low refl in
    let d = it.number_is.four_high refl in
    record { low = omega (arith, ints); high = omega (arith, ints) }

-- the least of them is BLANK
not_least : (number : ℤ) (blank : Option ℤ) → option_eq int_eq blank (Some (neg_ℤ (pos (2 ^ 31)))) ≡ true → option_eq int_eq blank (Some number) ≡ false
    → neg_ℤ (pos (2 ^ 31)) ≡ number → ⊥
not_least number blank least there same =
    let k : option_eq int_eq blank (Some number) ≡ true = subst (λ x. option_eq int_eq blank (Some x) ≡ true) same least in
    absurd (cc)

above_least : (number : ℤ) → neg_ℤ (pos (2 ^ 31)) ≤ℤ number → (neg_ℤ (pos (2 ^ 31)) ≡ number → ⊥) → neg_ℤ (pos 2147483647) ≤ℤ number
above_least number low other = by_lt_z (neg_ℤ (pos (2 ^ 31))) number (λ l. omega (arith, ints)) (λ (l : number ≤ℤ neg_ℤ (pos (2 ^ 31))). absurd (other (omega (arith, ints))))

near_within : (zero : ℤ) (blank : Option ℤ) (number : ℤ) → IsAdded 4 zero blank number → leaves_out_least zero blank ≡ true → IsWithin 2147483647 (zero +ℤ number)
near_within zero blank number it h =
    let both = and_parts (int_eq zero (pos 0)) (option_eq int_eq blank (Some (neg_ℤ (pos (2 ^ 31))))) h in
    let none : zero ≡ pos 0 = int_eq-true zero (pos 0) both.0 in
    let least = above_least number (it.number_is.four_low refl) (not_least number blank both.1 it.there) in
    let most = it.number_is.four_high refl in
    record { low = omega (arith, ints); high = omega (arith, ints) }

numbers_within : (size : ℕ) (zero : ℤ) (blank : Option ℤ) (number : ℤ) → IsAdded size zero blank number → IsWithin (2 ^ 36) (zero +ℤ number)
    → IsWithin (numbers_most size zero blank) (zero +ℤ number)
unfolding numbers_most
numbers_within size zero blank number it wide = by (size == 8) (size == 4) (leaves_out_least zero blank) refl refl refl
  where
    by : (eight four least : Bool) → (size == 8) ≡ eight → (size == 4) ≡ four → leaves_out_least zero blank ≡ least
        → IsWithin (if eight then 2 ^ 36 else (if four then (if least then 2147483647 else most_of_four) else unsigned_abs zero + 2 ^ 15)) (zero +ℤ number)
    by true four least e f g = wide
    by false true true e f g =
        let is : size ≡ 4 = grind (arith, nat_tests) in
        near_within zero blank number (subst (λ (n : ℕ). IsAdded n zero blank number) is it) g
    by false true false e f g =
        let is : size ≡ 4 = grind (arith, nat_tests) in
        four_within zero blank number (subst (λ (n : ℕ). IsAdded n zero blank number) is it)
    by false false least e f g =
        short_within zero number (it.number_is.short (λ h. absurd (grind (arith, nat_tests))) (λ h. absurd (grind (arith, nat_tests))))

-- ---- both

widest : (limits : Limits) (v : ℤ) → IsInRange limits v → IsWithin (2 ^ 36) v
widest limits v it =
    let low = it.low in
    let high = it.high in
    let least = limits.range.least_low in
    let greatest = limits.range.greatest_high in
    record { low = omega (arith, ints); high = omega (arith, ints) }

within_both : (a b : ℕ) (v : ℤ) → IsWithin a v → IsWithin b v → IsWithin (min a b) v
within_both a b v h k =
    let c = h.low in
    let d = h.high in
    let e = k.low in
    let f = k.high in
    record { low = omega (arith, ints); high = omega (arith, ints) }

-- the value of a number, where it is in the limits
pub value_near : (size : ℕ) (zero : ℤ) (blank : Option ℤ) (limits : Limits) (number : ℤ) → IsAdded size zero blank number → IsInRange limits (zero +ℤ number)
    → IsWithin (most_of size zero blank limits) (zero +ℤ number)
unfolding most_of
value_near size zero blank limits number it range =
    within_both (numbers_most size zero blank) (limits_most limits) (zero +ℤ number)
    (numbers_within size zero blank number it (widest limits (zero +ℤ number) range))
    (limits_within limits (zero +ℤ number) range)
