-- A number of 64 bits is compared with the bounds of the values, less BZERO.
use Rattle.std.proofs.Common.{◌≡◌, ℤ, ◌+ℤ◌, ◌-ℤ◌, ◌≤ℤ◌, ◌<ℤ◌, Bool, true, false, refl, ◌∙◌, ap, arith}
use Rattle.std.specs.Prelude.{int_le, int_lt, Some, None}
use Rattle.std.specs.declared.option.Option.{Option}
use Rattle.std.specs.Option.{option_eq}
use Rattle.std.specs.Ordering.{int_eq}
use Rattle.std.proofs.lemmas.Int.{ints, by_lt_z}
use Rattle.comp_tree.proofs.Exported.{int_le-from, int_le-true, int_le-false, int_lt-from, int_lt-false, int_eq-true, int_eq_refl}
use Rattle.lemmas.proofs.Exported.{both_true}
use Rattle.pixel_plane.specs.declared.limits.Limits.{Limits}
use Rattle.pixel_plane.specs.WithinLimits.{IsInRange}
use Rattle.pixel_plane.specs.Stored.{is_out_of_range, is_blank, value_stored_as}
use Rattle.pixel_plane.specs.Sizes.{IsFarNumber}

pub high_test : (limits : Limits) (zero stored : ℤ) → (limits.least -ℤ zero) ≤ℤ stored → int_lt (limits.greatest -ℤ zero) stored ≡ is_out_of_range limits (Some (zero +ℤ stored))
high_test limits zero stored low = by_lt_z (limits.greatest -ℤ zero) stored
    (λ (h : (limits.greatest -ℤ zero) <ℤ stored).
    let beyond : int_le (zero +ℤ stored) limits.greatest ≡ false = int_le-false (zero +ℤ stored) limits.greatest (omega (arith, ints)) in
    let test : int_lt (limits.greatest -ℤ zero) stored ≡ true = int_lt-from (limits.greatest -ℤ zero) stored h in
    rw (test, over, beyond) refl)
    (λ (h : stored ≤ℤ (limits.greatest -ℤ zero)).
    let within : int_le (zero +ℤ stored) limits.greatest ≡ true = int_le-from (zero +ℤ stored) limits.greatest (omega (arith, ints)) in
    let test : int_lt (limits.greatest -ℤ zero) stored ≡ false = int_lt-false (limits.greatest -ℤ zero) stored h in
    rw (test, over, within) refl)
  where
    over : int_le limits.least (zero +ℤ stored) ≡ true
    over = int_le-from limits.least (zero +ℤ stored) (omega (arith, ints, low))

pub not_below : (a b : ℤ) → int_lt a b ≡ false → b ≤ℤ a
not_below a b h = by_lt_z a b (λ (l : a <ℤ b). let t : int_lt a b ≡ true = int_lt-from a b l in absurd (cc)) (λ l. l)

-- a value that isn't out of range
pub range_of : (limits : Limits) (value : ℤ) → is_out_of_range limits (Some value) ≡ false → IsInRange limits value
range_of limits value h =
    let both = both_true (int_le limits.least value) (int_le value limits.greatest) h in
    record { low = int_le-true _ _ both.0; high = int_le-true _ _ both.1 }

-- the number isn't BLANK
not_blank : (blank : Option ℤ) (number : ℤ) → option_eq int_eq blank (Some number) ≡ false → is_blank blank number ≡ false
not_blank None number h = refl
not_blank (Some b) number h = go (int_eq number b) refl
  where
    go : (same : Bool) → int_eq number b ≡ same → int_eq number b ≡ false
    go false e = e
    go true e = let k : option_eq int_eq (Some number) (Some number) ≡ false = ap (λ x. option_eq int_eq (Some x) (Some number)) (int_eq-true number b e) ∙ h in
        let r : int_eq number number ≡ true = int_eq_refl number in absurd (cc)

pub unless_blank : (zero : ℤ) (blank : Option ℤ) (number : ℤ) → option_eq int_eq blank (Some number) ≡ false
    → value_stored_as zero blank number ≡ Some (zero +ℤ number)
unless_blank zero blank number h = rw (not_blank blank number h) refl

pub far_number : (limits : Limits) (zero : ℤ) (blank : Option ℤ) (number : ℤ) → option_eq int_eq blank (Some number) ≡ false → is_out_of_range limits (Some (zero +ℤ number)) ≡ true
    → IsFarNumber limits zero blank number number
far_number limits zero blank number h far = record { same = refl; far = ap (is_out_of_range limits) (unless_blank zero blank number h) ∙ far }
