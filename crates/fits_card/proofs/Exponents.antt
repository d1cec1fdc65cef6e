-- The exponent of a real, clamped.
use Rattle.std.proofs.Common.{◌≡◌, ℕ, zero, suc, ◌^◌, ◌<◌, ◌≤◌, Bool, true, false, cond, List, [], ◌∷◌, length}
use Rattle.std.proofs.Common.{drop, min, Option, Some, None, ℤ, pos, refl, sym, ap, ◌∙◌, inl, inr, arith}
use Rattle.std.specs.Prelude.{SomeIff}
use Rattle.std.specs.Option.{option_map, unwrap_or}
use Rattle.std.proofs.lemmas.Bool.{cases_lt, lt-ltb}
use Rattle.fits_card.specs.Values.{signed, fits_i64, is_numeral, is_negative, unsigned, number_of, exponent_of}
use Rattle.fits_card.specs.Clamped.{clamped}
use Rattle.fits_card.proofs.Wholes.{clamped-signed}

pub exponent-none : (bytes : List ℕ) → length bytes < 1 → Some (pos 0) ≡ option_map clamped (exponent_of bytes)
unfolding exponent_of
exponent-none [] h = refl
exponent-none (letter ∷ digits) h = absurd (omega arith)

pub exponent-bad : (bytes : List ℕ) → 1 ≤ length bytes → is_numeral (unsigned (drop 1 bytes)) ≡ false → None ≡ option_map clamped (exponent_of bytes)
unfolding exponent_of
exponent-bad [] h n = absurd (omega arith)
exponent-bad (letter ∷ digits) h n =
    sym (ap (λ t. option_map clamped (cond t (Some (signed (is_negative digits) (number_of (unsigned digits)))) None)) n)

exponent-good : (bytes : List ℕ) → 1 ≤ length bytes → is_numeral (unsigned (drop 1 bytes)) ≡ true
    → exponent_of bytes ≡ Some (signed (is_negative (drop 1 bytes)) (number_of (unsigned (drop 1 bytes))))
unfolding exponent_of
exponent-good [] h n = absurd (omega arith)
exponent-good (letter ∷ digits) h n = ap (λ t. cond t (Some (signed (is_negative digits) (number_of (unsigned digits)))) None) n

clamped-size : (n : ℕ) (m : Option ℕ) → SomeIff m (n < 2 ^ 64) n → min (unwrap_or m 1000) 1000 ≡ min n 1000
clamped-size n None h =
    elim (cases_lt n (2 ^ 64)) [ inl small ↦ absurd (h small) | inr large ↦ omega arith ]
clamped-size n (Some x) h = ap (λ k. min k 1000) h.1

small-fits : (negative : Bool) (n : ℕ) → n ≤ 1000 → fits_i64 (signed negative n) ≡ true
small-fits true zero h = refl
small-fits true (suc n) h = lt-ltb n (2 ^ 63) (omega arith)
small-fits false n h = lt-ltb n (2 ^ 63) (omega arith)

some-of : (negative : Bool) (n : ℕ) (r : Option ℤ) → n ≤ 1000 → SomeIff r (fits_i64 (signed negative n) ≡ true) (signed negative n)
    → r ≡ Some (signed negative n)
some-of negative n None h s = absurd (s (small-fits negative n h))
some-of negative n (Some z) h s = ap (λ x. Some x) s.1

-- what the code makes of the exponent's sign and digits
pub exponent-clamped : (bytes after digits : List ℕ) (negative : Bool) (m : Option ℕ) (size : ℕ) (r : Option ℤ) → 1 ≤ length bytes → after ≡ drop 1 bytes
    → digits ≡ unsigned after → negative ≡ is_negative after → is_numeral digits ≡ true → SomeIff m (number_of digits < 2 ^ 64) (number_of digits)
    → size ≡ min (unwrap_or m 1000) 1000 → SomeIff r (fits_i64 (signed negative size) ≡ true) (signed negative size)
    → r ≡ option_map clamped (exponent_of bytes)
exponent-clamped bytes after digits negative m size r h a d b n s e f =
    let same : digits ≡ unsigned (drop 1 bytes) = d ∙ ap unsigned a in
    let sign : negative ≡ is_negative (drop 1 bytes) = b ∙ ap is_negative a in
    let small : size ≡ min (number_of digits) 1000 = e ∙ clamped-size (number_of digits) m s in
    let good : exponent_of bytes ≡ Some (signed (is_negative (drop 1 bytes)) (number_of (unsigned (drop 1 bytes)))) =
    exponent-good bytes h (sym (ap is_numeral same) ∙ n) in
    some-of negative size r (omega arith) f
    ∙ ap (λ k. Some (signed negative k)) small
    ∙ ap (λ z. Some z) (sym (clamped-signed negative (number_of digits)))
    ∙ ap (λ v. Some (clamped (signed v (number_of digits)))) sign
    ∙ ap (λ xs. Some (clamped (signed (is_negative (drop 1 bytes)) (number_of xs)))) same
    ∙ sym (ap (option_map clamped) good)
