-- Reals, from the pieces that the code cuts.
use Rattle.std.proofs.Common.{◌≡◌, ℕ, ◌^◌, ◌<◌, ◌≤◌, Bool, true, false, cond, List, ◌++◌, length, drop}
use Rattle.std.proofs.Common.{Option, Some, None, ℤ, pos, ◌-ℤ◌, refl, sym, ap, ◌∙◌, arith, length-append}
use Rattle.std.specs.Prelude.{codes}
use Rattle.std.specs.Option.{option_map}
use Rattle.fits_card.specs.declared.number.Whole.{Whole}
use Rattle.fits_card.specs.declared.number.Whole.TheVariants.{Unreadable}
use Rattle.fits_card.specs.Pieces.{before_any, from_any}
use Rattle.fits_card.specs.Values.{Malformed, Real, Integer, signed, is_numeral, number_of, exponent_of}
use Rattle.fits_card.specs.Values.{real_of, real_value, number_value, whole_of, whole_real}
use Rattle.fits_card.specs.Clamped.{clamped}
use Rattle.fits_card.proofs.Digits.{digits-below, digits-from_numeral}
use Rattle.fits_card.proofs.Wholes.{clamped-is-enough}

real-is : (negative : Bool) (bytes mantissa scale whole rest fraction : List ℕ) → mantissa ≡ before_any (codes "EDed") bytes
    → scale ≡ from_any (codes "EDed") bytes → whole ≡ before_any (codes ".") mantissa → rest ≡ from_any (codes ".") mantissa → fraction ≡ drop 1 rest
    → real_value negative bytes ≡ real_of negative whole fraction (exponent_of scale)
unfolding real_value
real-is negative bytes mantissa scale whole rest fraction m s w r f =
    let whole_is : before_any (codes ".") (before_any (codes "EDed") bytes) ≡ whole = ap (before_any (codes ".")) (sym m) ∙ sym w in
    let fraction_is : drop 1 (from_any (codes ".") (before_any (codes "EDed") bytes)) ≡ fraction =
    ap (λ xs. drop 1 (from_any (codes ".") xs)) (sym m) ∙ ap (drop 1) (sym r) ∙ sym f in
    ap (λ xs. real_of negative xs (drop 1 (from_any (codes ".") (before_any (codes "EDed") bytes))) (exponent_of (from_any (codes "EDed") bytes))) whole_is
    ∙ ap (λ xs. real_of negative whole xs (exponent_of (from_any (codes "EDed") bytes))) fraction_is
    ∙ ap (λ xs. real_of negative whole fraction (exponent_of xs)) (sym s)

map-none : (o : Option ℤ) → None ≡ option_map clamped o → o ≡ None
map-none None h = refl
map-none (Some z) h = absurd (some-is-not-none (clamped z) h)
  where
    some-is-not-none : (z : ℤ) → None ≡ Some z → ⊥
    some-is-not-none z h = cc

map-some : (o : Option ℤ) (z : ℤ) → Some z ≡ option_map clamped o → (e : ℤ) × (o ≡ Some e) × (z ≡ clamped e)
map-some None z h = absurd (none-is-not-some z h)
  where
    none-is-not-some : (z : ℤ) → Some z ≡ None → ⊥
    none-is-not-some z h = cc
map-some (Some e) z h = (e, refl, same z (clamped e) h)
  where
    same : (a b : ℤ) → Some a ≡ Some b → a ≡ b
    same a b h = cc

-- the pieces that the code cuts from the bytes of a real
pub record Pieces (bytes mantissa scale whole rest fraction : List ℕ) : Type 0 where
  pub mantissa_is : mantissa ≡ before_any (codes "EDed") bytes
  pub scale_is : scale ≡ from_any (codes "EDed") bytes
  pub whole_is : whole ≡ before_any (codes ".") mantissa
  pub rest_is : rest ≡ from_any (codes ".") mantissa
  pub fraction_is : fraction ≡ drop 1 rest

from-pieces : (negative : Bool) {bytes mantissa scale whole rest fraction : List ℕ} → Pieces bytes mantissa scale whole rest fraction
    → real_value negative bytes ≡ real_of negative whole fraction (exponent_of scale)
from-pieces negative {bytes} {mantissa} {scale} {whole} {rest} {fraction} p =
    real-is negative bytes mantissa scale whole rest fraction p.mantissa_is p.scale_is p.whole_is p.rest_is p.fraction_is

pub real-without_exponent : (negative : Bool) {bytes mantissa scale whole rest fraction : List ℕ} → Pieces bytes mantissa scale whole rest fraction
    → None ≡ option_map clamped (exponent_of scale) → Unreadable ≡ whole_of (real_value negative bytes)
real-without_exponent negative {bytes} {mantissa} {scale} {whole} {rest} {fraction} p n =
    sym (ap whole_of (from-pieces negative p ∙ ap (real_of negative whole fraction) (map-none (exponent_of scale) n)))

no-digits : (negative : Bool) (whole fraction : List ℕ) (o : Option ℤ) → is_numeral (whole ++ fraction) ≡ false → real_of negative whole fraction o ≡ Malformed
no-digits negative whole fraction None n = refl
no-digits negative whole fraction (Some e) n =
    ap (λ t. cond t (Real (signed negative (number_of (whole ++ fraction))) (e -ℤ pos (length fraction))) Malformed) n

pub real-without_digits : (negative : Bool) {bytes mantissa scale whole rest fraction : List ℕ} (digits : List ℕ)
    → Pieces bytes mantissa scale whole rest fraction → digits ≡ whole ++ fraction → is_numeral digits ≡ false
    → Unreadable ≡ whole_of (real_value negative bytes)
real-without_digits negative {bytes} {mantissa} {scale} {whole} {rest} {fraction} digits p d n =
    sym (ap whole_of (from-pieces negative p ∙ no-digits negative whole fraction (exponent_of scale) (sym (ap is_numeral d) ∙ n)))

with-digits : (negative : Bool) (whole fraction : List ℕ) (e : ℤ) → is_numeral (whole ++ fraction) ≡ true
    → real_of negative whole fraction (Some e) ≡ Real (signed negative (number_of (whole ++ fraction))) (e -ℤ pos (length fraction))
with-digits negative whole fraction e n =
    ap (λ t. cond t (Real (signed negative (number_of (whole ++ fraction))) (e -ℤ pos (length fraction))) Malformed) n

pub real-whole : (negative : Bool) {bytes mantissa scale whole rest fraction : List ℕ} (digits : List ℕ) (exponent shift : ℤ) (result : Whole)
    → Pieces bytes mantissa scale whole rest fraction → digits ≡ whole ++ fraction → is_numeral digits ≡ true → length digits ≤ 70
    → Some exponent ≡ option_map clamped (exponent_of scale) → shift ≡ exponent -ℤ pos (length fraction)
    → result ≡ whole_real (signed negative (number_of digits)) shift → result ≡ whole_of (real_value negative bytes)
real-whole negative {bytes} {mantissa} {scale} {whole} {rest} {fraction} digits exponent shift result p d n short e s r =
    let found : (z : ℤ) × (exponent_of scale ≡ Some z) × (exponent ≡ clamped z) = map-some (exponent_of scale) exponent e in
    let z : ℤ = found.0 in
    let few : length fraction ≤ 70 = omega (arith, ap (length {A = ℕ}) d, length-append whole fraction) in
    let small : number_of digits < 10 ^ length digits = digits-below digits (digits-from_numeral digits n) in
    let value : whole_of (real_value negative bytes) ≡ whole_real (signed negative (number_of (whole ++ fraction))) (z -ℤ pos (length fraction)) =
    ap whole_of (from-pieces negative p ∙ ap (real_of negative whole fraction) found.1 ∙ with-digits negative whole fraction z (sym (ap is_numeral d) ∙ n)) in
    r ∙ ap (whole_real (signed negative (number_of digits))) (s ∙ ap (λ k. k -ℤ pos (length fraction)) found.2)
    ∙ clamped-is-enough negative (number_of digits) (length digits) (length fraction) z small short few
    ∙ ap (λ xs. whole_real (signed negative (number_of xs)) (z -ℤ pos (length fraction))) d
    ∙ sym value

pub number-integer : (negative : Bool) (bytes : List ℕ) → is_numeral bytes ≡ true → number_value negative bytes ≡ Integer (signed negative (number_of bytes))
unfolding number_value
number-integer negative bytes n = ap (λ t. cond t (Integer (signed negative (number_of bytes))) (real_value negative bytes)) n

pub number-real : (negative : Bool) (bytes : List ℕ) → is_numeral bytes ≡ false → number_value negative bytes ≡ real_value negative bytes
unfolding number_value
number-real negative bytes n = ap (λ t. cond t (Integer (signed negative (number_of bytes))) (real_value negative bytes)) n
