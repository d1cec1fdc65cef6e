-- The keyword of an axis by its digits.
use Rattle.std.proofs.Common.{◌≡◌, ℕ, ◌+◌, ◌-◌, ◌/◌, ◌%◌, ◌^◌, ◌<◌, ◌≤◌, List, [], ◌∷◌, ◌++◌, length, replicate, codes, sym, ap, ◌∙◌, arith}
use Rattle.std.specs.Fmt.{decimal}
use Rattle.std.proofs.lemmas.Fmt.{decimal_digit, decimal_step}
use Rattle.lemmas.proofs.Exported.{two_digits}
use Rattle.fits_card.specs.Written.{numbered_keyword}

abbrev named : List ℕ → List ℕ
named digits = (codes "NAXIS" ++ digits) ++ replicate (8 - length (codes "NAXIS" ++ digits)) 32

keyword_is : (k : ℕ) (digits : List ℕ) → decimal k ≡ digits → numbered_keyword (codes "NAXIS") k ≡ named digits
unfolding numbered_keyword
keyword_is k digits e = ap named e

small : (k : ℕ) → k < 1000 → k < 2 ^ 64
small k h = omega arith

pub keyword_of_one : (k : ℕ) → k < 10 → 78 ∷ 65 ∷ 88 ∷ 73 ∷ 83 ∷ (48 + k % 10) ∷ 32 ∷ 32 ∷ [] ≡ numbered_keyword (codes "NAXIS") k
keyword_of_one k less =
    let ones : k % 10 ≡ k = omega arith in
    rw ones (sym (keyword_is k _ (decimal_digit k less)))

pub keyword_of_two : (k : ℕ) → 10 ≤ k → k < 100 → 78 ∷ 65 ∷ 88 ∷ 73 ∷ 83 ∷ (48 + k / 10 % 10) ∷ (48 + k % 10) ∷ 32 ∷ [] ≡ numbered_keyword (codes "NAXIS") k
keyword_of_two k least most =
    let tens : k / 10 % 10 ≡ k / 10 = omega arith in
    rw tens (sym (keyword_is k _ (two_digits k least most)))

pub keyword_of_three : (k : ℕ) → 100 ≤ k → k ≤ 999
    → 78 ∷ 65 ∷ 88 ∷ 73 ∷ 83 ∷ (48 + k / 100) ∷ (48 + k / 10 % 10) ∷ (48 + k % 10) ∷ [] ≡ numbered_keyword (codes "NAXIS") k
keyword_of_three k least most =
    let tens : k / 10 / 10 ≡ k / 100 = omega arith in
    let digits : decimal k ≡ (48 + k / 10 / 10) ∷ (48 + k / 10 % 10) ∷ (48 + k % 10) ∷ [] =
    decimal_step k (omega arith) (omega arith) ∙ ap (λ l. l ++ (48 + k % 10) ∷ []) (two_digits (k / 10) (omega arith) (omega arith)) in
    rw (← tens) (sym (keyword_is k _ digits))
