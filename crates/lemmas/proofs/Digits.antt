-- Numbers in decimal digits.
use Rattle.std.proofs.Common.{◌≡◌, ◌∙◌, ℕ, ◌+◌, ◌/◌, ◌%◌, ◌<◌, ◌≤◌, true, [], ◌∷◌, ◌++◌, ap, arith}
use Rattle.std.specs.Fmt.{decimal}
use Rattle.std.specs.Str.{all_ascii_digits}
use Rattle.std.specs.Str.Parse.{digits_value}
use Rattle.std.proofs.lemmas.Fmt.{decimal_digit, decimal_step}
use Rattle.std.proofs.lemmas.Str.Parse.{IsNumeralModel, numerals_by_value, tells_all_ascii_digits}

-- the test for digits tells which lists are numerals, and their value is that of their digits
pub numerals : IsNumeralModel (λ ds. all_ascii_digits ds ≡ true) (digits_value 10)
numerals = numerals_by_value _ tells_all_ascii_digits

pub two_digits : (k : ℕ) → 10 ≤ k → k < 100 → decimal k ≡ (48 + k / 10) ∷ (48 + k % 10) ∷ []
two_digits k least most =
    decimal_step k least (omega arith) ∙ ap (λ l. l ++ (48 + k % 10) ∷ []) (decimal_digit (k / 10) (omega arith))
