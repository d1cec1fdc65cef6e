-- The keyword of a column by its root and its digits.
use Rattle.std.proofs.Common.{◌≡◌, ℕ, ◌+◌, ◌/◌, ◌%◌, ◌<◌, ◌≤◌, List, [], ◌∷◌, ◌++◌, length, get_or, sym, ap, arith}
use Rattle.std.specs.Fmt.{decimal}
use Rattle.std.proofs.lemmas.Fmt.{decimal_digit}
use Rattle.lemmas.proofs.Exported.{two_digits}
use Rattle.fits_card.specs.Written.{left_justified, numbered_keyword}

by_digits : (root digits : List ℕ) (n : ℕ) → decimal n ≡ digits → numbered_keyword root n ≡ left_justified 8 (root ++ digits)
unfolding numbered_keyword
by_digits root digits n e = ap (λ l. left_justified 8 (root ++ l)) e

pub numbered_by_one : (root : List ℕ) (n : ℕ) → length root ≡ 5 → n < 10
    → get_or root 0 0 ∷ get_or root 1 0 ∷ get_or root 2 0 ∷ get_or root 3 0 ∷ get_or root 4 0 ∷ (48 + n % 10) ∷ 32 ∷ 32 ∷ [] ≡ numbered_keyword root n
numbered_by_one (a ∷ b ∷ c ∷ d ∷ e ∷ []) n five less =
    let ones : n % 10 ≡ n = omega arith in
    rw ones (sym (by_digits (a ∷ b ∷ c ∷ d ∷ e ∷ []) _ n (decimal_digit n less)))
numbered_by_one _ n five less = absurd (omega arith)

pub numbered_by_two : (root : List ℕ) (n : ℕ) → length root ≡ 5 → 10 ≤ n → n ≤ 99
    → get_or root 0 0 ∷ get_or root 1 0 ∷ get_or root 2 0 ∷ get_or root 3 0 ∷ get_or root 4 0 ∷ (48 + n / 10) ∷ (48 + n % 10) ∷ 32 ∷ []
    ≡ numbered_keyword root n
numbered_by_two (a ∷ b ∷ c ∷ d ∷ e ∷ []) n five least most = sym (by_digits (a ∷ b ∷ c ∷ d ∷ e ∷ []) _ n (two_digits n least (omega arith)))
numbered_by_two _ n five least most = absurd (omega arith)
