-- Bookkeeping: how a pixel is kept as one number. A defined pixel is kept as its value, and an undefined one as a number that is no value.
use Rattle.std.specs.Prelude.{◌≡◌, ◌^◌, ℕ, ℤ, pos, neg_ℤ, Option, Some, None, Bool, true, false, cond}
use Rattle.std.specs.Ordering.{int_eq}
use Rattle.std.proofs.Common.{refl, sym}
use Rattle.lemmas.proofs.Exported.{int_eq-true}

-- stands for an undefined pixel among short ones: -2 ^ 31, which is below every value that one of these has
abbrev pub undefined_short : ℤ
undefined_short = neg_ℤ (pos (2 ^ 31))

-- the largest value of a short pixel
abbrev pub most_short : ℕ
most_short = 2147483647

-- the pixel that is kept as this number, where that one stands for an undefined pixel
unfoldable pub pixel_of : ℤ → ℤ → Option ℤ
pixel_of undefined number = cond (int_eq number undefined) None (Some number)

-- the number that a pixel with this value is kept as
abbrev pub kept_number : ℤ → Option ℤ → ℤ
kept_number undefined None = undefined
kept_number undefined (Some v) = v

-- no number is lost
pub kept_number-same : (undefined number : ℤ) → kept_number undefined (pixel_of undefined number) ≡ number
unfolding pixel_of
kept_number-same undefined number = go (int_eq number undefined) refl
  where
    go : (b : Bool) → int_eq number undefined ≡ b → kept_number undefined (cond b None (Some number)) ≡ number
    go true e = sym (int_eq-true number undefined e)
    go false e = refl
