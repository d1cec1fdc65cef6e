-- Products and sums that stop at a last number are the exact ones up to that number.
use Rattle.std.proofs.Common.{◌≡◌, ℕ, zero, suc, ◌+◌, ◌-◌, ◌*◌, ◌^◌, ◌<◌, ◌≤◌, inl, inr, List, [], ◌∷◌, ◌++◌, min, sym, ap, ◌∙◌, arith}
use Rattle.std.proofs.Math.Nat.{mul_comm, mul_assoc, mul-suc}
use Rattle.std.proofs.lemmas.Bool.{cases_lt}
use Rattle.fits_hdu.specs.Sizes.{product}
use Rattle.fits_hdu.specs.Kept.{held}

pub min-times : (top p n : ℕ) → min (min p top * n) top ≡ min (p * n) top
min-times top p zero = omega arith
min-times top p (suc k) = elim (cases_lt top p) [ inl more ↦ above more | inr less ↦ below less ]
  where
    above : top < p → min (min p top * suc k) top ≡ min (p * suc k) top
    above more =
        let same : min p top ≡ top = omega arith in
        let all : p * suc k ≡ p * k + p = mul-suc p k in
        let some : top * suc k ≡ top * k + top = mul-suc top k in
        rw same (omega (arith, all, some))

    below : p ≤ top → min (min p top * suc k) top ≡ min (p * suc k) top
    below less = let same : min p top ≡ p = omega arith in ap (λ m. min (m * suc k) top) same

pub held-times : (p n : ℕ) → held (held p * n) ≡ held (p * n)
held-times p n = min-times (2 ^ 64 - 1) p n

pub product-append : (axes : List ℕ) (n : ℕ) → product (axes ++ n ∷ []) ≡ product axes * n
product-append [] n = omega arith
product-append (x ∷ axes) n = ap (λ p. x * p) (product-append axes n) ∙ sym (mul_assoc x (product axes) n)

-- the size of a primary's data
pub held-primary : (bytes axes : ℕ) → held (held axes * bytes) ≡ held (bytes * axes)
held-primary bytes axes = held-times axes bytes ∙ ap held (mul_comm axes bytes)

-- the size of an extension's data
pub held-extension : (bytes groups before axes : ℕ) → held (held (held (held axes + before) * groups) * bytes) ≡ held (bytes * (groups * (before + axes)))
held-extension bytes groups before axes =
    let sum : held (held axes + before) ≡ held (before + axes) = omega arith in
    ap (λ n. held (held (n * groups) * bytes)) sum
    ∙ ap (λ n. held (n * bytes)) (held-times (before + axes) groups)
    ∙ held-times ((before + axes) * groups) bytes
    ∙ ap held (mul_comm ((before + axes) * groups) bytes ∙ ap (λ n. bytes * n) (mul_comm (before + axes) groups))
