-- Whole numbers of signed digits and powers of ten.
use Rattle.std.proofs.Common.{◌≡◌, ℕ, zero, suc, ◌+◌, ◌-◌, ◌*◌, ◌/◌, ◌%◌, ◌^◌, ◌<◌, ◌≤◌, Bool, true, false, cond, eqb, ℤ, pos, negsuc}
use Rattle.std.proofs.Common.{neg_ℤ, ◌*ℤ◌, ◌-ℤ◌, refl, sym, ap, ◌∙◌, inl, inr, arith, min, List, length, take, drop, eq-eqb}
use Rattle.std.specs.Prelude.{unsigned_abs, int_le, int_div}
use Rattle.std.proofs.lemmas.Bool.{ne_eqb, cases_lt, cases_eq, true≢false, le-ltb}
use Rattle.std.proofs.lemmas.Nat.{div-mul-add, mod-mul-add}
use Rattle.std.proofs.Math.Nat.{pow-le-pow_right, one-le-pow}
use lib.Dec.{leb-zero}
use Rattle.std.proofs.lemmas.Int.{ints}
use Rattle.fits_card.specs.declared.number.Whole.TheVariants.{Is, NotWhole, Beyond}
use Rattle.std.specs.Str.{all_ascii_digits}
use Rattle.fits_card.specs.Values.{signed, fitted, whole_real, number_of}
use Rattle.fits_card.specs.Clamped.{clamped}
use Rattle.fits_card.proofs.Digits.{Cut, cut-digits}

abs-signed : (negative : Bool) (n : ℕ) → unsigned_abs (signed negative n) ≡ n
abs-signed true zero = refl
abs-signed true (suc n) = refl
abs-signed false n = refl

signed-times : (negative : Bool) (n p : ℕ) → signed negative n *ℤ pos p ≡ signed negative (n * p)
signed-times true zero p = let e : 0 * p ≡ 0 = omega arith in rw e refl
signed-times true (suc n) p = refl
signed-times false n p = refl

zero-over : (d : ℕ) → 0 < d → 0 / d ≡ 0
zero-over d h = let e : 0 ≡ 0 * d + 0 = omega arith in ap (λ n. n / d) e ∙ div-mul-add 0 d 0 h

signed-over : (negative : Bool) (n d : ℕ) → 0 < d → int_div (signed negative n) (pos d) ≡ signed negative (n / d)
signed-over true zero d h = let e : 0 / d ≡ 0 = zero-over d h in rw e refl
signed-over true (suc n) d h = refl
signed-over false n d h = refl

power-positive : (k : ℕ) → 0 < 10 ^ k
power-positive k = one-le-pow k 10 (omega arith)

pub whole-up : (negative : Bool) (n : ℕ) (z : ℤ) → int_le (pos 0) z ≡ true
    → fitted (signed negative (n * 10 ^ unsigned_abs z)) ≡ whole_real (signed negative n) z
unfolding whole_real
whole-up negative n (pos e) h = ap fitted (sym (signed-times negative n (10 ^ e)))
whole-up negative n (negsuc e) h = absurd (true≢false (sym h))

pub whole-down_yes : (negative : Bool) (n k front back : ℕ) → n % 10 ^ suc k ≡ back → n / 10 ^ suc k ≡ front → back ≡ 0
    → fitted (signed negative front) ≡ whole_real (signed negative n) (negsuc k)
unfolding whole_real
whole-down_yes negative n k front back b f z =
    let rest : eqb (unsigned_abs (signed negative n) % 10 ^ suc k) 0 ≡ true = eq-eqb _ _ (ap (λ m. m % 10 ^ suc k) (abs-signed negative n) ∙ b ∙ z) in
    let front_is : fitted (int_div (signed negative n) (pos (10 ^ suc k))) ≡ fitted (signed negative front) =
    ap fitted (signed-over negative n (10 ^ suc k) (power-positive (suc k)) ∙ ap (signed negative) f) in
    sym (ap (λ t. cond t (fitted (int_div (signed negative n) (pos (10 ^ suc k)))) NotWhole) rest ∙ front_is)

pub whole-down_no : (negative : Bool) (n k back : ℕ) → n % 10 ^ suc k ≡ back → (back ≡ 0 → ⊥) → NotWhole ≡ whole_real (signed negative n) (negsuc k)
unfolding whole_real
whole-down_no negative n k back b z =
    let rest : eqb (unsigned_abs (signed negative n) % 10 ^ suc k) 0 ≡ false =
    ne_eqb _ _ (λ e. z (sym b ∙ ap (λ m. m % 10 ^ suc k) (sym (abs-signed negative n)) ∙ e)) in
    sym (ap (λ t. cond t (fitted (int_div (signed negative n) (pos (10 ^ suc k)))) NotWhole) rest)

zero-not-above : (n : ℕ) → int_le (pos 0) (pos n) ≡ false → ⊥
zero-not-above n h = true≢false (sym (leb-zero n) ∙ h)

-- what a number below 0 is, for `whole-down`
pub below-zero : (z : ℤ) → int_le (pos 0) z ≡ false → (k : ℕ) × (z ≡ negsuc k) × (unsigned_abs z ≡ suc k)
below-zero (pos n) h = absurd (zero-not-above n h)
below-zero (negsuc k) h = (k, refl, refl)

fitted-beyond : (negative : Bool) (n : ℕ) → 2 ^ 63 < n → fitted (signed negative n) ≡ Beyond
fitted-beyond negative zero h = absurd (omega arith)
fitted-beyond true (suc n) h = ap (λ t. cond t (Is (negsuc n)) Beyond) (le-ltb n (2 ^ 63) (omega arith))
fitted-beyond false (suc n) h = ap (λ t. cond t (Is (pos (suc n))) Beyond) (le-ltb (suc n) (2 ^ 63) (omega arith))

large-product : (n p : ℕ) → 0 < n → p ≤ n * p
large-product zero p h = absurd (omega arith)
large-product (suc n) p h = omega arith

up-beyond : (negative : Bool) (n e : ℕ) → 0 < n → 20 ≤ e → whole_real (signed negative n) (pos e) ≡ Beyond
unfolding whole_real
up-beyond negative n e h far =
    let large : 10 ^ 20 ≤ 10 ^ e = pow-le-pow_right (omega arith) far in
    let product : 10 ^ e ≤ n * 10 ^ e = large-product n (10 ^ e) h in
    ap fitted (signed-times negative n (10 ^ e)) ∙ fitted-beyond negative (n * 10 ^ e) (omega arith)

up-zero : (negative : Bool) (e : ℕ) → whole_real (signed negative 0) (pos e) ≡ fitted (signed negative 0)
unfolding whole_real
up-zero negative e = let z : 0 * 10 ^ e ≡ 0 = omega arith in ap fitted (signed-times negative 0 (10 ^ e) ∙ ap (signed negative) z)

-- all exponents so far above 0 give one answer
pub far-up : (negative : Bool) (n e f : ℕ) → 20 ≤ e → 20 ≤ f → whole_real (signed negative n) (pos e) ≡ whole_real (signed negative n) (pos f)
far-up negative zero e f a b = up-zero negative e ∙ sym (up-zero negative f)
far-up negative (suc n) e f a b = up-beyond negative (suc n) e (omega arith) a ∙ sym (up-beyond negative (suc n) f (omega arith) b)

down-small : (negative : Bool) (n k : ℕ) → n < 10 ^ suc k → (n % 10 ^ suc k ≡ n) × (n / 10 ^ suc k ≡ 0)
down-small negative n k h =
    let e : n ≡ 0 * 10 ^ suc k + n = omega arith in
    (ap (λ m. m % 10 ^ suc k) e ∙ mod-mul-add 0 (10 ^ suc k) n h, ap (λ m. m / 10 ^ suc k) e ∙ div-mul-add 0 (10 ^ suc k) n h)

-- all exponents so far below 0 give one answer
pub far-down : (negative : Bool) (n j k : ℕ) → n < 10 ^ suc j → n < 10 ^ suc k
    → whole_real (signed negative n) (negsuc j) ≡ whole_real (signed negative n) (negsuc k)
far-down negative n j k a b =
    let p = down-small negative n j a in
    let q = down-small negative n k b in
    elim (cases_eq n 0) [
      | inl z ↦ sym (whole-down_yes negative n j 0 n p.0 p.1 z) ∙ whole-down_yes negative n k 0 n q.0 q.1 z
      | inr z ↦ sym (whole-down_no negative n j n p.0 z) ∙ whole-down_no negative n k n q.0 z
    ]

min-low : (a b : ℕ) → a ≤ b → min a b ≡ a
min-low a b h = omega arith

min-high : (a b : ℕ) → b ≤ a → min a b ≡ b
min-high a b h = omega arith

up-less : (a f : ℕ) → f ≤ a → pos a -ℤ pos f ≡ pos (a - f)
up-less a f h = omega (arith, ints)

down-less : (a f : ℕ) → negsuc a -ℤ pos f ≡ negsuc (a + f)
down-less a f = omega (arith, ints)

below-far : (n k j : ℕ) → n < 10 ^ k → k ≤ j → n < 10 ^ j
below-far n k j h l = let more : 10 ^ k ≤ 10 ^ j = pow-le-pow_right (omega arith) l in omega arith

-- a real with at most 70 digits is the same whole number where its exponent is clamped
pub clamped-is-enough : (negative : Bool) (n k f : ℕ) (e : ℤ) → n < 10 ^ k → k ≤ 70 → f ≤ 70
    → whole_real (signed negative n) (clamped e -ℤ pos f) ≡ whole_real (signed negative n) (e -ℤ pos f)
clamped-is-enough negative n k f (pos m) small few decimals =
    elim (cases_lt m 1000) [
      | inl low ↦ ap (λ c. whole_real (signed negative n) (pos c -ℤ pos f)) (min-low m 1000 (omega arith))
      | inr high ↦
          ap (λ c. whole_real (signed negative n) (pos c -ℤ pos f)) (min-high m 1000 high)
          ∙ ap (whole_real (signed negative n)) (up-less 1000 f (omega arith))
          ∙ far-up negative n (1000 - f) (m - f) (omega arith) (omega arith)
          ∙ ap (whole_real (signed negative n)) (sym (up-less m f (omega arith)))
    ]
clamped-is-enough negative n k f (negsuc m) small few decimals =
    elim (cases_lt m 999) [
      | inl low ↦ ap (λ c. whole_real (signed negative n) (negsuc c -ℤ pos f)) (min-low m 999 (omega arith))
      | inr high ↦
          ap (λ c. whole_real (signed negative n) (negsuc c -ℤ pos f)) (min-high m 999 high)
          ∙ ap (whole_real (signed negative n)) (down-less 999 f)
          ∙ far-down negative n (999 + f) (m + f) (below-far n k (suc (999 + f)) small (omega arith)) (below-far n k (suc (m + f)) small (omega arith))
          ∙ ap (whole_real (signed negative n)) (sym (down-less m f))
    ]

pub clamped-signed : (negative : Bool) (n : ℕ) → clamped (signed negative n) ≡ signed negative (min n 1000)
clamped-signed true zero = refl
clamped-signed true (suc n) = ap (λ c. neg_ℤ (pos c)) (suc-min n)
  where
    suc-min : (n : ℕ) → suc (min n 999) ≡ min (suc n) 1000
    suc-min n = omega arith
clamped-signed false n = refl

pub le-raised : (n z : ℕ) → n ≤ n * 10 ^ z
le-raised n z = let p : 1 ≤ 10 ^ z = power-positive z in mul-le-mul_left' n (10 ^ z) p
  where
    mul-le-mul_left' : (n p : ℕ) → 1 ≤ p → n ≤ n * p
    mul-le-mul_left' n zero h = absurd (omega arith)
    mul-le-mul_left' n (suc p) h = omega arith

pub raised-beyond : (n z : ℕ) → 0 < n → 19 < z → 2 ^ 64 ≤ n * 10 ^ z
raised-beyond n z h far =
    let large : 10 ^ 20 ≤ 10 ^ z = pow-le-pow_right (omega arith) far in
    let product : 10 ^ z ≤ n * 10 ^ z = large-product n (10 ^ z) h in
    omega arith

-- the code's cut of the last digits, where all of them are zeros
pub shifted-yes : (negative : Bool) (ds front back : List ℕ) (z : ℤ) (places cut : ℕ) → all_ascii_digits ds ≡ true → int_le (pos 0) z ≡ false
    → places ≡ unsigned_abs z → cut ≡ min (length ds) places → front ≡ take (length ds - cut) ds → back ≡ drop (length ds - cut) ds → number_of back ≡ 0
    → fitted (signed negative (number_of front)) ≡ whole_real (signed negative (number_of ds)) z
shifted-yes negative ds front back z places cut t h p c f b zeros =
    let below : (k : ℕ) × (z ≡ negsuc k) × (unsigned_abs z ≡ suc k) = below-zero z h in
    let k : ℕ = below.0 in
    let same : cut ≡ min (length ds) (suc k) = c ∙ ap (λ n. min (length ds) n) (p ∙ below.2) in
    let parts : Cut ds (suc k) (number_of (take (length ds - cut) ds)) (number_of (drop (length ds - cut) ds)) = cut-digits ds (suc k) cut t same in
    whole-down_yes negative (number_of ds) k (number_of front) (number_of back) (parts.back_is ∙ ap number_of (sym b))
    (parts.front_is ∙ ap number_of (sym f)) zeros
    ∙ ap (whole_real (signed negative (number_of ds))) (sym below.1)

-- the same, where they are not
pub shifted-no : (negative : Bool) (ds back : List ℕ) (z : ℤ) (places cut : ℕ) → all_ascii_digits ds ≡ true → int_le (pos 0) z ≡ false
    → places ≡ unsigned_abs z → cut ≡ min (length ds) places → back ≡ drop (length ds - cut) ds → (number_of back ≡ 0 → ⊥)
    → NotWhole ≡ whole_real (signed negative (number_of ds)) z
shifted-no negative ds back z places cut t h p c b some =
    let below : (k : ℕ) × (z ≡ negsuc k) × (unsigned_abs z ≡ suc k) = below-zero z h in
    let k : ℕ = below.0 in
    let same : cut ≡ min (length ds) (suc k) = c ∙ ap (λ n. min (length ds) n) (p ∙ below.2) in
    let parts : Cut ds (suc k) (number_of (take (length ds - cut) ds)) (number_of (drop (length ds - cut) ds)) = cut-digits ds (suc k) cut t same in
    whole-down_no negative (number_of ds) k (number_of back) (parts.back_is ∙ ap number_of (sym b)) some
    ∙ ap (whole_real (signed negative (number_of ds))) (sym below.1)

-- digits whose number doesn't fit are not all zeros
pub number-not_zero : (n : ℕ) → (n < 2 ^ 64 → ⊥) → n ≡ 0 → ⊥
number-not_zero n h z = h (omega arith)
