-- Digits, and the numbers that they write.
use Rattle.std.proofs.Common.{◌≡◌, ℕ, zero, suc, ◌+◌, ◌-◌, ◌*◌, ◌/◌, ◌%◌, ◌^◌, ◌<◌, ◌≤◌, true, false, List, [], ◌∷◌, ◌++◌, length}
use Rattle.std.proofs.Common.{take, drop, min, get_or, refl, sym, ap, ◌∙◌, inl, inr, arith, length-drop, take-append-drop}
use Rattle.std.specs.Char.{digit_value, is_ascii_digit}
use Rattle.std.specs.Str.{all_ascii_digits}
use Rattle.std.specs.Str.Parse.{AllDigits, digits_value, digits_value_after}
use Rattle.std.proofs.lemmas.Bool.{and_parts, and_from, and_left, and_right, cases_lt}
use Rattle.std.proofs.lemmas.Bool.Decides.{nat_tests}
use Rattle.std.proofs.lemmas.Int.Digits.{digits_value-lt, digits_value_more}
use Rattle.std.proofs.lemmas.Str.Parse.{digit_at, digits_value-take-le}
use Rattle.std.proofs.lemmas.Nat.{div-mul-add, mod-mul-add}
use Rattle.std.proofs.Math.Nat.{pow-suc, pow-le-pow_right}
use Rattle.std.specs.Int.{IsInRange}
use Rattle.lemmas.proofs.Exported.{numerals}
use Rattle.fits_card.specs.Values.{is_numeral}

pub all_digits-from_test : (ds : List ℕ) → all_ascii_digits ds ≡ true → AllDigits 10 ds
all_digits-from_test ds t = numerals.to ds t

pub digit-in_range : (ds : List ℕ) (i : ℕ) → all_ascii_digits ds ≡ true → i < length ds → IsInRange 48 57 (get_or ds i 0)
digit-in_range ds i t h = digit_at ds i (all_digits-from_test ds t) h

pub digit_value-of : (c : ℕ) → 48 ≤ c → c ≤ 57 → digit_value c ≡ c - 48
digit_value-of c low high = grind (arith, nat_tests)

pub all_digits-take : (n : ℕ) (ds : List ℕ) → all_ascii_digits ds ≡ true → all_ascii_digits (take n ds) ≡ true
all_digits-take zero ds t = refl
all_digits-take (suc n) [] t = refl
all_digits-take (suc n) (d ∷ ds) t =
    let parts = and_parts _ (all_ascii_digits ds) t in
    and_from _ (all_ascii_digits (take n ds)) parts.0 (all_digits-take n ds parts.1)

pub all_digits-drop : (n : ℕ) (ds : List ℕ) → all_ascii_digits ds ≡ true → all_ascii_digits (drop n ds) ≡ true
all_digits-drop zero ds t = t
all_digits-drop (suc n) [] t = refl
all_digits-drop (suc n) (d ∷ ds) t =
    let parts = and_parts _ (all_ascii_digits ds) t in
    all_digits-drop n ds parts.1

shifted-sum : (n d p q v a b : ℕ) → a ≡ (n * 10 + d) * p + v → b ≡ (0 * 10 + d) * p + v → q ≡ p * 10 → a ≡ n * q + b
shifted-sum n d p q v a b e f g = rw g (omega arith)

value-after : (n : ℕ) (ds : List ℕ) → digits_value_after 10 n ds ≡ n * 10 ^ length ds + digits_value_after 10 0 ds
value-after n [] = omega arith
value-after n (d ∷ ds) =
    let here : digits_value_after 10 (n * 10 + digit_value d) ds ≡ (n * 10 + digit_value d) * 10 ^ length ds + digits_value_after 10 0 ds =
    value-after (n * 10 + digit_value d) ds in
    let first : digits_value_after 10 (0 * 10 + digit_value d) ds ≡ (0 * 10 + digit_value d) * 10 ^ length ds + digits_value_after 10 0 ds =
    value-after (0 * 10 + digit_value d) ds in
    shifted-sum n (digit_value d) (10 ^ length ds) (10 ^ suc (length ds)) (digits_value_after 10 0 ds) _ _ here first (pow-suc 10 (length ds))

after-append : (n : ℕ) (xs ys : List ℕ) → digits_value_after 10 n (xs ++ ys) ≡ digits_value_after 10 (digits_value_after 10 n xs) ys
after-append n [] ys = refl
after-append n (x ∷ xs) ys = after-append (n * 10 + digit_value x) xs ys

pub digits_value-append : (xs ys : List ℕ) → digits_value 10 (xs ++ ys) ≡ digits_value 10 xs * 10 ^ length ys + digits_value 10 ys
digits_value-append xs ys = after-append 0 xs ys ∙ value-after (digits_value 10 xs) ys

pub digits-below : (ds : List ℕ) → all_ascii_digits ds ≡ true → digits_value 10 ds < 10 ^ length ds
digits-below ds t = digits_value-lt 10 ds (all_digits-from_test ds t)

-- what is left and what is cut off where the last k digits are, or all digits where they are fewer
pub record Cut (ds : List ℕ) (k : ℕ) (front back : ℕ) : Type 0 where
  pub back_is : digits_value 10 ds % 10 ^ k ≡ back
  pub front_is : digits_value 10 ds / 10 ^ k ≡ front

cut-by : (n p front back : ℕ) → n ≡ front * p + back → back < p → (n % p ≡ back) × (n / p ≡ front)
cut-by n p front back e h = rw e (mod-mul-add front p back h, div-mul-add front p back h)

cut-within : (ds : List ℕ) (k : ℕ) → all_ascii_digits ds ≡ true → k ≤ length ds
    → Cut ds k (digits_value 10 (take (length ds - k) ds)) (digits_value 10 (drop (length ds - k) ds))
cut-within ds k t h =
    let front : List ℕ = take (length ds - k) ds in
    let back : List ℕ = drop (length ds - k) ds in
    let long : length back ≡ k = omega (arith, length-drop (length ds - k) ds) in
    let whole : digits_value 10 ds ≡ digits_value 10 front * 10 ^ length back + digits_value 10 back =
    ap (digits_value 10) (sym (take-append-drop (length ds - k) ds)) ∙ digits_value-append front back in
    let small : digits_value 10 back < 10 ^ length back = digits-below back (all_digits-drop (length ds - k) ds t) in
    let parts : (digits_value 10 ds % 10 ^ k ≡ digits_value 10 back) × (digits_value 10 ds / 10 ^ k ≡ digits_value 10 front) =
    cut-by (digits_value 10 ds) (10 ^ k) (digits_value 10 front) (digits_value 10 back) (rw long at whole) (rw long at small) in
    record { back_is = parts.0; front_is = parts.1 }

pub below-power : (ds : List ℕ) (k : ℕ) → all_ascii_digits ds ≡ true → length ds ≤ k → digits_value 10 ds < 10 ^ k
below-power ds k t h =
    let small : digits_value 10 ds < 10 ^ length ds = digits-below ds t in
    let more : 10 ^ length ds ≤ 10 ^ k = pow-le-pow_right (omega arith) h in
    omega arith

cut-beyond : (ds : List ℕ) (k : ℕ) → all_ascii_digits ds ≡ true → length ds ≤ k → Cut ds k 0 (digits_value 10 ds)
cut-beyond ds k t h =
    let parts : (digits_value 10 ds % 10 ^ k ≡ digits_value 10 ds) × (digits_value 10 ds / 10 ^ k ≡ 0) =
    cut-by (digits_value 10 ds) (10 ^ k) 0 (digits_value 10 ds) (omega arith) (below-power ds k t h) in
    record { back_is = parts.0; front_is = parts.1 }

pub cut-digits : (ds : List ℕ) (k cut : ℕ) → all_ascii_digits ds ≡ true → cut ≡ min (length ds) k
    → Cut ds k (digits_value 10 (take (length ds - cut) ds)) (digits_value 10 (drop (length ds - cut) ds))
cut-digits ds k cut t e =
    elim (cases_lt k (length ds)) [
      | inl within ↦ let same : cut ≡ k = omega arith in rw same (cut-within ds k t (omega arith))
      | inr beyond ↦ let all : length ds - cut ≡ 0 = omega arith in rw all (cut-beyond ds k t beyond)
    ]

-- the front of the digits is no more than the whole
pub front-le : (ds : List ℕ) (i : ℕ) → digits_value 10 (take i ds) ≤ digits_value 10 ds
front-le ds i = digits_value-take-le 10 ds i (omega arith)

-- one digit more
pub digits-more : (ds : List ℕ) (i : ℕ) → all_ascii_digits ds ≡ true → i < length ds
    → digits_value 10 (take (i + 1) ds) ≡ digits_value 10 (take i ds) * 10 + (get_or ds i 0 - 48)
digits-more ds i t h =
    let range : IsInRange 48 57 (get_or ds i 0) = digit-in_range ds i t h in
    digits_value_more 10 ds i h ∙ ap (λ v. digits_value 10 (take i ds) * 10 + v) (digit_value-of (get_or ds i 0) range.0 range.1)

pub all_digits-by_index : (ds : List ℕ) → ((k : ℕ) → k < length ds → is_ascii_digit (get_or ds k 0) ≡ true) → all_ascii_digits ds ≡ true
all_digits-by_index [] each = refl
all_digits-by_index (d ∷ ds) each =
    and_from _ (all_ascii_digits ds) (each 0 (omega arith)) (all_digits-by_index ds (λ k h. each (suc k) (omega arith)))

pub some-no_digit : (ds : List ℕ) (k : ℕ) → k < length ds → is_ascii_digit (get_or ds k 0) ≡ false → all_ascii_digits ds ≡ false
some-no_digit [] k h n = absurd (omega arith)
some-no_digit (d ∷ ds) zero h n = and_left _ (all_ascii_digits ds) n
some-no_digit (d ∷ ds) (suc k) h n = and_right (is_ascii_digit d) _ (some-no_digit ds k (omega arith) n)

pub numeral-is : (bytes : List ℕ) → 0 < length bytes → is_numeral bytes ≡ all_ascii_digits bytes
numeral-is [] h = absurd (omega arith)
numeral-is (first ∷ rest) h = refl

pub digits-from_numeral : (bytes : List ℕ) → is_numeral bytes ≡ true → all_ascii_digits bytes ≡ true
digits-from_numeral [] h = refl
digits-from_numeral (first ∷ rest) h = h
