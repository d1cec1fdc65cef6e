-- What is read as a number.
use Rattle.std.proofs.Common.{◌≡◌, ◌∙◌, ℕ, ◌<◌, ◌==◌, ◌&&◌, Bool, true, false, cond, List, [], ◌∷◌, length}
use Rattle.std.proofs.Common.{drop, refl, sym, ap, subst, arith, rules, ℤ, to_z, of_z, w64, SFits}
use Rattle.std.specs.Prelude.{Some, None, int_le}
use Rattle.std.specs.List.{list_all}
use Rattle.std.specs.Char.{is_ascii_digit}
use Rattle.std.specs.Int.{IsInRange}
use Rattle.std.specs.Str.{all_ascii_digits}
use Rattle.std.specs.Str.Parse.{IsNumeral, without_leading_sign, signed_digits_value}
use Rattle.std.proofs.lemmas.Bool.{and_parts}
use Rattle.std.proofs.lemmas.Bool.Decides.{nat_tests}
use Rattle.std.proofs.lemmas.Int.{to_z-of_z}
use Rattle.std.proofs.lemmas.Str.Parse.{digit_at}
use Rattle.lemmas.proofs.Exported.{numerals}
use Rattle.command_line.specs.Numbers.{without_minus, is_short_numeral, whole_number, within, number_between}

all_same : (ds : List ℕ) → list_all is_ascii_digit ds ≡ all_ascii_digits ds
all_same [] = refl
all_same (d ∷ ds) = ap (λ b. is_ascii_digit d && b) (all_same ds)

numeral_parts : (ds : List ℕ) → is_short_numeral ds ≡ true → IsNumeral 10 ds
numeral_parts ds h =
    let parts = and_parts _ (list_all is_ascii_digit ds) h in
    let some : 0 < length ds = grind (arith, nat_tests) in
    (some, numerals.to ds (sym (all_same ds) ∙ parts.1))

no_plus : (first : ℕ) (rest : List ℕ) → is_short_numeral (first ∷ rest) ≡ true → first == 43 ≡ false
no_plus first rest h =
    let range : IsInRange 48 57 first = digit_at (first ∷ rest) 0 (numeral_parts (first ∷ rest) h).1 (omega arith) in
    grind (arith, nat_tests, range.0)

sign_cut : (text : List ℕ) → is_short_numeral (without_minus text) ≡ true → without_leading_sign text ≡ without_minus text
sign_cut [] h = refl
sign_cut (first ∷ rest) h = by (first == 45) h
  where
    by : (b : Bool) → is_short_numeral (cond b rest (first ∷ rest)) ≡ true
        → cond b rest (drop (cond (first == 43) 1 0) (first ∷ rest)) ≡ cond b rest (first ∷ rest)
    by true h = refl
    by false h = ap (λ t. drop (cond t 1 0) (first ∷ rest)) (no_plus first rest h)

numeral_is : (text : List ℕ) → is_short_numeral (without_minus text) ≡ true → IsNumeral 10 (without_leading_sign text)
numeral_is text h = subst (IsNumeral 10) (sym (sign_cut text h)) (numeral_parts (without_minus text) h)

number_is : (text : List ℕ) → is_short_numeral (without_minus text) ≡ true → whole_number text ≡ Some (signed_digits_value 10 text)
unfolding whole_number
number_is text h = rw h refl

pub no_number : (text : List ℕ) (least most : ℤ) → is_short_numeral (without_minus text) ≡ false → None ≡ number_between least most text
unfolding whole_number
no_number text least most h = rw h refl

again : (x : ℤ) → SFits w64 x → to_z w64 (of_z w64 x) ≡ x
again x fits = to_z-of_z w64 x fits

pub number_read : (text : List ℕ) (least most number : ℤ) → is_short_numeral (without_minus text) ≡ true → SFits w64 least → SFits w64 most
    → IsNumeral 10 (without_leading_sign text) × SFits w64 (signed_digits_value 10 text) × (number ≡ signed_digits_value 10 text)
    → within (to_z w64 (of_z w64 least)) (to_z w64 (of_z w64 most)) (Some (to_z w64 (of_z w64 number))) ≡ number_between least most text
number_read text least most number h low high (numeral, fits, is) =
    let here = ap (λ z. to_z w64 (of_z w64 z)) is ∙ again (signed_digits_value 10 text) fits in
    rw (again least low, again most high, here, number_is text h) refl

outside : (least most v : ℤ) → SFits w64 least → SFits w64 most → (SFits w64 v → ⊥) → None ≡ within least most (Some v)
outside least most v low high misfits = by (int_le least v && int_le v most) refl
  where
    by : (b : Bool) → int_le least v && int_le v most ≡ b → None ≡ cond b (Some v) None
    by true h = let parts = and_parts (int_le least v) (int_le v most) h in absurd (misfits (search rules))
    by false h = refl

pub number_unread : (text : List ℕ) (least most : ℤ) → is_short_numeral (without_minus text) ≡ true → SFits w64 least → SFits w64 most
    → (IsNumeral 10 (without_leading_sign text) × SFits w64 (signed_digits_value 10 text) → ⊥) → None ≡ number_between least most text
number_unread text least most h low high unread =
    outside least most (signed_digits_value 10 text) low high (λ fits. unread (numeral_is text h, fits)) ∙ ap (within least most) (sym (number_is text h))
