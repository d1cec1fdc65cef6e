-- Written cards are read back.
use Rattle.std.proofs.Common.{◌&&◌, nat_le, ◌≡◌, inl, inr, eq-eqb, ℕ, zero, suc, ◌-◌, ◌^◌, ◌<◌, ◌≤◌, ◌≢◌, Bool, true, false, not, cond, eqb, List}
use Rattle.std.proofs.Common.{[], ◌∷◌, ◌++◌, length, get_or, drop, Some, ℤ, pos, negsuc, refl, sym, ap, ◌∙◌, arith, append_assoc, length-append}
use Rattle.std.specs.Prelude.{codes, FitsSigned}
use Rattle.std.specs.Int.{w64}
use Rattle.std.specs.Str.{all_ascii_digits}
use Rattle.std.specs.Fmt.{decimal}
use Rattle.std.specs.List.{list_all}
use Rattle.std.specs.Option.{option_map}
use Rattle.std.proofs.lemmas.Bool.{cases_eq, ne_eqb, and_parts, and_from, or_from, not_from_false, not-true, lt-ltb}
use Rattle.std.proofs.lemmas.List.{get_or_at, get_or_append_left, drop_at}
use Rattle.std.proofs.lemmas.Fmt.{digits_decimal, digits_value-decimal, decimal_nonempty}
use Rattle.fits_card.specs.declared.number.Whole.TheVariants.{Is, Beyond}
use Rattle.fits_card.specs.Pieces.{is_among, before_any, from_any, is_over, is_comment, closed, with_first}
use Rattle.fits_card.specs.Pieces.{without_leading_spaces, without_trailing_spaces, before_kept}
use Rattle.fits_card.specs.Values.{Integer, Text, Token, Quoted, Broken, value_field, content_value, token_content, quoted_content}
use Rattle.fits_card.specs.Values.{token_value, number_value, is_negative, unsigned, number_of, signed, value_of, whole_of}
use Rattle.fits_card.specs.Written.{is_plain, spaces, left_justified, right_justified, written_value, written_logical, written_integer, written_text}
use Rattle.fits_card.specs.Laws.{LogicalIsReadBack, IntegerIsReadBack, IntegerIsWhole, TextIsReadBack, doubled, DoubledQuotesAreRead}
use Rattle.fits_card.proofs.Digits.{digit-in_range}
use Rattle.lemmas.proofs.Exported.{numerals}
use Rattle.fits_card.proofs.Cutting.{plain-byte, closing-quote}
use Rattle.fits_card.proofs.Fields.{field-there, content-token, content-string}
use Rattle.fits_card.proofs.Reals.{number-integer}
use Rattle.fits_card.proofs.ValueKinds.{value-is, token-T, token-F, token-other, token-long}
use Rattle.std.specs.Int.{IsInRange}

-- the value field of a written card

field-at : (front value pad : List ℕ) → length front ≡ 10 → get_or front 8 0 ≡ 61 → get_or front 9 0 ≡ 32
    → value_field ((front ++ value) ++ pad) ≡ without_leading_spaces (value ++ pad)
field-at front value pad l e f =
    let card : List ℕ = (front ++ value) ++ pad in
    let apart : card ≡ front ++ (value ++ pad) = append_assoc front value pad in
    let eight : get_or card 8 0 ≡ 61 = ap (λ xs. get_or xs 8 0) apart ∙ get_or_append_left front (value ++ pad) 0 8 (omega arith) ∙ e in
    let nine : get_or card 9 0 ≡ 32 = ap (λ xs. get_or xs 9 0) apart ∙ get_or_append_left front (value ++ pad) 0 9 (omega arith) ∙ f in
    let rest : drop 10 card ≡ value ++ pad = ap (drop 10) apart ∙ drop_at front (value ++ pad) 10 l in
    sym (field-there card eight nine) ∙ ap without_leading_spaces rest

written-field : (name value : List ℕ) → length name ≡ 8
    → value_field (written_value name value) ≡ without_leading_spaces (value ++ spaces (80 - length (name ++ codes "= " ++ value)))
written-field name value l =
    let front : List ℕ = name ++ codes "= " in
    let ten : length front ≡ 10 = omega (arith, length-append name (codes "= ")) in
    let eight : get_or front 8 0 ≡ 61 = get_or_at name 61 (32 ∷ []) 0 8 l in
    let long : length (name ++ 61 ∷ []) ≡ 9 = omega (arith, length-append name (61 ∷ [])) in
    let nine : get_or front 9 0 ≡ 32 =
    ap (λ xs. get_or xs 9 0) (sym (append_assoc name (61 ∷ []) (32 ∷ []))) ∙ get_or_at (name ++ 61 ∷ []) 32 [] 0 9 long in
    field-at front value (spaces (80 - length (name ++ codes "= " ++ value))) ten eight nine

spaces-passed : (n : ℕ) (xs : List ℕ) → without_leading_spaces (spaces n ++ xs) ≡ without_leading_spaces xs
spaces-passed zero xs = refl
spaces-passed (suc n) xs = spaces-passed n xs

only-spaces : (n : ℕ) → without_leading_spaces (spaces n) ≡ []
only-spaces zero = refl
only-spaces (suc n) = only-spaces n

spaces-over : (n : ℕ) → is_over (spaces n) ≡ true
spaces-over n = ap is_comment (only-spaces n)

-- a token with nothing but spaces behind it

abbrev is_bare : ℕ → Bool
is_bare b = not (is_among (codes " /") b)

before-spaces : (n : ℕ) → before_any (codes " /") (spaces n) ≡ []
before-spaces zero = refl
before-spaces (suc n) = refl

from-spaces : (n : ℕ) → from_any (codes " /") (spaces n) ≡ spaces n
from-spaces zero = refl
from-spaces (suc n) = refl

before-token : (token : List ℕ) (n : ℕ) → list_all is_bare token ≡ true → before_any (codes " /") (token ++ spaces n) ≡ token
before-token [] n t = before-spaces n
before-token (b ∷ token) n t =
    let parts : (is_bare b ≡ true) × (list_all is_bare token ≡ true) = and_parts (is_bare b) (list_all is_bare token) t in
    ap (λ v. cond v [] (b ∷ before_any (codes " /") (token ++ spaces n))) (not-true (is_among (codes " /") b) parts.0)
    ∙ ap (λ xs. b ∷ xs) (before-token token n parts.1)

from-token : (token : List ℕ) (n : ℕ) → list_all is_bare token ≡ true → from_any (codes " /") (token ++ spaces n) ≡ spaces n
from-token [] n t = from-spaces n
from-token (b ∷ token) n t =
    let parts : (is_bare b ≡ true) × (list_all is_bare token ≡ true) = and_parts (is_bare b) (list_all is_bare token) t in
    ap (λ v. cond v (b ∷ (token ++ spaces n)) (from_any (codes " /") (token ++ spaces n))) (not-true (is_among (codes " /") b) parts.0)
    ∙ from-token token n parts.1

token-alone : (token : List ℕ) (n : ℕ) → list_all is_bare token ≡ true → token_content (token ++ spaces n) ≡ Token token
token-alone token n t =
    let over : is_over (from_any (codes " /") (token ++ spaces n)) ≡ true = ap is_over (from-token token n t) ∙ spaces-over n in
    ap (λ v. cond v (Token (before_any (codes " /") (token ++ spaces n))) Broken) over ∙ ap Token (before-token token n t)

first-kept : (b : ℕ) (rest : List ℕ) → b ≢ 32 → without_leading_spaces (b ∷ rest) ≡ b ∷ rest
first-kept b rest n = ap (λ t. cond t (without_leading_spaces rest) (b ∷ rest)) (ne_eqb b 32 n)

-- the value of a card whose value is a right-justified token
right-value : (name : List ℕ) (b : ℕ) (more : List ℕ) → length name ≡ 8 → list_all is_bare (b ∷ more) ≡ true → b ≢ 32 → b ≢ 47 → b ≢ 39
    → value_of (written_value name (right_justified 20 (b ∷ more))) ≡ token_value (b ∷ more)
right-value name b more l t n₁ n₂ n₃ =
    let token : List ℕ = b ∷ more in
    let pad : ℕ = 80 - length (name ++ codes "= " ++ right_justified 20 token) in
    let field : without_leading_spaces (right_justified 20 token ++ spaces pad) ≡ token ++ spaces pad =
    ap without_leading_spaces (append_assoc (spaces (20 - length token)) token (spaces pad))
    ∙ spaces-passed (20 - length token) (token ++ spaces pad) ∙ first-kept b (more ++ spaces pad) n₁ in
    value-is (written_value name (right_justified 20 token)) (token ++ spaces pad) (sym (written-field name (right_justified 20 token) l ∙ field))
    ∙ ap content_value (content-token (token ++ spaces pad) (omega arith) n₂ n₃ ∙ token-alone token pad t)

pub logical-read_back : LogicalIsReadBack
unfolding written_logical
logical-read_back name true l =
    right-value name 84 [] l refl (omega arith) (omega arith) (omega arith) ∙ token-T 84 refl
logical-read_back name false l =
    right-value name 70 [] l refl (omega arith) (omega arith) (omega arith) ∙ token-F 70 refl

-- integers

digit-plain : (d : ℕ) → 48 ≤ d → is_bare d ≡ true
digit-plain d h =
    not_from_false (is_among (codes " /") d) (or_from (eqb 32 d) _ (ne_eqb 32 d (omega arith)) (or_from (eqb 47 d) false (ne_eqb 47 d (omega arith)) refl))

digits-plain : (ds : List ℕ) → all_ascii_digits ds ≡ true → list_all is_bare ds ≡ true
digits-plain [] t = refl
digits-plain (d ∷ ds) t =
    let range : IsInRange 48 57 d = digit-in_range (d ∷ ds) 0 t (omega arith) in
    and_from (is_bare d) (list_all is_bare ds) (digit-plain d range.0) (digits-plain ds (and_parts _ (all_ascii_digits ds) t).1)

not-negative : (d : ℕ) (ds : List ℕ) → 48 ≤ d → is_negative (d ∷ ds) ≡ false
not-negative d ds h = ne_eqb d 45 (omega arith)

no-sign : (d : ℕ) (ds : List ℕ) → 48 ≤ d → unsigned (d ∷ ds) ≡ d ∷ ds
no-sign d ds h = ap (λ t. cond t ds (d ∷ ds)) (or_from (eqb d 43) (eqb d 45) (ne_eqb d 43 (omega arith)) (ne_eqb d 45 (omega arith)))

number-token : (d : ℕ) (ds : List ℕ) → 48 ≤ d → d ≤ 57 → token_value (d ∷ ds) ≡ number_value (is_negative (d ∷ ds)) (unsigned (d ∷ ds))
number-token d [] low high = token-other d (omega arith) (omega arith)
number-token d (e ∷ ds) low high = token-long d e ds

positive-token : (ds : List ℕ) → all_ascii_digits ds ≡ true → 0 < length ds → token_value ds ≡ Integer (pos (number_of ds))
positive-token [] t h = absurd (omega arith)
positive-token (d ∷ ds) t h =
    let range : IsInRange 48 57 d = digit-in_range (d ∷ ds) 0 t (omega arith) in
    number-token d ds range.0 range.1
    ∙ ap (λ v. number_value v (unsigned (d ∷ ds))) (not-negative d ds range.0)
    ∙ ap (number_value false) (no-sign d ds range.0)
    ∙ number-integer false (d ∷ ds) t

negative-token : (ds : List ℕ) → all_ascii_digits ds ≡ true → 0 < length ds → token_value (45 ∷ ds) ≡ Integer (signed true (number_of ds))
negative-token [] t h = absurd (omega arith)
negative-token (d ∷ ds) t h = token-long 45 d ds ∙ number-integer true (d ∷ ds) t

right-digits : (name ds : List ℕ) → length name ≡ 8 → all_ascii_digits ds ≡ true → 0 < length ds
    → value_of (written_value name (right_justified 20 ds)) ≡ token_value ds
right-digits name [] l t h = absurd (omega arith)
right-digits name (d ∷ ds) l t h =
    let range : IsInRange 48 57 d = digit-in_range (d ∷ ds) 0 t (omega arith) in
    right-value name d ds l (digits-plain (d ∷ ds) t) (omega arith) (omega arith) (omega arith)

pub integer-read_back : IntegerIsReadBack
unfolding written_integer
integer-read_back name (pos n) l fits =
    let small : n < 2 ^ 63 = fits.sfits in
    let digits : all_ascii_digits (decimal n) ≡ true = digits_decimal numerals n (omega arith) in
    let some : 0 < length (decimal n) = decimal_nonempty n (omega arith) in
    right-digits name (decimal n) l digits some
    ∙ positive-token (decimal n) digits some
    ∙ ap (λ k. Integer (pos k)) (digits_value-decimal numerals n (omega arith))
integer-read_back name (negsuc n) l fits =
    let small : n < 2 ^ 63 = fits.sfits in
    let digits : all_ascii_digits (decimal (suc n)) ≡ true = digits_decimal numerals (suc n) (omega arith) in
    let some : 0 < length (decimal (suc n)) = decimal_nonempty (suc n) (omega arith) in
    right-value name 45 (decimal (suc n)) l (digits-plain (decimal (suc n)) digits) (omega arith) (omega arith) (omega arith)
    ∙ negative-token (decimal (suc n)) digits some
    ∙ ap (λ k. Integer (signed true k)) (digits_value-decimal numerals (suc n) (omega arith))

fits-whole : (value : ℤ) → FitsSigned w64 value → whole_of (Integer value) ≡ Is value
fits-whole (pos n) fits = let small : n < 2 ^ 63 = fits.sfits in ap (λ t. cond t (Is (pos n)) Beyond) (lt-ltb n (2 ^ 63) small)
fits-whole (negsuc n) fits = let small : n < 2 ^ 63 = fits.sfits in ap (λ t. cond t (Is (negsuc n)) Beyond) (lt-ltb n (2 ^ 63) small)

pub integer-whole : IntegerIsWhole
integer-whole name value l fits = ap whole_of (integer-read_back name value l fits) ∙ fits-whole value fits

-- texts

abbrev is_no_quote : ℕ → Bool
is_no_quote b = not (eqb b 39)

closed-there : (n : ℕ) → closed (39 ∷ spaces n) ≡ Some (record { text = []; rest = spaces n })
closed-there zero = refl
closed-there (suc n) = refl

closed-further : (b : ℕ) (text : List ℕ) (n : ℕ) → eqb b 39 ≡ false
    → closed (b ∷ (text ++ 39 ∷ spaces n)) ≡ option_map (with_first b) (closed (text ++ 39 ∷ spaces n))
closed-further b [] n h =
    ap (λ t. cond t (cond (eqb 39 39) (option_map (with_first 39) (closed (spaces n))) (Some (record { text = []; rest = 39 ∷ spaces n })))
    (option_map (with_first b) (closed (39 ∷ spaces n)))) h
closed-further b (c ∷ text) n h =
    ap (λ t. cond t (cond (eqb c 39) (option_map (with_first 39) (closed (text ++ 39 ∷ spaces n)))
    (Some (record { text = []; rest = c ∷ (text ++ 39 ∷ spaces n) }))) (option_map (with_first b) (closed (c ∷ (text ++ 39 ∷ spaces n))))) h

closed-text : (text : List ℕ) (n : ℕ) → list_all is_no_quote text ≡ true → closed (text ++ 39 ∷ spaces n) ≡ Some (record { text = text; rest = spaces n })
closed-text [] n t = closed-there n
closed-text (b ∷ text) n t =
    let parts : (is_no_quote b ≡ true) × (list_all is_no_quote text ≡ true) = and_parts (is_no_quote b) (list_all is_no_quote text) t in
    closed-further b text n (not-true (eqb b 39) parts.0) ∙ ap (option_map (with_first b)) (closed-text text n parts.1)

spaces-no_quote : (n : ℕ) → list_all is_no_quote (spaces n) ≡ true
spaces-no_quote zero = refl
spaces-no_quote (suc n) = spaces-no_quote n

both-no_quote : (xs ys : List ℕ) → list_all is_no_quote xs ≡ true → list_all is_no_quote ys ≡ true → list_all is_no_quote (xs ++ ys) ≡ true
both-no_quote [] ys t u = u
both-no_quote (x ∷ xs) ys t u =
    let parts : (is_no_quote x ≡ true) × (list_all is_no_quote xs ≡ true) = and_parts (is_no_quote x) (list_all is_no_quote xs) t in
    and_from (is_no_quote x) (list_all is_no_quote (xs ++ ys)) parts.0 (both-no_quote xs ys parts.1 u)

trailing-none : (n : ℕ) → without_trailing_spaces (spaces n) ≡ []
trailing-none zero = refl
trailing-none (suc n) = ap (before_kept 32) (trailing-none n)

trailing-cut : (text : List ℕ) (n : ℕ) → without_trailing_spaces (text ++ spaces n) ≡ without_trailing_spaces text
trailing-cut [] n = trailing-none n
trailing-cut (b ∷ text) n = ap (before_kept b) (trailing-cut text n)

plain-no_quote : (text : List ℕ) → list_all is_plain text ≡ true → list_all is_no_quote text ≡ true
plain-no_quote [] plain = refl
plain-no_quote (b ∷ text) plain =
    let parts : (is_plain b ≡ true) × (list_all is_plain text ≡ true) = and_parts (is_plain b) (list_all is_plain text) plain in
    and_from (is_no_quote b) (list_all is_no_quote text) (and_parts (nat_le 32 b && nat_le b 126) (not (eqb b 39)) parts.0).1 (plain-no_quote text parts.1)

pub text-read_back : TextIsReadBack
unfolding written_text
text-read_back name text l short plain =
    let inside : List ℕ = left_justified 8 text in
    let value : List ℕ = (39 ∷ inside) ++ (39 ∷ []) in
    let pad : ℕ = 80 - length (name ++ codes "= " ++ value) in
    let field : List ℕ = 39 ∷ (inside ++ 39 ∷ spaces pad) in
    let apart : value ++ spaces pad ≡ field = append_assoc (39 ∷ inside) (39 ∷ []) (spaces pad) in
    let field_is : field ≡ value_field (written_value name value) = sym (written-field name value l ∙ ap without_leading_spaces apart) in
    let no_quote : list_all is_no_quote inside ≡ true =
    both-no_quote text (spaces (8 - length text)) (plain-no_quote text plain) (spaces-no_quote (8 - length text)) in
    value-is (written_value name value) field field_is
    ∙ ap content_value
    (content-string field (omega arith) refl
    ∙ ap quoted_content (closed-text inside pad no_quote)
    ∙ ap (λ t. cond t (Quoted inside) Broken) (spaces-over pad))
    ∙ ap Text (trailing-cut text (8 - length text))

doubled-end : (rest : List ℕ) → get_or rest 0 0 ≢ 39 → closed (39 ∷ rest) ≡ Some (record { text = []; rest = rest })
doubled-end [] n = refl
doubled-end (c ∷ rest) n = closing-quote (39 ∷ c ∷ rest) (omega arith) refl n

doubled-quote_first : (b : ℕ) (text : List ℕ) → b ≡ 39 → doubled (b ∷ text) ≡ 39 ∷ 39 ∷ doubled text
doubled-quote_first b text e = ap (λ t. cond t (39 ∷ 39 ∷ doubled text) (b ∷ doubled text)) (eq-eqb b 39 e)

doubled-plain_first : (b : ℕ) (text : List ℕ) → b ≢ 39 → doubled (b ∷ text) ≡ b ∷ doubled text
doubled-plain_first b text n = ap (λ t. cond t (39 ∷ 39 ∷ doubled text) (b ∷ doubled text)) (ne_eqb b 39 n)

pub doubled-read : DoubledQuotesAreRead
doubled-read [] rest n = doubled-end rest n
doubled-read (b ∷ text) rest n =
    let again : closed (doubled text ++ 39 ∷ rest) ≡ Some (record { text = text; rest = rest }) = doubled-read text rest n in
    elim (cases_eq b 39) [
      | inl same ↦
          ap (λ xs. closed (xs ++ 39 ∷ rest)) (doubled-quote_first b text same)
          ∙ ap (option_map (with_first 39)) again
          ∙ ap (λ c. Some (record { text = c ∷ text; rest = rest })) (sym same)
      | inr other ↦
          ap (λ xs. closed (xs ++ 39 ∷ rest)) (doubled-plain_first b text other)
          ∙ plain-byte (b ∷ (doubled text ++ 39 ∷ rest)) (omega (arith, length-append (doubled text) (39 ∷ rest))) other
          ∙ ap (option_map (with_first b)) again
    ]
