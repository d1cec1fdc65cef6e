-- Which values a content and a token can have.
use Rattle.std.proofs.Common.{◌≡◌, ℕ, zero, suc, ◌^◌, ◌<◌, ◌≤◌, ◌≢◌, Bool, true, false, not, cond, eqb, List, [], ◌∷◌, ◌++◌}
use Rattle.std.proofs.Common.{length, get_or, Option, Some, None, ℤ, refl, sym, ap, ◌∙◌, inl, inr, arith, eq-eqb, drop}
use Rattle.std.specs.Prelude.{codes, SomeIff}
use Rattle.std.proofs.lemmas.Bool.{ne_eqb, cases_eq, cases_Bool, cases_lt, le-ltb}
use Rattle.fits_card.specs.Pieces.{is_over, before_any, from_any, ClosedString, closed, without_trailing_spaces}
use Rattle.fits_card.specs.declared.number.Whole.{Whole}
use Rattle.fits_card.specs.Values.{Value, NoValue, Malformed, Logical, Integer, Real, Text, Content, Nothing, Broken, Quoted, Token, is_numeral, is_negative}
use Rattle.fits_card.specs.Values.{unsigned, signed, number_of, exponent_of, real_of, real_value, number_value, token_value, token_content, quoted_content}
use Rattle.fits_card.specs.Values.{content_of, content_value, value_field, value_of, is_present, logical_of, integer_of, text_of, whole_of, fits_i64}
use Rattle.fits_card.specs.Tokens.{token_in}
use Rattle.fits_card.proofs.Fields.{content-empty, content-comment, content-string, content-token}
use Rattle.fits_card.proofs.Reals.{number-integer, number-real}

choice : {X : Type 0} (P : X → Type 0) (b : Bool) (x y : X) → P x → P y → P (cond b x y)
choice P true x y p q = p
choice P false x y p q = q

real_of-kind : (P : Value → Type 0) (negative : Bool) (whole fraction : List ℕ) (o : Option ℤ) → P Malformed → ((m e : ℤ) → P (Real m e))
    → P (real_of negative whole fraction o)
real_of-kind P negative whole fraction None m r = m
real_of-kind P negative whole fraction (Some e) m r = choice P (is_numeral (whole ++ fraction)) _ _ (r _ _) m

pub real-kind : (P : Value → Type 0) (negative : Bool) (bytes : List ℕ) → P Malformed → ((m e : ℤ) → P (Real m e)) → P (real_value negative bytes)
unfolding real_value
real-kind P negative bytes m r =
    real_of-kind P negative (before_any (codes ".") (before_any (codes "EDed") bytes)) (drop 1 (from_any (codes ".") (before_any (codes "EDed") bytes)))
    (exponent_of (from_any (codes "EDed") bytes)) m r

pub number-kind : (P : Value → Type 0) (negative : Bool) (bytes : List ℕ) → P Malformed → ((n : ℤ) → P (Integer n)) → ((m e : ℤ) → P (Real m e))
    → P (number_value negative bytes)
unfolding number_value
number-kind P negative bytes m n r = choice P (is_numeral bytes) _ _ (n _) (real-kind P negative bytes m r)

-- a token is a number, or a letter that is none
pub data TokenKind (token : List ℕ) : Type 0 where
  number : token_value token ≡ number_value (is_negative token) (unsigned token) → TokenKind token
  letter : (b : Bool) → token_value token ≡ Logical b → number_value (is_negative token) (unsigned token) ≡ Malformed → TokenKind token

letter-T : number_value (is_negative (84 ∷ [])) (unsigned (84 ∷ [])) ≡ Malformed
unfolding number_value real_value exponent_of
letter-T = refl

letter-F : number_value (is_negative (70 ∷ [])) (unsigned (70 ∷ [])) ≡ Malformed
unfolding number_value real_value exponent_of
letter-F = refl

no-bytes : Malformed ≡ number_value (is_negative []) (unsigned [])
unfolding number_value real_value exponent_of
no-bytes = refl

pub token-T : (b : ℕ) → b ≡ 84 → token_value (b ∷ []) ≡ Logical true
unfolding token_value
token-T b e = ap (λ t. cond t (Logical true) (cond (eqb b 70) (Logical false) (number_value (is_negative (b ∷ [])) (unsigned (b ∷ []))))) (eq-eqb b 84 e)

pub token-F : (b : ℕ) → b ≡ 70 → token_value (b ∷ []) ≡ Logical false
unfolding token_value
token-F b e =
    ap (λ t. cond t (Logical true) (cond (eqb b 70) (Logical false) (number_value (is_negative (b ∷ [])) (unsigned (b ∷ []))))) (ne_eqb b 84 (omega arith))
    ∙ ap (λ t. cond t (Logical false) (number_value (is_negative (b ∷ [])) (unsigned (b ∷ [])))) (eq-eqb b 70 e)

pub token-other : (b : ℕ) → b ≢ 84 → b ≢ 70 → token_value (b ∷ []) ≡ number_value (is_negative (b ∷ [])) (unsigned (b ∷ []))
unfolding token_value
token-other b m n =
    ap (λ t. cond t (Logical true) (cond (eqb b 70) (Logical false) (number_value (is_negative (b ∷ [])) (unsigned (b ∷ []))))) (ne_eqb b 84 m)
    ∙ ap (λ t. cond t (Logical false) (number_value (is_negative (b ∷ [])) (unsigned (b ∷ [])))) (ne_eqb b 70 n)

pub token-long : (b c : ℕ) (rest : List ℕ) → token_value (b ∷ c ∷ rest) ≡ number_value (is_negative (b ∷ c ∷ rest)) (unsigned (b ∷ c ∷ rest))
unfolding token_value
token-long b c rest = refl

token-none : token_value [] ≡ Malformed
unfolding token_value
token-none = refl

pub token-kind : (token : List ℕ) → TokenKind token
token-kind [] = number (token-none ∙ no-bytes)
token-kind (b ∷ []) =
    elim (cases_eq b 84) [
      | inl t ↦ letter true (token-T b t) (ap (λ x. number_value (is_negative (x ∷ [])) (unsigned (x ∷ []))) t ∙ letter-T)
      | inr not_t ↦ elim (cases_eq b 70) [
        | inl f ↦ letter false (token-F b f) (ap (λ x. number_value (is_negative (x ∷ [])) (unsigned (x ∷ []))) f ∙ letter-F)
        | inr not_f ↦ number (token-other b not_t not_f)
      ]
    ]
token-kind (b ∷ c ∷ rest) = number (token-long b c rest)

pub whole-token : (token : List ℕ) → whole_of (token_value token) ≡ whole_of (number_value (is_negative token) (unsigned token))
whole-token token = elim (token-kind token) [
  | number e ↦ ap whole_of e
  | letter b e m ↦ ap whole_of e ∙ sym (ap whole_of m)
]

pub integer-token : (token : List ℕ) → integer_of (token_value token) ≡ integer_of (number_value (is_negative token) (unsigned token))
integer-token token = elim (token-kind token) [
  | number e ↦ ap integer_of e
  | letter b e m ↦ ap integer_of e ∙ sym (ap integer_of m)
]

pub no-integer : (negative : Bool) (bytes : List ℕ) → is_numeral bytes ≡ false → integer_of (number_value negative bytes) ≡ None
no-integer negative bytes n =
    ap integer_of (number-real negative bytes n) ∙ real-kind (λ v. integer_of v ≡ None) negative bytes refl (λ m e. refl)

pub an-integer : (negative : Bool) (bytes : List ℕ) → is_numeral bytes ≡ true
    → integer_of (number_value negative bytes) ≡ cond (fits_i64 (signed negative (number_of bytes))) (Some (signed negative (number_of bytes))) None
an-integer negative bytes n = ap integer_of (number-integer negative bytes n)

no-logical-number : (negative : Bool) (bytes : List ℕ) → logical_of (number_value negative bytes) ≡ None
no-logical-number negative bytes = number-kind (λ v. logical_of v ≡ None) negative bytes refl (λ n. refl) (λ m e. refl)

pub logical-T : (token : List ℕ) → length token ≡ 1 → get_or token 0 0 ≡ 84 → Some true ≡ logical_of (token_value token)
logical-T [] h e = absurd (omega arith)
logical-T (b ∷ []) h e = sym (ap logical_of (token-T b e))
logical-T (b ∷ c ∷ rest) h e = absurd (omega arith)

pub logical-F : (token : List ℕ) → length token ≡ 1 → get_or token 0 0 ≡ 70 → Some false ≡ logical_of (token_value token)
logical-F [] h e = absurd (omega arith)
logical-F (b ∷ []) h e = sym (ap logical_of (token-F b e))
logical-F (b ∷ c ∷ rest) h e = absurd (omega arith)

pub logical-other : (token : List ℕ) → length token ≡ 1 → get_or token 0 0 ≢ 84 → get_or token 0 0 ≢ 70 → None ≡ logical_of (token_value token)
logical-other [] h m n = absurd (omega arith)
logical-other (b ∷ []) h m n = sym (ap logical_of (token-other b m n) ∙ no-logical-number (is_negative (b ∷ [])) (unsigned (b ∷ [])))
logical-other (b ∷ c ∷ rest) h m n = absurd (omega arith)

pub logical-no_letter : (token : List ℕ) → length token ≢ 1 → None ≡ logical_of (token_value token)
logical-no_letter [] n = sym (ap logical_of token-none)
logical-no_letter (b ∷ []) n = absurd (n refl)
logical-no_letter (b ∷ c ∷ rest) n = sym (ap logical_of (token-long b c rest) ∙ no-logical-number (is_negative (b ∷ c ∷ rest)) (unsigned (b ∷ c ∷ rest)))

-- the values of contents

token-present : (token : List ℕ) → is_present (token_value token) ≡ true
token-present token = elim (token-kind token) [
  | number e ↦ ap is_present e ∙ number-kind (λ v. is_present v ≡ true) (is_negative token) (unsigned token) refl (λ n. refl) (λ m e. refl)
  | letter b e m ↦ ap is_present e
]

token-no_text : (token : List ℕ) → text_of (token_value token) ≡ None
token-no_text token = elim (token-kind token) [
  | number e ↦ ap text_of e ∙ number-kind (λ v. text_of v ≡ None) (is_negative token) (unsigned token) refl (λ n. refl) (λ m e. refl)
  | letter b e m ↦ ap text_of e
]

quoted-present : (o : Option ClosedString) → is_present (content_value (quoted_content o)) ≡ true
quoted-present None = refl
quoted-present (Some string) = choice (λ c. is_present (content_value c) ≡ true) (is_over string.rest) (Quoted string.text) Broken refl refl

content-present : (field : List ℕ) → is_present (content_value (token_content field)) ≡ true
content-present field =
    choice (λ c. is_present (content_value c) ≡ true) (is_over (from_any (codes " /") field)) (Token (before_any (codes " /") field)) Broken
    (token-present (before_any (codes " /") field)) refl

content-no_text : (field : List ℕ) → text_of (content_value (token_content field)) ≡ None
content-no_text field =
    choice (λ c. text_of (content_value c) ≡ None) (is_over (from_any (codes " /") field)) (Token (before_any (codes " /") field)) Broken
    (token-no_text (before_any (codes " /") field)) refl

pub value-is : (card field : List ℕ) → field ≡ value_field card → value_of card ≡ content_value (content_of field)
unfolding value_of
value-is card field f = sym (ap (λ xs. content_value (content_of xs)) f)

pub absent-empty : (card field : List ℕ) → field ≡ value_field card → length field < 1 → false ≡ is_present (value_of card)
absent-empty card field f h = sym (ap is_present (value-is card field f ∙ ap content_value (content-empty field h)))

pub present-first : (card field : List ℕ) → field ≡ value_field card → 1 ≤ length field → not (eqb (get_or field 0 0) 47) ≡ is_present (value_of card)
present-first card field f h =
    elim (cases_eq (get_or field 0 0) 47) [
      | inl comment ↦ ap not (eq-eqb (get_or field 0 0) 47 comment)
          ∙ sym (ap is_present (value-is card field f ∙ ap content_value (content-comment field h comment)))
      | inr no_comment ↦
          ap not (ne_eqb (get_or field 0 0) 47 no_comment)
          ∙ elim (cases_eq (get_or field 0 0) 39) [
            | inl string ↦ sym (ap is_present (value-is card field f ∙ ap content_value (content-string field h string))
                ∙ quoted-present (closed (drop 1 field)))
            | inr token ↦ sym (ap is_present (value-is card field f ∙ ap content_value (content-token field h no_comment token)) ∙ content-present field)
          ]
    ]

pub text-no_field : (card field : List ℕ) → field ≡ value_field card → length field < 1 → None ≡ text_of (value_of card)
text-no_field card field f h = sym (ap text_of (value-is card field f ∙ ap content_value (content-empty field h)))

pub text-no_quote : (card field : List ℕ) → field ≡ value_field card → 1 ≤ length field → get_or field 0 0 ≢ 39 → None ≡ text_of (value_of card)
text-no_quote card field f h n =
    elim (cases_eq (get_or field 0 0) 47) [
      | inl comment ↦ sym (ap text_of (value-is card field f ∙ ap content_value (content-comment field h comment)))
      | inr no_comment ↦ sym (ap text_of (value-is card field f ∙ ap content_value (content-token field h no_comment n)) ∙ content-no_text field)
    ]

quoted-value : (card field : List ℕ) → field ≡ value_field card → 1 ≤ length field → get_or field 0 0 ≡ 39
    → value_of card ≡ content_value (quoted_content (closed (drop 1 field)))
quoted-value card field f h q = value-is card field f ∙ ap content_value (content-string field h q)

pub text-not_closed : (card field : List ℕ) → field ≡ value_field card → 1 ≤ length field → get_or field 0 0 ≡ 39 → closed (drop 1 field) ≡ None
    → None ≡ text_of (value_of card)
text-not_closed card field f h q c = sym (ap text_of (quoted-value card field f h q ∙ ap (λ o. content_value (quoted_content o)) c))

pub text-not_over : (card field text rest : List ℕ) → field ≡ value_field card → 1 ≤ length field → get_or field 0 0 ≡ 39
    → closed (drop 1 field) ≡ Some (record { text = text; rest = rest }) → is_over rest ≡ false → None ≡ text_of (value_of card)
text-not_over card field text rest f h q c n =
    sym (ap text_of (quoted-value card field f h q ∙ ap (λ o. content_value (quoted_content o)) c ∙ ap (λ t. content_value (cond t (Quoted text) Broken)) n))

pub text-whole : (card field text rest : List ℕ) → field ≡ value_field card → 1 ≤ length field → get_or field 0 0 ≡ 39
    → closed (drop 1 field) ≡ Some (record { text = text; rest = rest }) → is_over rest ≡ true → Some (without_trailing_spaces text) ≡ text_of (value_of card)
text-whole card field text rest f h q c o =
    sym (ap text_of (quoted-value card field f h q ∙ ap (λ o. content_value (quoted_content o)) c ∙ ap (λ t. content_value (cond t (Quoted text) Broken)) o))

token-found : (c : Content) (token : List ℕ) → Some token ≡ token_in c → c ≡ Token token
token-found Nothing token h = absurd (mixed token h)
  where
    mixed : (token : List ℕ) → Some token ≡ None → ⊥
    mixed token h = cc
token-found Broken token h = absurd (mixed token h)
  where
    mixed : (token : List ℕ) → Some token ≡ None → ⊥
    mixed token h = cc
token-found (Quoted bytes) token h = absurd (mixed token h)
  where
    mixed : (token : List ℕ) → Some token ≡ None → ⊥
    mixed token h = cc
token-found (Token bytes) token h = ap Token (same bytes token h)
  where
    same : (a b : List ℕ) → Some b ≡ Some a → a ≡ b
    same a b h = cc

no-token-found : (P : Value → Type 0) (c : Content) → None ≡ token_in c → P NoValue → P Malformed → ((bytes : List ℕ) → P (Text bytes)) → P (content_value c)
no-token-found P Nothing h n m t = n
no-token-found P Broken h n m t = m
no-token-found P (Quoted bytes) h n m t = t (without_trailing_spaces bytes)
no-token-found P (Token bytes) h n m t = absurd (mixed bytes h)
  where
    mixed : (token : List ℕ) → None ≡ Some token → ⊥
    mixed token h = cc

-- the value of a card whose content is a token, and of one whose content isn't
pub value-of_token : (card token : List ℕ) → Some token ≡ token_in (content_of (value_field card)) → value_of card ≡ token_value token
value-of_token card token h = value-is card (value_field card) refl ∙ ap content_value (token-found (content_of (value_field card)) token h)

pub value-without_token : (P : Value → Type 0) (card : List ℕ) → None ≡ token_in (content_of (value_field card)) → P NoValue → P Malformed
    → ((bytes : List ℕ) → P (Text bytes)) → P (value_of card)
unfolding value_of
value-without_token P card h n m t = no-token-found P (content_of (value_field card)) h n m t

too-large : (negative : Bool) (n : ℕ) → (n < 2 ^ 64 → ⊥) → fits_i64 (signed negative n) ≡ false
too-large negative zero h = absurd (h (omega arith))
too-large true (suc n) h = elim (cases_lt n (2 ^ 63)) [ inl small ↦ absurd (h (omega arith)) | inr large ↦ le-ltb n (2 ^ 63) large ]
too-large false (suc n) h = elim (cases_lt (suc n) (2 ^ 63)) [ inl small ↦ absurd (h (omega arith)) | inr large ↦ le-ltb (suc n) (2 ^ 63) large ]

some-where_fits : (z : ℤ) (r : Option ℤ) → SomeIff r (fits_i64 z ≡ true) z → r ≡ cond (fits_i64 z) (Some z) None
some-where_fits z None h = elim (cases_Bool (fits_i64 z)) [ inl fits ↦ absurd (h fits) | inr beyond ↦ sym (ap (λ t. cond t (Some z) None) beyond) ]
some-where_fits z (Some x) h = ap (λ y. Some y) h.1 ∙ sym (ap (λ t. cond t (Some z) None) h.0)

-- the integer, from the sign and the digits that the code splits off
pub integer-read : (token bytes : List ℕ) (negative : Bool) (m : ℕ) (r : Option ℤ) → negative ≡ is_negative token → bytes ≡ unsigned token
    → is_numeral bytes ≡ true → m ≡ number_of bytes → SomeIff r (fits_i64 (signed negative m) ≡ true) (signed negative m) → r ≡ integer_of (token_value token)
integer-read token bytes negative m r s b n e h =
    some-where_fits (signed negative m) r h
    ∙ ap (λ k. cond (fits_i64 (signed negative k)) (Some (signed negative k)) None) e
    ∙ sym (an-integer negative bytes n)
    ∙ ap (λ v. integer_of (number_value v bytes)) s
    ∙ ap (λ xs. integer_of (number_value (is_negative token) xs)) b
    ∙ sym (integer-token token)

pub integer-too_large : (token bytes : List ℕ) (negative : Bool) → negative ≡ is_negative token → bytes ≡ unsigned token → is_numeral bytes ≡ true
    → (number_of bytes < 2 ^ 64 → ⊥) → None ≡ integer_of (token_value token)
integer-too_large token bytes negative s b n h =
    sym (ap (λ t. cond t (Some (signed negative (number_of bytes))) None) (too-large negative (number_of bytes) h))
    ∙ sym (an-integer negative bytes n)
    ∙ ap (λ v. integer_of (number_value v bytes)) s
    ∙ ap (λ xs. integer_of (number_value (is_negative token) xs)) b
    ∙ sym (integer-token token)

pub integer-none : (token bytes : List ℕ) → bytes ≡ unsigned token → is_numeral bytes ≡ false → None ≡ integer_of (token_value token)
integer-none token bytes b n = sym (integer-token token ∙ no-integer (is_negative token) (unsigned token) (sym (ap is_numeral b) ∙ n))

pub whole-read : (token bytes : List ℕ) (negative : Bool) (result : Whole) → negative ≡ is_negative token → bytes ≡ unsigned token
    → result ≡ whole_of (number_value negative bytes) → result ≡ whole_of (token_value token)
whole-read token bytes negative result s b r =
    r ∙ ap (λ v. whole_of (number_value v bytes)) s
    ∙ ap (λ xs. whole_of (number_value (is_negative token) xs)) b
    ∙ sym (whole-token token)
