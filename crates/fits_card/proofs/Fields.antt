-- What stands in a value field, by its first byte.
use Rattle.std.proofs.Common.{◌≡◌, ℕ, ◌<◌, ◌≤◌, ◌≢◌, Bool, true, false, cond, eqb, ◌&&◌, ◌⊎◌, List, [], ◌∷◌, length}
use Rattle.std.proofs.Common.{drop, get_or, Option, Some, None, refl, sym, ap, ◌∙◌, inl, inr, arith, eq-eqb}
use Rattle.std.proofs.lemmas.Bool.{ne_eqb, and_from, and_left, and_right}
use Rattle.fits_card.specs.Pieces.{without_leading_spaces, is_over, ClosedString, closed}
use Rattle.fits_card.specs.Values.{Nothing, Broken, Quoted, value_field, quoted_content, token_content, content_of}
use Rattle.fits_card.specs.Tokens.{token_in}

pub field-there : (card : List ℕ) → get_or card 8 0 ≡ 61 → get_or card 9 0 ≡ 32 → without_leading_spaces (drop 10 card) ≡ value_field card
unfolding value_field
field-there card e f =
    sym (ap (λ t. cond t (without_leading_spaces (drop 10 card)) []) (and_from _ _ (eq-eqb (get_or card 8 0) 61 e) (eq-eqb (get_or card 9 0) 32 f)))

pub field-not_there : (card : List ℕ) → (get_or card 8 0 ≢ 61) ⊎ (get_or card 9 0 ≢ 32) → [] ≡ value_field card
unfolding value_field
field-not_there card n =
    let absent : (eqb (get_or card 8 0) 61 && eqb (get_or card 9 0) 32) ≡ false =
    elim n [ inl a ↦ and_left _ _ (ne_eqb (get_or card 8 0) 61 a) | inr b ↦ and_right (eqb (get_or card 8 0) 61) _ (ne_eqb (get_or card 9 0) 32 b) ] in
    sym (ap (λ t. cond t (without_leading_spaces (drop 10 card)) []) absent)

pub content-empty : (field : List ℕ) → length field < 1 → content_of field ≡ Nothing
unfolding content_of
content-empty [] h = refl
content-empty (first ∷ rest) h = absurd (omega arith)

pub content-comment : (field : List ℕ) → 1 ≤ length field → get_or field 0 0 ≡ 47 → content_of field ≡ Nothing
unfolding content_of
content-comment [] h e = absurd (omega arith)
content-comment (first ∷ rest) h e =
    ap (λ t. cond t Nothing (cond (eqb first 39) (quoted_content (closed rest)) (token_content (first ∷ rest)))) (eq-eqb first 47 e)

pub content-string : (field : List ℕ) → 1 ≤ length field → get_or field 0 0 ≡ 39 → content_of field ≡ quoted_content (closed (drop 1 field))
unfolding content_of
content-string [] h e = absurd (omega arith)
content-string (first ∷ rest) h e =
    let no : eqb first 47 ≡ false = ne_eqb first 47 (omega arith) in
    ap (λ t. cond t Nothing (cond (eqb first 39) (quoted_content (closed rest)) (token_content (first ∷ rest)))) no
    ∙ ap (λ t. cond t (quoted_content (closed rest)) (token_content (first ∷ rest))) (eq-eqb first 39 e)

pub content-token : (field : List ℕ) → 1 ≤ length field → get_or field 0 0 ≢ 47 → get_or field 0 0 ≢ 39 → content_of field ≡ token_content field
unfolding content_of
content-token [] h m n = absurd (omega arith)
content-token (first ∷ rest) h m n =
    ap (λ t. cond t Nothing (cond (eqb first 39) (quoted_content (closed rest)) (token_content (first ∷ rest)))) (ne_eqb first 47 m)
    ∙ ap (λ t. cond t (quoted_content (closed rest)) (token_content (first ∷ rest))) (ne_eqb first 39 n)

no-token-choice : (b : Bool) (bytes : List ℕ) → token_in (cond b (Quoted bytes) Broken) ≡ None
no-token-choice true bytes = refl
no-token-choice false bytes = refl

pub no-token-in_string : (o : Option ClosedString) → token_in (quoted_content o) ≡ None
no-token-in_string None = refl
no-token-in_string (Some string) = no-token-choice (is_over string.rest) string.text
