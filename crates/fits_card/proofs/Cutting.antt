-- How code that looks for a place cuts bytes.
use Rattle.std.proofs.Common.{◌≡◌, ℕ, suc, ◌+◌, ◌-◌, ◌<◌, ◌≤◌, true, false, not, cond, eqb, List, [], ◌∷◌, ◌++◌, length}
use Rattle.std.proofs.Common.{take, drop, get_or, Option, Some, None, refl, sym, ap, ◌∙◌, arith, append_assoc, eq-eqb}
use Rattle.std.specs.List.{position_or_len}
use Rattle.std.specs.Option.{option_map}
use Rattle.std.proofs.lemmas.Bool.{ne_eqb}
use Rattle.std.proofs.lemmas.List.{drop_more, take_more, append-nil, length-drop, length-append}
use Rattle.std.proofs.lemmas.List.Sums.{position_or_len_is}
use Rattle.fits_card.specs.Pieces.{without_leading_spaces, without_trailing_spaces, before_kept}
use Rattle.fits_card.specs.Pieces.{is_among, before_any, from_any, ClosedString, closed, with_first}

one-more : (n : ℕ) → 1 + n ≡ suc n
one-more n = omega arith

pub space-passed : (bytes : List ℕ) (i : ℕ) → i < length bytes → get_or bytes i 0 ≡ 32
    → without_leading_spaces (drop i bytes) ≡ without_leading_spaces (drop (i + 1) bytes)
space-passed bytes i h e =
    ap without_leading_spaces (drop_more bytes i 0 h)
    ∙ ap (λ t. cond t (without_leading_spaces (drop (i + 1) bytes)) (get_or bytes i 0 ∷ drop (i + 1) bytes)) (eq-eqb (get_or bytes i 0) 32 e)

pub no-space-there : (bytes : List ℕ) (i : ℕ) → i < length bytes → (get_or bytes i 0 ≡ 32 → ⊥) → without_leading_spaces (drop i bytes) ≡ drop i bytes
no-space-there bytes i h n =
    ap without_leading_spaces (drop_more bytes i 0 h)
    ∙ ap (λ t. cond t (without_leading_spaces (drop (i + 1) bytes)) (get_or bytes i 0 ∷ drop (i + 1) bytes)) (ne_eqb (get_or bytes i 0) 32 n)
    ∙ sym (drop_more bytes i 0 h)

pub before-place : (stops bytes : List ℕ) → take (position_or_len (is_among stops) bytes) bytes ≡ before_any stops bytes
before-place stops [] = refl
before-place stops (b ∷ rest) =
    elim (is_among stops b) as (λ t. take (cond (not t) (1 + position_or_len (is_among stops) rest) 0) (b ∷ rest) ≡ cond t [] (b ∷ before_any stops rest)) [
      | true ↦ refl
      | false ↦ ap (λ n. take n (b ∷ rest)) (one-more (position_or_len (is_among stops) rest)) ∙ ap (λ xs. b ∷ xs) (before-place stops rest)
    ]

pub from-place : (stops bytes : List ℕ) → drop (position_or_len (is_among stops) bytes) bytes ≡ from_any stops bytes
from-place stops [] = refl
from-place stops (b ∷ rest) =
    elim (is_among stops b) as (λ t. drop (cond (not t) (1 + position_or_len (is_among stops) rest) 0) (b ∷ rest) ≡ cond t (b ∷ rest) (from_any stops rest)) [
      | true ↦ refl
      | false ↦ ap (λ n. drop n (b ∷ rest)) (one-more (position_or_len (is_among stops) rest)) ∙ from-place stops rest
    ]

-- the string with these bytes in front
pub with_front : List ℕ → ClosedString → ClosedString
with_front front string = record { text = front ++ string.text; rest = string.rest }

pub with_none_in_front : (o : Option ClosedString) → o ≡ option_map (with_front []) o
unfolding with_front
with_none_in_front None = refl
with_none_in_front (Some string) = refl

one-more-in_front : (front : List ℕ) (b : ℕ) (o : Option ClosedString)
    → option_map (with_front front) (option_map (with_first b) o) ≡ option_map (with_front (front ++ b ∷ [])) o
unfolding with_front
one-more-in_front front b None = refl
one-more-in_front front b (Some string) =
    ap (λ (xs : List ℕ). Some (record { text = xs; rest = string.rest })) (sym (append_assoc front (b ∷ []) string.text))

-- a string goes on with this byte
pub goes_on : (front rest after : List ℕ) (b : ℕ) → closed rest ≡ option_map (with_first b) (closed after)
    → option_map (with_front front) (closed rest) ≡ option_map (with_front (front ++ b ∷ [])) (closed after)
goes_on front rest after b e = ap (option_map (with_front front)) e ∙ one-more-in_front front b (closed after)

pub plain-byte : (rest : List ℕ) → 1 < length rest → (get_or rest 0 0 ≡ 39 → ⊥) → closed rest ≡ option_map (with_first (get_or rest 0 0)) (closed (drop 1 rest))
plain-byte [] h n = absurd (omega arith)
plain-byte (b ∷ []) h n = absurd (omega arith)
plain-byte (b ∷ c ∷ rest) h n =
    ap (λ t. cond t (cond (eqb c 39) (option_map (with_first 39) (closed rest)) (Some (record { text = []; rest = c ∷ rest })))
    (option_map (with_first b) (closed (c ∷ rest)))) (ne_eqb b 39 n)

pub doubled-quote : (rest : List ℕ) → 1 < length rest → get_or rest 0 0 ≡ 39 → get_or rest 1 0 ≡ 39
    → closed rest ≡ option_map (with_first 39) (closed (drop 2 rest))
doubled-quote [] h e f = absurd (omega arith)
doubled-quote (b ∷ []) h e f = absurd (omega arith)
doubled-quote (b ∷ c ∷ rest) h e f =
    ap (λ t. cond t (cond (eqb c 39) (option_map (with_first 39) (closed rest)) (Some (record { text = []; rest = c ∷ rest })))
    (option_map (with_first b) (closed (c ∷ rest)))) (eq-eqb b 39 e)
    ∙ ap (λ t. cond t (option_map (with_first 39) (closed rest)) (Some (record { text = []; rest = c ∷ rest }))) (eq-eqb c 39 f)

pub closing-quote : (rest : List ℕ) → 1 < length rest → get_or rest 0 0 ≡ 39 → (get_or rest 1 0 ≡ 39 → ⊥)
    → closed rest ≡ Some (record { text = []; rest = drop 1 rest })
closing-quote [] h e n = absurd (omega arith)
closing-quote (b ∷ []) h e n = absurd (omega arith)
closing-quote (b ∷ c ∷ rest) h e n =
    ap (λ t. cond t (cond (eqb c 39) (option_map (with_first 39) (closed rest)) (Some (record { text = []; rest = c ∷ rest })))
    (option_map (with_first b) (closed (c ∷ rest)))) (eq-eqb b 39 e)
    ∙ ap (λ t. cond t (option_map (with_first 39) (closed rest)) (Some (record { text = []; rest = c ∷ rest }))) (ne_eqb c 39 n)

pub last-quote : (rest : List ℕ) → length rest ≡ 1 → get_or rest 0 0 ≡ 39 → closed rest ≡ Some (record { text = []; rest = [] })
last-quote [] h e = absurd (omega arith)
last-quote (b ∷ []) h e = ap (λ t. cond t (Some (record { text = []; rest = [] })) None) (eq-eqb b 39 e)
last-quote (b ∷ c ∷ rest) h e = absurd (omega arith)

pub no-quote : (rest : List ℕ) → length rest ≤ 1 → (length rest ≡ 1 → get_or rest 0 0 ≡ 39 → ⊥) → closed rest ≡ None
no-quote [] h n = refl
no-quote (b ∷ []) h n = ap (λ t. cond t (Some (record { text = []; rest = [] })) None) (ne_eqb b 39 (n refl))
no-quote (b ∷ c ∷ rest) h n = absurd (omega arith)

pub trailing-space : (xs : List ℕ) → without_trailing_spaces (xs ++ 32 ∷ []) ≡ without_trailing_spaces xs
trailing-space [] = refl
trailing-space (x ∷ xs) = ap (before_kept x) (trailing-space xs)

before-some : (x : ℕ) (xs : List ℕ) (b : ℕ) → before_kept x (xs ++ b ∷ []) ≡ x ∷ (xs ++ b ∷ [])
before-some x [] b = refl
before-some x (y ∷ ys) b = refl

pub trailing-kept : (xs : List ℕ) (b : ℕ) → (b ≡ 32 → ⊥) → without_trailing_spaces (xs ++ b ∷ []) ≡ xs ++ b ∷ []
trailing-kept [] b n = ap (λ t. cond t [] (b ∷ [])) (ne_eqb b 32 n)
trailing-kept (x ∷ xs) b n = ap (before_kept x) (trailing-kept xs b n) ∙ before-some x xs b

last-taken : (bytes : List ℕ) (kept : ℕ) → 0 < kept → kept ≤ length bytes → take kept bytes ≡ take (kept - 1) bytes ++ get_or bytes (kept - 1) 0 ∷ []
last-taken bytes kept h l =
    let more : take (kept - 1 + 1) bytes ≡ take (kept - 1) bytes ++ get_or bytes (kept - 1) 0 ∷ [] = take_more bytes (kept - 1) 0 (omega arith) in
    ap (λ n. take n bytes) (omega arith) ∙ more

pub space-cut : (bytes : List ℕ) (kept : ℕ) → 0 < kept → kept ≤ length bytes → get_or bytes (kept - 1) 0 ≡ 32
    → without_trailing_spaces (take kept bytes) ≡ without_trailing_spaces (take (kept - 1) bytes)
space-cut bytes kept h l e =
    ap without_trailing_spaces (last-taken bytes kept h l)
    ∙ ap (λ b. without_trailing_spaces (take (kept - 1) bytes ++ b ∷ [])) e
    ∙ trailing-space (take (kept - 1) bytes)

pub no-space-at_end : (bytes : List ℕ) (kept : ℕ) → 0 < kept → kept ≤ length bytes → (get_or bytes (kept - 1) 0 ≡ 32 → ⊥)
    → without_trailing_spaces (take kept bytes) ≡ take kept bytes
no-space-at_end bytes kept h l n =
    ap without_trailing_spaces (last-taken bytes kept h l)
    ∙ trailing-kept (take (kept - 1) bytes) (get_or bytes (kept - 1) 0) n
    ∙ sym (last-taken bytes kept h l)

-- one turn of the loop over a string
pub plain-kept : (bytes text new rest next : List ℕ) → closed bytes ≡ option_map (with_front text) (closed rest) → 1 < length rest → (get_or rest 0 0 ≡ 39 → ⊥)
    → new ≡ text ++ get_or rest 0 0 ∷ [] → next ≡ drop 1 rest → closed bytes ≡ option_map (with_front new) (closed next)
plain-kept bytes text new rest next s h n e d =
    s ∙ goes_on text rest (drop 1 rest) (get_or rest 0 0) (plain-byte rest h n)
    ∙ ap (λ xs. option_map (with_front xs) (closed (drop 1 rest))) (sym e)
    ∙ ap (λ xs. option_map (with_front new) (closed xs)) (sym d)

pub doubled-kept : (bytes text new rest next : List ℕ) → closed bytes ≡ option_map (with_front text) (closed rest) → 1 < length rest → get_or rest 0 0 ≡ 39
    → get_or rest 1 0 ≡ 39 → new ≡ text ++ 39 ∷ [] → next ≡ drop 2 rest → closed bytes ≡ option_map (with_front new) (closed next)
doubled-kept bytes text new rest next s h f g e d =
    s ∙ goes_on text rest (drop 2 rest) 39 (doubled-quote rest h f g)
    ∙ ap (λ xs. option_map (with_front xs) (closed (drop 2 rest))) (sym e)
    ∙ ap (λ xs. option_map (with_front new) (closed xs)) (sym d)

pub room-kept : (text new rest next : List ℕ) (b k : ℕ) → length text + length rest ≤ 69 → 1 < length rest → 0 < k → new ≡ text ++ b ∷ [] → next ≡ drop k rest
    → length new + length next ≤ 69
room-kept text new rest next b k r h p e d =
    let longer : length new ≡ length text + 1 = ap length e ∙ length-append text (b ∷ []) in
    let shorter : length next ≡ length rest - k = ap length d ∙ length-drop k rest in
    omega arith

text-only : (text rest : List ℕ) (string : ClosedString) → string ≡ record { text = []; rest = rest }
    → with_front text string ≡ record { text = text; rest = rest }
unfolding with_front
text-only text rest string e =
    ap (λ (s : ClosedString). record { text = text ++ s.text; rest = s.rest }) e ∙ ap (λ (xs : List ℕ). record { text = xs; rest = rest }) (append-nil text)

-- the string ends here
pub ends-with : (bytes text rest next : List ℕ) → closed bytes ≡ option_map (with_front text) (closed rest)
    → closed rest ≡ Some (record { text = []; rest = next }) → Some (record { text = text; rest = next }) ≡ closed bytes
ends-with bytes text rest next s e =
    sym (s ∙ ap (option_map (with_front text)) e ∙ ap (λ c. Some c) (text-only text next (record { text = []; rest = next }) refl))

pub never-ends : (bytes text rest : List ℕ) → closed bytes ≡ option_map (with_front text) (closed rest) → closed rest ≡ None → None ≡ closed bytes
never-ends bytes text rest s e = sym (s ∙ ap (option_map (with_front text)) e)

pub place-found : (stops bytes : List ℕ) (at : ℕ) → at < length bytes → ((k : ℕ) → k < at → is_among stops (get_or bytes k 0) ≡ false)
    → is_among stops (get_or bytes at 0) ≡ true → at ≡ position_or_len (is_among stops) bytes
place-found stops bytes at h before here =
    sym (position_or_len_is (is_among stops) bytes at 0 (omega arith) before (λ _. here))

pub place-none : (stops bytes : List ℕ) → ((k : ℕ) → k < length bytes → is_among stops (get_or bytes k 0) ≡ false)
    → length bytes ≡ position_or_len (is_among stops) bytes
place-none stops bytes none =
    sym (position_or_len_is (is_among stops) bytes (length bytes) 0 (omega arith) none (λ h. absurd (omega arith)))
