-- Model: how the bytes of a value field are cut. A space is the byte 32 alone.
use Rattle.std.specs.Prelude.{ℕ, Bool, true, List, [], ◌∷◌, ◌==◌, Option, Some, None, if◌then◌else◌}
use Rattle.std.specs.List.{list_any}
use Rattle.std.specs.Option.{option_map}

abbrev pub space : ℕ
space = 32

abbrev pub quote : ℕ
quote = 39

abbrev pub slash : ℕ
slash = 47

abbrev pub equals : ℕ
equals = 61

abbrev pub plus : ℕ
plus = 43

abbrev pub minus : ℕ
minus = 45

abbrev pub without_leading_spaces : List ℕ → List ℕ
without_leading_spaces [] = []
without_leading_spaces (b ∷ rest) = if b == space then without_leading_spaces rest else b ∷ rest

-- b before these bytes, but nothing where that would be a space alone
abbrev pub before_kept : ℕ → List ℕ → List ℕ
before_kept b [] = if b == space then [] else b ∷ []
before_kept b (c ∷ rest) = b ∷ c ∷ rest

abbrev pub without_trailing_spaces : List ℕ → List ℕ
without_trailing_spaces [] = []
without_trailing_spaces (b ∷ rest) = before_kept b (without_trailing_spaces rest)

-- the byte is one of these
abbrev pub is_among : List ℕ → ℕ → Bool
is_among stops b = list_any (λ stop. stop == b) stops

-- what stands before the first of the stops, or all where there is none
abbrev pub before_any : List ℕ → List ℕ → List ℕ
before_any stops [] = []
before_any stops (b ∷ rest) = if is_among stops b then [] else b ∷ before_any stops rest

-- what stands from the first of the stops on, or nothing where there is none
abbrev pub from_any : List ℕ → List ℕ → List ℕ
from_any stops [] = []
from_any stops (b ∷ rest) = if is_among stops b then b ∷ rest else from_any stops rest

-- the end of the card, or a slash and any comment
abbrev pub is_comment : List ℕ → Bool
is_comment [] = true
is_comment (first ∷ rest) = first == slash

-- only spaces stand before the end of the card or a comment
abbrev pub is_over : List ℕ → Bool
is_over bytes = is_comment (without_leading_spaces bytes)

-- a string's bytes, and what follows its closing quote
pub record ClosedString : Type 0 where
  pub text : List ℕ
  pub rest : List ℕ

abbrev pub with_first : ℕ → ClosedString → ClosedString
with_first b string = record { text = b ∷ string.text; rest = string.rest }

-- The string that runs up to the first quote that isn't doubled. A doubled quote means one quote. There is none where no quote closes it.
abbrev pub closed : List ℕ → Option ClosedString
closed [] = None
closed (b ∷ []) = if b == quote then Some (record { text = []; rest = [] }) else None
closed (b ∷ c ∷ rest) =
    if b == quote
    then (if c == quote then option_map (with_first quote) (closed rest) else Some (record { text = []; rest = c ∷ rest }))
    else option_map (with_first b) (closed (c ∷ rest))
