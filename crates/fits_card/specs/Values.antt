-- Model: the value of a card, by the grammar of its value field, on exact numbers.
use Rattle.std.specs.Prelude.{ℕ, suc, ◌^◌, ◌%◌, Bool, true, false, List, [], ◌∷◌, ◌++◌, ◌==◌, ◌||◌, ◌&&◌, length, drop}
use Rattle.std.specs.Prelude.{Option, Some, None, codes, if◌then◌else◌, ℤ, pos, negsuc, neg_ℤ, ◌*ℤ◌, ◌-ℤ◌, nat_lt, unsigned_abs, int_div, slice_index}
use Rattle.std.specs.Str.{all_ascii_digits}
use Rattle.std.specs.Str.Parse.{digits_value}
use Rattle.fits_card.specs.declared.number.Whole.{Whole}
use Rattle.fits_card.specs.declared.number.Whole.TheVariants.{Is, NotWhole, Beyond, Unreadable}
use Rattle.fits_card.specs.Pieces.{space, quote, slash, equals, plus, minus, without_leading_spaces}
use Rattle.fits_card.specs.Pieces.{without_trailing_spaces, before_any, from_any, is_over, ClosedString, closed}

-- what stands in a value field
pub data Content : Type 0 where
  -- no value: the field is empty, or a comment stands first
  Nothing : Content
  -- a quote that never closes, or something else than a comment behind the value
  Broken : Content
  Quoted : List ℕ → Content
  Token : List ℕ → Content

-- the value of a card
pub data Value : Type 0 where
  NoValue : Value
  -- no reader accepts it
  Malformed : Value
  Logical : Bool → Value
  Integer : ℤ → Value
  -- m times 10 to the power e
  Real : ℤ → ℤ → Value
  Text : List ℕ → Value

-- columns 11 to 80 without their leading spaces, and nothing where columns 9 and 10 are not `= `
unfoldable pub value_field : List ℕ → List ℕ
value_field card = if slice_index card 8 == equals && slice_index card 9 == space then without_leading_spaces (drop 10 card) else []

-- a string is the content where nothing but a comment follows it
abbrev pub quoted_content : Option ClosedString → Content
quoted_content None = Broken
quoted_content (Some string) = if is_over string.rest then Quoted string.text else Broken

-- a token runs up to the next space or slash
abbrev pub token_content : List ℕ → Content
token_content field = if is_over (from_any (codes " /") field) then Token (before_any (codes " /") field) else Broken

-- the content of a field without its leading spaces
unfoldable pub content_of : List ℕ → Content
content_of [] = Nothing
content_of (first ∷ rest) =
    if first == slash then Nothing
    else (if first == quote then quoted_content (closed rest) else token_content (first ∷ rest))

-- one or more digits
abbrev pub is_numeral : List ℕ → Bool
is_numeral [] = false
is_numeral (first ∷ rest) = all_ascii_digits (first ∷ rest)

-- the number that the digits write
abbrev pub number_of : List ℕ → ℕ
number_of digits = digits_value 10 digits

-- a minus stands in front
abbrev pub is_negative : List ℕ → Bool
is_negative [] = false
is_negative (first ∷ rest) = first == minus

-- without a plus or a minus in front
abbrev pub unsigned : List ℕ → List ℕ
unsigned [] = []
unsigned (first ∷ rest) = if first == plus || first == minus then rest else first ∷ rest

-- the number with its sign
abbrev pub signed : Bool → ℕ → ℤ
signed negative n = if negative then neg_ℤ (pos n) else pos n

-- what follows the mantissa: nothing, or a letter, an optional sign and one or more digits
unfoldable pub exponent_of : List ℕ → Option ℤ
exponent_of [] = Some (pos 0)
exponent_of (letter ∷ digits) =
    if is_numeral (unsigned digits) then Some (signed (is_negative digits) (number_of (unsigned digits))) else None

-- the real with these digits before and after its point
abbrev pub real_of : Bool → List ℕ → List ℕ → Option ℤ → Value
real_of negative whole fraction None = Malformed
real_of negative whole fraction (Some exponent) =
    if is_numeral (whole ++ fraction)
    then Real (signed negative (number_of (whole ++ fraction))) (exponent -ℤ pos (length fraction))
    else Malformed

-- digits with at most one point, and then perhaps an exponent
unfoldable pub real_value : Bool → List ℕ → Value
real_value negative bytes =
    let mantissa = before_any (codes "EDed") bytes in
    real_of negative (before_any (codes ".") mantissa) (drop 1 (from_any (codes ".") mantissa)) (exponent_of (from_any (codes "EDed") bytes))

-- an integer is digits alone
unfoldable pub number_value : Bool → List ℕ → Value
number_value negative bytes =
    if is_numeral bytes then Integer (signed negative (number_of bytes)) else real_value negative bytes

abbrev letter_T : ℕ
letter_T = 84

abbrev letter_F : ℕ
letter_F = 70

-- the letters T and F are the logicals, and any other token is a number with an optional sign
unfoldable pub token_value : List ℕ → Value
token_value [] = Malformed
token_value (b ∷ []) =
    if b == letter_T then Logical true
    else (if b == letter_F then Logical false else number_value (is_negative (b ∷ [])) (unsigned (b ∷ [])))
token_value (b ∷ c ∷ rest) = number_value (is_negative (b ∷ c ∷ rest)) (unsigned (b ∷ c ∷ rest))

-- trailing spaces of a string are not significant
abbrev pub content_value : Content → Value
content_value Nothing = NoValue
content_value Broken = Malformed
content_value (Quoted bytes) = Text (without_trailing_spaces bytes)
content_value (Token bytes) = token_value bytes

-- the value of the card with these 80 bytes
unfoldable pub value_of : List ℕ → Value
value_of card = content_value (content_of (value_field card))

-- what the readers see of a value

abbrev pub is_present : Value → Bool
is_present NoValue = false
is_present _ = true

abbrev pub logical_of : Value → Option Bool
logical_of (Logical b) = Some b
logical_of _ = None

abbrev pub fits_i64 : ℤ → Bool
fits_i64 (pos n) = nat_lt n (2 ^ 63)
fits_i64 (negsuc n) = nat_lt n (2 ^ 63)

abbrev pub integer_of : Value → Option ℤ
integer_of (Integer n) = if fits_i64 n then Some n else None
integer_of _ = None

abbrev pub text_of : Value → Option (List ℕ)
text_of (Text bytes) = Some bytes
text_of _ = None

abbrev pub fitted : ℤ → Whole
fitted n = if fits_i64 n then Is n else Beyond

-- M times 10 to the power e: a whole number where e isn't negative, or where 10 to the power -e divides M, as it does 0
unfoldable pub whole_real : ℤ → ℤ → Whole
whole_real m (pos e) = fitted (m *ℤ pos (10 ^ e))
whole_real m (negsuc e) =
    if unsigned_abs m % 10 ^ suc e == 0 then fitted (int_div m (pos (10 ^ suc e))) else NotWhole

abbrev pub whole_of : Value → Whole
whole_of (Integer n) = fitted n
whole_of (Real m e) = whole_real m e
whole_of _ = Unreadable
