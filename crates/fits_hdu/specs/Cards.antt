-- Model: what one card of a header says (FITS Standard 4.0, section 4.4).
use Rattle.std.specs.Prelude.{ℕ, ◌-◌, Bool, true, false, List, [], ◌∷◌, ◌==◌, ◌&&◌, take}
use Rattle.std.specs.Prelude.{Option, Some, None, codes, if◌then◌else◌, ℤ, pos, negsuc, nat_le, is_some, unwrap_or}
use Rattle.std.specs.Str.{bytes_eq}
use Rattle.std.specs.List.{list_any}
use Rattle.std.specs.Ordering.{int_eq}
use Rattle.fits_card.specs.Values.{value_of, is_present, logical_of, integer_of, text_of, whole_of}
use Rattle.fits_card.specs.Written.{numbered_keyword, written_end}
use Rattle.fits_card.specs.declared.number.Whole.{Whole}

-- columns 1 to 8 have this keyword
unfoldable pub has_keyword : List ℕ → List ℕ → Bool
has_keyword name card = bytes_eq (take 8 card) name

unfoldable pub is_end : List ℕ → Bool
is_end card = bytes_eq card written_end

-- the value is the logical T
unfoldable pub is_true : List ℕ → Bool
is_true card = unwrap_or (logical_of (value_of card)) false

abbrev pub natural_of : Option ℤ → Option ℕ
natural_of None = None
natural_of (Some (pos n)) = Some n
natural_of (Some (negsuc n)) = None

-- the value, where it is an integer from 0 that fits 64 bits
unfoldable pub natural : List ℕ → Option ℕ
natural card = natural_of (integer_of (value_of card))

-- the value as a whole number
unfoldable pub whole : List ℕ → Whole
whole card = whole_of (value_of card)

-- the value is the text `IMAGE`
abbrev pub is_text : List ℕ → Option (List ℕ) → Bool
is_text text None = false
is_text text (Some bytes) = bytes_eq bytes text

unfoldable pub is_image : List ℕ → Bool
is_image card = is_text (codes "IMAGE") (text_of (value_of card))

-- The mandatory cards, each with its keyword and a permitted value.

-- SIMPLE with T in the primary, and XTENSION with any string in an extension
unfoldable pub is_first : Bool → List ℕ → Bool
is_first true card = has_keyword (codes "SIMPLE  ") card && unwrap_or (logical_of (value_of card)) false
is_first false card = has_keyword (codes "XTENSION") card && is_some (text_of (value_of card))

abbrev pub is_depth : ℤ → Bool
is_depth n = list_any (λ depth. int_eq n depth) (pos 8 ∷ pos 16 ∷ pos 32 ∷ pos 64 ∷ negsuc 31 ∷ negsuc 63 ∷ [])

abbrev pub depth_of : Option ℤ → Option ℤ
depth_of None = None
depth_of (Some n) = if is_depth n then Some n else None

-- BITPIX with 8, 16, 32, 64, -32 or -64
unfoldable pub bitpix_of : List ℕ → Option ℤ
bitpix_of card = if has_keyword (codes "BITPIX  ") card then depth_of (integer_of (value_of card)) else None

abbrev pub at_most : ℕ → Option ℕ → Option ℕ
at_most most None = None
at_most most (Some n) = if nat_le n most then Some n else None

-- NAXIS with 0 to 999
unfoldable pub naxis_of : List ℕ → Option ℕ
naxis_of card = if has_keyword (codes "NAXIS   ") card then at_most 999 (natural card) else None

-- NAXISk with an integer from 0
unfoldable pub axis_of : ℕ → List ℕ → Option ℕ
axis_of k card = if has_keyword (numbered_keyword (codes "NAXIS") k) card then natural card else None

-- the mandatory card of place j, from 1
abbrev pub is_mandatory : Bool → ℕ → List ℕ → Bool
is_mandatory primary j card =
    if j == 1 then is_first primary card
    else (if j == 2 then is_some (bitpix_of card)
    else (if j == 3 then is_some (naxis_of card)
    else is_some (axis_of (j - 3) card)))

-- The other cards. Of each keyword the first card that has a value counts.

unfoldable pub is_valued : List ℕ → List ℕ → Bool
is_valued name card = has_keyword name card && is_present (value_of card)
