-- Model: the header that starts at a place in a list of bytes (FITS Standard 4.0, sections 3.3 and 4.4).
use Rattle.std.specs.Prelude.{ℕ, zero, suc, ◌+◌, ◌-◌, ◌*◌, ◌/◌, ◌^◌, Bool, true, false, not, List}
use Rattle.std.specs.Prelude.{[], ◌∷◌, ◌++◌, ◌==◌, ◌&&◌, ◌||◌, length, take, drop, min, map, Option, Result}
use Rattle.std.specs.Prelude.{Ok, Err, codes, if◌then◌else◌, ℤ, pos, nat_lt, is_none, unwrap_or, slice_index, find}
use Rattle.std.specs.List.{list_all}
use Rattle.std.specs.Str.{bytes_eq}
use Rattle.std.specs.Option.{option_map}
use Rattle.fits_card.specs.declared.number.Whole.TheVariants.{Is}
use Rattle.fits_hdu.specs.declared.answer.Kind.{Kind}
use Rattle.fits_hdu.specs.declared.answer.Kind.TheVariants.{Primary, Image, Other}
use Rattle.fits_hdu.specs.declared.answer.Hdu.{Hdu}
use Rattle.fits_hdu.specs.declared.fault.HduFault.{HduFault}
use Rattle.fits_hdu.specs.declared.fault.HduFault.TheVariants.{NotFits, TruncatedHeader, BadKeyword, HeaderTooLong, Groups, DataTooLong, NoSuchHdu}
use Rattle.fits_hdu.specs.Cards.{is_end, is_true, natural, whole, is_image, bitpix_of, naxis_of, is_mandatory, is_valued}
use Rattle.fits_hdu.specs.Sizes.{data_size}

-- A header's cards are a function from their numbers, from 1, to their bytes.

-- card j of the header that starts at this place
abbrev pub card_at : List ℕ → ℕ → ℕ → List ℕ
card_at bytes start j = take 80 (drop (start + 80 * (j - 1)) bytes)

-- the bytes end before card j does
unfoldable pub is_missing : List ℕ → ℕ → ℕ → Bool
is_missing bytes start j = nat_lt (length bytes) (start + 80 * j)

-- so many cards, from card first on
abbrev pub cards_from : (ℕ → List ℕ) → ℕ → ℕ → List (List ℕ)
cards_from card first zero = []
cards_from card first (suc n) = cards_from card first n ++ card (first + n) ∷ []

unfoldable pub axis_count : (ℕ → List ℕ) → ℕ
axis_count card = unwrap_or (naxis_of (card 3)) 0

abbrev pub natural_or_zero : List ℕ → ℕ
natural_or_zero card = unwrap_or (natural card) 0

-- the lengths of the axes
unfoldable pub axes_of : (ℕ → List ℕ) → List ℕ
axes_of card = map natural_or_zero (cards_from card 4 (axis_count card))

-- the cards after the mandatory ones and before card j
unfoldable pub others_before : (ℕ → List ℕ) → ℕ → List (List ℕ)
others_before card j = cards_from card (4 + axis_count card) (j - (4 + axis_count card))

-- of the cards with this keyword the first that has a value
unfoldable pub counting : List ℕ → List (List ℕ) → Option (List ℕ)
counting name cards = find (is_valued name) cards

-- the card with this keyword that counts, after these cards, and isn't an integer from 0
unfoldable pub is_bad_count : List ℕ → List (List ℕ) → List ℕ → Bool
is_bad_count name before card = is_valued name card && (is_none (counting name before) && is_none (natural card))

-- card j isn't the mandatory card of its place, or is the PCOUNT or GCOUNT of an extension and isn't an integer from 0
unfoldable pub is_bad : Bool → (ℕ → List ℕ) → ℕ → Bool
is_bad primary card j =
    if nat_lt (3 + axis_count card) j
    then not primary && (is_bad_count (codes "PCOUNT  ") (others_before card j) (card j) || is_bad_count (codes "GCOUNT  ") (others_before card j) (card j))
    else not (is_mandatory primary j (card j))

-- card j is END and stands above the mandatory cards
unfoldable pub ends_header : (ℕ → List ℕ) → ℕ → Bool
ends_header card j = nat_lt (3 + axis_count card) j && is_end (card j)

-- reading ends at card j: it isn't there, is at fault or is END
unfoldable pub stops : List ℕ → ℕ → ℕ → ℕ → Bool
stops bytes hdu start j = is_missing bytes start j || (is_bad (hdu == 0) (card_at bytes start) j || ends_header (card_at bytes start) j)

-- the least number that passes the test, of so many from the first on, or the one after them
unfoldable pub first_passing : (ℕ → Bool) → ℕ → ℕ → ℕ
first_passing test first zero = first
first_passing test first (suc n) = if test first then first else first_passing test (first + 1) n

abbrev pub most_cards : ℕ
most_cards = 36000

-- the card at which reading ends, or 36,001
unfoldable pub last_read : List ℕ → ℕ → ℕ → ℕ
last_read bytes hdu start = first_passing (stops bytes hdu start) 1 most_cards

abbrev pub beginning : Bool → List ℕ
beginning true = codes "SIMPLE  "
beginning false = codes "XTENSION"

-- the first 8 of these bytes show that an HDU begins here
unfoldable pub is_beginning : Bool → List ℕ → Bool
is_beginning primary bytes = bytes_eq (take 8 bytes) (beginning primary)

-- an HDU begins at this place
abbrev pub hdu_begins : ℕ → List ℕ → ℕ → Bool
hdu_begins hdu bytes start = is_beginning (hdu == 0) (drop start bytes)

-- it is neither the primary HDU nor an image extension
abbrev pub is_other : Kind → Bool
is_other Primary = false
is_other Image = false
is_other Other = true

-- What a header says.

abbrev pub kind_of : Bool → Bool → ℕ → ℕ → Kind
kind_of true image pcount gcount = Primary
kind_of false image pcount gcount = if image && (pcount == 0 && gcount == 1) then Image else Other

-- the number of the card that counts
abbrev pub count_or : ℕ → Option (List ℕ) → ℕ
count_or default card = unwrap_or (option_map natural_or_zero card) default

-- the HDU with this first card, BITPIX, axes and other cards
unfoldable pub described : Bool → Bool → ℤ → List ℕ → List (List ℕ) → Hdu
described primary image bitpix axes others =
    let pcount = count_or 0 (counting (codes "PCOUNT  ") others) in
    let gcount = count_or 1 (counting (codes "GCOUNT  ") others) in
    record {
      kind = kind_of primary image pcount gcount;
      bitpix = bitpix;
      naxis = length axes;
      width = slice_index axes 0;
      height = slice_index axes 1;
      flat = list_all (λ n. n == 1) (drop 2 axes);
      data_bytes = data_size primary bitpix axes pcount gcount;
      bscale = unwrap_or (option_map whole (counting (codes "BSCALE  ") others)) (Is (pos 1));
      bzero = unwrap_or (option_map whole (counting (codes "BZERO   ") others)) (Is (pos 0));
      blank = option_map whole (counting (codes "BLANK   ") others);
    }

-- random groups: a first axis of 0, and GROUPS with T
unfoldable pub is_groups : Bool → List ℕ → List (List ℕ) → Bool
is_groups primary axes others =
    primary && (nat_lt 0 (length axes) && (slice_index axes 0 == 0 && unwrap_or (option_map is_true (counting (codes "GROUPS  ") others)) false))

abbrev pub most_data : ℕ
most_data = 2 ^ 40

unfoldable pub judged : Bool → Bool → ℤ → List ℕ → List (List ℕ) → Result Hdu HduFault
judged primary image bitpix axes others =
    if is_groups primary axes others then Err Groups
    else (if nat_lt most_data (described primary image bitpix axes others).data_bytes then Err DataTooLong
    else Ok (described primary image bitpix axes others))

-- the HDU of the header whose END is card m
unfoldable pub header_of : Bool → (ℕ → List ℕ) → ℕ → Result Hdu HduFault
header_of primary card m =
    judged primary (is_image (card 1)) (unwrap_or (bitpix_of (card 2)) (pos 0)) (axes_of card) (others_before card m)

-- an HDU with the place after its header, or the first fault with the number of bytes taken
pub data Found : Type 0 where
  found : (hdu : Hdu) → (head : ℕ) → Found
  refused : (fault : HduFault) → (taken : ℕ) → Found

abbrev pub found_by : ℕ → Result Hdu HduFault → Found
found_by head (Ok hdu) = found hdu head
found_by head (Err fault) = refused fault head

-- the end of the block in which card m of the header stands
abbrev pub head_after : ℕ → ℕ → ℕ
head_after start m = start + 2880 * ((m + 35) / 36)

-- the header that starts here and whose END is card m
unfoldable pub whole_header : List ℕ → ℕ → ℕ → ℕ → Found
whole_header bytes hdu start m =
    if nat_lt (length bytes) (head_after start m) then refused TruncatedHeader (length bytes)
    else found_by (head_after start m) (header_of (hdu == 0) (card_at bytes start) m)

-- reading of the header that starts here ends at card j
unfoldable pub header_read_to : List ℕ → ℕ → ℕ → ℕ → Found
header_read_to bytes hdu start j =
    if nat_lt most_cards j then refused HeaderTooLong (start + 80 * most_cards)
    else (if is_missing bytes start j then refused TruncatedHeader (length bytes)
    else (if is_bad (hdu == 0) (card_at bytes start) j then refused (BadKeyword hdu j) (start + 80 * j)
    else whole_header bytes hdu start j))

-- the HDU with this number, whose header starts here
unfoldable pub header_at : List ℕ → ℕ → ℕ → Found
header_at bytes hdu start =
    if hdu_begins hdu bytes start then header_read_to bytes hdu start (last_read bytes hdu start)
    else refused (if hdu == 0 then NotFits else NoSuchHdu) (min (start + 80) (length bytes))
