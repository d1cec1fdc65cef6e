-- A header whose cards are told, at its place in a list of bytes.
use Rattle.std.proofs.Common.{◌≡◌, ◌∙◌, ℕ, ◌+◌, ◌-◌, ◌*◌, ◌/◌, ◌<◌, ◌≤◌, ◌==◌, ◌&&◌, ◌||◌, Bool, true, false, not, List, [], ◌∷◌, ◌++◌}
use Rattle.std.proofs.Common.{length, take, drop, replicate, map, refl, sym, ap, arith, append_assoc, length-append, pos}
use Rattle.std.proofs.Common.{nat_lt, if◌then◌else◌, Ok}
use Rattle.std.specs.Prelude.{codes, unwrap_or}
use Rattle.std.specs.List.{concat, AllByRecursion}
use Rattle.std.proofs.lemmas.Bool.Decides.{nat_tests}
use Rattle.std.proofs.lemmas.Slice.Eq.{bytes_eq-Decides}
use Rattle.std.proofs.lemmas.List.{take-append-le, length-replicate}
use Rattle.std.proofs.Math.Seq.{drop-append_seam}
use Rattle.fits_hdu.proofs.Exported.{first_passing_is}
use Rattle.fits_hdu.specs.declared.answer.Hdu.{Hdu}
use Rattle.fits_hdu.specs.Cards.{naxis_of, bitpix_of, is_image, is_mandatory, is_end}
use Rattle.fits_hdu.specs.Headers.{found, card_at, is_missing, cards_from, axis_count, natural_or_zero, axes_of, others_before, is_bad_count, is_bad}
use Rattle.fits_hdu.specs.Headers.{ends_header, stops, last_read, beginning, is_beginning, hdu_begins, judged, header_of, head_after}
use Rattle.fits_hdu.specs.Headers.{whole_header}
use Rattle.fits_hdu.specs.Headers.{header_read_to, header_at}
use Rattle.fits_write.specs.Blocks.{filled, room_after}
use Rattle.fits_write.specs.Hdus.{header}
use Rattle.survey_laws.proofs.Cards.{nth, Full, size_of_cards, card_here, cards_from-same}

-- ---- what is said of cards that are the same

abbrev bad_by : Bool → ℕ → ℕ → List (List ℕ) → List ℕ → Bool
bad_by primary j axes others card =
    if nat_lt (3 + axes) j then not primary && (is_bad_count (codes "PCOUNT  ") others card || is_bad_count (codes "GCOUNT  ") others card)
    else not (is_mandatory primary j card)

pub bad_is : (primary : Bool) (card : ℕ → List ℕ) (j : ℕ) → is_bad primary card j ≡ bad_by primary j (axis_count card) (others_before card j) (card j)
unfolding is_bad
bad_is primary card j = refl

module _ (primary : Bool) (a b : ℕ → List ℕ) (m : ℕ) (three : 3 ≤ m) (same : (i : ℕ) → 1 ≤ i → i ≤ m → a i ≡ b i) where
  axes_same : axis_count a ≡ axis_count b
  unfolding axis_count
  axes_same = ap (λ c. unwrap_or (naxis_of c) 0) (same 3 (omega arith) three)

  others_same : (j : ℕ) → j ≤ m → others_before a j ≡ others_before b j
  unfolding others_before
  others_same j h =
      ap (λ n. cards_from a (4 + n) (j - (4 + n))) axes_same
      ∙ cards_from-same a b (4 + axis_count b) (j - (4 + axis_count b)) (λ i low high. same i (omega (arith, low)) (omega (arith, high, low, h)))

  bad_same : (j : ℕ) → 1 ≤ j → j ≤ m → is_bad primary a j ≡ is_bad primary b j
  bad_same j low high =
      bad_is primary a j ∙ (λ i. bad_by primary j (axes_same i) (others_same j high i) (same j low high i)) ∙ sym (bad_is primary b j)

  last_same : (j : ℕ) → 1 ≤ j → j ≤ m → ends_header a j ≡ ends_header b j
  unfolding ends_header
  last_same j low high = λ i. nat_lt (3 + axes_same i) j && is_end (same j low high i)

  said_same : 3 + axis_count b < m → header_of primary a m ≡ header_of primary b m
  unfolding header_of axes_of
  said_same within =
      let sides : map natural_or_zero (cards_from a 4 (axis_count a)) ≡ map natural_or_zero (cards_from b 4 (axis_count b)) =
      ap (λ n. map natural_or_zero (cards_from a 4 n)) axes_same
      ∙ ap (map natural_or_zero) (cards_from-same a b 4 (axis_count b) (λ i low high. same i (omega (arith, low)) (omega (arith, high, within)))) in
      let one : a 1 ≡ b 1 = same 1 (omega arith) (omega (arith, three)) in
      let two : a 2 ≡ b 2 = same 2 (omega arith) (omega (arith, three)) in
      let more : others_before a m ≡ others_before b m = others_same m (omega arith) in
      λ i. judged primary (is_image (one i)) (unwrap_or (bitpix_of (two i)) (pos 0)) (sides i) (more i)

-- ---- the header

-- cards that are a header, and what it says
pub record IsHeader (primary : Bool) (cards : List (List ℕ)) (hdu : Hdu) : Type 0 where
  pub full : AllByRecursion Full cards
  pub many : 4 ≤ length cards
  pub few : length cards ≤ 36000
  pub starts : take 8 (nth cards 1) ≡ beginning primary
  pub good : (j : ℕ) → 1 ≤ j → j ≤ length cards → is_bad primary (nth cards) j ≡ false
  pub goes_on : (j : ℕ) → 1 ≤ j → j < length cards → ends_header (nth cards) j ≡ false
  pub ends : ends_header (nth cards) (length cards) ≡ true
  pub within : 3 + axis_count (nth cards) < length cards
  pub said : header_of primary (nth cards) (length cards) ≡ Ok hdu

pub not_below : (m n : ℕ) → n ≤ m → nat_lt m n ≡ false
not_below m n h = grind (arith, nat_tests)

first_eight : (cards : List (List ℕ)) (tail : List ℕ) → AllByRecursion Full cards → 1 ≤ length cards → take 8 (concat cards ++ tail) ≡ take 8 (nth cards 1)
first_eight [] tail full some = absurd (omega arith)
first_eight (card ∷ cards) tail full some =
    ap (take 8) (append_assoc card (concat cards) tail) ∙ take-append-le 8 card (concat cards ++ tail) (omega (arith, full.0))

-- the cards stand behind the bytes `front`, and as many bytes behind them as fill their last block
module _ (number : ℕ) (front tail : List ℕ) (cards : List (List ℕ)) (hdu : Hdu) (is : IsHeader (number == 0) cards hdu)
    (enough : 2880 * ((length cards + 35) / 36) ≤ 80 * length cards + length tail) where
  abbrev bytes : List ℕ
  bytes = front ++ (concat cards ++ tail)

  abbrev start : ℕ
  start = length front

  abbrev m : ℕ
  m = length cards

  size : length bytes ≡ start + (80 * m + length tail)
  size = omega (arith, length-append front (concat cards ++ tail), length-append (concat cards) tail, size_of_cards cards is.full)

  same : (i : ℕ) → 1 ≤ i → i ≤ m → card_at bytes start i ≡ nth cards i
  same i low high = card_here front tail cards i is.full low high

  there : (j : ℕ) → j ≤ m → is_missing bytes start j ≡ false
  unfolding is_missing
  there j h = not_below (length bytes) (start + 80 * j) (omega (arith, size, h))

  good_there : (j : ℕ) → 1 ≤ j → j ≤ m → is_bad (number == 0) (card_at bytes start) j ≡ false
  good_there j low high = bad_same (number == 0) (card_at bytes start) (nth cards) m (omega (arith, is.many)) same j low high ∙ is.good j low high

  last_there : (j : ℕ) → 1 ≤ j → j ≤ m → ends_header (card_at bytes start) j ≡ ends_header (nth cards) j
  last_there j low high = last_same (number == 0) (card_at bytes start) (nth cards) m (omega (arith, is.many)) same j low high

  goes_on_there : (j : ℕ) → 1 ≤ j → j < m → stops bytes number start j ≡ false
  unfolding stops
  goes_on_there j low high =
      rw (there j (omega (arith, high)), good_there j low (omega (arith, high)), last_there j low (omega (arith, high)), is.goes_on j low high) refl

  stops_there : stops bytes number start m ≡ true
  unfolding stops
  stops_there =
      let one : 1 ≤ m = omega (arith, is.many) in
      let all : m ≤ m = omega arith in
      rw (there m all, good_there m one all, last_there m one all, is.ends) refl

  last_is : last_read bytes number start ≡ m
  unfolding last_read
  last_is =
      first_passing_is (stops bytes number start) 36000 1 m (omega (arith, is.many)) (omega (arith, is.few)) stops_there
      (λ j low high. goes_on_there j low high)

  begins_there : hdu_begins number bytes start ≡ true
  unfolding is_beginning
  begins_there =
      let eight : take 8 (drop start bytes) ≡ beginning (number == 0) =
      ap (take 8) (drop-append_seam front (concat cards ++ tail)) ∙ first_eight cards tail is.full (omega (arith, is.many)) ∙ is.starts in
      (bytes_eq-Decides (take 8 (drop start bytes)) (beginning (number == 0))).1 eight

  whole_there : whole_header bytes number start m ≡ found hdu (head_after start m)
  unfolding whole_header
  whole_there =
      let long : head_after start m ≤ length bytes = omega (arith, size, enough) in
      let says : header_of (number == 0) (card_at bytes start) m ≡ Ok hdu =
      said_same (number == 0) (card_at bytes start) (nth cards) m (omega (arith, is.many)) same is.within ∙ is.said in
      rw (not_below (length bytes) (head_after start m) long, says) refl

  read_there : header_read_to bytes number start m ≡ found hdu (head_after start m)
  unfolding header_read_to
  read_there =
      let one : 1 ≤ m = omega (arith, is.many) in
      let all : m ≤ m = omega arith in
      rw (not_below 36000 m is.few, there m all, good_there m one all) whole_there

  pub found_there : header_at bytes number start ≡ found hdu (head_after start m)
  unfolding header_at
  found_there = rw (begins_there, last_is) read_there

-- ---- a header as it is written

header_size : (n : ℕ) → 80 * n + room_after (80 * n) ≡ 2880 * ((n + 35) / 36)
unfolding room_after
header_size n = omega arith

pub size_of_header : (cards : List (List ℕ)) → AllByRecursion Full cards → length (header cards) ≡ 2880 * ((length cards + 35) / 36)
unfolding header filled
size_of_header cards full =
    length-append (concat cards) (replicate (room_after (length (concat cards))) 32)
    ∙ ap (λ k. length (concat cards) + k) (length-replicate {A = ℕ} (room_after (length (concat cards))) 32)
    ∙ ap (λ k. k + room_after k) (size_of_cards cards full) ∙ header_size (length cards)

pub header_found : (number : ℕ) (front rest : List ℕ) (cards : List (List ℕ)) (hdu : Hdu) → IsHeader (number == 0) cards hdu
    → header_at (front ++ (header cards ++ rest)) number (length front) ≡ found hdu (length front + length (header cards))
unfolding header filled
header_found number front rest cards hdu is =
    let room = room_after (length (concat cards)) in
    let tail = replicate room 32 ++ rest in
    let apart : (concat cards ++ replicate room 32) ++ rest ≡ concat cards ++ tail = append_assoc (concat cards) (replicate room 32) rest in
    let long : length (header cards) ≡ 2880 * ((length cards + 35) / 36) = size_of_header cards is.full in
    let enough : 2880 * ((length cards + 35) / 36) ≤ 80 * length cards + length tail =
    omega (arith, long, length-append (concat cards) (replicate room 32), length-append (replicate room 32) rest, size_of_cards cards is.full) in
    ap (λ l. header_at (front ++ l) number (length front)) apart ∙ found_there number front tail cards hdu is enough
    ∙ ap (λ k. found hdu (length front + k)) (sym long)
