-- The end of a header, and what comes after the data of an HDU.
use Rattle.std.proofs.Common.{◌≡◌, ℕ, ◌+◌, ◌-◌, ◌*◌, ◌/◌, ◌%◌, ◌<◌, ◌≤◌, inl, inr, Bool, true, false, cond, min, nat_lt, List, length, Option, Some}
use Rattle.std.proofs.Common.{Result, Ok, Err, refl, sym, ◌∙◌, subst, ap, arith, eqb, ℤ}
use Rattle.std.specs.Prelude.{IfErr}
use Rattle.std.proofs.lemmas.Bool.{le-ltb, lt-ltb}
use Rattle.dev_io.specs.Streams.{Takes, TakesAtMost}
use Rattle.fits_hdu.specs.declared.answer.Hdu.{Hdu}
use Rattle.fits_hdu.specs.declared.fault.HduFault.TheVariants.{NotFits, TruncatedHeader, BadKeyword, HeaderTooLong, Groups, DataTooLong, NoSuchHdu}
use Rattle.fits_hdu.specs.declared.fault.HduFault.TheVariants.{TruncatedSkip}
use Rattle.fits_hdu.specs.declared.fault.HduStop.{HduStop}
use Rattle.fits_hdu.specs.declared.fault.HduStop.TheVariants.{Fault, ReadFault}
use Rattle.fits_hdu.specs.declared.header.Mandatory.{Mandatory}
use Rattle.fits_hdu.specs.declared.header.Ended.{Ended}
use Rattle.fits_hdu.specs.Cards.{bitpix_of, is_image}
use Rattle.fits_hdu.specs.Headers.{Found, refused, found_by, head_after, header_of, whole_header, header_at, judged, is_groups, described, most_data, card_at}
use Rattle.fits_hdu.specs.Headers.{axes_of, axis_count, others_before}
use Rattle.fits_hdu.specs.Kept.{kept_axes, kept_others}
use Rattle.fits_hdu.specs.Finding.{padded, padding, following, past_padding, taken_by}
use Rattle.fits_hdu.specs.Streams.{Stopped, Finds}
use Rattle.fits_hdu.specs.Reading.{stops_at_fault}
use Rattle.fits_hdu.specs.Reading.{MandatoryRead, EndRead, Caused, IsOfWholeHeader}
use Rattle.fits_hdu.proofs.Places.{axes_all, length-axes_to}
use Rattle.fits_hdu.proofs.Reaching.{found_takes, lost_within, header_takes_first}

-- The end of the header.

ends_at : (start number : ℕ) → start + 80 * number + ((number + 35) / 36 * 36 - number) * 80 ≡ head_after start number
ends_at start number = omega arith

whole_is : (bytes : List ℕ) (hdu start number : ℕ) → head_after start number ≤ length bytes
    → whole_header bytes hdu start number ≡ found_by (head_after start number) (header_of (eqb hdu 0) (card_at bytes start) number)
unfolding whole_header
whole_is bytes hdu start number within =
    let is : nat_lt (length bytes) (head_after start number) ≡ false = le-ltb (length bytes) (head_after start number) within in rw is refl

whole_cut : (bytes : List ℕ) (hdu start number : ℕ) → length bytes < head_after start number
    → whole_header bytes hdu start number ≡ refused TruncatedHeader (length bytes)
unfolding whole_header
whole_cut bytes hdu start number short =
    let is : nat_lt (length bytes) (head_after start number) ≡ true = lt-ltb (length bytes) (head_after start number) short in rw is refl

whole_takes : (bytes : List ℕ) (hdu start number : ℕ) → min (head_after start number) (length bytes) ≤ taken_by (whole_header bytes hdu start number)
unfolding whole_header
whole_takes bytes hdu start number = by (nat_lt (length bytes) (head_after start number))
  where
    by : (b : Bool)
        → min (head_after start number) (length bytes) ≤ taken_by
        (cond b (refused TruncatedHeader (length bytes)) (found_by (head_after start number) (header_of (eqb hdu 0) (card_at bytes start) number)))
    by true = omega arith
    by false = omega (arith, found_takes (head_after start number) (header_of (eqb hdu 0) (card_at bytes start) number))

finds_judged : (expected : Found) (bytes : List ℕ) (head : ℕ) (left : Option (List ℕ)) (primary image : Bool) (bitpix : ℤ) (axes : List ℕ)
    (after : List (List ℕ)) → expected ≡ found_by head (judged primary image bitpix axes after) → Takes bytes left head
    → Finds expected bytes left (stops_at_fault (judged primary image bitpix axes after))
unfolding judged
finds_judged expected bytes head left primary image bitpix axes after is takes =
    by (is_groups primary axes after) (nat_lt most_data (described primary image bitpix axes after).data_bytes) is
  where
    by : (a b : Bool) → expected ≡ found_by head (cond a (Err Groups) (cond b (Err DataTooLong) (Ok (described primary image bitpix axes after))))
        → Finds expected bytes left (stops_at_fault (cond a (Err Groups) (cond b (Err DataTooLong) (Ok (described primary image bitpix axes after)))))
    by true b e = (head, e, takes)
    by false true e = (head, e, takes)
    by false false e = (head, e, takes)

header_is : (primary : Bool) (card : ℕ → List ℕ) (number : ℕ) (image : Bool) (bitpix : ℤ) → image ≡ is_image (card 1) → bitpix_of (card 2) ≡ Some bitpix
    → header_of primary card number ≡ judged primary image bitpix (axes_of card) (others_before card number)
unfolding header_of
header_is primary card number image bitpix i b = rw (← i, b) refl

length-axes_of : (card : ℕ → List ℕ) (naxis : ℕ) → axis_count card ≡ naxis → length (axes_of card) ≡ naxis
length-axes_of card naxis count = ap length (sym (axes_all card naxis count)) ∙ length-axes_to card naxis

pub header_found : (bytes : List ℕ) (hdu start : ℕ) (a b d : Option (List ℕ)) (cards : Mandatory) (ended : Ended) (result : Result Hdu HduStop) (rest : ℕ)
    → rest ≡ (ended.number + 35) / 36 * 36 - ended.number → MandatoryRead bytes hdu start a cards → EndRead bytes hdu start b ended
    → Takes bytes d (start + 80 * ended.number + rest * 80)
    → ((axes : List ℕ) (after : List (List ℕ)) → length axes ≡ cards.naxis → cards.axes ≡ kept_axes axes → ended.others ≡ kept_others after → result
    ≡ stops_at_fault (judged (eqb hdu 0) cards.image cards.bitpix axes after))
    → Finds (header_at bytes hdu start) bytes d result
header_found bytes hdu start a b d cards ended result rest padding first last takes says =
    let card = card_at bytes start in
    let place : Takes bytes d (head_after start ended.number) =
    subst (Takes bytes d) (ap (λ n. start + 80 * ended.number + n * 80) padding ∙ ends_at start ended.number) takes in
    let is : header_at bytes hdu start ≡ found_by (head_after start ended.number)
    (judged (eqb hdu 0) cards.image cards.bitpix (axes_of card) (others_before card ended.number)) =
    last.whole ∙ whole_is bytes hdu start ended.number place.within
    ∙ ap (found_by (head_after start ended.number)) (header_is (eqb hdu 0) card ended.number cards.image cards.bitpix first.image_is first.bitpix_is) in
    let result_is : result ≡ stops_at_fault (judged (eqb hdu 0) cards.image cards.bitpix (axes_of card) (others_before card ended.number)) =
    says (axes_of card) (others_before card ended.number) (length-axes_of card cards.naxis first.naxis_is) first.axes_are last.others_are in
    subst (Finds (header_at bytes hdu start) bytes d) (sym result_is) (finds_judged _ bytes _ d _ _ _ _ _ is place)

pub header_cut : (bytes : List ℕ) (hdu start : ℕ) (b d : Option (List ℕ)) (ended : Ended) (rest : ℕ) → rest ≡ (ended.number + 35) / 36 * 36 - ended.number
    → EndRead bytes hdu start b ended → (length bytes < start + 80 * ended.number + rest * 80) × Takes bytes d (length bytes)
    → Stopped (header_at bytes hdu start) bytes d (Fault TruncatedHeader)
header_cut bytes hdu start b d ended rest padding last cut =
    (length bytes, last.whole ∙ whole_cut bytes hdu start ended.number (omega (arith, cut.0, ends_at start ended.number)), cut.1)

pub header_lost : (bytes : List ℕ) (hdu start : ℕ) (b d : Option (List ℕ)) (ended : Ended) (rest : ℕ) → rest ≡ (ended.number + 35) / 36 * 36 - ended.number
    → EndRead bytes hdu start b ended → TakesAtMost bytes d (start + 80 * ended.number + rest * 80)
    → TakesAtMost bytes d (taken_by (header_at bytes hdu start))
header_lost bytes hdu start b d ended rest padding last lost =
    lost_within bytes d _ _ lost (rw last.whole (omega (arith, whole_takes bytes hdu start ended.number, ends_at start ended.number)))

-- After the data.

pub pads_to : (start size : ℕ) → start + (2880 - size % 2880) % 2880 ≡ start + padding size
pads_to start size = omega arith

padded_at : (bytes : List ℕ) (hdu size start : ℕ) → start + padding size ≤ length bytes
    → past_padding bytes hdu size start ≡ header_at bytes hdu (start + padding size)
unfolding past_padding
padded_at bytes hdu size start whole = let is = le-ltb (length bytes) (start + padding size) whole in rw is refl

padding_cut : (bytes : List ℕ) (hdu size start : ℕ) → length bytes < start + padding size → past_padding bytes hdu size start ≡ refused NoSuchHdu (length bytes)
unfolding past_padding
padding_cut bytes hdu size start short = let is = lt-ltb (length bytes) (start + padding size) short in rw is refl

pub past_padding_takes : (bytes : List ℕ) (hdu size start : ℕ) → min (start + padding size) (length bytes) ≤ taken_by (past_padding bytes hdu size start)
unfolding past_padding
past_padding_takes bytes hdu size start = by (nat_lt (length bytes) (start + padding size))
  where
    by : (b : Bool)
        → min (start + padding size) (length bytes) ≤ taken_by (cond b (refused NoSuchHdu (length bytes)) (header_at bytes hdu (start + padding size)))
    by true = omega arith
    by false = omega (arith, header_takes_first bytes hdu (start + padding size))

pub pad_found : (bytes : List ℕ) (hdu size start : ℕ) (b d : Option (List ℕ)) (result : Result Hdu HduStop)
    → Takes bytes b (start + (2880 - size % 2880) % 2880)
    → ((bytes : List ℕ) (start : ℕ) → Takes bytes b start → Finds (header_at bytes hdu start) bytes d result)
    → Finds (past_padding bytes hdu size start) bytes d result
pad_found bytes hdu size start b d result pad says =
    let place : Takes bytes b (start + padding size) = subst (Takes bytes b) (pads_to start size) pad in
    subst (λ e. Finds e bytes d result) (sym (padded_at bytes hdu size start place.within)) (says bytes (start + padding size) place)

pub pad_none : (bytes : List ℕ) (hdu size start : ℕ) (d : Option (List ℕ)) → (length bytes < start + (2880 - size % 2880) % 2880) × Takes bytes d (length bytes)
    → Stopped (past_padding bytes hdu size start) bytes d (Fault NoSuchHdu)
pad_none bytes hdu size start d cut = (length bytes, padding_cut bytes hdu size start (omega (arith, cut.0, pads_to start size)), cut.1)

pub pad_lost : (bytes : List ℕ) (hdu size start : ℕ) (d : Option (List ℕ)) → TakesAtMost bytes d (start + (2880 - size % 2880) % 2880)
    → TakesAtMost bytes d (taken_by (past_padding bytes hdu size start))
pad_lost bytes hdu size start d lost = lost_within bytes d _ _ lost (omega (arith, past_padding_takes bytes hdu size start, pads_to start size))

follows_cut : (bytes : List ℕ) (hdu size head : ℕ) → length bytes < head + size → following bytes hdu size head ≡ refused TruncatedSkip (length bytes)
unfolding following
follows_cut bytes hdu size head short = let is = lt-ltb (length bytes) (head + size) short in rw is refl

-- behind whole data stands their padding
pub follows_data : (bytes : List ℕ) (hdu size head : ℕ) → head + size ≤ length bytes → following bytes hdu size head ≡ past_padding bytes hdu size (head + size)
unfolding following past_padding
follows_data bytes hdu size head long =
    let all = le-ltb (length bytes) (head + size) long in
    let place : head + padded size ≡ head + size + padding size = omega arith in
    rw (all, place) refl

pub following_takes : (bytes : List ℕ) (hdu size head : ℕ) → min (head + padded size) (length bytes) ≤ taken_by (following bytes hdu size head)
unfolding following
following_takes bytes hdu size head = by (nat_lt (length bytes) (head + size)) (nat_lt (length bytes) (head + padded size))
  where
    by : (a b : Bool)
        → min (head + padded size) (length bytes) ≤ taken_by
        (cond a (refused TruncatedSkip (length bytes)) (cond b (refused NoSuchHdu (length bytes)) (header_at bytes hdu (head + padded size))))
    by true b = omega arith
    by false true = omega arith
    by false false = omega (arith, header_takes_first bytes hdu (head + padded size))

pub next_cut : (bytes : List ℕ) (hdu size head : ℕ) (d : Option (List ℕ)) → (length bytes < head + size) × Takes bytes d (length bytes)
    → Stopped (following bytes hdu size head) bytes d (Fault TruncatedSkip)
next_cut bytes hdu size head d cut = (length bytes, follows_cut bytes hdu size head cut.0, cut.1)

pub next_lost : (bytes : List ℕ) (hdu size head : ℕ) (d : Option (List ℕ)) → TakesAtMost bytes d (head + size)
    → TakesAtMost bytes d (taken_by (following bytes hdu size head))
next_lost bytes hdu size head d lost = lost_within bytes d _ _ lost (omega (arith, following_takes bytes hdu size head))

pub next_found : (bytes : List ℕ) (hdu size head : ℕ) (a d : Option (List ℕ)) (result : Result Hdu HduStop) → Takes bytes a (head + size)
    → ((bytes : List ℕ) (start : ℕ) → Takes bytes a start → Finds (past_padding bytes hdu size start) bytes d result)
    → Finds (following bytes hdu size head) bytes d result
next_found bytes hdu size head a d result content says =
    subst (λ e. Finds e bytes d result) (sym (follows_data bytes hdu size head content.within)) (says bytes (head + size) content)

-- Causes.

pub caused_more : {M N : Type 0} (ended : Bool) (a b c : ℕ) (stop : HduStop) → (M → N) → a ≤ b → Caused M ended b c stop → Caused N ended a c stop
caused_more ended a b c (Fault NotFits) f h u = tt
caused_more ended a b c (Fault TruncatedHeader) f h u = u
caused_more ended a b c (Fault (BadKeyword i j)) f h u = tt
caused_more ended a b c (Fault HeaderTooLong) f h u = tt
caused_more ended a b c (Fault Groups) f h u = tt
caused_more ended a b c (Fault DataTooLong) f h u = tt
caused_more ended a b c (Fault NoSuchHdu) f h u = f u
caused_more ended a b c (Fault TruncatedSkip) f h u = u
caused_more ended a b c ReadFault f h u = omega arith

pub judged_caused : (M : Type 0) (ended : Bool) (a c : ℕ) (result : Result Hdu HduStop) → IfErr result IsOfWholeHeader → IfErr result (Caused M ended a c)
judged_caused M ended a c (Ok hdu) h = tt
judged_caused M ended a c (Err stop) (inl is) = subst (Caused M ended a c) (sym is) tt
judged_caused M ended a c (Err stop) (inr is) = subst (Caused M ended a c) (sym is) tt
