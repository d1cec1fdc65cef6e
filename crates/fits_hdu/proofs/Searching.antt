-- The HDUs one after the other.
use Rattle.std.proofs.Common.{◌≡◌, ℕ, zero, suc, ◌+◌, ◌-◌, ◌*◌, ◌<◌, ◌≤◌, ◌⊎◌, inl, inr, Bool, true, false, cond, min, nat_lt, List, length, Option, Some}
use Rattle.std.proofs.Common.{Result, Ok, Err, refl, sym, ◌∙◌, subst, ap, arith, eqb}
use Rattle.std.specs.Prelude.{IsTrue, IfErr, IsErrOf}
use Rattle.std.proofs.lemmas.Bool.Decides.{nat_tests}
use Rattle.dev_io.specs.Laws.{Takes-nothing}
use Rattle.dev_io.specs.Streams.{Takes}
use Rattle.fits_hdu.specs.declared.answer.Hdu.{Hdu}
use Rattle.fits_hdu.specs.declared.fault.HduFault.{HduFault}
use Rattle.fits_hdu.specs.declared.fault.HduFault.TheVariants.{NotFits, TruncatedHeader, BadKeyword, HeaderTooLong, NoSuchHdu}
use Rattle.fits_hdu.specs.declared.fault.HduFault.TheVariants.{TruncatedSkip}
use Rattle.fits_hdu.specs.declared.fault.HduStop.{HduStop}
use Rattle.fits_hdu.specs.declared.fault.HduStop.TheVariants.{Fault, ReadFault}
use Rattle.fits_hdu.specs.Headers.{Found, found, refused, header_at, found_by, head_after, header_of, whole_header, header_read_to, hdu_begins, last_read}
use Rattle.fits_hdu.specs.Headers.{is_missing, is_bad, card_at, most_cards}
use Rattle.fits_hdu.specs.Finding.{padded, padding, following, following_found, past_padding, find_of, counted_on, find_on_of, find_after_of, taken_by}
use Rattle.fits_hdu.specs.Streams.{Stopped, Finds, OtherBytes, MeetsOtherBytes, MeetsOtherBytesAfter}
use Rattle.fits_hdu.specs.Reading.{Caused, OtherBehind, OtherPastPadding, OtherLater}
use Rattle.fits_hdu.specs.Laws.{HasData, SearchGoesOn, OtherBytesAreMet}
use Rattle.fits_hdu.proofs.Heads.{following_takes, follows_data, past_padding_takes}

find_first : (bytes : List ℕ) → find_of bytes 0 ≡ header_at bytes 0 0
unfolding find_of
find_first bytes = refl

find_next : (bytes : List ℕ) (n : ℕ) → find_of bytes (suc n) ≡ following_found bytes (suc n) (find_of bytes n)
unfolding find_of
find_next bytes n = refl

counted_first : (bytes : List ℕ) (n : ℕ) (first : Found) → counted_on bytes n first 0 ≡ first
unfolding counted_on
counted_first bytes n first = refl

counted_next : (bytes : List ℕ) (n : ℕ) (first : Found) (k : ℕ)
    → counted_on bytes n first (suc k) ≡ following_found bytes (n + suc k) (counted_on bytes n first k)
unfolding counted_on
counted_next bytes n first k = refl

-- counting on from HDU n is counting from the start
counted_is : (bytes : List ℕ) (n k : ℕ) (first : Found) → find_of bytes n ≡ first → find_of bytes (k + n) ≡ counted_on bytes n first k
counted_is bytes n zero first is = let same : 0 + n ≡ n = omega arith in rw same (is ∙ sym (counted_first bytes n first))
counted_is bytes n (suc k) first is =
    let same : suc k + n ≡ suc (k + n) = omega arith in
    let place : suc (k + n) ≡ n + suc k = omega arith in
    let here : find_of bytes (suc (k + n)) ≡ counted_on bytes n first (suc k) =
    find_next bytes (k + n) ∙ ap (λ m. following_found bytes m (find_of bytes (k + n))) place
    ∙ ap (following_found bytes (n + suc k)) (counted_is bytes n k first is) ∙ sym (counted_next bytes n first k) in
    rw same here

find_on_is : (bytes : List ℕ) (n number : ℕ) (first : Found) → n ≤ number → find_of bytes n ≡ first → find_of bytes number ≡ find_on_of bytes n first number
find_on_is bytes n number first low is =
    let place : number - n + n ≡ number = omega arith in
    subst (λ m. find_of bytes m ≡ counted_on bytes n first (number - n)) place (counted_is bytes n (number - n) first is)

-- An HDU that was found has its data within the bytes.

abbrev Within : List ℕ → Found → Type 0
Within bytes (found hdu head) = head ≤ length bytes
Within bytes (refused fault taken) = Unit {0}

found_within : (bytes : List ℕ) (head : ℕ) (result : Result Hdu HduFault) → head ≤ length bytes → Within bytes (found_by head result)
found_within bytes head (Ok hdu) h = h
found_within bytes head (Err fault) h = tt

whole_within : (bytes : List ℕ) (hdu start j : ℕ) → Within bytes (whole_header bytes hdu start j)
unfolding whole_header
whole_within bytes hdu start j = by (nat_lt (length bytes) (head_after start j)) refl
  where
    by : (b : Bool) → nat_lt (length bytes) (head_after start j) ≡ b
        → Within bytes (cond b (refused TruncatedHeader (length bytes)) (found_by (head_after start j) (header_of (eqb hdu 0) (card_at bytes start) j)))
    by true e = tt
    by false e = found_within bytes (head_after start j) _ (long (length bytes) (head_after start j) e)
      where
        long : (n m : ℕ) → nat_lt n m ≡ false → m ≤ n
        long n m h = grind (arith, nat_tests)

read_to_within : (bytes : List ℕ) (hdu start j : ℕ) → Within bytes (header_read_to bytes hdu start j)
unfolding header_read_to
read_to_within bytes hdu start j = by (nat_lt most_cards j) (is_missing bytes start j) (is_bad (eqb hdu 0) (card_at bytes start) j)
  where
    by : (a b c : Bool)
        → Within bytes (cond a (refused HeaderTooLong (start + 80 * most_cards))
        (cond b (refused TruncatedHeader (length bytes)) (cond c (refused (BadKeyword hdu j) (start + 80 * j)) (whole_header bytes hdu start j))))
    by true b c = tt
    by false true c = tt
    by false false true = tt
    by false false false = whole_within bytes hdu start j

header_within : (bytes : List ℕ) (hdu start : ℕ) → Within bytes (header_at bytes hdu start)
unfolding header_at
header_within bytes hdu start = by (hdu_begins hdu bytes start)
  where
    by : (b : Bool)
        → Within bytes (cond b (header_read_to bytes hdu start (last_read bytes hdu start))
        (refused (cond (eqb hdu 0) NotFits NoSuchHdu) (min (start + 80) (length bytes))))
    by true = read_to_within bytes hdu start (last_read bytes hdu start)
    by false = tt

following_within : (bytes : List ℕ) (hdu size head : ℕ) → Within bytes (following bytes hdu size head)
unfolding following
following_within bytes hdu size head = by (nat_lt (length bytes) (head + size)) (nat_lt (length bytes) (head + padded size))
  where
    by : (a b : Bool)
        → Within bytes (cond a (refused TruncatedSkip (length bytes)) (cond b (refused NoSuchHdu (length bytes)) (header_at bytes hdu (head + padded size))))
    by true b = tt
    by false true = tt
    by false false = header_within bytes hdu (head + padded size)

past_within : (bytes : List ℕ) (hdu size start : ℕ) → Within bytes (past_padding bytes hdu size start)
unfolding past_padding
past_within bytes hdu size start = by (nat_lt (length bytes) (start + padding size))
  where
    by : (b : Bool) → Within bytes (cond b (refused NoSuchHdu (length bytes)) (header_at bytes hdu (start + padding size)))
    by true = tt
    by false = header_within bytes hdu (start + padding size)

next_within : (bytes : List ℕ) (n : ℕ) (before : Found) → Within bytes (following_found bytes n before)
next_within bytes n (refused fault taken) = tt
next_within bytes n (found hdu head) = following_within bytes n hdu.data_bytes head

counted_within : (bytes : List ℕ) (n : ℕ) (first : Found) (k : ℕ) → Within bytes first → Within bytes (counted_on bytes n first k)
counted_within bytes n first zero within = subst (Within bytes) (sym (counted_first bytes n first)) within
counted_within bytes n first (suc k) within =
    subst (Within bytes) (sym (counted_next bytes n first k)) (next_within bytes (n + suc k) (counted_on bytes n first k))

-- What was taken grows, and a fault stays.

next_takes : (bytes : List ℕ) (n : ℕ) (before : Found) → Within bytes before → taken_by before ≤ taken_by (following_found bytes n before)
next_takes bytes n (refused fault taken) within = omega arith
next_takes bytes n (found hdu head) within = omega (arith, following_takes bytes n hdu.data_bytes head)

takes_next : (bytes : List ℕ) (n : ℕ) (first : Found) (k : ℕ) → Within bytes first
    → taken_by (counted_on bytes n first k) ≤ taken_by (counted_on bytes n first (suc k))
takes_next bytes n first k within =
    rw (counted_next bytes n first k) (next_takes bytes (n + suc k) (counted_on bytes n first k) (counted_within bytes n first k within))

takes_later : (bytes : List ℕ) (n : ℕ) (first : Found) (k i : ℕ) → Within bytes first
    → taken_by (counted_on bytes n first k) ≤ taken_by (counted_on bytes n first (i + k))
takes_later bytes n first k zero within = let same : 0 + k ≡ k = omega arith in rw same (omega arith)
takes_later bytes n first k (suc i) within =
    let same : suc i + k ≡ suc (i + k) = omega arith in
    rw same (omega (arith, takes_later bytes n first k i within, takes_next bytes n first (i + k) within))

refused_later : (bytes : List ℕ) (n : ℕ) (first : Found) (k i : ℕ) (fault : HduFault) (taken : ℕ) → counted_on bytes n first k ≡ refused fault taken
    → counted_on bytes n first (i + k) ≡ refused fault taken
refused_later bytes n first k zero fault taken is = let same : 0 + k ≡ k = omega arith in rw same is
refused_later bytes n first k (suc i) fault taken is =
    let same : suc i + k ≡ suc (i + k) = omega arith in
    rw same (counted_next bytes n first (i + k) ∙ ap (following_found bytes (n + suc (i + k))) (refused_later bytes n first k i fault taken is))

refused_to : (bytes : List ℕ) (n : ℕ) (first : Found) (m number : ℕ) (fault : HduFault) (taken : ℕ) → n ≤ m → m ≤ number
    → find_on_of bytes n first m ≡ refused fault taken → find_on_of bytes n first number ≡ refused fault taken
refused_to bytes n first m number fault taken from low is =
    let place : number - m + (m - n) ≡ number - n = omega arith in
    subst (λ k. counted_on bytes n first k ≡ refused fault taken) place (refused_later bytes n first (m - n) (number - m) fault taken is)

takes_to : (bytes : List ℕ) (n : ℕ) (first : Found) (m number : ℕ) → Within bytes first → n ≤ m → m ≤ number
    → taken_by (find_on_of bytes n first m) ≤ taken_by (find_on_of bytes n first number)
takes_to bytes n first m number within from low =
    let place : number - m + (m - n) ≡ number - n = omega arith in
    subst (λ k. taken_by (counted_on bytes n first (m - n)) ≤ taken_by (counted_on bytes n first k)) place
    (takes_later bytes n first (m - n) (number - m) within)

stopped_to : (bytes : List ℕ) (left : Option (List ℕ)) (n : ℕ) (first : Found) (m number : ℕ) (stop : HduStop) → Within bytes first → n ≤ m → m ≤ number
    → Stopped (find_on_of bytes n first m) bytes left stop → Stopped (find_on_of bytes n first number) bytes left stop
stopped_to bytes left n first m number ReadFault within from low lost =
    record { count = lost.count; few = omega (arith, lost.few, takes_to bytes n first m number within from low); takes = lost.takes }
stopped_to bytes left n first m number (Fault fault) within from low (taken, is, takes) =
    (taken, refused_to bytes n first m number fault taken from low is, takes)

-- a search that doesn't find its first HDU finds none
stopped_at_first : (bytes : List ℕ) (left : Option (List ℕ)) (n : ℕ) (first : Found) (number : ℕ) (stop : HduStop) → Within bytes first → n ≤ number
    → Stopped first bytes left stop → Stopped (find_on_of bytes n first number) bytes left stop
stopped_at_first bytes left n first number stop within low h =
    let none : n - n ≡ 0 = omega arith in
    let is : find_on_of bytes n first n ≡ first = ap (counted_on bytes n first) none ∙ counted_first bytes n first in
    stopped_to bytes left n first n number stop within (omega arith) low (subst (λ e. Stopped e bytes left stop) (sym is) h)

-- HDU m was found after HDU n, and its header was taken
pub record HduAt (bytes : List ℕ) (n : ℕ) (first : Found) (m : ℕ) (left : Option (List ℕ)) (hdu : Hdu) : Type 0 where
  pub head : ℕ
  pub is : find_on_of bytes n first m ≡ found hdu head
  pub takes : Takes bytes left head

pub at_first : (bytes : List ℕ) (n : ℕ) (hdu : Hdu) (head : ℕ) (left : Option (List ℕ)) → Takes bytes left head → HduAt bytes n (found hdu head) n left hdu
at_first bytes n hdu head left takes =
    let none : n - n ≡ 0 = omega arith in
    record { head = head; is = ap (counted_on bytes n (found hdu head)) none ∙ counted_first bytes n (found hdu head); takes = takes }

next_on : (bytes : List ℕ) (n : ℕ) (first : Found) (m next : ℕ) (hdu : Hdu) (head : ℕ) → n ≤ m → next ≡ m + 1 → find_on_of bytes n first m ≡ found hdu head
    → find_on_of bytes n first next ≡ following bytes next hdu.data_bytes head
next_on bytes n first m next hdu head from same is =
    let place : next - n ≡ suc (m - n) = omega arith in
    let number : n + suc (m - n) ≡ next = omega arith in
    ap (counted_on bytes n first) place ∙ counted_next bytes n first (m - n) ∙ ap (following_found bytes (n + suc (m - n))) is
    ∙ ap (λ k. following bytes k hdu.data_bytes head) number

pub at_next : (bytes : List ℕ) (n : ℕ) (first : Found) (m j : ℕ) (a b : Option (List ℕ)) (hdu next : Hdu) → HduAt bytes n first m a hdu → n ≤ m → j ≡ m + 1
    → ((bytes : List ℕ) (head : ℕ) → Takes bytes a head → Finds (following bytes j hdu.data_bytes head) bytes b (Ok next)) → HduAt bytes n first j b next
at_next bytes n first m j a b hdu next before from same says = by (says bytes before.head before.takes)
  where
    by : Finds (following bytes j hdu.data_bytes before.head) bytes b (Ok next) → HduAt bytes n first j b next
    by (head, is, takes) = record { head = head; is = next_on bytes n first m j hdu before.head from same before.is ∙ is; takes = takes }

pub stopped_next : (bytes : List ℕ) (n : ℕ) (of : Hdu) (start m j number : ℕ) (a b o : Option (List ℕ)) (hdu : Hdu) (stop : HduStop) → Takes bytes o start
    → HduAt bytes n (found of start) m a hdu → n ≤ m → j ≡ m + 1 → j ≤ number
    → ((bytes : List ℕ) (head : ℕ) → Takes bytes a head → Stopped (following bytes j hdu.data_bytes head) bytes b stop)
    → Stopped (find_on_of bytes n (found of start) number) bytes b stop
stopped_next bytes n of start m j number a b o hdu stop first before from same low says =
    stopped_to bytes b n (found of start) j number stop first.within (omega arith) low
    (subst (λ e. Stopped e bytes b stop) (sym (next_on bytes n (found of start) m j hdu before.head from same before.is)) (says bytes before.head before.takes))

pub found_last : (bytes : List ℕ) (n : ℕ) (first : Found) (m number : ℕ) (left : Option (List ℕ)) (hdu : Hdu) → m ≡ number → HduAt bytes n first m left hdu
    → Finds (find_on_of bytes n first number) bytes left (Ok hdu)
found_last bytes n first m number left hdu same last = (last.head, subst (λ k. find_on_of bytes n first k ≡ found hdu last.head) same last.is, last.takes)

-- The first HDU of a search was found, and the search went on.

finds_on : (bytes : List ℕ) (n number : ℕ) (first : Found) (a b : Option (List ℕ)) (hdu : Hdu) (result : Result Hdu HduStop) → Finds first bytes a (Ok hdu)
    → ((bytes : List ℕ) (head : ℕ) → Takes bytes a head → Finds (find_on_of bytes n (found hdu head) number) bytes b result)
    → Finds (find_on_of bytes n first number) bytes b result
finds_on bytes n number first a b hdu result (head, is, takes) says =
    subst (λ e. Finds (find_on_of bytes n e number) bytes b result) (sym is) (says bytes head takes)

pub found_from_start : (bytes : List ℕ) (number : ℕ) (o a b : Option (List ℕ)) (hdu : Hdu) (result : Result Hdu HduStop) → o ≡ Some bytes
    → ((bytes : List ℕ) (start : ℕ) → Takes bytes o start → Finds (header_at bytes 0 start) bytes a (Ok hdu))
    → ((bytes : List ℕ) (head : ℕ) → Takes bytes a head → Finds (find_on_of bytes 0 (found hdu head) number) bytes b result)
    → Finds (find_of bytes number) bytes b result
found_from_start bytes number o a b hdu result told first says =
    subst (λ e. Finds e bytes b result) (sym (find_on_is bytes 0 number (header_at bytes 0 0) (omega arith) (find_first bytes)))
    (finds_on bytes 0 number (header_at bytes 0 0) a b hdu result (first bytes 0 (Takes-nothing bytes o told)) says)

pub stopped_from_start : (bytes : List ℕ) (number : ℕ) (o a : Option (List ℕ)) (stop : HduStop) → o ≡ Some bytes
    → ((bytes : List ℕ) (start : ℕ) → Takes bytes o start → Stopped (header_at bytes 0 start) bytes a stop) → Stopped (find_of bytes number) bytes a stop
stopped_from_start bytes number o a stop told first =
    subst (λ e. Stopped e bytes a stop) (sym (find_on_is bytes 0 number (header_at bytes 0 0) (omega arith) (find_first bytes)))
    (stopped_at_first bytes a 0 (header_at bytes 0 0) number stop (header_within bytes 0 0) (omega arith) (first bytes 0 (Takes-nothing bytes o told)))

pub found_after : (bytes : List ℕ) (n m size start number : ℕ) (o a b : Option (List ℕ)) (hdu : Hdu) (result : Result Hdu HduStop) → m ≡ n + 1
    → Takes bytes o start
    → ((bytes : List ℕ) (start : ℕ) → Takes bytes o start → Finds (past_padding bytes m size start) bytes a (Ok hdu))
    → ((bytes : List ℕ) (head : ℕ) → Takes bytes a head → Finds (find_on_of bytes m (found hdu head) number) bytes b result)
    → Finds (find_after_of bytes n size start number) bytes b result
found_after bytes n m size start number o a b hdu result same takes first says =
    subst (λ k. Finds (find_on_of bytes k (past_padding bytes k size start) number) bytes b result) same
    (finds_on bytes m number (past_padding bytes m size start) a b hdu result (first bytes start takes) says)

pub stopped_after : (bytes : List ℕ) (n m size start number : ℕ) (o a : Option (List ℕ)) (stop : HduStop) → m ≡ n + 1 → n < number → Takes bytes o start
    → ((bytes : List ℕ) (start : ℕ) → Takes bytes o start → Stopped (past_padding bytes m size start) bytes a stop)
    → Stopped (find_after_of bytes n size start number) bytes a stop
stopped_after bytes n m size start number o a stop same low takes first =
    subst (λ k. Stopped (find_on_of bytes k (past_padding bytes k size start) number) bytes a stop) same
    (stopped_at_first bytes a m (past_padding bytes m size start) number stop (past_within bytes m size start) (omega arith) (first bytes start takes))

-- What stands where no HDU was found.

other_at : (bytes : List ℕ) (n : ℕ) (first : Found) (m j number : ℕ) (a : Option (List ℕ)) (hdu : Hdu) → HduAt bytes n first m a hdu → n ≤ m → j ≡ m + 1
    → j ≤ number → OtherBehind a j hdu.data_bytes → MeetsOtherBytes bytes (find_on_of bytes n first) n number
other_at bytes n first m j number a hdu last from same low other = record {
  before = m;
  from = from;
  earlier = omega arith;
  hdu = hdu;
  head = last.head;
  is = last.is;
  other = subst (λ k. OtherBytes bytes k (last.head + padded hdu.data_bytes)) same (other bytes last.head last.takes);
}

pub caused_next : (o a : Option (List ℕ)) (n : ℕ) (of : Hdu) (m j number : ℕ) (hdu : Hdu) (ended : Bool)
    → ((bytes : List ℕ) (head : ℕ) → Takes bytes o head → HduAt bytes n (found of head) m a hdu) → n ≤ m → j ≡ m + 1 → j ≤ number
    → IsTrue ended ⊎ OtherBehind a j hdu.data_bytes → IsTrue ended ⊎ OtherLater o n of number
caused_next o a n of m j number hdu ended before from same low (inl end) = inl end
caused_next o a n of m j number hdu ended before from same low (inr other) =
    inr (λ bytes head takes. other_at bytes n (found of head) m j number a hdu (before bytes head takes) from same low other)

-- the cause of an answer
pub cause_of : (P : HduStop → Type 0) (result : Result Hdu HduStop) (stop : HduStop) → IfErr result P → IsErrOf result stop → P stop
cause_of P (Ok hdu) stop h is = absurd (cc)
cause_of P (Err was) stop h is = let same : was ≡ stop = cc in subst P same h

other_from_start : (bytes : List ℕ) (number m : ℕ) (first : Found) → find_of bytes m ≡ first → MeetsOtherBytes bytes (find_on_of bytes m first) m number
    → MeetsOtherBytes bytes (find_of bytes) 0 number
other_from_start bytes number m first is other = record {
  before = other.before;
  from = omega arith;
  earlier = other.earlier;
  hdu = other.hdu;
  head = other.head;
  is = find_on_is bytes m other.before first other.from is ∙ other.is;
  other = other.other;
}

pub missing_from_start : (bytes : List ℕ) (number : ℕ) (o a : Option (List ℕ)) (hdu : Hdu) (ended : Bool) → o ≡ Some bytes
    → ((bytes : List ℕ) (start : ℕ) → Takes bytes o start → Finds (header_at bytes 0 start) bytes a (Ok hdu))
    → IsTrue ended ⊎ OtherLater a 0 hdu number → IsTrue ended ⊎ MeetsOtherBytes bytes (find_of bytes) 0 number
missing_from_start bytes number o a hdu ended told first (inl end) = inl end
missing_from_start bytes number o a hdu ended told first (inr other) = inr (by (first bytes 0 (Takes-nothing bytes o told)))
  where
    by : Finds (header_at bytes 0 0) bytes a (Ok hdu) → MeetsOtherBytes bytes (find_of bytes) 0 number
    by (head, is, takes) = other_from_start bytes number 0 (found hdu head) (find_first bytes ∙ is) (other bytes head takes)

pub missing_after : (bytes : List ℕ) (n m size start number : ℕ) (o a : Option (List ℕ)) (hdu : Hdu) (ended : Bool) → m ≡ n + 1 → Takes bytes o start
    → ((bytes : List ℕ) (start : ℕ) → Takes bytes o start → Finds (past_padding bytes m size start) bytes a (Ok hdu))
    → IsTrue ended ⊎ OtherLater a m hdu number → IsTrue ended ⊎ MeetsOtherBytesAfter bytes n size start number
missing_after bytes n m size start number o a hdu ended same takes first (inl end) = inl end
missing_after bytes n m size start number o a hdu ended same takes first (inr other) =
    inr (inr (subst (λ k. MeetsOtherBytes bytes (find_on_of bytes k (past_padding bytes k size start)) k number) same (by (first bytes start takes))))
  where
    by : Finds (past_padding bytes m size start) bytes a (Ok hdu) → MeetsOtherBytes bytes (find_on_of bytes m (past_padding bytes m size start)) m number
    by (head, is, taken) = subst (λ e. MeetsOtherBytes bytes (find_on_of bytes m e) m number) (sym is) (other bytes head taken)

pub missing_at_padding : (bytes : List ℕ) (n m size start number : ℕ) (o : Option (List ℕ)) (ended : Bool) (b c : ℕ) (stop : HduStop) → m ≡ n + 1
    → Takes bytes o start
    → Caused (IsTrue ended ⊎ OtherPastPadding o m size) ended b c stop → ◌≡◌ {A = Result Hdu HduStop} (Err stop) (Err (Fault NoSuchHdu)) → IsTrue ended
    ⊎ MeetsOtherBytesAfter bytes n size start number
missing_at_padding bytes n m size start number o ended b c stop next takes caused is =
    let same : stop ≡ Fault NoSuchHdu = cc in
    by (subst (Caused (IsTrue ended ⊎ OtherPastPadding o m size) ended b c) same caused)
  where
    by : IsTrue ended ⊎ OtherPastPadding o m size → IsTrue ended ⊎ MeetsOtherBytesAfter bytes n size start number
    by (inl end) = inl end
    by (inr other) = inr (inl (subst (λ k. OtherBytes bytes k (start + padding size)) next (other bytes start takes)))

-- The law.

-- what stands after HDU n, where its data are there
next_is : (bytes : List ℕ) (n : ℕ) (passed : Hdu) (head : ℕ) → HasData bytes n passed head
    → find_of bytes (n + 1) ≡ past_padding bytes (n + 1) passed.data_bytes (head + passed.data_bytes)
next_is bytes n passed head data_there =
    let place : n + 1 ≡ suc n = omega arith in
    let here : find_of bytes (suc n) ≡ past_padding bytes (suc n) passed.data_bytes (head + passed.data_bytes) =
    find_next bytes n ∙ ap (following_found bytes (suc n)) data_there.is ∙ follows_data bytes (suc n) passed.data_bytes head data_there.whole in
    subst (λ m. find_of bytes m ≡ past_padding bytes m passed.data_bytes (head + passed.data_bytes)) (sym place) here

pub search_goes_on : SearchGoesOn
search_goes_on bytes n number passed head there low = sym (find_on_is bytes (n + 1) number _ (omega arith) (next_is bytes n passed head there))

pub other_bytes_are_met : OtherBytesAreMet
other_bytes_are_met bytes n number passed head there low (inl other) = record {
  before = n;
  from = omega arith;
  earlier = low;
  hdu = passed;
  head = head;
  is = there.is;
  other = subst (OtherBytes bytes (n + 1)) (place head passed.data_bytes) other;
}
  where
    place : (head size : ℕ) → head + size + padding size ≡ head + padded size
    place head size = omega arith
other_bytes_are_met bytes n number passed head there low (inr other) = other_from_start bytes number (n + 1) _ (next_is bytes n passed head there) other

-- The search for a later HDU takes all data of this one.
pub data_taken : (bytes : List ℕ) (n number : ℕ) (passed : Hdu) (head : ℕ) → HasData bytes n passed head → n < number
    → head + passed.data_bytes ≤ taken_by (find_of bytes number)
data_taken bytes n number passed head there low =
    let next = past_padding bytes (n + 1) passed.data_bytes (head + passed.data_bytes) in
    let none : n + 1 - (n + 1) ≡ 0 = omega arith in
    let is : find_of bytes number ≡ find_on_of bytes (n + 1) next number =
    find_on_is bytes (n + 1) number next (omega arith) (next_is bytes n passed head there) in
    let here : find_on_of bytes (n + 1) next (n + 1) ≡ next = ap (counted_on bytes (n + 1) next) none ∙ counted_first bytes (n + 1) next in
    let grows : taken_by (find_on_of bytes (n + 1) next (n + 1)) ≤ taken_by (find_on_of bytes (n + 1) next number) =
    takes_to bytes (n + 1) next (n + 1) number (past_within bytes (n + 1) passed.data_bytes (head + passed.data_bytes)) (omega arith) (omega arith) in
    let first : min (head + passed.data_bytes + padding passed.data_bytes) (length bytes) ≤ taken_by next =
    past_padding_takes bytes (n + 1) passed.data_bytes (head + passed.data_bytes) in
    let whole : head + passed.data_bytes ≤ length bytes = there.whole in
    rw is (least head passed.data_bytes (padding passed.data_bytes) (length bytes) (taken_by next) _ _ (ap taken_by here) grows first whole)
  where
    least : (start size more long next all a : ℕ) → a ≡ next → a ≤ all → min (start + size + more) long ≤ next → start + size ≤ long → start + size ≤ all
    least start size more long next all a e grows first whole = omega arith
