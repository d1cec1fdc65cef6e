-- The header by the card at which its reading ends, and how many bytes were taken there.
use Rattle.std.proofs.Common.{◌≡◌, ℕ, ◌+◌, ◌-◌, ◌*◌, ◌<◌, ◌≤◌, inl, inr, Bool, true, false, ◌||◌, cond, nat_lt, min, List, length, take, drop, Option, Result}
use Rattle.std.proofs.Common.{Ok, Err, refl, sym, ◌∙◌, subst, arith, eqb}
use Rattle.std.proofs.lemmas.Bool.Decides.{nat_tests}
use Rattle.std.proofs.lemmas.Bool.{cases_lt}
use Rattle.dev_io.specs.Streams.{Takes, TakesAtMost}
use Rattle.fits_hdu.specs.declared.answer.Hdu.{Hdu}
use Rattle.fits_hdu.specs.declared.fault.HduFault.{HduFault}
use Rattle.fits_hdu.specs.declared.fault.HduFault.TheVariants.{NotFits, TruncatedHeader, BadKeyword, HeaderTooLong, Groups, DataTooLong, NoSuchHdu}
use Rattle.fits_hdu.specs.declared.fault.HduFault.TheVariants.{TruncatedSkip}
use Rattle.fits_hdu.specs.declared.fault.HduStop.{HduStop}
use Rattle.fits_hdu.specs.declared.fault.HduStop.TheVariants.{Fault, ReadFault}
use Rattle.fits_hdu.specs.Headers.{refused, found_by, head_after, header_of, whole_header, header_read_to, header_at, hdu_begins, last_read, stops, is_missing}
use Rattle.fits_hdu.specs.Headers.{is_bad, ends_header, card_at, most_cards}
use Rattle.fits_hdu.specs.Finding.{taken_by}
use Rattle.fits_hdu.specs.Streams.{Stopped}
use Rattle.fits_hdu.specs.Reading.{CardsPassed, CardRead, CardMissing}
use Rattle.fits_hdu.proofs.FirstPassing.{first_passing_is, first_passing_past, first_passing_from}

pub stops_is : (bytes : List ℕ) (hdu start j : ℕ) (missing bad last : Bool) → is_missing bytes start j ≡ missing
    → is_bad (eqb hdu 0) (card_at bytes start) j ≡ bad → ends_header (card_at bytes start) j ≡ last
    → stops bytes hdu start j ≡ (missing || (bad || last))
unfolding stops
stops_is bytes hdu start j missing bad last a b c = rw (a, b, c) refl

pub missing_is : (bytes : List ℕ) (start j : ℕ) → length bytes < start + 80 * j → is_missing bytes start j ≡ true
unfolding is_missing
missing_is bytes start j h = grind (arith, nat_tests)

pub there_is : (bytes : List ℕ) (start j : ℕ) → start + 80 * j ≤ length bytes → is_missing bytes start j ≡ false
unfolding is_missing
there_is bytes start j h = grind (arith, nat_tests)

-- reading ends at the card after the ones that were passed
last_read_is : (bytes : List ℕ) (hdu start k j : ℕ) → j ≡ k + 1 → j ≤ 36000 → ((i : ℕ) → 1 ≤ i → i ≤ k → stops bytes hdu start i ≡ false)
    → stops bytes hdu start j ≡ true → last_read bytes hdu start ≡ j
unfolding last_read
last_read_is bytes hdu start k j next most passed stop =
    first_passing_is (stops bytes hdu start) most_cards 1 j (omega arith) (omega arith) stop (λ i l h. passed i l (omega arith))

last_read_past : (bytes : List ℕ) (hdu start k : ℕ) → k ≡ 36000 → ((i : ℕ) → 1 ≤ i → i ≤ k → stops bytes hdu start i ≡ false)
    → last_read bytes hdu start ≡ k + 1
unfolding last_read
last_read_past bytes hdu start k all passed = first_passing_past (stops bytes hdu start) most_cards 1 (λ i l h. passed i l (omega arith)) ∙ omega arith

last_read_from : (bytes : List ℕ) (hdu start k : ℕ) → k ≤ 36000 → ((i : ℕ) → 1 ≤ i → i ≤ k → stops bytes hdu start i ≡ false)
    → k + 1 ≤ last_read bytes hdu start
unfolding last_read
last_read_from bytes hdu start k most passed = first_passing_from (stops bytes hdu start) most_cards 1 (k + 1) (omega arith) (λ i l h. passed i l (omega arith))

header_begun : (bytes : List ℕ) (hdu start j : ℕ) → hdu_begins hdu bytes start ≡ true → last_read bytes hdu start ≡ j
    → header_at bytes hdu start ≡ header_read_to bytes hdu start j
unfolding header_at
header_begun bytes hdu start j begun is = rw (begun, is) refl

pub header_other : (bytes : List ℕ) (hdu start : ℕ) → hdu_begins hdu bytes start ≡ false
    → header_at bytes hdu start ≡ refused (cond (eqb hdu 0) NotFits NoSuchHdu) (min (start + 80) (length bytes))
unfolding header_at
header_other bytes hdu start other = rw other refl

few : (j : ℕ) → j ≤ 36000 → nat_lt most_cards j ≡ false
few j h = grind (arith, nat_tests)

read_to_missing : (bytes : List ℕ) (hdu start j : ℕ) → j ≤ 36000 → is_missing bytes start j ≡ true
    → header_read_to bytes hdu start j ≡ refused TruncatedHeader (length bytes)
unfolding header_read_to
read_to_missing bytes hdu start j most missing = let is : nat_lt most_cards j ≡ false = few j most in rw (is, missing) refl

read_to_bad : (bytes : List ℕ) (hdu start j : ℕ) → j ≤ 36000 → is_missing bytes start j ≡ false → is_bad (eqb hdu 0) (card_at bytes start) j ≡ true
    → header_read_to bytes hdu start j ≡ refused (BadKeyword hdu j) (start + 80 * j)
unfolding header_read_to
read_to_bad bytes hdu start j most there bad = let is : nat_lt most_cards j ≡ false = few j most in rw (is, there, bad) refl

read_to_end : (bytes : List ℕ) (hdu start j : ℕ) → j ≤ 36000 → is_missing bytes start j ≡ false → is_bad (eqb hdu 0) (card_at bytes start) j ≡ false
    → header_read_to bytes hdu start j ≡ whole_header bytes hdu start j
unfolding header_read_to
read_to_end bytes hdu start j most there good = let is : nat_lt most_cards j ≡ false = few j most in rw (is, there, good) refl

read_to_long : (bytes : List ℕ) (hdu start j : ℕ) → 36000 < j → header_read_to bytes hdu start j ≡ refused HeaderTooLong (start + 80 * 36000)
unfolding header_read_to
read_to_long bytes hdu start j many = let is : nat_lt most_cards j ≡ true = grind (arith, nat_tests) in rw is refl

-- what a header takes

pub found_takes : (head : ℕ) (result : Result Hdu HduFault) → taken_by (found_by head result) ≡ head
found_takes head (Ok hdu) = refl
found_takes head (Err fault) = refl

whole_takes : (bytes : List ℕ) (hdu start j : ℕ) → min (start + 80 * j) (length bytes) ≤ taken_by (whole_header bytes hdu start j)
unfolding whole_header
whole_takes bytes hdu start j = by (nat_lt (length bytes) (head_after start j))
  where
    by : (b : Bool)
        → min (start + 80 * j) (length bytes) ≤ taken_by
        (cond b (refused TruncatedHeader (length bytes)) (found_by (head_after start j) (header_of (eqb hdu 0) (card_at bytes start) j)))
    by true = omega arith
    by false = omega (arith, found_takes (head_after start j) (header_of (eqb hdu 0) (card_at bytes start) j))

read_to_takes : (bytes : List ℕ) (hdu start j k : ℕ) → k < 36000 → k + 1 ≤ j
    → min (start + 80 * (k + 1)) (length bytes) ≤ taken_by (header_read_to bytes hdu start j)
unfolding header_read_to
read_to_takes bytes hdu start j k most h =
    by (nat_lt most_cards j) (is_missing bytes start j) (is_bad (eqb hdu 0) (card_at bytes start) j)
  where
    by : (a b c : Bool)
        → min (start + 80 * (k + 1)) (length bytes) ≤ taken_by
        (cond a (refused HeaderTooLong (start + 80 * most_cards))
        (cond b (refused TruncatedHeader (length bytes)) (cond c (refused (BadKeyword hdu j) (start + 80 * j)) (whole_header bytes hdu start j))))
    by true b c = omega arith
    by false true c = omega arith
    by false false true = omega arith
    by false false false = omega (arith, whole_takes bytes hdu start j)

pub header_takes : (bytes : List ℕ) (hdu start k : ℕ) → hdu_begins hdu bytes start ≡ true → ((i : ℕ) → 1 ≤ i → i ≤ k → stops bytes hdu start i ≡ false)
    → k < 36000 → min (start + 80 * (k + 1)) (length bytes) ≤ taken_by (header_at bytes hdu start)
header_takes bytes hdu start k begun passed most =
    rw (header_begun bytes hdu start _ begun refl) (read_to_takes bytes hdu start _ k most (last_read_from bytes hdu start k (omega arith) passed))

pub header_takes_first : (bytes : List ℕ) (hdu start : ℕ) → min (start + 80) (length bytes) ≤ taken_by (header_at bytes hdu start)
header_takes_first bytes hdu start = by (hdu_begins hdu bytes start) refl
  where
    by : (b : Bool) → hdu_begins hdu bytes start ≡ b → min (start + 80) (length bytes) ≤ taken_by (header_at bytes hdu start)
    by true is = header_takes bytes hdu start 0 is (λ i l h. absurd (omega arith)) (omega arith)
    by false is = rw (header_other bytes hdu start is) (omega arith)

pub lost_within : (bytes : List ℕ) (left : Option (List ℕ)) (most taken : ℕ) → TakesAtMost bytes left most → min most (length bytes) ≤ taken
    → TakesAtMost bytes left taken
lost_within bytes left most taken lost h = record { count = lost.count; few = omega (arith, lost.few, lost.takes.within); takes = lost.takes }

-- The next card.

card_here : (bytes : List ℕ) (start k j : ℕ) (card : List ℕ) → j ≡ k + 1 → card ≡ take 80 (drop (start + 80 * k) bytes) → card_at bytes start j ≡ card
card_here bytes start k j card next is = let place : start + 80 * (j - 1) ≡ start + 80 * k = omega arith in rw place (sym is)

pub card_is : (bytes : List ℕ) (hdu start k j : ℕ) (a b : Option (List ℕ)) (card : List ℕ) → CardsPassed bytes hdu start a k → j ≡ k + 1
    → CardRead bytes (start + 80 * k) b card → card_at bytes start j ≡ card
card_is bytes hdu start k j a b card reached next read = card_here bytes start k j card next read.card_is

pub reach_next : (bytes : List ℕ) (hdu start k j : ℕ) (a b : Option (List ℕ)) (card : List ℕ) → CardsPassed bytes hdu start a k → j ≡ k + 1
    → CardRead bytes (start + 80 * k) b card
    → is_bad (eqb hdu 0) (card_at bytes start) j ≡ false → ends_header (card_at bytes start) j ≡ false → CardsPassed bytes hdu start b j
reach_next bytes hdu start k j a b card reached next read good more = record {
  begun = reached.begun;
  passed = λ i l h. by i l h;
  takes = subst (Takes bytes b) place read.takes;
}
  where
    place : start + 80 * k + 80 ≡ start + 80 * j
    place = omega arith

    there : is_missing bytes start j ≡ false
    there = there_is bytes start j (omega (arith, read.takes.within))

    here : stops bytes hdu start j ≡ false
    here = stops_is bytes hdu start j false false false there good more

    by : (i : ℕ) → 1 ≤ i → i ≤ j → stops bytes hdu start i ≡ false
    by i l h =
        elim (cases_lt i j) [
          | inl less ↦ reached.passed i l (omega arith)
          | inr same ↦ let is : j ≡ i = omega arith in subst
              (λ n. stops bytes hdu start n ≡ false) is here
        ]

pub stop_bad : (bytes : List ℕ) (hdu start k j : ℕ) (a b : Option (List ℕ)) (card : List ℕ) → CardsPassed bytes hdu start a k → j ≡ k + 1 → j ≤ 36000
    → CardRead bytes (start + 80 * k) b card
    → is_bad (eqb hdu 0) (card_at bytes start) j ≡ true → Stopped (header_at bytes hdu start) bytes b (Fault (BadKeyword hdu j))
stop_bad bytes hdu start k j a b card reached next most read bad =
    let place : start + 80 * k + 80 ≡ start + 80 * j = omega arith in
    let there = there_is bytes start j (omega (arith, read.takes.within)) in
    let stop = stops_is bytes hdu start j false true _ there bad refl in (
      start + 80 * j,
      header_begun bytes hdu start j reached.begun (last_read_is bytes hdu start k j next most reached.passed stop) ∙ read_to_bad bytes hdu start
          j most there bad,
      subst (Takes bytes b) place read.takes,
    )

pub stop_missing : (bytes : List ℕ) (hdu start k : ℕ) (a b : Option (List ℕ)) (stop : HduStop) → CardsPassed bytes hdu start a k → k < 36000
    → CardMissing bytes (start + 80 * k) b stop → Stopped (header_at bytes hdu start) bytes b stop
stop_missing bytes hdu start k a b (Fault TruncatedHeader) reached most cut =
    let missing = missing_is bytes start (k + 1) (omega (arith, cut.0)) in
    let stop = stops_is bytes hdu start (k + 1) true _ _ missing refl refl in (
      length bytes,
      header_begun bytes hdu start (k + 1) reached.begun
          (last_read_is bytes hdu start k (k + 1) refl (omega arith) reached.passed stop) ∙ read_to_missing bytes hdu start (k + 1) (omega arith) missing,
      cut.1,
    )
stop_missing bytes hdu start k a b ReadFault reached most lost =
    lost_within bytes b (start + 80 * k + 80) _ lost (omega (arith, header_takes bytes hdu start k reached.begun reached.passed most))
stop_missing bytes hdu start k a b (Fault NotFits) reached most h = absurd h
stop_missing bytes hdu start k a b (Fault (BadKeyword i j)) reached most h = absurd h
stop_missing bytes hdu start k a b (Fault HeaderTooLong) reached most h = absurd h
stop_missing bytes hdu start k a b (Fault Groups) reached most h = absurd h
stop_missing bytes hdu start k a b (Fault DataTooLong) reached most h = absurd h
stop_missing bytes hdu start k a b (Fault NoSuchHdu) reached most h = absurd h
stop_missing bytes hdu start k a b (Fault TruncatedSkip) reached most h = absurd h

pub stop_long : (bytes : List ℕ) (hdu start k : ℕ) (a : Option (List ℕ)) → CardsPassed bytes hdu start a k → k ≡ 36000
    → Stopped (header_at bytes hdu start) bytes a (Fault HeaderTooLong)
stop_long bytes hdu start k a reached all = (
  start + 80 * 36000,
  header_begun bytes hdu start (k + 1) reached.begun (last_read_past bytes hdu start k all reached.passed) ∙ read_to_long bytes hdu start
      (k + 1) (omega arith),
  subst (λ n. Takes bytes a (start + 80 * n)) all reached.takes,
)

-- END was read
pub end_whole : (bytes : List ℕ) (hdu start k j : ℕ) (a b : Option (List ℕ)) (card : List ℕ) → CardsPassed bytes hdu start a k → j ≡ k + 1 → j ≤ 36000
    → CardRead bytes (start + 80 * k) b card
    → is_bad (eqb hdu 0) (card_at bytes start) j ≡ false → ends_header (card_at bytes start) j ≡ true
    → header_at bytes hdu start ≡ whole_header bytes hdu start j
end_whole bytes hdu start k j a b card reached next most read good last =
    let there = there_is bytes start j (omega (arith, read.takes.within)) in
    let stop = stops_is bytes hdu start j false false true there good last in
    header_begun bytes hdu start j reached.begun (last_read_is bytes hdu start k j next most reached.passed stop)
    ∙ read_to_end bytes hdu start j most there good
