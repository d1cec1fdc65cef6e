-- Each stage in the reading of a header.
use Rattle.std.proofs.Common.{◌≡◌, ℕ, zero, suc, ◌+◌, ◌-◌, ◌*◌, ◌<◌, ◌≤◌, ◌⊎◌, inl, inr, Bool, true, false, not, ◌&&◌, ◌||◌, cond, min, nat_le, List, [], ◌∷◌}
use Rattle.std.proofs.Common.{◌++◌, length, take, drop, Option, Some, None, codes, is_some, refl, sym, ◌∙◌, subst, ap, arith, eqb, lit<, lit≤, ℤ, length-drop}
use Rattle.std.specs.Prelude.{unwrap_or, IsTrue}
use Rattle.std.proofs.lemmas.Bool.Decides.{nat_tests}
use Rattle.std.proofs.lemmas.Bool.{cases_lt}
use Rattle.dev_io.specs.Streams.{Takes, TakesAtMost, Fills}
use Rattle.dev_io.specs.Laws.{Takes-after}
use Rattle.fits_hdu.specs.declared.fault.HduFault.{HduFault}
use Rattle.fits_hdu.specs.declared.fault.HduFault.TheVariants.{NotFits, TruncatedHeader, BadKeyword, NoSuchHdu}
use Rattle.fits_hdu.specs.declared.fault.HduStop.TheVariants.{Fault}
use Rattle.fits_hdu.specs.declared.axes.Axes.{Axes}
use Rattle.fits_hdu.specs.declared.others.Others.{Others}
use Rattle.fits_hdu.specs.Cards.{is_end, is_first, is_image, bitpix_of, naxis_of, axis_of, natural, has_keyword, at_most}
use Rattle.fits_hdu.specs.Headers.{refused, header_at, hdu_begins, is_beginning, is_bad, is_bad_count, ends_header, card_at, axis_count, others_before}
use Rattle.fits_hdu.specs.Kept.{kept_axes, kept_others}
use Rattle.fits_hdu.specs.Finding.{taken_by}
use Rattle.fits_hdu.specs.Streams.{Stopped}
use Rattle.fits_hdu.specs.Reading.{CardsPassed, CardRead, FirstRead, BitpixRead, NaxisRead, AxisRead, AxesRead, EndRead, OtherLeft}
use Rattle.fits_hdu.proofs.Filled.{card_read, filled_cut, card_lost, beginning_is}
use Rattle.fits_hdu.proofs.Places.{bad_first, bad_second, bad_third, bad_axis, bad_other, last_other, not_last, axis_natural, axes_to, axes_more, axes_all}
use Rattle.fits_hdu.proofs.Places.{length-axes_to, others_none, others_next}
use Rattle.fits_hdu.proofs.Reaching.{header_other, header_takes_first, lost_within, card_is, reach_next, stop_bad, stop_missing, end_whole}

-- The first card.

begun_is : (bytes : List ℕ) (hdu start : ℕ) (b : Option (List ℕ)) (n : ℕ) (buf : List ℕ) (is : Bool) → length buf ≡ 80 → Fills (drop start bytes) b n buf
    → is ≡ is_beginning (eqb hdu 0) (take n buf) → hdu_begins hdu bytes start ≡ is
begun_is bytes hdu start b n buf is long fills test = sym (test ∙ beginning_is (eqb hdu 0) (drop start bytes) b n buf long fills)

pub first_lost : (bytes : List ℕ) (hdu start : ℕ) (a b : Option (List ℕ)) (buf : List ℕ) → Takes bytes a start → length buf ≡ 80
    → TakesAtMost (drop start bytes) b (length buf) → TakesAtMost bytes b (taken_by (header_at bytes hdu start))
first_lost bytes hdu start a b buf takes long lost =
    lost_within bytes b (start + 80) _ (card_lost bytes start a b buf takes long lost) (header_takes_first bytes hdu start)

pub first_other : (bytes : List ℕ) (hdu start : ℕ) (a b : Option (List ℕ)) (n : ℕ) (buf : List ℕ) (is : Bool) (fault : HduFault) → Takes bytes a start
    → length buf ≡ 80 → Fills (drop start bytes) b n buf
    → is ≡ is_beginning (eqb hdu 0) (take n buf) → is ≡ false → cond (eqb hdu 0) NotFits NoSuchHdu ≡ fault → (x : ℕ)
    × (header_at bytes hdu start ≡ refused fault x) × Takes bytes b x
first_other bytes hdu start a b n buf is fault takes long fills test other which =
    let begun : hdu_begins hdu bytes start ≡ false = begun_is bytes hdu start b n buf is long fills test ∙ other in
    let count : start + n ≡ min (start + 80) (length bytes) = omega (arith, fills.count, length-drop start bytes, long, takes.within) in (
      min (start + 80) (length bytes),
      header_other bytes hdu start begun ∙ ap (λ f. refused f (min (start + 80) (length bytes))) which,
      subst (Takes bytes b)
          count (Takes-after bytes a b start n takes fills.takes),
    )

pub later_hdu : (hdu : ℕ) → (hdu ≡ 0 → ⊥) → cond (eqb hdu 0) NotFits NoSuchHdu ≡ NoSuchHdu
later_hdu hdu other = let is : eqb hdu 0 ≡ false = grind (arith, nat_tests) in rw is refl

pub not_primary : (hdu : ℕ) → (hdu ≡ 0 → ⊥) → 0 < hdu
not_primary zero other = absurd (other refl)
not_primary (suc n) other = omega arith

pub first_not : (a : Option (List ℕ)) (hdu : ℕ) (b : Option (List ℕ)) (n : ℕ) (buf : List ℕ) (is ended : Bool) → length buf ≡ 80
    → ((xs : List ℕ) → a ≡ Some xs → Fills xs b n buf) → (n < length buf → IsTrue ended)
    → is ≡ is_beginning (eqb hdu 0) (take n buf) → is ≡ false → IsTrue ended ⊎ OtherLeft a hdu
first_not a hdu b n buf is ended long moved short test other = elim (cases_lt n 80) [
  | inl less ↦ inl (short (omega arith))
  | inr more ↦ inr (λ bytes start takes. record {
    there = let fills : Fills (drop start bytes) b n buf = moved _ takes.rest in omega (arith, fills.count, length-drop start bytes, takes.within);
    other = begun_is bytes hdu start b n buf is long (moved _ takes.rest) test ∙ other;
  })
]

reached_none : (bytes : List ℕ) (hdu start : ℕ) (a : Option (List ℕ)) → hdu_begins hdu bytes start ≡ true → Takes bytes a start
    → CardsPassed bytes hdu start a 0
reached_none bytes hdu start a begun takes = record {
  begun = begun;
  passed = λ j l h. absurd (omega arith);
  takes = let same : start ≡ start + 0 = omega arith in subst (Takes bytes a) same takes;
}

pub first_cut : (bytes : List ℕ) (hdu start : ℕ) (a b : Option (List ℕ)) (n : ℕ) (buf : List ℕ) (is : Bool) → Takes bytes a start → length buf ≡ 80
    → Fills (drop start bytes) b n buf
    → is ≡ is_beginning (eqb hdu 0) (take n buf) → is ≡ true → n < 80 → Stopped (header_at bytes hdu start) bytes b (Fault TruncatedHeader)
first_cut bytes hdu start a b n buf is takes long fills test named short =
    let begun : hdu_begins hdu bytes start ≡ true = begun_is bytes hdu start b n buf is long fills test ∙ named in
    let cut = filled_cut bytes start a b n buf takes long fills short in
    stop_missing bytes hdu start 0 a b (Fault TruncatedHeader) (reached_none bytes hdu start a begun takes) (lit< tt) (omega (arith, cut.0), cut.1)

first_card : (bytes : List ℕ) (hdu start : ℕ) (a b : Option (List ℕ)) (n : ℕ) (buf : List ℕ) → Takes bytes a start → length buf ≡ 80
    → Fills (drop start bytes) b n buf → 80 ≤ n → CardRead bytes (start + 80 * 0) b buf
first_card bytes hdu start a b n buf takes long fills full =
    let same : start ≡ start + 80 * 0 = omega arith in
    subst (λ at. CardRead bytes at b buf) same (card_read bytes start a b n buf takes long fills (omega (arith, fills.count)))

pub first_bad : (bytes : List ℕ) (hdu start : ℕ) (a b : Option (List ℕ)) (n : ℕ) (buf : List ℕ) (is first : Bool) → Takes bytes a start → length buf ≡ 80
    → Fills (drop start bytes) b n buf
    → is ≡ is_beginning (eqb hdu 0) (take n buf) → is ≡ true → 80 ≤ n → first ≡ is_first (eqb hdu 0) buf → first ≡ false
    → Stopped (header_at bytes hdu start) bytes b (Fault (BadKeyword hdu 1))
first_bad bytes hdu start a b n buf is first takes long fills test named full judged wrong =
    let begun : hdu_begins hdu bytes start ≡ true = begun_is bytes hdu start b n buf is long fills test ∙ named in
    let reached = reached_none bytes hdu start a begun takes in
    let read = first_card bytes hdu start a b n buf takes long fills full in
    let card : card_at bytes start 1 ≡ buf = card_is bytes hdu start 0 1 a b buf reached refl read in
    let bad : is_bad (eqb hdu 0) (card_at bytes start) 1 ≡ true =
    bad_first (eqb hdu 0) (card_at bytes start) ∙ ap not (ap (is_first (eqb hdu 0)) card ∙ sym judged ∙ wrong) in
    stop_bad bytes hdu start 0 1 a b buf reached refl (lit≤ tt) read bad

pub first_read : (bytes : List ℕ) (hdu start : ℕ) (a b : Option (List ℕ)) (n : ℕ) (buf : List ℕ) (is first image : Bool) → Takes bytes a start → length buf ≡ 80
    → Fills (drop start bytes) b n buf
    → is ≡ is_beginning (eqb hdu 0) (take n buf) → is ≡ true → 80 ≤ n → first ≡ is_first (eqb hdu 0) buf → first ≡ true → image ≡ is_image buf
    → FirstRead bytes hdu start b image
first_read bytes hdu start a b n buf is first image takes long fills test named full judged right says =
    let begun : hdu_begins hdu bytes start ≡ true = begun_is bytes hdu start b n buf is long fills test ∙ named in
    let reached = reached_none bytes hdu start a begun takes in
    let read = first_card bytes hdu start a b n buf takes long fills full in
    let card : card_at bytes start 1 ≡ buf = card_is bytes hdu start 0 1 a b buf reached refl read in
    let good : is_bad (eqb hdu 0) (card_at bytes start) 1 ≡ false =
    bad_first (eqb hdu 0) (card_at bytes start) ∙ ap not (ap (is_first (eqb hdu 0)) card ∙ sym judged ∙ right) in
    record {
      reached = reach_next bytes hdu start 0 1 a b buf reached refl read good (not_last (card_at bytes start) 1 (omega arith));
      image_is = says ∙ ap is_image (sym card);
    }

-- BITPIX

bitpix_says : (bytes : List ℕ) (hdu start : ℕ) (a b : Option (List ℕ)) (card : List ℕ) (o : Option ℤ) → CardsPassed bytes hdu start a 1
    → CardRead bytes (start + 80 * 1) b card → o ≡ bitpix_of card → bitpix_of (card_at bytes start 2) ≡ o
bitpix_says bytes hdu start a b card o reached read says = ap bitpix_of (card_is bytes hdu start 1 2 a b card reached refl read) ∙ sym says

pub bitpix_bad : (bytes : List ℕ) (hdu start : ℕ) (a b : Option (List ℕ)) (card : List ℕ) (o : Option ℤ) → CardsPassed bytes hdu start a 1
    → CardRead bytes (start + 80 * 1) b card → o ≡ bitpix_of card → o ≡ None → Stopped (header_at bytes hdu start) bytes b (Fault (BadKeyword hdu 2))
bitpix_bad bytes hdu start a b card o reached read says none =
    let bad : is_bad (eqb hdu 0) (card_at bytes start) 2 ≡ true =
    bad_second (eqb hdu 0) (card_at bytes start) ∙ ap (λ o. not (is_some o)) (bitpix_says bytes hdu start a b card o reached read says ∙ none) in
    stop_bad bytes hdu start 1 2 a b card reached refl (lit≤ tt) read bad

pub bitpix_read : (bytes : List ℕ) (hdu start : ℕ) (a b : Option (List ℕ)) (card : List ℕ) (o : Option ℤ) (n : ℤ) → CardsPassed bytes hdu start a 1
    → CardRead bytes (start + 80 * 1) b card → o ≡ bitpix_of card → o ≡ Some n → BitpixRead bytes hdu start b n
bitpix_read bytes hdu start a b card o n reached read says some =
    let is : bitpix_of (card_at bytes start 2) ≡ Some n = bitpix_says bytes hdu start a b card o reached read says ∙ some in
    let good : is_bad (eqb hdu 0) (card_at bytes start) 2 ≡ false = bad_second (eqb hdu 0) (card_at bytes start) ∙ ap (λ o. not (is_some o)) is in
    record { reached = reach_next bytes hdu start 1 2 a b card reached refl read good (not_last (card_at bytes start) 2 (omega arith)); bitpix_is = is }

-- NAXIS

naxis_says : (bytes : List ℕ) (hdu start : ℕ) (a b : Option (List ℕ)) (card : List ℕ) (o : Option ℕ) → CardsPassed bytes hdu start a 2
    → CardRead bytes (start + 80 * 2) b card → o ≡ naxis_of card → naxis_of (card_at bytes start 3) ≡ o
naxis_says bytes hdu start a b card o reached read says = ap naxis_of (card_is bytes hdu start 2 3 a b card reached refl read) ∙ sym says

pub naxis_bad : (bytes : List ℕ) (hdu start : ℕ) (a b : Option (List ℕ)) (card : List ℕ) (o : Option ℕ) → CardsPassed bytes hdu start a 2
    → CardRead bytes (start + 80 * 2) b card → o ≡ naxis_of card → o ≡ None → Stopped (header_at bytes hdu start) bytes b (Fault (BadKeyword hdu 3))
naxis_bad bytes hdu start a b card o reached read says none =
    let bad : is_bad (eqb hdu 0) (card_at bytes start) 3 ≡ true =
    bad_third (eqb hdu 0) (card_at bytes start) ∙ ap (λ o. not (is_some o)) (naxis_says bytes hdu start a b card o reached read says ∙ none) in
    stop_bad bytes hdu start 2 3 a b card reached refl (lit≤ tt) read bad

pub naxis_few : (card : List ℕ) (n : ℕ) → naxis_of card ≡ Some n → n ≤ 999
unfolding naxis_of
naxis_few card n is = by (has_keyword _ card) (natural card) is
  where
    within : (m : ℕ) (b : Bool) → nat_le m 999 ≡ b → cond b (Some m) None ≡ Some n → n ≤ 999
    within m true small e = let same : m ≡ n = cc in let low : m ≤ 999 = grind (arith, nat_tests) in omega arith
    within m false small e = absurd (cc)

    by : (b : Bool) (o : Option ℕ) → cond b (at_most 999 o) None ≡ Some n → n ≤ 999
    by false o e = absurd (cc)
    by true None e = absurd (cc)
    by true (Some m) e = within m (nat_le m 999) refl e

count_is : (card : ℕ → List ℕ) (n : ℕ) → naxis_of (card 3) ≡ Some n → axis_count card ≡ n
unfolding axis_count
count_is card n is = ap (λ o. unwrap_or o 0) is

pub naxis_read : (bytes : List ℕ) (hdu start : ℕ) (a b : Option (List ℕ)) (card : List ℕ) (o : Option ℕ) (n : ℕ) → CardsPassed bytes hdu start a 2
    → CardRead bytes (start + 80 * 2) b card → o ≡ naxis_of card → o ≡ Some n → NaxisRead bytes hdu start b n
naxis_read bytes hdu start a b card o n reached read says some =
    let is : naxis_of (card_at bytes start 3) ≡ Some n = naxis_says bytes hdu start a b card o reached read says ∙ some in
    let good : is_bad (eqb hdu 0) (card_at bytes start) 3 ≡ false = bad_third (eqb hdu 0) (card_at bytes start) ∙ ap (λ o. not (is_some o)) is in
    record {
      reached = reach_next bytes hdu start 2 3 a b card reached refl read good (not_last (card_at bytes start) 3 (omega arith));
      naxis_is = count_is (card_at bytes start) n is;
      few = naxis_few _ n is;
    }

-- The axes.

axis_says : (bytes : List ℕ) (hdu start k : ℕ) (a b : Option (List ℕ)) (card : List ℕ) (o : Option ℕ) → CardsPassed bytes hdu start a (2 + k)
    → CardRead bytes (start + 80 * (2 + k)) b card → o ≡ axis_of k card → axis_of k (card_at bytes start (3 + k)) ≡ o
axis_says bytes hdu start k a b card o reached read says =
    ap (axis_of k) (card_is bytes hdu start (2 + k) (3 + k) a b card reached (omega arith) read) ∙ sym says

pub axis_bad : (bytes : List ℕ) (hdu start k : ℕ) (a b : Option (List ℕ)) (card : List ℕ) (o : Option ℕ) → 1 ≤ k → k ≤ 999
    → CardsPassed bytes hdu start a (2 + k) → k ≤ axis_count (card_at bytes start) → CardRead bytes (start + 80 * (2 + k)) b card
    → o ≡ axis_of k card → o ≡ None → Stopped (header_at bytes hdu start) bytes b (Fault (BadKeyword hdu (3 + k)))
axis_bad bytes hdu start k a b card o first few reached within read says none =
    let bad : is_bad (eqb hdu 0) (card_at bytes start) (3 + k) ≡ true =
    bad_axis (eqb hdu 0) (card_at bytes start) k first within ∙ ap (λ o. not (is_some o)) (axis_says bytes hdu start k a b card o reached read says ∙ none) in
    stop_bad bytes hdu start (2 + k) (3 + k) a b card reached (omega arith) (omega arith) read bad

pub axis_read : (bytes : List ℕ) (hdu start k : ℕ) (a b : Option (List ℕ)) (card : List ℕ) (o : Option ℕ) (n : ℕ) → 1 ≤ k → k ≤ 999
    → CardsPassed bytes hdu start a (2 + k) → k ≤ axis_count (card_at bytes start) → CardRead bytes (start + 80 * (2 + k)) b card
    → o ≡ axis_of k card → o ≡ Some n → AxisRead bytes hdu start b k n
axis_read bytes hdu start k a b card o n first few reached within read says some =
    let is : axis_of k (card_at bytes start (3 + k)) ≡ Some n = axis_says bytes hdu start k a b card o reached read says ∙ some in
    let good : is_bad (eqb hdu 0) (card_at bytes start) (3 + k) ≡ false =
    bad_axis (eqb hdu 0) (card_at bytes start) k first within ∙ ap (λ o. not (is_some o)) is in
    record {
      reached = reach_next bytes hdu start (2 + k) (3 + k) a b card reached (omega arith) read good (not_last (card_at bytes start) (3 + k) (omega arith));
      size_is = axis_natural k _ n is;
    }

-- the first k axes were read
pub record AxesTo (bytes : List ℕ) (hdu start : ℕ) (left : Option (List ℕ)) (k : ℕ) (axes : Axes) : Type 0 where
  pub reached : CardsPassed bytes hdu start left (3 + k)
  pub axes_are : axes ≡ kept_axes (axes_to (card_at bytes start) k)

-- The cards after them.

-- the cards up to the one before card j were read, and none of them is END
pub record OthersTo (bytes : List ℕ) (hdu start : ℕ) (left : Option (List ℕ)) (j : ℕ) (others : Others) : Type 0 where
  pub reached : CardsPassed bytes hdu start left (j - 1)
  pub others_are : others ≡ kept_others (others_before (card_at bytes start) j)

pub axes_step : (bytes : List ℕ) (hdu start k j : ℕ) (a b : Option (List ℕ)) (axes next : Axes) (n : ℕ) → AxesTo bytes hdu start a k axes → j ≡ k + 1
    → AxisRead bytes hdu start b j n
    → ((sizes : List ℕ) → length sizes ≡ k → axes ≡ kept_axes sizes → next ≡ kept_axes (sizes ++ n ∷ [])) → AxesTo bytes hdu start b j next
axes_step bytes hdu start k j a b axes next n before same read kept = record {
  reached = read.reached;
  axes_are = kept (axes_to (card_at bytes start) k) (length-axes_to (card_at bytes start) k) before.axes_are
      ∙ ap kept_axes (sym (axes_more (card_at bytes start) k j n same read.size_is));
}

pub axes_next : (bytes : List ℕ) (hdu start k j : ℕ) (a : Option (List ℕ)) (axes : Axes) → AxesTo bytes hdu start a k axes → j ≡ k + 1
    → CardsPassed bytes hdu start a (2 + j)
axes_next bytes hdu start k j a axes before same = let place : 3 + k ≡ 2 + j = omega arith in subst (CardsPassed bytes hdu start a) place before.reached

pub axes_done : (bytes : List ℕ) (hdu start k : ℕ) (a : Option (List ℕ)) (axes : Axes) → AxesTo bytes hdu start a k axes → axis_count (card_at bytes start) ≡ k
    → AxesRead bytes hdu start a k axes
axes_done bytes hdu start k a axes all count = record { reached = all.reached; axes_are = all.axes_are ∙ ap kept_axes (axes_all (card_at bytes start) k count) }

pub others_first : (bytes : List ℕ) (hdu start naxis j : ℕ) (a : Option (List ℕ)) (others : Others) → CardsPassed bytes hdu start a (3 + naxis)
    → axis_count (card_at bytes start) ≡ naxis → j ≡ 4 + naxis → others ≡ kept_others [] → OthersTo bytes hdu start a j others
others_first bytes hdu start naxis j a others reached count place none = record {
  reached = let same : 3 + naxis ≡ j - 1 = omega arith in subst (CardsPassed bytes hdu start a) same reached;
  others_are = none ∙ ap kept_others (sym (others_none (card_at bytes start) j (omega arith)));
}

other_bad : (bytes : List ℕ) (hdu start naxis j : ℕ) (a b : Option (List ℕ)) (card : List ℕ) (others : Others) (bad : Bool)
    → OthersTo bytes hdu start a j others → axis_count (card_at bytes start) ≡ naxis → 4 + naxis ≤ j
    → CardRead bytes (start + 80 * (j - 1)) b card
    → ((cards : List (List ℕ)) → others ≡ kept_others cards → bad
    ≡ (not (eqb hdu 0) && (is_bad_count (codes "PCOUNT  ") cards card || is_bad_count (codes "GCOUNT  ") cards card)))
    → is_bad (eqb hdu 0) (card_at bytes start) j ≡ bad
other_bad bytes hdu start naxis j a b card others bad to count place read judged =
    let here : card_at bytes start j ≡ card = card_is bytes hdu start (j - 1) j a b card to.reached (omega arith) read in
    bad_other (eqb hdu 0) (card_at bytes start) j (omega arith)
    ∙ ap (λ l. not (eqb hdu 0) && (is_bad_count (codes "PCOUNT  ") (others_before (card_at bytes start) j) l || is_bad_count (codes "GCOUNT  ")
    (others_before (card_at bytes start) j) l)) here
    ∙ sym (judged (others_before (card_at bytes start) j) to.others_are)

other_end : (bytes : List ℕ) (hdu start naxis j : ℕ) (a b : Option (List ℕ)) (card : List ℕ) (others : Others) (end : Bool)
    → OthersTo bytes hdu start a j others → axis_count (card_at bytes start) ≡ naxis → 4 + naxis ≤ j
    → CardRead bytes (start + 80 * (j - 1)) b card → end ≡ is_end card → ends_header (card_at bytes start) j ≡ end
other_end bytes hdu start naxis j a b card others end to count place read says =
    let here : card_at bytes start j ≡ card = card_is bytes hdu start (j - 1) j a b card to.reached (omega arith) read in
    last_other (card_at bytes start) j (omega arith) ∙ ap is_end here ∙ sym says

pub others_refused : (bytes : List ℕ) (hdu start naxis j : ℕ) (a b : Option (List ℕ)) (card : List ℕ) (others : Others) (bad : Bool)
    → OthersTo bytes hdu start a j others → axis_count (card_at bytes start) ≡ naxis → 4 + naxis ≤ j → j ≤ 36000
    → CardRead bytes (start + 80 * (j - 1)) b card
    → ((cards : List (List ℕ)) → others ≡ kept_others cards → bad
    ≡ (not (eqb hdu 0) && (is_bad_count (codes "PCOUNT  ") cards card || is_bad_count (codes "GCOUNT  ") cards card)))
    → bad ≡ true → Stopped (header_at bytes hdu start) bytes b (Fault (BadKeyword hdu j))
others_refused bytes hdu start naxis j a b card others bad to count place most read judged wrong =
    stop_bad bytes hdu start (j - 1) j a b card to.reached (omega arith) most read
    (other_bad bytes hdu start naxis j a b card others bad to count place read judged ∙ wrong)

pub others_ended : (bytes : List ℕ) (hdu start naxis j : ℕ) (a b : Option (List ℕ)) (card : List ℕ) (others : Others) (bad end : Bool)
    → OthersTo bytes hdu start a j others → axis_count (card_at bytes start) ≡ naxis → 4 + naxis ≤ j → j ≤ 36000
    → CardRead bytes (start + 80 * (j - 1)) b card
    → ((cards : List (List ℕ)) → others ≡ kept_others cards → bad
    ≡ (not (eqb hdu 0) && (is_bad_count (codes "PCOUNT  ") cards card || is_bad_count (codes "GCOUNT  ") cards card)))
    → bad ≡ false → end ≡ is_end card → end ≡ true → EndRead bytes hdu start b (record { number = j; others = others })
others_ended bytes hdu start naxis j a b card others bad end to count place most read judged right says is = record {
  whole = end_whole bytes hdu start (j - 1) j a b card to.reached (omega arith) most read
      (other_bad bytes hdu start naxis j a b card others bad to count place read judged ∙ right)
      (other_end bytes hdu start naxis j a b card others end to count place read says ∙ is);
  others_are = to.others_are;
  takes = let same : start + 80 * (j - 1) + 80 ≡ start + 80 * j = omega arith in subst (Takes bytes b) same read.takes;
  most = most;
}

pub others_step : (bytes : List ℕ) (hdu start naxis j i : ℕ) (a b : Option (List ℕ)) (card : List ℕ) (others next : Others) (bad end : Bool)
    → OthersTo bytes hdu start a j others → axis_count (card_at bytes start) ≡ naxis → 4 + naxis ≤ j → i ≡ j + 1
    → CardRead bytes (start + 80 * (j - 1)) b card
    → ((cards : List (List ℕ)) → others ≡ kept_others cards → bad
    ≡ (not (eqb hdu 0) && (is_bad_count (codes "PCOUNT  ") cards card || is_bad_count (codes "GCOUNT  ") cards card)))
    → bad ≡ false → end ≡ is_end card → end ≡ false → ((cards : List (List ℕ)) → others ≡ kept_others cards → next ≡ kept_others (cards ++ card ∷ []))
    → OthersTo bytes hdu start b i next
others_step bytes hdu start naxis j i a b card others next bad end to count place same read judged right says other kept =
    let here : card_at bytes start j ≡ card = card_is bytes hdu start (j - 1) j a b card to.reached (omega arith) read in
    let reached : CardsPassed bytes hdu start b j = reach_next bytes hdu start (j - 1) j a b card to.reached (omega arith) read
    (other_bad bytes hdu start naxis j a b card others bad to count place read judged ∙ right)
    (other_end bytes hdu start naxis j a b card others end to count place read says ∙ other) in
    record {
      reached = let last : j ≡ i - 1 = omega arith in subst (CardsPassed bytes hdu start b) last reached;
      others_are = kept (others_before (card_at bytes start) j) to.others_are
          ∙ ap (λ l. kept_others (others_before (card_at bytes start) j ++ l ∷ [])) (sym here)
          ∙ ap kept_others (sym (others_next (card_at bytes start) j (omega arith)))
          ∙ ap (λ n. kept_others (others_before (card_at bytes start) n)) (sym same);
    }
