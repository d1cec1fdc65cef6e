-- The header of an extension with two axes: five mandatory cards, PCOUNT, GCOUNT, others, and END.
use Rattle.std.proofs.Common.{◌≡◌, ◌∙◌, ℕ, zero, suc, ◌+◌, ◌-◌, ◌*◌, ◌^◌, ◌<◌, ◌≤◌, ◌&&◌, Bool, true, false, cond, List, [], ◌∷◌, ◌++◌}
use Rattle.std.proofs.Common.{get_or, length, take, map, refl, sym, ap, ap₂, subst, arith, length-append, ℤ, pos, Some, None, Ok, nat_lt, inl}
use Rattle.std.proofs.Common.{inr}
use Rattle.std.specs.Prelude.{codes, unwrap_or, is_none, is_some}
use Rattle.std.specs.List.{AllByRecursion}
use Rattle.std.proofs.lemmas.Bool.{cases_lt}
use Rattle.std.proofs.lemmas.Bool.Decides.{nat_tests}
use Rattle.std.proofs.Math.Seq.{get_or-append_seam}
use Rattle.fits_card.specs.declared.number.Whole.TheVariants.{Is}
use Rattle.fits_card.specs.Written.{written_end}
use Rattle.fits_hdu.specs.declared.answer.Hdu.{Hdu}
use Rattle.fits_hdu.specs.declared.answer.Kind.TheVariants.{Image, Other}
use Rattle.fits_hdu.specs.Cards.{has_keyword, is_end, natural, is_image, is_first, bitpix_of, naxis_of, axis_of, is_mandatory, is_valued}
use Rattle.fits_hdu.specs.Sizes.{number_bytes, data_size}
use Rattle.fits_hdu.specs.Headers.{cards_from, axis_count, natural_or_zero, axes_of, others_before, counting, is_bad_count, is_bad, ends_header}
use Rattle.fits_hdu.specs.Headers.{described, is_groups, judged, header_of, most_data}
use Rattle.survey_laws.proofs.Cards.{nth, Full, cards_behind}
use Rattle.survey_laws.proofs.Headers.{IsHeader, bad_is, not_below}
use Rattle.survey_laws.proofs.WrittenCards.{Quiet, full_end, ends_at, end_keyword, has_not}

-- what is asked of the cards, and what they say
pub record IsExtension (x b n w h p g : List ℕ) (tail : List (List ℕ)) (image : Bool) (bitpix : ℤ) (width height size : ℕ) : Type 0 where
  pub starts : take 8 x ≡ codes "XTENSION"
  pub extension : is_first false x ≡ true
  pub image_is : is_image x ≡ image
  pub depth : bitpix_of b ≡ Some bitpix
  pub naxis : naxis_of n ≡ Some 2
  pub first_axis : axis_of 1 w ≡ Some width
  pub first_length : natural w ≡ Some width
  pub second_axis : axis_of 2 h ≡ Some height
  pub second_length : natural h ≡ Some height
  pub full : AllByRecursion Full (x ∷ b ∷ n ∷ w ∷ h ∷ p ∷ g ∷ [])
  pub pcount : is_valued (codes "PCOUNT  ") p ≡ true
  pub no_heap : natural p ≡ Some 0
  pub not_gcount : has_keyword (codes "GCOUNT  ") p ≡ false
  pub gcount : is_valued (codes "GCOUNT  ") g ≡ true
  pub one_group : natural g ≡ Some 1
  pub not_pcount : has_keyword (codes "PCOUNT  ") g ≡ false
  pub going : AllByRecursion (λ c. is_end c ≡ false) (p ∷ g ∷ [])
  pub bscale : AllByRecursion (λ c. has_keyword (codes "BSCALE  ") c ≡ false) (p ∷ g ∷ [])
  pub bzero : AllByRecursion (λ c. has_keyword (codes "BZERO   ") c ≡ false) (p ∷ g ∷ [])
  pub blank : AllByRecursion (λ c. has_keyword (codes "BLANK   ") c ≡ false) (p ∷ g ∷ [])
  pub others : AllByRecursion Quiet tail
  pub few : length tail ≤ 30000
  pub size_is : number_bytes bitpix * (1 * (0 + width * (height * 1))) ≡ size
  pub small : size ≤ 2 ^ 40

-- what the header says
abbrev pub hdu_said : Bool → ℤ → (width height size : ℕ) → Hdu
hdu_said image bitpix width height size = record {
  kind = cond (image && true) Image Other;
  bitpix = bitpix;
  naxis = 2;
  width = width;
  height = height;
  flat = true;
  data_bytes = size;
  bscale = Is (pos 1);
  bzero = Is (pos 0);
  blank = None;
}

-- ---- lists of cards

all_at : (P : List ℕ → Type 0) (xs : List (List ℕ)) (i : ℕ) → AllByRecursion P xs → i < length xs → P (get_or xs i [])
all_at P [] i all h = absurd (omega arith)
all_at P (x ∷ xs) zero all h = all.0
all_at P (x ∷ xs) (suc i) all h = all_at P xs i all.1 (omega arith)

all_both : (P : List ℕ → Type 0) (xs ys : List (List ℕ)) → AllByRecursion P xs → AllByRecursion P ys → AllByRecursion P (xs ++ ys)
all_both P [] ys a b = b
all_both P (x ∷ xs) ys a b = (a.0, all_both P xs ys a.1 b)

all_as : (P Q : List ℕ → Type 0) (xs : List (List ℕ)) → ((x : List ℕ) → P x → Q x) → AllByRecursion P xs → AllByRecursion Q xs
all_as P Q [] f all = tt
all_as P Q (x ∷ xs) f all = (f x all.0, all_as P Q xs f all.1)

inner : (xs ys : List (List ℕ)) (k : ℕ) → k < length xs → get_or (xs ++ ys) k [] ≡ get_or xs k []
inner [] ys k h = absurd (omega arith)
inner (x ∷ xs) ys zero h = refl
inner (x ∷ xs) ys (suc k) h = inner xs ys k (omega arith)

none_valued : (name : List ℕ) (cards : List (List ℕ)) → AllByRecursion (λ c. has_keyword name c ≡ false) cards → counting name cards ≡ None
unfolding counting is_valued
none_valued name [] all = refl
none_valued name (card ∷ cards) all = rw all.0 (none_valued name cards all.1)

not_valued : (name card : List ℕ) → has_keyword name card ≡ false → is_valued name card ≡ false
unfolding is_valued
not_valued name card is = rw is refl

-- a card behind the mandatory ones that isn't at fault: it isn't the one that is asked for, or it is an integer from 0
abbrev Calm : List ℕ → Type 0
Calm card = (is_valued (codes "PCOUNT  ") card && is_none (natural card) ≡ false) × (is_valued (codes "GCOUNT  ") card && is_none (natural card) ≡ false)

calm_quiet : (card : List ℕ) → has_keyword (codes "PCOUNT  ") card ≡ false → has_keyword (codes "GCOUNT  ") card ≡ false → Calm card
calm_quiet card a b = (rw (not_valued (codes "PCOUNT  ") card a) refl, rw (not_valued (codes "GCOUNT  ") card b) refl)

calm_count : (card : List ℕ) (k : ℕ) → natural card ≡ Some k → Calm card
calm_count card k is = (rw is (never (is_valued (codes "PCOUNT  ") card)), rw is (never (is_valued (codes "GCOUNT  ") card)))
  where
    never : (b : Bool) → b && false ≡ false
    never true = refl
    never false = refl

end_calm : Calm written_end
end_calm = calm_quiet written_end (has_not (codes "PCOUNT  ") (codes "END     ") written_end end_keyword refl)
    (has_not (codes "GCOUNT  ") (codes "END     ") written_end end_keyword refl)

calm_count_bad : (name : List ℕ) (before : List (List ℕ)) (card : List ℕ) → is_valued name card && is_none (natural card) ≡ false
    → is_bad_count name before card ≡ false
unfolding is_bad_count
calm_count_bad name before card calm = by (is_valued name card) (is_none (counting name before)) (is_none (natural card)) calm
  where
    by : (a b c : Bool) → a && c ≡ false → a && (b && c) ≡ false
    by false b c h = refl
    by true false c h = refl
    by true true c h = h

module _ (x b n w h p g : List ℕ) (tail : List (List ℕ)) (image : Bool) (bitpix : ℤ) (width height size : ℕ)
    (is : IsExtension x b n w h p g tail image bitpix width height size) where
  abbrev front : List (List ℕ)
  front = x ∷ b ∷ n ∷ w ∷ h ∷ []

  abbrev body : List (List ℕ)
  body = p ∷ g ∷ tail

  abbrev cards : List (List ℕ)
  cards = front ++ (body ++ written_end ∷ [])

  many : length cards ≡ 6 + length body
  many = omega (arith, length-append body (written_end ∷ []))

  axes : axis_count (nth cards) ≡ 2
  unfolding axis_count
  axes = ap (λ o. unwrap_or o 0) is.naxis

  full : AllByRecursion Full cards
  full = (
    is.full.0,
    (
      is.full.1.0,
      (
        is.full.1.1.0,
        (
          is.full.1.1.1.0,
          (
            is.full.1.1.1.1.0,
            (
              is.full.1.1.1.1.1.0,
              (
                is.full.1.1.1.1.1.1.0,
                all_both Full tail (written_end ∷ []) (all_as Quiet Full tail (λ c q. q.full) is.others) (full_end, tt),
              ),
            ),
          ),
        ),
      ),
    ),
  )

  calm : AllByRecursion Calm (body ++ written_end ∷ [])
  calm = (
    calm_count p 0 is.no_heap,
    (
      calm_count g 1 is.one_group,
      all_both Calm tail (written_end ∷ []) (all_as Quiet Calm tail (λ c q. calm_quiet c q.pcount q.gcount) is.others) (end_calm, tt),
    ),
  )

  going : AllByRecursion (λ c. is_end c ≡ false) body
  going = (is.going.0, (is.going.1.0, all_as Quiet (λ c. is_end c ≡ false) tail (λ c q. q.going) is.others))

  -- card j behind the mandatory ones
  behind : (j : ℕ) → 6 ≤ j → nth cards j ≡ get_or (body ++ written_end ∷ []) (j - 6) []
  behind j low =
      let place : j - 1 ≡ suc (suc (suc (suc (suc (j - 6))))) = omega arith in
      ap (λ i. get_or cards i []) place

  early : (j : ℕ) → j ≤ 5 → is_mandatory false j (nth cards j) ≡ true → is_bad false (nth cards) j ≡ false
  early j h mandatory = bad_is false (nth cards) j ∙ rw (axes, not_below 5 j h, mandatory) refl

  late : (j : ℕ) → 6 ≤ j → j ≤ length cards → is_bad false (nth cards) j ≡ false
  late j low high =
      let here : Calm (nth cards j) =
      subst Calm (sym (behind j low))
      (all_at Calm (body ++ written_end ∷ []) (j - 6) calm (omega (arith, many, high, low, length-append body (written_end ∷ [])))) in
      let more : nat_lt 5 j ≡ true = grind (arith, nat_tests) in
      let others = others_before (nth cards) j in
      bad_is false (nth cards) j
      ∙ rw (axes, more, calm_count_bad (codes "PCOUNT  ") others (nth cards j) here.0, calm_count_bad (codes "GCOUNT  ") others (nth cards j) here.1) refl

  good : (j : ℕ) → 1 ≤ j → j ≤ length cards → is_bad false (nth cards) j ≡ false
  good zero low high = absurd (omega arith)
  good (suc zero) low high = early 1 (omega arith) is.extension
  good (suc (suc zero)) low high = early 2 (omega arith) (ap is_some is.depth)
  good (suc (suc (suc zero))) low high = early 3 (omega arith) (ap is_some is.naxis)
  good (suc (suc (suc (suc zero)))) low high = early 4 (omega arith) (ap is_some is.first_axis)
  good (suc (suc (suc (suc (suc zero))))) low high = early 5 (omega arith) (ap is_some is.second_axis)
  good (suc (suc (suc (suc (suc (suc j)))))) low high = late (suc (suc (suc (suc (suc (suc j)))))) (omega arith) high

  goes_on : (j : ℕ) → 1 ≤ j → j < length cards → ends_header (nth cards) j ≡ false
  unfolding ends_header
  goes_on j low high = elim (cases_lt j 6) [
    | inl first ↦ rw (axes, not_below 5 j (omega (arith, first))) refl
    | inr later ↦
        let short : j - 6 < length body = omega (arith, many, high, later) in
        let here : is_end (nth cards j) ≡ false =
        ap is_end (behind j later ∙ inner body (written_end ∷ []) (j - 6) short) ∙ all_at (λ c. is_end c ≡ false) body (j - 6) going short in
        let more : nat_lt 5 j ≡ true = grind (arith, nat_tests) in
        rw (axes, more, here) refl
  ]

  ends : ends_header (nth cards) (length cards) ≡ true
  unfolding ends_header
  ends =
      let later : 6 ≤ length cards = omega (arith, many) in
      let place : length cards - 6 ≡ length body = omega (arith, many) in
      let last : nth cards (length cards) ≡ written_end =
      behind (length cards) later ∙ ap (λ i. get_or (body ++ written_end ∷ []) i []) place ∙ get_or-append_seam body written_end [] [] in
      let more : nat_lt 5 (length cards) ≡ true = grind (arith, nat_tests) in
      rw (axes, more, ap is_end last ∙ ends_at) refl

  abbrev said_hdu : Hdu
  said_hdu = hdu_said image bitpix width height size

  others_are : others_before (nth cards) (length cards) ≡ body
  unfolding others_before
  others_are =
      let rest : length cards - 6 ≡ length body = omega (arith, many) in
      ap (λ k. cards_from (nth cards) (4 + k) (length cards - (4 + k))) axes
      ∙ ap (cards_from (nth cards) 6) rest ∙ cards_behind front body (written_end ∷ [])

  sides_are : axes_of (nth cards) ≡ width ∷ height ∷ []
  unfolding axes_of
  sides_are =
      ap (λ k. map natural_or_zero (cards_from (nth cards) 4 k)) axes
      ∙ ap₂ (λ a c. a ∷ c ∷ []) (ap (λ o. unwrap_or o 0) is.first_length) (ap (λ o. unwrap_or o 0) is.second_length)

  pcount_is : counting (codes "PCOUNT  ") body ≡ Some p
  unfolding counting
  pcount_is = rw is.pcount refl

  gcount_is : counting (codes "GCOUNT  ") body ≡ Some g
  unfolding counting
  gcount_is = rw (not_valued (codes "GCOUNT  ") p is.not_gcount, is.gcount) refl

  none_of : (name : List ℕ) → AllByRecursion (λ c. has_keyword name c ≡ false) (p ∷ g ∷ []) → ((c : List ℕ) → Quiet c → has_keyword name c ≡ false)
      → counting name body ≡ None
  none_of name two later = none_valued name body (two.0, (two.1.0, all_as Quiet (λ c. has_keyword name c ≡ false) tail later is.others))

  described_is : described false image bitpix (width ∷ height ∷ []) body ≡ said_hdu
  unfolding described data_size
  described_is =
      rw (
        pcount_is,
        gcount_is,
        none_of (codes "BSCALE  ") is.bscale (λ c q. q.bscale),
        none_of (codes "BZERO   ") is.bzero (λ c q. q.bzero),
        none_of (codes "BLANK   ") is.blank (λ c q. q.blank),
        is.no_heap,
        is.one_group,
        is.size_is,
      ) refl

  said : header_of false (nth cards) (length cards) ≡ Ok said_hdu
  unfolding header_of judged is_groups
  said =
      let few : nat_lt most_data size ≡ false = not_below most_data size is.small in
      rw (is.image_is, is.depth, sides_are, others_are, described_is, few) refl

  pub is_header : IsHeader false cards (hdu_said image bitpix width height size)
  is_header = record {
    full = full;
    many = omega (arith, many);
    few = omega (arith, many, is.few);
    starts = is.starts;
    good = good;
    goes_on = goes_on;
    ends = ends;
    within = rw axes (omega (arith, many));
    said = said;
  }
