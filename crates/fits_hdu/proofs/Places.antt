-- Which cards are where: the mandatory ones, the axes and the others.
use Rattle.std.proofs.Common.{◌≡◌, ℕ, zero, suc, ◌+◌, ◌-◌, ◌<◌, ◌≤◌, Bool, true, false, not, ◌&&◌, ◌||◌, cond, nat_lt, List, [], ◌∷◌, ◌++◌, map, length, Some}
use Rattle.std.proofs.Common.{None, codes, is_some, refl, sym, ◌∙◌, ap, arith, eqb}
use Rattle.std.proofs.lemmas.Bool.{le-ltb, lt-ltb}
use Rattle.std.proofs.lemmas.Bool.Decides.{nat_tests}
use Rattle.std.specs.Prelude.{unwrap_or}
use Rattle.fits_hdu.specs.Cards.{is_end, is_first, bitpix_of, naxis_of, axis_of, natural, is_mandatory, has_keyword}
use Rattle.fits_hdu.specs.Headers.{cards_from, axis_count, natural_or_zero, axes_of, others_before, is_bad_count, is_bad, ends_header}

-- a card in a mandatory place
pub bad_mandatory : (primary : Bool) (card : ℕ → List ℕ) (j : ℕ) → j ≤ 3 + axis_count card → is_bad primary card j ≡ not (is_mandatory primary j (card j))
unfolding is_bad
bad_mandatory primary card j h = let is : nat_lt (3 + axis_count card) j ≡ false = le-ltb (3 + axis_count card) j h in rw is refl

pub not_last : (card : ℕ → List ℕ) (j : ℕ) → j ≤ 3 + axis_count card → ends_header card j ≡ false
unfolding ends_header
not_last card j h = let is : nat_lt (3 + axis_count card) j ≡ false = le-ltb (3 + axis_count card) j h in rw is refl

-- a card above the mandatory ones
pub bad_other : (primary : Bool) (card : ℕ → List ℕ) (j : ℕ) → 3 + axis_count card < j
    → is_bad primary card j
    ≡ (not primary && (is_bad_count (codes "PCOUNT  ") (others_before card j) (card j) || is_bad_count (codes "GCOUNT  ") (others_before card j) (card j)))
unfolding is_bad
bad_other primary card j h = let is : nat_lt (3 + axis_count card) j ≡ true = lt-ltb (3 + axis_count card) j h in rw is refl

pub last_other : (card : ℕ → List ℕ) (j : ℕ) → 3 + axis_count card < j → ends_header card j ≡ is_end (card j)
unfolding ends_header
last_other card j h = let is : nat_lt (3 + axis_count card) j ≡ true = lt-ltb (3 + axis_count card) j h in rw is refl

pub bad_first : (primary : Bool) (card : ℕ → List ℕ) → is_bad primary card 1 ≡ not (is_first primary (card 1))
bad_first primary card = bad_mandatory primary card 1 (omega arith)

pub bad_second : (primary : Bool) (card : ℕ → List ℕ) → is_bad primary card 2 ≡ not (is_some (bitpix_of (card 2)))
bad_second primary card = bad_mandatory primary card 2 (omega arith)

pub bad_third : (primary : Bool) (card : ℕ → List ℕ) → is_bad primary card 3 ≡ not (is_some (naxis_of (card 3)))
bad_third primary card = bad_mandatory primary card 3 (omega arith)

axis_place : (primary : Bool) (k j : ℕ) (card : List ℕ) → 1 ≤ k → j ≡ 3 + k → is_mandatory primary j card ≡ is_some (axis_of k card)
axis_place primary k j card h is =
    let one : eqb j 1 ≡ false = grind (arith, nat_tests) in
    let two : eqb j 2 ≡ false = grind (arith, nat_tests) in
    let three : eqb j 3 ≡ false = grind (arith, nat_tests) in
    let place : j - 3 ≡ k = omega arith in
    rw (one, two, three, place) refl

pub bad_axis : (primary : Bool) (card : ℕ → List ℕ) (k : ℕ) → 1 ≤ k → k ≤ axis_count card
    → is_bad primary card (3 + k) ≡ not (is_some (axis_of k (card (3 + k))))
bad_axis primary card k h most = bad_mandatory primary card (3 + k) (omega arith) ∙ ap not (axis_place primary k (3 + k) (card (3 + k)) h refl)

-- a permitted axis has its number
pub axis_natural : (k : ℕ) (card : List ℕ) (n : ℕ) → axis_of k card ≡ Some n → natural card ≡ Some n
unfolding axis_of
axis_natural k card n is = by (has_keyword _ card) is
  where
    by : (b : Bool) → cond b (natural card) None ≡ Some n → natural card ≡ Some n
    by true e = e
    by false e = absurd (cc)

-- the lengths of the first k axes
abbrev pub axes_to : (ℕ → List ℕ) → ℕ → List ℕ
axes_to card k = map natural_or_zero (cards_from card 4 k)

map_last : (xs : List (List ℕ)) (x : List ℕ) → map natural_or_zero (xs ++ x ∷ []) ≡ map natural_or_zero xs ++ natural_or_zero x ∷ []
map_last [] x = refl
map_last (y ∷ xs) x = ap (λ l. natural_or_zero y ∷ l) (map_last xs x)

pub axes_more : (card : ℕ → List ℕ) (k j n : ℕ) → j ≡ k + 1 → natural (card (3 + j)) ≡ Some n → axes_to card j ≡ axes_to card k ++ n ∷ []
axes_more card k j n next is =
    let place : 3 + j ≡ 4 + k = omega arith in
    let same : j ≡ suc k = omega arith in
    let size : natural_or_zero (card (4 + k)) ≡ n = ap (λ o. unwrap_or o 0) (ap (λ i. natural (card i)) (sym place) ∙ is) in
    rw same (map_last (cards_from card 4 k) (card (4 + k)) ∙ ap (λ m. axes_to card k ++ m ∷ []) size)

pub length-axes_to : (card : ℕ → List ℕ) (k : ℕ) → length (axes_to card k) ≡ k
length-axes_to card zero = refl
length-axes_to card (suc k) =
    ap length (map_last (cards_from card 4 k) (card (4 + k))) ∙ one_more (axes_to card k) ∙ ap suc (length-axes_to card k)
  where
    one_more : (xs : List ℕ) → length (xs ++ natural_or_zero (card (4 + k)) ∷ []) ≡ suc (length xs)
    one_more [] = refl
    one_more (x ∷ xs) = ap suc (one_more xs)

pub axes_all : (card : ℕ → List ℕ) (k : ℕ) → axis_count card ≡ k → axes_to card k ≡ axes_of card
unfolding axes_of
axes_all card k is = ap (axes_to card) (sym is)

pub others_none : (card : ℕ → List ℕ) (j : ℕ) → j ≡ 4 + axis_count card → others_before card j ≡ []
unfolding others_before
others_none card j is = let none : j - (4 + axis_count card) ≡ 0 = omega arith in rw none refl

pub others_next : (card : ℕ → List ℕ) (j : ℕ) → 3 + axis_count card < j → others_before card (j + 1) ≡ others_before card j ++ card j ∷ []
unfolding others_before
others_next card j h =
    let more : j + 1 - (4 + axis_count card) ≡ suc (j - (4 + axis_count card)) = omega arith in
    let place : 4 + axis_count card + (j - (4 + axis_count card)) ≡ j = omega arith in
    rw (more, place) refl
