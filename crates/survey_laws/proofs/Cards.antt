-- The cards of a header that stands in a list of bytes, by their numbers.
use Rattle.std.proofs.Common.{◌≡◌, ◌∙◌, ℕ, zero, suc, ◌+◌, ◌-◌, ◌*◌, ◌<◌, ◌≤◌, List, [], ◌∷◌, ◌++◌, get_or, length, take, drop, refl, ap, ap₂, arith}
use Rattle.std.proofs.Common.{append_assoc, length-append}
use Rattle.std.specs.List.{concat, AllByRecursion}
use Rattle.std.proofs.lemmas.List.{take_at}
use Rattle.std.proofs.Math.Seq.{drop-append-add}
use Rattle.fits_hdu.specs.Headers.{card_at, cards_from}

-- card j, from 1
abbrev pub nth : List (List ℕ) → ℕ → List ℕ
nth cards j = get_or cards (j - 1) []

abbrev pub Full : List ℕ → Type 0
Full card = length card ≡ 80

pub size_of_cards : (cards : List (List ℕ)) → AllByRecursion Full cards → length (concat cards) ≡ 80 * length cards
size_of_cards [] full = refl
size_of_cards (card ∷ cards) full = omega (arith, length-append card (concat cards), full.0, size_of_cards cards full.1)

card_there : (cards : List (List ℕ)) (rest : List ℕ) (i : ℕ) → AllByRecursion Full cards → i < length cards
    → take 80 (drop (80 * i) (concat cards ++ rest)) ≡ get_or cards i []
card_there [] rest i full h = absurd (omega arith)
card_there (card ∷ cards) rest zero full h =
    ap (take 80) (append_assoc card (concat cards) rest) ∙ take_at card (concat cards ++ rest) 80 full.0
card_there (card ∷ cards) rest (suc i) full h =
    let on : 80 * suc i ≡ length card + 80 * i = omega (arith, full.0) in
    ap (take 80) (ap₂ (λ (k : ℕ) (l : List ℕ). drop k l) on (append_assoc card (concat cards) rest) ∙ drop-append-add card (concat cards ++ rest) (80 * i))
    ∙ card_there cards rest i full.1 (omega arith)

-- the cards stand behind these bytes
pub card_here : (front rest : List ℕ) (cards : List (List ℕ)) (j : ℕ) → AllByRecursion Full cards → 1 ≤ j → j ≤ length cards
    → card_at (front ++ (concat cards ++ rest)) (length front) j ≡ nth cards j
card_here front rest cards j full low high =
    ap (take 80) (drop-append-add front (concat cards ++ rest) (80 * (j - 1))) ∙ card_there cards rest (j - 1) full (omega arith)

pub cards_from-same : (a b : ℕ → List ℕ) (first n : ℕ) → ((i : ℕ) → first ≤ i → i < first + n → a i ≡ b i) → cards_from a first n ≡ cards_from b first n
cards_from-same a b first zero same = refl
cards_from-same a b first (suc n) same =
    ap₂ (λ (l : List (List ℕ)) (c : List ℕ). l ++ c ∷ []) (cards_from-same a b first n (λ i low high. same i low (omega arith)))
    (same (first + n) (omega arith) (omega arith))

get_or-append-plus : (xs ys : List (List ℕ)) (k : ℕ) → get_or (xs ++ ys) (length xs + k) [] ≡ get_or ys k []
get_or-append-plus [] ys k = ap (λ j. get_or ys j []) (omega arith)
get_or-append-plus (x ∷ xs) ys k =
    let on : suc (length xs) + k ≡ suc (length xs + k) = omega arith in
    ap (λ j. get_or (x ∷ (xs ++ ys)) j []) on ∙ get_or-append-plus xs ys k

-- the cards behind the first ones, up to a number of them
pub cards_behind : (front middle back : List (List ℕ)) → cards_from (nth (front ++ (middle ++ back))) (1 + length front) (length middle) ≡ middle
cards_behind front middle back = go middle back (length middle) (omega arith) ∙ whole middle
  where
    whole : (l : List (List ℕ)) → take (length l) l ≡ l
    whole [] = refl
    whole (x ∷ l) = ap (λ (m : List (List ℕ)). x ∷ m) (whole l)

    more : (l : List (List ℕ)) (n : ℕ) → n < length l → take n l ++ get_or l n [] ∷ [] ≡ take (suc n) l
    more [] n h = absurd (omega arith)
    more (x ∷ l) zero h = refl
    more (x ∷ l) (suc n) h = ap (λ (m : List (List ℕ)). x ∷ m) (more l n (omega arith))

    inner : (l m : List (List ℕ)) (n : ℕ) → n < length l → get_or (l ++ m) n [] ≡ get_or l n []
    inner [] m n h = absurd (omega arith)
    inner (x ∷ l) m zero h = refl
    inner (x ∷ l) m (suc n) h = inner l m n (omega arith)

    go : (middle back : List (List ℕ)) (n : ℕ) → n ≤ length middle → cards_from (nth (front ++ (middle ++ back))) (1 + length front) n ≡ take n middle
    go middle back zero h = refl
    go middle back (suc n) h =
        let place : 1 + length front + n - 1 ≡ length front + n = omega arith in
        ap₂ (λ (l : List (List ℕ)) (c : List ℕ). l ++ c ∷ []) (go middle back n (omega arith))
        (ap (λ j. get_or (front ++ (middle ++ back)) j []) place ∙ get_or-append-plus front (middle ++ back) n ∙ inner middle back n (omega arith))
        ∙ more middle n (omega arith)
