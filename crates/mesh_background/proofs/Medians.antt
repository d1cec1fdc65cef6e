-- The lower median by counts is unique, exists, and is the one that the test finds.
use Rattle.std.proofs.Common.{◌≡◌, ℕ, ◌+◌, ◌-◌, ◌/◌, ◌<◌, ◌≤◌, zero, suc, Bool, true, false, cond, List, [], ◌∷◌, ◌++◌, length, take, drop, get_or, refl}
use Rattle.std.proofs.Common.{sym, ap, subst, ◌∙◌, arith, IsPermutation, length-drop, length-append, append_assoc, get_or-take, get_or-drop}
use Rattle.std.proofs.Common.{take-append-drop}
use Rattle.std.specs.Prelude.{ℤ, pos, ◌≤ℤ◌, ◌<ℤ◌, int_lt, int_le, nat_lt, nat_le, find, Option, Some, None, Contains, IsSome, IsTrue}
use Rattle.std.specs.List.{All}
use Rattle.std.specs.List.Sorted.{IsSplitAround}
use Rattle.std.specs.Ordering.{int_cmp, is_lt}
use Rattle.std.specs.declared.cmp.Ordering.TheVariants.{Less, Equal, Greater}
use Rattle.std.proofs.lemmas.Bool.{true≢false, and_parts, and_from, ltb-true, lt-ltb, leb-true, le-leb}
use Rattle.std.proofs.lemmas.Int.{ints, by_lt_z}
use Rattle.std.specs.Int.Signed.{≤ℤ_refl}
use Rattle.std.proofs.lemmas.List.{length-take-le, get_or_default}
use Rattle.std.proofs.lemmas.List.Elements.{All-nil, All-cons, All-append, All-weaker}
use Rattle.std.proofs.lemmas.List.Sorted.{IsPermutation-sym, IsPermutation-trans, IsPermutation-cons, IsPermutation-middle, IsPermutation-refl}
use Rattle.std.proofs.lemmas.List.Sorted.{All-permutation, Contains-permutation, sum_by-IsPermutation, length_permutation}
use Rattle.lemmas.proofs.Exported.{IsAmong, among_at_place, contains_from_among, find_none, find_some, int_le-from, int_le-true, int_lt-false, int_lt-from}
use Rattle.lemmas.proofs.Exported.{int_lt-from_not_le, int_lt-true}
use Rattle.mesh_background.specs.Medians.{lower_half, count_less, count_up_to, IsLowerMedian, splits_in_half, lower_median}
use Rattle.mesh_background.specs.Laws.{LowerMedianIsTheOne, SomeMemberIsLowerMedian}
use Rattle.mesh_background.proofs.Counts.{count-weaker, count_most, count_least}

-- ---- there is no second one

record HasCounts (xs : List ℤ) (v : ℤ) : Type 0 where
  few : count_less xs v < lower_half xs
  enough : lower_half xs ≤ count_up_to xs v

not_less : (xs : List ℤ) (v w : ℤ) → HasCounts xs v → HasCounts xs w → v <ℤ w → ⊥
not_less xs v w a b lt =
    let more : count_up_to xs v ≤ count_less xs w = count-weaker (λ x. int_le x v) (λ x. int_lt x w) xs
    (λ x h. let le : x ≤ℤ v = int_le-true x v h in int_lt-from x w (omega (arith, ints))) in
    let low : lower_half xs ≤ count_up_to xs v = a.enough in
    let high : count_less xs w < lower_half xs = b.few in
    absurd (omega arith)

unique : (xs : List ℤ) (v w : ℤ) → HasCounts xs v → HasCounts xs w → v ≡ w
unique xs v w a b = by_lt_z v w (λ lt. absurd (not_less xs v w a b lt))
    (λ (ge : w ≤ℤ v). by_lt_z w v (λ lt. absurd (not_less xs w v b a lt)) (λ (le : v ≤ℤ w). omega (arith, ints)))

-- ---- the test

test-counts : (xs : List ℤ) (v : ℤ) → splits_in_half xs v ≡ true → HasCounts xs v
unfolding splits_in_half
test-counts xs v h =
    let parts : (nat_lt (count_less xs v) (lower_half xs) ≡ true) × (nat_le (lower_half xs) (count_up_to xs v) ≡ true) =
    and_parts (nat_lt (count_less xs v) (lower_half xs)) (nat_le (lower_half xs) (count_up_to xs v)) h in
    record { few = ltb-true (count_less xs v) (lower_half xs) parts.0; enough = leb-true (lower_half xs) (count_up_to xs v) parts.1 }

test-from : (xs : List ℤ) (v : ℤ) → HasCounts xs v → splits_in_half xs v ≡ true
unfolding splits_in_half
test-from xs v h = and_from (nat_lt (count_less xs v) (lower_half xs)) (nat_le (lower_half xs) (count_up_to xs v))
    (lt-ltb (count_less xs v) (lower_half xs) h.few) (le-leb (lower_half xs) (count_up_to xs v) h.enough)

found-is : (xs : List ℤ) (v : ℤ) → lower_median xs ≡ Some v → IsLowerMedian xs v
unfolding lower_median
found-is xs v e =
    let found : IsAmong v xs × IsTrue (splits_in_half xs v) = find_some (splits_in_half xs) xs v e in
    let counts : HasCounts xs v = test-counts xs v found.1 in
    record { member = contains_from_among v xs found.0; few_below = counts.few; enough = counts.enough }

pub found-from : (xs : List ℤ) (v : ℤ) → IsLowerMedian xs v → lower_median xs ≡ Some v
unfolding lower_median
found-from xs v h = go (find (splits_in_half xs) xs) refl
  where
    counts : HasCounts xs v
    counts = record { few = h.few_below; enough = h.enough }

    among : IsAmong v xs
    among = among_at_place v xs h.member.0 h.member.1 h.member.2

    go : (o : Option ℤ) → find (splits_in_half xs) xs ≡ o → find (splits_in_half xs) xs ≡ Some v
    go None e = absurd (true≢false (sym (test-from xs v counts) ∙ find_none (splits_in_half xs) xs v e among))
    go (Some w) e =
        let found : IsAmong w xs × IsTrue (splits_in_half xs w) = find_some (splits_in_half xs) xs w e in
        e ∙ ap Some (unique xs w v (test-counts xs w found.1) counts)

pub the_one : LowerMedianIsTheOne
the_one xs v = (found-is xs v, found-from xs v)

-- ---- a list in rising order

-- of two members the earlier is not greater
pub record IsRising (xs : List ℤ) : Type 0 where
  pub rises : (i j : ℕ) (d : ℤ) → i ≤ j → j < length xs → get_or xs i d ≤ℤ get_or xs j d

-- none from place m on is below its member there, and those up to it are at most that
late : (xs : List ℤ) (m : ℕ) (v : ℤ) → IsRising xs → m < length xs → ((d : ℤ) → get_or xs m d ≡ v) → All (λ x. int_lt x v ≡ false) (drop m xs)
late xs m v up inside here k d lt =
    let long : length (drop m xs) ≡ length xs - m = length-drop m xs in
    let le : v ≤ℤ get_or xs (m + k) d = subst (λ (z : ℤ). z ≤ℤ get_or xs (m + k) d) (here d) (up.rises m (m + k) d (omega arith) (omega arith)) in
    ap (λ (z : ℤ). int_lt z v) (get_or-drop m xs k d) ∙ int_lt-false (get_or xs (m + k) d) v le

early : (xs : List ℤ) (m : ℕ) (v : ℤ) → IsRising xs → m < length xs → ((d : ℤ) → get_or xs m d ≡ v) → All (λ x. int_le x v ≡ true) (take (m + 1) xs)
early xs m v up inside here k d lt =
    let long : length (take (m + 1) xs) ≡ m + 1 = length-take-le (m + 1) xs (omega arith) in
    let le : get_or xs k d ≤ℤ v = subst (λ (z : ℤ). get_or xs k d ≤ℤ z) (here d) (up.rises k m d (omega arith) inside) in
    ap (λ (z : ℤ). int_le z v) (get_or-take (m + 1) xs k d (omega arith)) ∙ int_le-from (get_or xs k d) v le

-- the member at this place has the counts of the lower median
rising-counts : (xs : List ℤ) (m : ℕ) (v : ℤ) → IsRising xs → 0 < length xs → m ≡ (length xs - 1) / 2 → ((d : ℤ) → get_or xs m d ≡ v) → HasCounts xs v
rising-counts xs m v up some place here =
    let inside : m < length xs = omega arith in
    let front : length (take m xs) ≡ m = length-take-le m xs (omega arith) in
    let more : length (take (m + 1) xs) ≡ m + 1 = length-take-le (m + 1) xs (omega arith) in
    let most : count_less (take m xs ++ drop m xs) v ≤ length (take m xs) = count_most (λ x. int_lt x v) (take m xs) (drop m xs) (late xs m v up inside here) in
    let least : length (take (m + 1) xs) ≤ count_up_to (take (m + 1) xs ++ drop (m + 1) xs) v =
    count_least (λ x. int_le x v) (take (m + 1) xs) (drop (m + 1) xs) (early xs m v up inside here) in
    let below : count_less xs v ≡ count_less (take m xs ++ drop m xs) v = ap (λ (ys : List ℤ). count_less ys v) (sym (take-append-drop m xs)) in
    let upto : count_up_to xs v ≡ count_up_to (take (m + 1) xs ++ drop (m + 1) xs) v =
    ap (λ (ys : List ℤ). count_up_to ys v) (sym (take-append-drop (m + 1) xs)) in
    record { few = omega arith; enough = omega arith }

-- such a member is the lower median of each list that has these members
counted : (xs ys : List ℤ) (v : ℤ) → IsPermutation xs ys → Contains ys v → HasCounts ys v → lower_median xs ≡ Some v
counted xs ys v moved member counts =
    let long : length ys ≡ length xs = length_permutation xs ys moved in
    let below : count_less ys v ≡ count_less xs v = sum_by-IsPermutation (λ x. cond (int_lt x v) 1 0) xs ys moved in
    let upto : count_up_to ys v ≡ count_up_to xs v = sum_by-IsPermutation (λ x. cond (int_le x v) 1 0) xs ys moved in
    let few : count_less ys v < lower_half ys = counts.few in
    let enough : lower_half ys ≤ count_up_to ys v = counts.enough in
    found-from xs v (record {
      member = Contains-permutation ys xs v (IsPermutation-sym xs ys moved) member;
      few_below = omega arith;
      enough = omega arith;
    })

-- and is the lower median of each list that was put in this order
pub median_in_order : (xs ys : List ℤ) (m : ℕ) (v : ℤ) → IsPermutation xs ys → IsRising ys → 0 < length ys → m ≡ (length ys - 1) / 2
    → ((d : ℤ) → get_or ys m d ≡ v)
    → lower_median xs ≡ Some v
median_in_order xs ys m v moved up some place here = counted xs ys v moved (m, omega arith, here v) (rising-counts ys m v up some place here)

-- ---- a list that is split around one member

not-less : (x y : ℤ) → is_lt (int_cmp y x) ≡ false → x ≤ℤ y
not-less x y k = by_lt_z y x (λ lt. absurd (true≢false (sym (test (int_lt y x) (int_lt x y) (int_lt-from y x lt)) ∙ k))) (λ le. le)
  where
    test : (a b : Bool) → a ≡ true → is_lt (cond a Less (cond b Greater Equal)) ≡ true
    test true b e = refl
    test false b e = absurd (true≢false (sym e))

contains-at : (front back : List ℤ) (v : ℤ) → Contains (front ++ v ∷ back) v
contains-at [] back v = (0, omega arith, refl)
contains-at (x ∷ xs) back v = let k : Contains (xs ++ v ∷ back) v = contains-at xs back v in (suc k.0, omega arith, k.2)

-- the member at this place has the counts of the lower median, where those before are at most it and those behind at least it
split-counts : (front back : List ℤ) (v : ℤ) → IsSplitAround int_cmp front v back → length front ≡ (length (front ++ v ∷ back) - 1) / 2
    → HasCounts (front ++ v ∷ back) v
split-counts front back v h place =
    let behind : All (λ x. int_lt x v ≡ false) (v ∷ back) = All-cons (λ x. int_lt x v ≡ false) v back (int_lt-false v v (≤ℤ_refl v))
    (λ k d lt. int_lt-false (get_or back k d) v (not-less v (get_or back k d) (h.1 k d lt))) in
    let ahead : All (λ x. int_le x v ≡ true) front = λ k d lt. int_le-from (get_or front k d) v (not-less (get_or front k d) v (h.0 k d lt)) in
    let upto : All (λ x. int_le x v ≡ true) (front ++ v ∷ []) = All-append (λ x. int_le x v ≡ true) front (v ∷ []) ahead
    (All-cons (λ x. int_le x v ≡ true) v [] (int_le-from v v (≤ℤ_refl v)) (All-nil (λ x. int_le x v ≡ true))) in
    let most : count_less (front ++ v ∷ back) v ≤ length front = count_most (λ x. int_lt x v) front (v ∷ back) behind in
    let least : length (front ++ v ∷ []) ≤ count_up_to ((front ++ v ∷ []) ++ back) v = count_least (λ x. int_le x v) (front ++ v ∷ []) back upto in
    let same : count_up_to ((front ++ v ∷ []) ++ back) v ≡ count_up_to (front ++ v ∷ back) v =
    ap (λ (ys : List ℤ). count_up_to ys v) (append_assoc front (v ∷ []) back) in
    let more : length (front ++ v ∷ []) ≡ length front + 1 = length-append front (v ∷ []) in
    record { few = omega (arith, most, place); enough = omega (arith, least, same, more, place) }

pub median_from_split : (xs front back : List ℤ) (v : ℤ) → IsPermutation xs (front ++ v ∷ back) → IsSplitAround int_cmp front v back
    → length front ≡ (length xs - 1) / 2 → lower_median xs ≡ Some v
median_from_split xs front back v moved h place =
    let ys : List ℤ = front ++ v ∷ back in
    let long : length ys ≡ length xs = length_permutation xs ys moved in
    let counts : HasCounts ys v = split-counts front back v h (place ∙ ap (λ (n : ℕ). (n - 1) / 2) (sym long)) in
    counted xs ys v moved (contains-at front back v) counts

-- ---- each list can be put in order

insert_number : ℤ → List ℤ → List ℤ
insert_number x [] = x ∷ []
insert_number x (y ∷ ys) = cond (int_le x y) (x ∷ y ∷ ys) (y ∷ insert_number x ys)

in_rising_order : List ℤ → List ℤ
in_rising_order [] = []
in_rising_order (x ∷ xs) = insert_number x (in_rising_order xs)

moved-insert : (x : ℤ) (ys : List ℤ) → IsPermutation (x ∷ ys) (insert_number x ys)
unfolding insert_number
moved-insert x [] = IsPermutation-refl (x ∷ [])
moved-insert x (y ∷ ys) = go (int_le x y) (moved-insert x ys)
  where
    go : (b : Bool) → IsPermutation (x ∷ ys) (insert_number x ys) → IsPermutation (x ∷ y ∷ ys) (cond b (x ∷ y ∷ ys) (y ∷ insert_number x ys))
    go true ih = IsPermutation-refl (x ∷ y ∷ ys)
    go false ih = IsPermutation-trans (x ∷ y ∷ ys) (y ∷ x ∷ ys) (y ∷ insert_number x ys)
        (IsPermutation-sym (y ∷ x ∷ ys) (x ∷ y ∷ ys) (IsPermutation-middle (y ∷ []) x ys)) (IsPermutation-cons y (x ∷ ys) (insert_number x ys) ih)

moved : (xs : List ℤ) → IsPermutation xs (in_rising_order xs)
unfolding in_rising_order
moved [] = IsPermutation-refl []
moved (x ∷ xs) = IsPermutation-trans (x ∷ xs) (x ∷ in_rising_order xs) (insert_number x (in_rising_order xs))
    (IsPermutation-cons x xs (in_rising_order xs) (moved xs)) (moved-insert x (in_rising_order xs))

abbrev Rises : List ℤ → Type 0
Rises [] = Unit {0}
Rises (x ∷ xs) = All (λ y. x ≤ℤ y) xs × Rises xs

rises-insert : (x : ℤ) (ys : List ℤ) → Rises ys → Rises (insert_number x ys)
unfolding insert_number
rises-insert x [] h = (All-nil (λ y. x ≤ℤ y), tt)
rises-insert x (y ∷ ys) h = go (int_le x y) refl (rises-insert x ys h.1)
  where
    go : (b : Bool) → int_le x y ≡ b → Rises (insert_number x ys) → Rises (cond b (x ∷ y ∷ ys) (y ∷ insert_number x ys))
    go true e ih =
        let le : x ≤ℤ y = int_le-true x y e in
        (All-cons (λ z. x ≤ℤ z) y ys le (All-weaker (λ z. y ≤ℤ z) (λ z. x ≤ℤ z) (λ z (k : y ≤ℤ z). omega (arith, ints)) ys h.0), h)
    go false e ih =
        let lt : y <ℤ x = int_lt-true y x (int_lt-from_not_le x y e) in
        (All-permutation (λ z. y ≤ℤ z) (x ∷ ys) (insert_number x ys) (moved-insert x ys) (All-cons (λ z. y ≤ℤ z) x ys (omega (arith, ints)) h.0), ih)

rises : (xs : List ℤ) → Rises (in_rising_order xs)
unfolding in_rising_order
rises [] = tt
rises (x ∷ xs) = rises-insert x (in_rising_order xs) (rises xs)

rises-far : (xs : List ℤ) (i j : ℕ) (d : ℤ) → Rises xs → i ≤ j → j < length xs → get_or xs i d ≤ℤ get_or xs j d
rises-far [] i j d h le lt = absurd (omega arith)
rises-far (x ∷ xs) zero zero d h le lt = omega (arith, ints)
rises-far (x ∷ xs) zero (suc j) d h le lt = h.0 j d (omega arith)
rises-far (x ∷ xs) (suc i) zero d h le lt = absurd (omega arith)
rises-far (x ∷ xs) (suc i) (suc j) d h le lt = rises-far xs i j d h.1 (omega arith) (omega arith)

pub some_member : SomeMemberIsLowerMedian
some_member xs some =
    let ys : List ℤ = in_rising_order xs in
    let long : length ys ≡ length xs = length_permutation xs ys (moved xs) in
    let m : ℕ = (length ys - 1) / 2 in
    let v : ℤ = get_or ys m (pos 0) in
    let inside : m < length ys = omega arith in
    let found : lower_median xs ≡ Some v =
    median_in_order xs ys m v (moved xs) (record { rises = λ i j d le lt. rises-far ys i j d (rises xs) le lt }) (omega arith) refl
    (λ d. get_or_default ys m d (pos 0) inside) in
    subst (λ (o : Option ℤ). IsSome o) (sym found) refl

-- a list without members has none
pub none_of_none : (xs : List ℤ) → length xs ≡ 0 → None ≡ lower_median xs
unfolding lower_median
none_of_none [] e = refl
none_of_none (x ∷ xs) e = absurd (omega arith)
