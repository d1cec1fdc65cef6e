-- Lists in the order of a number of each member: where the numbers differ, and where two are the same.
use Rattle.std.proofs.Common.{◌≡◌, ℕ, ◌+◌, ◌<◌, ◌≤◌, ◌⊎◌, inl, inr, zero, suc, Bool, true, false, cond, ◌==◌, List, [], ◌∷◌, ◌++◌, refl, sym, ◌∙◌, ap}
use Rattle.std.proofs.Common.{arith}
use Rattle.std.specs.Prelude.{IsTrue, Some, None, slice_get, filter}
use Rattle.std.specs.List.{flat_map, count_by, range_with_len, position_from}
use Rattle.std.proofs.lemmas.Bool.{eq-eqb, eqb-true, cases_Bool}
use Rattle.std.proofs.lemmas.Option.{same_Some, none-some}
use Rattle.std.proofs.lemmas.List.Sums.{sum_by-cons}
use Rattle.lemmas.proofs.Exported.{IsAmong, IsRisingBy, among_get, among_from_filter, among_from_range}

-- 1 where a test passes
abbrev bit : Bool → ℕ
bit b = cond b 1 0

module _ {X : Type 0} where
  nothing : (x : X) (i : ℕ) → slice_get [] i ≡ Some x → ⊥
  nothing x i e = none-some x e

  -- ---- lists that rise

  -- from the order of places
  pub rising_from_places : (f : X → ℕ) (xs : List X)
      → ((i j : ℕ) (a b : X) → i < j → slice_get xs i ≡ Some a → slice_get xs j ≡ Some b → f a < f b) → IsRisingBy f xs
  rising_from_places f [] h = tt
  rising_from_places f (x ∷ xs) h = (
    (λ y m. let k : (j : ℕ) × (slice_get xs j ≡ Some y) = among_get y xs m in h 0 (suc k.0) x y (omega arith) refl k.1),
    rising_from_places f xs (λ i j a b l d e. h (suc i) (suc j) a b (omega arith) d e),
  )

  -- one behind the other
  among_either : (y : X) (xs ys : List X) → IsAmong y (xs ++ ys) → IsAmong y xs ⊎ IsAmong y ys
  among_either y [] ys m = inr m
  among_either y (x ∷ xs) ys (inl e) = inl (inl e)
  among_either y (x ∷ xs) ys (inr m) = go (among_either y xs ys m)
    where
      go : IsAmong y xs ⊎ IsAmong y ys → IsAmong y (x ∷ xs) ⊎ IsAmong y ys
      go (inl k) = inl (inr k)
      go (inr k) = inr k

  rising_behind : (f : X → ℕ) (xs ys : List X) → IsRisingBy f xs → IsRisingBy f ys → ((x y : X) → IsAmong x xs → IsAmong y ys → f x < f y)
      → IsRisingBy f (xs ++ ys)
  rising_behind f [] ys hx hy h = hy
  rising_behind f (x ∷ xs) ys hx hy h = (
    (λ y m. go y (among_either y xs ys m)),
    rising_behind f xs ys hx.1 hy (λ a b k l. h a b (inr k) l),
  )
    where
      go : (y : X) → IsAmong y xs ⊎ IsAmong y ys → f x < f y
      go y (inl k) = hx.0 y k
      go y (inr k) = h x y (inl refl) k

  -- a member of what is made of the members of a list
  pub record IsMadeFrom {Y : Type 0} (g : Y → List X) (ys : List Y) (x : X) : Type 0 where
    pub it : Y
    pub listed : IsAmong it ys
    pub among : IsAmong x (g it)

  pub made_from : {Y : Type 0} (g : Y → List X) (ys : List Y) (x : X) → IsAmong x (flat_map g ys) → IsMadeFrom g ys x
  made_from g [] x m = absurd m
  made_from {Y} g (y ∷ ys) x m = go (made_from g ys x) (among_either x (g y) (flat_map g ys) m)
    where
      go : (IsAmong x (flat_map g ys) → IsMadeFrom g ys x) → IsAmong x (g y) ⊎ IsAmong x (flat_map g ys) → IsMadeFrom g (y ∷ ys) x
      go rest (inl k) = record { it = y; listed = inl refl; among = k }
      go rest (inr k) = let w : IsMadeFrom g ys x = rest k in record { it = w.it; listed = inr w.listed; among = w.among }

  -- what is made of each number has this number, and rises
  pub rising_made : (f : X → ℕ) (g : ℕ → List X) (a n : ℕ) → ((p : ℕ) (x : X) → IsAmong x (g p) → f x ≡ p) → ((p : ℕ) → IsRisingBy f (g p))
      → IsRisingBy f (flat_map g (range_with_len a n))
  rising_made f g a zero own each = tt
  rising_made f g a (suc n) own each =
      rising_behind f (g a) (flat_map g (range_with_len (a + 1) n)) (each a) (rising_made f g (a + 1) n own each)
      (λ x y k l. let w : IsMadeFrom g (range_with_len (a + 1) n) y = made_from g (range_with_len (a + 1) n) y l in
      let d : f x ≡ a = own a x k in
      let e : f y ≡ w.it = own w.it y w.among in
      let b : (a + 1 ≤ w.it) × (w.it < a + 1 + n) = among_from_range (a + 1) n w.it w.listed in
      omega arith)

  -- ---- lists whose numbers differ

  -- no two members have the same number
  abbrev pub AreApartBy : (X → ℕ) → List X → Type 0
  AreApartBy f xs = (i j : ℕ) (a b : X) → i < j → slice_get xs i ≡ Some a → slice_get xs j ≡ Some b → f a ≡ f b → ⊥

  apart_rest : (f : X → ℕ) (x : X) (xs : List X) → AreApartBy f (x ∷ xs) → AreApartBy f xs
  apart_rest f x xs h = λ i j a b l d e. h (suc i) (suc j) a b (omega arith) d e

  -- so those with one number rise: there is one at most
  pub rising_at : (f : X → ℕ) (p : ℕ) (xs : List X) → AreApartBy f xs → IsRisingBy f (filter (λ x. f x == p) xs)
  rising_at f p [] h = tt
  rising_at f p (x ∷ xs) h = go (f x == p) refl (rising_at f p xs (apart_rest f x xs h))
    where
      go : (t : Bool) → (f x == p) ≡ t → IsRisingBy f (filter (λ y. f y == p) xs)
          → IsRisingBy f (cond t (x ∷ filter (λ y. f y == p) xs) (filter (λ y. f y == p) xs))
      go true e rest = (
        (λ y m. let k : IsAmong y xs × IsTrue (f y == p) = among_from_filter (λ z. f z == p) y xs m in
            let s : (j : ℕ) × (slice_get xs j ≡ Some y) = among_get y xs k.0 in
            absurd (h 0 (suc s.0) x y (omega arith) refl s.1 (eqb-true (f x) p e ∙ sym (eqb-true (f y) p k.1)))),
        rest,
      )
      go false e rest = rest

  -- ---- how many members have a number

  abbrev pub count_at : (X → ℕ) → ℕ → List X → ℕ
  count_at f p xs = count_by (λ x. f x == p) xs

  abbrev one_at : (X → ℕ) → ℕ → X → ℕ
  one_at f p x = bit (f x == p)

  count_more : (f : X → ℕ) (p : ℕ) (x : X) (xs : List X) → count_at f p (x ∷ xs) ≡ one_at f p x + count_at f p xs
  count_more f p x xs = sum_by-cons (one_at f p) x xs

  count_here : (f : X → ℕ) (p : ℕ) (x : X) → f x ≡ p → one_at f p x ≡ 1
  count_here f p x e = ap bit (eq-eqb (f x) p e)

  one_counted : (f : X → ℕ) (p : ℕ) (xs : List X) (i : ℕ) (a : X) → slice_get xs i ≡ Some a → f a ≡ p → 1 ≤ count_at f p xs
  one_counted f p [] i a e k = absurd (nothing a i e)
  one_counted f p (x ∷ xs) zero a e k =
      let c : count_at f p (x ∷ xs) ≡ one_at f p x + count_at f p xs = count_more f p x xs in
      let o : one_at f p x ≡ 1 = count_here f p x (ap f (same_Some x a e) ∙ k) in
      omega (arith, c, o)
  one_counted f p (x ∷ xs) (suc i) a e k =
      let c : count_at f p (x ∷ xs) ≡ one_at f p x + count_at f p xs = count_more f p x xs in
      let r : 1 ≤ count_at f p xs = one_counted f p xs i a e k in
      omega (arith, c, r)

  -- two places with it
  pub two_counted : (f : X → ℕ) (p : ℕ) (xs : List X) (i j : ℕ) (a b : X) → i < j → slice_get xs i ≡ Some a → slice_get xs j ≡ Some b
      → f a ≡ p → f b ≡ p → 2 ≤ count_at f p xs
  two_counted f p [] i j a b l d e k m = absurd (nothing a i d)
  two_counted f p (x ∷ xs) i zero a b l d e k m = absurd (omega arith)
  two_counted f p (x ∷ xs) zero (suc j) a b l d e k m =
      let c : count_at f p (x ∷ xs) ≡ one_at f p x + count_at f p xs = count_more f p x xs in
      let o : one_at f p x ≡ 1 = count_here f p x (ap f (same_Some x a d) ∙ k) in
      let r : 1 ≤ count_at f p xs = one_counted f p xs j b e m in
      omega (arith, c, o, r)
  two_counted f p (x ∷ xs) (suc i) (suc j) a b l d e k m =
      let c : count_at f p (x ∷ xs) ≡ one_at f p x + count_at f p xs = count_more f p x xs in
      let r : 2 ≤ count_at f p xs = two_counted f p xs i j a b (omega arith) d e k m in
      omega (arith, c, r)

  -- and back
  pub record HasOneAt (f : X → ℕ) (p : ℕ) (xs : List X) : Type 0 where
    pub it : ℕ
    pub member : X
    pub at : slice_get xs it ≡ Some member
    pub number : f member ≡ p

  pub record HasTwoAt (f : X → ℕ) (p : ℕ) (xs : List X) : Type 0 where
    pub one : ℕ
    pub other : ℕ
    pub member : X
    pub other_member : X
    pub less : one < other
    pub at : slice_get xs one ≡ Some member
    pub other_at : slice_get xs other ≡ Some other_member
    pub number : f member ≡ p
    pub other_number : f other_member ≡ p

  one_from_count : (f : X → ℕ) (p : ℕ) (xs : List X) → 1 ≤ count_at f p xs → HasOneAt f p xs
  one_from_count f p [] k = absurd (omega arith)
  one_from_count f p (x ∷ xs) k = go (one_from_count f p xs) (cases_Bool (f x == p))
    where
      go : (1 ≤ count_at f p xs → HasOneAt f p xs) → ((f x == p) ≡ true) ⊎ ((f x == p) ≡ false) → HasOneAt f p (x ∷ xs)
      go rest (inl e) = record { it = 0; member = x; at = refl; number = eqb-true (f x) p e }
      go rest (inr e) =
          let c : count_at f p (x ∷ xs) ≡ one_at f p x + count_at f p xs = count_more f p x xs in
          let z : one_at f p x ≡ 0 = ap bit e in
          let w : HasOneAt f p xs = rest (omega (arith, c, z, k)) in
          record { it = suc w.it; member = w.member; at = w.at; number = w.number }

  pub two_from_count : (f : X → ℕ) (p : ℕ) (xs : List X) → 2 ≤ count_at f p xs → HasTwoAt f p xs
  two_from_count f p [] k = absurd (omega arith)
  two_from_count f p (x ∷ xs) k = go (two_from_count f p xs) (cases_Bool (f x == p))
    where
      c : count_at f p (x ∷ xs) ≡ one_at f p x + count_at f p xs
      c = count_more f p x xs

      go : (2 ≤ count_at f p xs → HasTwoAt f p xs) → ((f x == p) ≡ true) ⊎ ((f x == p) ≡ false) → HasTwoAt f p (x ∷ xs)
      go rest (inl e) =
          let o : one_at f p x ≡ 1 = ap bit e in
          let w : HasOneAt f p xs = one_from_count f p xs (omega (arith, c, o, k)) in
          record {
            one = 0;
            other = suc w.it;
            member = x;
            other_member = w.member;
            less = omega arith;
            at = refl;
            other_at = w.at;
            number = eqb-true (f x) p e;
            other_number = w.number;
          }
      go rest (inr e) =
          let z : one_at f p x ≡ 0 = ap bit e in
          let w : HasTwoAt f p xs = rest (omega (arith, c, z, k)) in
          record {
            one = suc w.one;
            other = suc w.other;
            member = w.member;
            other_member = w.other_member;
            less = let l : w.one < w.other = w.less in omega arith;
            at = w.at;
            other_at = w.other_at;
            number = w.number;
            other_number = w.other_number;
          }

  -- ---- the place of a member

  pub position_at : (test : X → Bool) (xs : List X) (k i : ℕ) (x : X) → slice_get xs i ≡ Some x → test x ≡ true
      → ((j : ℕ) (y : X) → j < i → slice_get xs j ≡ Some y → test y ≡ false) → position_from test k xs ≡ Some (i + k)
  position_at test [] k i x e t h = absurd (nothing x i e)
  position_at test (y ∷ xs) k zero x e t h =
      ap (λ (b : Bool). cond b (Some k) (position_from test (k + 1) xs)) (ap test (same_Some y x e) ∙ t) ∙ ap Some (omega arith)
  position_at test (y ∷ xs) k (suc i) x e t h =
      ap (λ (b : Bool). cond b (Some k) (position_from test (k + 1) xs)) (h 0 y (omega arith) refl)
      ∙ position_at test xs (k + 1) i x e t (λ j z l g. h (suc j) z (omega arith) g)
      ∙ ap Some (omega arith)

  pub position_nowhere : (test : X → Bool) (xs : List X) (k : ℕ) → ((j : ℕ) (y : X) → slice_get xs j ≡ Some y → test y ≡ false)
      → position_from test k xs ≡ None
  position_nowhere test [] k h = refl
  position_nowhere test (y ∷ xs) k h =
      ap (λ (b : Bool). cond b (Some k) (position_from test (k + 1) xs)) (h 0 y refl) ∙ position_nowhere test xs (k + 1) (λ j z g. h (suc j) z g)
