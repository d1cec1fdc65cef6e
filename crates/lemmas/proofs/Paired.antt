-- Lists whose members stand in pairs, one after the other. Lists that rise by a number of each member, and hold the pairs' members, are so.
use Rattle.std.proofs.Common.{◌≡◌, ℕ, ◌+◌, ◌<◌, ◌≤◌, zero, suc, Bool, true, false, cond, List, [], ◌∷◌, ◌++◌, map, refl, sym, ◌∙◌, ap, subst, arith, ◌⊎◌, inl}
use Rattle.std.proofs.Common.{inr}
use Rattle.std.specs.Prelude.{Option, Some, filter, flat_map, ◌↔◌, ⊤}
use Rattle.std.proofs.lemmas.Bool.{true≢false}
use Rattle.std.specs.List.{enumerate_from, position_from, range_with_len}
use Rattle.lemmas.proofs.Members.{IsAmong, among_from_filter, among_from_range}

-- the members are pairs of R, one after the other
pub data ArePaired {X Y : Type 0} (R : X → Y → Type 0) : List X → List Y → Type 0 where
  at_end : ArePaired R [] []
  at_more : {x : X} {y : Y} {xs : List X} {ys : List Y} → R x y → ArePaired R xs ys → ArePaired R (x ∷ xs) (y ∷ ys)

-- lists that follow each other
pub paired_append : {X Y : Type 0} (R : X → Y → Type 0) (xs : List X) (ys : List Y) (us : List X) (vs : List Y) → ArePaired R xs ys → ArePaired R us vs
    → ArePaired R (xs ++ us) (ys ++ vs)
paired_append R _ _ us vs at_end b = b
paired_append R _ _ us vs (at_more {x} {y} {xs} {ys} e rest) b = at_more e (paired_append R xs ys us vs rest b)

-- what is told of each member
pub paired_map : {X Y Z : Type 0} (R : X → Y → Type 0) (f : X → Z) (g : Y → Z) (xs : List X) (ys : List Y) → ((x : X) (y : Y) → R x y → f x ≡ g y)
    → ArePaired R xs ys → map f xs ≡ map g ys
paired_map R f g _ _ e at_end = refl
paired_map R f g _ _ e (at_more {x} {y} {xs} {ys} c rest) = ap (λ z. z ∷ map f xs) (e x y c) ∙ ap (λ zs. g y ∷ zs) (paired_map R f g xs ys e rest)

-- the members that pass a test
pub paired_filter : {X Y : Type 0} (R : X → Y → Type 0) (f : X → Bool) (g : Y → Bool) (xs : List X) (ys : List Y) → ((x : X) (y : Y) → R x y → f x ≡ g y)
    → ArePaired R xs ys
    → ArePaired R (filter f xs) (filter g ys)
paired_filter R f g _ _ e at_end = at_end
paired_filter R f g _ _ e (at_more {x} {y} {xs} {ys} c rest) = go (f x) (g y) (e x y c) (paired_filter R f g xs ys e rest)
  where
    go : (t u : Bool) → t ≡ u → ArePaired R (filter f xs) (filter g ys)
        → ArePaired R (cond t (x ∷ filter f xs) (filter f xs)) (cond u (y ∷ filter g ys) (filter g ys))
    go true true k more = at_more c more
    go false false k more = more
    go true false k more = absurd (true≢false k)
    go false true k more = absurd (true≢false (sym k))

-- what is made of each member, all in one list
pub paired_flat_map : {X Y Z : Type 0} (R : X → Y → Type 0) (f : X → List Z) (g : Y → List Z) (xs : List X) (ys : List Y)
    → ((x : X) (y : Y) → R x y → f x ≡ g y) → ArePaired R xs ys
    → flat_map f xs ≡ flat_map g ys
paired_flat_map R f g _ _ e at_end = refl
paired_flat_map R f g _ _ e (at_more {x} {y} {xs} {ys} c rest) =
    ap (λ zs. zs ++ flat_map f xs) (e x y c) ∙ ap (λ zs. g y ++ zs) (paired_flat_map R f g xs ys e rest)

-- the place of the first member that passes a test
pub paired_position : {X Y : Type 0} (R : X → Y → Type 0) (f : X → Bool) (g : Y → Bool) (place : ℕ) (xs : List X) (ys : List Y)
    → ((x : X) (y : Y) → R x y → f x ≡ g y) → ArePaired R xs ys → position_from f place xs ≡ position_from g place ys
paired_position R f g place _ _ e at_end = refl
paired_position R f g place _ _ e (at_more {x} {y} {xs} {ys} c rest) =
    ap (λ (b : Bool). cond b (Some place) (position_from f (place + 1) xs)) (e x y c)
    ∙ ap (λ (o : Option ℕ). cond (g y) (Some place) o) (paired_position R f g (place + 1) xs ys e rest)

-- what is made of each member and its place
pub paired_enumerated : {X Y Z : Type 0} (R : X → Y → Type 0) (f : ℕ → X → Z) (g : ℕ → Y → Z) (place : ℕ) (xs : List X) (ys : List Y)
    → ((k : ℕ) (x : X) (y : Y) → R x y → f k x ≡ g k y) → ArePaired R xs ys
    → map (λ e. f e.0 e.1) (enumerate_from place xs) ≡ map (λ e. g e.0 e.1) (enumerate_from place ys)
paired_enumerated R f g place _ _ e at_end = refl
paired_enumerated R f g place _ _ e (at_more {x} {y} {xs} {ys} c rest) =
    ap (λ z. z ∷ map (λ u. f u.0 u.1) (enumerate_from (place + 1) xs)) (e place x y c)
    ∙ ap (λ zs. g place y ∷ zs) (paired_enumerated R f g (place + 1) xs ys e rest)

-- ---- lists that rise by a number of each member

abbrev pub IsRisingBy : {X : Type 0} → (X → ℕ) → List X → Type 0
IsRisingBy f [] = ⊤
IsRisingBy f (x ∷ xs) = ((y : _) → IsAmong y xs → f x < f y) × IsRisingBy f xs

-- rising numbers
abbrev pub IsRising : List ℕ → Type 0
IsRising xs = IsRisingBy (λ x. x) xs

pub rising-range : (a n : ℕ) → IsRising (range_with_len a n)
rising-range a zero = tt
rising-range a (suc n) = (
  (λ y k. let l : (a + 1 ≤ y) × (y < a + 1 + n) = among_from_range (a + 1) n y k in omega arith),
  rising-range (a + 1) n,
)

pub rising-filter : (test : ℕ → Bool) (xs : List ℕ) → IsRising xs → IsRising (filter test xs)
rising-filter test [] k = tt
rising-filter test (x ∷ xs) k = go (test x) (rising-filter test xs k.1)
  where
    go : (t : Bool) → IsRising (filter test xs) → IsRising (cond t (x ∷ filter test xs) (filter test xs))
    go true rest = ((λ y m. k.0 y (among_from_filter test y xs m).0), rest)
    go false rest = rest

-- the numbers below n that pass a test rise
pub rising-pixels : (test : ℕ → Bool) (n : ℕ) → IsRising (filter test (range_with_len 0 n))
rising-pixels test n = rising-filter test (range_with_len 0 n) (rising-range 0 n)

-- x has a partner in the list
pub record HasPartnerIn {X Y : Type 0} (R : X → Y → Type 0) (x : X) (ys : List Y) : Type 0 where
  pub it : Y
  pub among : IsAmong it ys
  pub pair : R x it

-- if the pairs keep the order, rising lists whose members all have partners in the other are paired
pub paired_from_rising : {X Y : Type 0} (R : X → Y → Type 0) (f : X → ℕ) (g : Y → ℕ) (xs : List X) (ys : List Y)
    → ((p : X) (q : Y) (a : X) (b : Y) → R p q → R a b → (f p < f a) ↔ (g q < g b)) → IsRisingBy f xs → IsRisingBy g ys
    → ((x : X) → IsAmong x xs → HasPartnerIn R x ys) → ((y : Y) → IsAmong y ys → HasPartnerIn (λ v u. R u v) y xs) → ArePaired R xs ys
paired_from_rising R f g [] [] order hx hy there back = at_end
paired_from_rising R f g [] (y ∷ ys) order hx hy there back = absurd (back y (inl refl)).among
paired_from_rising R f g (x ∷ xs) [] order hx hy there back = absurd (there x (inl refl)).among
paired_from_rising {X} {Y} R f g (x ∷ xs) (y ∷ ys) order hx hy there back =
    at_more first (paired_from_rising R f g xs ys order hx.1 hy.1 (λ a k. there_rest a k (there a (inr k))) (λ b k. back_rest b k (back b (inr k))))
  where
    go : (u : X) (v : Y) → R x v → R u y → (y ≡ v) ⊎ IsAmong v ys → (x ≡ u) ⊎ IsAmong u xs → R x y
    go u v c d (inl e) k = subst (λ z. R x z) (sym e) c
    go u v c d (inr m) (inl e) = subst (λ z. R z y) (sym e) d
    go u v c d (inr m) (inr k) =
        let a : g y < g v = hy.0 v m in
        let b : f x < f u = hx.0 u k in
        let l : g v < g y = (order x v u y c d).0 b in
        absurd (omega arith)

    first : R x y
    first =
        let p : HasPartnerIn R x (y ∷ ys) = there x (inl refl) in
        let q : HasPartnerIn (λ v u. R u v) y (x ∷ xs) = back y (inl refl) in
        go q.it p.it p.pair q.pair p.among q.among

    there_rest : (a : X) → IsAmong a xs → HasPartnerIn R a (y ∷ ys) → HasPartnerIn R a ys
    there_rest a k p = on p.among
      where
        on : (y ≡ p.it) ⊎ IsAmong p.it ys → HasPartnerIn R a ys
        on (inr m) = record { it = p.it; among = m; pair = p.pair }
        on (inl e) =
            let b : f x < f a = hx.0 a k in
            let l : g y < g p.it = (order x y a p.it first p.pair).0 b in
            let u : g y ≡ g p.it = ap g e in
            absurd (omega arith)

    back_rest : (b : Y) → IsAmong b ys → HasPartnerIn (λ v u. R u v) b (x ∷ xs) → HasPartnerIn (λ v u. R u v) b xs
    back_rest b k p = on p.among
      where
        on : (x ≡ p.it) ⊎ IsAmong p.it xs → HasPartnerIn (λ v u. R u v) b xs
        on (inr m) = record { it = p.it; among = m; pair = p.pair }
        on (inl e) =
            let c : g y < g b = hy.0 b k in
            let l : f x < f p.it = (order x y p.it b first p.pair).1 c in
            let u : f x ≡ f p.it = ap f e in
            absurd (omega arith)
