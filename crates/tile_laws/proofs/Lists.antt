-- Members of lists, lists that rise by a number of each member, and lists with numbers before their members.
use Rattle.std.proofs.Common.{◌≡◌, ℕ, ◌+◌, ◌<◌, zero, suc, List, [], ◌∷◌, map, refl, sym, ◌∙◌, ap, arith, ◌⊎◌, inl, inr}
use Rattle.std.specs.Prelude.{Some, None, slice_get}
use Rattle.std.specs.List.{enumerate_from}
use Rattle.std.proofs.lemmas.Option.{same_Some}
use Rattle.lemmas.proofs.Exported.{IsAmong, IsRisingBy}

-- ---- members

pub get_among : {X : Type 0} (x : X) (xs : List X) (j : ℕ) → slice_get xs j ≡ Some x → IsAmong x xs
get_among x [] j e = absurd (no_member e)
  where
    no_member : {X : Type 0} {x : X} → None ≡ Some x → ⊥
    no_member e = cc
get_among x (y ∷ xs) zero e = inl (same_Some y x e)
get_among x (y ∷ xs) (suc j) e = inr (get_among x xs j e)

-- a member of a list that is made of another one's members
pub record IsImageOf {X Y : Type 0} (f : X → Y) (y : Y) (xs : List X) : Type 0 where
  pub it : X
  pub among : IsAmong it xs
  pub image : f it ≡ y

pub image_of : {X Y : Type 0} (f : X → Y) (y : Y) (xs : List X) → IsAmong y (map f xs) → IsImageOf f y xs
image_of f y [] h = absurd h
image_of f y (x ∷ xs) (inl e) = record { it = x; among = inl refl; image = e }
image_of f y (x ∷ xs) (inr h) = let k : IsImageOf f y xs = image_of f y xs h in record { it = k.it; among = inr k.among; image = k.image }

-- ---- lists that rise by a number of each member

-- two such lists with the same members are the same
pub rising_equal : {X : Type 0} (f : X → ℕ) (xs ys : List X) → IsRisingBy f xs → IsRisingBy f ys → ((x : X) → IsAmong x xs → IsAmong x ys)
    → ((y : X) → IsAmong y ys → IsAmong y xs)
    → xs ≡ ys
rising_equal f [] [] hx hy there back = refl
rising_equal f [] (y ∷ ys) hx hy there back = absurd (back y (inl refl))
rising_equal f (x ∷ xs) [] hx hy there back = absurd (there x (inl refl))
rising_equal {X} f (x ∷ xs) (y ∷ ys) hx hy there back =
    ap (λ (z : X). z ∷ xs) (sym first)
    ∙ ap (λ (zs : List X). y ∷ zs) (rising_equal f xs ys hx.1 hy.1 (λ a k. there_rest a k (there a (inr k))) (λ b k. back_rest b k (back b (inr k))))
  where
    go : (y ≡ x) ⊎ IsAmong x ys → (x ≡ y) ⊎ IsAmong y xs → y ≡ x
    go (inl e) k = e
    go (inr m) (inl e) = sym e
    go (inr m) (inr k) = let a : f y < f x = hy.0 x m in let b : f x < f y = hx.0 y k in absurd (omega arith)

    first : y ≡ x
    first = go (there x (inl refl)) (back y (inl refl))

    there_rest : (a : X) → IsAmong a xs → (y ≡ a) ⊎ IsAmong a ys → IsAmong a ys
    there_rest a k (inr m) = m
    there_rest a k (inl e) = let b : f x < f a = hx.0 a k in let c : f x ≡ f a = ap f (sym first ∙ e) in absurd (omega arith)

    back_rest : (b : X) → IsAmong b ys → (x ≡ b) ⊎ IsAmong b xs → IsAmong b xs
    back_rest b k (inr m) = m
    back_rest b k (inl e) = let c : f y < f b = hy.0 b k in let d : f y ≡ f b = ap f (first ∙ e) in absurd (omega arith)

-- ---- members with numbers before them

module _ {X Y : Type 0} (row : ℕ → X → Y) where
  -- each member is made into one with its number
  abbrev pub rows_from : ℕ → List X → List Y
  rows_from k xs = map (λ e. row e.0 e.1) (enumerate_from k xs)

  -- a member of the new list, and the place of the old one from which it was made
  pub record IsRowOf (k : ℕ) (y : Y) (xs : List X) : Type 0 where
    pub index : ℕ
    pub it : X
    pub at : slice_get xs index ≡ Some it
    pub image : row (index + k) it ≡ y

  pub row_of : (k : ℕ) (y : Y) (xs : List X) → IsAmong y (rows_from k xs) → IsRowOf k y xs
  row_of k y [] h = absurd h
  row_of k y (x ∷ xs) (inl e) = record { index = 0; it = x; at = refl; image = ap (λ (n : ℕ). row n x) (omega arith) ∙ e }
  row_of k y (x ∷ xs) (inr h) =
      let g : IsRowOf (k + 1) y xs = row_of (k + 1) y xs h in
      record { index = suc g.index; it = g.it; at = g.at; image = ap (λ (n : ℕ). row n g.it) (omega arith) ∙ g.image }

  pub get_rows : (k : ℕ) (xs : List X) (i : ℕ) (x : X) → slice_get xs i ≡ Some x → slice_get (rows_from k xs) i ≡ Some (row (i + k) x)
  get_rows k [] i x e = absurd (no_member e)
    where
      no_member : None ≡ Some x → ⊥
      no_member e = cc
  get_rows k (y ∷ xs) zero x e = ap (λ (n : ℕ). Some (row n y)) (omega arith) ∙ ap (λ (z : X). Some (row (0 + k) z)) (same_Some y x e)
  get_rows k (y ∷ xs) (suc i) x e = get_rows (k + 1) xs i x e ∙ ap (λ (n : ℕ). Some (row n x)) (omega arith)

  pub row_at : (k : ℕ) (y : Y) (xs : List X) (i : ℕ) → slice_get (rows_from k xs) i ≡ Some y → (x : X) × (slice_get xs i ≡ Some x) × (row (i + k) x ≡ y)
  row_at k y [] i e = absurd (no_member e)
    where
      no_member : None ≡ Some y → ⊥
      no_member e = cc
  row_at k y (x ∷ xs) zero e = (x, refl, ap (λ (n : ℕ). row n x) (omega arith) ∙ same_Some (row k x) y e)
  row_at k y (x ∷ xs) (suc i) e =
      let g : (x : X) × (slice_get xs i ≡ Some x) × (row (i + (k + 1)) x ≡ y) = row_at (k + 1) y xs i e in
      (g.0, g.1, ap (λ (n : ℕ). row n g.0) (omega arith) ∙ g.2)

  module _ (f : Y → ℕ) (g : X → ℕ) (same : (k : ℕ) (x : X) → f (row k x) ≡ g x) where
    pub rising_rows : (k : ℕ) (xs : List X) → IsRisingBy g xs → IsRisingBy f (rows_from k xs)
    rising_rows k [] h = tt
    rising_rows k (x ∷ xs) h = (
      (λ y m. let e : IsRowOf (k + 1) y xs = row_of (k + 1) y xs m in let l : g x < g e.it = h.0 e.it (get_among e.it xs e.index e.at) in
          let a : f (row k x) ≡ g x = same k x in let b : f y ≡ g e.it = ap f (sym e.image) ∙ same (e.index + (k + 1)) e.it in omega (arith, l, a, b)),
      rising_rows (k + 1) xs h.1,
    )
