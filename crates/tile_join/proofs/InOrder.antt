-- The rows of all tiles in the order of their first pixels.
use Rattle.std.proofs.Common.{◌≡◌, ℕ, ◌+◌, ◌*◌, ◌<◌, ◌≤◌, zero, suc, Bool, true, false, cond, List, [], ◌∷◌, ◌++◌, refl, sym, ◌∙◌, subst, arith, ◌⊎◌, inl, inr}
use Rattle.std.specs.Prelude.{IsTrue, ◌==◌, filter, flat_map, Some, slice_get}
use Rattle.std.specs.List.{range_with_len}
use Rattle.std.proofs.lemmas.Bool.{eq-eqb, eqb-true}
use Rattle.lemmas.proofs.Exported.{IsAmong, IsRisingBy, among-flat_map, among-filter, among-range, among_from_filter, among_from_range, among_get}
use Rattle.comp_tree.specs.declared.shape.Shape.{Shape}
use Rattle.source_pick.specs.declared.catalogue.CatRow.{CatRow}
use Rattle.tile_laws.specs.Pieces.{first_pixel}
use Rattle.tile_join.specs.declared.tiles.TileCatalogue.{TileCatalogue}
use Rattle.tile_join.specs.Tiles.{rows_of_tiles}
use Rattle.tile_join.specs.Joins.{rows_first_at, rows_in_order}

-- ---- lists

rising_append : {X : Type 0} (f : X → ℕ) (xs ys : List X) → IsRisingBy f xs → IsRisingBy f ys
    → ((x y : X) → IsAmong x xs → IsAmong y ys → f x < f y) → IsRisingBy f (xs ++ ys)
rising_append f [] ys hx hy apart = hy
rising_append {X} f (x ∷ xs) ys hx hy apart = (
  (λ y m. go y (append_cases y xs ys m)),
  rising_append f xs ys hx.1 hy (λ a b k l. apart a b (inr k) l),
)
  where
    append_cases : (y : X) (us vs : List X) → IsAmong y (us ++ vs) → IsAmong y us ⊎ IsAmong y vs
    append_cases y [] vs m = inr m
    append_cases y (u ∷ us) vs (inl e) = inl (inl e)
    append_cases y (u ∷ us) vs (inr m) = elim (append_cases y us vs m) [ inl k ↦ inl (inr k) | inr k ↦ inr k ]

    go : (y : X) → IsAmong y xs ⊎ IsAmong y ys → f x < f y
    go y (inl k) = hx.0 y k
    go y (inr k) = apart x y (inl refl) k

-- a member of a list that is made of lists, and from which of them it is
pub record IsFromList {X Y : Type 0} (f : X → List Y) (y : Y) (xs : List X) : Type 0 where
  pub it : X
  pub among : IsAmong it xs
  pub of : IsAmong y (f it)

pub from_list : {X Y : Type 0} (f : X → List Y) (y : Y) (xs : List X) → IsAmong y (flat_map f xs) → IsFromList f y xs
from_list f y [] m = absurd m
from_list {X} {Y} f y (x ∷ xs) m = go (f x) refl (from_list f y xs) m
  where
    here : (ys : List Y) → IsAmong y (ys ++ flat_map f xs) → IsAmong y ys ⊎ IsAmong y (flat_map f xs)
    here [] k = inr k
    here (z ∷ ys) (inl e) = inl (inl e)
    here (z ∷ ys) (inr k) = elim (here ys k) [ inl l ↦ inl (inr l) | inr l ↦ inr l ]

    go : (ys : List Y) → f x ≡ ys → (IsAmong y (flat_map f xs) → IsFromList f y xs) → IsAmong y (ys ++ flat_map f xs) → IsFromList f y (x ∷ xs)
    go ys e rest k =
        elim (here ys k) [
          | inl l ↦ record { it = x; among = inl refl; of = subst (λ (zs : List Y). IsAmong y zs) (sym e) l }
          | inr l ↦ let g : IsFromList f y xs = rest l in record { it = g.it; among = inr g.among; of = g.of }
        ]

-- no two members have the same number
abbrev pub HaveOwnNumbers : {X : Type 0} → (X → ℕ) → List X → Type 0
HaveOwnNumbers {X} f xs = (i j : ℕ) (x y : X) → i < j → slice_get xs i ≡ Some x → slice_get xs j ≡ Some y → f x ≡ f y → ⊥

module _ {X : Type 0} (f : X → ℕ) where
  none_there : (p : ℕ) (xs : List X) → ((x : X) → IsAmong x xs → f x ≡ p → ⊥) → filter (λ x. f x == p) xs ≡ []
  none_there p [] none = refl
  none_there p (x ∷ xs) none = go (f x == p) refl (none_there p xs (λ y m. none y (inr m)))
    where
      go : (b : Bool) → f x == p ≡ b → filter (λ y. f y == p) xs ≡ [] → cond b (x ∷ filter (λ y. f y == p) xs) (filter (λ y. f y == p) xs) ≡ []
      go true e rest = absurd (none x (inl refl) (eqb-true (f x) p e))
      go false e rest = rest

  own_tail : (x : X) (xs : List X) → HaveOwnNumbers f (x ∷ xs) → HaveOwnNumbers f xs
  own_tail x xs own i j y z less a b = own (suc i) (suc j) y z (omega (arith, less)) a b

  own_head : (x : X) (xs : List X) → HaveOwnNumbers f (x ∷ xs) → (y : X) → IsAmong y xs → f x ≡ f y → ⊥
  own_head x xs own y m = let g : (j : ℕ) × (slice_get xs j ≡ Some y) = among_get y xs m in own 0 (suc g.0) x y (omega arith) refl g.1

  -- at most one of them has this number
  one_there : (p : ℕ) (xs : List X) → HaveOwnNumbers f xs → IsRisingBy f (filter (λ x. f x == p) xs)
  one_there p [] own = tt
  one_there p (x ∷ xs) own = go (f x == p) refl (one_there p xs (own_tail x xs own))
    where
      go : (b : Bool) → f x == p ≡ b → IsRisingBy f (filter (λ y. f y == p) xs)
          → IsRisingBy f (cond b (x ∷ filter (λ y. f y == p) xs) (filter (λ y. f y == p) xs))
      go true e rest =
          let no_more : filter (λ y. f y == p) xs ≡ [] =
          none_there p xs (λ y m k. own_head x xs own y m (eqb-true (f x) p e ∙ sym k)) in
          subst (λ (ys : List X). IsRisingBy f (x ∷ ys)) (sym no_more) ((λ y m. absurd m), tt)
      go false e rest = rest

  there : (p : ℕ) (xs : List X) (x : X) → IsAmong x (filter (λ y. f y == p) xs) → IsAmong x xs × (f x ≡ p)
  there p xs x m = let k : IsAmong x xs × IsTrue (f x == p) = among_from_filter (λ y. f y == p) x xs m in (k.0, eqb-true (f x) p k.1)

  -- those with a number of a range, by these numbers
  abbrev by_numbers : List X → ℕ → ℕ → List X
  by_numbers xs a n = flat_map (λ p. filter (λ x. f x == p) xs) (range_with_len a n)

  number_from_start : (xs : List X) (a n : ℕ) (x : X) → IsAmong x (by_numbers xs a n) → a ≤ f x
  number_from_start xs a zero x m = absurd m
  number_from_start xs a (suc n) x m =
      let g : IsFromList (λ p. filter (λ y. f y == p) xs) x (range_with_len a (suc n)) =
      from_list (λ p. filter (λ y. f y == p) xs) x (range_with_len a (suc n)) m in
      let k : f x ≡ g.it = (there g.it xs x g.of).1 in
      let low : (a ≤ g.it) × (g.it < a + suc n) = among_from_range a (suc n) g.it g.among in
      omega (arith, k, low.0)

  pub rising_by_numbers : (xs : List X) (a n : ℕ) → HaveOwnNumbers f xs → IsRisingBy f (by_numbers xs a n)
  rising_by_numbers xs a zero own = tt
  rising_by_numbers xs a (suc n) own =
      rising_append f (filter (λ x. f x == a) xs) (by_numbers xs (a + 1) n) (one_there a xs own) (rising_by_numbers xs (a + 1) n own)
      (λ x y k l. let e : f x ≡ a = (there a xs x k).1 in let m : a + 1 ≤ f y = number_from_start xs (a + 1) n y l in omega (arith, e, m))

  pub among_by_numbers : (xs : List X) (n : ℕ) (x : X) → IsAmong x xs → f x < n → IsAmong x (by_numbers xs 0 n)
  among_by_numbers xs n x m less =
      among-flat_map (λ p. filter (λ y. f y == p) xs) (f x) x (range_with_len 0 n) (among-range 0 n (f x) (omega arith) (omega (arith, less)))
      (among-filter (λ y. f y == f x) x xs m (eq-eqb (f x) (f x) refl))

  pub among_from_numbers : (xs : List X) (n : ℕ) (x : X) → IsAmong x (by_numbers xs 0 n) → IsAmong x xs
  among_from_numbers xs n x m =
      let g : IsFromList (λ p. filter (λ y. f y == p) xs) x (range_with_len 0 n) = from_list (λ p. filter (λ y. f y == p) xs) x (range_with_len 0 n) m in
      (there g.it xs x g.of).0

-- ---- the rows

module _ (whole : Shape) (tiles : List TileCatalogue) where
  abbrev first : CatRow → ℕ
  first = first_pixel whole.width

  pub rows_rise : HaveOwnNumbers first (rows_of_tiles tiles) → IsRisingBy first (rows_in_order whole tiles)
  unfolding rows_in_order rows_first_at
  rows_rise own = rising_by_numbers first (rows_of_tiles tiles) 0 (whole.width * whole.height) own

  pub among_in_order : (row : CatRow) → IsAmong row (rows_of_tiles tiles) → first row < whole.width * whole.height
      → IsAmong row (rows_in_order whole tiles)
  unfolding rows_in_order rows_first_at
  among_in_order row m less = among_by_numbers first (rows_of_tiles tiles) (whole.width * whole.height) row m less

  pub among_from_order : (row : CatRow) → IsAmong row (rows_in_order whole tiles) → IsAmong row (rows_of_tiles tiles)
  unfolding rows_in_order rows_first_at
  among_from_order row m = among_from_numbers first (rows_of_tiles tiles) (whole.width * whole.height) row m
