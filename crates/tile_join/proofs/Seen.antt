-- The first tiles, one tile more, and all of them.
use Rattle.std.proofs.Common.{◌≡◌, ℕ, ◌+◌, ◌<◌, ◌≤◌, ◌⊎◌, inl, inr, true, List, [], length, sym, ◌∙◌, ap, subst, arith}
use Rattle.std.specs.Prelude.{Some, slice_get}
use Rattle.std.proofs.lemmas.Bool.{cases_eq}
use Rattle.std.proofs.lemmas.Option.{same_Some}
use Rattle.comp_tree.specs.declared.shape.Shape.{Shape}
use Rattle.tile_join.specs.declared.tiles.TileCatalogue.{TileCatalogue}
use Rattle.tile_join.specs.Tiles.{fits_image}
use Rattle.tile_join.specs.Marks.{AreFitting, AreKnown}

-- what holds of the first tiles and of the next one
one_more : (P : TileCatalogue → Type 0) (tiles : List TileCatalogue) (count : ℕ) (t : TileCatalogue)
    → ((i : ℕ) (u : TileCatalogue) → i < count → slice_get tiles i ≡ Some u → P u) → slice_get tiles count ≡ Some t → P t
    → (i : ℕ) (u : TileCatalogue) → i < count + 1 → slice_get tiles i ≡ Some u → P u
one_more P tiles count t h at p i u l g = go (cases_eq i count)
  where
    go : (i ≡ count) ⊎ (i ≡ count → ⊥) → P u
    go (inl e) = subst P (same_Some t u (sym at ∙ ap (slice_get tiles) (sym e) ∙ g)) p
    go (inr n) = h i u (omega arith) g

pub fitting_more : (whole : Shape) (tiles : List TileCatalogue) (count : ℕ) (t : TileCatalogue) → AreFitting whole tiles count
    → slice_get tiles count ≡ Some t → fits_image whole t ≡ true → AreFitting whole tiles (count + 1)
fitting_more whole tiles count t h at e = one_more (λ u. fits_image whole u ≡ true) tiles count t h at e

pub fitting_all : (whole : Shape) (tiles : List TileCatalogue) (count : ℕ) → AreFitting whole tiles count → length tiles ≤ count
    → AreFitting whole tiles (length tiles)
fitting_all whole tiles count h l = λ i t k g. h i t (omega arith) g

pub known_more : (tiles : List TileCatalogue) (count : ℕ) (t : TileCatalogue) → AreKnown tiles count → slice_get tiles count ≡ Some t
    → t.open.items ≡ [] → AreKnown tiles (count + 1)
known_more tiles count t h at e = one_more (λ u. u.open.items ≡ []) tiles count t h at e

pub known_all : (tiles : List TileCatalogue) (count : ℕ) → AreKnown tiles count → length tiles ≤ count → AreKnown tiles (length tiles)
known_all tiles count h l = λ i t k g. h i t (omega arith) g
