-- Tiles that are joined, and the bytes in which they stand.
use Rattle.std.proofs.Common.{◌≡◌, ◌∙◌, ℕ, zero, suc, List, [], ◌∷◌, ◌++◌, length, refl, sym, ap, subst, arith, ◌⊎◌, inl, inr, ℤ}
use Rattle.std.specs.Prelude.{Some, slice_get, Result, Ok, Err, IfOk, IfErr}
use Rattle.std.specs.List.{All, flat_map}
use Rattle.std.proofs.lemmas.Option.{none-some, same_Some}
use Rattle.lemmas.proofs.Exported.{IsAmong}
use Rattle.comp_tree.specs.declared.shape.Shape.{Shape}
use Rattle.comp_tree.specs.Raster.{Raster, IsPlane}
use Rattle.source_pick.specs.declared.catalogue.CatRow.{CatRow}
use Rattle.source_pick.specs.Catalogue.{cells_of, FitsColumns}
use Rattle.tree_products.specs.declared.detection.Detection.{Detection}
use Rattle.tree_products.specs.Catalogues.{hdus, IsDetection, detected_hdus}
use Rattle.tile_laws.specs.Pieces.{DetectionChoice, searched, detected, mapped}
use Rattle.tile_join.specs.declared.tiles.TileCatalogue.{TileCatalogue}
use Rattle.tile_join.specs.Tiles.{IsWritableRow, rows_of_tiles, AreJoinable}
use Rattle.tile_join.specs.Joins.{joined_rows, joined_map}
use Rattle.tile_join.specs.Made.{IsTileMade, AreTilesMade}
use Rattle.tile_file.specs.TileFiles.{bytes_of_tiles, IsTileFile}
use Rattle.tile_file.specs.Laws.{AreSameTiles, TileFilesAreToldApart}
use Rattle.join_top.specs.declared.ends.JoinRefusal.TheVariants.{NotTiles, Unjoinable}
use Rattle.join_top.specs.declared.making.MakeStop.{MakeStop}
use Rattle.join_top.specs.declared.making.MakeStop.TheVariants.{Refused, NoMemory}
use Rattle.join_top.specs.Joinings.{AreTilesIn, joined_hdus, IsJoinedOutput}
use Rattle.join_top.specs.Making.{IsWholeOf, IsJoinedDetection, IsStopOfTiles, IsMakeStopOf}
use Rattle.join_top.proofs.Images.{made_same, written_of_image}
use Rattle.join_top.proofs.Storing.{joined_detection}

-- ---- the rows of tiles

append_cases : {X : Type 0} (y : X) (us vs : List X) → IsAmong y (us ++ vs) → IsAmong y us ⊎ IsAmong y vs
append_cases y [] vs m = inr m
append_cases y (u ∷ us) vs (inl e) = inl (inl e)
append_cases y (u ∷ us) vs (inr m) = elim (append_cases y us vs m) [ inl k ↦ inl (inr k) | inr k ↦ inr k ]

all_at : {X : Type 0} (P : X → Type 0) (xs : List X) (x : X) → All P xs → IsAmong x xs → P x
all_at P [] x all m = absurd m
all_at P (y ∷ xs) x all (inl e) = subst P e (all 0 y (omega arith))
all_at P (y ∷ xs) x all (inr m) = all_at P xs x (λ k d h. all (suc k) d (omega (arith, h))) m

rows_fit : (tiles : List TileCatalogue) → All IsTileFile tiles → (row : CatRow) → IsAmong row (rows_of_tiles tiles) → FitsColumns row
rows_fit [] files row m = absurd m
rows_fit (t ∷ tiles) files row m =
    by (append_cases row t.rows.items (rows_of_tiles tiles) m) (rows_fit tiles (λ k d h. files (suc k) d (omega (arith, h))) row)
  where
    by : IsAmong row t.rows.items ⊎ IsAmong row (rows_of_tiles tiles) → (IsAmong row (rows_of_tiles tiles) → FitsColumns row) → FitsColumns row
    by (inl k) rest =
        let file : IsTileFile t = files 0 t (omega arith) in
        let fits : IsWritableRow row = all_at IsWritableRow t.rows.items row file.rows.fit k in
        fits.columns
    by (inr k) rest = rest k

-- what `join` answers to tiles, as a map and cells
pub joined_found : (whole : Shape) (tiles : List TileCatalogue) (rows : List CatRow) (numbers : List ℕ) (cells : List ℤ) → All IsTileFile tiles
    → AreJoinable whole tiles → rows ≡ joined_rows whole tiles → numbers ≡ joined_map whole tiles
    → ((d : DetectionChoice) (r : Raster) → IsPlane r → r.shape ≡ whole → AreTilesMade d r tiles → (rows ≡ detected d r) × (numbers ≡ mapped d r))
    → cells ≡ flat_map cells_of rows → IsJoinedDetection whole tiles numbers cells
unfolding joined_hdus
joined_found whole tiles rows numbers cells files joinable rows_are numbers_are image cells_are =
    let table : cells ≡ flat_map cells_of (joined_rows whole tiles) = cells_are ∙ ap (flat_map cells_of) rows_are in
    record {
      joinable = joinable;
      output = ap (λ n. hdus whole n cells) numbers_are ∙ ap (hdus whole (joined_map whole tiles)) table;
      image = λ d r plane shape made.
          let found = image d r plane shape made in
          ap (hdus whole numbers) cells_are ∙ written_of_image d r whole rows numbers (sym shape) found.0 found.1;
      writable =
          subst (λ n. IsDetection whole n cells) (sym numbers_are)
          (subst (IsDetection whole (joined_map whole tiles)) (sym table)
          (joined_detection whole tiles (omega (arith, whole.within_limits.few_pixels)) joinable (rows_fit tiles files)));
    }

-- ---- bytes

-- tiles that tell the same are made of the same image
all_made : (d : DetectionChoice) (r : Raster) (ts us : List TileCatalogue) → AreSameTiles ts us → AreTilesMade d r us → AreTilesMade d r ts
all_made d r [] us same made i t at = absurd (none-some t at)
all_made d r (t ∷ ts) [] same made i t' at = absurd same
all_made d r (t ∷ ts) (u ∷ us) same made zero t' at =
    subst (IsTileMade d r) (same_Some t t' at)
    (made_same d r t u same.0.whole same.0.window same.0.core same.0.boxes same.0.rows same.0.numbers (made 0 u refl))
all_made d r (t ∷ ts) (u ∷ us) same made (suc i) t' at = all_made d r ts us same.1 (λ j v a. made (suc j) v a) i t' at

-- the first ones say the same shape
same_whole : (ts us : List TileCatalogue) (t u : TileCatalogue) → AreSameTiles ts us → slice_get ts 0 ≡ Some t → slice_get us 0 ≡ Some u → t.whole ≡ u.whole
same_whole [] us t u same a b = absurd (none-some t a)
same_whole (t' ∷ ts) [] t u same a b = absurd same
same_whole (t' ∷ ts) (u' ∷ us) t u same a b =
    sym (ap (λ (x : TileCatalogue). x.whole) (same_Some t' t a)) ∙ same.0.whole ∙ ap (λ (x : TileCatalogue). x.whole) (same_Some u' u b)

-- where no tile was read, the bytes are those of none
pub no_tiles_in : TileFilesAreToldApart → (bytes : List ℕ) (whole : Shape) (ts us : List TileCatalogue) → All IsTileFile ts → bytes ≡ bytes_of_tiles ts
    → length ts ≡ 0 → AreTilesIn bytes whole us → ⊥
no_tiles_in apart bytes whole [] [] files are none given = none-some given.first given.at
no_tiles_in apart bytes whole [] (u ∷ us) files are none given = apart [] (u ∷ us) files given.files (sym are ∙ given.bytes_are)
no_tiles_in apart bytes whole (t ∷ ts) us files are none given = absurd (omega (arith, none))

pub tiles_in : (bytes : List ℕ) (whole : Shape) (ts : List TileCatalogue) → All IsTileFile ts → bytes ≡ bytes_of_tiles ts → IsWholeOf ts whole
    → AreTilesIn bytes whole ts
tiles_in bytes whole ts files are first =
    record { first = first.first; at = first.at; whole_is = first.whole_is; files = files; bytes_are = are }

-- ---- what is made of bytes

module _ (bytes : List ℕ) (whole : Shape) (ts : List TileCatalogue) (are : AreTilesIn bytes whole ts) where
  pub output_of_tiles : (r : Result Detection MakeStop) → IfOk r (λ found. found.shape ≡ whole)
      → IfOk r (λ found. IsJoinedDetection whole ts found.map.items found.cells.items)
      → IfOk r (λ found. IsJoinedOutput bytes (hdus found.shape found.map.items found.cells.items))
  output_of_tiles (Ok found) shape joined = record {
    whole = whole;
    tiles = ts;
    are_tiles = are;
    joinable = joined.joinable;
    output_is = ap (λ s. hdus s found.map.items found.cells.items) shape ∙ joined.output;
  }
  output_of_tiles (Err stop) shape joined = tt

  pub image_of_tiles : TileFilesAreToldApart → (r : Result Detection MakeStop) → IfOk r (λ found. found.shape ≡ whole)
      → IfOk r (λ found. IsJoinedDetection whole ts found.map.items found.cells.items)
      → IfOk r (λ found. (d : DetectionChoice) (q : Raster) (us : List TileCatalogue) → IsPlane q → AreTilesIn bytes q.shape us → AreTilesMade d q us
      → hdus found.shape found.map.items found.cells.items ≡ detected_hdus (searched d q) d.connect d.choice)
  image_of_tiles apart (Ok found) shape joined = λ d q us plane given made.
      let same : AreSameTiles ts us = apart ts us are.files given.files (sym are.bytes_are ∙ given.bytes_are) in
      let one : q.shape ≡ whole = given.whole_is ∙ sym (same_whole ts us are.first given.first same are.at given.at) ∙ sym are.whole_is in
      ap (λ s. hdus s found.map.items found.cells.items) shape ∙ joined.image d q plane one (all_made d q ts us same made)
  image_of_tiles apart (Err stop) shape joined = tt

  pub writable_of_tiles : (r : Result Detection MakeStop) → IfOk r (λ found. found.shape ≡ whole)
      → IfOk r (λ found. IsJoinedDetection whole ts found.map.items found.cells.items)
      → IfOk r (λ found. IsDetection found.shape found.map.items found.cells.items)
  writable_of_tiles (Ok found) shape joined = subst (λ s. IsDetection s found.map.items found.cells.items) (sym shape) joined.writable
  writable_of_tiles (Err stop) shape joined = tt

  pub stop_of_tiles : (r : Result Detection MakeStop) → IfErr r (IsStopOfTiles whole ts) → IfErr r (IsMakeStopOf bytes)
  stop_of_tiles (Ok found) stop = tt
  stop_of_tiles (Err (Refused NotTiles)) stop = absurd stop
  stop_of_tiles (Err (Refused (Unjoinable fault))) stop = (whole, ts, are, stop)
  stop_of_tiles (Err NoMemory) stop = tt
