-- What is joined can be written.
use Rattle.std.proofs.Common.{◌≡◌, ◌∙◌, ℕ, ◌*◌, ◌≤◌, List, [], ◌∷◌, length, refl, subst, sym, arith, inl, inr}
use Rattle.std.specs.List.{AllByRecursion, flat_map, enumerate_from}
use Rattle.std.proofs.lemmas.Int.{ints}
use Rattle.std.proofs.lemmas.List.{length-map}
use Rattle.std.proofs.lemmas.List.FromFn.{length-enumerate_from, length-map-range_with_len}
use Rattle.lemmas.proofs.Exported.{IsAmong, all_from_among}
use Rattle.comp_tree.specs.declared.shape.Shape.{Shape}
use Rattle.fits_write.specs.CatalogueColumns.{catalogue_columns}
use Rattle.fits_write.proofs.Exported.{FitEach, catalogue_are_columns, rows_are_table}
use Rattle.source_pick.specs.declared.catalogue.CatRow.{CatRow}
use Rattle.source_pick.specs.Catalogue.{cells_of, FitsColumns}
use Rattle.source_pick.proofs.Exported.{row_fits}
use Rattle.tree_products.specs.Catalogues.{IsDetection}
use Rattle.tile_laws.specs.Pieces.{numbered_rows, row_with_number}
use Rattle.tile_join.specs.declared.tiles.TileCatalogue.{TileCatalogue}
use Rattle.tile_join.specs.Tiles.{rows_of_tiles, AreJoinable}
use Rattle.tile_join.specs.Joins.{rows_in_order, joined_rows, number_joined_at, joined_map}
use Rattle.tile_join.proofs.Exported.{rows_are_few, IsRenumbered, joined_row_from, row_of_tiles, numbers_are_small}

all_by_among : {X : Type 0} (P : X → Type 0) (xs : List X) → ((x : X) → IsAmong x xs → P x) → AllByRecursion P xs
all_by_among P [] each = tt
all_by_among P (x ∷ xs) each = (each x (inl refl), all_by_among P xs (λ y m. each y (inr m)))

-- a row fits its columns with another number, too, if this is small
fits_renumbered : (number : ℕ) (row : CatRow) → number ≤ 2147483647 → FitsColumns row → FitsColumns (row_with_number number row)
fits_renumbered number row few fits = record {
  number = record { low = omega (arith, ints); high = omega (arith, ints, few) };
  area = fits.area;
  xmin = fits.xmin;
  xmax = fits.xmax;
  ymin = fits.ymin;
  ymax = fits.ymax;
  xfirst = fits.xfirst;
  yfirst = fits.yfirst;
  xcen = fits.xcen;
  ycen = fits.ycen;
}

length-joined : (whole : Shape) (tiles : List TileCatalogue) → length (joined_rows whole tiles) ≡ length (rows_in_order whole tiles)
unfolding numbered_rows
length-joined whole tiles =
    length-map (enumerate_from 1 (rows_in_order whole tiles)) (λ e. row_with_number e.0 e.1) ∙ length-enumerate_from 1 (rows_in_order whole tiles)

length-joined_map : (whole : Shape) (tiles : List TileCatalogue) → length (joined_map whole tiles) ≡ whole.width * whole.height
unfolding joined_map
length-joined_map whole tiles = length-map-range_with_len (number_joined_at whole tiles) 0 (whole.width * whole.height)

-- the rows of tiles fit their columns, so those that are joined do
joined_fit : (whole : Shape) (tiles : List TileCatalogue) → whole.width * whole.height ≤ 2147483647 → AreJoinable whole tiles
    → ((row : CatRow) → IsAmong row (rows_of_tiles tiles) → FitsColumns row) → (row : CatRow) → IsAmong row (joined_rows whole tiles) → FitsColumns row
joined_fit whole tiles few joinable fit row m =
    let g : IsRenumbered (rows_in_order whole tiles) 1 row = joined_row_from whole tiles row m in
    let rows : length (rows_in_order whole tiles) ≤ whole.width * whole.height = rows_are_few whole tiles joinable in
    subst FitsColumns (sym g.row_is)
    (fits_renumbered g.number g.other (omega (arith, g.high, rows, few)) (fit g.other (row_of_tiles whole tiles g.other g.among)))

-- a map and a catalogue that are joined can be written
pub joined_detection : (whole : Shape) (tiles : List TileCatalogue) → whole.width * whole.height ≤ 2147483647 → AreJoinable whole tiles
    → ((row : CatRow) → IsAmong row (rows_of_tiles tiles) → FitsColumns row)
    → IsDetection whole (joined_map whole tiles) (flat_map cells_of (joined_rows whole tiles))
joined_detection whole tiles few joinable fit =
    let rows : length (rows_in_order whole tiles) ≤ whole.width * whole.height = rows_are_few whole tiles joinable in
    record {
      one_each = length-joined_map whole tiles;
      small = all_from_among (λ n. n ≤ 2147483647) (joined_map whole tiles)
          (λ n m. let k : n ≤ length (rows_in_order whole tiles) = numbers_are_small whole tiles n m in omega (arith, k, rows, few));
      table =
          rows_are_table catalogue_columns cells_of (joined_rows whole tiles) catalogue_are_columns
          (all_by_among (λ row. FitEach catalogue_columns (cells_of row)) (joined_rows whole tiles)
          (λ row m. row_fits row (joined_fit whole tiles few joinable fit row m)))
          (omega (arith, length-joined whole tiles, rows, few));
    }
