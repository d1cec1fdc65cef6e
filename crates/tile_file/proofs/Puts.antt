-- A tile on its way to a file.
use Rattle.std.proofs.Common.{◌≡◌, ap₂, sym, subst, subst₂, ℕ, List, ◌++◌, flat_map, Option, Result, ℤ}
use Rattle.std.specs.Prelude.{codes}
use Rattle.std.specs.Io.KnownBytes.{Appends}
use Rattle.dev_io.specs.Streams.{PutAppends}
use Rattle.dev_io.specs.Laws.{PutAppends-after}
use Rattle.fits_write.specs.declared.table.Column.{Column}
use Rattle.fits_write.specs.Columns.{IsTable}
use Rattle.fits_write.specs.CatalogueColumns.{catalogue_columns}
use Rattle.fits_write.specs.Hdus.{empty_primary, named_hdu, map_hdu, table_hdu}
use Rattle.source_pick.specs.Catalogue.{cells_of}
use Rattle.tile_join.specs.declared.tiles.TileCatalogue.{TileCatalogue}
use Rattle.tile_file.specs.declared.writing.TileFile.{TileFile}
use Rattle.tile_file.specs.TileFiles.{box_columns, box_cells, tile_extents, boxes_hdu, rows_hdu, tile_hdus, tile_bytes, IsTileFile, file_bytes}
use Rattle.tile_file.proofs.Extents.{extents_table}
use Rattle.tile_file.proofs.CatalogueCells.{rows_table}

pub file_is : (t : TileCatalogue) (boxes rows : List ℤ) → boxes ≡ flat_map box_cells (tile_extents t.whole t.window t.core t.open.items)
    → rows ≡ flat_map cells_of t.rows.items
    → empty_primary ++ (named_hdu (codes "TILE") box_columns boxes ++ (map_hdu t.window.shape t.map.items ++ table_hdu catalogue_columns rows)) ≡ tile_bytes t
unfolding tile_hdus boxes_hdu rows_hdu
file_is t boxes rows boxes_are rows_are =
    ap₂ (λ b r. empty_primary ++ (named_hdu (codes "TILE") box_columns b ++ (map_hdu t.window.shape t.map.items ++ table_hdu catalogue_columns r))) boxes_are
    rows_are

pub can_be_put : (t : TileCatalogue) (boxes rows : List ℤ) → IsTileFile t → boxes ≡ flat_map box_cells (tile_extents t.whole t.window t.core t.open.items)
    → rows ≡ flat_map cells_of t.rows.items → IsTable box_columns boxes × IsTable catalogue_columns rows
can_be_put t boxes rows is boxes_are rows_are = (
  subst (IsTable box_columns) (sym boxes_are) (extents_table t.whole t.window t.core t.open.items is.boxes),
  subst (IsTable catalogue_columns) (sym rows_are) (rows_table t.rows.items is.rows),
)

-- the HDUs were put one behind the other
pub all_put : {T E : Type 0} (a b c d : Option (List ℕ)) (r : Result T E) (f : TileFile) (columns : List Column) (cells : List ℤ) → Appends a b empty_primary
    → Appends b c (named_hdu (codes "TILE") columns cells) → PutAppends c d r (map_hdu f.shape f.numbers.items ++ table_hdu catalogue_columns f.rows.items)
    → columns ≡ box_columns → cells ≡ f.boxes.items → PutAppends a d r (file_bytes f)
all_put a b c d r f columns cells first second third same_columns same_cells =
    let back = map_hdu f.shape f.numbers.items ++ table_hdu catalogue_columns f.rows.items in
    PutAppends-after a b d r empty_primary (named_hdu (codes "TILE") box_columns f.boxes.items ++ back) first
    (PutAppends-after b c d r (named_hdu (codes "TILE") box_columns f.boxes.items) back
    (subst₂ (λ l z. Appends b c (named_hdu (codes "TILE") l z)) same_columns same_cells second) third)
