-- The cells are those of four boxes and of a row.
use Rattle.std.proofs.Common.{ℕ, ◌≤◌, List, [], ◌∷◌, pos, sym, subst, arith, flat_map}
use Rattle.std.specs.List.{AllByRecursion}
use Rattle.std.proofs.lemmas.Int.{ints}
use Rattle.fits_write.specs.declared.table.Column.{Column}
use Rattle.fits_write.specs.Columns.{IsTable}
use Rattle.fits_write.specs.CatalogueColumns.{catalogue_columns}
use Rattle.fits_write.proofs.Exported.{catalogue_are_columns, one_row}
use Rattle.source_pick.specs.declared.catalogue.CatRow.{CatRow}
use Rattle.source_pick.specs.Catalogue.{cells_of, FitsColumn}
use Rattle.source_pick.proofs.Exported.{row_fits}
use Rattle.tile_laws.specs.declared.extents.Extent.{Extent}
use Rattle.tile_file.specs.TileFiles.{box_columns, box_cells, HasEndsWithin}
use Rattle.tile_file.proofs.Extents.{boxes_table}
use Rattle.tile_file.proofs.tests.bytes_of_tile.Goals as goal

abbrev box : ℕ → ℕ → ℕ → ℕ → Extent
box left right top bottom = record { columns = record { from = left; to = right }; rows = record { from = top; to = bottom } }

ends : (left right top bottom : ℕ) → left ≤ 65535 → right ≤ 65535 → top ≤ 65535 → bottom ≤ 65535 → HasEndsWithin (box left right top bottom)
ends left right top bottom a b c d = record { left = a; right = b; top = c; bottom = d }

abbrev boxes : List Extent
boxes = box 0 8 0 2 ∷ box 2 8 0 2 ∷ box 3 6 0 2 ∷ box 6 8 1 2 ∷ []

boxes_end : AllByRecursion HasEndsWithin boxes
boxes_end = (
  ends 0 8 0 2 (omega arith) (omega arith) (omega arith) (omega arith),
  (
    ends 2 8 0 2 (omega arith) (omega arith) (omega arith) (omega arith),
    (
      ends 3 6 0 2 (omega arith) (omega arith) (omega arith) (omega arith),
      (ends 6 8 1 2 (omega arith) (omega arith) (omega arith) (omega arith), tt),
    ),
  ),
)

are_boxes : IsTable box_columns (flat_map box_cells boxes)
are_boxes = boxes_table boxes boxes_end (omega arith)

abbrev source : CatRow
source = record {
  number = pos 1;
  level = pos 9;
  base = pos 2;
  area = pos 3;
  flux = pos 21;
  peak = pos 9;
  xmin = pos 5;
  xmax = pos 6;
  ymin = pos 1;
  ymax = pos 2;
  xfirst = pos 5;
  yfirst = pos 1;
  xcen = pos 5333;
  ycen = pos 1333;
  xvar = pos 222;
  yvar = pos 222;
  xycov = pos 111;
}

small : (n : ℕ) → n ≤ 2147483647 → FitsColumn (pos n)
small n h = record { low = omega (arith, ints); high = omega (arith, ints) }

is_row : IsTable catalogue_columns (cells_of source)
is_row =
    one_row catalogue_columns (cells_of source) catalogue_are_columns
    (row_fits source (record {
      number = small 1 (omega arith);
      area = small 3 (omega arith);
      xmin = small 5 (omega arith);
      xmax = small 6 (omega arith);
      ymin = small 1 (omega arith);
      ymax = small 2 (omega arith);
      xfirst = small 5 (omega arith);
      yfirst = small 1 (omega arith);
      xcen = small 5333 (omega arith);
      ycen = small 1333 (omega arith);
    }))

pub put_named_table-requires-clause-table : goal.put_named_table-requires-clause-table
put_named_table-requires-clause-table c =
    subst (λ (l : List Column). IsTable l (flat_map box_cells boxes)) (sym c.box_columns.ensures) are_boxes

pub put_table-requires : goal.put_table-requires
put_table-requires c = subst (λ (l : List Column). IsTable l (cells_of source)) (sym c.catalogue_columns.ensures.columns) is_row
