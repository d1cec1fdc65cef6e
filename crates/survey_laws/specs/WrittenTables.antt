-- Model: what is written behind an empty primary, a map and then a table, is found again.
use Rattle.std.specs.Prelude.{◌≡◌, ℕ, ◌+◌, ◌*◌, ◌/◌, ◌≤◌, true, List, ◌++◌, length, pos, None, ℤ}
use Rattle.std.specs.List.{AllByRecursion}
use Rattle.comp_tree.specs.declared.shape.Shape.{Shape}
use Rattle.fits_card.specs.declared.number.Whole.TheVariants.{Is}
use Rattle.fits_hdu.specs.declared.answer.Hdu.{Hdu}
use Rattle.fits_hdu.specs.declared.answer.Kind.TheVariants.{Other}
use Rattle.fits_hdu.specs.Headers.{found, most_data}
use Rattle.fits_hdu.specs.Finding.{find_of}
use Rattle.fits_write.specs.declared.table.Column.{Column}
use Rattle.fits_write.specs.Columns.{row_size, IsTable}
use Rattle.fits_write.specs.Hdus.{header, table_cards, empty_primary, map_hdu, table_hdu}

-- what the header of a table with these columns and so many rows says
abbrev pub table_said : List Column → ℕ → Hdu
table_said columns rows = record {
  kind = Other;
  bitpix = pos 8;
  naxis = 2;
  width = row_size columns;
  height = rows;
  flat = true;
  data_bytes = row_size columns * rows;
  bscale = Is (pos 1);
  bzero = Is (pos 0);
  blank = None;
}

-- the place where the data of a table begin that stands behind an empty primary and a map
abbrev pub table_start : Shape → List ℕ → List Column → ℕ → ℕ
table_start shape numbers columns rows =
    length empty_primary + (length (map_hdu shape numbers) + length (header (table_cards columns rows)))

-- The HDUs of a map and a table stand behind the primary HDU, whatever follows. HDU 2 is that table. The names of its columns fit their cards, and its data
-- are no more bytes than an HDU may have, as those of 2 ^ 24 rows in any columns, and of all rows that can be in those of a catalogue.
abbrev pub WrittenTableIsFound : Type 0
WrittenTableIsFound =
    (shape : Shape) (numbers : List ℕ) (columns : List Column) (cells : List ℤ) (rest : List ℕ)
    → length numbers ≡ shape.width * shape.height → IsTable columns cells
    → AllByRecursion (λ column. length column.name ≤ 68) columns
    → row_size columns * (length cells / length columns) ≤ most_data
    → find_of (empty_primary ++ (map_hdu shape numbers ++ (table_hdu columns cells ++ rest))) 2
    ≡ found (table_said columns (length cells / length columns)) (table_start shape numbers columns (length cells / length columns))
