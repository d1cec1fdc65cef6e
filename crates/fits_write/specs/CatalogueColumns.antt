-- Model: the columns of a catalogue, and how many cells and bytes a row of them has.
use Rattle.std.specs.Prelude.{ℕ, ◌+◌, List, [], ◌∷◌, ◌++◌, codes}
use Rattle.fits_write.specs.declared.table.Cell.{Cell}
use Rattle.fits_write.specs.declared.table.Cell.TheVariants.{J, K}
use Rattle.fits_write.specs.declared.table.Column.{Column}

abbrev pub column : List ℕ → Cell → Column
column name cell = record { name = name; cell = cell }

-- the columns of the catalogue
unfoldable pub catalogue_columns : List Column
catalogue_columns =
    column (codes "NUMBER  ") J
    ∷ column (codes "LEVEL   ") K
    ∷ column (codes "BASE    ") K
    ∷ column (codes "AREA    ") J
    ∷ column (codes "FLUX    ") K
    ∷ column (codes "PEAK    ") K
    ∷ column (codes "XMIN    ") J
    ∷ column (codes "XMAX    ") J
    ∷ column (codes "YMIN    ") J
    ∷ column (codes "YMAX    ") J
    ∷ column (codes "XFIRST  ") J
    ∷ column (codes "YFIRST  ") J
    ∷ column (codes "XCEN    ") J
    ∷ column (codes "YCEN    ") J
    ∷ column (codes "XVAR    ") K
    ∷ column (codes "YVAR    ") K
    ∷ column (codes "XYCOV   ") K ∷ []

-- the columns of a catalogue, and behind them those of the measures in a second image
unfoldable pub measured_columns : List Column
measured_columns =
    catalogue_columns
    ++ column (codes "SEEN    ") J
    ∷ column (codes "MISSING ") J
    ∷ column (codes "VSUM    ") K
    ∷ column (codes "VLOW    ") K
    ∷ column (codes "VPEAK   ") K
    ∷ column (codes "VMEAN   ") K
    ∷ column (codes "VBACK   ") K ∷ []

-- ---- how many cells a row of the catalogue has, and how many bytes

abbrev pub cells_in_row : ℕ
cells_in_row = 17

abbrev pub bytes_in_row : ℕ
bytes_in_row = 96

-- how many cells a row with measures has
abbrev pub measured_cells_in_row : ℕ
measured_cells_in_row = cells_in_row + 7

-- ---- the places, from 0, of columns that are looked up

abbrev pub number_place : ℕ
number_place = 0

abbrev pub flux_place : ℕ
flux_place = 4

abbrev pub xcen_place : ℕ
xcen_place = 12

abbrev pub ycen_place : ℕ
ycen_place = 13
