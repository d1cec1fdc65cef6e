-- Model: the bytes of written HDUs (FITS Standard 4.0): the cards of the header in fixed format (sections 4.2 and 4.4) up to
-- END, and spaces to a block; then the numbers in two's complement, the most significant byte first (section 5.2), and zero
-- bytes to a block.
use Rattle.std.specs.Prelude.{ℕ, ◌/◌, true, List, [], ◌∷◌, ◌++◌, length, map, codes, ℤ, pos, Option, unwrap_or}
use Rattle.std.specs.List.{concat}
use Rattle.std.specs.Int.{w64, cast_unsigned}
use Rattle.byteorder.specs.Endian.{big_bytes}
use Rattle.comp_tree.specs.declared.shape.Shape.{Shape}
use Rattle.comp_tree.specs.Raster.{Raster}
use Rattle.comp_tree.specs.Limits.{undefined_number}
use Rattle.fits_card.specs.Pieces.{space}
use Rattle.fits_card.specs.Written.{written_logical, written_integer, written_text, written_end}
use Rattle.fits_write.specs.declared.table.Column.{Column}
use Rattle.fits_write.specs.Blocks.{filled}
use Rattle.fits_write.specs.Columns.{row_size, column_cards, table_bytes}

-- the blocks of a header with these cards, of which the last is END
unfoldable pub header : List (List ℕ) → List ℕ
header cards = filled space (concat cards)

-- ---- a primary HDU without data

unfoldable pub primary_cards : List (List ℕ)
primary_cards =
    written_logical (codes "SIMPLE  ") true
    ∷ written_integer (codes "BITPIX  ") (pos 8)
    ∷ written_integer (codes "NAXIS   ") (pos 0)
    ∷ written_logical (codes "EXTEND  ") true
    ∷ written_end ∷ []

unfoldable pub empty_primary : List ℕ
empty_primary = header primary_cards

-- ---- a plane as a primary HDU, in which the number that keeps an undefined pixel in memory stands for it, too

unfoldable pub plane_cards : Shape → List (List ℕ)
plane_cards shape =
    written_logical (codes "SIMPLE  ") true
    ∷ written_integer (codes "BITPIX  ") (pos 64)
    ∷ written_integer (codes "NAXIS   ") (pos 2)
    ∷ written_integer (codes "NAXIS1  ") (pos shape.width)
    ∷ written_integer (codes "NAXIS2  ") (pos shape.height)
    ∷ written_integer (codes "BLANK   ") undefined_number
    ∷ written_end ∷ []

-- the bytes of a pixel, which may be undefined
abbrev pub pixel_bytes : Option ℤ → List ℕ
pixel_bytes value = big_bytes 8 (cast_unsigned w64 (unwrap_or value undefined_number))

unfoldable pub pixels_bytes : List (Option ℤ) → List ℕ
pixels_bytes values = concat (map pixel_bytes values)

unfoldable pub plane_hdu : Raster → List ℕ
plane_hdu plane = header (plane_cards plane.shape) ++ filled 0 (pixels_bytes plane.values)

-- ---- a map of numbers as an image extension

unfoldable pub map_cards : Shape → List (List ℕ)
map_cards shape =
    written_text (codes "XTENSION") (codes "IMAGE")
    ∷ written_integer (codes "BITPIX  ") (pos 32)
    ∷ written_integer (codes "NAXIS   ") (pos 2)
    ∷ written_integer (codes "NAXIS1  ") (pos shape.width)
    ∷ written_integer (codes "NAXIS2  ") (pos shape.height)
    ∷ written_integer (codes "PCOUNT  ") (pos 0)
    ∷ written_integer (codes "GCOUNT  ") (pos 1)
    ∷ written_text (codes "EXTNAME ") (codes "SEGMENT")
    ∷ written_end ∷ []

unfoldable pub map_bytes : List ℕ → List ℕ
map_bytes numbers = concat (map (big_bytes 4) numbers)

unfoldable pub map_hdu : Shape → List ℕ → List ℕ
map_hdu shape numbers = header (map_cards shape) ++ filled 0 (map_bytes numbers)

-- ---- a table of whole numbers as a binary table extension

unfoldable pub table_front : List Column → ℕ → List (List ℕ)
table_front columns rows =
    written_text (codes "XTENSION") (codes "BINTABLE")
    ∷ written_integer (codes "BITPIX  ") (pos 8)
    ∷ written_integer (codes "NAXIS   ") (pos 2)
    ∷ written_integer (codes "NAXIS1  ") (pos (row_size columns))
    ∷ written_integer (codes "NAXIS2  ") (pos rows)
    ∷ written_integer (codes "PCOUNT  ") (pos 0)
    ∷ written_integer (codes "GCOUNT  ") (pos 1)
    ∷ written_integer (codes "TFIELDS ") (pos (length columns)) ∷ []

-- a table with this name
unfoldable pub named_back : List ℕ → List (List ℕ)
named_back name = written_text (codes "EXTNAME ") name ∷ written_end ∷ []

-- its cards, with so many rows
unfoldable pub named_cards : List ℕ → List Column → ℕ → List (List ℕ)
named_cards name columns rows = table_front columns rows ++ column_cards 1 columns ++ named_back name

-- the cells stand row by row
unfoldable pub named_hdu : List ℕ → List Column → List ℤ → List ℕ
named_hdu name columns cells = header (named_cards name columns (length cells / length columns)) ++ filled 0 (table_bytes columns cells)

-- the same of the name `SOURCES`
unfoldable pub table_cards : List Column → ℕ → List (List ℕ)
table_cards = named_cards (codes "SOURCES")

unfoldable pub table_hdu : List Column → List ℤ → List ℕ
table_hdu = named_hdu (codes "SOURCES")
