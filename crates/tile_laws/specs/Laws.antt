-- Model: the law of pieces, for an image as detection is given it.
use Rattle.std.specs.Prelude.{◌≡◌, ℕ, ◌+◌, ◌<◌, ◌↔◌, Bool, true, ℤ, pos, ◌≤ℤ◌, List, Contains, Option, Some, slice_get, slice_index}
use Rattle.comp_tree.specs.declared.shape.Connect.{Connect}
use Rattle.comp_tree.specs.Raster.{Raster, IsPlane}
use Rattle.comp_tree.specs.Windows.{Window, Box, seen_through}
use Rattle.mesh_background.specs.Laws.{IsOwnMedian}
use Rattle.mesh_background.specs.Windows.{IsOnMesh}
use Rattle.source_pick.specs.declared.choice.Choice.{Choice}
use Rattle.source_pick.specs.declared.catalogue.CatRow.{CatRow}
use Rattle.source_pick.specs.Catalogue.{catalogue}
use Rattle.tile_laws.specs.Clear.{clear_box, window_box, IsBoxWithin, IsSureBox}
use Rattle.tile_laws.specs.Pieces.{DetectionChoice, Piece, detected, AnswersForCore, without_mesh, without_number, ShowsItsCore, CoversImage, CoresAreApart, first_pixel}
use Rattle.tile_laws.specs.Pieces.{IsFromPiece, AreMerged, numbered_rows, mapped, IsMappedBy}
use Rattle.tile_laws.specs.SecondImage.{measured, backed, MeasuresItsCore}

-- where the cores cover the image and each piece answers for its core, the image's catalogue is that of the pieces: their own rows, moved,
-- in the order of their first pixels, and numbered
abbrev pub PiecesGiveTheCatalogue : Type 0
PiecesGiveTheCatalogue = (d : DetectionChoice) (r : Raster) (pieces : List Piece) (rows : List CatRow) → IsPlane r
    → CoversImage r.shape pieces → ((t : Piece) → Contains pieces t → AnswersForCore d r t)
    → AreMerged d r pieces rows → detected d r ≡ numbered_rows rows

-- where no two cores share a pixel there is such a list of rows, and each of them is one row of one piece alone
abbrev pub PiecesCanBeMerged : Type 0
PiecesCanBeMerged = (d : DetectionChoice) (r : Raster) (pieces : List Piece) → IsPlane r → CoversImage r.shape pieces
    → ((t : Piece) → Contains pieces t → AnswersForCore d r t) → CoresAreApart r.shape pieces → (rows : List CatRow) × AreMerged d r pieces rows

abbrev pub RowsAreOnePieces : Type 0
RowsAreOnePieces = (d : DetectionChoice) (r : Raster) (pieces : List Piece) (t u : Piece) (row other : CatRow) → IsPlane r → CoversImage r.shape pieces
    → ((t : Piece) → Contains pieces t → AnswersForCore d r t) → CoresAreApart r.shape pieces → Contains pieces t → Contains pieces u
    → IsFromPiece d r t row → IsFromPiece d r u other → first_pixel r.shape.width row ≡ first_pixel r.shape.width other → (t ≡ u) × (row ≡ other)

-- the image's map too: a pixel has number k + 1 there exactly where row k of the merged rows is a row of a piece whose map gives the pixel this
-- row's number. All other pixels have 0
abbrev pub PiecesGiveTheMap : Type 0
PiecesGiveTheMap = (d : DetectionChoice) (r : Raster) (pieces : List Piece) (rows : List CatRow) (p k : ℕ) → IsPlane r
    → CoversImage r.shape pieces → ((t : Piece) → Contains pieces t → AnswersForCore d r t) → AreMerged d r pieces rows
    → (slice_index (mapped d r) p ≡ k + 1) ↔ ((t : Piece) × Contains pieces t × IsMappedBy d r rows t p k)

-- and the measures of the sources in a second image of the same shape, where its background is known too: source k of the image, which is
-- source i of the piece, both counted from 0, has the piece's measure. It has the piece's back too where its base is at least the threshold: its
-- parent lies in the same component at the threshold then. The parent of a whole such component may reach beyond any window
abbrev pub PiecesGiveTheMeasures : Type 0
PiecesGiveTheMeasures = (d : DetectionChoice) (r values : Raster) (pieces : List Piece) (rows : List CatRow)
    (t : Piece) (row : CatRow) (f : IsFromPiece d r t row) (k i : ℕ)
    → IsPlane r → IsPlane values → values.shape ≡ r.shape
    → CoversImage r.shape pieces → ((t : Piece) → Contains pieces t → AnswersForCore d r t) → AreMerged d r pieces rows
    → Contains pieces t → MeasuresItsCore d r values t → slice_get rows k ≡ Some row → f.it.number ≡ pos (i + 1)
    → (measured d r values k ≡ measured d (seen_through t.window r) (seen_through t.window values) i)
    × (d.choice.threshold ≤ℤ row.base → backed d r values k ≡ backed d (seen_through t.window r) (seen_through t.window values) i)

-- with a flat background more is asked of no box than that it lies in the clear box
abbrev pub FlatBoxesAreSure : Type 0
FlatBoxesAreSure = (empty : Option ℤ) (r : Raster) (w : Window) (mesh : ℕ) (box : Box) → (0 < mesh → IsOnMesh mesh w)
    → IsBoxWithin (clear_box true mesh r.shape w) box → IsSureBox empty r w true mesh box

-- nor where a number is given for cells without a value
abbrev pub BoxesAreSureWithNumber : Type 0
BoxesAreSureWithNumber = (number : ℤ) (r : Raster) (w : Window) (flat : Bool) (mesh : ℕ) (box : Box)
    → IsBoxWithin (clear_box flat mesh r.shape w) box → IsSureBox (Some number) r w flat mesh box

-- and without a mesh, than that it lies in the window
abbrev pub BoxesAreSureWithoutMesh : Type 0
BoxesAreSureWithoutMesh = (empty : Option ℤ) (r : Raster) (w : Window) (flat : Bool) (box : Box) → IsBoxWithin (window_box w) box → IsSureBox empty r w flat 0 box

-- where that number is the image's own median, what detection finds is what it finds without
abbrev pub OwnMedianFindsTheSame : Type 0
OwnMedianFindsTheSame = (d : DetectionChoice) (r : Raster) → IsOwnMedian d.empty r
    → (detected d r ≡ detected (without_number d) r) × (mapped d r ≡ mapped (without_number d) r)

-- without a mesh detection works on the image itself
abbrev pub NoMeshDetectsInTheImage : Type 0
NoMeshDetectsInTheImage = (connect : Connect) (choice : Choice) (r : Raster) → detected (without_mesh connect choice) r ≡ catalogue r connect choice

-- so the catalogue of a plane is that of its windows
abbrev pub PiecesGiveThePlanesCatalogue : Type 0
PiecesGiveThePlanesCatalogue = (connect : Connect) (choice : Choice) (r : Raster) (pieces : List Piece) (rows : List CatRow) → IsPlane r
    → CoversImage r.shape pieces → ((t : Piece) → Contains pieces t → ShowsItsCore connect choice r t)
    → AreMerged (without_mesh connect choice) r pieces rows → catalogue r connect choice ≡ numbered_rows rows
