-- Model: the law of windows: a source whose threshold component lies with its neighbours among pixels that a window shows is a source of
-- the window, with the same row but for the places. So the sources of an image are those of its tiles.
use Rattle.std.specs.Prelude.{◌≡◌, ℕ, ◌<◌, Bool, IsTrue, List, length, map, Contains, Some, slice_get}
use Rattle.std.specs.List.{enumerate_from}
use Rattle.comp_tree.specs.declared.shape.Connect.{Connect}
use Rattle.comp_tree.specs.Raster.{Raster, IsPlane, is_at_least}
use Rattle.comp_tree.specs.Components.{is_in_node}
use Rattle.comp_tree.specs.Laws.{IsNode, top_of}
use Rattle.comp_tree.specs.Windows.{Window, in_whole, Shows, LiesSure, LiesSureIn}
use Rattle.node_sums.specs.Sums.{sums_of}
use Rattle.source_pick.specs.declared.choice.Choice.{Choice}
use Rattle.source_pick.specs.declared.catalogue.CatRow.{CatRow}
use Rattle.source_pick.specs.Sources.{is_source}
use Rattle.source_pick.specs.Catalogue.{catalogue_row, moved_row, catalogue}

-- node n of the whole r is node m of the window's plane s: the same pixels, and the same row but for the places
pub record IsMovedNode (r s : Raster) (w : Window) (connect : Connect) (n m : ℕ) : Type 0 where
  pub pixels : (q : ℕ) → q < length s.values → is_in_node r connect n (in_whole r.shape.width w q) ≡ is_in_node s connect m q
  pub first : (sums_of r connect n).first ≡ in_whole r.shape.width w (sums_of s connect m).first
  pub row : (number : ℕ) → catalogue_row r connect number n ≡ moved_row w (catalogue_row s connect number m)

-- n is a source of r whose threshold component lies with its neighbours among the sure pixels
pub record IsSureSource (r : Raster) (connect : Connect) (choice : Choice) (sure : ℕ → Bool) (n : ℕ) : Type 0 where
  pub node : IsNode r connect n
  pub source : IsTrue (is_source r connect choice n)
  pub lies : LiesSure r connect choice.threshold sure (top_of r connect n)

-- m is such a source of the window's plane s
pub record IsSureSourceIn (r s : Raster) (w : Window) (connect : Connect) (choice : Choice) (sure : ℕ → Bool) (m : ℕ) : Type 0 where
  pub node : IsNode s connect m
  pub source : IsTrue (is_source s connect choice m)
  pub top_sure : IsTrue (sure (in_whole r.shape.width w (top_of s connect m)))
  pub lies : LiesSureIn r s w connect choice.threshold sure (top_of s connect m)

-- a window has the sure sources of the whole
abbrev pub SureSourcesAreSeen : Type 0
SureSourcesAreSeen = (r s : Raster) (w : Window) (connect : Connect) (choice : Choice) (sure : ℕ → Bool) (n : ℕ) → IsPlane r → IsPlane s → Shows r s w sure
    → IsSureSource r connect choice sure n → (m : ℕ) × IsSureSourceIn r s w connect choice sure m × IsMovedNode r s w connect n m

-- and no others
abbrev pub SeenSourcesAreSure : Type 0
SeenSourcesAreSure = (r s : Raster) (w : Window) (connect : Connect) (choice : Choice) (sure : ℕ → Bool) (m : ℕ) → IsPlane r → IsPlane s → Shows r s w sure
    → IsSureSourceIn r s w connect choice sure m → (n : ℕ) × IsSureSource r connect choice sure n × IsMovedNode r s w connect n m

-- ---- tiles

-- a window, its plane, the pixels of the whole that it is sure of, and those that are its own
pub record Tile : Type 0 where
  pub window : Window
  pub plane : Raster
  pub sure : ℕ → Bool
  pub core : ℕ → Bool

-- a tile of r that answers for its core: the components of all its pixels of at least the threshold lie, with their neighbours, among
-- the sure ones. All this is told from the tile alone
pub record IsTileOf (r : Raster) (connect : Connect) (choice : Choice) (t : Tile) : Type 0 where
  pub one_each : IsPlane t.plane
  pub shows : Shows r t.plane t.window t.sure
  pub core_sure : (p : ℕ) → IsTrue (t.core p) → IsTrue (t.sure p)
  pub answers : (q : ℕ) → IsTrue (t.core (in_whole r.shape.width t.window q)) → IsTrue (is_at_least t.plane choice.threshold q)
      → LiesSureIn r t.plane t.window connect choice.threshold t.sure q

-- m is a source of the tile whose least pixel is in its core
pub record IsOwnSource (r : Raster) (connect : Connect) (choice : Choice) (t : Tile) (m : ℕ) : Type 0 where
  pub node : IsNode t.plane connect m
  pub source : IsTrue (is_source t.plane connect choice m)
  pub own : IsTrue (t.core (in_whole r.shape.width t.window (sums_of t.plane connect m).first))

-- n is a source of the whole, as m is of the tile
pub record IsFromTile (r : Raster) (connect : Connect) (choice : Choice) (t : Tile) (n m : ℕ) : Type 0 where
  pub node : IsNode r connect n
  pub source : IsTrue (is_source r connect choice n)
  pub from : IsOwnSource r connect choice t m
  pub moved : IsMovedNode r t.plane t.window connect n m

-- where each pixel is in a tile's core, each source of the whole is an own source of a tile
abbrev pub EachSourceIsATiles : Type 0
EachSourceIsATiles = (r : Raster) (connect : Connect) (choice : Choice) (tiles : List Tile) (n : ℕ) → IsPlane r
    → ((t : Tile) → Contains tiles t → IsTileOf r connect choice t)
    → ((p : ℕ) → p < length r.values → (t : Tile) × Contains tiles t × IsTrue (t.core p))
    → IsNode r connect n → IsTrue (is_source r connect choice n)
    → (t : Tile) × Contains tiles t × ((m : ℕ) × IsFromTile r connect choice t n m)

-- and each own source of a tile is a source of the whole
abbrev pub OwnSourcesAreTheWholes : Type 0
OwnSourcesAreTheWholes = (r : Raster) (connect : Connect) (choice : Choice) (t : Tile) (m : ℕ) → IsPlane r → IsTileOf r connect choice t
    → IsOwnSource r connect choice t m → (n : ℕ) × IsFromTile r connect choice t n m

-- where no pixel is in two cores, a source of the whole is one source of one tile
abbrev pub OwnSourcesAreDistinct : Type 0
OwnSourcesAreDistinct = (r : Raster) (connect : Connect) (choice : Choice) (t u : Tile) (n m k : ℕ)
    → IsPlane r → IsTileOf r connect choice t → IsTileOf r connect choice u
    → ((p : ℕ) → IsTrue (t.core p) → IsTrue (u.core p) → t ≡ u)
    → IsFromTile r connect choice t n m → IsFromTile r connect choice u n k → (t ≡ u) × (m ≡ k)

-- ---- the catalogue

-- the least pixel of the tile's node m, as the whole numbers it
abbrev pub first_in_whole : Raster → Connect → Tile → ℕ → ℕ
first_in_whole r connect t m = in_whole r.shape.width t.window (sums_of t.plane connect m).first

-- the own sources of all tiles, each with its tile, in the order of their least pixels
pub record AreTilesSources (r : Raster) (connect : Connect) (choice : Choice) (tiles : List Tile) (found : List (Tile × ℕ)) : Type 0 where
  pub each : (i : ℕ) (t : Tile) (m : ℕ) → slice_get found i ≡ Some (t, m) → Contains tiles t × IsOwnSource r connect choice t m
  pub rise : (i j : ℕ) (t u : Tile) (m k : ℕ) → i < j → slice_get found i ≡ Some (t, m) → slice_get found j ≡ Some (u, k)
      → first_in_whole r connect t m < first_in_whole r connect u k
  pub all : (t : Tile) (m : ℕ) → Contains tiles t → IsOwnSource r connect choice t m → Contains found (t, m)

-- their rows, moved to the whole and numbered from 1
unfoldable pub tiles_rows : Connect → List (Tile × ℕ) → List CatRow
tiles_rows connect found = map (λ e. moved_row e.1.0.window (catalogue_row e.1.0.plane connect e.0 e.1.1)) (enumerate_from 1 found)

-- are the catalogue of the whole
abbrev pub TilesGiveTheCatalogue : Type 0
TilesGiveTheCatalogue = (r : Raster) (connect : Connect) (choice : Choice) (tiles : List Tile) (found : List (Tile × ℕ)) → IsPlane r
    → ((t : Tile) → Contains tiles t → IsTileOf r connect choice t)
    → ((p : ℕ) → p < length r.values → (t : Tile) × Contains tiles t × IsTrue (t.core p))
    → AreTilesSources r connect choice tiles found → catalogue r connect choice ≡ tiles_rows connect found
