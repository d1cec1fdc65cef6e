-- Bookkeeping: how what is found on a sheet is taken back to the plane.
use Rattle.std.specs.Prelude.{◌≡◌, ℕ, ◌+◌, ◌==◌, ◌<◌, ◌≤◌, ◌⊎◌, Bool, not, ℤ, pos, ◌≤ℤ◌, List, length, map, filter, take, Option, Some, None, slice_get, slice_index}
use Rattle.std.specs.List.{All, flat_map}
use Rattle.comp_tree.specs.declared.shape.Connect.{Connect}
use Rattle.comp_tree.specs.Raster.{Raster}
use Rattle.comp_tree.specs.ComponentTree.{ComponentTree}
use Rattle.comp_tree.specs.Components.{tree_of}
use Rattle.comp_tree.specs.Windows.{Window, in_whole}
use Rattle.node_sums.specs.declared.entry.Sums.{Sums}
use Rattle.node_sums.specs.Sums.{sums_of}
use Rattle.source_pick.specs.declared.choice.Choice.{Choice}
use Rattle.source_pick.specs.declared.catalogue.CatRow.{CatRow}
use Rattle.source_pick.specs.Catalogue.{cells_of}
use Rattle.source_pick.specs.Segmentation.{segmentation_of}
use Rattle.source_pick.specs.Laws.{SourcesAreDisjoint}
use Rattle.source_pick.specs.Sheets.{Part, window_size, taken_back, AreTakenBack, sheet_rows}
use Rattle.source_pick.specs.Sheets.{CopiesAreParts, SourcesAreLarge, SourcesComeFromThePlane, SheetGivesTheCatalogue, SheetGivesTheMap, SheetGivesTheTops}
use Rattle.source_sheet.specs.declared.sheet.Place.{Place}
use Rattle.source_sheet.specs.declared.sheet.Sheet.{Sheet}
use Rattle.source_sheet.specs.declared.back.Taken.{Taken}
use Rattle.source_sheet.specs.Laid.{windows_of, part_of}
use Rattle.source_sheet.specs.Checks.{IsInWindow}

-- the laws that this rests on
pub record SheetLaws : Type 0 where
  pub parts : CopiesAreParts
  pub large : SourcesAreLarge
  pub come : SourcesComeFromThePlane
  pub disjoint : SourcesAreDisjoint
  pub catalogue : SheetGivesTheCatalogue
  pub tops : SheetGivesTheTops
  pub map : SheetGivesTheMap

-- ---- places

-- the parts that the places show
abbrev pub parts_of : Raster → ℤ → List Place → List Part
parts_of s h places = map (part_of s h) places

-- ---- owners

-- the first count pixels of the window have the number, and each pixel that has another one than before has it too
pub record AreMarkedIn (width : ℕ) (w : Window) (number count : ℕ) (before after : List ℕ) : Type 0 where
  pub sound : (p : ℕ) → (slice_index after p ≡ slice_index before p) ⊎ (IsInWindow width w p × (slice_index after p ≡ number))
  pub complete : (q : ℕ) → q < count → slice_index after (in_whole width w q) ≡ number

-- pixel p of the sheet has the number, from 1, of a place in whose window it lies
pub record IsOwned (width : ℕ) (places : List Place) (owners : List ℕ) (p : ℕ) : Type 0 where
  pub it : ℕ
  pub place : Place
  pub at : slice_get places it ≡ Some place
  pub lies : IsInWindow width (windows_of place).to p
  pub number : slice_index owners p ≡ it + 1

-- so have all pixels of the windows of the first count places, and all others have 0
pub record AreOwners (width : ℕ) (places : List Place) (count : ℕ) (owners : List ℕ) : Type 0 where
  pub sound : (p : ℕ) → (slice_index owners p ≡ 0) ⊎ IsOwned width places owners p
  pub complete : (i p : ℕ) (c : Place) → i < count → slice_get places i ≡ Some c → IsInWindow width (windows_of c).to p → slice_index owners p ≡ 0 → ⊥

-- ---- sources

-- the least pixel of node n
abbrev pub first_in : List Sums → ℕ → ℕ
first_in sums n = slice_index (map (λ (s : Sums). s.first) sums) n

-- the sums of the picked nodes have these least pixels
pub record AreFirstsOf (sums : List Sums) (picked : List ℕ) (own : List Sums) : Type 0 where
  pub each : (i n : ℕ) (entry : Sums) → slice_get picked i ≡ Some n → slice_get own i ≡ Some entry → entry.first ≡ first_in sums n

-- some place has it
abbrev pub has_owner : List ℕ → List Sums → ℕ → Bool
has_owner owners sums n = not (slice_index owners (first_in sums n) == 0)

-- node n with its owner, and with its least pixel as the plane has it
pub record IsTakenAs (width columns : ℕ) (places : List Place) (owners : List ℕ) (sums : List Sums) (n : ℕ) (e : Taken) : Type 0 where
  pub node : e.node ≡ n
  pub it : ℕ
  pub at : slice_get places it ≡ Some e.place
  pub lies : IsInWindow columns (windows_of e.place).to (first_in sums n)
  pub number : slice_index owners (first_in sums n) ≡ it + 1
  pub back : (s : Raster) (h : ℤ) → e.first ≡ taken_back width columns (part_of s h e.place) (first_in sums n)

-- a source has the node and the sums that stand at one place of these lists
pub record HasOwnSums (picked : List ℕ) (own : List Sums) (e : Taken) : Type 0 where
  pub it : ℕ
  pub node : slice_get picked it ≡ Some e.node
  pub sums : slice_get own it ≡ Some e.sums

abbrev pub HaveOwnSums : List ℕ → List Sums → List Taken → Type 0
HaveOwnSums picked own taken = All (HasOwnSums picked own) taken

-- each source has the sums of its node
abbrev pub HaveSums : Raster → Connect → List Taken → Type 0
HaveSums s connect taken = (i : ℕ) (e : Taken) → slice_get taken i ≡ Some e → e.sums ≡ sums_of s connect e.node

-- it is so, or has no owner
abbrev pub IsTakenIfOwned : ℕ → ℕ → List Place → List ℕ → List Sums → ℕ → Option Taken → Type 0
IsTakenIfOwned width columns places owners sums n None = slice_index owners (first_in sums n) ≡ 0
IsTakenIfOwned width columns places owners sums n (Some e) = IsTakenAs width columns places owners sums n e

-- those of the first count nodes that have an owner
pub record AreTaken (width columns : ℕ) (places : List Place) (owners : List ℕ) (sums : List Sums) (picked : List ℕ) (count : ℕ) (taken : List Taken) : Type 0 where
  pub nodes : map (λ (e : Taken). e.node) taken ≡ filter (has_owner owners sums) (take count picked)
  pub each : All (λ (e : Taken). IsTakenAs width columns places owners sums e.node e) taken

-- as the law has them: the part of the place, and the node
abbrev pub found_as : Raster → ℤ → Taken → Part × ℕ
found_as s h e = (part_of s h e.place, e.node)

abbrev pub found_of : Raster → ℤ → List Taken → List (Part × ℕ)
found_of s h taken = map (found_as s h) taken

abbrev pub nodes_in : List Taken → List ℕ
nodes_in taken = map (λ (e : Taken). e.node) taken

-- ---- rows

-- a number of columns or rows, or a place among them
pub record IsCoordinate (z : ℤ) : Type 0 where
  pub low : pos 0 ≤ℤ z
  pub high : z ≤ℤ pos 65535

-- a row whose pixels lie in a small plane
pub record IsSmallRow (row : CatRow) : Type 0 where
  pub xmin : IsCoordinate row.xmin
  pub xmax : IsCoordinate row.xmax
  pub ymin : IsCoordinate row.ymin
  pub ymax : IsCoordinate row.ymax
  pub xfirst : IsCoordinate row.xfirst
  pub yfirst : IsCoordinate row.yfirst

-- a place whose windows begin within the limits of images
pub record IsNear (c : Place) : Type 0 where
  pub left : c.left ≤ 65535
  pub top : c.top ≤ 65535
  pub to_left : c.to_left ≤ 65535
  pub to_top : c.to_top ≤ 65535

-- a node of the tree at such a place
pub record IsNodeAt (tree : ComponentTree) (e : Taken) : Type 0 where
  pub node : e.node < length tree.rows
  pub near : IsNear e.place

-- these nodes and cells are those of the plane's sources, in their order there
pub record AreListed (r : Raster) (connect : Connect) (choice : Choice) (sheet : Sheet) (nodes : List ℕ) (cells : List ℤ) : Type 0 where
  pub taken : List Taken
  pub back : AreTakenBack r sheet.plane connect choice (parts_of sheet.plane choice.threshold sheet.places.items) (found_of sheet.plane choice.threshold taken)
  pub placed : (i : ℕ) (e : Taken) → slice_get taken i ≡ Some e → (j : ℕ) × (slice_get sheet.places.items j ≡ Some e.place)
  pub nodes_are : nodes ≡ nodes_in taken
  pub cells_are : cells ≡ flat_map cells_of (sheet_rows sheet.plane connect (found_of sheet.plane choice.threshold taken))

-- ---- the map

-- pixel p of the plane has the number of a pixel that a place has there
pub record IsFromPlace (width columns : ℕ) (places : List Place) (numbers map : List ℕ) (p : ℕ) : Type 0 where
  pub it : ℕ
  pub place : Place
  pub at : slice_get places it ≡ Some place
  pub pixel : ℕ
  pub below : pixel < window_size (windows_of place).from
  pub there : in_whole width (windows_of place).from pixel ≡ p
  pub number : slice_index map p ≡ slice_index numbers (in_whole columns (windows_of place).to pixel)

-- of one place, the first count pixels were taken to the plane: a number that isn't 0 is there, or another one that isn't
pub record ArePutIn (width columns : ℕ) (c : Place) (numbers : List ℕ) (count : ℕ) (before after : List ℕ) : Type 0 where
  pub sound : (p : ℕ) → (slice_index after p ≡ slice_index before p)
      ⊎ ((q : ℕ) × (q < window_size (windows_of c).from) × (in_whole width (windows_of c).from q ≡ p)
      × (slice_index after p ≡ slice_index numbers (in_whole columns (windows_of c).to q)))
  pub complete : (q : ℕ) → q < count → slice_index after (in_whole width (windows_of c).from q) ≡ 0
      → slice_index numbers (in_whole columns (windows_of c).to q) ≡ 0
  pub kept : (p : ℕ) → slice_index after p ≡ 0 → slice_index before p ≡ 0

-- those of the first count places
pub record AreTakenTo (width columns : ℕ) (places : List Place) (numbers : List ℕ) (count : ℕ) (map : List ℕ) : Type 0 where
  pub sound : (p : ℕ) → (slice_index map p ≡ 0) ⊎ IsFromPlace width columns places numbers map p
  pub complete : (i q : ℕ) (c : Place) → i < count → slice_get places i ≡ Some c → q < window_size (windows_of c).from
      → slice_index map (in_whole width (windows_of c).from q) ≡ 0 → slice_index numbers (in_whole columns (windows_of c).to q) ≡ 0

-- the map shows the numbers that the sheet's pixels have by these nodes
pub record ShowsNodes (tree : ComponentTree) (sheet : Sheet) (nodes map : List ℕ) : Type 0 where
  pub numbers : List ℕ
  pub exact : (s : Raster) (connect : Connect) → tree ≡ tree_of s connect → numbers ≡ segmentation_of s connect nodes
  pub taken : AreTakenTo sheet.whole.width sheet.plane.shape.width sheet.places.items numbers (length sheet.places.items) map
