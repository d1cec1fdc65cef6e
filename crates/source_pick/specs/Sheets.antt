-- Model: the law of sheets. The pixels of at least the threshold lie in parts, which are small planes. Each part stands somewhere in a plane, and
-- somewhere in a sheet, another plane. So the sources of the sheet are those of the plane, with the same rows but for the places.
use Rattle.std.specs.Prelude.{◌≡◌, ℕ, ◌+◌, ◌-◌, ◌*◌, ◌/◌, ◌%◌, ◌<◌, ◌≤◌, ◌&&◌, nat_lt, Bool, true, IsTrue, ℤ, pos, ◌+ℤ◌, ◌-ℤ◌, List, length, map, Contains, Some, slice_get}
use Rattle.std.specs.Prelude.{unwrap_or}
use Rattle.std.specs.List.{enumerate_from, position_from}
use Rattle.comp_tree.specs.declared.shape.Connect.{Connect}
use Rattle.comp_tree.specs.Raster.{Raster, IsPlane, pixels, value_at, is_at_least}
use Rattle.comp_tree.specs.Components.{IsReached, is_in_node}
use Rattle.comp_tree.specs.Grid.{IsAdjacency}
use Rattle.comp_tree.specs.Laws.{IsNode, top_of}
use Rattle.comp_tree.specs.Grid.{are_neighbours}
use Rattle.comp_tree.specs.Windows.{Window, IsInside, in_whole, seen_through, IsShown, Box, is_in_box}
use Rattle.node_sums.specs.Sums.{sums_of}
use Rattle.source_pick.specs.declared.choice.Choice.{Choice}
use Rattle.source_pick.specs.declared.catalogue.CatRow.{CatRow}
use Rattle.source_pick.specs.Sources.{is_source, sources}
use Rattle.source_pick.specs.Catalogue.{catalogue_row, catalogue}
use Rattle.source_pick.specs.Segmentation.{segmentation}
use Rattle.source_pick.specs.Windows.{IsMovedNode}

-- The plane m stands in r where the window is, as far as its own pixels go: these have at least h, and the same values there; what is adjacent to
-- them there has its like in m, and what is adjacent in m the same value there; and what is adjacent and has at least h is an own pixel too. No
-- more is asked of what lies beyond the window than that no defined pixel there is beside an own one
pub record StandsIn (r m : Raster) (w : Window) (connect : Connect) (h : ℤ) (own : ℕ → Bool) : Type 0 where
  pub shape_is : m.shape ≡ w.shape
  pub inside : IsInside r.shape w
  pub below : (q : ℕ) → IsTrue (own q) → q < length m.values
  pub high : (q : ℕ) → IsTrue (own q) → IsTrue (is_at_least m h q)
  pub same : (q : ℕ) → IsTrue (own q) → value_at r.values (in_whole r.shape.width w q) ≡ value_at m.values q
  pub there : (q a : ℕ) → IsTrue (own q) → IsAdjacency r.values r.shape.width connect (in_whole r.shape.width w q) a → IsShown r m w a
  pub back : (q b : ℕ) → IsTrue (own q) → IsAdjacency m.values m.shape.width connect q b
      → value_at r.values (in_whole r.shape.width w b) ≡ value_at m.values b
  pub closed : (q b : ℕ) → IsTrue (own q) → IsAdjacency m.values m.shape.width connect q b → IsTrue (is_at_least m h b) → IsTrue (own b)

-- a small plane, where it stands in a plane and where in a sheet, and which of its pixels are its own
pub record Part : Type 0 where
  pub plane : Raster
  pub from : Window
  pub to : Window
  pub own : ℕ → Bool

-- it stands in both
pub record IsPartOf (r s : Raster) (connect : Connect) (h : ℤ) (t : Part) : Type 0 where
  pub one_each : IsPlane t.plane
  pub in_plane : StandsIn r t.plane t.from connect h t.own
  pub in_sheet : StandsIn s t.plane t.to connect h t.own

-- an own pixel of the part stands at p, where the part is in this window
pub record IsHeld (x : Raster) (w : Window) (own : ℕ → Bool) (p : ℕ) : Type 0 where
  pub it : ℕ
  pub is_own : IsTrue (own it)
  pub place : in_whole x.shape.width w it ≡ p

-- s is a sheet of r with these parts: of each source a part holds the pixel that represents it. Sources of the sheet that no part holds don't count
pub record IsSheetOf (r s : Raster) (connect : Connect) (choice : Choice) (parts : List Part) : Type 0 where
  pub each : (t : Part) → Contains parts t → IsPartOf r s connect choice.threshold t
  pub sources_held : (n : ℕ) → IsNode r connect n → IsTrue (is_source r connect choice n)
      → (t : Part) × Contains parts t × IsHeld r t.from t.own (top_of r connect n)

-- so it is where parts hold all pixels of at least the threshold
abbrev pub HeldPixelsHoldSources : Type 0
HeldPixelsHoldSources = (r s : Raster) (connect : Connect) (choice : Choice) (parts : List Part) → IsPlane r
    → ((t : Part) → Contains parts t → IsPartOf r s connect choice.threshold t)
    → ((p : ℕ) → IsTrue (is_at_least r choice.threshold p) → (t : Part) × Contains parts t × IsHeld r t.from t.own p)
    → IsSheetOf r s connect choice parts

-- source n of r is source k of the sheet, and node `it` of the part
pub record IsMovedSource (r s : Raster) (connect : Connect) (choice : Choice) (t : Part) (n k : ℕ) : Type 0 where
  pub node : IsNode r connect n
  pub source : IsTrue (is_source r connect choice n)
  pub node_there : IsNode s connect k
  pub source_there : IsTrue (is_source s connect choice k)
  pub held : IsHeld r t.from t.own (top_of r connect n)
  pub held_there : IsHeld s t.to t.own (top_of s connect k)
  -- one pixel of the part represents both
  pub same_top : held.it ≡ held_there.it
  -- the part has all its pixels
  pub all_held : (p : ℕ) → is_in_node r connect n p ≡ true → IsHeld r t.from t.own p
  pub it : ℕ
  pub from : IsMovedNode r t.plane t.from connect n it
  pub to : IsMovedNode s t.plane t.to connect k it

-- each source of the plane is one of the sheet
abbrev pub SourcesStandInTheSheet : Type 0
SourcesStandInTheSheet = (r s : Raster) (connect : Connect) (choice : Choice) (parts : List Part) (n : ℕ) → IsPlane r → IsPlane s
    → IsSheetOf r s connect choice parts → IsNode r connect n → IsTrue (is_source r connect choice n)
    → (t : Part) × Contains parts t × ((k : ℕ) × IsMovedSource r s connect choice t n k)

-- and each of the sheet is one of the plane, for each part that holds the pixel that represents it
abbrev pub SourcesComeFromThePlane : Type 0
SourcesComeFromThePlane = (r s : Raster) (connect : Connect) (choice : Choice) (t : Part) (k : ℕ) → IsPlane r → IsPlane s
    → IsPartOf r s connect choice.threshold t → IsNode s connect k → IsTrue (is_source s connect choice k) → IsHeld s t.to t.own (top_of s connect k)
    → (n : ℕ) × IsMovedSource r s connect choice t n k

-- ---- the catalogue

-- the pixel of a plane with so many columns where the part has pixel p of the sheet
unfoldable pub taken_back : ℕ → ℕ → Part → ℕ → ℕ
taken_back width columns t p = (p / columns + t.from.top - t.to.top) * width + (p % columns + t.from.left - t.to.left)

-- a row of the sheet, as a row of the plane
unfoldable pub row_back : Part → CatRow → CatRow
row_back t row = record {
  number = row.number;
  level = row.level;
  base = row.base;
  area = row.area;
  flux = row.flux;
  peak = row.peak;
  xmin = row.xmin +ℤ pos t.from.left -ℤ pos t.to.left;
  xmax = row.xmax +ℤ pos t.from.left -ℤ pos t.to.left;
  ymin = row.ymin +ℤ pos t.from.top -ℤ pos t.to.top;
  ymax = row.ymax +ℤ pos t.from.top -ℤ pos t.to.top;
  xfirst = row.xfirst +ℤ pos t.from.left -ℤ pos t.to.left;
  yfirst = row.yfirst +ℤ pos t.from.top -ℤ pos t.to.top;
  xcen = row.xcen +ℤ pos (1000 * t.from.left) -ℤ pos (1000 * t.to.left);
  ycen = row.ycen +ℤ pos (1000 * t.from.top) -ℤ pos (1000 * t.to.top);
  xvar = row.xvar;
  yvar = row.yvar;
  xycov = row.xycov;
}

-- the sources of the sheet, each with the parts that hold it, in the order of the least pixels that they have in the plane
pub record AreTakenBack (r s : Raster) (connect : Connect) (choice : Choice) (parts : List Part) (found : List (Part × ℕ)) : Type 0 where
  pub each : (i : ℕ) (t : Part) (k : ℕ) → slice_get found i ≡ Some (t, k)
      → Contains parts t × IsNode s connect k × IsTrue (is_source s connect choice k) × IsHeld s t.to t.own (top_of s connect k)
  pub rise : (i j : ℕ) (t u : Part) (k l : ℕ) → i < j → slice_get found i ≡ Some (t, k) → slice_get found j ≡ Some (u, l)
      → taken_back r.shape.width s.shape.width t (sums_of s connect k).first < taken_back r.shape.width s.shape.width u (sums_of s connect l).first
  pub all : (t : Part) (k : ℕ) → Contains parts t → IsNode s connect k → IsTrue (is_source s connect choice k)
      → IsHeld s t.to t.own (top_of s connect k) → Contains found (t, k)

-- their rows, taken back and numbered from 1
unfoldable pub sheet_rows : Raster → Connect → List (Part × ℕ) → List CatRow
sheet_rows s connect found = map (λ e. row_back e.1.0 (catalogue_row s connect e.0 e.1.1)) (enumerate_from 1 found)

-- are the catalogue of the plane
abbrev pub SheetGivesTheCatalogue : Type 0
SheetGivesTheCatalogue = (r s : Raster) (connect : Connect) (choice : Choice) (parts : List Part) (found : List (Part × ℕ)) → IsPlane r → IsPlane s
    → IsSheetOf r s connect choice parts → AreTakenBack r s connect choice parts found
    → catalogue r connect choice ≡ sheet_rows s connect found

-- the pixels that represent these sources, in the plane
unfoldable pub sheet_tops : Raster → Raster → Connect → List (Part × ℕ) → List ℕ
sheet_tops r s connect found = map (λ e. taken_back r.shape.width s.shape.width e.0 (top_of s connect e.1)) found

-- are those that represent the sources of the plane
abbrev pub SheetGivesTheTops : Type 0
SheetGivesTheTops = (r s : Raster) (connect : Connect) (choice : Choice) (parts : List Part) (found : List (Part × ℕ)) → IsPlane r → IsPlane s
    → IsSheetOf r s connect choice parts → AreTakenBack r s connect choice parts found
    → map (top_of r connect) (sources r connect choice) ≡ sheet_tops r s connect found

-- ---- the map

-- the pixel of a sheet with so many columns where the part has pixel p of the plane
unfoldable pub put_on : ℕ → ℕ → Part → ℕ → ℕ
put_on width columns t p = (p / width + t.to.top - t.from.top) * columns + (p % width + t.to.left - t.from.left)

-- the part's place in the plane
abbrev pub from_box : Part → Box
from_box t = record {
  left = t.from.left;
  right = t.from.left + t.from.shape.width;
  top = t.from.top;
  bottom = t.from.top + t.from.shape.height;
}

-- pixel p of the plane lies where the part is, and the source of the sheet has it there
unfoldable pub has_on_sheet : Raster → Raster → Connect → ℕ → Part × ℕ → Bool
has_on_sheet r s connect p e =
    is_in_box r.shape.width (from_box e.0) p && is_in_node s connect e.1 (put_on r.shape.width s.shape.width e.0 p)

-- the number of a pixel: the place from 1 of the source that has it on the sheet
unfoldable pub sheet_number : Raster → Raster → Connect → List (Part × ℕ) → ℕ → ℕ
sheet_number r s connect found p = unwrap_or (position_from (has_on_sheet r s connect p) 1 found) 0

-- these numbers are the map of the plane
abbrev pub SheetGivesTheMap : Type 0
SheetGivesTheMap = (r s : Raster) (connect : Connect) (choice : Choice) (parts : List Part) (found : List (Part × ℕ)) → IsPlane r → IsPlane s
    → IsSheetOf r s connect choice parts → AreTakenBack r s connect choice parts found
    → segmentation r connect choice ≡ map (sheet_number r s connect found) (pixels r)

-- ---- copies

-- windows of one shape, one of a plane and one of a sheet
pub record WindowPair : Type 0 where
  pub from : Window
  pub to : Window

abbrev pub window_size : Window → ℕ
window_size w = w.shape.width * w.shape.height

-- pixel q of the window is one of the sheet's with at least h
unfoldable pub is_high_there : Raster → ℤ → Window → ℕ → Bool
is_high_there s h v q = nat_lt q (window_size v) && is_at_least s h (in_whole s.shape.width v q)

-- Each pixel of at least h that the sheet has in the window has the same value in the plane, and so have its neighbours in the window. No defined
-- pixel is adjacent to it beyond the window, neither in the plane nor in the sheet. This is told by looking at these pixels and those around them
pub record IsCopied (r s : Raster) (connect : Connect) (h : ℤ) (c : WindowPair) : Type 0 where
  pub same_shape : c.from.shape ≡ c.to.shape
  pub inside : IsInside r.shape c.from
  pub inside_sheet : IsInside s.shape c.to
  pub same : (q : ℕ) → IsTrue (is_high_there s h c.to q)
      → value_at r.values (in_whole r.shape.width c.from q) ≡ value_at s.values (in_whole s.shape.width c.to q)
  pub beside : (q b : ℕ) → IsTrue (is_high_there s h c.to q) → b < window_size c.to → IsTrue (are_neighbours connect c.to.shape.width q b)
      → value_at r.values (in_whole r.shape.width c.from b) ≡ value_at s.values (in_whole s.shape.width c.to b)
  pub beyond : (q a : ℕ) → IsTrue (is_high_there s h c.to q)
      → IsAdjacency r.values r.shape.width connect (in_whole r.shape.width c.from q) a
      → (b : ℕ) × (b < window_size c.to) × (in_whole r.shape.width c.from b ≡ a)
  pub beyond_sheet : (q a : ℕ) → IsTrue (is_high_there s h c.to q)
      → IsAdjacency s.values s.shape.width connect (in_whole s.shape.width c.to q) a
      → (b : ℕ) × (b < window_size c.to) × (in_whole s.shape.width c.to b ≡ a)

-- the part at a place: what the sheet shows there, of which the pixels of at least h are its own
abbrev pub part_at : Raster → ℤ → WindowPair → Part
part_at s h c = record { plane = seen_through c.to s; from = c.from; to = c.to; own = is_high_there s h c.to }

-- stands in both
abbrev pub CopiesAreParts : Type 0
CopiesAreParts = (r s : Raster) (connect : Connect) (h : ℤ) (c : WindowPair) → IsPlane s → IsCopied r s connect h c → IsPartOf r s connect h (part_at s h c)

-- ---- small groups

-- a source has no fewer pixels than are asked for, and all are reached from the pixel that represents it. So where fewer are reached there, parts
-- needn't hold it
abbrev pub SourcesAreLarge : Type 0
SourcesAreLarge = (r : Raster) (connect : Connect) (choice : Choice) (n : ℕ) (ps : List ℕ) → IsPlane r → IsNode r connect n
    → IsTrue (is_source r connect choice n) → ((a : ℕ) → IsReached r connect choice.threshold (top_of r connect n) a → Contains ps a)
    → choice.min_area ≤ length ps
