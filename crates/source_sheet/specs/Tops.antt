-- Bookkeeping: sources of a sheet with the pixels that represent them in the plane.
use Rattle.std.specs.Prelude.{◌≡◌, ℕ, ℤ, List, map, Some, slice_get}
use Rattle.std.specs.List.{flat_map}
use Rattle.comp_tree.specs.declared.shape.Connect.{Connect}
use Rattle.comp_tree.specs.declared.shape.Shape.{Shape}
use Rattle.comp_tree.specs.ComponentTree.{ComponentTree, rep_in}
use Rattle.comp_tree.specs.Raster.{Raster}
use Rattle.source_pick.specs.declared.choice.Choice.{Choice}
use Rattle.source_pick.specs.Catalogue.{cells_of}
use Rattle.source_pick.specs.Sheets.{sheet_rows, sheet_tops, taken_back}
use Rattle.source_sheet.specs.declared.back.Taken.{Taken}
use Rattle.source_sheet.specs.declared.sheet.Sheet.{Sheet}
use Rattle.source_sheet.specs.declared.tops.PickedSource.{PickedSource}
use Rattle.source_sheet.specs.Laid.{windows_of, part_of}
use Rattle.source_sheet.specs.Checks.{LiesInBoth, IsInWindow}
use Rattle.source_sheet.specs.Backs.{AreListed, found_of}

-- the place of a source lies in both images, and there it has the pixel that represents the source on the sheet
pub record LiesWithTop (whole onto : Shape) (tree : ComponentTree) (e : Taken) : Type 0 where
  pub placed : LiesInBoth whole onto e.place
  pub top : IsInWindow onto.width (windows_of e.place).to (rep_in tree.rows e.node)

-- so do all
abbrev pub LieAt : Shape → Shape → ComponentTree → List Taken → Type 0
LieAt whole onto tree taken = (i : ℕ) (e : Taken) → slice_get taken i ≡ Some e → LiesWithTop whole onto tree e

-- these pixels, taken back to a plane with so many columns
abbrev pub tops_back : ℕ → ℕ → Raster → ℤ → ComponentTree → List Taken → List ℕ
tops_back width columns s h tree taken = map (λ (e : Taken). taken_back width columns (part_of s h e.place) (rep_in tree.rows e.node)) taken

-- these nodes, rows and pixels are those of the plane's sources, in their order there
pub record AreListedWithTops (r : Raster) (connect : Connect) (choice : Choice) (sheet : Sheet) (nodes : List ℕ) (found : List PickedSource) : Type 0 where
  pub listed : AreListed r connect choice sheet nodes (flat_map cells_of (map (λ (e : PickedSource). e.row) found))
  pub rows_are : map (λ (e : PickedSource). e.row) found ≡ sheet_rows sheet.plane connect (found_of sheet.plane choice.threshold listed.taken)
  pub tops_are : map (λ (e : PickedSource). e.rep) found ≡ sheet_tops r sheet.plane connect (found_of sheet.plane choice.threshold listed.taken)
