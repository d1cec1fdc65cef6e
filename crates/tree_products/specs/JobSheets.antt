-- Bookkeeping: the tree of a sheet, on its way to what a job makes of it.
use Rattle.std.specs.Prelude.{◌≡◌}
use Rattle.comp_tree.specs.declared.shape.Connect.{Connect}
use Rattle.comp_tree.specs.Raster.{Raster}
use Rattle.comp_tree.specs.ComponentTree.{ComponentTree}
use Rattle.comp_tree.specs.Components.{tree_of}
use Rattle.orders.specs.declared.words.Job.{Job}
use Rattle.source_sheet.specs.declared.sheet.Sheet.{Sheet}
use Rattle.tree_products.specs.Grounds.{IsSheetFor}

-- the tree is that of a sheet which stands for some plane
pub record IsTreeOfJobsSheet (job : Job) (sheet : Sheet) (tree : ComponentTree) : Type 0 where
  pub plane : Raster
  pub connect : Connect
  pub is_sheet : IsSheetFor job connect plane sheet
  pub tree_is : tree ≡ tree_of sheet.plane connect
