-- Model: what stands for a plane while a job works on it: another plane of which the job writes the same, or a sheet that is laid out for its sources.
use Rattle.std.specs.Prelude.{◌≡◌}
use Rattle.comp_tree.specs.declared.shape.Connect.{Connect}
use Rattle.comp_tree.specs.Raster.{Raster}
use Rattle.comp_tree.specs.ComponentTree.{ComponentTree}
use Rattle.comp_tree.specs.Components.{tree_of}
use Rattle.orders.specs.declared.words.Job.{Job}
use Rattle.orders.specs.declared.words.Job.TheVariants.{Tree, Filter, Detect, Trial, Measure}
use Rattle.source_sheet.specs.declared.sheet.Sheet.{Sheet}
use Rattle.source_sheet.specs.Laid.{IsLaidOut}
use Rattle.tree_products.specs.declared.standing.Ground.{Ground}
use Rattle.tree_products.specs.declared.standing.Ground.TheVariants as stands
use Rattle.tree_products.specs.Products.{output_of_job}
use Rattle.tree_products.specs.Writables.{SuitsJob}

-- the plane whose tree is made
abbrev pub ground_plane : Ground → Raster
ground_plane (stands.Whole plane) = plane
ground_plane (stands.Sheet sheet) = sheet.plane

-- a job finds sources on a sheet, and nothing else
abbrev pub IsSheetFor : Job → Connect → Raster → Sheet → Type 0
IsSheetFor Tree connect plane sheet = ⊥
IsSheetFor (Filter rule criterion) connect plane sheet = ⊥
IsSheetFor (Detect choice) connect plane sheet = IsLaidOut plane connect choice sheet
IsSheetFor (Trial seed shape) connect plane sheet = ⊥
IsSheetFor (Measure choice values) connect plane sheet = ⊥

-- a plane of which the job writes the same
pub record IsAlikeFor (job : Job) (connect : Connect) (plane left : Raster) : Type 0 where
  pub suits : SuitsJob job left
  pub same : output_of_job job connect left ≡ output_of_job job connect plane

-- what stands for a plane
abbrev pub IsGroundFor : Job → Connect → Raster → Ground → Type 0
IsGroundFor job connect plane (stands.Whole left) = IsAlikeFor job connect plane left
IsGroundFor job connect plane (stands.Sheet sheet) = IsSheetFor job connect plane sheet

-- the tree is that of the ground, which stands for some plane
pub record IsTreeOfGround (job : Job) (on : Ground) (tree : ComponentTree) : Type 0 where
  pub plane : Raster
  pub connect : Connect
  pub is_ground : IsGroundFor job connect plane on
  pub tree_is : tree ≡ tree_of (ground_plane on) connect
