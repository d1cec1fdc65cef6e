-- What stands for a plane on a sheet.
use Rattle.std.proofs.Common.{◌≡◌, subst, Result, Ok, Err, IfOk}
use Rattle.comp_tree.specs.declared.shape.Connect.{Connect}
use Rattle.comp_tree.specs.Raster.{Raster}
use Rattle.comp_tree.specs.ComponentTree.{ComponentTree}
use Rattle.comp_tree.specs.Components.{tree_of}
use Rattle.orders.specs.declared.words.Job.{Job}
use Rattle.orders.specs.declared.words.Job.TheVariants.{Detect}
use Rattle.source_pick.specs.declared.choice.Choice.{Choice}
use Rattle.source_sheet.specs.declared.sheet.Sheet.{Sheet}
use Rattle.source_sheet.specs.Laid.{IsTreeOfSheet}
use Rattle.tree_products.specs.declared.standing.Ground.{Ground}
use Rattle.tree_products.specs.declared.standing.Ground.TheVariants as stands
use Rattle.tree_products.specs.declared.product.Product.{Product}
use Rattle.tree_products.specs.Grounds.{ground_plane, IsGroundFor, IsSheetFor, IsTreeOfGround}
use Rattle.tree_products.specs.JobSheets.{IsTreeOfJobsSheet}
use Rattle.tree_products.specs.Products.{output_of_job}
use Rattle.tree_products.specs.Writables.{bytes_of}

-- a ground that is a sheet is the sheet's
pub ground_is_sheet : (job : Job) (on : Ground) (sheet : Sheet) (tree : ComponentTree) → on ≡ stands.Sheet sheet → IsTreeOfGround job on tree
    → IsTreeOfJobsSheet job sheet tree
ground_is_sheet job on sheet tree is of_ground =
    let there : IsTreeOfGround job (stands.Sheet sheet) tree = subst (λ g. IsTreeOfGround job g tree) is of_ground in
    record { plane = there.plane; connect = there.connect; is_sheet = there.is_ground; tree_is = there.tree_is }

-- and what is made of the sheet is made of the ground
pub made_of_sheet : {E : Type 0} (job : Job) (on : Ground) (sheet : Sheet) (tree : ComponentTree) (made : Result Product E) → on ≡ stands.Sheet sheet
    → IfOk made (λ product. (plane : Raster) (connect : Connect) → IsSheetFor job connect plane sheet → tree ≡ tree_of sheet.plane connect
    → bytes_of product ≡ output_of_job job connect plane)
    → IfOk made (λ product. (plane : Raster) (connect : Connect) → IsGroundFor job connect plane on → tree ≡ tree_of (ground_plane on) connect
    → bytes_of product ≡ output_of_job job connect plane)
made_of_sheet job on sheet tree (Ok product) is bytes = λ plane connect is_ground tree_is.
    bytes plane connect (subst (IsGroundFor job connect plane) is is_ground) (subst (λ g. tree ≡ tree_of (ground_plane g) connect) is tree_is)
made_of_sheet job on sheet tree (Err e) is bytes = tt

-- where a job finds sources, its sheet is laid out for them
pub sheet_of_detection : (job : Job) (choice : Choice) (sheet : Sheet) (tree : ComponentTree) → job ≡ Detect choice → IsTreeOfJobsSheet job sheet tree
    → IsTreeOfSheet choice sheet tree
sheet_of_detection job choice sheet tree is of_sheet =
    let there : IsTreeOfJobsSheet (Detect choice) sheet tree = subst (λ j. IsTreeOfJobsSheet j sheet tree) is of_sheet in
    record { plane = there.plane; connect = there.connect; laid_out = there.is_sheet; tree_is = there.tree_is }
