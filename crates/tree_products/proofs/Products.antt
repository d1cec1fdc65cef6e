-- What is made of an image is what its order writes.
use Rattle.std.proofs.Common.{◌≡◌, ◌∙◌, ap, sym, subst, ℕ, ◌*◌, ◌^◌, ◌≤◌, Bool, Result, Ok, Err, IfOk}
use Rattle.comp_tree.specs.declared.shape.Shape.{Shape}
use Rattle.comp_tree.specs.declared.shape.Connect.{Connect}
use Rattle.comp_tree.specs.Raster.{Raster}
use Rattle.comp_tree.specs.ComponentTree.{ComponentTree}
use Rattle.comp_tree.specs.Components.{tree_of}
use Rattle.mesh_background.specs.Residuals.{residual_of}
use Rattle.orders.specs.declared.words.Order.{Order}
use Rattle.tree_products.specs.declared.standing.Ground.{Ground}
use Rattle.tree_products.specs.declared.product.Product.{Product}
use Rattle.tree_products.specs.Grounds.{ground_plane, IsGroundFor}
use Rattle.orders.specs.declared.words.Job.{Job}
use Rattle.orders.specs.declared.words.Job.TheVariants.{Trial}
use Rattle.orders.specs.Words.{HasJobLimits}
use Rattle.tree_products.specs.Products.{output_of_job, output_of}
use Rattle.tree_products.specs.Writables.{bytes_of, SuitsJob}
use Rattle.tree_products.specs.Trials.{trial_image}
use Rattle.tree_products.proofs.TrialResiduals.{trial_residual_is_small}

pub made_of_image : {E : Type 0} (order : Order) (image plane given : Raster) (on : Ground) (tree : ComponentTree) (made : Result Product E)
    → plane ≡ residual_of image order.mesh order.flat → IsGroundFor order.job order.connect plane on
    → given ≡ ground_plane on → tree ≡ tree_of given order.connect
    → IfOk made (λ product. (p : Raster) (connect : Connect) → IsGroundFor order.job connect p on → tree ≡ tree_of (ground_plane on) connect
    → bytes_of product ≡ output_of_job order.job connect p)
    → IfOk made (λ product. bytes_of product ≡ output_of order image)
unfolding output_of
made_of_image order image plane given on tree (Ok product) residual is_ground is_given is bytes =
    bytes plane order.connect is_ground (is ∙ ap (λ r. tree_of r order.connect) is_given) ∙ ap (output_of_job order.job order.connect) residual
made_of_image order image plane given on tree (Err e) residual is_ground is_given is bytes = tt

-- a trial takes its image less the background
pub suits_made : (job : Job) (seed : ℕ) (shape : Shape) (mesh : ℕ) (flat : Bool) → job ≡ Trial seed shape → HasJobLimits job
    → SuitsJob job (residual_of (trial_image seed shape) mesh flat)
suits_made job seed shape mesh flat is limits =
    let few : shape.width * shape.height ≤ 2 ^ 24 = subst HasJobLimits is limits in
    subst (λ j. SuitsJob j (residual_of (trial_image seed shape) mesh flat)) (sym is) (trial_residual_is_small seed shape mesh flat few)
