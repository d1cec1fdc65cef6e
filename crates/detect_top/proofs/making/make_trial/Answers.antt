use Rattle.std.proofs.Common.{subst, sym}
use Rattle.comp_tree.specs.Raster.{Raster}
use Rattle.mesh_background.specs.Residuals.{residual_of}
use Rattle.comp_tree.specs.Raster.{HasValuesInHalfRange}
use Rattle.tree_products.specs.Writables.{SuitsJob}
use Rattle.tree_products.proofs.Exported.{suits_made}
use Rattle.tree_products.proofs.Exported.{trial_is_storable}
use Rattle.detect_top.proofs.making.make_trial.Goals as goal

pub make-requires-clause-storable : goal.make-requires-clause-storable
make-requires-clause-storable g c κs within =
    subst (λ (r : Raster). HasValuesInHalfRange r.values) (sym c.in_ok-image.ensures) (trial_is_storable c.args.seed c.args.shape)

pub make-requires-clause-suits : goal.make-requires-clause-suits
make-requires-clause-suits g c κs within =
    subst (λ (r : Raster). SuitsJob c.args.order.job (residual_of r c.args.order.mesh c.args.order.flat)) (sym c.in_ok-image.ensures)
    (suits_made c.args.order.job c.args.seed c.args.shape c.args.order.mesh c.args.order.flat c.requires.trial c.requires.limits.job)
