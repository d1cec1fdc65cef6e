use Rattle.measure_top.proofs.MeasuredSources.{residuals_alike, made_of_images}
use Rattle.measure_top.proofs.measuring.measure_sources.Goals as goal

pub measure_residuals-requires-clause-shape : goal.measure_residuals-requires-clause-shape
measure_residuals-requires-clause-shape g c κs within =
    residuals_alike c.args.image c.args.values _ _ c.args.order.mesh c.args.order.flat c.in_ok-plane.ensures c.in_ok-values.ensures c.requires.shape

pub returns-clause-bytes : goal.returns-clause-bytes
returns-clause-bytes g c =
    made_of_images c.args.order c.args.choice c.args.image c.args.values _ _ c.measure_residuals.result c.in_ok-plane.ensures c.in_ok-values.ensures
    c.measure_residuals.ensures.bytes
