use Rattle.std.proofs.Common.{arith}
use Rattle.source_pick.proofs.CellsMeans.{weighted-read}
use Rattle.source_pick.proofs.CellsFitting.{widened, pos_widened, product_fits, weighted_fits}
use Rattle.source_pick.proofs.catalogue.weighted.Goals as goal

pub overflow_cast-result : goal.overflow_cast-result
overflow_cast-result c = widened c.args.base c.ranges.base

pub overflow_cast-result-2 : goal.overflow_cast-result-2
overflow_cast-result-2 c = pos_widened c.args.sum (omega (arith, c.ranges.sum.fits))

pub overflow_mul-result : goal.overflow_mul-result
overflow_mul-result c = product_fits c.args.moment c.args.base c.args.sum c.requires c.ranges.base

pub overflow_sub-result : goal.overflow_sub-result
overflow_sub-result c = weighted_fits c.args.moment c.args.base c.args.sum c.requires c.ranges.base

pub returns : goal.returns
returns c = weighted-read c.args.moment c.args.base c.args.sum c.requires c.ranges.base
