use Rattle.std.proofs.Common.{arith}
use Rattle.comp_tree.proofs.Bands.{some_pixels, whole_rows}
use Rattle.comp_tree.proofs.shape.Shape.band_size.Goals as goal

pub returns-clause-some : goal.returns-clause-some
returns-clause-some c =
    some_pixels c.args.self.width c.args.self.height c.max.result c.div_ceil.result c.args.self.within_limits.some_columns
    c.args.self.within_limits.some_rows
    (omega (arith, c.max.ensures)) c.div_ceil.ensures

pub returns-clause-whole_rows : goal.returns-clause-whole_rows
returns-clause-whole_rows c = whole_rows c.div_ceil.result c.args.self.width c.args.self.within_limits.some_columns
