use Rattle.std.proofs.Common.{arith}
use Rattle.comp_tree.proofs.Marked.{cleared_all}
use Rattle.comp_tree.proofs.plane.Plane.clear_unmarked.Goals as goal

pub returns : goal.returns
returns c =
    cleared_all c.args.self.now c.loop-p.self c.args.marks.now c.loop-p.p c.loop-p.invariant
    (omega (arith, c.loop-p-test.false, c.loop-p.auto.p-end, c.shape.ensures.pixels, c.pixels-count.ensures.product))
