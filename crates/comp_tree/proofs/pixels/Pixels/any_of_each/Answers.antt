use Rattle.std.proofs.Common.{w64, to_z, of_z, arith}
use Rattle.comp_tree.proofs.Runs.{any_step}
use Rattle.comp_tree.proofs.pixels.Pixels.any_of_each.Goals as goal

pub loop-k-preserved : goal.loop-k-preserved
loop-k-preserved c =
    any_step (to_z w64 (of_z w64 c.args.bound)) c.args.self.now c.args.first c.loop-k.k c.loop-k.any c.is_at_least-any.result
    c.pixel.result (omega (arith, c.loop-k-test.true, c.requires.inside)) c.loop-k.invariant c.pixel.ensures c.is_at_least-any.ensures
