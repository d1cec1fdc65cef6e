use Rattle.std.proofs.Common.{◌+◌, ◌<◌, ◌∙◌, length, arith, w64, to_z, of_z}
use Rattle.std.specs.Prelude.{None}
use Rattle.std.proofs.lemmas.List.{get_or_default}
use Rattle.comp_tree.proofs.Runs.{any_step}
use Rattle.comp_tree.proofs.kept.any_wide.Goals as goal

pub loop-k-preserved : goal.loop-k-preserved
loop-k-preserved c =
    let near : c.args.start + c.loop-k.k < length c.args.pixels.now = omega (arith, c.loop-k-test.true, c.requires.inside) in
    any_step (to_z w64 (of_z w64 c.args.bound)) c.args.pixels.now c.args.start c.loop-k.k c.loop-k.any c.is_at_least-any.result
    c.index-pixels-start.result near c.loop-k.invariant
    (c.index-pixels-start.is ∙ get_or_default c.args.pixels.now (c.args.start + c.loop-k.k) c.index-pixels-start.result None near)
    c.is_at_least-any.ensures
