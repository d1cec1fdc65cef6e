use Rattle.std.proofs.Common.{slice_index, refl, arith}
use Rattle.node_sums.proofs.AreaSteps.{counts_more, counts_skip, counts_size}
use Rattle.node_sums.proofs.area.count_pixels.Goals.{then-node-areas, else-node-areas}
use Rattle.node_sums.proofs.area.count_pixels.Goals as goal

pub overflow_add-areas : goal.overflow_add-areas
overflow_add-areas c =
    let small = counts_size c.args.node_of.now c.loop-p.areas c.loop-p.p (slice_index c.args.node_of.now c.loop-p.p) c.loop-p.invariant c.if-node-areas.true in
    omega (arith, small, c.loop-p-test.true, c.pixels-p-end.ensures.few)

pub loop-p-preserved : goal.loop-p-preserved
loop-p-preserved c = elim c.if-node-areas.branch [
  | then-node-areas w ↦
      rw w.areas-is (counts_more c.args.node_of.now c.loop-p.areas c.loop-p.p (slice_index c.args.node_of.now c.loop-p.p) _ c.loop-p.invariant refl
      w.if-node-areas.true refl)
  | else-node-areas w ↦
      rw w.areas-is (counts_skip c.args.node_of.now c.loop-p.areas c.loop-p.p c.loop-p.invariant w.if-node-areas.false)
]
