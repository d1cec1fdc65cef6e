use Rattle.std.proofs.Common.{take}
use Rattle.std.specs.Prelude.{◌≤ℤ◌}
use Rattle.measure_top.specs.Picks.{HaveBasesFrom}
use Rattle.measure_top.proofs.picking_near.lowest_base.Given as goal

abbrev pub invariant-loop-node : goal.invariant-loop-node
invariant-loop-node l = record { level : l.lowest ≤ℤ l.level; bases : HaveBasesFrom l.lowest (take l.node-index l.nodes) }
