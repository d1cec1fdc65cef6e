use Rattle.std.proofs.Common.{◌≤◌, ◌-◌}
use Rattle.source_sheet.specs.Groups.{IsFlooding}
use Rattle.source_sheet.proofs.groups.flood.Given as goal

abbrev pub invariant-loop-cursor : goal.invariant-loop-cursor
invariant-loop-cursor l = record {
  flooding : IsFlooding l.plane l.connect l.choice.threshold l.p l.fn.marks l.fn.pixels.items l.cursor l.marks l.pixels.items;
  few : l.cursor ≤ l.most;
}

abbrev pub decreases-loop-cursor : goal.decreases-loop-cursor
decreases-loop-cursor l = l.most - l.cursor
