use Rattle.std.proofs.Common.{◌≤◌, length}
use Rattle.source_sheet.specs.Groups.{AreGroupedBefore}
use Rattle.source_sheet.proofs.groups.look_at_all.Given as goal

abbrev pub invariant-loop-p : goal.invariant-loop-p
invariant-loop-p l = record {
  before : AreGroupedBefore l.plane l.connect l.choice.threshold l.choice.min_area l.p l.marks l.groups.pixels.items;
  few : length l.groups.pixels.items ≤ l.most;
}
