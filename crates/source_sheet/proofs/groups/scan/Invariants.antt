use Rattle.std.proofs.Common.{◌≡◌, ◌≤◌, ◌-◌, ◌/◌, length}
use Rattle.source_sheet.specs.Groups.{AreGroupedBefore}
use Rattle.source_sheet.proofs.groups.scan.Given as goal

abbrev pub invariant-loop-first : goal.invariant-loop-first
invariant-loop-first l = record {
  before : AreGroupedBefore l.plane l.connect l.choice.threshold l.choice.min_area l.first l.marks l.groups.pixels.items;
  within : l.first ≤ l.count;
  all : l.count ≡ length l.plane.values;
  few : length l.groups.pixels.items ≤ l.count / 2;
}

abbrev pub decreases-loop-first : goal.decreases-loop-first
decreases-loop-first l = l.count - l.first
