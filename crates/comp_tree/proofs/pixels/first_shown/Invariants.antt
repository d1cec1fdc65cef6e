use Rattle.std.proofs.Common.{◌≤◌, ◌-◌}
use Rattle.comp_tree.specs.Raster.{HasGap}
use Rattle.comp_tree.specs.Stored.{shown_values}
use Rattle.comp_tree.proofs.pixels.first_shown.Given as goal

abbrev pub invariant-loop-first : goal.invariant-loop-first
invariant-loop-first l = record {
  low : l.low ≤ l.first;
  high : l.first ≤ l.high;
  none : HasGap (shown_values l.pixels l.marks) l.low l.first;
}

abbrev pub decreases-loop-first : goal.decreases-loop-first
decreases-loop-first l = l.high - l.first
