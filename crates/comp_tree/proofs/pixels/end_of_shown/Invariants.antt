use Rattle.std.proofs.Common.{◌≤◌, ◌-◌}
use Rattle.comp_tree.specs.Raster.{HasGap}
use Rattle.comp_tree.specs.Stored.{shown_values}
use Rattle.comp_tree.proofs.pixels.end_of_shown.Given as goal

abbrev pub invariant-loop-end : goal.invariant-loop-end
invariant-loop-end l = record {
  low : l.low ≤ l.end;
  high : l.end ≤ l.high;
  none : HasGap (shown_values l.pixels l.marks) l.end l.high;
}

abbrev pub decreases-loop-end : goal.decreases-loop-end
decreases-loop-end l = l.end - l.low
