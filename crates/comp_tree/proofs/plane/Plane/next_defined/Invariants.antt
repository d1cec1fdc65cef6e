use Rattle.std.proofs.Common.{◌≤◌, ◌-◌}
use Rattle.comp_tree.specs.Raster.{HasGap}
use Rattle.comp_tree.proofs.plane.Plane.next_defined.Given as goal

abbrev pub invariant-loop-p : goal.invariant-loop-p
invariant-loop-p l = record {
  low : l.first ≤ l.p;
  high : l.p ≤ l.end;
  gap : HasGap l.self.values l.first l.p;
}

abbrev pub decreases-loop-p : goal.decreases-loop-p
decreases-loop-p l = l.end - l.p
