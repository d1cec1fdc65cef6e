use Rattle.std.proofs.Common.{◌≡◌, ◌*◌, length}
use Rattle.source_sheet.specs.Checks.{AreAllApart}
use Rattle.source_sheet.proofs.checking.mark_windows.Given as goal

abbrev pub invariant-loop-place : goal.invariant-loop-place
invariant-loop-place l = record {
  apart : AreAllApart l.onto.width l.places l.place-index l.marks;
  one_each : length l.marks ≡ l.onto.width * l.onto.height;
}
