use Rattle.std.proofs.Common.{◌+◌, ◌*◌, ◌-◌, ◌≤◌}
use Rattle.source_sheet.specs.Laid.{windows_of}
use Rattle.source_sheet.specs.Checks.{ArePixelsCopied}
use Rattle.source_sheet.proofs.checking.is_row_copied.Given as goal

abbrev pub invariant-loop-first : goal.invariant-loop-first
invariant-loop-first l = record {
  copied : ArePixelsCopied l.plane l.sheet l.connect l.choice.threshold (windows_of l.place) (l.row * l.place.shape.width)
      (l.row * l.place.shape.width + l.first);
  within : l.first ≤ l.place.shape.width;
}

abbrev pub decreases-loop-first : goal.decreases-loop-first
decreases-loop-first l = l.place.shape.width - l.first
