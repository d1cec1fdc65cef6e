use Rattle.std.proofs.Common.{◌*◌}
use Rattle.source_sheet.specs.Laid.{windows_of}
use Rattle.source_sheet.specs.Checks.{ArePixelsCopied}
use Rattle.source_sheet.proofs.checking.are_rows_copied.Given as goal

abbrev pub invariant-loop-row : goal.invariant-loop-row
invariant-loop-row l = ArePixelsCopied l.plane l.sheet l.connect l.choice.threshold (windows_of l.place) 0 (l.row * l.place.shape.width)
