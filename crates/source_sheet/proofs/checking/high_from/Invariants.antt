use Rattle.std.proofs.Common.{◌+◌, ◌*◌}
use Rattle.source_sheet.specs.Laid.{windows_of}
use Rattle.source_sheet.specs.Checks.{AreLowThere}
use Rattle.source_sheet.proofs.checking.high_from.Given as goal

abbrev pub invariant-loop-x : goal.invariant-loop-x
invariant-loop-x l = AreLowThere l.sheet l.choice.threshold (windows_of l.place).to (l.row * l.place.shape.width + l.column)
    (l.row * l.place.shape.width + l.x)
