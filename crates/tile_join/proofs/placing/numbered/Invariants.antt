use Rattle.std.proofs.Common.{◌≡◌, take}
use Rattle.tile_laws.specs.Pieces.{numbered_rows}
use Rattle.tile_join.specs.Places.{rows_of_placed}
use Rattle.tile_join.proofs.placing.numbered.Given as goal

abbrev pub invariant-loop-i : goal.invariant-loop-i
invariant-loop-i l = l.rows.items ≡ numbered_rows (rows_of_placed (take l.i l.placed))
