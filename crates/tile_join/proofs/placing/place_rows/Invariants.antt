use Rattle.std.proofs.Common.{◌≡◌, ◌++◌, map, take}
use Rattle.tile_join.specs.Places.{placed_row}
use Rattle.tile_join.proofs.placing.place_rows.Given as goal

abbrev pub invariant-loop-row : goal.invariant-loop-row
invariant-loop-row l = l.placed.items ≡ l.fn.placed.items ++ map (placed_row l.whole.width) (take l.row-index l.rows)
