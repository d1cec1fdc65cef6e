use Rattle.std.proofs.Common.{◌≡◌, map, take}
use Rattle.tree_canon.specs.Canonical.{loose_row}
use Rattle.tree_canon.proofs.rows.rows_of.Given as goal

abbrev pub invariant-loop-p : goal.invariant-loop-p
invariant-loop-p l = l.rows.items ≡ map (loose_row l.plane) (take l.p-index l.pixels)
