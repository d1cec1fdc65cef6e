-- The rows so far have the cells before the rest.
use Rattle.std.proofs.Common.{length}
use Rattle.tile_file.proofs.CatalogueCells.{AreRead}
use Rattle.tile_file.proofs.rows.rows_of.Given as goal

abbrev pub invariant-loop-ahead : goal.invariant-loop-ahead
invariant-loop-ahead l = AreRead l.table l.rows.items l.rest

abbrev pub decreases-loop-ahead : goal.decreases-loop-ahead
decreases-loop-ahead l = length l.rest
