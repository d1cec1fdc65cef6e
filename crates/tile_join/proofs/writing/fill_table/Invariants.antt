use Rattle.std.proofs.Common.{◌≡◌, ℕ, drop, get_or}
use Rattle.tile_join.specs.Places.{rows_of_placed, number_named}
use Rattle.tile_join.proofs.writing.fill_table.Given as goal

abbrev pub invariant-loop-k : goal.invariant-loop-k
invariant-loop-k l = (n : ℕ) → get_or l.table n 0 ≡ number_named l.whole.width (rows_of_placed l.placed) (drop l.k l.rows) n
