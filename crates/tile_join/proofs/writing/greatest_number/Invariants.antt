use Rattle.std.proofs.Common.{◌≡◌, ℕ, ◌<◌, ◌≤◌}
use Rattle.std.specs.Prelude.{pos, ◌≤ℤ◌, Some, slice_get}
use Rattle.source_pick.specs.declared.catalogue.CatRow.{CatRow}
use Rattle.tile_join.proofs.writing.greatest_number.Given as goal

abbrev pub invariant-loop-row : goal.invariant-loop-row
invariant-loop-row l = record {
  all : (i : ℕ) (row : CatRow) → i < l.row-index → slice_get l.rows i ≡ Some row → row.number ≤ℤ pos l.greatest;
  few : l.greatest ≤ 2147483647;
}
