use Rattle.std.proofs.Common.{◌≡◌, take}
use Rattle.std.specs.Prelude.{count_by}
use Rattle.tree_products.specs.Trials.{is_root_row}
use Rattle.tree_products.proofs.trial.count_roots.Given as goal

abbrev pub invariant-loop-row : goal.invariant-loop-row
invariant-loop-row l = l.roots ≡ count_by is_root_row (take l.row-index l.rows)
