use Rattle.std.proofs.Common.{◌≡◌, take}
use Rattle.std.specs.Prelude.{count_by}
use Rattle.tree_products.specs.Trials.{is_mapped}
use Rattle.tree_products.proofs.trial.count_mapped.Given as goal

abbrev pub invariant-loop-number : goal.invariant-loop-number
invariant-loop-number l = l.mapped ≡ count_by is_mapped (take l.number-index l.numbers)
