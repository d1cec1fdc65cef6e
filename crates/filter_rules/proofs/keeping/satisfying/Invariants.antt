use Rattle.std.proofs.Common.{◌≡◌, ℕ, ◌<◌, length}
use Rattle.node_sums.specs.Outlines.{ForEachPlaneOutlined}
use Rattle.filter_rules.specs.Criteria.{satisfies}
use Rattle.filter_rules.specs.Passes.{flag}
use Rattle.filter_rules.proofs.keeping.satisfying.Given as goal

abbrev pub invariant-loop-n : goal.invariant-loop-n
invariant-loop-n l = record {
  one_each : length l.flags.items ≡ l.n;
  asked : ForEachPlaneOutlined l.tree l.outlines (λ plane connect. (n : ℕ) → n < l.n → flag l.flags.items n ≡ satisfies plane connect l.criterion n);
}
