use Rattle.std.proofs.Common.{◌≡◌, length}
use Rattle.filter_rules.specs.Passes.{AreValues}
use Rattle.filter_rules.proofs.filtering.node_values.Given as goal

abbrev pub invariant-loop-n : goal.invariant-loop-n
invariant-loop-n l = record {
  one_each : length l.values.items ≡ l.n;
  made : AreValues l.rows l.rule l.kept l.values.items;
}
