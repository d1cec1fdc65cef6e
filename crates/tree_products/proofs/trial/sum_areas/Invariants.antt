use Rattle.std.proofs.Common.{◌≡◌, ◌*◌, ◌^◌, ◌≤◌, take}
use Rattle.std.specs.Prelude.{sum_by}
use Rattle.tree_products.proofs.trial.sum_areas.Given as goal

abbrev pub invariant-loop-entry : goal.invariant-loop-entry
invariant-loop-entry l = record {
  so_far : l.areas ≡ sum_by (λ o. o.area) (take l.entry-index l.outlines);
  small : l.areas ≤ 2 ^ 32 * l.entry-index;
}
