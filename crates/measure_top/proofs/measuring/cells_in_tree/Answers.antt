use Rattle.std.proofs.Common.{List, subst, sym}
use Rattle.std.specs.Prelude.{◌≡◌, ℕ, Some, slice_get}
use Rattle.dual_measure.specs.declared.values.Measure.{Measure}
use Rattle.dual_measure.specs.Measures.{HasMeasureSizes}
use Rattle.measure_top.proofs.measuring.cells_in_tree.Goals as goal

pub table_cells-requires-clause-small : goal.table_cells-requires-clause-small
table_cells-requires-clause-small c =
    subst (λ (l : List Measure). (m : ℕ) (entry : Measure) → slice_get l m ≡ Some entry → HasMeasureSizes entry) (sym c.deref.ensures.value)
    c.in_ok-measures.ensures.small
