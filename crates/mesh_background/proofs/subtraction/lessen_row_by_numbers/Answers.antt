use Rattle.std.proofs.Common.{◌≡◌, ◌+◌, ◌*◌, ◌/◌, ◌<◌, ℕ, ℤ, pos, min, length, get_or, sym, subst, ◌∙◌, arith}
use Rattle.std.proofs.lemmas.Int.{to_z-of_z}
use mir.Syntax.{w64}
use mir.Val.{of_z, to_z}
use Rattle.comp_tree.specs.Limits.{IsInHalfRange}
use Rattle.mesh_background.specs.Mesh.{cells_along, cell_count}
use Rattle.mesh_background.specs.Lessened.{number_of_cell, IsInHalfRangeFrom}
use Rattle.mesh_background.proofs.Extents.{columns-some}
use Rattle.mesh_background.proofs.Residuals.{half-fits}
use Rattle.mesh_background.proofs.Lessening.{place-few, row-next, column-start, half_from-later}
use Rattle.mesh_background.proofs.Rows.{column-fits, column-within, row-none, row-done}
use Rattle.mesh_background.proofs.subtraction.lessen_row_by_numbers.Goals as goal

pub overflow_mul-cells : goal.overflow_mul-cells
overflow_mul-cells c =
    let g = c.args.grid.now in
    let some : 0 < cells_along g.mesh g.shape.width = columns-some g.mesh g.shape.width g.some g.shape.within_limits.some_columns in
    let few =
    place-few g.mesh g.shape.width g.shape.height g.columns c.args.y 0 g.some g.shape.within_limits g.columns_is c.requires.row
    (subst (λ (n : ℕ). 0 < n) (sym g.columns_is) some) in
    omega (arith, few.0, few.1)

pub overflow_add-number : goal.overflow_add-number
overflow_add-number c =
    let g = c.args.grid.now in
    let few =
    place-few g.mesh g.shape.width g.shape.height g.columns c.args.y c.loop-column.column g.some g.shape.within_limits g.columns_is c.requires.row
    c.loop-column-test.true in
    omega (arith, few.0, few.1)

pub bounds-numbers-cells : goal.bounds-numbers-cells
bounds-numbers-cells c =
    let g = c.args.grid.now in
    let few =
    place-few g.mesh g.shape.width g.shape.height g.columns c.args.y c.loop-column.column g.some g.shape.within_limits g.columns_is c.requires.row
    c.loop-column-test.true in
    let long : length c.args.numbers.now ≡ cell_count g.mesh g.shape = c.requires.numbers.one_each in
    omega (arith, few.0, long)

pub lessen_run-requires-clause-in_range : goal.lessen_run-requires-clause-in_range
lessen_run-requires-clause-in_range c =
    let g = c.args.grid.now in
    let by : ℕ → ℤ = λ x. number_of_cell g.mesh g.shape.width c.args.numbers.now (c.args.y * g.shape.width + x) in
    let start : min (c.loop-column.column * g.mesh) g.shape.width ≡ c.loop-column.column * g.mesh =
    column-start g.mesh g.shape.width g.columns c.loop-column.column g.some g.columns_is c.loop-column-test.true in
    subst (λ (n : ℕ). IsInHalfRangeFrom n c.loop-column.row) start
    (half_from-later c.args.row.now c.loop-column.row by 0 (min (c.loop-column.column * g.mesh) g.shape.width) 0 c.requires.in_range c.loop-column.invariant
    (omega arith))

pub loop-column-preserved : goal.loop-column-preserved
loop-column-preserved c =
    let g = c.args.grid.now in
    let few =
    place-few g.mesh g.shape.width g.shape.height g.columns c.args.y c.loop-column.column g.some g.shape.within_limits g.columns_is c.requires.row
    c.loop-column-test.true in
    let long : length c.args.numbers.now ≡ cell_count g.mesh g.shape = c.requires.numbers.one_each in
    let inside : c.args.y / g.mesh * g.columns + c.loop-column.column < length c.args.numbers.now = omega (arith, few.0, long) in
    let number : ℤ = get_or c.args.numbers.now (c.args.y / g.mesh * g.columns + c.loop-column.column) (pos 0) in
    row-next c.args.row.now c.loop-column.row c.lessen_run.new.row g.mesh g.shape.width g.columns c.args.y c.loop-column.column c.min-right.result
    c.args.numbers.now (to_z w64 (of_z w64 number)) g.some g.columns_is c.loop-column-test.true
    (to_z-of_z w64 number (half-fits number (c.requires.numbers.in_range _ (pos 0) inside)))
    c.min-right.ensures c.loop-column.invariant c.lessen_run.ensures

pub nonzero_div-cells : goal.nonzero_div-cells
nonzero_div-cells c = c.args.grid.now.some

pub loop-column-init : goal.loop-column-init
loop-column-init c =
    let g = c.args.grid.now in
    let by : ℕ → ℤ = λ x. number_of_cell g.mesh g.shape.width c.args.numbers.now (c.args.y * g.shape.width + x) in
    row-none c.args.row.now by g.shape.width g.mesh

pub overflow_mul-left : goal.overflow_mul-left
overflow_mul-left c =
    let g = c.args.grid.now in
    (column-fits g.mesh g.shape.width g.columns c.loop-column.column g.some g.few g.shape.within_limits.few_columns g.columns_is c.loop-column-test.true).0

pub overflow_add-left : goal.overflow_add-left
overflow_add-left c =
    let g = c.args.grid.now in
    (column-fits g.mesh g.shape.width g.columns c.loop-column.column g.some g.few g.shape.within_limits.few_columns g.columns_is c.loop-column-test.true).1

pub offset_bounds-numbers-cells : goal.offset_bounds-numbers-cells
offset_bounds-numbers-cells c =
    let g = c.args.grid.now in
    let few =
    place-few g.mesh g.shape.width g.shape.height g.columns c.args.y c.loop-column.column g.some g.shape.within_limits g.columns_is c.requires.row
    c.loop-column-test.true in
    omega (arith, few.0, few.1)

pub lessen_run-requires-clause-order : goal.lessen_run-requires-clause-order
lessen_run-requires-clause-order c =
    let g = c.args.grid.now in
    let within =
    column-within g.mesh g.shape.width g.columns c.loop-column.column c.min-right.result g.some g.columns_is c.loop-column-test.true c.min-right.ensures in
    within.1

pub lessen_run-requires-clause-within : goal.lessen_run-requires-clause-within
lessen_run-requires-clause-within c =
    let g = c.args.grid.now in
    let within =
    column-within g.mesh g.shape.width g.columns c.loop-column.column c.min-right.result g.some g.columns_is c.loop-column-test.true c.min-right.ensures in
    let long : length c.loop-column.row ≡ g.shape.width = c.loop-column.invariant.one_each ∙ c.requires.one_each in
    omega (arith, within.2, long)

pub lessen_run-requires-clause-number : goal.lessen_run-requires-clause-number
lessen_run-requires-clause-number c =
    let g = c.args.grid.now in
    let few =
    place-few g.mesh g.shape.width g.shape.height g.columns c.args.y c.loop-column.column g.some g.shape.within_limits g.columns_is c.requires.row
    c.loop-column-test.true in
    let long : length c.args.numbers.now ≡ cell_count g.mesh g.shape = c.requires.numbers.one_each in
    let inside : c.args.y / g.mesh * g.columns + c.loop-column.column < length c.args.numbers.now = omega (arith, few.0, long) in
    let number : ℤ = get_or c.args.numbers.now (c.args.y / g.mesh * g.columns + c.loop-column.column) (pos 0) in
    let half : IsInHalfRange number = c.requires.numbers.in_range _ (pos 0) inside in
    subst (λ (z : ℤ). IsInHalfRange z) (sym (to_z-of_z w64 number (half-fits number half))) half

pub returns : goal.returns
returns c =
    let g = c.args.grid.now in
    let by : ℕ → ℤ = λ x. number_of_cell g.mesh g.shape.width c.args.numbers.now (c.args.y * g.shape.width + x) in
    row-done c.args.row.now c.loop-column.row by g.shape.width g.mesh g.columns c.loop-column.column g.some g.columns_is c.loop-column-test.false
    c.loop-column.invariant
