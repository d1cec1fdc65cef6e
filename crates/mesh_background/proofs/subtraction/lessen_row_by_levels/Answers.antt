use Rattle.std.proofs.Common.{ℕ, ℤ, ◌+◌, ◌*◌, ◌<◌, ◌∙◌, sym, subst, arith}
use Rattle.mesh_background.specs.Residuals.{pixel_level}
use Rattle.mesh_background.proofs.Extents.{columns-some}
use Rattle.mesh_background.proofs.Lessening.{half_from-later}
use Rattle.mesh_background.proofs.Rows.{columns-few, runs-none, runs-next, runs-done}
use Rattle.mesh_background.proofs.subtraction.lessen_row_by_levels.Goals as goal

pub cells-down-requires-clause-some_cells : goal.cells-down-requires-clause-some_cells
cells-down-requires-clause-some_cells c =
    let g = c.args.grid.now in
    subst (λ (n : ℕ). 0 < n) (sym g.rows_is) (columns-some g.mesh g.shape.height g.some g.shape.within_limits.some_rows)

pub cells-down-requires-clause-some : goal.cells-down-requires-clause-some
cells-down-requires-clause-some c = c.args.grid.now.some

pub cells-down-requires-clause-few : goal.cells-down-requires-clause-few
cells-down-requires-clause-few c = c.args.grid.now.few

pub overflow_add-next-end : goal.overflow_add-next-end
overflow_add-next-end c =
    let g = c.args.grid.now in
    omega (arith, columns-few g.mesh g.shape.width g.columns g.some g.shape.within_limits.few_columns g.columns_is)

pub loop-next-init : goal.loop-next-init
loop-next-init c =
    let g = c.args.grid.now in
    let by : ℕ → ℤ = λ x. pixel_level g.mesh g.shape c.args.numbers.now (c.args.y * g.shape.width + x) in
    runs-none c.args.row.now by g.shape.width g.mesh

pub lessen_run_by_levels-requires-clause-one_each : goal.lessen_run_by_levels-requires-clause-one_each
lessen_run_by_levels-requires-clause-one_each c = c.loop-next.invariant.one_each ∙ c.requires.one_each

pub lessen_run_by_levels-requires-clause-before : goal.lessen_run_by_levels-requires-clause-before
lessen_run_by_levels-requires-clause-before c = c.cells-down.ensures.before

pub lessen_run_by_levels-requires-clause-after : goal.lessen_run_by_levels-requires-clause-after
lessen_run_by_levels-requires-clause-after c = c.cells-down.ensures.after

pub lessen_run_by_levels-requires-clause-past : goal.lessen_run_by_levels-requires-clause-past
lessen_run_by_levels-requires-clause-past c = c.cells-down.ensures.past

pub lessen_run_by_levels-requires-clause-next : goal.lessen_run_by_levels-requires-clause-next
lessen_run_by_levels-requires-clause-next c = let lt : c.loop-next.next < c.args.grid.now.columns + 1 = c.loop-next-test.true in omega (arith, lt)

pub lessen_run_by_levels-requires-clause-in_range : goal.lessen_run_by_levels-requires-clause-in_range
lessen_run_by_levels-requires-clause-in_range c =
    let g = c.args.grid.now in
    let by : ℕ → ℤ = λ x. pixel_level g.mesh g.shape c.args.numbers.now (c.args.y * g.shape.width + x) in
    half_from-later c.args.row.now c.loop-next.row by 0 _ 0 c.requires.in_range c.loop-next.invariant (omega arith)

pub loop-next-preserved : goal.loop-next-preserved
loop-next-preserved c =
    let g = c.args.grid.now in
    let by : ℕ → ℤ = λ x. pixel_level g.mesh g.shape c.args.numbers.now (c.args.y * g.shape.width + x) in
    runs-next c.args.row.now c.loop-next.row c.lessen_run_by_levels.new.row by g.mesh g.shape.width c.loop-next.next c.loop-next.invariant
    c.lessen_run_by_levels.ensures

pub returns : goal.returns
returns c =
    let g = c.args.grid.now in
    let by : ℕ → ℤ = λ x. pixel_level g.mesh g.shape c.args.numbers.now (c.args.y * g.shape.width + x) in
    runs-done c.args.row.now c.loop-next.row by g.shape.width g.mesh g.columns c.loop-next.next g.some g.columns_is c.loop-next-test.false
    c.loop-next.invariant
