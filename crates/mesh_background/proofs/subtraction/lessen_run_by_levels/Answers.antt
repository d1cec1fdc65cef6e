use Rattle.std.proofs.Common.{◌^◌, rules, ◌≡◌, ◌+◌, ◌-◌, ◌*◌, ◌<◌, ◌≤◌, ℕ, ℤ, List, length, sym, ap, subst, ◌∙◌, arith}
use Rattle.std.proofs.lemmas.Int.{to_z-of_z}
use mir.Syntax.{w64}
use mir.Val.{SFits}
use Rattle.comp_tree.specs.declared.shape.Shape.{Shape}
use Rattle.comp_tree.specs.Limits.{IsInHalfRange}
use Rattle.mesh_background.specs.declared.slope.Mixed.{Mixed}
use Rattle.mesh_background.specs.Mesh.{cells_along, cell_count}
use Rattle.mesh_background.specs.Interpolation.{cell_before, cell_after}
use Rattle.mesh_background.specs.Residuals.{pixel_level}
use Rattle.mesh_background.specs.Lessened.{IsInHalfRangeFrom, IsLessened}
use Rattle.mesh_background.specs.Slopes.{steps_on, first_before}
use Rattle.mesh_background.proofs.Extents.{columns-some}
use Rattle.mesh_background.proofs.Fitting.{kept}
use Rattle.mesh_background.proofs.Levels.{past-below, cell-within, within-interpolated, times-kept, IsPlaced}
use Rattle.mesh_background.proofs.Slopes.{IsRun, run-is, run-level, run-along}
use Rattle.mesh_background.proofs.Lessening.{run-lessened}
use Rattle.mesh_background.proofs.Rows.{columns-few, run-order}
use Rattle.mesh_background.proofs.subtraction.lessen_run_by_levels.Goals as goal

-- the four cells have numbers
in-grid : (columns rows mesh x y a c : ℕ) (numbers : List ℤ) → 0 < columns → 0 < rows → length numbers ≡ columns * rows → a < columns → c < rows
    → c * columns + a < length numbers
in-grid columns rows mesh x y a c numbers wide high long al cl = subst (λ (n : ℕ). c * columns + a < n) (sym long) (cell-within columns rows a c al cl)

-- what is known of the grid and the pixel row
record IsReady (columns rows mesh y c d q : ℕ) (numbers : List ℤ) : Type 0 where
  wide : 0 < columns
  high : 0 < rows
  long : length numbers ≡ columns * rows
  placed : IsPlaced rows mesh y c d q

cell-in : (columns rows mesh x y a b p c d q : ℕ) (numbers : List ℤ) → IsReady columns rows mesh y c d q numbers → IsPlaced columns mesh x a b p
    → (c * columns + a < length numbers) × (d * columns + a < length numbers) × (c * columns + b < length numbers) × (d * columns + b < length numbers)
cell-in columns rows mesh x y a b p c d q numbers h k =
    let wide : 0 < columns = h.wide in
    let high : 0 < rows = h.high in
    let ae : a ≡ cell_before columns mesh x = k.before_is in
    let be : b ≡ cell_after columns mesh x = k.after_is in
    let ce : c ≡ cell_before rows mesh y = h.placed.before_is in
    let de : d ≡ cell_after rows mesh y = h.placed.after_is in
    let al : a < columns = omega (arith, ae, wide) in
    let bl : b < columns = omega (arith, be, wide) in
    let cl : c < rows = omega (arith, ce, high) in
    let dl : d < rows = omega (arith, de, high) in (
      in-grid columns rows mesh x y a c numbers wide high h.long al cl,
      in-grid columns rows mesh x y a d numbers wide high h.long al dl,
      in-grid columns rows mesh x y b c numbers wide high h.long bl cl,
      in-grid columns rows mesh x y b d numbers wide high h.long bl dl,
    )

ready : (columns rows mesh y c d q : ℕ) (shape : Shape) (numbers : List ℤ) → 0 < mesh → columns ≡ cells_along mesh shape.width
    → rows ≡ cells_along mesh shape.height → length numbers ≡ cell_count mesh shape → IsPlaced rows mesh y c d q → IsReady columns rows mesh y c d q numbers
ready columns rows mesh y c d q shape numbers some e f long placed =
    let wide : 0 < cells_along mesh shape.width = columns-some mesh shape.width some shape.within_limits.some_columns in
    let high : 0 < cells_along mesh shape.height = columns-some mesh shape.height some shape.within_limits.some_rows in
    record {
      wide = omega (arith, wide, e);
      high = omega (arith, high, f);
      long = long ∙ (λ i. sym e i * sym f i);
      placed = placed;
    }

pub down_column-before-requires-clause-past : goal.down_column-before-requires-clause-past
down_column-before-requires-clause-past c =
    let g = c.args.grid.now in
    omega (arith, c.requires.past, past-below g.mesh c.args.y g.some)

pub down_column-after-requires-clause-past : goal.down_column-after-requires-clause-past
down_column-after-requires-clause-past c =
    let g = c.args.grid.now in
    omega (arith, c.requires.past, past-below g.mesh c.args.y g.some)

pub down_column-before-requires-clause-before : goal.down_column-before-requires-clause-before
down_column-before-requires-clause-before c =
    let g = c.args.grid.now in
    let down : IsPlaced g.rows g.mesh c.args.y _ _ _ = record { before_is = c.requires.before; after_is = c.requires.after; past_is = c.requires.past } in
    let is =
    ready g.columns g.rows g.mesh c.args.y _ _ _ g.shape c.args.numbers.now g.some g.columns_is g.rows_is c.requires.numbers.one_each down in
    let across = c.cells-across.ensures in
    (cell-in g.columns g.rows g.mesh _ c.args.y _ _ _ _ _ _ c.args.numbers.now is
    (record { before_is = across.before; after_is = across.after; past_is = across.past })).0

pub down_column-before-requires-clause-after : goal.down_column-before-requires-clause-after
down_column-before-requires-clause-after c =
    let g = c.args.grid.now in
    let down : IsPlaced g.rows g.mesh c.args.y _ _ _ = record { before_is = c.requires.before; after_is = c.requires.after; past_is = c.requires.past } in
    let is =
    ready g.columns g.rows g.mesh c.args.y _ _ _ g.shape c.args.numbers.now g.some g.columns_is g.rows_is c.requires.numbers.one_each down in
    let across = c.cells-across.ensures in
    (cell-in g.columns g.rows g.mesh _ c.args.y _ _ _ _ _ _ c.args.numbers.now is
    (record { before_is = across.before; after_is = across.after; past_is = across.past })).1

pub down_column-after-requires-clause-before : goal.down_column-after-requires-clause-before
down_column-after-requires-clause-before c =
    let g = c.args.grid.now in
    let down : IsPlaced g.rows g.mesh c.args.y _ _ _ = record { before_is = c.requires.before; after_is = c.requires.after; past_is = c.requires.past } in
    let is =
    ready g.columns g.rows g.mesh c.args.y _ _ _ g.shape c.args.numbers.now g.some g.columns_is g.rows_is c.requires.numbers.one_each down in
    let across = c.cells-across.ensures in
    (cell-in g.columns g.rows g.mesh _ c.args.y _ _ _ _ _ _ c.args.numbers.now is
    (record { before_is = across.before; after_is = across.after; past_is = across.past })).2

pub down_column-after-requires-clause-after : goal.down_column-after-requires-clause-after
down_column-after-requires-clause-after c =
    let g = c.args.grid.now in
    let down : IsPlaced g.rows g.mesh c.args.y _ _ _ = record { before_is = c.requires.before; after_is = c.requires.after; past_is = c.requires.past } in
    let is =
    ready g.columns g.rows g.mesh c.args.y _ _ _ g.shape c.args.numbers.now g.some g.columns_is g.rows_is c.requires.numbers.one_each down in
    let across = c.cells-across.ensures in
    (cell-in g.columns g.rows g.mesh _ c.args.y _ _ _ _ _ _ c.args.numbers.now is
    (record { before_is = across.before; after_is = across.after; past_is = across.past })).3

pub lessen_slope-requires-clause-levels : goal.lessen_slope-requires-clause-levels
lessen_slope-requires-clause-levels c =
    let g = c.args.grid.now in
    let left : ℕ = c.run_start-left.result in
    let level : Mixed = c.level_between-level.result in
    let step : Mixed = c.step_between-step.result in
    let parts : ℕ = 2 * g.mesh * (2 * g.mesh) in
    let across = c.cells-across.ensures in
    let first : SFits w64 c.down_column-before.result = search rules in
    let second : SFits w64 c.down_column-after.result = search rules in
    let run : IsRun c.args.numbers.now g.columns g.rows g.mesh c.args.y left level step =
    run-is c.args.numbers.now g.columns g.rows g.mesh c.args.y left _ _ _ _ _ _
    (kept w64 c.down_column-before.result) (kept w64 c.down_column-after.result) level step
    (record { before_is = across.before; after_is = across.after; past_is = across.past })
    (record { before_is = c.requires.before; after_is = c.requires.after; past_is = c.requires.past })
    (to_z-of_z w64 c.down_column-before.result first ∙ c.down_column-before.ensures.value)
    (to_z-of_z w64 c.down_column-after.result second ∙ c.down_column-after.ensures.value)
    c.level_between-level.ensures.value c.step_between-step.ensures.value in
    λ k lt.
    let inside : k < first_before g.mesh g.shape.width (c.args.next + 1) - left = omega (arith, lt, c.run_start-right.ensures) in
    let along = run-along g.mesh g.shape.width c.args.next left k g.some c.run_start-left.ensures inside in
    let is =
    ap (λ (n : ℕ). steps_on n level step k) c.parts_of.ensures.parts
    ∙ run-level c.args.numbers.now g.columns g.rows g.mesh c.args.y left (left + k) k level step run along in
    subst (λ (z : ℤ). IsInHalfRange z) (sym is) (within-interpolated (2 ^ 36) c.args.numbers.now g.columns g.rows g.mesh (left + k) c.args.y g.some
    c.requires.numbers.in_range)

pub returns : goal.returns
returns c =
    let g = c.args.grid.now in
    let left : ℕ = c.run_start-left.result in
    let level : Mixed = c.level_between-level.result in
    let step : Mixed = c.step_between-step.result in
    let parts : ℕ = 2 * g.mesh * (2 * g.mesh) in
    let across = c.cells-across.ensures in
    let first : SFits w64 c.down_column-before.result = search rules in
    let second : SFits w64 c.down_column-after.result = search rules in
    let run : IsRun c.args.numbers.now g.columns g.rows g.mesh c.args.y left level step =
    run-is c.args.numbers.now g.columns g.rows g.mesh c.args.y left _ _ _ _ _ _
    (kept w64 c.down_column-before.result) (kept w64 c.down_column-after.result) level step
    (record { before_is = across.before; after_is = across.after; past_is = across.past })
    (record { before_is = c.requires.before; after_is = c.requires.after; past_is = c.requires.past })
    (to_z-of_z w64 c.down_column-before.result first ∙ c.down_column-before.ensures.value)
    (to_z-of_z w64 c.down_column-after.result second ∙ c.down_column-after.ensures.value)
    c.level_between-level.ensures.value c.step_between-step.ensures.value in
    let right : ℕ = c.run_start-right.result in
    let done : IsLessened c.args.row.now (λ x. steps_on parts level step (x - left)) left right c.lessen_slope.new.row =
    subst (λ (m : ℕ). IsLessened c.args.row.now (λ x. steps_on m level step (x - left)) left right c.lessen_slope.new.row)
    c.parts_of.ensures.parts c.lessen_slope.ensures in
    let all =
    run-lessened c.args.row.now c.lessen_slope.new.row g.shape g.mesh g.columns g.rows c.args.y c.args.next left right c.args.numbers.now level step g.some
    g.columns_is g.rows_is c.run_start-left.ensures c.run_start-right.ensures run done in
    let by : ℕ → ℤ = λ x. pixel_level g.mesh g.shape c.args.numbers.now (c.args.y * g.shape.width + x) in
    subst (λ (m : ℕ). IsLessened c.args.row.now by (first_before g.mesh g.shape.width c.args.next) m c.lessen_slope.new.row) c.run_start-right.ensures
    (subst (λ (m : ℕ). IsLessened c.args.row.now by m right c.lessen_slope.new.row) c.run_start-left.ensures all)

pub run_start-left-requires : goal.run_start-left-requires
run_start-left-requires c = let le : c.args.next ≤ c.args.grid.now.columns = c.requires.next in omega (arith, le)

pub overflow_add-next : goal.overflow_add-next
overflow_add-next c =
    let g = c.args.grid.now in
    let le : c.args.next ≤ g.columns = c.requires.next in
    omega (arith, le, columns-few g.mesh g.shape.width g.columns g.some g.shape.within_limits.few_columns g.columns_is)

pub run_start-right-requires : goal.run_start-right-requires
run_start-right-requires c = let le : c.args.next ≤ c.args.grid.now.columns = c.requires.next in omega (arith, le)

pub cells-across-requires-clause-some_cells : goal.cells-across-requires-clause-some_cells
cells-across-requires-clause-some_cells c =
    let g = c.args.grid.now in
    subst (λ (n : ℕ). 0 < n) (sym g.columns_is) (columns-some g.mesh g.shape.width g.some g.shape.within_limits.some_columns)

pub cells-across-requires-clause-some : goal.cells-across-requires-clause-some
cells-across-requires-clause-some c = c.args.grid.now.some

pub level_between-level-requires-clause-some : goal.level_between-level-requires-clause-some
level_between-level-requires-clause-some c = c.args.grid.now.some

pub step_between-step-requires-clause-some : goal.step_between-step-requires-clause-some
step_between-step-requires-clause-some c = c.args.grid.now.some

pub parts_of-requires-clause-some : goal.parts_of-requires-clause-some
parts_of-requires-clause-some c = c.args.grid.now.some

pub cells-across-requires-clause-few : goal.cells-across-requires-clause-few
cells-across-requires-clause-few c = c.args.grid.now.few

pub level_between-level-requires-clause-few : goal.level_between-level-requires-clause-few
level_between-level-requires-clause-few c = c.args.grid.now.few

pub step_between-step-requires-clause-few : goal.step_between-step-requires-clause-few
step_between-step-requires-clause-few c = c.args.grid.now.few

pub parts_of-requires-clause-few : goal.parts_of-requires-clause-few
parts_of-requires-clause-few c = c.args.grid.now.few

pub down_column-before-requires-clause-mesh : goal.down_column-before-requires-clause-mesh
down_column-before-requires-clause-mesh c = c.args.grid.now.few

pub down_column-before-requires-clause-in_range : goal.down_column-before-requires-clause-in_range
down_column-before-requires-clause-in_range c = c.requires.numbers.in_range

pub down_column-after-requires-clause-mesh : goal.down_column-after-requires-clause-mesh
down_column-after-requires-clause-mesh c = c.args.grid.now.few

pub down_column-after-requires-clause-in_range : goal.down_column-after-requires-clause-in_range
down_column-after-requires-clause-in_range c = c.requires.numbers.in_range

pub level_between-level-requires-clause-part : goal.level_between-level-requires-clause-part
level_between-level-requires-clause-part c =
    let lt : c.cells-across.result.past < 2 * c.args.grid.now.mesh = c.cells-across.ensures.below in
    omega (arith, lt)

pub level_between-level-requires-clause-first : goal.level_between-level-requires-clause-first
level_between-level-requires-clause-first c =
    times-kept c.args.grid.now.mesh c.down_column-before.result c.args.grid.now.few c.down_column-before.ensures.in_range

pub level_between-level-requires-clause-second : goal.level_between-level-requires-clause-second
level_between-level-requires-clause-second c =
    times-kept c.args.grid.now.mesh c.down_column-after.result c.args.grid.now.few c.down_column-after.ensures.in_range

pub step_between-step-requires-clause-first : goal.step_between-step-requires-clause-first
step_between-step-requires-clause-first c =
    times-kept c.args.grid.now.mesh c.down_column-before.result c.args.grid.now.few c.down_column-before.ensures.in_range

pub step_between-step-requires-clause-second : goal.step_between-step-requires-clause-second
step_between-step-requires-clause-second c =
    times-kept c.args.grid.now.mesh c.down_column-after.result c.args.grid.now.few c.down_column-after.ensures.in_range

pub lessen_slope-requires-clause-order : goal.lessen_slope-requires-clause-order
lessen_slope-requires-clause-order c =
    let g = c.args.grid.now in
    (run-order g.mesh g.shape.width c.args.next _ _ c.run_start-left.ensures c.run_start-right.ensures).0

pub lessen_slope-requires-clause-within : goal.lessen_slope-requires-clause-within
lessen_slope-requires-clause-within c =
    let g = c.args.grid.now in
    let order = run-order g.mesh g.shape.width c.args.next _ _ c.run_start-left.ensures c.run_start-right.ensures in
    omega (arith, order.2, c.requires.one_each)

pub lessen_slope-requires-clause-some : goal.lessen_slope-requires-clause-some
lessen_slope-requires-clause-some c = c.parts_of.ensures.some

pub lessen_slope-requires-clause-few : goal.lessen_slope-requires-clause-few
lessen_slope-requires-clause-few c = c.parts_of.ensures.few

pub lessen_slope-requires-clause-rest : goal.lessen_slope-requires-clause-rest
lessen_slope-requires-clause-rest c =
    subst (λ (n : ℕ). c.level_between-level.result.rest < n) (sym c.parts_of.ensures.parts) c.level_between-level.ensures.rest

pub lessen_slope-requires-clause-step_rest : goal.lessen_slope-requires-clause-step_rest
lessen_slope-requires-clause-step_rest c =
    subst (λ (n : ℕ). c.step_between-step.result.rest < n) (sym c.parts_of.ensures.parts) c.step_between-step.ensures.rest

pub lessen_slope-requires-clause-step : goal.lessen_slope-requires-clause-step
lessen_slope-requires-clause-step c = c.step_between-step.ensures.small

pub lessen_slope-requires-clause-in_range : goal.lessen_slope-requires-clause-in_range
lessen_slope-requires-clause-in_range c = subst (λ (n : ℕ). IsInHalfRangeFrom n c.args.row.now) (sym c.run_start-left.ensures) c.requires.in_range
