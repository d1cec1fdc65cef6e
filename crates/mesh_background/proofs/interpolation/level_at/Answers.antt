use Rattle.std.proofs.Common.{rules, ◌≡◌, ℕ, ◌+◌, ◌*◌, ◌<◌, ℤ, pos, List, length, sym, subst, ◌∙◌, arith}
use Rattle.std.specs.Int.{int_div_euclid}
use Rattle.std.proofs.lemmas.Int.{to_z-of_z}
use mir.Syntax.{w64}
use mir.Val.{SFits}
use Rattle.mesh_background.specs.Smoothing.{number_in_grid}
use Rattle.mesh_background.specs.Interpolation.{past_centre, part_way, interpolated}
use Rattle.mesh_background.proofs.Fitting.{kept}
use Rattle.mesh_background.proofs.Levels.{IsPlaced, placed-within, cell-within, times-kept}
use Rattle.mesh_background.proofs.Slopes.{mixed-is}
use Rattle.mesh_background.proofs.interpolation.level_at.Goals as goal

level-is : (values : List ℤ) (columns rows mesh x y a b p c d q : ℕ) (first second result : ℤ) → IsPlaced columns mesh x a b p → IsPlaced rows mesh y c d q
    → first ≡ part_way (2 * mesh) q (number_in_grid values columns a c) (number_in_grid values columns a d)
    → second ≡ part_way (2 * mesh) q (number_in_grid values columns b c) (number_in_grid values columns b d)
    → result ≡ int_div_euclid (part_way (2 * mesh) p first second) (pos (2 * mesh * (2 * mesh))) → result ≡ interpolated values columns rows mesh x y
unfolding interpolated
level-is values columns rows mesh x y a b p c d q first second result h k one two is =
    is ∙ (λ i. int_div_euclid (part_way (2 * mesh) (h.past_is i) (one i) (two i)) (pos (2 * mesh * (2 * mesh))))
    ∙ (λ i. int_div_euclid (part_way (2 * mesh) (past_centre mesh x)
    (part_way (2 * mesh) (k.past_is i) (number_in_grid values columns (h.before_is i) (k.before_is i))
    (number_in_grid values columns (h.before_is i) (k.after_is i)))
    (part_way (2 * mesh) (k.past_is i) (number_in_grid values columns (h.after_is i) (k.before_is i))
    (number_in_grid values columns (h.after_is i) (k.after_is i))))
    (pos (2 * mesh * (2 * mesh))))

-- a cell has a number
in-grid : (columns rows a c : ℕ) (values : List ℤ) → length values ≡ columns * rows → a < columns → c < rows → c * columns + a < length values
in-grid columns rows a c values long al cl = subst (λ (n : ℕ). c * columns + a < n) (sym long) (cell-within columns rows a c al cl)

pub returns : goal.returns
returns c =
    let fits : SFits w64 c.level_between.result.floor = search rules in
    let first : SFits w64 c.down_column-before.result = search rules in
    let second : SFits w64 c.down_column-after.result = search rules in
    let across = c.cells-across.ensures in
    let down = c.cells-down.ensures in
    let level = c.level_between.ensures in
    to_z-of_z w64 c.level_between.result.floor fits
    ∙ level-is c.args.values.now c.args.columns c.args.rows c.args.mesh c.args.x c.args.y c.cells-across.result.before c.cells-across.result.after
    c.cells-across.result.past
    c.cells-down.result.before c.cells-down.result.after c.cells-down.result.past (kept w64 c.down_column-before.result) (kept w64 c.down_column-after.result)
    c.level_between.result.floor
    (record { before_is = across.before; after_is = across.after; past_is = across.past })
    (record { before_is = down.before; after_is = down.after; past_is = down.past })
    (to_z-of_z w64 c.down_column-before.result first ∙ c.down_column-before.ensures.value)
    (to_z-of_z w64 c.down_column-after.result second ∙ c.down_column-after.ensures.value)
    (mixed-is (2 * c.args.mesh * (2 * c.args.mesh)) c.level_between.result _ level.rest level.value)

pub cells-across-requires-clause-some_cells : goal.cells-across-requires-clause-some_cells
cells-across-requires-clause-some_cells c = c.requires.some_columns

pub cells-across-requires-clause-some : goal.cells-across-requires-clause-some
cells-across-requires-clause-some c = c.requires.some

pub cells-across-requires-clause-few : goal.cells-across-requires-clause-few
cells-across-requires-clause-few c = c.requires.few

pub cells-down-requires-clause-some_cells : goal.cells-down-requires-clause-some_cells
cells-down-requires-clause-some_cells c = c.requires.some_rows

pub cells-down-requires-clause-some : goal.cells-down-requires-clause-some
cells-down-requires-clause-some c = c.requires.some

pub cells-down-requires-clause-few : goal.cells-down-requires-clause-few
cells-down-requires-clause-few c = c.requires.few

pub down_column-before-requires-clause-mesh : goal.down_column-before-requires-clause-mesh
down_column-before-requires-clause-mesh c = c.requires.few

pub down_column-before-requires-clause-past : goal.down_column-before-requires-clause-past
down_column-before-requires-clause-past c = let lt : c.cells-down.result.past < 2 * c.args.mesh = c.cells-down.ensures.below in omega (arith, lt)

pub down_column-before-requires-clause-before : goal.down_column-before-requires-clause-before
down_column-before-requires-clause-before c =
    let across : IsPlaced c.args.columns c.args.mesh c.args.x _ _ _ =
    record { before_is = c.cells-across.ensures.before; after_is = c.cells-across.ensures.after; past_is = c.cells-across.ensures.past } in
    let down : IsPlaced c.args.rows c.args.mesh c.args.y _ _ _ =
    record { before_is = c.cells-down.ensures.before; after_is = c.cells-down.ensures.after; past_is = c.cells-down.ensures.past } in
    in-grid c.args.columns c.args.rows c.cells-across.result.before c.cells-down.result.before c.args.values.now c.requires.one_each
    (placed-within c.args.columns c.args.mesh c.args.x _ _ _ c.requires.some_columns across).0
    (placed-within c.args.rows c.args.mesh c.args.y _ _ _ c.requires.some_rows down).0

pub down_column-before-requires-clause-after : goal.down_column-before-requires-clause-after
down_column-before-requires-clause-after c =
    let across : IsPlaced c.args.columns c.args.mesh c.args.x _ _ _ =
    record { before_is = c.cells-across.ensures.before; after_is = c.cells-across.ensures.after; past_is = c.cells-across.ensures.past } in
    let down : IsPlaced c.args.rows c.args.mesh c.args.y _ _ _ =
    record { before_is = c.cells-down.ensures.before; after_is = c.cells-down.ensures.after; past_is = c.cells-down.ensures.past } in
    in-grid c.args.columns c.args.rows c.cells-across.result.before c.cells-down.result.after c.args.values.now c.requires.one_each
    (placed-within c.args.columns c.args.mesh c.args.x _ _ _ c.requires.some_columns across).0
    (placed-within c.args.rows c.args.mesh c.args.y _ _ _ c.requires.some_rows down).1

pub down_column-before-requires-clause-in_range : goal.down_column-before-requires-clause-in_range
down_column-before-requires-clause-in_range c = c.requires.in_range

pub down_column-after-requires-clause-mesh : goal.down_column-after-requires-clause-mesh
down_column-after-requires-clause-mesh c = c.requires.few

pub down_column-after-requires-clause-past : goal.down_column-after-requires-clause-past
down_column-after-requires-clause-past c = let lt : c.cells-down.result.past < 2 * c.args.mesh = c.cells-down.ensures.below in omega (arith, lt)

pub down_column-after-requires-clause-before : goal.down_column-after-requires-clause-before
down_column-after-requires-clause-before c =
    let across : IsPlaced c.args.columns c.args.mesh c.args.x _ _ _ =
    record { before_is = c.cells-across.ensures.before; after_is = c.cells-across.ensures.after; past_is = c.cells-across.ensures.past } in
    let down : IsPlaced c.args.rows c.args.mesh c.args.y _ _ _ =
    record { before_is = c.cells-down.ensures.before; after_is = c.cells-down.ensures.after; past_is = c.cells-down.ensures.past } in
    in-grid c.args.columns c.args.rows c.cells-across.result.after c.cells-down.result.before c.args.values.now c.requires.one_each
    (placed-within c.args.columns c.args.mesh c.args.x _ _ _ c.requires.some_columns across).1
    (placed-within c.args.rows c.args.mesh c.args.y _ _ _ c.requires.some_rows down).0

pub down_column-after-requires-clause-after : goal.down_column-after-requires-clause-after
down_column-after-requires-clause-after c =
    let across : IsPlaced c.args.columns c.args.mesh c.args.x _ _ _ =
    record { before_is = c.cells-across.ensures.before; after_is = c.cells-across.ensures.after; past_is = c.cells-across.ensures.past } in
    let down : IsPlaced c.args.rows c.args.mesh c.args.y _ _ _ =
    record { before_is = c.cells-down.ensures.before; after_is = c.cells-down.ensures.after; past_is = c.cells-down.ensures.past } in
    in-grid c.args.columns c.args.rows c.cells-across.result.after c.cells-down.result.after c.args.values.now c.requires.one_each
    (placed-within c.args.columns c.args.mesh c.args.x _ _ _ c.requires.some_columns across).1
    (placed-within c.args.rows c.args.mesh c.args.y _ _ _ c.requires.some_rows down).1

pub down_column-after-requires-clause-in_range : goal.down_column-after-requires-clause-in_range
down_column-after-requires-clause-in_range c = c.requires.in_range

pub level_between-requires-clause-some : goal.level_between-requires-clause-some
level_between-requires-clause-some c = c.requires.some

pub level_between-requires-clause-few : goal.level_between-requires-clause-few
level_between-requires-clause-few c = c.requires.few

pub level_between-requires-clause-part : goal.level_between-requires-clause-part
level_between-requires-clause-part c = let lt : c.cells-across.result.past < 2 * c.args.mesh = c.cells-across.ensures.below in omega (arith, lt)

pub level_between-requires-clause-first : goal.level_between-requires-clause-first
level_between-requires-clause-first c = times-kept c.args.mesh c.down_column-before.result c.requires.few c.down_column-before.ensures.in_range

pub level_between-requires-clause-second : goal.level_between-requires-clause-second
level_between-requires-clause-second c = times-kept c.args.mesh c.down_column-after.result c.requires.few c.down_column-after.ensures.in_range
