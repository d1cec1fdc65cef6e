use Rattle.std.proofs.Common.{rules, ◌≡◌, ℕ, ℤ, pos, ◌+◌, ◌*◌, ◌<◌, ◌≤◌, ◌^◌, List, length, get_or, Fits, w64, sym, subst, ◌∙◌, arith}
use Rattle.std.specs.Prelude.{All}
use Rattle.std.proofs.lemmas.Int.{to_z-of_z}
use mir.Val.{SFits}
use Rattle.comp_tree.specs.Limits.{IsInHalfRange}
use Rattle.mesh_background.specs.Interpolation.{part_way}
use Rattle.mesh_background.proofs.Fitting.{kept}
use Rattle.mesh_background.proofs.Residuals.{half-fits}
use Rattle.mesh_background.proofs.Levels.{times-kept}
use Rattle.mesh_background.proofs.interpolation.down_column.Goals as goal

-- the place of a number in its list
record IsPlace (row column : ℕ) : Type 0 where
  row_fits : Fits w64 row
  fits : Fits w64 (row + column)
  offset_fits : Fits w64 ((row + column) * 8)

place-is : (row column count : ℕ) → count * 8 < 2 ^ 64 → row + column < count → IsPlace row column
place-is row column count few lt =
    record { row_fits = omega (arith, few, lt); fits = omega (arith, few, lt); offset_fits = omega (arith, few, lt) }

double : (mesh : ℕ) → mesh ≤ 65535 → 2 * mesh ≤ 131070
double mesh few = omega (arith, few)

-- a number of the list, as it is kept
number-kept : (values : List ℤ) (k : ℕ) → All IsInHalfRange values → k < length values → kept w64 (get_or values k (pos 0)) ≡ get_or values k (pos 0)
number-kept values k all lt = to_z-of_z w64 (get_or values k (pos 0)) (half-fits (get_or values k (pos 0)) (all k (pos 0) lt))

number-half : (values : List ℤ) (k : ℕ) → All IsInHalfRange values → k < length values → IsInHalfRange (kept w64 (get_or values k (pos 0)))
number-half values k all lt = subst (λ (z : ℤ). IsInHalfRange z) (sym (number-kept values k all lt)) (all k (pos 0) lt)

pub overflow_mul-before : goal.overflow_mul-before
overflow_mul-before c =
    let few : length c.args.values.now * 8 < 2 ^ 64 = search rules in
    (place-is (c.args.down.now.before * c.args.columns) c.args.column _ few c.requires.before).row_fits

pub overflow_add-before : goal.overflow_add-before
overflow_add-before c =
    let few : length c.args.values.now * 8 < 2 ^ 64 = search rules in
    (place-is (c.args.down.now.before * c.args.columns) c.args.column _ few c.requires.before).fits

pub offset_bounds-values-down : goal.offset_bounds-values-down
offset_bounds-values-down c =
    let few : length c.args.values.now * 8 < 2 ^ 64 = search rules in
    (place-is (c.args.down.now.before * c.args.columns) c.args.column _ few c.requires.before).offset_fits

pub bounds-values-down : goal.bounds-values-down
bounds-values-down c = c.requires.before

pub overflow_mul-after : goal.overflow_mul-after
overflow_mul-after c =
    let few : length c.args.values.now * 8 < 2 ^ 64 = search rules in
    (place-is (c.args.down.now.after * c.args.columns) c.args.column _ few c.requires.after).row_fits

pub overflow_add-after : goal.overflow_add-after
overflow_add-after c =
    let few : length c.args.values.now * 8 < 2 ^ 64 = search rules in
    (place-is (c.args.down.now.after * c.args.columns) c.args.column _ few c.requires.after).fits

pub offset_bounds-values-down-2 : goal.offset_bounds-values-down-2
offset_bounds-values-down-2 c =
    let few : length c.args.values.now * 8 < 2 ^ 64 = search rules in
    (place-is (c.args.down.now.after * c.args.columns) c.args.column _ few c.requires.after).offset_fits

pub bounds-values-down-2 : goal.bounds-values-down-2
bounds-values-down-2 c = c.requires.after

pub overflow_mul-mesh : goal.overflow_mul-mesh
overflow_mul-mesh c = omega (arith, double c.args.mesh c.requires.mesh)

pub on_the_way-requires-clause-whole : goal.on_the_way-requires-clause-whole
on_the_way-requires-clause-whole c = double c.args.mesh c.requires.mesh

pub on_the_way-requires-clause-part : goal.on_the_way-requires-clause-part
on_the_way-requires-clause-part c = c.requires.past

pub on_the_way-requires-clause-first : goal.on_the_way-requires-clause-first
on_the_way-requires-clause-first c = number-half c.args.values.now _ c.requires.in_range c.requires.before

pub on_the_way-requires-clause-second : goal.on_the_way-requires-clause-second
on_the_way-requires-clause-second c = number-half c.args.values.now _ c.requires.in_range c.requires.after

pub returns-clause-value : goal.returns-clause-value
returns-clause-value c =
    let fits : SFits w64 c.on_the_way.result = search rules in
    to_z-of_z w64 c.on_the_way.result fits ∙ c.on_the_way.ensures.value
    ∙ (λ i. part_way (2 * c.args.mesh) c.args.down.now.past (number-kept c.args.values.now _ c.requires.in_range c.requires.before i)
    (number-kept c.args.values.now _ c.requires.in_range c.requires.after i))

pub returns-clause-in_range : goal.returns-clause-in_range
returns-clause-in_range c = times-kept c.args.mesh c.on_the_way.result c.requires.mesh c.on_the_way.ensures.in_range
