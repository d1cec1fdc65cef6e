use Rattle.std.proofs.Common.{refl, arith, lit<}
use mir.Syntax.{w64, w128}
use Rattle.std.proofs.lemmas.Int.{to_z-of_z}
use Rattle.node_sums.proofs.Reading.{fits, moment-read, same_sums}
use Rattle.node_sums.proofs.Moments.{product_fits, value_wide, place_wide, moment_wide}
use Rattle.node_sums.proofs.Sizes.{moment_up_to}
use Rattle.node_sums.specs.Sizes.{IsUpTo, level_bound, moment_bound}
use Rattle.node_sums.proofs.entry.Sums.of_pixel.Goals as goal

pub returns : goal.returns
returns c =
    let value : IsUpTo level_bound c.args.value = record { low = c.requires.value.low; high = c.requires.value.high } in
    same_sums _ _ refl (to_z-of_z w64 c.args.value c.ranges.value) refl refl refl refl refl
    (moment-read c.args.value c.args.x c.ranges.value (omega (arith, c.requires.column))
    (fits w128 moment_bound _ (moment_up_to c.args.value c.args.x value c.requires.column) (lit< tt)))
    (moment-read c.args.value c.args.y c.ranges.value (omega (arith, c.requires.row))
    (fits w128 moment_bound _ (moment_up_to c.args.value c.args.y value c.requires.row) (lit< tt)))
    refl refl refl refl refl (to_z-of_z w64 c.args.value c.ranges.value)

pub overflow_mul-result : goal.overflow_mul-result
overflow_mul-result c = product_fits c.args.x c.args.x c.requires.column c.requires.column

pub overflow_mul-result-2 : goal.overflow_mul-result-2
overflow_mul-result-2 c = product_fits c.args.x c.args.y c.requires.column c.requires.row

pub overflow_mul-result-3 : goal.overflow_mul-result-3
overflow_mul-result-3 c = product_fits c.args.y c.args.y c.requires.row c.requires.row

pub overflow_cast-result-9 : goal.overflow_cast-result-9
overflow_cast-result-9 c = value_wide c.args.value c.ranges.value

pub overflow_cast-result-10 : goal.overflow_cast-result-10
overflow_cast-result-10 c = place_wide c.args.x c.requires.column

pub overflow_mul-result-4 : goal.overflow_mul-result-4
overflow_mul-result-4 c =
    let value : IsUpTo level_bound c.args.value = record { low = c.requires.value.low; high = c.requires.value.high } in
    moment_wide c.args.value c.args.x c.ranges.value c.requires.column
    (fits w128 moment_bound _ (moment_up_to c.args.value c.args.x value c.requires.column) (lit< tt))

pub overflow_cast-result-11 : goal.overflow_cast-result-11
overflow_cast-result-11 c = value_wide c.args.value c.ranges.value

pub overflow_cast-result-12 : goal.overflow_cast-result-12
overflow_cast-result-12 c = place_wide c.args.y c.requires.row

pub overflow_mul-result-5 : goal.overflow_mul-result-5
overflow_mul-result-5 c =
    let value : IsUpTo level_bound c.args.value = record { low = c.requires.value.low; high = c.requires.value.high } in
    moment_wide c.args.value c.args.y c.ranges.value c.requires.row
    (fits w128 moment_bound _ (moment_up_to c.args.value c.args.y value c.requires.row) (lit< tt))
