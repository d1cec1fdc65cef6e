use Rattle.std.proofs.Common.{◌≤◌, length, ap, arith}
use Rattle.filter_rules.specs.Passes.{HasRisingLevels}
use Rattle.filter_rules.proofs.Boxes.{trees_rise}
use Rattle.filter_rules.proofs.keeping.satisfying.Goals as goal

pub overflow_cast-count : goal.overflow_cast-count
overflow_cast-count c =
    let rising : HasRisingLevels c.args.tree.now.rows = trees_rise c.args.tree.now c.args.outlines.now c.requires.outlines in
    let few : length c.rows.result.now ≤ 2147483647 = omega (arith, rising.few, ap length c.rows.ensures) in
    record { fits = omega arith }
