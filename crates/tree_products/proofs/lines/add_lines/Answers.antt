use Rattle.std.proofs.Common.{refl, rules}
use Rattle.tree_products.proofs.NodeLines.{line_is, lines_begin, line_waits, line_cut}
use Rattle.tree_products.proofs.lines.add_lines.Goals as goal

pub loop-number-init : goal.loop-number-init
loop-number-init g c = record {
  moved = lines_begin _ c.args.block.now c.args.rows.now c.args.areas.now c.args.first (search rules);
  later = search rules;
}

pub returns-in-Err-clause-err : goal.returns-in-Err-clause-err
returns-in-Err-clause-err g c =
    line_cut _ _ _ _ c.args.rows.now c.args.areas.now _ c.args.first c.loop-number.number c.args.end _ (search rules) c.loop-number-test.true
    (line_is c.args.rows.now c.args.areas.now c.loop-number.number _ _ refl refl) c.loop-number.invariant.moved c.in-Err.ensures.err

pub loop-number-preserved : goal.loop-number-preserved
loop-number-preserved g c = record {
  moved = line_waits _ _ _ _ c.args.rows.now c.args.areas.now _ _ c.args.first c.loop-number.number _ (search rules)
      (line_is c.args.rows.now c.args.areas.now c.loop-number.number _ _ refl refl) c.loop-number.invariant.moved c.in_default.ensures.ok;
  later = search rules;
}
