use Rattle.std.proofs.Common.{◌≡◌, ◌+◌, length, arith, rules}
use Rattle.dev_io.proofs.Exported.{front_empty}
use Rattle.command_line.proofs.Exported.{line_flushed}
use Rattle.tree_products.proofs.NodeLines.{lines_begin, round_waits, round_cut, rounds_all}
use Rattle.tree_products.proofs.rounds.put_in_rounds.Goals as goal

pub loop-first-init : goal.loop-first-init
loop-first-init g c = record {
  within = search rules;
  moved = lines_begin _ _ c.args.rows.now c.args.areas.now 0 (search rules);
  later = search rules;
}

pub returns-in-Err-clause-bytes : goal.returns-in-Err-clause-bytes
returns-in-Err-clause-bytes g c =
    front_empty _ _ _ _ c.new-block.ensures
    (round_cut _ _ _ _ c.args.rows.now c.args.areas.now _ c.loop-first.first (c.loop-first.first + c.min.result) (search rules) (search rules)
    c.loop-first.invariant.moved c.in-Err.ensures.err)

pub loop-first-preserved : goal.loop-first-preserved
loop-first-preserved g c = record {
  within = search rules;
  moved = round_waits _ _ _ _ c.args.rows.now c.args.areas.now _ _ c.loop-first.first (c.loop-first.first + c.min.result) (search rules)
      c.loop-first.invariant.moved c.in_default.ensures.ok;
  later = search rules;
}

pub returns-clause-bytes : goal.returns-clause-bytes
returns-clause-bytes g c =
    let end : c.loop-first.first ≡ length c.args.rows.now = omega (arith, c.loop-first.invariant.within, c.loop-first-test.false) in
    line_flushed _ _ _ _ _ _ _ _ c.new-block.ensures
    (rounds_all _ _ _ c.args.rows.now c.args.areas.now _ c.loop-first.first end c.loop-first.invariant.moved)
    c.flush.ensures.ok c.flush.ensures.empty c.flush.ensures.err
