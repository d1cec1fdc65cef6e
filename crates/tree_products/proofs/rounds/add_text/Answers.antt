use Rattle.std.proofs.Common.{◌+◌, rules}
use Rattle.tree_products.proofs.NodeLines.{bytes_wait, bytes_cut, bytes_all}
use Rattle.tree_products.proofs.rounds.add_text.Goals as goal

pub returns-in-Err-clause-err : goal.returns-in-Err-clause-err
returns-in-Err-clause-err g c =
    bytes_cut _ _ _ _ c.args.text.now _ c.loop-first.first (c.loop-first.first + c.min-count.result) (search rules) c.loop-first.invariant.moved
    c.in-Err.ensures.err

pub loop-first-preserved : goal.loop-first-preserved
loop-first-preserved g c = record {
  within = search rules;
  moved = bytes_wait _ _ _ _ c.args.text.now _ _ c.loop-first.first (c.loop-first.first + c.min-count.result) (search rules) c.loop-first.invariant.moved
      c.in_default.ensures.ok;
  later = search rules;
}

pub returns-clause-ok : goal.returns-clause-ok
returns-clause-ok g c = bytes_all _ _ _ c.args.text.now _ c.loop-first.first c.loop-first-test.false c.loop-first.invariant.moved
