use Rattle.std.proofs.lemmas.Option.{slice_get-get_or}
use Rattle.tree_canon.proofs.Numbering.{numbered_more, numbered_all}
use Rattle.tree_canon.proofs.Parents.{blank}
use Rattle.tree_canon.proofs.numbers.number_rows.Goals as goal

pub loop-n-preserved : goal.loop-n-preserved
loop-n-preserved c =
    numbered_more c.args.rows.now c.args.numbers.now c.loop-n.numbers c.loop-n.n _ c.requires.apart
    (slice_get-get_or c.args.rows.now c.loop-n.n blank c.loop-n-test.true) (c.requires.within c.loop-n.n blank c.loop-n-test.true) c.loop-n.invariant

pub returns : goal.returns
returns c = numbered_all c.args.rows.now c.args.numbers.now c.loop-n.numbers c.loop-n.n c.loop-n-test.false c.loop-n.invariant
