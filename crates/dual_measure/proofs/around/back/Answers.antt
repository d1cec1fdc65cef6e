use Rattle.std.proofs.Common.{◌∙◌, length, ap, arith, rules}
use Rattle.dual_measure.proofs.Passing.{parent_read}
use Rattle.dual_measure.proofs.Backs.{one_for_each, back_at_root, parent_read_from_code, parent_entry, difference, difference_fits, difference_sum}
use Rattle.dual_measure.proofs.Backs.{back_from_code}
use Rattle.dual_measure.proofs.around.back.Goals as goal

pub returns-then-parent : goal.returns-then-parent
returns-then-parent c = λ values plane connect one_each e f.
    back_at_root c.args.tree.now c.args.n values plane connect e
    (parent_read c.rows.result.now c.args.tree.now c.args.n _ c.rows.ensures (omega (arith, c.requires.node, ap length c.rows.ensures)) ∙ c.if-parent.true)

pub bounds-measures-parent : goal.bounds-measures-parent
bounds-measures-parent c =
    parent_entry c.args.tree.now c.args.measures.now c.args.n _
    (parent_read_from_code c.args.tree.now c.args.measures.now c.args.n c.rows.result.now _ c.requires.measures c.requires.node c.rows.ensures
    c.if-parent.false)

pub bounds-measures-n : goal.bounds-measures-n
bounds-measures-n c = omega (arith, c.requires.node, one_for_each c.args.tree.now c.args.measures.now c.requires.measures)

pub overflow_sub-whole : goal.overflow_sub-whole
overflow_sub-whole c =
    difference_fits c.args.tree.now c.args.measures.now c.args.n _
    (parent_read_from_code c.args.tree.now c.args.measures.now c.args.n c.rows.result.now _ c.requires.measures c.requires.node c.rows.ensures
    c.if-parent.false)

pub overflow_sub-whole-2 : goal.overflow_sub-whole-2
overflow_sub-whole-2 c =
    (difference c.args.tree.now c.args.measures.now c.args.n _
    (parent_read_from_code c.args.tree.now c.args.measures.now c.args.n c.rows.result.now _ c.requires.measures c.requires.node c.rows.ensures
    c.if-parent.false)).less

pub mean-requires : goal.mean-requires
mean-requires c =
    difference_sum c.args.tree.now c.args.measures.now c.args.n _
    (parent_read_from_code c.args.tree.now c.args.measures.now c.args.n c.rows.result.now _ c.requires.measures c.requires.node c.rows.ensures
    c.if-parent.false)

pub returns : goal.returns
returns c = λ values plane connect one_each e f.
    back_from_code c.args.tree.now c.args.measures.now c.args.n _ c.mean.result values plane connect
    (parent_read_from_code c.args.tree.now c.args.measures.now c.args.n c.rows.result.now _ c.requires.measures c.requires.node c.rows.ensures
    c.if-parent.false)
    (search rules) c.mean.ensures one_each e f
