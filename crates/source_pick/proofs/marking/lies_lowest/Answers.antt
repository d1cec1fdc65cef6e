use Rattle.std.proofs.Common.{refl, rules, ap, length, arith}
use mir.Syntax.{w64}
use mir.Val.{SFits}
use Rattle.source_pick.proofs.PassesReadings.{level-read, parent-read, less-read}
use Rattle.node_sums.proofs.Exported.{some_parent_smaller}
use Rattle.source_pick.proofs.PassesStrong.{lowest_at_root, lowest_at_child}
use Rattle.source_pick.proofs.marking.lies_lowest.Goals as goal

pub returns-then-parent : goal.returns-then-parent
returns-then-parent c = λ r connect e.
    lowest_at_root r connect c.args.choice.now c.args.n _
    (parent-read r connect c.args.tree.now c.args.n _ e c.parent-parent.ensures.same) c.if-parent.true

pub bounds-rows-parent : goal.bounds-rows-parent
bounds-rows-parent c =
    let smaller =
    some_parent_smaller c.parent-parent.result c.args.n c.parent-parent.ensures.smaller c.if-parent.false in
    omega (arith, smaller, c.requires, ap length c.rows.ensures)

pub returns : goal.returns
returns c = λ r connect e.
    let threshold : SFits w64 c.args.choice.now.threshold = search rules in
    let smaller =
    some_parent_smaller c.parent-parent.result c.args.n c.parent-parent.ensures.smaller c.if-parent.false in
    lowest_at_child r connect c.args.choice.now c.args.n _ _
    (parent-read r connect c.args.tree.now c.args.n _ e c.parent-parent.ensures.same) c.if-parent.false
    (less-read _ c.args.choice.now.threshold _ _ (search rules) threshold
    (level-read r connect c.args.tree.now c.rows.result.now _ _ e c.rows.ensures (omega (arith, smaller, c.requires))) refl)
