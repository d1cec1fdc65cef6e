use Rattle.std.proofs.Common.{◌∙◌, sym, arith}
use Rattle.source_sheet.proofs.Apart.{newly_none, newly_marked, newly_at}
use Rattle.source_sheet.proofs.checking.mark_between.Goals as goal

pub loop-p-init : goal.loop-p-init
loop-p-init c = newly_none c.args.marks.now c.args.first

pub loop-p-preserved : goal.loop-p-preserved
loop-p-preserved c =
    newly_marked c.args.marks.now c.loop-p.marks c.set.new.self c.args.first c.loop-p.p (omega (arith, c.loop-p-test.true, c.requires.inside, c.loop-p.invariant.same_length))
    (sym c.has.ensures ∙ c.if-has.false) c.set.ensures c.loop-p.invariant

pub returns : goal.returns
returns c = λ _. newly_at c.args.marks.now c.loop-p.marks c.args.first c.loop-p.p c.args.end c.loop-p.invariant
    (omega (arith, c.loop-p-test.false, c.requires.order))
