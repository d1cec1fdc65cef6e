use Rattle.source_sheet.proofs.Held.{apart_all, listed_held}
use Rattle.source_sheet.proofs.holding.hold_listed.Goals as goal

pub returns-clause-apart : goal.returns-clause-apart
returns-clause-apart c = λ _.
    apart_all c.args.plane.now c.args.sheet.now c.args.choice.now.threshold c.args.places.now c.mark_all_held.new.marks
    (c.mark_all_held.ensures c.if-not-mark_all_held.false)

pub returns-clause-held : goal.returns-clause-held
returns-clause-held c = λ e p k.
    listed_held c.args.plane.now c.args.sheet.now c.args.choice.now.threshold c.args.places.now c.mark_all_held.new.marks c.args.listed.now p
    (c.mark_all_held.ensures c.if-not-mark_all_held.false) (c.are_marked.ensures e) k
