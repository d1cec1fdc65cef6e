use Rattle.std.proofs.Common.{refl, subst}
use Rattle.pixel_plane.specs.declared.image.Stop.{Stop}
use Rattle.run_relation.specs.RunEnds.{HasStopped}
use Rattle.run_relation.proofs.Exported.{refused_so}
use Rattle.detect_top.specs.WordAnswers.{asked_for}
use Rattle.detect_top.proofs.top.carry_out.Goals as goal

pub returns-in-Err-Refused-clause-bytes : goal.returns-in-Err-Refused-clause-bytes
returns-in-Err-Refused-clause-bytes g c = λ x tells.
    let asked = asked_for c.args.limits.now c.args.order c.args.order.job in
    let left = g.S.Source.left c.args.input.now in
    let left' = g.S.Source.left c.make_by_order.new.input in
    rw c.in-Err-Refused.fault-is
    (refused_so (asked.answer x) (asked.memory_at x) _ _ c.in-Err-Refused.fault refl
    (subst (λ (stop : Stop). HasStopped (asked.answer x) (asked.memory_at x) left left' stop) c.in-Err-Refused.field-0-is
    (c.in-Err-Refused.ensures.told x tells)))

pub returns-in-Err-ReadFault-clause-bytes : goal.returns-in-Err-ReadFault-clause-bytes
returns-in-Err-ReadFault-clause-bytes g c = λ x tells.
    let asked = asked_for c.args.limits.now c.args.order c.args.order.job in
    let left = g.S.Source.left c.args.input.now in
    let left' = g.S.Source.left c.make_by_order.new.input in
    subst (λ (stop : Stop). HasStopped (asked.answer x) (asked.memory_at x) left left' stop) c.in-Err-ReadFault.field-0-is
    (c.in-Err-ReadFault.ensures.told x tells)

pub returns-in-Err-NoMemory-clause-bytes : goal.returns-in-Err-NoMemory-clause-bytes
returns-in-Err-NoMemory-clause-bytes g c = λ x tells.
    let asked = asked_for c.args.limits.now c.args.order c.args.order.job in
    let left = g.S.Source.left c.args.input.now in
    let left' = g.S.Source.left c.make_by_order.new.input in
    subst (λ (stop : Stop). HasStopped (asked.answer x) (asked.memory_at x) left left' stop) c.in-Err-NoMemory.field-0-is
    (c.in-Err-NoMemory.ensures.told x tells)
