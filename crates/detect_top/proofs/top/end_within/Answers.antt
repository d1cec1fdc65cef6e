use Rattle.std.proofs.Common.{ℕ, List, Result, subst}
use Rattle.orders.specs.declared.words.Order.{Order}
use Rattle.orders.specs.declared.words.Usage.{Usage}
use Rattle.run_relation.specs.RunEnds.{EndBytes}
use Rattle.run_relation.specs.Headline.{Tells, use_of_input, use_of_output}
use Rattle.detect_top.specs.WordAnswers.{asked_by}
use Rattle.detect_top.proofs.top.end_within.Goals as goal

pub returns-clause-bytes : goal.returns-clause-bytes
returns-clause-bytes g c =
    subst (λ (order : Result Order Usage). (bytes : List ℕ) → Tells (asked_by c.args.limits.now order) (g.S.Source.left c.args.input.now) bytes →
    EndBytes (asked_by c.args.limits.now order) bytes
    (use_of_input g.S.Source.left g.S.Source.ended g.S.Source.faults c.args.input.now c.work.new.input)
    (use_of_output g.O.Sink.written g.O.Sink.settled g.O.Sink.faults c.args.output.now c.work.new.output) c.work.result)
    c.read_order_within-order.ensures.order c.work.ensures.bytes
