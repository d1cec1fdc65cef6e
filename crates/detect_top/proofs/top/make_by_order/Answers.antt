use Rattle.detect_top.proofs.top.make_by_order.Goals as goal

pub returns-in-Tree : goal.returns-in-Tree
returns-in-Tree g c =
    let made = c.make_of_input.ensures in
    record {
      told = made.told;
      writable = made.writable;
      reads = λ e. (made.reads e, made.asks);
      ended = made.ended;
      untouched = λ e. let asks = made.asks in absurd (cc);
    }

pub returns-in-Err-measure_input-clause-told : goal.returns-in-Err-measure_input-clause-told
returns-in-Err-measure_input-clause-told g c = rw c.in-Measure.is c.in-Err-measure_input.ensures.told
