use Rattle.std.proofs.Common.{◌+◌, arith}
use Rattle.filter_rules.proofs.Filling.{IsPushed, values_pushed}
use Rattle.filter_rules.proofs.filtering.node_values.Goals as goal

pub loop-n-preserved : goal.loop-n-preserved
loop-n-preserved c =
    let h : IsPushed c.args.rows.now c.args.rule c.args.kept.now (c.loop-n.n + 1) c.push.new.self.items =
    values_pushed c.args.rows.now c.args.rule c.args.kept.now c.loop-n.n c.loop-n.values.items c.deref.result.now c.push.new.self.items
    c.node_value-value.result c.requires.rows
    (omega (arith, c.loop-n-test.true, c.loop-n.auto.n-end)) (record { one_each = c.loop-n.invariant.one_each; made = c.loop-n.invariant.made })
    c.deref.ensures.value
    c.node_value-value.ensures.exact c.node_value-value.ensures.in_range c.node_value-value.ensures.at_most c.in_ok-push.ensures.items in
    record { one_each = h.one_each; made = h.made }
