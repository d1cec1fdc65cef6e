use Rattle.std.proofs.Common.{◌∙◌, ◌+◌, sym, arith}
use Rattle.command_line.specs.Lines.{texts}
use Rattle.orders.specs.Words.{names}
use Rattle.orders.proofs.Places.{name_at, up_to_more, first_naming, no_naming}
use Rattle.orders.proofs.words.naming.Goals as goal

pub returns-then-eq : goal.returns-then-eq
returns-then-eq c =
    let here =
    name_at c.args.words.now c.args.setting c.loop-before.before _ c.name-name.result.now _ (omega (arith, c.requires, c.loop-before-test.true))
    c.name-name.ensures (sym c.eq.ensures ∙ c.if-eq.true) in
    sym (first_naming (texts c.args.words.now) c.args.setting c.args.pairs (c.loop-before.before + 1) (omega arith) (omega (arith, c.loop-before-test.true))
    here (λ j low high. c.loop-before.invariant j low (omega arith)))

pub loop-before-preserved : goal.loop-before-preserved
loop-before-preserved c =
    up_to_more (names (texts c.args.words.now) c.args.setting) c.loop-before.before c.loop-before.invariant
    (name_at c.args.words.now c.args.setting c.loop-before.before _ c.name-name.result.now _ (omega (arith, c.requires, c.loop-before-test.true))
    c.name-name.ensures (sym c.eq.ensures ∙ c.if-eq.false))

pub returns : goal.returns
returns c =
    sym (no_naming (texts c.args.words.now) c.args.setting c.args.pairs (λ j low high. c.loop-before.invariant j low (omega (arith, c.loop-before-test.false))))
