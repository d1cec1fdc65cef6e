use Rattle.std.proofs.Common.{◌∙◌, ap, sym, refl, true, false}
use Rattle.std.specs.Prelude.{Some, None, is_some}
use Rattle.command_line.specs.Lines.{texts}
use Rattle.orders.proofs.Places.{option_by, next_is, name_at_fault, new_is, value_missing, value_by, value_at_fault, pair_read}
use Rattle.orders.proofs.words.judge_pair.Goals as goal

pub returns-in_default-clause-told : goal.returns-in_default-clause-told
returns-in_default-clause-told c =
    name_at_fault c.args.most c.args.command c.args.words.now c.args.pair None
    (next_is c.args.most c.args.command c.args.words.now c.args.pair _ None c.requires.read c.requires.more c.in_default.ensures) refl

pub returns-then-is_some-clause-told : goal.returns-then-is_some-clause-told
returns-then-is_some-clause-told c =
    name_at_fault c.args.most c.args.command c.args.words.now c.args.pair (Some c.in-Some.setting)
    (next_is c.args.most c.args.command c.args.words.now c.args.pair _ (Some c.in-Some.setting) c.requires.read c.requires.more c.in-Some.ensures)
    (option_by (texts c.args.words.now) c.args.pair c.in-Some.setting ∙ ap is_some (sym c.naming.ensures) ∙ sym c.is_some.ensures ∙ c.if-is_some.true)

pub returns-in_default-get-clause-told : goal.returns-in_default-get-clause-told
returns-in_default-get-clause-told c =
    let next = next_is c.args.most c.args.command c.args.words.now c.args.pair _ (Some c.in-Some.setting) c.requires.read c.requires.more c.in-Some.ensures in
    let new = new_is c.args.most c.args.command c.args.words.now c.args.pair c.in-Some.setting next
    (ap is_some (sym c.naming.ensures) ∙ sym c.is_some.ensures ∙ c.if-is_some.false) in
    value_at_fault c.args.most c.args.command c.args.words.now c.args.pair c.in-Some.setting new
    (value_missing c.args.most c.args.command c.args.words.now c.args.pair c.in_default-get.ensures.lookup.0)

pub returns-then-accepts-clause-told : goal.returns-then-accepts-clause-told
returns-then-accepts-clause-told c =
    let next = next_is c.args.most c.args.command c.args.words.now c.args.pair _ (Some c.in-Some.setting) c.requires.read c.requires.more c.in-Some.ensures in
    let new = new_is c.args.most c.args.command c.args.words.now c.args.pair c.in-Some.setting next
    (ap is_some (sym c.naming.ensures) ∙ sym c.is_some.ensures ∙ c.if-is_some.false) in
    let found = c.in-Some-get.ensures.lookup in
    pair_read c.args.most c.args.command c.args.words.now c.args.pair c.in-Some.setting new found.3.0
    (value_by c.args.most c.args.command c.args.words.now c.args.pair c.in-Some.setting c.in-Some-get.text.now false new found.3.0 (found.3.1 c.in-Some-get.text.now)
    (sym c.accepts.ensures ∙ c.if-accepts.true))

pub returns-else-accepts-clause-told : goal.returns-else-accepts-clause-told
returns-else-accepts-clause-told c =
    let next = next_is c.args.most c.args.command c.args.words.now c.args.pair _ (Some c.in-Some.setting) c.requires.read c.requires.more c.in-Some.ensures in
    let new = new_is c.args.most c.args.command c.args.words.now c.args.pair c.in-Some.setting next
    (ap is_some (sym c.naming.ensures) ∙ sym c.is_some.ensures ∙ c.if-is_some.false) in
    let found = c.in-Some-get.ensures.lookup in
    value_at_fault c.args.most c.args.command c.args.words.now c.args.pair c.in-Some.setting new
    (value_by c.args.most c.args.command c.args.words.now c.args.pair c.in-Some.setting c.in-Some-get.text.now true new found.3.0 (found.3.1 c.in-Some-get.text.now)
    (sym c.accepts.ensures ∙ c.if-accepts.false))
