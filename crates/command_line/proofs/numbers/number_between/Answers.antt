use Rattle.std.proofs.Common.{◌∙◌, ap, sym}
use Rattle.command_line.specs.Numbers.{without_minus, is_short_numeral}
use Rattle.command_line.proofs.Numerals.{no_number, number_read, number_unread}
use Rattle.command_line.proofs.numbers.number_between.Goals as goal

pub returns-then-not-is_short_numeral-clause-number : goal.returns-then-not-is_short_numeral-clause-number
returns-then-not-is_short_numeral-clause-number c =
    let same = c.is_short_numeral.ensures ∙ ap is_short_numeral (c.without_minus.ensures ∙ ap without_minus c.as_bytes.ensures.value) in
    no_number c.args.text.now c.args.least c.args.most (sym same ∙ c.if-not-is_short_numeral.true)

pub returns-in-Ok-clause-number : goal.returns-in-Ok-clause-number
returns-in-Ok-clause-number c =
    let same = c.is_short_numeral.ensures ∙ ap is_short_numeral (c.without_minus.ensures ∙ ap without_minus c.as_bytes.ensures.value) in
    c.within.ensures.found ∙ number_read c.args.text.now c.args.least c.args.most c.in-Ok.number
    (sym same ∙ c.if-not-is_short_numeral.false) c.ranges.least c.ranges.most
    (c.in-Ok.ensures.value.0.0.0, c.in-Ok.ensures.value.0.0.1, c.in-Ok.ensures.value.0.1)

pub returns-in-Err-clause-number : goal.returns-in-Err-clause-number
returns-in-Err-clause-number c =
    let same = c.is_short_numeral.ensures ∙ ap is_short_numeral (c.without_minus.ensures ∙ ap without_minus c.as_bytes.ensures.value) in
    number_unread c.args.text.now c.args.least c.args.most (sym same ∙ c.if-not-is_short_numeral.false) c.ranges.least c.ranges.most c.in-Err.ensures.value.0
