use Rattle.std.proofs.Common.{◌∙◌, sym, ap, take, Some}
use Rattle.std.proofs.lemmas.List.{take_rest}
use Rattle.fits_card.specs.Pieces.{closed, without_trailing_spaces}
use Rattle.fits_card.proofs.ValueKinds.{text-no_field, text-no_quote, text-not_closed, text-not_over, text-whole}
use Rattle.fits_card.proofs.read.text.Goals as goal

pub returns-in_default : goal.returns-in_default
returns-in_default c = text-no_field c.args.card.now c.value_field.result.now c.value_field.ensures.field c.in_default.len_below

pub returns-then-first-ne39 : goal.returns-then-first-ne39
returns-then-first-ne39 c = text-no_quote c.args.card.now c.value_field.result.now c.value_field.ensures.field c.in-len1-up.len_at_least c.if-first-ne39.true

pub returns-in_default-unquoted : goal.returns-in_default-unquoted
returns-in_default-unquoted c =
    text-not_closed c.args.card.now c.value_field.result.now c.value_field.ensures.field c.in-len1-up.len_at_least c.if-first-ne39.false
    (ap closed (sym (take_rest c.value_field.result.now 1)) ∙ sym c.in_default-unquoted.ensures)

pub returns-then-not-is_over : goal.returns-then-not-is_over
returns-then-not-is_over c =
    text-not_over c.args.card.now c.value_field.result.now c.in-Some.text.items c.in-Some.rest.now c.value_field.ensures.field c.in-len1-up.len_at_least
    c.if-first-ne39.false
    (ap closed (sym (take_rest c.value_field.result.now 1)) ∙ sym c.in-Some.ensures) (sym c.is_over.ensures ∙ c.if-not-is_over.true)

pub returns : goal.returns
returns c =
    ap (λ xs. Some xs) (c.truncate.ensures.items ∙ ap (take c.significant-kept.result) (sym c.as_slice.ensures.value) ∙ c.significant-kept.ensures
    ∙ ap without_trailing_spaces c.as_slice.ensures.value)
    ∙ text-whole c.args.card.now c.value_field.result.now c.in-Some.text.items c.in-Some.rest.now c.value_field.ensures.field c.in-len1-up.len_at_least
    c.if-first-ne39.false
    (ap closed (sym (take_rest c.value_field.result.now 1)) ∙ sym c.in-Some.ensures) (sym c.is_over.ensures ∙ c.if-not-is_over.false)
