use Rattle.fits_card.proofs.ValueKinds.{absent-empty, present-first}
use Rattle.fits_card.proofs.read.has_value.Goals as goal

pub returns-in-empty : goal.returns-in-empty
returns-in-empty c = absent-empty c.args.card.now c.value_field.result.now c.value_field.ensures.field c.in-empty.len_below

pub returns-in-len1-up : goal.returns-in-len1-up
returns-in-len1-up c = present-first c.args.card.now c.value_field.result.now c.value_field.ensures.field c.in-len1-up.len_at_least
