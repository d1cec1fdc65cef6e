use Rattle.std.proofs.Common.{◌≤◌, ◌∙◌, ap, inl, inr, drop, length, length-drop, arith}
use Rattle.std.proofs.lemmas.List.{take_all}
use Rattle.fits_card.specs.Pieces.{without_leading_spaces}
use Rattle.fits_card.proofs.Fields.{field-there, field-not_there}
use Rattle.fits_card.proofs.field.value_field.Goals as goal
use Rattle.fits_card.proofs.field.value_field.Goals.{else-card-eq61-via-then-card-eq61+else-card-eq32, else-card-eq61-via-else-card-eq61}

pub returns-then-card-eq32-clause-field : goal.returns-then-card-eq32-clause-field
returns-then-card-eq32-clause-field c =
    let short : length (drop 10 c.args.card.now) ≤ 70 = omega (arith, length-drop 10 c.args.card.now, c.told-card) in
    c.skip_spaces.ensures.rest ∙ ap without_leading_spaces (take_all 70 (drop 10 c.args.card.now) short)
    ∙ field-there c.args.card.now c.if-card-eq61.true c.if-card-eq32.true

pub returns-else-card-eq61-clause-field : goal.returns-else-card-eq61-clause-field
returns-else-card-eq61-clause-field c =
    elim c.else-card-eq61.branch [
      | else-card-eq61-via-then-card-eq61+else-card-eq32 w ↦ field-not_there c.args.card.now (inr w.if-card-eq32.false)
      | else-card-eq61-via-else-card-eq61 w ↦ field-not_there c.args.card.now (inl w.if-card-eq61.false)
    ]
