use Rattle.std.proofs.Common.{◌∙◌, refl}
use Rattle.std.specs.Prelude.{Some, None}
use Rattle.orders.specs.declared.options.Setting.TheVariants.{Height}
use Rattle.orders.specs.Options.{positive_u16_in}
use Rattle.command_line.specs.Lines.{texts}
use Rattle.orders.specs.Words.{given}
use Rattle.orders.proofs.Places.{given_by}
use Rattle.orders.proofs.Shapes.{shape_is, shape_by}
use Rattle.orders.proofs.words.shape_for.Goals as goal

pub returns-in_default : goal.returns-in_default
returns-in_default c =
    shape_by (texts c.args.words.now) c.args.pairs None (given positive_u16_in (texts c.args.words.now) c.args.pairs Height)
    (given_by _ None positive_u16_in _ c.value.ensures c.in_default.ensures) refl

pub returns-in_default-and_then : goal.returns-in_default-and_then
returns-in_default-and_then c =
    shape_by (texts c.args.words.now) c.args.pairs (Some c.in-Some.width) None
    (given_by _ (Some c.in-Some.width) positive_u16_in _ c.value.ensures c.in-Some.ensures)
    (given_by _ None positive_u16_in _ c.value-2.ensures c.in_default-and_then.ensures)

pub returns : goal.returns
returns c =
    shape_is c.in-Some.width c.in-Some-and_then.height c.of.result c.of.ensures.accepted c.of.ensures.sides
    ∙ shape_by (texts c.args.words.now) c.args.pairs (Some c.in-Some.width) (Some c.in-Some-and_then.height)
    (given_by _ (Some c.in-Some.width) positive_u16_in _ c.value.ensures c.in-Some.ensures)
    (given_by _ (Some c.in-Some-and_then.height) positive_u16_in _ c.value-2.ensures c.in-Some-and_then.ensures)
