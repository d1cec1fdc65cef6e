use Rattle.std.proofs.Common.{sym, arith}
use Rattle.command_line.specs.Lines.{texts}
use Rattle.orders.proofs.Places.{naming_within, value_is, no_value}
use Rattle.orders.proofs.words.value.Goals as goal

pub bounds-words-pair : goal.bounds-words-pair
bounds-words-pair c =
    let range = naming_within (texts c.args.words.now) c.args.setting c.args.pairs c.in-Some.pair (sym c.in-Some.ensures) in
    omega (arith, range.1, c.requires)

pub returns-in-Some : goal.returns-in-Some
returns-in-Some c = value_is c.args.words.now c.args.setting c.args.pairs c.in-Some.pair _ (sym c.in-Some.ensures) (omega (arith, c.requires))

pub returns-in-None : goal.returns-in-None
returns-in-None c = no_value (texts c.args.words.now) c.args.setting c.args.pairs (sym c.in-None.ensures)
