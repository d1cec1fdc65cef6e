use Rattle.std.proofs.Common.{rules, sym, subst}
use Rattle.std.specs.Prelude.{ℤ, Some}
use Rattle.std.proofs.lemmas.Int.{to_z-of_z}
use mir.Syntax.{w64}
use mir.Val.{SFits}
use Rattle.command_line.specs.Lines.{texts}
use Rattle.tile_words.specs.TileReading.{IsNumberRead}
use Rattle.tile_words.proofs.Faults.{no_number, number_read, number_at_fault}
use Rattle.tile_words.proofs.places.read_number.Goals as goal

pub returns-then-not-is_word-clause-read : goal.returns-then-not-is_word-clause-read
returns-then-not-is_word-clause-read c = no_number (texts c.args.words.now) (sym c.if-not-is_word.ensures)

pub returns-in-Some-clause-read : goal.returns-in-Some-clause-read
returns-in-Some-clause-read c =
    let fits : SFits w64 c.in-Some.number = search rules in
    subst (λ (z : ℤ). IsNumberRead (texts c.args.words.now) (Some z)) (sym (to_z-of_z w64 c.in-Some.number fits))
    (number_read (texts c.args.words.now) c.in-Some.number (sym c.if-not-is_word.ensures) (sym c.in-Some.ensures.exact))

pub returns-in-None-clause-read : goal.returns-in-None-clause-read
returns-in-None-clause-read c = number_at_fault (texts c.args.words.now) (sym c.if-not-is_word.ensures) (sym c.in-None.ensures.exact)
