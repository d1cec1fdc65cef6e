use Rattle.std.proofs.Common.{List, ℕ, Result}
use Rattle.survey_core.specs.declared.words.Command.{Command}
use Rattle.command_line.specs.Lines.{texts}
use Rattle.survey_core.specs.Commands.{commands_of}
use Rattle.survey_core.specs.Ends.{EndTells, SessionEndCause}
use Rattle.survey_core.proofs.Ending.{at_fault, with_commands}
use Rattle.survey_core.proofs.Wording.{read_behind}
use Rattle.survey_core.proofs.top.work.Goals as goal

pub returns-in-Some-clause-told : goal.returns-in-Some-clause-told
returns-in-Some-clause-told g c =
    λ bytes e ts t. at_fault (commands_of (texts c.args.words.now)) c.in-Some.usage bytes ts _ _ _ _ c.in-Some.ensures.0 c.in-Some.ensures.1 e t

pub returns-in-None-clause-told : goal.returns-in-None-clause-told
returns-in-None-clause-told g c = λ bytes e ts t.
    with_commands (texts c.args.words.now)
    (λ (r : Result (List Command) ℕ). EndTells r bytes ts (g.S.Source.left c.session.new.input) (g.K.Keeper.tables c.session.new.keeper)
    (g.O.Sink.written c.args.output.now) (g.O.Sink.written c.session.new.output) (g.O.Sink.settled c.session.new.output) c.session.result)
    c.in-None.ensures (λ commands is. c.session.ensures.told commands (read_behind c.args.words.now _ commands c.command_words.ensures is) bytes e ts t)

pub returns-in-None-clause-cause : goal.returns-in-None-clause-cause
returns-in-None-clause-cause g c =
    with_commands (texts c.args.words.now)
    (λ (r : Result (List Command) ℕ). SessionEndCause r (g.O.Sink.settled c.session.new.output) (g.S.Source.faults c.args.input.now)
    (g.S.Source.faults c.session.new.input)
    (g.O.Sink.faults c.args.output.now) (g.O.Sink.faults c.session.new.output) (g.K.Keeper.faults c.args.keeper.now)
    (g.K.Keeper.faults c.session.new.keeper) c.session.result)
    c.in-None.ensures (λ commands is. c.session.ensures.cause commands (read_behind c.args.words.now _ commands c.command_words.ensures is))
