-- The commands so far were done.
use Rattle.std.proofs.Common.{◌≡◌, ◌≤◌, ◌-◌, List, length, Ok}
use Rattle.survey_core.specs.declared.words.Command.{Command}
use Rattle.command_line.specs.Lines.{texts}
use Rattle.survey_core.specs.Commands.{read}
use Rattle.survey_core.proofs.Going.{Going}
use Rattle.survey_core.proofs.top.session.Given as goal

abbrev pub invariant-loop-command : goal.invariant-loop-command
invariant-loop-command g l = record {
  within : l.at ≤ length l.words;
  going : (commands : List Command) → read (texts l.words) ≡ Ok commands
      → Going commands (texts l.words) l.at (g.S.Source.left l.fn.input) (g.S.Source.left l.input) (g.K.Keeper.tables l.fn.keeper) (g.K.Keeper.tables l.keeper)
      (g.O.Sink.written l.fn.output) (g.O.Sink.written l.output) (g.O.Sink.settled l.output);
  read_later : g.S.Source.faults l.fn.input ≤ g.S.Source.faults l.input;
  write_later : g.O.Sink.faults l.fn.output ≤ g.O.Sink.faults l.output;
  keep_later : g.K.Keeper.faults l.fn.keeper ≤ g.K.Keeper.faults l.keeper;
}

abbrev pub decreases-loop-command : goal.decreases-loop-command
decreases-loop-command g l = length l.words - l.at
