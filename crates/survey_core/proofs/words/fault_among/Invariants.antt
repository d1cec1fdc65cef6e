-- No word so far is at fault.
use Rattle.std.proofs.Common.{◌≡◌, ◌-◌, ◌≤◌, length, drop, List}
use Rattle.survey_core.specs.declared.words.Command.{Command}
use Rattle.command_line.specs.Lines.{texts}
use Rattle.survey_core.specs.Commands.{read}
use Rattle.survey_core.proofs.Wording.{onward}
use Rattle.survey_core.proofs.words.fault_among.Given as goal

abbrev pub invariant-loop-at : goal.invariant-loop-at
invariant-loop-at l = record {
  within : l.at ≤ length l.words;
  before : List Command;
  rest : read (texts l.words) ≡ onward before l.at (read (drop l.at (texts l.words)));
}

abbrev pub decreases-loop-at : goal.decreases-loop-at
decreases-loop-at l = length l.words - l.at
