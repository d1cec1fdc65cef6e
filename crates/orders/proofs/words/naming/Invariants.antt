-- None of the pairs before names the option.
use Rattle.std.proofs.Common.{◌≡◌, ◌≤◌, ℕ, false}
use Rattle.command_line.specs.Lines.{texts}
use Rattle.orders.specs.Words.{names}
use Rattle.orders.proofs.words.naming.Given as goal

abbrev pub invariant-loop-before : goal.invariant-loop-before
invariant-loop-before l = (j : ℕ) → 1 ≤ j → j ≤ l.before → names (texts l.fn.words) l.fn.setting j ≡ false
