-- Each byte that the source had is read, or still to come, and no fault is lost.
use Rattle.std.proofs.Common.{◌≤◌, ℕ, List}
use Rattle.join_top.specs.AllBytes.{HasCollected}
use Rattle.join_top.proofs.reading.read_on.Given as goal

abbrev pub invariant-loop : goal.invariant-loop
invariant-loop g l =
    ((bytes : List ℕ) → HasCollected bytes (g.S.Source.left l.initial.src) l.initial.all.items → HasCollected bytes (g.S.Source.left l.src) l.all.items)
    × (g.S.Source.faults l.initial.src ≤ g.S.Source.faults l.src)
