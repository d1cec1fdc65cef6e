-- So many bytes were taken as are no longer left to take.
use Rattle.std.proofs.Common.{◌≡◌, ℕ, ◌+◌, ◌-◌, ◌≤◌, List, length}
use Rattle.dev_io.specs.Streams.{Takes}
use Rattle.dev_io.proofs.source.skip.Given as goal

abbrev pub invariant-loop-left : goal.invariant-loop-left
invariant-loop-left g l = record {
  within : l.left ≤ l.count;
  long : length l.buffer ≡ 2880;
  told : (bytes : List ℕ) (at : ℕ) → Takes bytes (g.S.Source.left l.initial.src) at → Takes bytes (g.S.Source.left l.src) (at + (l.count - l.left));
  later : g.S.Source.faults l.initial.src ≤ g.S.Source.faults l.src;
}

abbrev pub decreases-loop-left : goal.decreases-loop-left
decreases-loop-left g l = l.left
