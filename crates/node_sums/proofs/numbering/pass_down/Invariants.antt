use Rattle.std.proofs.Common.{◌≡◌, ℕ, ◌≤◌, List, length}
use Rattle.std.specs.Prelude.{slice_index}
use Rattle.node_sums.specs.DisjointNodes.{AreDisjointNodes}
use Rattle.node_sums.specs.NodeNumbers.{AreMarked}
use Rattle.node_sums.specs.DisjointNodes.{AreNumbered}
use Rattle.node_sums.proofs.numbering.pass_down.Given as goal

abbrev pub invariant-loop-n : goal.invariant-loop-n
invariant-loop-n l = record {
  done : (marked : List ℕ) → AreDisjointNodes l.tree marked → AreMarked (length l.tree.rows) marked (length marked) l.fn.numbers
      → AreNumbered l.tree marked l.n l.numbers;
  rest : (m : ℕ) → l.n ≤ m → slice_index l.numbers m ≡ slice_index l.fn.numbers m;
}
