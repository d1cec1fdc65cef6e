use Rattle.std.proofs.Common.{◌≡◌, ℕ, ◌≤◌}
use Rattle.std.specs.Prelude.{slice_index}
use Rattle.source_pick.specs.Passes.{HavePixelNumbers}
use Rattle.source_pick.proofs.segmenting.number_pixels.Given as goal

abbrev pub invariant-loop-k : goal.invariant-loop-k
invariant-loop-k l = record {
  done : HavePixelNumbers l.tree l.numbers l.start l.k l.map;
  rest : (q : ℕ) → l.k ≤ q → slice_index l.map q ≡ 0;
}
