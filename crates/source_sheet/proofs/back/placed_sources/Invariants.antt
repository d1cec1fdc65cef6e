use Rattle.std.proofs.Common.{List}
use Rattle.node_sums.specs.declared.entry.Sums.{Sums}
use Rattle.source_sheet.specs.Backs.{AreFirstsOf, AreTaken, HaveOwnSums}
use Rattle.source_sheet.proofs.back.placed_sources.Given as goal

abbrev pub invariant-loop-i : goal.invariant-loop-i
invariant-loop-i l = record {
  taken : (all : List Sums) → AreFirstsOf all l.picked l.sums
      → AreTaken l.whole.width l.onto.width l.places l.owners all l.picked l.i l.taken.items;
  own : HaveOwnSums l.picked l.sums l.taken.items;
}
