use Rattle.comp_tree.specs.Stored.{AreBlocksOf, shown_values}
use Rattle.comp_tree.proofs.pixels.add_blocks.Given as goal

abbrev pub invariant-loop-block : goal.invariant-loop-block
invariant-loop-block l = AreBlocksOf l.block l.runs.items l.kept.items (shown_values l.pixels l.marks)
