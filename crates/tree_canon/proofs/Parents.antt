-- A row that stands for none.
use Rattle.std.proofs.Common.{pos}
use Rattle.comp_tree.specs.declared.tree.NodeRow.{NodeRow}

-- what a read past the end gives
abbrev pub blank : NodeRow
blank = record { level = pos 0; rep = 0; parent = 0 }
