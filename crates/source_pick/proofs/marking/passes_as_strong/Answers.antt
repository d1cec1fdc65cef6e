use Rattle.std.proofs.Common.{arith}
use Rattle.source_pick.proofs.PassesReadings.{of_trees}
use Rattle.node_sums.proofs.Exported.{node_inside}
use Rattle.source_pick.proofs.NodesEntries.{entry_of-parts}
use Rattle.source_pick.proofs.PassesStrong.{entry_from_number, none_from_number, weak_outside, weak_small, strong_if}
use Rattle.source_pick.proofs.marking.passes_as_strong.Goals as goal
use Rattle.node_sums.proofs.Exported.{rows_are}

pub returns-then-entry : goal.returns-then-entry
returns-then-entry c = λ r connect of_tree of_outlines is_plane.
    weak_outside r connect c.args.choice.now c.args.n
    (none_from_number r connect c.args.choice.now c.args.n _ is_plane (node_inside r connect c.args.tree.now c.args.n of_tree c.requires.node)
    (c.requires.entries.each r connect of_tree of_outlines is_plane c.args.n c.requires.node) c.if-entry.true)

pub returns-then-not-has_size : goal.returns-then-not-has_size
returns-then-not-has_size c = λ r connect of_tree of_outlines is_plane.
    weak_small r connect c.args.choice.now c.args.n _
    (entry_from_number r connect c.args.choice.now c.args.n _ is_plane (node_inside r connect c.args.tree.now c.args.n of_tree c.requires.node)
    (c.requires.entries.each r connect of_tree of_outlines is_plane c.args.n c.requires.node) c.if-entry.false) (c.if-not-has_size.ensures r connect of_tree of_outlines
    is_plane)

pub has_part-requires-clause-entry : goal.has_part-requires-clause-entry
has_part-requires-clause-entry c =
    let t = c.requires.outlines in
    let o = of_trees c.args.tree.now c.args.outlines.now t in
    let inside = node_inside t.plane t.of_plane.connect c.args.tree.now c.args.n o.tree_is c.requires.node in
    let entry =
    entry_from_number t.plane t.of_plane.connect c.args.choice.now c.args.n _ o.plane inside
    (c.requires.entries.each t.plane t.of_plane.connect o.tree_is o.outlines_are o.plane c.args.n c.requires.node) c.if-entry.false in
    let parts = entry_of-parts t.plane t.of_plane.connect c.args.choice.now c.args.n _ o.plane inside entry in
    omega (arith, parts.node, rows_are t.plane t.of_plane.connect c.args.tree.now o.tree_is)

pub returns : goal.returns
returns c = λ r connect of_tree of_outlines is_plane.
    strong_if r connect c.args.choice.now c.args.n _ _
    (entry_from_number r connect c.args.choice.now c.args.n _ is_plane (node_inside r connect c.args.tree.now c.args.n of_tree c.requires.node)
    (c.requires.entries.each r connect of_tree of_outlines is_plane c.args.n c.requires.node) c.if-entry.false) (c.if-not-has_size.ensures r connect of_tree of_outlines
    is_plane) (c.has_part.ensures r connect of_tree of_outlines is_plane)
