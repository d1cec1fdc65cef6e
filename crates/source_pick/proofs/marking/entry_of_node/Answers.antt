use Rattle.std.proofs.Common.{arith}
use Rattle.source_pick.proofs.PassesReadings.{parent-read}
use Rattle.node_sums.proofs.Exported.{node_inside}
use Rattle.node_sums.proofs.Exported.{some_parent_smaller}
use Rattle.source_pick.proofs.PassesStrong.{number_of_self, number_of_root, number_of_child}
use Rattle.source_pick.proofs.marking.entry_of_node.Goals as goal

pub returns-then-passes_as_entry : goal.returns-then-passes_as_entry
returns-then-passes_as_entry c = λ r connect of_tree of_outlines is_plane.
    number_of_self r connect c.args.choice.now c.args.n is_plane (node_inside r connect c.args.tree.now c.args.n of_tree c.requires.node)
    (c.if-passes_as_entry.ensures r connect of_tree of_outlines is_plane)

pub returns-then-parent : goal.returns-then-parent
returns-then-parent c = λ r connect of_tree of_outlines is_plane.
    number_of_root r connect c.args.choice.now c.args.n _ is_plane (node_inside r connect c.args.tree.now c.args.n of_tree c.requires.node)
    (c.if-passes_as_entry.ensures r connect of_tree of_outlines is_plane)
    (parent-read r connect c.args.tree.now c.args.n _ of_tree c.parent-parent.ensures.same) c.if-parent.true

pub bounds-entries-parent : goal.bounds-entries-parent
bounds-entries-parent c =
    let smaller =
    some_parent_smaller c.parent-parent.result c.args.n c.parent-parent.ensures.smaller c.if-parent.false in
    omega (arith, smaller, c.requires.node, c.requires.parents.one_each)

pub returns : goal.returns
returns c = λ r connect of_tree of_outlines is_plane.
    let smaller =
    some_parent_smaller c.parent-parent.result c.args.n c.parent-parent.ensures.smaller c.if-parent.false in
    number_of_child r connect c.args.choice.now c.args.n _ _ is_plane (node_inside r connect c.args.tree.now c.args.n of_tree c.requires.node)
    (c.if-passes_as_entry.ensures r connect of_tree of_outlines is_plane)
    (parent-read r connect c.args.tree.now c.args.n _ of_tree c.parent-parent.ensures.same) smaller
    (c.requires.parents.each r connect of_tree of_outlines is_plane _ smaller)
