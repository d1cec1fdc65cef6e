use Rattle.std.proofs.Common.{arith, ◌∙◌}
use Rattle.source_pick.proofs.PassesReadings.{parent-read}
use Rattle.node_sums.proofs.Exported.{some_parent_smaller}
use Rattle.source_pick.proofs.PassesFlags.{IsKnown, several_read, exit_above, exit_entry, exit_weak, exit_root, exit_child}
use Rattle.source_pick.proofs.picking.passes_as_source.Goals as goal

pub returns-then-above-n : goal.returns-then-above-n
returns-then-above-n c = λ choice outlines known_entries known_strong r connect of_tree of_outlines is_plane.
    exit_above r connect choice c.args.tree.now outlines c.args.entries.now c.args.strong.now c.args.children.now c.args.above.now
    (record {
      of = record { plane = is_plane; tree_is = of_tree; outlines_are = of_outlines };
      entries_are = known_entries;
      strong_are = known_strong;
      children_are = c.requires.children;
      above_are = c.requires.above;
    })
    c.args.n c.requires.node c.if-above-n.true

pub returns-then-entries-n : goal.returns-then-entries-n
returns-then-entries-n c = λ choice outlines known_entries known_strong r connect of_tree of_outlines is_plane.
    exit_entry r connect choice c.args.tree.now outlines c.args.entries.now c.args.strong.now c.args.children.now c.args.above.now
    (record {
      of = record { plane = is_plane; tree_is = of_tree; outlines_are = of_outlines };
      entries_are = known_entries;
      strong_are = known_strong;
      children_are = c.requires.children;
      above_are = c.requires.above;
    })
    c.args.n c.requires.node c.if-above-n.false c.if-entries-n.true

pub returns-then-not-strong-n : goal.returns-then-not-strong-n
returns-then-not-strong-n c = λ choice outlines known_entries known_strong r connect of_tree of_outlines is_plane.
    exit_weak r connect choice c.args.tree.now outlines c.args.entries.now c.args.strong.now c.args.children.now c.args.above.now
    (record {
      of = record { plane = is_plane; tree_is = of_tree; outlines_are = of_outlines };
      entries_are = known_entries;
      strong_are = known_strong;
      children_are = c.requires.children;
      above_are = c.requires.above;
    })
    c.args.n c.requires.node c.if-above-n.false c.if-entries-n.false c.if-not-strong-n.true

pub returns-then-parent : goal.returns-then-parent
returns-then-parent c = λ choice outlines known_entries known_strong r connect of_tree of_outlines is_plane.
    exit_root r connect choice c.args.tree.now outlines c.args.entries.now c.args.strong.now c.args.children.now c.args.above.now
    (record {
      of = record { plane = is_plane; tree_is = of_tree; outlines_are = of_outlines };
      entries_are = known_entries;
      strong_are = known_strong;
      children_are = c.requires.children;
      above_are = c.requires.above;
    })
    c.args.n _ c.requires.node c.if-above-n.false c.if-entries-n.false
    (parent-read r connect c.args.tree.now c.args.n _ of_tree c.parent-parent.ensures.same) c.if-parent.true

pub bounds-children-parent : goal.bounds-children-parent
bounds-children-parent c =
    let smaller =
    some_parent_smaller c.parent-parent.result c.args.n c.parent-parent.ensures.smaller c.if-parent.false in
    omega (arith, smaller, c.requires.node, c.requires.children.one_each)

pub returns : goal.returns
returns c = λ choice outlines known_entries known_strong r connect of_tree of_outlines is_plane.
    let smaller =
    some_parent_smaller c.parent-parent.result c.args.n c.parent-parent.ensures.smaller c.if-parent.false in
    let known : IsKnown r connect choice c.args.tree.now outlines c.args.entries.now c.args.strong.now c.args.children.now c.args.above.now =
    record {
      of = record { plane = is_plane; tree_is = of_tree; outlines_are = of_outlines };
      entries_are = known_entries;
      strong_are = known_strong;
      children_are = c.requires.children;
      above_are = c.requires.above;
    } in
    exit_child r connect choice c.args.tree.now outlines c.args.entries.now c.args.strong.now c.args.children.now c.args.above.now known
    c.args.n _ _ c.requires.node c.if-above-n.false c.if-entries-n.false c.if-not-strong-n.false
    (parent-read r connect c.args.tree.now c.args.n _ of_tree c.parent-parent.ensures.same) smaller
    (c.are_several.ensures
    ∙ several_read r connect choice c.args.tree.now outlines c.args.entries.now c.args.strong.now c.args.children.now c.args.above.now known _ _
    (omega (arith, smaller, c.requires.node)))
