use Rattle.std.proofs.Common.{◌∙◌, sym, ap, subst, List, Bool}
use Rattle.node_sums.proofs.Exported.{take_front}
use Rattle.comp_tree.specs.declared.tree.NodeRow.{NodeRow}
use Rattle.filter_rules.specs.Passes.{HasRisingLevels, flag}
use Rattle.filter_rules.proofs.Boxes.{trees_rise}
use Rattle.filter_rules.proofs.Flags.{kept_of_tree}
use Rattle.filter_rules.proofs.keeping.kept_nodes.Goals as goal

pub apply-requires-clause-rows : goal.apply-requires-clause-rows
apply-requires-clause-rows c =
    subst (λ (rows : List NodeRow). HasRisingLevels rows) (sym c.rows.ensures) (trees_rise c.args.tree.now c.args.outlines.now c.requires.outlines)

pub returns-clause-kept : goal.returns-clause-kept
returns-clause-kept c = λ plane connect e f is_plane n h.
    ap (λ (flags : List Bool). flag flags n) (take_front c.apply.new.kept _ _ (c.apply.auto.kept ∙ c.deref_mut.ensures.len))
    ∙ kept_of_tree plane connect c.args.criterion.now c.args.rule c.args.tree.now c.rows.result.now c.in_ok-kept.kept.items c.deref_mut.result.now
    c.apply.new.kept is_plane e
    (trees_rise c.args.tree.now c.args.outlines.now c.requires.outlines) (c.in_ok-kept.ensures.flags plane connect e f) c.rows.ensures c.deref_mut.ensures.value
    c.apply.ensures n h
