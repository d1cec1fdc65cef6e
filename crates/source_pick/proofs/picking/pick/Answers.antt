use Rattle.std.proofs.Common.{◌∙◌, List, sym, subst}
use Rattle.node_sums.specs.declared.outline.Outline.{Outline}
use Rattle.node_sums.specs.Outlines.{AreOutlinesOfTree}
use Rattle.source_pick.proofs.picking.pick.Goals as goal

pub pick_by_outlines-requires-clause-outlines : goal.pick_by_outlines-requires-clause-outlines
pick_by_outlines-requires-clause-outlines c =
    subst (λ (xs : List Outline). AreOutlinesOfTree c.args.tree.now xs) (sym c.deref.ensures.value) c.in_ok-outlines.ensures.of_tree

pub pick_by_outlines-requires-clause-of_plane : goal.pick_by_outlines-requires-clause-of_plane
pick_by_outlines-requires-clause-of_plane c = λ connect of_tree. c.deref.ensures.value ∙ c.in_ok-outlines.ensures.exact connect of_tree
