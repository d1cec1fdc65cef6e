use Rattle.std.proofs.Common.{◌∙◌, ◌*◌, sym, ap}
use Rattle.comp_tree.specs.declared.shape.Shape.{Shape}
use Rattle.comp_tree.specs.declared.shape.Connect.TheVariants.{Four}
use Rattle.source_pick.proofs.Exported.{tree-shape}
use Rattle.dual_measure.proofs.tests.nodes_are_measured.Goals as goal

pub measures-requires-clause-shape : goal.measures-requires-clause-shape
measures-requires-clause-shape g c =
    c.in_ok-values.ensures ∙ sym c.in_ok-plane.ensures ∙ sym (tree-shape c.in_ok-plane.plane Four c.in_ok-tree.tree c.in_ok-tree.ensures)

pub measures-requires-clause-tree : goal.measures-requires-clause-tree
measures-requires-clause-tree g c = record {
  plane = c.in_ok-plane.plane;
  one_each = c.shape.ensures.pixels ∙ ap (λ (s : Shape). s.width * s.height) c.shape.ensures.same;
  connect = Four;
  tree_is = c.in_ok-tree.ensures;
}
