use Rattle.std.proofs.Common.{◌∙◌, ◌*◌, ℕ, List, map, sym, ap, subst}
use Rattle.comp_tree.specs.declared.shape.Shape.{Shape}
use Rattle.node_sums.specs.declared.entry.Sums.{Sums}
use Rattle.node_sums.specs.Sums.{sums_of, AreSumsOfNodes}
use Rattle.node_sums.specs.DisjointNodes.{AreDisjointNodes}
use Rattle.measure_top.proofs.PickedSources.{are_sources_of, can_be_listed}
use Rattle.measure_top.proofs.picking_near.pick_of_tree.Goals as goal

pub returns-clause-exact : goal.returns-clause-exact
returns-clause-exact g c = λ connect is.
    let known = c.in_ok-picked.ensures.exact connect is in
    are_sources_of c.args.plane.now connect c.args.choice.now c.in_ok-picked.picked.nodes.items c.deref.result.now c.deref-3.result.now _ _
    known.nodes_are c.deref.ensures.value (c.in_ok-map.ensures.exact c.args.plane.now connect is)
    c.deref-3.ensures.value (c.in_ok-nodes.ensures.exact c.args.plane.now connect is
    (c.deref-2.ensures.value ∙ known.sums_are ∙ ap (map (sums_of c.args.plane.now connect)) (sym c.deref-3.ensures.value)))

pub picked_nodes-requires-clause-disjoint : goal.picked_nodes-requires-clause-disjoint
picked_nodes-requires-clause-disjoint g c = subst (AreDisjointNodes c.args.tree.now) (sym c.deref-3.ensures.value) c.in_ok-picked.ensures.disjoint

pub picked_nodes-requires-clause-sums : goal.picked_nodes-requires-clause-sums
picked_nodes-requires-clause-sums g c =
    subst (λ (xs : List Sums). AreSumsOfNodes c.args.tree.now c.deref-3.result.now xs) (sym c.deref-2.ensures.value)
    (subst (λ (ns : List ℕ). AreSumsOfNodes c.args.tree.now ns c.in_ok-picked.picked.sums.items) (sym c.deref-3.ensures.value) c.in_ok-picked.ensures.sums)

pub returns-clause-listed : goal.returns-clause-listed
returns-clause-listed g c =
    can_be_listed c.args.plane.now c.args.tree.now _ _ c.requires.of_plane
    (c.shape-shape.ensures.pixels ∙ ap (λ (s : Shape). s.width * s.height) c.shape-shape.ensures.same)
    c.in_ok-map.ensures.one_each c.in_ok-map.ensures.few c.in_ok-nodes.ensures.few c.in_ok-nodes.ensures.fits
