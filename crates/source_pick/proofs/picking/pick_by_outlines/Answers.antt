use Rattle.std.proofs.Common.{◌≡◌, ◌∙◌, ◌*◌, List, Bool, IsPermutation, length, map, sym, subst, ap, rules}
use Rattle.std.specs.List.Sorted.{IsNonDecreasingBy}
use Rattle.std.proofs.lemmas.List.Sorted.{IsNonDecreasingBy-from_sort_by_key}
use Rattle.comp_tree.specs.declared.shape.Connect.{Connect}
use Rattle.comp_tree.specs.declared.shape.Shape.{Shape}
use Rattle.comp_tree.specs.Components.{tree_of}
use Rattle.node_sums.specs.Sums.{sums_of, AreSumsOfNodes}
use Rattle.node_sums.specs.DisjointNodes.{AreDisjointNodes}
use Rattle.node_sums.proofs.Exported.{count_of_sums}
use Rattle.source_pick.specs.declared.picking.PlacedSource.{PlacedSource}
use Rattle.source_pick.specs.declared.picking.Picked.{Picked}
use Rattle.source_pick.specs.Sources.{ArePickedFrom}
use Rattle.source_pick.specs.Passes.{AreSources, AreListedSources, placed_nodes, placed_sums, with_sums}
use Rattle.source_pick.proofs.OrderPlacing.{listed_disjoint, picked_exact, picked_disjoint, if_ok_more, if_ok_both}
use Rattle.source_pick.proofs.picking.pick_by_outlines.Goals as goal

pub flagged_nodes-requires : goal.flagged_nodes-requires
flagged_nodes-requires c = ap length c.deref.ensures.value ∙ c.in_ok-flags.ensures.one_each

pub sums_of_nodes-requires-clause-disjoint : goal.sums_of_nodes-requires-clause-disjoint
sums_of_nodes-requires-clause-disjoint c =
    subst (AreDisjointNodes c.args.tree.now) (sym c.deref-2.ensures.value)
    (listed_disjoint c.args.choice.now c.args.tree.now c.args.outlines.now c.in_ok-nodes.nodes.items c.requires.outlines
    (c.in_ok-nodes.ensures c.args.choice.now c.args.outlines.now
    (subst (λ (xs : List Bool). AreSources c.args.choice.now c.args.tree.now c.args.outlines.now (length c.args.tree.now.rows) xs) (sym c.deref.ensures.value)
    c.in_ok-flags.ensures)))

pub placed_sources-requires : goal.placed_sources-requires
placed_sources-requires c =
    ap length c.deref-4.ensures.value ∙ count_of_sums c.args.tree.now c.deref-2.result.now c.in_ok-sums.sums.items c.in_ok-sums.ensures.of_nodes
    ∙ ap length (c.deref-2.ensures.value ∙ sym c.deref-3.ensures.value)

pub returns-clause-exact : goal.returns-clause-exact
returns-clause-exact c =
    if_ok_both c.picked_of.result (λ (p : Picked). p.nodes.items ≡ placed_nodes c.deref-5.result.now)
    (λ (p : Picked). p.sums.items ≡ placed_sums c.deref-5.result.now)
    (λ (p : Picked). (connect : Connect) → c.args.tree.now ≡ tree_of c.args.plane.now connect
    → ArePickedFrom c.args.plane.now connect c.args.choice.now p.nodes.items p.sums.items)
    (λ p e f connect of_tree.
    let plane = c.shape-shape.ensures.pixels ∙ ap (λ (s : Shape). s.width * s.height) c.shape-shape.ensures.same in
    let listed : AreListedSources c.args.choice.now c.args.tree.now c.args.outlines.now (length c.args.tree.now.rows) c.in_ok-nodes.nodes.items =
    c.in_ok-nodes.ensures c.args.choice.now c.args.outlines.now
    (subst (λ (xs : List Bool). AreSources c.args.choice.now c.args.tree.now c.args.outlines.now (length c.args.tree.now.rows) xs) (sym c.deref.ensures.value)
    c.in_ok-flags.ensures) in
    let sums : c.deref-4.result.now ≡ map (sums_of c.args.plane.now connect) c.deref-3.result.now =
    c.deref-4.ensures.value ∙ c.in_ok-sums.ensures.exact connect of_tree
    ∙ ap (map (sums_of c.args.plane.now connect)) (c.deref-2.ensures.value ∙ sym c.deref-3.ensures.value) in
    let placed : c.in_ok-placed.placed.items ≡ map (with_sums c.args.plane.now connect) c.in_ok-nodes.nodes.items =
    c.in_ok-placed.ensures c.args.plane.now connect sums ∙ ap (map (with_sums c.args.plane.now connect)) c.deref-3.ensures.value in
    picked_exact c.args.choice.now c.args.plane.now connect c.args.tree.now c.args.outlines.now c.in_ok-nodes.nodes.items c.deref-4.result.now
    c.in_ok-placed.placed.items c.deref-5.result.now p.nodes.items p.sums.items plane of_tree (c.requires.of_plane connect of_tree) listed placed
    (subst (λ (xs : List PlacedSource). IsPermutation c.in_ok-placed.placed.items xs) (sym c.deref-5.ensures.value) c.in_ok-sort_by_cached_key.ensures.permutation)
    (subst (λ (xs : List PlacedSource). IsNonDecreasingBy (λ (s : PlacedSource). s.sums.first) xs) (sym c.deref-5.ensures.value)
    (IsNonDecreasingBy-from_sort_by_key (λ (s : PlacedSource). s.sums.first) _ c.in_ok-sort_by_cached_key.ensures.sorted (λ a r q k. search rules)))
    e f)
    c.picked_of.ensures.nodes c.picked_of.ensures.sums

pub returns-clause-disjoint : goal.returns-clause-disjoint
returns-clause-disjoint c =
    if_ok_more c.picked_of.result
    (λ (p : Picked). (connect : Connect) → c.args.tree.now ≡ tree_of c.args.plane.now connect
    → ArePickedFrom c.args.plane.now connect c.args.choice.now p.nodes.items p.sums.items)
    (λ (p : Picked). AreDisjointNodes c.args.tree.now p.nodes.items)
    (λ p known. picked_disjoint c.args.choice.now c.args.tree.now c.args.plane.now c.requires.tree.0 p.nodes.items
    (c.shape-shape.ensures.pixels ∙ ap (λ (s : Shape). s.width * s.height) c.shape-shape.ensures.same) c.requires.tree.1
    (known c.requires.tree.0 c.requires.tree.1).nodes_are)
    (returns-clause-exact c)

pub returns-clause-sums : goal.returns-clause-sums
returns-clause-sums c =
    if_ok_more c.picked_of.result
    (λ (p : Picked). (connect : Connect) → c.args.tree.now ≡ tree_of c.args.plane.now connect
    → ArePickedFrom c.args.plane.now connect c.args.choice.now p.nodes.items p.sums.items)
    (λ (p : Picked). AreSumsOfNodes c.args.tree.now p.nodes.items p.sums.items)
    (λ p known. record {
      plane = c.args.plane.now;
      connect = c.requires.tree.0;
      one_each = c.shape-shape.ensures.pixels ∙ ap (λ (s : Shape). s.width * s.height) c.shape-shape.ensures.same;
      in_range = c.shape-shape.ensures.in_range;
      tree_is = c.requires.tree.1;
      sums_are = (known c.requires.tree.0 c.requires.tree.1).sums_are;
    })
    (returns-clause-exact c)
