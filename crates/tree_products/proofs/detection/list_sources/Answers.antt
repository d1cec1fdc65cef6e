use Rattle.std.proofs.Common.{◌∙◌, ℕ, List, map, sym, ap, subst}
use Rattle.std.specs.List.{flat_map}
use Rattle.node_sums.specs.declared.entry.Sums.{Sums}
use Rattle.node_sums.specs.Sums.{sums_of, AreSumsOfNodes}
use Rattle.node_sums.specs.DisjointNodes.{AreDisjointNodes}
use Rattle.source_pick.specs.Catalogue.{catalogue_of, cells_of}
use Rattle.tree_products.proofs.detection.list_sources.Goals as goal

pub table_cells-requires-clause-sums : goal.table_cells-requires-clause-sums
table_cells-requires-clause-sums c =
    subst (λ (xs : List Sums). AreSumsOfNodes c.args.tree.now c.deref-2.result.now xs) (sym c.deref.ensures.value)
    (subst (λ (ns : List ℕ). AreSumsOfNodes c.args.tree.now ns c.in_ok-picked.picked.sums.items) (sym c.deref-2.ensures.value) c.in_ok-picked.ensures.sums)

pub table_cells-requires-clause-disjoint : goal.table_cells-requires-clause-disjoint
table_cells-requires-clause-disjoint c = subst (AreDisjointNodes c.args.tree.now) (sym c.deref-2.ensures.value) c.in_ok-picked.ensures.disjoint

pub returns-clause-picked : goal.returns-clause-picked
returns-clause-picked c = λ connect is. (c.in_ok-picked.ensures.exact connect is).nodes_are

pub returns-clause-cells : goal.returns-clause-cells
returns-clause-cells c = λ connect is.
    c.in_ok-cells.ensures.exact c.args.plane connect is
    (c.deref.ensures.value ∙ (c.in_ok-picked.ensures.exact connect is).sums_are ∙ ap (map (sums_of c.args.plane connect)) (sym c.deref-2.ensures.value))
    ∙ ap (λ l. flat_map cells_of (catalogue_of c.args.plane connect l)) c.deref-2.ensures.value
