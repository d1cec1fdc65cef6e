use Rattle.std.proofs.Common.{◌∙◌, sym, ap, subst, length, List, ℕ, ◌≡◌, ◌≤◌}
use Rattle.std.specs.Prelude.{Some, slice_get}
use Rattle.std.specs.List.{flat_map}
use Rattle.source_pick.specs.Catalogue.{cells_of}
use Rattle.node_sums.specs.DisjointNodes.{AreDisjointNodes}
use Rattle.node_sums.specs.Sums.{AreSumsOfNode}
use Rattle.source_pick.specs.Sheets.{sheet_rows}
use Rattle.source_sheet.specs.declared.back.Taken.{Taken}
use Rattle.source_sheet.specs.Backs.{HaveSums, IsNodeAt, found_of, nodes_in}
use Rattle.source_sheet.proofs.back.list_sources.Goals as goal

pub taken_cells-requires-clause-sums : goal.taken_cells-requires-clause-sums
taken_cells-requires-clause-sums c =
    subst (λ (xs : List Taken). (i : ℕ) (e : Taken) → slice_get xs i ≡ Some e → AreSumsOfNode c.args.tree.now e.node e.sums) (sym c.deref-2.ensures.value)
    c.in_ok-taken.ensures.sums

pub taken_cells-requires-clause-nodes : goal.taken_cells-requires-clause-nodes
taken_cells-requires-clause-nodes c =
    subst (λ (xs : List Taken). (i : ℕ) (e : Taken) → slice_get xs i ≡ Some e → IsNodeAt c.args.tree.now e) (sym c.deref-2.ensures.value)
    c.in_ok-taken.ensures.at

pub taken_cells-requires-clause-few : goal.taken_cells-requires-clause-few
taken_cells-requires-clause-few c = subst (λ (xs : List Taken). length xs ≤ 2147483647) (sym c.deref-2.ensures.value) c.in_ok-taken.ensures.few

pub returns-clause-nodes : goal.returns-clause-nodes
returns-clause-nodes c =
    subst (AreDisjointNodes c.args.tree.now) (sym (c.in_ok-nodes.ensures ∙ ap nodes_in c.deref.ensures.value)) c.in_ok-taken.ensures.nodes

pub returns-clause-listed : goal.returns-clause-listed
returns-clause-listed c = λ plane connect l is. record {
  taken = c.in_ok-taken.taken.items;
  back = c.in_ok-taken.ensures.back plane connect l is;
  placed = c.in_ok-taken.ensures.placed;
  nodes_are = c.in_ok-nodes.ensures ∙ ap nodes_in c.deref.ensures.value;
  cells_are =
      c.in_ok-cells.ensures.exact c.args.sheet.now.plane connect is
      (subst (HaveSums c.args.sheet.now.plane connect) (sym c.deref-2.ensures.value) (c.in_ok-taken.ensures.exact connect is)) c.args.choice.now.threshold
      ∙ ap (λ (xs : List Taken). flat_map cells_of (sheet_rows c.args.sheet.now.plane connect (found_of c.args.sheet.now.plane c.args.choice.now.threshold xs)))
      c.deref-2.ensures.value;
}
