use Rattle.std.proofs.Common.{◌∙◌, sym, ap, subst, length, List, ℕ, ◌≡◌, ◌≤◌}
use Rattle.std.specs.Prelude.{Some, slice_get}
use Rattle.comp_tree.specs.declared.shape.Shape.{Shape}
use Rattle.node_sums.specs.DisjointNodes.{AreDisjointNodes}
use Rattle.node_sums.specs.Sums.{AreSumsOfNode}
use Rattle.source_pick.specs.Sheets.{sheet_rows}
use Rattle.source_sheet.specs.declared.back.Taken.{Taken}
use Rattle.source_sheet.specs.Backs.{HaveSums, IsNodeAt, found_of, nodes_in}
use Rattle.source_sheet.specs.Tops.{LieAt, tops_back}
use Rattle.source_sheet.proofs.WithTops.{lie_with_tops, listed_with_tops}
use Rattle.source_sheet.proofs.tops.list_with_tops.Goals as goal

pub sources_back-requires-clause-sums : goal.sources_back-requires-clause-sums
sources_back-requires-clause-sums c =
    subst (λ (xs : List Taken). (i : ℕ) (e : Taken) → slice_get xs i ≡ Some e → AreSumsOfNode c.args.tree.now e.node e.sums) (sym c.deref-2.ensures.value)
    c.in_ok-taken.ensures.sums

pub sources_back-requires-clause-nodes : goal.sources_back-requires-clause-nodes
sources_back-requires-clause-nodes c =
    subst (λ (xs : List Taken). (i : ℕ) (e : Taken) → slice_get xs i ≡ Some e → IsNodeAt c.args.tree.now e) (sym c.deref-2.ensures.value)
    c.in_ok-taken.ensures.at

pub sources_back-requires-clause-lie : goal.sources_back-requires-clause-lie
sources_back-requires-clause-lie c =
    let t = c.requires.laid_out in
    subst (λ (xs : List Taken). LieAt c.args.sheet.now.whole c.shape-onto.result c.args.tree.now xs) (sym c.deref-2.ensures.value)
    (subst (λ (x : Shape). LieAt c.args.sheet.now.whole x c.args.tree.now c.in_ok-taken.taken.items) (sym c.shape-onto.ensures.same)
    (lie_with_tops t.plane t.connect c.args.choice.now c.args.sheet.now t.laid_out c.laws_of_sheets.ensures c.args.tree.now c.in_ok-taken.taken.items
    t.tree_is (c.in_ok-taken.ensures.back t.plane t.connect t.laid_out t.tree_is) c.in_ok-taken.ensures.placed c.in_ok-taken.ensures.at))

pub sources_back-requires-clause-few : goal.sources_back-requires-clause-few
sources_back-requires-clause-few c = subst (λ (xs : List Taken). length xs ≤ 2147483647) (sym c.deref-2.ensures.value) c.in_ok-taken.ensures.few

pub returns-clause-nodes : goal.returns-clause-nodes
returns-clause-nodes c =
    subst (AreDisjointNodes c.args.tree.now) (sym (c.in_ok-nodes.ensures ∙ ap nodes_in c.deref.ensures.value)) c.in_ok-taken.ensures.nodes

pub returns-clause-few : goal.returns-clause-few
returns-clause-few c =
    subst (λ (n : ℕ). n ≤ 2147483647) (sym (c.in_ok-sources.ensures.one_each ∙ ap (λ (xs : List Taken). length xs) c.deref-2.ensures.value)) c.in_ok-taken.ensures.few

pub returns-clause-listed : goal.returns-clause-listed
returns-clause-listed c = λ plane connect l is.
    listed_with_tops plane connect c.args.choice.now c.args.sheet.now l c.args.tree.now is c.in_ok-taken.taken.items c.in_ok-nodes.nodes.items
    c.in_ok-sources.sources.items (c.in_ok-taken.ensures.back plane connect l is) c.in_ok-taken.ensures.placed c.in_ok-taken.ensures.at
    (c.in_ok-nodes.ensures ∙ ap nodes_in c.deref.ensures.value)
    (c.in_ok-sources.ensures.rows c.args.sheet.now.plane connect is
    (subst (HaveSums c.args.sheet.now.plane connect) (sym c.deref-2.ensures.value) (c.in_ok-taken.ensures.exact connect is)) c.args.choice.now.threshold
    ∙ ap (λ (xs : List Taken). sheet_rows c.args.sheet.now.plane connect (found_of c.args.sheet.now.plane c.args.choice.now.threshold xs))
    c.deref-2.ensures.value)
    (c.in_ok-sources.ensures.tops c.args.sheet.now.plane c.args.choice.now.threshold
    ∙ ap (λ (xs : List Taken). tops_back c.args.sheet.now.whole.width c.shape-onto.result.width c.args.sheet.now.plane c.args.choice.now.threshold c.args.tree.now xs)
    c.deref-2.ensures.value
    ∙ ap (λ (x : Shape). tops_back c.args.sheet.now.whole.width x.width c.args.sheet.now.plane c.args.choice.now.threshold c.args.tree.now c.in_ok-taken.taken.items)
    c.shape-onto.ensures.same)
