use Rattle.std.proofs.Common.{ℕ, List, ◌≤◌, subst, sym}
use Rattle.std.proofs.lemmas.List.{get_or_default}
use Rattle.node_sums.specs.DisjointNodes.{AreDisjointNodes}
use Rattle.source_pick.proofs.Exported.{tree-shape}
use Rattle.source_sheet.specs.Backs.{ShowsNodes}
use Rattle.source_sheet.proofs.Showing.{all_placed, map_is}
use Rattle.source_sheet.proofs.WithTops.{rows_of_catalogue, tops_of_sources}
use Rattle.source_sheet.proofs.tops.sources_with_tops.Goals as goal

pub map_of_sheet-requires-clause-disjoint : goal.map_of_sheet-requires-clause-disjoint
map_of_sheet-requires-clause-disjoint g c = λ κs w. subst (AreDisjointNodes c.args.tree) (sym c.deref.ensures.value) c.in_ok-listed.ensures.nodes

pub map_of_sheet-requires-clause-placed : goal.map_of_sheet-requires-clause-placed
map_of_sheet-requires-clause-placed g c = λ κs w.
    let t = c.requires.laid_out in all_placed t.plane t.connect c.args.choice.now c.args.sheet.now t.laid_out c.laws_of_sheets.ensures

pub map_of_sheet-requires-clause-of_sheet : goal.map_of_sheet-requires-clause-of_sheet
map_of_sheet-requires-clause-of_sheet g c = λ κs w.
    let t = c.requires.laid_out in tree-shape c.args.sheet.now.plane t.connect c.args.tree t.tree_is

pub returns-clause-small : goal.returns-clause-small
returns-clause-small g c = λ k d within. subst (λ (n : ℕ). n ≤ 2147483647) (get_or_default c.in_ok-map.map.items k 0 d within) (c.in_ok-map.ensures.few k)

pub returns-clause-map : goal.returns-clause-map
returns-clause-map g c = λ plane connect l is.
    map_is plane connect c.args.choice.now c.args.sheet.now l c.laws_of_sheets.ensures c.in_ok-listed.listed.nodes.items _
    (c.in_ok-listed.ensures.listed plane connect l is).listed c.args.tree is c.in_ok-map.map.items
    (subst (λ (xs : List ℕ). ShowsNodes c.args.tree c.args.sheet.now xs c.in_ok-map.map.items) c.deref.ensures.value c.in_ok-map.ensures.shows) c.in_ok-map.ensures.one_each

pub returns-clause-rows : goal.returns-clause-rows
returns-clause-rows g c = λ plane connect l is.
    rows_of_catalogue plane connect c.args.choice.now c.args.sheet.now l c.laws_of_sheets.ensures c.in_ok-listed.listed.nodes.items
    c.in_ok-listed.listed.sources.items (c.in_ok-listed.ensures.listed plane connect l is)

pub returns-clause-tops : goal.returns-clause-tops
returns-clause-tops g c = λ plane connect l is.
    tops_of_sources plane connect c.args.choice.now c.args.sheet.now l c.laws_of_sheets.ensures c.in_ok-listed.listed.nodes.items
    c.in_ok-listed.listed.sources.items (c.in_ok-listed.ensures.listed plane connect l is)
