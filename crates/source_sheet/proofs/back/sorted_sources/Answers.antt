use Rattle.std.proofs.Common.{ℕ, ◌*◌, ◌<◌, length, refl, sym, ◌∙◌, ap, subst, rules}
use Rattle.std.specs.Prelude.{slice_get}
use Rattle.std.proofs.lemmas.List.Sorted.{IsNonDecreasingBy-from_sort_by_key}
use Rattle.comp_tree.specs.declared.shape.Shape.{Shape}
use Rattle.source_sheet.specs.declared.back.Taken.{Taken}
use Rattle.source_sheet.proofs.Sheeted.{placed}
use Rattle.node_sums.specs.Sums.{sums_in}
use Rattle.node_sums.proofs.Exported.{count_of_sums}
use Rattle.source_sheet.proofs.Taking.{few_places, firsts_of_picked, firsts_within, firsts_read, run_from, run_taken_back, run_disjoint, run_placed, own_sums, own_moved, own_of_node}
use Rattle.source_sheet.proofs.Showing.{all_placed, placed_read, owners_read, node_at, few_taken}
use Rattle.source_sheet.proofs.back.sorted_sources.Goals as goal

pub owners-requires-clause-placed : goal.owners-requires-clause-placed
owners-requires-clause-placed c =
    let t = c.requires.laid_out in
    placed_read c.args.sheet.now.whole c.shape-onto.result c.args.sheet.now.plane.shape c.args.sheet.now.places.items c.deref.result.now
    c.shape-onto.ensures.same c.deref.ensures.value
    (all_placed t.plane t.connect c.args.choice.now c.args.sheet.now t.laid_out c.laws_of_sheets.ensures)

pub owners-requires-clause-few : goal.owners-requires-clause-few
owners-requires-clause-few c =
    let t = c.requires.laid_out in
    few_places c.args.sheet.now.plane c.deref.result.now
    (λ i e g. (placed t.plane t.connect c.args.choice.now c.args.sheet.now t.laid_out c.laws_of_sheets.ensures i e
    (ap (λ xs. slice_get xs i) (sym c.deref.ensures.value) ∙ g)).to)
    (λ i j p d e f g. t.laid_out.apart_there i j p d e (ap (λ xs. slice_get xs i) (sym c.deref.ensures.value) ∙ f)
    (ap (λ xs. slice_get xs j) (sym c.deref.ensures.value) ∙ g))

pub placed_sources-requires-clause-placed : goal.placed_sources-requires-clause-placed
placed_sources-requires-clause-placed c =
    let t = c.requires.laid_out in
    placed_read c.args.sheet.now.whole c.shape-onto.result c.args.sheet.now.plane.shape c.args.sheet.now.places.items c.deref-2.result.now
    c.shape-onto.ensures.same c.deref-2.ensures.value
    (all_placed t.plane t.connect c.args.choice.now c.args.sheet.now t.laid_out c.laws_of_sheets.ensures)

pub placed_sources-requires-clause-owners : goal.placed_sources-requires-clause-owners
placed_sources-requires-clause-owners c =
    owners_read c.shape-onto.result.width c.deref.result.now c.deref-2.result.now c.in_ok-owners.owners.items c.deref-3.result.now
    (c.deref.ensures.value ∙ sym c.deref-2.ensures.value) c.deref-3.ensures.value c.in_ok-owners.ensures.owners

pub placed_sources-requires-clause-one_each : goal.placed_sources-requires-clause-one_each
placed_sources-requires-clause-one_each c =
    ap length c.deref-4.ensures.value ∙ count_of_sums c.args.tree.now c.in_ok-picked.picked.nodes.items c.in_ok-picked.picked.sums.items
    c.in_ok-picked.ensures.sums ∙ ap length (sym c.deref-5.ensures.value)

pub placed_sources-requires-clause-firsts : goal.placed_sources-requires-clause-firsts
placed_sources-requires-clause-firsts c = λ i entry g.
    let t = c.requires.laid_out in
    let known = c.in_ok-picked.ensures.exact t.connect t.tree_is in
    subst (λ (x : ℕ). entry.first < x)
    (sym (ap length c.deref-3.ensures.value ∙ c.in_ok-owners.ensures.one_each ∙ ap (λ (x : Shape). x.width * x.height) c.shape-onto.ensures.same))
    (firsts_within c.args.sheet.now.plane t.connect c.args.choice.now c.in_ok-picked.picked.nodes.items c.in_ok-picked.picked.sums.items
    t.laid_out.one_each_there known.nodes_are known.sums_are i entry (ap (λ xs. slice_get xs i) (sym c.deref-4.ensures.value) ∙ g))

pub returns-clause-back : goal.returns-clause-back
returns-clause-back c = λ plane connect l is.
    let known = c.in_ok-picked.ensures.exact connect is in
    run_taken_back plane connect c.args.choice.now c.args.sheet.now l c.laws_of_sheets.ensures (sums_in c.args.sheet.now.plane connect)
    c.in_ok-picked.picked.nodes.items _ refl known.nodes_are
    (run_from c.args.sheet.now (sums_in c.args.sheet.now.plane connect) c.shape-onto.result c.deref.result.now c.deref-2.result.now c.in_ok-picked.picked.nodes.items c.deref-5.result.now
    c.in_ok-owners.owners.items c.deref-3.result.now _ _ c.shape-onto.ensures.same c.deref.ensures.value c.deref-2.ensures.value c.deref-5.ensures.value
    c.deref-3.ensures.value c.in_ok-owners.ensures.owners (c.in_ok-taken.ensures.taken (sums_in c.args.sheet.now.plane connect)
    (firsts_read (sums_in c.args.sheet.now.plane connect) c.in_ok-picked.picked.nodes.items c.deref-5.result.now c.in_ok-picked.picked.sums.items
    c.deref-4.result.now c.deref-5.ensures.value c.deref-4.ensures.value
    (firsts_of_picked c.args.sheet.now.plane connect c.args.choice.now c.in_ok-picked.picked.nodes.items c.in_ok-picked.picked.sums.items l.one_each_there
    (c.in_ok-picked.ensures.exact connect is).nodes_are (c.in_ok-picked.ensures.exact connect is).sums_are))) c.in_ok-sort_by_cached_key.ensures.permutation
    (IsNonDecreasingBy-from_sort_by_key (λ (s : Taken). s.first) _ c.in_ok-sort_by_cached_key.ensures.sorted (λ a r q k. search rules)))

pub returns-clause-placed : goal.returns-clause-placed
returns-clause-placed c =
    let t = c.requires.laid_out in
    run_placed t.plane t.connect c.args.choice.now c.args.sheet.now t.laid_out c.laws_of_sheets.ensures (sums_in c.args.sheet.now.plane t.connect)
    c.in_ok-picked.picked.nodes.items _ refl (c.in_ok-picked.ensures.exact t.connect t.tree_is).nodes_are
    (run_from c.args.sheet.now (sums_in c.args.sheet.now.plane t.connect) c.shape-onto.result c.deref.result.now c.deref-2.result.now c.in_ok-picked.picked.nodes.items c.deref-5.result.now
    c.in_ok-owners.owners.items c.deref-3.result.now _ _ c.shape-onto.ensures.same c.deref.ensures.value c.deref-2.ensures.value c.deref-5.ensures.value
    c.deref-3.ensures.value c.in_ok-owners.ensures.owners (c.in_ok-taken.ensures.taken (sums_in c.args.sheet.now.plane t.connect)
    (firsts_read (sums_in c.args.sheet.now.plane t.connect) c.in_ok-picked.picked.nodes.items c.deref-5.result.now c.in_ok-picked.picked.sums.items
    c.deref-4.result.now c.deref-5.ensures.value c.deref-4.ensures.value
    (firsts_of_picked c.args.sheet.now.plane t.connect c.args.choice.now c.in_ok-picked.picked.nodes.items c.in_ok-picked.picked.sums.items t.laid_out.one_each_there
    (c.in_ok-picked.ensures.exact t.connect t.tree_is).nodes_are (c.in_ok-picked.ensures.exact t.connect t.tree_is).sums_are))) c.in_ok-sort_by_cached_key.ensures.permutation
    (IsNonDecreasingBy-from_sort_by_key (λ (s : Taken). s.first) _ c.in_ok-sort_by_cached_key.ensures.sorted (λ a r q k. search rules)))

pub returns-clause-nodes : goal.returns-clause-nodes
returns-clause-nodes c =
    let t = c.requires.laid_out in
    run_disjoint t.plane t.connect c.args.choice.now c.args.sheet.now t.laid_out c.laws_of_sheets.ensures (sums_in c.args.sheet.now.plane t.connect)
    c.in_ok-picked.picked.nodes.items _ refl (c.in_ok-picked.ensures.exact t.connect t.tree_is).nodes_are
    (run_from c.args.sheet.now (sums_in c.args.sheet.now.plane t.connect) c.shape-onto.result c.deref.result.now c.deref-2.result.now c.in_ok-picked.picked.nodes.items c.deref-5.result.now
    c.in_ok-owners.owners.items c.deref-3.result.now _ _ c.shape-onto.ensures.same c.deref.ensures.value c.deref-2.ensures.value c.deref-5.ensures.value
    c.deref-3.ensures.value c.in_ok-owners.ensures.owners (c.in_ok-taken.ensures.taken (sums_in c.args.sheet.now.plane t.connect)
    (firsts_read (sums_in c.args.sheet.now.plane t.connect) c.in_ok-picked.picked.nodes.items c.deref-5.result.now c.in_ok-picked.picked.sums.items
    c.deref-4.result.now c.deref-5.ensures.value c.deref-4.ensures.value
    (firsts_of_picked c.args.sheet.now.plane t.connect c.args.choice.now c.in_ok-picked.picked.nodes.items c.in_ok-picked.picked.sums.items t.laid_out.one_each_there
    (c.in_ok-picked.ensures.exact t.connect t.tree_is).nodes_are (c.in_ok-picked.ensures.exact t.connect t.tree_is).sums_are))) c.in_ok-sort_by_cached_key.ensures.permutation
    (IsNonDecreasingBy-from_sort_by_key (λ (s : Taken). s.first) _ c.in_ok-sort_by_cached_key.ensures.sorted (λ a r q k. search rules)))
    c.args.tree.now t.tree_is

pub returns-clause-at : goal.returns-clause-at
returns-clause-at c =
    let t = c.requires.laid_out in
    node_at t.plane t.connect c.args.choice.now c.args.sheet.now t.laid_out c.laws_of_sheets.ensures c.args.tree.now _ (returns-clause-nodes c)
    (returns-clause-placed c)

pub returns-clause-few : goal.returns-clause-few
returns-clause-few c = few_taken c.args.tree.now _ (returns-clause-nodes c)

pub returns-clause-sums : goal.returns-clause-sums
returns-clause-sums c = λ i e got.
    own_of_node c.args.tree.now c.in_ok-picked.picked.nodes.items c.in_ok-picked.picked.sums.items e c.in_ok-picked.ensures.sums
    (own_moved c.in_ok-picked.picked.nodes.items c.deref-5.result.now c.in_ok-picked.picked.sums.items c.deref-4.result.now _ _ c.deref-5.ensures.value
    c.deref-4.ensures.value c.in_ok-sort_by_cached_key.ensures.permutation c.in_ok-taken.ensures.own i e got)

pub returns-clause-exact : goal.returns-clause-exact
returns-clause-exact c = λ connect is i e got.
    own_sums c.args.sheet.now.plane connect c.in_ok-picked.picked.nodes.items c.in_ok-picked.picked.sums.items e
    (c.in_ok-picked.ensures.exact connect is).sums_are
    (own_moved c.in_ok-picked.picked.nodes.items c.deref-5.result.now c.in_ok-picked.picked.sums.items c.deref-4.result.now _ _ c.deref-5.ensures.value
    c.deref-4.ensures.value c.in_ok-sort_by_cached_key.ensures.permutation c.in_ok-taken.ensures.own i e got)
