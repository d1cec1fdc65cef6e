use Rattle.std.proofs.Common.{◌≡◌, ◌∙◌, ◌≤◌, ℕ, List, sym, ap, subst, arith, length}
use Rattle.std.proofs.lemmas.List.{length-replicate}
use Rattle.node_sums.proofs.Passes.{take_front}
use Rattle.node_sums.specs.NodeNumbers.{AreMarked}
use Rattle.node_sums.specs.DisjointNodes.{AreNumbered}
use Rattle.node_sums.proofs.Marks.{few_marked, few_rows, zeros_replicate}
use Rattle.node_sums.proofs.numbering.numbers_of_nodes.Goals as goal

pub mark_nodes-requires-clause-inside : goal.mark_nodes-requires-clause-inside
mark_nodes-requires-clause-inside c = λ i n g.
    let size : length c.deref_mut.result.now ≡ length c.args.tree.now.rows =
    ap length (c.deref_mut.ensures.value ∙ c.in_ok-numbers.ensures.items_if_clones_equal (λ y e. e)) ∙ length-replicate (length c.rows.result.now) 0 ∙ ap length c.rows.ensures in
    omega (arith, size, c.requires.nodes i n g)

pub mark_nodes-requires-clause-few : goal.mark_nodes-requires-clause-few
mark_nodes-requires-clause-few c =
    let few : length c.args.nodes.now ≤ length c.args.tree.now.rows = few_marked c.args.tree.now c.args.nodes.now c.requires in
    let rows : length c.args.tree.now.rows ≤ 2147483647 = few_rows c.args.tree.now c.args.nodes.now c.requires in
    omega (arith, few, rows)

pub mark_nodes-requires-clause-none : goal.mark_nodes-requires-clause-none
mark_nodes-requires-clause-none c = zeros_replicate c.deref_mut.result.now (length c.rows.result.now) (c.deref_mut.ensures.value ∙ c.in_ok-numbers.ensures.items_if_clones_equal (λ y e. e))

pub pass_down-requires : goal.pass_down-requires
pass_down-requires c =
    let size : length c.deref_mut.result.now ≡ length c.args.tree.now.rows =
    ap length (c.deref_mut.ensures.value ∙ c.in_ok-numbers.ensures.items_if_clones_equal (λ y e. e)) ∙ length-replicate (length c.rows.result.now) 0 ∙ ap length c.rows.ensures in
    ap length (c.deref_mut-2.ensures.value ∙ take_front c.mark_nodes.new.numbers _ _ (c.mark_nodes.auto.numbers ∙ c.deref_mut.ensures.len))
    ∙ c.mark_nodes.auto.numbers ∙ size

pub returns : goal.returns
returns c =
    let size : length c.deref_mut.result.now ≡ length c.args.tree.now.rows =
    ap length (c.deref_mut.ensures.value ∙ c.in_ok-numbers.ensures.items_if_clones_equal (λ y e. e)) ∙ length-replicate (length c.rows.result.now) 0 ∙ ap length c.rows.ensures in
    let handed : c.deref_mut-2.result.now ≡ c.mark_nodes.new.numbers =
    c.deref_mut-2.ensures.value ∙ take_front c.mark_nodes.new.numbers _ _ (c.mark_nodes.auto.numbers ∙ c.deref_mut.ensures.len) in
    let marked : AreMarked (length c.args.tree.now.rows) c.args.nodes.now (length c.args.nodes.now) c.deref_mut-2.result.now =
    subst (λ (xs : List ℕ). AreMarked (length c.args.tree.now.rows) c.args.nodes.now (length c.args.nodes.now) xs) (sym handed)
    (subst (λ (n : ℕ). AreMarked n c.args.nodes.now (length c.args.nodes.now) c.mark_nodes.new.numbers) size c.mark_nodes.ensures) in
    subst (λ (xs : List ℕ). AreNumbered c.args.tree.now c.args.nodes.now (length c.args.tree.now.rows) xs)
    (sym (take_front c.pass_down.new.numbers _ _ (c.pass_down.auto.numbers ∙ ap length handed ∙ c.mark_nodes.auto.numbers ∙ c.deref_mut.ensures.len)))
    (c.pass_down.ensures c.args.nodes.now c.requires marked)
