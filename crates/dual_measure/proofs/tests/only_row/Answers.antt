use Rattle.std.proofs.Common.{rules, ◌≡◌, ◌∙◌, ◌<◌, ℕ, length, sym, subst}
use Rattle.std.proofs.lemmas.Grind.{get_or_default_zero}
use Rattle.std.proofs.lemmas.Option.{slice_get-get_or}
use Rattle.comp_tree.specs.ComponentTree.{ComponentTree}
use Rattle.node_sums.specs.declared.entry.Sums.{Sums}
use Rattle.node_sums.specs.Sums.{AreSumsOfNode}
use Rattle.node_sums.proofs.Exported.{sums_of_one}
use Rattle.dual_measure.proofs.tests.only_row.Goals as goal

renamed : (tree : ComponentTree) {n m : ℕ} {s t : Sums} → AreSumsOfNode tree n s → n ≡ m → s ≡ t → AreSumsOfNode tree m t
renamed tree {n} {m} {s} {t} sums same_node same_sums =
    subst (λ (x : Sums). AreSumsOfNode tree m x) same_sums (subst (λ (x : ℕ). AreSumsOfNode tree x s) same_node sums)

below : (count : ℕ) {n m : ℕ} → n < count → n ≡ m → m < count
below count {n} {m} less same = subst (λ (x : ℕ). x < count) same less

pub row-requires-clause-sums : goal.row-requires-clause-sums
row-requires-clause-sums c =
    let picked = c.in_ok-picked.picked in
    let some : 0 < length picked.nodes.items = search rules in
    renamed c.in_ok-tree.tree
    (sums_of_one c.in_ok-tree.tree picked.nodes.items picked.sums.items 0 c.index.result.now c.in_ok-picked.ensures.sums some)
    (sym (get_or_default_zero picked.nodes.items 0 c.index-2.result.now some) ∙ sym c.index-2.ensures)
    (sym c.index.ensures)

pub row-requires-clause-node : goal.row-requires-clause-node
row-requires-clause-node c =
    let nodes = c.in_ok-picked.picked.nodes.items in
    let some : 0 < length nodes = search rules in
    below (length c.in_ok-tree.tree.rows)
    (c.in_ok-picked.ensures.disjoint.nodes 0 _ (slice_get-get_or nodes 0 c.index-2.result.now some))
    (sym c.index-2.ensures)
