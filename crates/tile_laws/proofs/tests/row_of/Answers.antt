use Rattle.std.proofs.Common.{rules, ◌∙◌, ◌-◌, ◌<◌, ℕ, length, get_or, sym, subst}
use Rattle.std.proofs.lemmas.Grind.{get_or_default_zero}
use Rattle.node_sums.specs.declared.entry.Sums.{Sums}
use Rattle.node_sums.specs.Sums.{AreSumsOfNode}
use Rattle.node_sums.proofs.Exported.{sums_of_one}
use Rattle.tile_laws.proofs.tests.row_of.Goals as goal

pub row-requires-clause-sums : goal.row-requires-clause-sums
row-requires-clause-sums c =
    let picked = c.in_ok-picked.picked in
    let place = c.args.number - 1 in
    let some : place < length picked.nodes.items = search rules in
    let found = get_or picked.sums.items place c.index.result.now in
    subst (λ (s : Sums). AreSumsOfNode c.in_ok-tree.tree c.index-n.result.now s) (sym c.index.ensures)
    (subst (λ (n : ℕ). AreSumsOfNode c.in_ok-tree.tree n found)
    (sym (get_or_default_zero picked.nodes.items place c.index-n.result.now some) ∙ sym c.index-n.ensures)
    (sums_of_one c.in_ok-tree.tree picked.nodes.items picked.sums.items place c.index.result.now c.in_ok-picked.ensures.sums some))
