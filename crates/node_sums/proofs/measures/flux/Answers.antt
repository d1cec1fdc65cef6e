use Rattle.std.proofs.Common.{sym, ◌∙◌, subst}
use Rattle.std.specs.Prelude.{ℤ, pos, ◌≤ℤ◌}
use Rattle.node_sums.proofs.FluxOfSums
use Rattle.node_sums.proofs.measures.flux.Goals as goal

pub above_base-requires-clause-sizes : goal.above_base-requires-clause-sizes
above_base-requires-clause-sizes c =
    FluxOfSums.handed_sizes _ _ _ (FluxOfSums.flux_numbers_of_node c.args.tree.now c.args.n c.args.sums.now c.requires.sums c.requires.node)

pub returns-clause-exact : goal.returns-clause-exact
returns-clause-exact c = λ plane connect tree sums.
    let f = FluxOfSums.flux_numbers_of_node c.args.tree.now c.args.n c.args.sums.now c.requires.sums c.requires.node in
    FluxOfSums.handed-flux _ _ _ c.above_base.result f c.above_base.ensures
    ∙ FluxOfSums.flux_by_sums plane connect c.args.tree.now c.args.n c.args.sums.now tree sums

pub returns-clause-of_sums : goal.returns-clause-of_sums
returns-clause-of_sums c =
    let f = FluxOfSums.flux_numbers_of_node c.args.tree.now c.args.n c.args.sums.now c.requires.sums c.requires.node in
    FluxOfSums.handed-flux _ _ _ c.above_base.result f c.above_base.ensures

pub returns-clause-never_negative : goal.returns-clause-never_negative
returns-clause-never_negative c =
    let f = FluxOfSums.flux_numbers_of_node c.args.tree.now c.args.n c.args.sums.now c.requires.sums c.requires.node in
    subst (λ (z : ℤ). pos 0 ≤ℤ z) (sym (FluxOfSums.handed-flux _ _ _ c.above_base.result f c.above_base.ensures))
    (FluxOfSums.flux_by_sums_not_negative c.args.tree.now c.args.n c.args.sums.now c.requires.sums c.requires.node)
