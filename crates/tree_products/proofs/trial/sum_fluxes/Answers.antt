use Rattle.std.proofs.Common.{◌≡◌, ◌+◌, ◌*◌, ◌<◌, ◌≤◌, ◌∙◌, ap, length, arith, rules}
use Rattle.std.specs.Prelude.{unsigned_abs}
use mir.Syntax.{w64}
use mir.Val.{SFits}
use Rattle.std.proofs.lemmas.Int.{to_z-of_z}
use Rattle.node_sums.specs.Flux.{flux_of}
use Rattle.node_sums.proofs.Exported.{outlines_rows}
use Rattle.tree_products.specs.TrialSizes.{flux_bound}
use Rattle.tree_products.proofs.Summaries.{sum_range_more, flux_at_most, total_flux-all}
use Rattle.tree_products.proofs.trial.sum_fluxes.Goals as goal

read : (c : goal.After-unsigned_abs-fluxes) → c.unsigned_abs-fluxes.result ≡ unsigned_abs c.flux_by_outlines.result
read c =
    let fits : SFits w64 c.flux_by_outlines.result = search rules in
    c.unsigned_abs-fluxes.ensures.value ∙ ap unsigned_abs (to_z-of_z w64 c.flux_by_outlines.result fits)

-- the flux of a node is small
at_most : (c : goal.After-unsigned_abs-fluxes) → unsigned_abs c.flux_by_outlines.result ≤ flux_bound
at_most c =
    let rows : length c.args.outlines.now ≡ length c.args.tree.now.rows = outlines_rows c.args.tree.now c.args.outlines.now c.requires.outlines in
    let inside : c.loop-n.n < length c.args.outlines.now = omega (arith, rows, c.loop-n-test.true, c.node_count-n-end.ensures.all) in
    flux_at_most c.args.tree.now c.args.outlines.now c.loop-n.n c.flux_by_outlines.result c.requires.small inside c.flux_by_outlines.ensures.of_outlines c.flux_by_outlines.ensures.never_negative

pub overflow_add-fluxes : goal.overflow_add-fluxes
overflow_add-fluxes c =
    let below : c.loop-n.n < 2147483647 = omega (arith, c.loop-n-test.true, c.node_count-n-end.ensures.few) in
    let all : flux_bound * c.loop-n.n + flux_bound ≤ flux_bound * 2147483647 = omega (arith, below) in
    omega (arith, at_most c, read c, c.loop-n.invariant.small, all)

pub loop-n-preserved : goal.loop-n-preserved
loop-n-preserved c =
    record {
      so_far = λ plane connect is outlines_are.
          let before = c.loop-n.invariant.so_far plane connect is outlines_are in
          let more = sum_range_more (λ m. unsigned_abs (flux_of plane connect m)) c.loop-n.n in
          let here : c.unsigned_abs-fluxes.result ≡ unsigned_abs (flux_of plane connect c.loop-n.n) =
          read c ∙ ap unsigned_abs (c.flux_by_outlines.ensures.exact plane connect is outlines_are) in
          omega (arith, before, more, here);
      small = omega (arith, at_most c, read c, c.loop-n.invariant.small);
    }

pub returns : goal.returns
returns c = λ plane connect is outlines_are.
    total_flux-all plane connect c.args.tree.now c.loop-n.n c.loop-n.fluxes is
    (omega (arith, c.loop-n-test.false, c.loop-n.auto.n-end, c.node_count-n-end.ensures.all))
    (c.loop-n.invariant.so_far plane connect is outlines_are)
