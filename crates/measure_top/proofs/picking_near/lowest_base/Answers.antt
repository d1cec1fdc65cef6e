use Rattle.std.proofs.Common.{subst, sym, arith, rules, w64, SFits, to_z, of_z, ℤ, ◌≡◌}
use Rattle.std.specs.Prelude.{◌≤ℤ◌}
use Rattle.std.proofs.lemmas.Int.{ints, to_z-of_z}
use Rattle.measure_top.proofs.PickedRows.{no_bases, base_more, all_bases}
use Rattle.lemmas.proofs.Exported.{le_trans}
use Rattle.measure_top.proofs.picking_near.lowest_base.Goals as goal

pub loop-node-init : goal.loop-node-init
loop-node-init c = record { level = omega (arith, ints); bases = no_bases _ c.args.nodes.now }

pub loop-node-preserved : goal.loop-node-preserved
loop-node-preserved c =
    let fits : SFits w64 c.min-lowest.result = search rules in
    let same : to_z w64 (of_z w64 c.min-lowest.result) ≡ c.min-lowest.result = to_z-of_z w64 c.min-lowest.result fits in
    let base_fits : SFits w64 c.base-low.result = search rules in
    let base_same : to_z w64 (of_z w64 c.base-low.result) ≡ c.base-low.result = to_z-of_z w64 c.base-low.result base_fits in
    let a = c.min-lowest.ensures.self_bound in
    let b = c.min-lowest.ensures.other_bound in
    let base_is = c.base-low.ensures in
    let before = c.loop-node.invariant.level in
    record {
      level = subst (λ (z : ℤ). z ≤ℤ to_z w64 (of_z w64 c.args.level)) (sym same) (le_trans _ _ _ a before);
      bases =
          base_more (to_z w64 c.loop-node.lowest-bits) (to_z w64 (of_z w64 c.min-lowest.result)) c.args.nodes.now c.loop-node.node-index _
          c.loop-node.invariant.bases
          c.loop-node-test.true (subst (λ (z : ℤ). z ≤ℤ to_z w64 c.loop-node.lowest-bits) (sym same) a)
          (subst (λ (z : ℤ). to_z w64 (of_z w64 c.min-lowest.result) ≤ℤ z) base_is
          (subst (λ (z : ℤ). z ≤ℤ c.base-low.result) (sym same) (subst (λ (z : ℤ). c.min-lowest.result ≤ℤ z) base_same b)));
    }

pub returns-clause-level : goal.returns-clause-level
returns-clause-level c =
    let l = c.loop-node.invariant.level in subst (λ (z : ℤ). to_z w64 c.loop-node.lowest-bits ≤ℤ z) (to_z-of_z w64 c.args.level c.ranges.level) l

pub returns-clause-bases : goal.returns-clause-bases
returns-clause-bases c = all_bases _ c.args.nodes.now c.loop-node.node-index c.loop-node.invariant.bases c.loop-node-test.false
