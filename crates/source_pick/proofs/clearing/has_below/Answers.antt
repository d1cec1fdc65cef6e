use Rattle.std.proofs.Common.{ℤ, length, sym, ◌∙◌, subst, inl, inr, to_z, of_z, w64, arith}
use Rattle.std.proofs.lemmas.Int.{to_z-of_z}
use Rattle.source_pick.specs.Clearing.{HasNoneBelow}
use Rattle.source_pick.proofs.LocalityNearing.{none_below_more, none_below_all}
use Rattle.source_pick.proofs.clearing.has_below.Goals.{else-is_defined-via-then-is_defined+else-not-is_at_least, else-is_defined-via-else-is_defined}
use Rattle.source_pick.proofs.clearing.has_below.Goals as goal

pub loop-p-preserved : goal.loop-p-preserved
loop-p-preserved c = elim c.else-is_defined.branch [
  | else-is_defined-via-then-is_defined+else-not-is_at_least w ↦
      none_below_more c.args.plane.now (to_z w64 (of_z w64 c.args.threshold)) c.loop-p.p c.loop-p.invariant
      (inr (sym w.is_at_least.ensures ∙ w.if-not-is_at_least.false))
  | else-is_defined-via-else-is_defined w ↦
      none_below_more c.args.plane.now (to_z w64 (of_z w64 c.args.threshold)) c.loop-p.p c.loop-p.invariant
      (inl (sym c.is_defined.ensures ∙ w.if-is_defined.false))
]

pub returns : goal.returns
returns c = λ _.
    subst (λ (h : ℤ). HasNoneBelow c.args.plane.now h (length c.args.plane.now.values)) (to_z-of_z w64 c.args.threshold c.ranges.threshold)
    (none_below_all c.args.plane.now (to_z w64 (of_z w64 c.args.threshold)) c.loop-p.p c.loop-p.invariant
    (omega (arith, c.loop-p-test.false, c.shape.ensures.pixels, c.pixels-p-end.ensures.product)))
