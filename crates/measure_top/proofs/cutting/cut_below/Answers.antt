use Rattle.std.proofs.Common.{ℤ, sym, ◌∙◌, ◌+◌, subst, to_z, of_z, w64, arith}
use Rattle.std.proofs.lemmas.Int.{to_z-of_z}
use Rattle.measure_top.specs.Picks.{IsCutUpTo}
use Rattle.measure_top.proofs.CutPlanes.{cut_skip, cut_more, cut_all}
use Rattle.measure_top.proofs.cutting.cut_below.Goals.{then-not-is_at_least, else-not-is_at_least}
use Rattle.measure_top.proofs.cutting.cut_below.Goals as goal

pub loop-p-preserved : goal.loop-p-preserved
loop-p-preserved c =
    elim c.if-not-is_at_least.branch [
      | then-not-is_at_least w ↦
          subst (IsCutUpTo c.args.plane.now (to_z w64 (of_z w64 c.args.level)) (c.loop-p.p + 1)) (sym (w.plane-is ∙ w.clear.ensures))
          (cut_more c.args.plane.now c.loop-p.plane (to_z w64 (of_z w64 c.args.level)) c.loop-p.p c.loop-p.invariant
          (omega (arith, c.loop-p-test.true, c.shape.ensures.pixels, c.pixels-count.ensures.product)) (sym c.is_at_least.ensures ∙ w.if-not-is_at_least.true))
      | else-not-is_at_least w ↦
          subst (IsCutUpTo c.args.plane.now (to_z w64 (of_z w64 c.args.level)) (c.loop-p.p + 1)) (sym w.plane-is)
          (cut_skip c.args.plane.now c.loop-p.plane (to_z w64 (of_z w64 c.args.level)) c.loop-p.p c.loop-p.invariant
          (sym c.is_at_least.ensures ∙ w.if-not-is_at_least.false))
    ]

pub returns : goal.returns
returns c =
    cut_all c.args.plane.now c.loop-p.plane c.args.level c.loop-p.p
    (subst (λ (h : ℤ). IsCutUpTo c.args.plane.now h c.loop-p.p c.loop-p.plane) (to_z-of_z w64 c.args.level c.ranges.level) c.loop-p.invariant)
    (omega (arith, c.loop-p-test.false, c.shape.ensures.pixels, c.pixels-count.ensures.product))
