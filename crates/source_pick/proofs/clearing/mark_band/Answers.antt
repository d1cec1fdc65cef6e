use Rattle.std.proofs.Common.{◌≡◌, ◌≤◌, ◌<◌, ◌+◌, ◌-◌, ◌*◌, ◌/◌, ◌⊎◌, inl, inr, length, ℤ, ap, ◌∙◌, subst, w64, arith}
use Rattle.std.proofs.lemmas.Bool.{cases_lt}
use Rattle.std.proofs.lemmas.Int.{to_z-of_z}
use Rattle.comp_tree.specs.declared.shape.Shape.{Shape}
use Rattle.comp_tree.specs.Raster.{IsPlane}
use Rattle.source_pick.specs.Clearing.{AreMarkedNear}
use Rattle.source_pick.proofs.LocalityNearing.{near_none, near_band}
use Rattle.source_pick.proofs.clearing.mark_band.Goals as goal

pub loop-row-init : goal.loop-row-init
loop-row-init c =
    near_none c.args.plane.now c.args.connect _ c.args.start (c.saturating_sub-first.result * c.args.plane.now.shape.width) c.args.marks.now c.requires.blank

pub loop-row-preserved : goal.loop-row-preserved
loop-row-preserved c = c.mark_row.ensures (c.saturating_sub-first.result * c.args.plane.now.shape.width) c.loop-row.invariant

pub returns : goal.returns
returns c = λ k l.
    near_band c.args.plane.now c.args.connect c.args.threshold c.args.start c.saturating_sub-first.result c.loop-row.row (length c.args.marks.now)
    c.loop-row.marks plane
    (omega (arith, wide, c.shape-shape.result.within_limits.some_columns))
    (c.saturating_sub-first.ensures ∙ ap (λ n. c.args.start / n - 1) wide)
    (go (cases_lt ((c.args.start + length c.args.marks.now - 1) / c.args.plane.now.shape.width + 2) c.args.plane.now.shape.height))
    c.loop-row.auto.marks
    (subst (λ (h : ℤ). AreMarkedNear c.args.plane.now c.args.connect h c.args.start (c.saturating_sub-first.result * c.args.plane.now.shape.width)
    (c.loop-row.row * c.args.plane.now.shape.width) c.loop-row.marks) (to_z-of_z w64 c.args.threshold c.ranges.threshold) c.loop-row.invariant) k l
  where
    wide : c.shape-shape.result.width ≡ c.args.plane.now.shape.width
    wide = ap (λ (s : Shape). s.width) c.shape-shape.ensures.same

    high : c.shape-shape.result.height ≡ c.args.plane.now.shape.height
    high = ap (λ (s : Shape). s.height) c.shape-shape.ensures.same

    plane : IsPlane c.args.plane.now
    plane = c.shape-shape.ensures.pixels ∙ ap (λ (s : Shape). s.width * s.height) c.shape-shape.ensures.same

    last : (c.args.start + length c.args.marks.now - 1) / c.shape-shape.result.width
        ≡ (c.args.start + length c.args.marks.now - 1) / c.args.plane.now.shape.width
    last = ap (λ n. (c.args.start + length c.args.marks.now - 1) / n) wide

    go : ((c.args.start + length c.args.marks.now - 1) / c.args.plane.now.shape.width + 2 < c.args.plane.now.shape.height)
        ⊎ (c.args.plane.now.shape.height ≤ (c.args.start + length c.args.marks.now - 1) / c.args.plane.now.shape.width + 2)
        → ((c.args.start + length c.args.marks.now - 1) / c.args.plane.now.shape.width + 2 ≤ c.loop-row.row) ⊎ (c.args.plane.now.shape.height ≤ c.loop-row.row)
    go (inl m) = inl (omega (arith, m, last, high, c.min-end.ensures, c.loop-row-test.false))
    go (inr m) = inr (omega (arith, m, last, high, c.min-end.ensures, c.loop-row-test.false))
