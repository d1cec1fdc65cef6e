use Rattle.std.proofs.Common.{◌≡◌, ◌+◌, ◌*◌, ℕ, ℤ, ap, sym, ◌∙◌, subst, to_z, of_z, w64, arith}
use Rattle.std.proofs.lemmas.Int.{to_z-of_z}
use Rattle.comp_tree.specs.declared.shape.Shape.{Shape}
use Rattle.comp_tree.specs.Raster.{is_at_least}
use Rattle.source_pick.specs.Clearing.{AreSetAround, AreMarkedNear}
use Rattle.source_pick.proofs.LocalityNearing.{near_skip, near_more, near_at_count}
use Rattle.source_pick.proofs.clearing.mark_row.Goals.{then-is_at_least, else-is_at_least}
use Rattle.source_pick.proofs.clearing.mark_row.Goals as goal

pub loop-column-init : goal.loop-column-init
loop-column-init c = λ first m.
    near_at_count c.args.plane.now c.args.connect _ c.args.start first (c.args.row * c.args.plane.now.shape.width) _ c.args.marks.now m (omega arith)

pub loop-column-preserved : goal.loop-column-preserved
loop-column-preserved c = λ first m.
    let h : ℤ = to_z w64 (of_z w64 c.args.threshold) in
    let p : ℕ = c.args.row * c.args.plane.now.shape.width + c.loop-column.column in
    let wide : c.shape-shape.result.width ≡ c.args.plane.now.shape.width = ap (λ (s : Shape). s.width) c.shape-shape.ensures.same in
    let tested : c.is_at_least.result ≡ is_at_least c.args.plane.now h p =
    c.is_at_least.ensures ∙ ap (λ n. is_at_least c.args.plane.now h (c.args.row * n + c.loop-column.column)) wide in
    let next : c.args.row * c.args.plane.now.shape.width + (c.loop-column.column + 1) ≡ p + 1 = omega arith in
    elim c.if-is_at_least.branch [
      | then-is_at_least w ↦
          rw w.marks-is
          (near_at_count c.args.plane.now c.args.connect h c.args.start first (p + 1) _ w.mark_around.new.marks
          (near_more c.args.plane.now c.args.connect h c.args.start first p (c.args.plane.now.shape.width * c.args.plane.now.shape.height) c.loop-column.marks
          w.mark_around.new.marks
          (sym tested ∙ w.if-is_at_least.true)
          (omega (
            arith,
            c.requires.inside,
            c.loop-column.auto.marks,
            c.shape-shape.ensures.pixels,
            ap (λ (s : Shape). s.width * s.height)
                c.shape-shape.ensures.same,
          ))
          (c.loop-column.invariant first m)
          (subst (λ (s : Shape). AreSetAround c.args.connect s.width (c.args.row * s.width + c.loop-column.column) c.args.start (s.width * s.height)
          c.loop-column.marks w.mark_around.new.marks)
          c.shape-shape.ensures.same w.mark_around.ensures)) next)
      | else-is_at_least w ↦
          rw w.marks-is
          (near_at_count c.args.plane.now c.args.connect h c.args.start first (p + 1) _ c.loop-column.marks
          (near_skip c.args.plane.now c.args.connect h c.args.start first p c.loop-column.marks (sym tested ∙ w.if-is_at_least.false)
          (c.loop-column.invariant first m)) next)
    ]

pub returns : goal.returns
returns c = λ first m.
    let back : to_z w64 (of_z w64 c.args.threshold) ≡ c.args.threshold = to_z-of_z w64 c.args.threshold c.ranges.threshold in
    let whole : c.loop-column.column ≡ c.args.plane.now.shape.width =
    omega (arith, c.loop-column-test.false, c.loop-column.auto.column-end, ap (λ (s : Shape). s.width) c.shape-shape.ensures.same) in
    near_at_count c.args.plane.now c.args.connect c.args.threshold c.args.start first (c.args.row * c.args.plane.now.shape.width + c.loop-column.column) _
    c.loop-column.marks
    (subst (λ (h : ℤ). AreMarkedNear c.args.plane.now c.args.connect h c.args.start first (c.args.row * c.args.plane.now.shape.width + c.loop-column.column)
    c.loop-column.marks) back
    (c.loop-column.invariant first
    (subst (λ (h : ℤ). AreMarkedNear c.args.plane.now c.args.connect h c.args.start first (c.args.row * c.args.plane.now.shape.width) c.args.marks.now)
    (sym back) m)))
    (omega (arith, whole))
