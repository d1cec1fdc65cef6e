use Rattle.std.proofs.Common.{◌≡◌, ◌*◌, ◌∙◌, ℤ, map, ap, subst, w64}
use Rattle.std.proofs.lemmas.Int.{to_z-of_z}
use Rattle.std.proofs.lemmas.Result.{IfOk-weaker}
use Rattle.comp_tree.specs.declared.shape.Shape.{Shape}
use Rattle.comp_tree.specs.Raster.{pixels}
use Rattle.source_pick.specs.Locality.{is_near_high}
use Rattle.source_pick.proofs.LocalityNearing.{length_of_marks, without-kept}
use Rattle.source_pick.proofs.LocalityKeeping.{cleared_has_the_same_sources}
use Rattle.source_pick.proofs.clearing.near.Goals as goal

pub marked-requires : goal.marked-requires
marked-requires g c = record { one_each = length_of_marks _ _ _ c.deref.result.now (c.deref.ensures.value ∙ c.in_ok-marks.ensures) }

pub returns-clause-kept : goal.returns-clause-kept
returns-clause-kept g c =
    IfOk-weaker c.marked.result _ _
    (λ near e. e ∙ without-kept c.args.plane.now c.args.connect c.args.threshold c.deref.result.now
    (subst (λ (h : ℤ). c.deref.result.now ≡ map (is_near_high c.args.plane.now c.args.connect h) (pixels c.args.plane.now))
    (to_z-of_z w64 c.args.threshold c.ranges.threshold)
    (c.deref.ensures.value ∙ c.in_ok-marks.ensures))) c.marked.ensures

pub returns-clause-same : goal.returns-clause-same
returns-clause-same g c =
    IfOk-weaker c.marked.result _ _
    (λ near kept choice e. cleared_has_the_same_sources c.args.plane.now near c.args.connect choice c.args.threshold
    (c.shape.ensures.pixels ∙ ap (λ (s : Shape). s.width * s.height) c.shape.ensures.same) e kept) (returns-clause-kept g c)
