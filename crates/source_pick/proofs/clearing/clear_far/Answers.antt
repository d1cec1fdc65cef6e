use Rattle.std.proofs.Common.{◌≡◌, ◌∙◌, length, refl, sym, subst, w64, ℤ}
use Rattle.std.proofs.lemmas.Int.{to_z-of_z}
use Rattle.std.proofs.lemmas.Result.{IfOk-from_err}
use Rattle.source_pick.specs.Locality.{kept}
use Rattle.source_pick.specs.Clearing.{HasNoneBelow}
use Rattle.source_pick.proofs.LocalityNearing.{kept_whole}
use Rattle.source_pick.proofs.clearing.clear_far.Goals as goal

pub returns-then-not-has_below-clause-kept : goal.returns-then-not-has_below-clause-kept
returns-then-not-has_below-clause-kept g c =
    kept_whole c.args.plane.now c.args.connect c.args.threshold
    (subst (λ (h : ℤ). HasNoneBelow c.args.plane.now h (length c.args.plane.now.values)) (to_z-of_z w64 c.args.threshold c.ranges.threshold)
    (c.has_below.ensures c.if-not-has_below.true))

pub returns-then-not-has_below-clause-same : goal.returns-then-not-has_below-clause-same
returns-then-not-has_below-clause-same g c = λ choice e. record { least = refl; representatives = refl; numbers = refl; rows = refl }

pub returns-in_err-plane-clause-kept : goal.returns-in_err-plane-clause-kept
returns-in_err-plane-clause-kept g c = IfOk-from_err _ _ c.from_residual.ensures.0

pub returns-in_err-plane-clause-same : goal.returns-in_err-plane-clause-same
returns-in_err-plane-clause-same g c = IfOk-from_err _ _ c.from_residual.ensures.0

pub returns-clause-kept : goal.returns-clause-kept
returns-clause-kept g c =
    subst (λ (h : ℤ). c.in_ok-plane.field-0 ≡ kept c.args.plane.now c.args.connect h) (to_z-of_z w64 c.args.threshold c.ranges.threshold)
    c.in_ok-plane.ensures.kept

pub returns-clause-same : goal.returns-clause-same
returns-clause-same g c = λ choice e.
    c.in_ok-plane.ensures.same choice (e ∙ sym (to_z-of_z w64 c.args.threshold c.ranges.threshold))
