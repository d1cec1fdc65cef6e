use Rattle.std.specs.Prelude.{None}
use Rattle.std.proofs.Common.{get_or, ◌∙◌, length, take_all, ap, sym, refl}
use Rattle.std.proofs.lemmas.List.Folds.{list_all_at}
use Rattle.std.specs.List.{list_all}
use Rattle.comp_tree.proofs.Values.{kept_more}
use Rattle.comp_tree.specs.Limits.{value_bound}
use Rattle.comp_tree.specs.Raster.{is_pixel_value as may_stand}
use Rattle.comp_tree.proofs.plane.pixels_of.Goals as goal

pub loop-value-init : goal.loop-value-init
loop-value-init c = (c.in_ok-pixels.ensures.items, refl)

pub loop-value-preserved : goal.loop-value-preserved
loop-value-preserved c =
    let more : _ =
    kept_more (value_bound (length c.args.values.now)) c.loop-value.pixels.items c.args.values.now c.loop-value.value-index c.of.result _ c.loop-value-test.true c.loop-value.invariant
    c.of.ensures (sym (c.if-not-is_pixel_value.ensures.test
    ∙ ap (λ b. may_stand b (get_or c.args.values.now c.loop-value.value-index None)) c.bound_of-bound.ensures.is)) in
    (c.in_ok-push.ensures.items ∙ more.0, more.1)

pub returns-clause-there : goal.returns-clause-there
returns-clause-there c =
    sym c.loop-value.invariant.1 ∙ ap (list_all (may_stand (value_bound (length c.args.values.now)))) (take_all c.loop-value.value-index c.args.values.now c.loop-value-test.false)

pub returns-clause-same : goal.returns-clause-same
returns-clause-same c = c.loop-value.invariant.0 ∙ take_all c.loop-value.value-index c.args.values.now c.loop-value-test.false

pub returns-then-not-is_pixel_value-clause-there : goal.returns-then-not-is_pixel_value-clause-there
returns-then-not-is_pixel_value-clause-there c =
    sym (list_all_at (may_stand (value_bound (length c.args.values.now))) c.args.values.now c.loop-value.value-index _ c.loop-value-test.true (sym (c.if-not-is_pixel_value.ensures.test
    ∙ ap (λ b. may_stand b (get_or c.args.values.now c.loop-value.value-index None)) c.bound_of-bound.ensures.is)))
