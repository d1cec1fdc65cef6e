use Rattle.std.proofs.Common.{ap₂, refl}
use Rattle.pixel_plane.specs.TwoImages.{verdict_on_two}
use Rattle.measure_top.proofs.Ended.{both_read, two_stopped, memory_after}
use Rattle.measure_top.proofs.answer.measure_input.Goals as goal

pub returns-in-Err-clause-told : goal.returns-in-Err-clause-told
returns-in-Err-clause-told g c = λ x tells.
    two_stopped c.args.limits.now c.args.order c.args.choice c.args.values _ x _ _ c.in-Err.stop (tells refl)
    (ap₂ (λ a b. verdict_on_two c.args.limits.now x a b) c.min-first.ensures c.max-second.ensures) (c.in-Err.ensures.told x (tells refl))

pub returns-in-Ok-measure_planes-clause-told : goal.returns-in-Ok-measure_planes-clause-told
returns-in-Ok-measure_planes-clause-told g c = λ x tells.
    both_read c.args.limits.now c.args.order c.args.choice c.args.values _ x _ _ c.in-Ok.planes _ (tells refl)
    (ap₂ (λ a b. verdict_on_two c.args.limits.now x a b) c.min-first.ensures c.max-second.ensures) (c.in-Ok.ensures.told x (tells refl)) c.in-Ok-measure_planes.ensures.bytes

pub returns-in-Err-measure_planes-clause-told : goal.returns-in-Err-measure_planes-clause-told
returns-in-Err-measure_planes-clause-told g c = λ x tells.
    memory_after c.args.limits.now c.args.order c.args.choice c.args.values _ x _ _ c.in-Ok.planes (tells refl)
    (ap₂ (λ a b. verdict_on_two c.args.limits.now x a b) c.min-first.ensures c.max-second.ensures) (c.in-Ok.ensures.told x (tells refl))
