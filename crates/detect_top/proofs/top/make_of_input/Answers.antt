use Rattle.std.proofs.Common.{ap}
use Rattle.run_relation.specs.Headline.{Asked}
use Rattle.detect_top.proofs.ImageReads.{image_read, image_stopped, memory_after}
use Rattle.detect_top.proofs.Jobs.{of_input, suits_any}
use Rattle.detect_top.proofs.top.make_of_input.Goals as goal

pub returns-in-Err-clause-asks : goal.returns-in-Err-clause-asks
returns-in-Err-clause-asks g c = ap (λ (a : Asked). a.reads) (of_input c.args.limits.now c.args.order c.args.order.job c.requires.of_input)

pub returns-in-Ok-make-clause-asks : goal.returns-in-Ok-make-clause-asks
returns-in-Ok-make-clause-asks g c = ap (λ (a : Asked). a.reads) (of_input c.args.limits.now c.args.order c.args.order.job c.requires.of_input)

pub returns-in-Err-make-clause-asks : goal.returns-in-Err-make-clause-asks
returns-in-Err-make-clause-asks g c = ap (λ (a : Asked). a.reads) (of_input c.args.limits.now c.args.order c.args.order.job c.requires.of_input)

pub returns-in-Err-clause-told : goal.returns-in-Err-clause-told
returns-in-Err-clause-told g c = λ x tells.
    let is = of_input c.args.limits.now c.args.order c.args.order.job c.requires.of_input in
    let told = tells (ap (λ (a : Asked). a.reads) is) in
    rw is (image_stopped c.args.limits.now c.args.order x _ _ c.in-Err.stop told (c.in-Err.ensures.told x told))

pub make-requires-clause-suits : goal.make-requires-clause-suits
make-requires-clause-suits g c κs within = suits_any c.args.order.job _ c.requires.of_input

pub returns-in-Ok-make-clause-told : goal.returns-in-Ok-make-clause-told
returns-in-Ok-make-clause-told g c = λ x tells.
    let is = of_input c.args.limits.now c.args.order c.args.order.job c.requires.of_input in
    let told = tells (ap (λ (a : Asked). a.reads) is) in
    rw is (image_read c.args.limits.now c.args.order x _ _ c.in-Ok.image _ told (c.in-Ok.ensures.told x told) c.in-Ok-make.ensures.bytes)

pub returns-in-Err-make-clause-told : goal.returns-in-Err-make-clause-told
returns-in-Err-make-clause-told g c = λ x tells.
    let is = of_input c.args.limits.now c.args.order c.args.order.job c.requires.of_input in
    let told = tells (ap (λ (a : Asked). a.reads) is) in
    rw is (memory_after c.args.limits.now c.args.order x _ _ c.in-Ok.image told (c.in-Ok.ensures.told x told))
