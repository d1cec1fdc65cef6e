use Rattle.std.proofs.Common.{◌≡◌, ◌+◌, refl, subst, arith, rules}
use Rattle.dev_io.specs.Streams.{Takes, TakesAtMost}
use Rattle.dev_io.specs.Laws.{Takes-nothing}
use Rattle.dev_io.proofs.Exported.{skipped_all, skipped_cut}
use Rattle.pixel_plane.proofs.read.stop_at_range.Goals as goal

pub returns-in-Ok-true-clause-told : goal.returns-in-Ok-true-clause-told
returns-in-Ok-true-clause-told g c = λ bytes told.
    let all : 0 + c.args.rest ≡ c.args.rest = omega arith in
    let takes = skipped_all bytes 0 c.args.rest _ _ c.in-Ok-true.field-0-test (c.in-Ok-true.ensures.told bytes 0 (Takes-nothing bytes _ told)) in
    (refl, search rules, subst (Takes bytes (g.S.Source.left c.skip.new.src)) all takes)

pub returns-in-Ok-false-clause-told : goal.returns-in-Ok-false-clause-told
returns-in-Ok-false-clause-told g c = λ bytes told.
    let cut = skipped_cut bytes 0 c.args.rest _ _ c.in-Ok-false.field-0-test (c.in-Ok-false.ensures.told bytes 0 (Takes-nothing bytes _ told)) in
    (omega (arith, cut.0), cut.1)

pub returns-in-Err-clause-told : goal.returns-in-Err-clause-told
returns-in-Err-clause-told g c = λ bytes told.
    let all : 0 + c.args.rest ≡ c.args.rest = omega arith in
    subst (TakesAtMost bytes (g.S.Source.left c.skip.new.src)) all (c.in-Err.ensures.told bytes 0 (Takes-nothing bytes _ told))
