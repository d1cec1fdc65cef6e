use Rattle.std.proofs.Common.{subst, sym}
use Rattle.pixel_plane.specs.Verdicts.{verdict_on}
use Rattle.pixel_plane.specs.Streams.{ImageStopped}
use Rattle.pixel_plane.proofs.Images.{verdict_is, search_stopped}
use Rattle.pixel_plane.proofs.TwoHdus.{first_read}
use Rattle.pixel_plane.proofs.two_images.read_first.Goals as goal

pub returns-in-Err-clause-told : goal.returns-in-Err-clause-told
returns-in-Err-clause-told g c = λ x e.
    subst (ImageStopped (verdict_on c.args.limits.now x c.args.number) x _) (sym c.at_hdu.ensures) (search_stopped c.args.limits.now x c.args.number _ _ (c.in-Err.ensures.told x e))

pub returns-in-Ok-read_found-clause-told : goal.returns-in-Ok-read_found-clause-told
returns-in-Ok-read_found-clause-told g c = λ x e.
    let place = c.in-Ok.ensures.told x e in
    first_read c.args.limits.now x c.args.number place.0 _ _ place.1 (c.in-Ok-read_found.ensures.told x place.0 place.2)

pub returns-in-Err-read_found-clause-told : goal.returns-in-Err-read_found-clause-told
returns-in-Err-read_found-clause-told g c = λ x e.
    let place = c.in-Ok.ensures.told x e in
    subst (λ v. ImageStopped v x (g.S.Source.left c.read_found.new.src) c.in-Err-read_found.stop) (sym (verdict_is c.args.limits.now x c.args.number _ place.1))
    (c.in-Err-read_found.ensures.told x place.0 place.2)
