use Rattle.std.proofs.Common.{subst, sym}
use Rattle.pixel_plane.specs.Verdicts.{verdict_on}
use Rattle.pixel_plane.specs.Streams.{ImageStopped}
use Rattle.pixel_plane.proofs.Images.{image_told, search_stopped}
use Rattle.pixel_plane.proofs.image.read_image.Goals as goal

pub returns-in-Err-clause-told : goal.returns-in-Err-clause-told
returns-in-Err-clause-told g c = λ x e.
    subst (ImageStopped (verdict_on c.args.limits.now x c.args.number) x _) (sym c.at_hdu.ensures) (search_stopped c.args.limits.now x c.args.number _ _ (c.in-Err.ensures.told x e))

pub returns-clause-told : goal.returns-clause-told
returns-clause-told g c = λ x e.
    let found = c.in-Ok.ensures.told x e in
    image_told c.args.limits.now x c.args.number c.in-Ok.hdu found.0 _ _ found.1 (c.read_found.ensures.told x found.0 found.2)
