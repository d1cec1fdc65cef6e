use Rattle.std.proofs.Common.{sym, subst}
use Rattle.pixel_plane.specs.Images.{checked}
use Rattle.pixel_plane.specs.Verdicts.{verdict_on_hdu}
use Rattle.pixel_plane.specs.Streams.{ImageStopped}
use Rattle.pixel_plane.proofs.Images.{unreadable_told, plane_told, plane_stopped_told}
use Rattle.pixel_plane.proofs.image.read_found.Goals as goal

pub returns-in-Err-clause-told : goal.returns-in-Err-clause-told
returns-in-Err-clause-told g c = λ bytes head at. unreadable_told c.args.limits.now bytes c.args.hdu.now head _ c.in-Err.fault (sym c.in-Err.ensures) at

pub returns-in-Ok-read_plane_within-clause-told : goal.returns-in-Ok-read_plane_within-clause-told
returns-in-Ok-read_plane_within-clause-told g c = λ bytes head at.
    plane_told c.args.limits.now bytes c.args.hdu.now head (g.S.Source.left c.args.src.now) _ c.in-Ok.shape c.in-Ok-read_plane_within.plane (sym c.in-Ok.ensures) at
    (c.in-Ok-read_plane_within.ensures.told _ at.rest)

pub returns-in-Err-read_plane_within-clause-told : goal.returns-in-Err-read_plane_within-clause-told
returns-in-Err-read_plane_within-clause-told g c = λ bytes head at.
    subst (ImageStopped (verdict_on_hdu c.args.limits.now bytes c.args.hdu.now head (checked c.args.limits.now c.args.hdu.now)) bytes _) (sym c.at_plane.ensures)
    (plane_stopped_told c.args.limits.now bytes c.args.hdu.now head (g.S.Source.left c.args.src.now) _ c.in-Ok.shape c.in-Err-read_plane_within.stop (sym c.in-Ok.ensures) at
    (c.in-Err-read_plane_within.ensures.told _ at.rest))
