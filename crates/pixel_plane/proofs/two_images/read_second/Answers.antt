use Rattle.std.proofs.Common.{subst, sym}
use Rattle.pixel_plane.specs.TwoImages.{verdict_on_two}
use Rattle.pixel_plane.specs.TwoReads.{TwoStopped}
use Rattle.pixel_plane.proofs.TwoHdus.{second_stopped, second_read}
use Rattle.pixel_plane.proofs.two_images.read_second.Goals as goal

pub returns-in-Err-clause-told : goal.returns-in-Err-clause-told
returns-in-Err-clause-told g c = λ bytes read.
    subst (λ stop. TwoStopped (verdict_on_two c.args.limits.now bytes c.args.at c.args.number) bytes (g.S.Source.left c.find_after.new.src) stop) (sym c.at_hdu.ensures)
    (second_stopped c.args.limits.now bytes c.args.at c.args.number (g.S.Source.left c.args.src.now) _ c.args.first c.in-Err.stop c.requires c.in-Err.ensures.told read)

pub returns-clause-told : goal.returns-clause-told
returns-clause-told g c = λ bytes read.
    second_read c.args.limits.now bytes c.args.at c.args.number (g.S.Source.left c.args.src.now) _ (g.S.Source.left c.read_beside.new.src) c.args.first c.in-Ok.hdu
    c.read_beside.result c.requires
    c.in-Ok.ensures.told c.read_beside.ensures.told read
