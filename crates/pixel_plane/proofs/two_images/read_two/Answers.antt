use Rattle.pixel_plane.proofs.TwoHdus.{first_stopped}
use Rattle.pixel_plane.proofs.two_images.read_two.Goals as goal

pub returns-in-Err-clause-told : goal.returns-in-Err-clause-told
returns-in-Err-clause-told g c = λ x e. first_stopped c.args.limits.now x c.args.first c.args.second _ c.in-Err.stop c.requires (c.in-Err.ensures.told x e)
