use Rattle.std.proofs.Common.{◌≡◌, refl, subst, length}
use Rattle.std.specs.Io.KnownBytes.{Appends}
use Rattle.dev_io.specs.Streams.{AppendsPrefix}
use Rattle.fits_write.proofs.Pieces.{with_copies, none_wait_behind, all_put}
use Rattle.fits_write.proofs.blocks.Blocks.fill.Goals as goal

pub returns-in-Err-clause-bytes : goal.returns-in-Err-clause-bytes
returns-in-Err-clause-bytes g c =
    subst (AppendsPrefix _ _) (with_copies _ c.self.inside.len c.args.byte c.args.self.now c.self.inside.block refl c.self.invariant.1 c.self.invariant.0
    c.self.view_is) c.in-Err.ensures.err

pub returns-clause-bytes : goal.returns-clause-bytes
returns-clause-bytes g c =
    let empty : length c.add.new.self ≡ 0 =
    none_wait_behind _ c.self.inside.len c.args.byte _ c.self.inside.block refl c.self.invariant.1 c.self.invariant.0 c.in_default.ensures.whole in
    subst (Appends _ _) (with_copies _ c.self.inside.len c.args.byte c.args.self.now c.self.inside.block refl c.self.invariant.1 c.self.invariant.0
    c.self.view_is)
    (all_put _ _ _ _ c.in_default.ensures.ok empty)
