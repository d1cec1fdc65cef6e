use Rattle.std.proofs.Common.{length}
use Rattle.mesh_background.proofs.Exported.{half_range-given}
use Rattle.tile_make.proofs.making.searched_near.Goals as goal

pub residual_with-requires-clause-given : goal.residual_with-requires-clause-given
residual_with-requires-clause-given g c = λ κs within. half_range-given (length c.args.image.values) c.args.empty c.requires.number
