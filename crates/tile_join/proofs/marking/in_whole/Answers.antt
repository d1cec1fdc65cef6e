use Rattle.std.proofs.Common.{refl}
use Rattle.comp_tree.specs.Windows.{in_whole}
use Rattle.comp_tree.proofs.Exported.{in_whole-below}
use Rattle.tile_join.specs.Tiles.{window_of}
use Rattle.tile_join.proofs.marking.in_whole.Goals as goal

pub returns-clause-place : goal.returns-clause-place
unfolding in_whole
returns-clause-place c = refl

pub returns-clause-within : goal.returns-clause-within
unfolding in_whole
returns-clause-within c = in_whole-below c.args.whole (window_of c.args.frame.now) c.args.q c.requires.inside c.requires.below
