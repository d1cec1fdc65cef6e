use Rattle.std.proofs.Common.{refl}
use Rattle.std.specs.Prelude.{slice_index_or}
use Rattle.std.proofs.lemmas.Option.{slice_get-get_or}
use Rattle.join_top.proofs.making.whole_of.Goals as goal

pub returns : goal.returns
returns c = record {
  first = slice_index_or c.args.tiles.now 0 c.index-tiles-0.result;
  at = slice_get-get_or c.args.tiles.now 0 c.index-tiles-0.result c.requires.some;
  whole_is = refl;
}
