use Rattle.std.proofs.Common.{◌∙◌}
use Rattle.tile_join.proofs.Cores.{cores_apart, cores_covering}
use Rattle.tile_join.proofs.joining.marked_fault.Goals as goal

pub returns-in-None : goal.returns-in-None
returns-in-None c = (
  cores_apart c.args.whole c.args.tiles.now c.first_overlap.new.marks c.in_default.ensures,
  cores_covering c.args.whole c.args.tiles.now c.first_overlap.new.marks c.in_default.ensures (c.first_overlap.auto.marks ∙ c.requires.one_each)
      c.in-None.ensures,
)
