use Rattle.std.proofs.Common.{◌≡◌, ◌∙◌, sym, Ok}
use Rattle.command_line.specs.Lines.{texts}
use Rattle.tile_words.specs.TileWords.{tile_order_of}
use Rattle.tile_top.proofs.tiling.end_of_tile.Goals as goal

pub returns-in-Ok-clause-bytes : goal.returns-in-Ok-clause-bytes
returns-in-Ok-clause-bytes g c =
    let is : tile_order_of c.args.limits.now.pixels (texts c.args.words.now) ≡ Ok c.in-Ok.order = sym c.read_tile_order.ensures.order ∙ c.in-Ok.is in
    rw is c.carry_out.ensures.bytes
