use Rattle.std.proofs.Common.{◌≡◌, ◌+◌, ◌-◌, ◌*◌, ◌/◌, ◌%◌, ◌≤◌, length, slice_index, arith}
use Rattle.strip_flood.specs.Flood.{cell}
use Rattle.strip_flood.proofs.Directions.{cell_found}
use Rattle.strip_flood.proofs.strip.Strip.neighbour.Goals as goal

pub returns : goal.returns
returns c =
    let offset : slice_index c.args.self.now.offsets c.args.k
    ≡ cell c.args.self.now.connect c.args.k / 3 * c.args.self.now.width + cell c.args.self.now.connect c.args.k % 3 =
    c.requires.strip.offsets.offset c.args.k c.requires.direction in
    let up : c.args.self.now.first + c.args.self.now.width + 1
    ≤ c.args.p + cell c.args.self.now.connect c.args.k / 3 * c.args.self.now.width + cell c.args.self.now.connect c.args.k % 3 = c.requires.there.up in
    let corner : c.args.corner ≡ c.args.self.now.width + 1 = c.requires.corner in
    cell_found c.args.self.now.connect c.args.self.now.width c.args.self.now.first (length c.args.self.now.ranks.items) c.args.p c.args.k
    (c.args.p + slice_index c.args.self.now.offsets c.args.k - c.args.corner)
    c.requires.strip.ranked.wide c.requires.direction c.requires.there (omega arith)
