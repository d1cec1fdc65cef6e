use Rattle.std.proofs.Common.{length, sym, subst}
use Rattle.strip_flood.specs.Flood.{HasDirections}
use Rattle.strip_flood.proofs.Edges.{inner_directions}
use Rattle.strip_flood.proofs.strip.Strip.directions_inside.Goals as goal

pub returns-then-is_interior : goal.returns-then-is_interior
returns-then-is_interior c = subst (HasDirections c.args.self.now.connect c.args.self.now.width c.args.self.now.first
    (length c.args.self.now.ranks.items) c.args.p) (sym c.all_directions.ensures)
    (inner_directions c.args.self.now.connect c.args.self.now.width c.args.self.now.first (length c.args.self.now.ranks.items) c.args.p
    c.requires.strip.ranked.wide c.requires.strip.starts c.requires.strip.ends c.requires.inside (c.is_interior.ensures c.if-is_interior.true))
