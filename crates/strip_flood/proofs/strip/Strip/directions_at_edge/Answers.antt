use Rattle.std.proofs.Common.{◌≡◌, ◌%◌, ◌<◌, ◌≤◌, length, bit_and, bit_or, w32, sym, subst, arith, rules}
use Rattle.std.specs.Int.{bit_not}
use Rattle.std.proofs.lemmas.Bool.Decides.{nat_tests}
use Rattle.std.proofs.lemmas.Nat.{mod_below, or_of_32}
use Rattle.strip_flood.specs.Flood.{HasDirections}
use Rattle.strip_flood.proofs.Edges.{edge_directions}
use Rattle.strip_flood.proofs.strip.Strip.directions_at_edge.Goals as goal

pub returns : goal.returns
returns c =
    let count : c.count.result ≡ length c.args.self.now.ranks.items = c.count.ensures.all in
    let column : c.args.p % c.args.self.now.width < c.args.self.now.width = mod_below c.args.p c.args.self.now.width c.requires.strip.ranked.wide in
    let low : c.args.self.now.first ≤ c.args.p = c.requires.inside.low in
    subst (λ all. HasDirections c.args.self.now.connect c.args.self.now.width c.args.self.now.first (length c.args.self.now.ranks.items) c.args.p
    (bit_and all (bit_not w32
    (bit_or (bit_or (bit_or c.over_edge-above.result c.over_edge-left.result) c.over_edge-right.result) c.over_edge-below.result))))
    (sym c.all_directions.ensures)
    (edge_directions c.args.self.now.connect c.args.self.now.width c.args.self.now.first (length c.args.self.now.ranks.items) c.args.p
    c.requires.strip.ranked.wide c.requires.strip.starts c.requires.strip.ends c.requires.inside c.sides_of-sides.result.above
    c.sides_of-sides.result.left c.sides_of-sides.result.right c.sides_of-sides.result.below c.over_edge-above.result c.over_edge-left.result
    c.over_edge-right.result c.over_edge-below.result c.sides_of-sides.ensures
    (record {
      edge = λ t. c.over_edge-above.ensures.edge (grind (arith, nat_tests));
      inner = λ t. c.over_edge-above.ensures.inner (grind (arith, nat_tests));
    })
    (record {
      edge = λ t. c.over_edge-left.ensures.edge (grind (arith, nat_tests));
      inner = λ t. c.over_edge-left.ensures.inner (grind (arith, nat_tests));
    })
    (record {
      edge = λ t. c.over_edge-right.ensures.edge (grind (arith, nat_tests));
      inner = λ t. c.over_edge-right.ensures.inner (grind (arith, nat_tests));
    })
    (record {
      edge = λ t. c.over_edge-below.ensures.edge (grind (arith, nat_tests));
      inner = λ t. c.over_edge-below.ensures.inner (grind (arith, nat_tests));
    })
    (or_of_32 (bit_or (bit_or c.over_edge-above.result c.over_edge-left.result) c.over_edge-right.result) c.over_edge-below.result
    (or_of_32 (bit_or c.over_edge-above.result c.over_edge-left.result) c.over_edge-right.result
    (or_of_32 c.over_edge-above.result c.over_edge-left.result (search rules) (search rules)) (search rules)) (search rules)))
