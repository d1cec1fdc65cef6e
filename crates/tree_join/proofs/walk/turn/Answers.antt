use Rattle.std.proofs.Common.{length, subst, sym, arith}
use Rattle.comp_tree.specs.Forest.{value_at}
use Rattle.tree_join.specs.Moves.{IsSpent}
use Rattle.comp_tree.proofs.Exported.{before_other}
use Rattle.tree_join.proofs.walk.turn.Goals as goal
use Rattle.tree_join.proofs.Turns.{turn_met, turn_moved, walk_met, walk_moved, moves_moved, reads_moved}

pub returns-then-last-b-clause-moved : goal.returns-then-last-b-clause-moved
returns-then-last-b-clause-moved g c =
    turn_met c.args.rows.now.plane.now.values c.args.rows.now.first c.args.links.now.places.now c.climb-last.new.links.places.now c.args.a c.args.b
    c.climb-last.result
    c.climb-last.ensures.same_length c.climb-last.ensures.like.same c.climb-last.ensures.skip c.climb-last.ensures.walk.pair.late c.requires.walk.pair.other
    (omega (arith, c.climb-last.ensures.later, c.climb-last.ensures.cost)) c.if-last-b.true

pub hang-requires-clause-order : goal.hang-requires-clause-order
hang-requires-clause-order g c =
    before_other (value_at c.args.rows.now.plane.now.values c.climb-last.result)
    (value_at c.args.rows.now.plane.now.values c.args.b) c.climb-last.result c.args.b c.climb-last.ensures.skip.pixel.value c.requires.walk.pair.other.value
    c.if-last-b.false c.climb-last.ensures.walk.pair.late

pub returns-clause-moved : goal.returns-clause-moved
returns-clause-moved g c =
    turn_moved c.args.rows.now.plane.now.values c.args.rows.now.first c.args.links.now.places.now c.climb-last.new.links.places.now c.args.a c.args.b
    c.climb-last.result
    c.climb-last.ensures.same_length c.climb-last.ensures.like.same c.climb-last.ensures.skip c.climb-last.ensures.walk.pair.late c.requires.walk.pair.other
    (omega (arith, c.climb-last.ensures.later, c.climb-last.ensures.cost))
    c.hang.new.links.places.now c.hang.result c.hang.ensures.moved

pub returns-clause-cost : goal.returns-clause-cost
returns-clause-cost g c =
    subst (λ n. IsSpent c.args.rows.now.plane.now.values c.args.rows.now.first
    (length c.args.links.now.places.now) c.args.a c.args.b 1 c.args.moves.now n c.hang.result)
    (sym c.tick.ensures)
    (moves_moved c.args.rows.now.plane.now.values c.args.rows.now.first c.args.links.now.places.now
    c.climb-last.new.links.places.now c.args.a c.args.b c.climb-last.result
    c.climb-last.ensures.same_length c.climb-last.ensures.like.same c.climb-last.ensures.skip c.climb-last.ensures.walk.pair.late c.requires.walk.pair.other
    (omega (arith, c.climb-last.ensures.later, c.climb-last.ensures.cost))
    c.hang.new.links.places.now c.hang.result c.args.moves.now c.climb-last.new.moves c.hang.ensures.moved c.climb-last.ensures.cost)

pub returns-clause-reads : goal.returns-clause-reads
returns-clause-reads g c =
    subst (λ n. IsSpent c.args.rows.now.plane.now.values c.args.rows.now.first
    (length c.args.links.now.places.now) c.args.a c.args.b 4 c.args.reads.now n c.hang.result)
    (sym c.hang.ensures.read)
    (reads_moved c.args.rows.now.plane.now.values c.args.rows.now.first c.args.links.now.places.now
    c.climb-last.new.links.places.now c.args.a c.args.b c.climb-last.result
    c.climb-last.ensures.same_length c.climb-last.ensures.like.same c.climb-last.ensures.skip c.climb-last.ensures.walk.pair.late c.requires.walk.pair.other
    (omega (arith, c.climb-last.ensures.later, c.climb-last.ensures.cost))
    c.hang.new.links.places.now c.hang.result c.args.reads.now c.climb-last.new.reads c.hang.ensures.moved c.climb-last.ensures.reads)

pub returns-clause-walk : goal.returns-clause-walk
returns-clause-walk g c =
    walk_moved c.args.rows.now.plane.now.values c.args.rows.now.first c.climb-last.new.links.places.now c.hang.new.links.places.now c.climb-last.new.skips.places.now
    c.climb-last.result c.args.b
    c.hang.ensures.same_length c.climb-last.ensures.walk c.hang.ensures.forest c.hang.result c.hang.ensures.moved c.hang.ensures.pair

pub returns-then-last-b-clause-walk : goal.returns-then-last-b-clause-walk
returns-then-last-b-clause-walk g c =
    walk_met c.args.rows.now.plane.now.values c.args.rows.now.first c.climb-last.new.links.places.now c.climb-last.new.skips.places.now
    c.climb-last.result c.args.b
    c.if-last-b.true c.climb-last.ensures.walk
