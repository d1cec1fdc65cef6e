use Rattle.std.proofs.Common.{◌∙◌, ◌-◌, length, set, sym, subst, arith}
use Rattle.tree_join.specs.Moves.{IsMoved}
use Rattle.tree_join.specs.Walks.{IsLaterPair}
use Rattle.tree_join.proofs.walk.hang.Goals as goal
use Rattle.tree_join.proofs.Moves.{ended, moved_down, rest_pair, last_is}

pub returns-then-link-clause-moved : goal.returns-then-link-clause-moved
returns-then-link-clause-moved g c = rw c.write.ensures.places
    (ended c.args.rows.now.plane.now.values c.args.rows.now.first c.args.links.now.places.now c.requires.links.forest
    (omega (arith, c.requires.links.inside, c.requires.links.small)) c.args.a c.args.b c.requires.pair.one c.requires.pair.other c.requires.order
    (sym c.read-link.ensures.link ∙ c.if-link.true))

pub returns-clause-moved : goal.returns-clause-moved
returns-clause-moved g c =
    rw c.write.ensures.places
    (subst (λ y. IsMoved c.args.rows.now.plane.now.values c.args.rows.now.first c.args.links.now.places.now
    (set c.args.links.now.places.now (c.args.a - c.args.rows.now.first) c.args.b) c.args.a c.args.b
    (c.args.b, y)) (sym c.read-link.ensures.link)
    (moved_down c.args.rows.now.plane.now.values c.args.rows.now.first c.args.links.now.places.now c.requires.links.forest
    (omega (arith, c.requires.links.inside, c.requires.links.small)) c.args.a c.args.b c.requires.pair.one c.requires.pair.other c.requires.order
    (λ e. c.if-link.false (c.read-link.ensures.link ∙ e))
    (last_is c.args.rows.now.plane.now.values c.args.rows.now.first c.args.links.now.places.now c.requires.links.forest
    (omega (arith, c.requires.links.inside, c.requires.links.small)) c.args.a c.args.b c.requires.pair.one c.requires.pair.other
    c.requires.order c.requires.last
    (λ e. c.if-link.false (c.read-link.ensures.link ∙ e)))))

pub returns-clause-pair : goal.returns-clause-pair
returns-clause-pair g c =
    subst (λ y. IsLaterPair c.args.rows.now.plane.now.values c.args.rows.now.first (length c.args.links.now.places.now) c.args.b y)
    (sym c.read-link.ensures.link)
    (rest_pair c.args.rows.now.plane.now.values c.args.rows.now.first c.args.links.now.places.now c.requires.links.forest
    (omega (arith, c.requires.links.inside, c.requires.links.small)) c.args.a c.args.b c.requires.pair.one c.requires.pair.other c.requires.order
    (λ e. c.if-link.false (c.read-link.ensures.link ∙ e))
    (last_is c.args.rows.now.plane.now.values c.args.rows.now.first c.args.links.now.places.now c.requires.links.forest
    (omega (arith, c.requires.links.inside, c.requires.links.small)) c.args.a c.args.b c.requires.pair.one c.requires.pair.other
    c.requires.order c.requires.last
    (λ e. c.if-link.false (c.read-link.ensures.link ∙ e))))
