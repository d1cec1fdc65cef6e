use Rattle.std.proofs.Common.{rules, w64, to_z, of_z, sym, ap, ◌∙◌, arith, ◌+◌, ◌-◌, ◌<◌, ◌≤◌, length, length-set, get_or-set_same}
use Rattle.std.proofs.lemmas.Int.{to_z-of_z}
use mir.Val.{SFits}
use Rattle.comp_tree.specs.Forest.{no_node, LiesInStretch, link_of}
use Rattle.tree_join.proofs.walk.link_past.Goals as goal
use Rattle.tree_join.proofs.Shorter.{past_forest, past_same, past_earlier, high_read, link_told, link_leads}
use Rattle.tree_join.proofs.Climbing.{own_skip, past_skip}

pub returns-clause-like : goal.returns-clause-like
returns-clause-like g c =
    let fits : SFits w64 c.level.result = search rules in
    let small : c.args.rows.now.first + length c.args.links.now.places.now ≤ no_node = omega (arith, c.requires.links.inside, c.requires.links.small) in
    rw c.write.ensures.places (record {
      forest =
          past_forest c.args.rows.now.plane.now.values c.args.rows.now.first c.args.links.now.places.now c.requires.links.forest small c.args.p _ _
          c.requires.p_in
          (sym c.read-link.ensures.link) c.if-link.false (sym c.read-next.ensures.link) c.if-next.false;
      same =
          past_same c.args.rows.now.plane.now.values c.args.rows.now.first c.args.links.now.places.now c.requires.links.forest small c.args.p _ _
          c.requires.p_in
          (sym c.read-link.ensures.link) c.if-link.false (sym c.read-next.ensures.link) c.if-next.false
          (high_read c.args.rows.now.plane.now _ (to_z w64 (of_z w64 c.level.result)) _ (to_z-of_z w64 c.level.result fits ∙ c.level.ensures)
          (sym c.is_at_least.ensures ∙ c.if-not-is_at_least.false));
    })

pub returns-clause-earlier : goal.returns-clause-earlier
returns-clause-earlier g c = past_earlier c.args.rows.now.plane.now.values c.args.rows.now.first c.args.links.now.places.now c.requires.links.forest
    (omega (arith, c.requires.links.inside, c.requires.links.small)) c.args.p _ _ c.requires.p_in (sym c.read-link.ensures.link) c.if-link.false
    (sym c.read-next.ensures.link) c.if-next.false

pub returns-then-next-clause-skip : goal.returns-then-next-clause-skip
returns-then-next-clause-skip g c = own_skip c.args.rows.now.plane.now.values c.args.rows.now.first c.args.links.now.places.now c.requires.links.forest
    (omega (arith, c.requires.links.inside, c.requires.links.small)) c.args.p _ c.requires.p_in (sym c.read-link.ensures.link) c.if-link.false

pub returns-clause-skip : goal.returns-clause-skip
returns-clause-skip g c = past_skip c.args.rows.now.plane.now.values c.args.rows.now.first c.args.links.now.places.now c.requires.links.forest
    (omega (arith, c.requires.links.inside, c.requires.links.small)) c.args.p _ c.requires.p_in (sym c.read-link.ensures.link) c.if-link.false _
    (sym c.read-next.ensures.link) c.if-next.false

pub overflow_sub-link : goal.overflow_sub-link
overflow_sub-link g c =
    let within : LiesInStretch c.args.rows.now.first (length c.args.links.now.places.now) c.read-link.result =
    (link_leads c.args.rows.now.plane.now.values c.args.rows.now.first c.args.links.now.places.now c.requires.links.forest c.args.p
    c.read-link.result c.requires.p_in.within (sym c.read-link.ensures.link) c.if-link.false).0 in
    within.low

pub read-next-requires : goal.read-next-requires
read-next-requires g c =
    let within : LiesInStretch c.args.rows.now.first (length c.args.links.now.places.now) c.read-link.result =
    (link_leads c.args.rows.now.plane.now.values c.args.rows.now.first c.args.links.now.places.now c.requires.links.forest c.args.p
    c.read-link.result c.requires.p_in.within (sym c.read-link.ensures.link) c.if-link.false).0 in
    let low : c.args.rows.now.first ≤ c.read-link.result = within.low in
    let high : c.read-link.result < c.args.rows.now.first + length c.args.links.now.places.now = within.high in
    omega (arith, low, high)

pub level-requires : goal.level-requires
level-requires g c =
    let within : LiesInStretch c.args.rows.now.first (length c.args.links.now.places.now) c.read-link.result =
    (link_leads c.args.rows.now.plane.now.values c.args.rows.now.first c.args.links.now.places.now c.requires.links.forest c.args.p
    c.read-link.result c.requires.p_in.within (sym c.read-link.ensures.link) c.if-link.false).0 in
    let high : c.read-link.result < c.args.rows.now.first + length c.args.links.now.places.now = within.high in
    omega (arith, high, c.requires.links.inside)

pub is_at_least-requires : goal.is_at_least-requires
is_at_least-requires g c =
    let within : LiesInStretch c.args.rows.now.first (length c.args.links.now.places.now) c.read-link.result =
    (link_leads c.args.rows.now.plane.now.values c.args.rows.now.first c.args.links.now.places.now c.requires.links.forest c.args.p
    c.read-link.result c.requires.p_in.within (sym c.read-link.ensures.link) c.if-link.false).0 in
    let next : LiesInStretch c.args.rows.now.first (length c.args.links.now.places.now) c.read-next.result =
    (link_leads c.args.rows.now.plane.now.values c.args.rows.now.first c.args.links.now.places.now c.requires.links.forest c.read-link.result
    c.read-next.result within (sym c.read-next.ensures.link) c.if-next.false).0 in
    let high : c.read-next.result < c.args.rows.now.first + length c.args.links.now.places.now = next.high in
    omega (arith, high, c.requires.links.inside)

pub returns-then-link-clause-link : goal.returns-then-link-clause-link
returns-then-link-clause-link g c =
    link_told c.args.rows.now.plane.now.values c.args.rows.now.first c.args.links.now.places.now c.requires.links.forest c.args.p
    c.read-link.result c.requires.p_in.within (sym c.read-link.ensures.link) ∙ c.if-link.true

pub returns-then-next-clause-link : goal.returns-then-next-clause-link
returns-then-next-clause-link g c =
    link_told c.args.rows.now.plane.now.values c.args.rows.now.first c.args.links.now.places.now c.requires.links.forest c.args.p
    c.read-link.result c.requires.p_in.within (sym c.read-link.ensures.link)

pub returns-then-next-clause-earlier : goal.returns-then-next-clause-earlier
returns-then-next-clause-earlier g c =
    (link_leads c.args.rows.now.plane.now.values c.args.rows.now.first c.args.links.now.places.now c.requires.links.forest c.args.p
    c.read-link.result c.requires.p_in.within (sym c.read-link.ensures.link) c.if-link.false).1

pub returns-clause-link : goal.returns-clause-link
returns-clause-link g c =
    let low : c.args.rows.now.first ≤ c.args.p = c.requires.p_in.within.low in
    let high : c.args.p < c.args.rows.now.first + length c.args.links.now.places.now = c.requires.p_in.within.high in
    ap (λ l. link_of c.args.rows.now.first l c.args.p) c.write.ensures.places
    ∙ get_or-set_same c.args.links.now.places.now (c.args.p - c.args.rows.now.first) c.read-next.result no_node (omega (arith, low, high))

pub returns-clause-same_length : goal.returns-clause-same_length
returns-clause-same_length g c = ap (λ l. length l) c.write.ensures.places ∙ length-set _ _ _
