use Rattle.std.proofs.Common.{◌≡◌, ◌∙◌, ◌+◌, ◌<◌, length, get_or, set, sym, ap, subst, arith}
use Rattle.std.proofs.lemmas.List.{get_or_default}
use Rattle.comp_tree.specs.Forest.{no_node, link_of}
use Rattle.tree_canon.specs.Canonical.{node_number_at}
use Rattle.tree_canon.proofs.Finding.{read_link}
use Rattle.tree_canon.proofs.Numbering.{IsFollowedTo, followed_none, followed_more, followed_same, followed_over, followed_all}
use Rattle.tree_canon.proofs.numbers.number_others.Goals.{then-numbers-p, else-numbers-p}
use Rattle.tree_canon.proofs.numbers.number_others.Goals as goal

pub loop-p-init : goal.loop-p-init
loop-p-init c = record {
  followed = followed_over c.args.plane.now c.args.links.now c.args.numbers.now c.args.numbers.now 0 c.next_defined-p.result c.requires.forest
      c.requires.few c.requires.one_each c.next_defined-p.ensures.low
      (omega (arith, c.next_defined-p.ensures.high, c.pixels-count.ensures.product, c.shape.ensures.pixels, c.requires.link_each))
      c.next_defined-p.ensures.gap (followed_none c.args.links.now c.args.numbers.now);
  within = c.next_defined-p.ensures.high;
}

pub loop-p-preserved : goal.loop-p-preserved
loop-p-preserved c = record {
  followed = followed_over c.args.plane.now c.args.links.now c.args.numbers.now c.if-numbers-p.numbers (c.loop-p.p + 1) c.next_pixel-p.result
      c.requires.forest c.requires.few c.requires.one_each c.next_pixel-p.ensures.low
      (omega (arith, c.next_pixel-p.ensures.high, c.pixels-count.ensures.product, c.shape.ensures.pixels, c.requires.link_each))
      c.next_pixel-p.ensures.gap next;
  within = c.next_pixel-p.ensures.high;
}
  where
    next : IsFollowedTo c.args.links.now c.args.numbers.now c.if-numbers-p.numbers (c.loop-p.p + 1)
    next =
        let links = c.args.links.now in let old = c.args.numbers.now in let new = c.loop-p.numbers in let p = c.loop-p.p in
        let inside : p < length links =
        omega (arith, c.loop-p-test.true, c.pixels-count.ensures.product, c.shape.ensures.pixels, c.requires.link_each) in
        let read : get_or new p 0 ≡ node_number_at new p =
        get_or_default new p 0 no_node (omega (arith, inside, c.requires.one_each, c.loop-p.auto.numbers)) in
        elim c.if-numbers-p.branch [
          | then-numbers-p w ↦
              let number : w.node_number_at-number.result ≡ node_number_at new (link_of 0 links p) =
              w.node_number_at-number.ensures ∙ ap (node_number_at new) (read_link links p inside) in
              subst (λ xs. IsFollowedTo links old xs (p + 1)) (sym (w.numbers-is ∙ ap (set new p) number))
              (followed_more links old new p c.requires.back c.requires.few c.requires.one_each inside c.loop-p.invariant.followed
              (sym read ∙ w.if-numbers-p.true))
          | else-numbers-p w ↦
              subst (λ xs. IsFollowedTo links old xs (p + 1)) (sym w.numbers-is)
              (followed_same links old new p c.requires.back c.requires.few c.requires.one_each inside c.loop-p.invariant.followed
              (λ e. w.if-numbers-p.false (read ∙ e)))
        ]

pub returns : goal.returns
returns c =
    followed_all c.args.links.now c.args.numbers.now c.loop-p.numbers c.requires.few c.requires.one_each
    (subst (IsFollowedTo c.args.links.now c.args.numbers.now c.loop-p.numbers)
    (let e : c.loop-p.p ≡ length c.args.links.now =
    omega (arith, c.loop-p.invariant.within, c.loop-p-test.false, c.pixels-count.ensures.product, c.shape.ensures.pixels, c.requires.link_each) in e)
    c.loop-p.invariant.followed)
