use Rattle.std.proofs.Common.{ℕ, ◌≡◌, ◌≤◌, ◌+◌, ◌∙◌, sym, ap, arith, Vec, Global}
use Rattle.tree_canon.specs.Canonical.{canonical_between}
use Rattle.tree_canon.proofs.Finding.{between-first, between-yes, between-no, between-gap}
use Rattle.tree_canon.proofs.bands.find_between.Goals.{then-is_canonical+in_ok-push, else-is_canonical}
use Rattle.tree_canon.proofs.bands.find_between.Goals as goal

pub loop-p-init : goal.loop-p-init
loop-p-init c = record {
  found = between-gap c.args.plane.now c.args.links.now c.args.first c.args.first c.next_defined-p.result c.new-found.result.items (omega arith)
      c.next_defined-p.ensures.low c.next_defined-p.ensures.gap
      (between-first c.args.plane.now c.args.links.now c.args.first c.new-found.result.items c.new-found.ensures.items);
  behind = c.next_defined-p.ensures.low;
  within = c.next_defined-p.ensures.high;
}

pub loop-p-preserved : goal.loop-p-preserved
loop-p-preserved c = record {
  found = between-gap c.args.plane.now c.args.links.now c.args.first (c.loop-p.p + 1) c.next_defined-p-in-loop-p.result c.if-is_canonical.found.items
      (omega (arith, c.loop-p.invariant.behind)) c.next_defined-p-in-loop-p.ensures.low c.next_defined-p-in-loop-p.ensures.gap next;
  behind = omega (arith, c.loop-p.invariant.behind, c.next_defined-p-in-loop-p.ensures.low);
  within = c.next_defined-p-in-loop-p.ensures.high;
}
  where
    next : c.if-is_canonical.found.items ≡ canonical_between c.args.plane.now c.args.links.now c.args.first (c.loop-p.p + 1)
    next =
        let r = c.args.plane.now in let links = c.args.links.now in let found = c.loop-p.found.items in
        let behind : c.args.first ≤ c.loop-p.p = c.loop-p.invariant.behind in
        elim c.if-is_canonical.branch [
          | then-is_canonical+in_ok-push w ↦
              ap (λ (v : Vec ℕ Global). v.items) w.found-is ∙ w.in_ok-push.ensures.items
              ∙ between-yes r links c.args.first c.loop-p.p found behind c.loop-p.invariant.found (sym c.is_canonical.ensures ∙ w.if-is_canonical.true)
          | else-is_canonical w ↦
              ap (λ (v : Vec ℕ Global). v.items) w.found-is
              ∙ between-no r links c.args.first c.loop-p.p found behind c.loop-p.invariant.found (sym c.is_canonical.ensures ∙ w.if-is_canonical.false)
        ]

pub returns : goal.returns
returns c =
    let end : c.loop-p.p ≡ c.args.end = omega (arith, c.loop-p.invariant.within, c.loop-p-test.false) in
    c.loop-p.invariant.found ∙ ap (canonical_between c.args.plane.now c.args.links.now c.args.first) end
