use Rattle.std.proofs.Common.{◌≡◌, ◌∙◌, ◌+◌, ◌<◌, ℕ, List, sym, ap, subst, refl, arith, length}
use Rattle.std.specs.Prelude.{slice_index}
use Rattle.node_sums.specs.DisjointNodes.{AreNumbered}
use Rattle.node_sums.proofs.Reading.{some_parent_smaller}
use Rattle.node_sums.proofs.Marks.{numbered_none, numbered_child, numbered_marked, numbered_root, numbered_up_to, untouched, untouched_yet}
use Rattle.node_sums.proofs.numbering.pass_down.Goals.{then-numbers-n-eq0+then-parent, else-numbers-n-eq0}
use Rattle.node_sums.proofs.numbering.pass_down.Goals.{else-numbers-n-eq0-via-then-numbers-n-eq0+else-parent, else-numbers-n-eq0-via-else-numbers-n-eq0}
use Rattle.node_sums.proofs.numbering.pass_down.Goals as goal

pub loop-n-init : goal.loop-n-init
loop-n-init c = record { done = λ marked d m. numbered_none c.args.tree.now marked c.args.numbers.now c.requires; rest = λ m l. refl }

pub bounds-numbers-parent : goal.bounds-numbers-parent
bounds-numbers-parent c =
    let smaller = some_parent_smaller c.parent-parent.result c.loop-n.n c.parent-parent.ensures.smaller c.if-parent.true in
    omega (arith, smaller, c.loop-n-test.true, c.node_count-n-end.ensures.all, c.loop-n.auto.numbers, c.requires)

pub loop-n-preserved : goal.loop-n-preserved
loop-n-preserved c =
    let inside : c.loop-n.n < length c.args.tree.now.rows = omega (arith, c.loop-n-test.true, c.node_count-n-end.ensures.all) in
    let still : slice_index c.loop-n.numbers c.loop-n.n ≡ slice_index c.args.numbers.now c.loop-n.n = c.loop-n.invariant.rest c.loop-n.n (omega arith) in
    elim c.if-numbers-n-eq0.branch [
      | then-numbers-n-eq0+then-parent w ↦ record {
        done = λ marked d known. subst (λ (xs : List ℕ). AreNumbered c.args.tree.now marked (c.loop-n.n + 1) xs) (sym w.numbers-is)
            (numbered_child c.args.tree.now marked c.args.numbers.now c.loop-n.numbers c.loop-n.n _ _ d known (c.loop-n.invariant.done marked d known) inside
            (sym still ∙ w.if-numbers-n-eq0.true) (sym c.parent-parent.ensures.same)
            (some_parent_smaller c.parent-parent.result c.loop-n.n c.parent-parent.ensures.smaller w.if-parent.true) refl);
        rest = λ m l. ap (λ (xs : List ℕ). slice_index xs m) w.numbers-is
            ∙ untouched c.args.numbers.now c.loop-n.numbers c.loop-n.n _ c.loop-n.invariant.rest m l;
      }
      | else-numbers-n-eq0 w ↦ record {
        done = λ marked d known. subst (λ (xs : List ℕ). AreNumbered c.args.tree.now marked (c.loop-n.n + 1) xs) (sym w.numbers-is)
            (elim w.else-numbers-n-eq0.branch [
              | else-numbers-n-eq0-via-then-numbers-n-eq0+else-parent v ↦
                  numbered_root c.args.tree.now marked c.args.numbers.now c.loop-n.numbers c.loop-n.n _ d known (c.loop-n.invariant.done marked d known) inside
                  still v.if-numbers-n-eq0.true (sym c.parent-parent.ensures.same) v.if-parent.false
              | else-numbers-n-eq0-via-else-numbers-n-eq0 v ↦
                  numbered_marked c.args.tree.now marked c.args.numbers.now c.loop-n.numbers c.loop-n.n d known (c.loop-n.invariant.done marked d known) inside
                  still v.if-numbers-n-eq0.false
            ]);
        rest = λ m l. ap (λ (xs : List ℕ). slice_index xs m) w.numbers-is
            ∙ untouched_yet c.args.numbers.now c.loop-n.numbers c.loop-n.n c.loop-n.invariant.rest m l;
      }
    ]

pub returns : goal.returns
returns c = λ marked d known.
    numbered_up_to c.args.tree.now marked c.loop-n.numbers _ c.loop-n.n (c.loop-n.invariant.done marked d known)
    (omega (arith, c.loop-n-test.false, c.node_count-n-end.ensures.all))
