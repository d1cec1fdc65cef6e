use Rattle.std.proofs.Common.{sym, ◌<◌, ◌∙◌, ap, subst, get_or, List, Vec, Global, ◌+◌, length, arith}
use Rattle.std.proofs.lemmas.Option.{slice_get-get_or}
use Rattle.source_sheet.specs.declared.back.Taken.{Taken}
use Rattle.source_sheet.specs.Backs.{AreTaken, HaveOwnSums}
use Rattle.source_sheet.proofs.Taking.{none_taken, more_taken, same_taken, taken_up_to, none_own, more_own}
use Rattle.source_sheet.proofs.back.placed_sources.Goals.{in-Some+in_ok-push, in_default}
use Rattle.source_sheet.proofs.back.placed_sources.Goals as goal

pub bounds-sums-i : goal.bounds-sums-i
bounds-sums-i c = omega (arith, c.requires.one_each, c.loop-i-test.true)

pub taken_at-requires-clause-first : goal.taken_at-requires-clause-first
taken_at-requires-clause-first c =
    let within : c.loop-i.i < length c.args.sums.now = omega (arith, c.requires.one_each, c.loop-i-test.true) in
    c.requires.firsts c.loop-i.i _ (slice_get-get_or c.args.sums.now c.loop-i.i _ within)

pub loop-i-init : goal.loop-i-init
loop-i-init c = record {
  taken = λ all firsts.
      none_taken c.args.whole.width c.args.onto.width c.args.places.now c.args.owners.now all c.args.picked.now c.new-taken.result.items
      c.new-taken.ensures.items;
  own = none_own c.args.picked.now c.args.sums.now c.new-taken.result.items c.new-taken.ensures.items;
}

pub loop-i-preserved : goal.loop-i-preserved
loop-i-preserved c =
    let within : c.loop-i.i < length c.args.sums.now = omega (arith, c.requires.one_each, c.loop-i-test.true) in
    elim c.match-taken_at.branch [
      | in-Some+in_ok-push w ↦ record {
        taken = λ all firsts.
            subst (λ (xs : List Taken). AreTaken c.args.whole.width c.args.onto.width c.args.places.now c.args.owners.now all c.args.picked.now (c.loop-i.i + 1) xs)
            (sym (ap (λ (v : Vec Taken Global). v.items) w.taken-is ∙ w.in_ok-push.ensures.items))
            (more_taken c.args.whole.width c.args.onto.width c.args.places.now c.args.owners.now all c.args.picked.now c.loop-i.i _
            c.loop-i.taken.items (c.loop-i.invariant.taken all firsts) c.loop-i-test.true
            (w.in-Some.ensures.taken all (firsts.each c.loop-i.i (get_or c.args.picked.now c.loop-i.i 0) _
            (slice_get-get_or c.args.picked.now c.loop-i.i 0 c.loop-i-test.true) (slice_get-get_or c.args.sums.now c.loop-i.i _ within))));
        own =
            subst (HaveOwnSums c.args.picked.now c.args.sums.now) (sym (ap (λ (v : Vec Taken Global). v.items) w.taken-is ∙ w.in_ok-push.ensures.items))
            (more_own c.args.picked.now c.args.sums.now c.loop-i.i _ _ _ c.loop-i.taken.items c.loop-i.invariant.own
            (slice_get-get_or c.args.picked.now c.loop-i.i 0 c.loop-i-test.true) (slice_get-get_or c.args.sums.now c.loop-i.i _ within)
            w.in-Some.ensures.own.0 w.in-Some.ensures.own.1);
      }
      | in_default w ↦ record {
        taken = λ all firsts.
            subst (λ (xs : List Taken). AreTaken c.args.whole.width c.args.onto.width c.args.places.now c.args.owners.now all c.args.picked.now (c.loop-i.i + 1) xs)
            (sym (ap (λ (v : Vec Taken Global). v.items) w.taken-is))
            (same_taken c.args.whole.width c.args.onto.width c.args.places.now c.args.owners.now all c.args.picked.now c.loop-i.i
            c.loop-i.taken.items (c.loop-i.invariant.taken all firsts) c.loop-i-test.true
            (w.in_default.ensures.taken all (firsts.each c.loop-i.i (get_or c.args.picked.now c.loop-i.i 0) _
            (slice_get-get_or c.args.picked.now c.loop-i.i 0 c.loop-i-test.true) (slice_get-get_or c.args.sums.now c.loop-i.i _ within))));
        own =
            subst (HaveOwnSums c.args.picked.now c.args.sums.now) (sym (ap (λ (v : Vec Taken Global). v.items) w.taken-is)) c.loop-i.invariant.own;
      }
    ]

pub returns-clause-taken : goal.returns-clause-taken
returns-clause-taken c = λ all firsts.
    taken_up_to c.args.whole.width c.args.onto.width c.args.places.now c.args.owners.now all c.args.picked.now _ c.loop-i.i
    c.loop-i.taken.items (c.loop-i.invariant.taken all firsts) (omega (arith, c.loop-i-test.false, c.loop-i.auto.i-end))
