use Rattle.std.proofs.Common.{rules, ◌≡◌, ap, ◌∙◌, arith, []}
use Rattle.strip_crew.specs.Counting.{fresh}
use Rattle.strip_crew.specs.Claims.{view, run_of}
use Rattle.strip_crew.specs.Workers.{IsRecruit}
use Rattle.strip_crew.proofs.Keeping.{splits_allowed}
use Rattle.strip_crew.proofs.Crews.{all_on, all_of, split_keeps, due_only}
use Rattle.strip_crew.proofs.crew.recruit.Goals as goal

pub split_seat-next-requires : goal.split_seat-next-requires
split_seat-next-requires c = let inv = c.loop.invariant in let test = c.loop-test.true in (
  inv.0,
  search rules,
  splits_allowed _ _ _ (ap (λ m. m.0.claim.joined) inv.1) (ap (λ m. m.0.claim.claimed) inv.1) (let due = inv.2 in omega arith),
)

pub loop-preserved : goal.loop-preserved
loop-preserved c =
    let inv = c.loop.invariant in let run = run_of c.args.table.now.shared.key in let split = c.split_seat-next.ensures in let push = c.push_reserved.ensures in
    let me = split_keeps run c.loop.seat.me c.split_seat-next.new.seat.me inv.1 split.2 in (
      split.0 ∙ inv.0,
      due_only run _ _ me,
      (let due = ap (λ m. m.0.claim.due) me in let old = inv.2 in let test = c.loop-test.true in omega arith),
      (let old = inv.3 in let len = push.len in omega arith),
      (let old = inv.4 in let cap = push.capacity in omega arith),
      all_of (IsRecruit c.args.table.now.shared.table_id run) _ _ push.items
          (all_on (IsRecruit c.args.table.now.shared.table_id run) _ _ inv.5
          (split.3 ∙ inv.0, split.4 ∙ ap (λ r. (view (fresh 1) r, [])) (ap (λ m. m.0.of) inv.1))),
    )

pub returns-clause-each : goal.returns-clause-each
returns-clause-each c =
    let inv = c.loop.invariant in let run = run_of c.args.table.now.shared.key in
    let one : c.loop.seat.me.0.claim.due ≡ 1 =
    (let old = inv.2 in let test = c.loop-test.false in let a = c.loop.auto.counter-end c.requires.workers in omega arith) in
    all_of (IsRecruit c.args.table.now.shared.table_id run) _ _ c.push_reserved-2.ensures.items
    (all_on (IsRecruit c.args.table.now.shared.table_id run) _ _ inv.5 (inv.0, inv.1 ∙ ap (λ k. (view (fresh k) run, [])) one))
