use Rattle.std.proofs.Common.{rules, ap, ◌∙◌, sym, refl, subst, arith}
use Rattle.strip_crew.specs.Claims.{run_of}
use Rattle.strip_crew.specs.Workers.{IsVeteran}
use Rattle.strip_crew.proofs.Keeping.{joins_allowed}
use Rattle.strip_crew.proofs.Crews.{all_front, all_last, all_of}
use Rattle.strip_crew.proofs.crew.dismiss.Goals as goal

pub join_seat-requires : goal.join_seat-requires
join_seat-requires c =
    let inv = c.loop-place.invariant in let run = run_of c.args.table.now.shared.key in let P = IsVeteran c.args.table.now.shared.table_id run in
    let vet = subst P c.in_ok-seat.was (all_last P _ _ (all_of P _ _ (sym c.in-Some.ensures.items) inv.2)) in (
      inv.0.0,
      vet.0,
      ap (λ m. m.1) vet.1,
      search rules,
      joins_allowed _ _ _ _ _ inv.0.2 (ap (λ m. m.0.claim.joined) vet.1) inv.0.3 (ap (λ m. m.0.claim.hand) vet.1),
    )

pub loop-place-preserved : goal.loop-place-preserved
loop-place-preserved c =
    let inv = c.loop-place.invariant in let run = run_of c.args.table.now.shared.key in let P = IsVeteran c.args.table.now.shared.table_id run in
    let each = all_of P _ _ (sym c.in-Some.ensures.items) inv.2 in let vet = subst P c.in_ok-seat.was (all_last P _ _ each) in
    let join = c.join_seat.ensures in (
      (join.0 ∙ inv.0.0, ap (λ m. m.1) join.2 ∙ inv.0.1, ap (λ m. m.0.claim.joined) join.2, ap (λ m. m.0.claim.hand) join.2, refl),
      (let past = ap (λ m. m.0.claim.past) join.2 in let one = ap (λ m. m.0.claim.past) vet.1 in let len = c.in-Some.ensures.cases in let old =
          inv.1 in omega arith),
      all_front P _ _ each,
    )

pub returns-in_err-pop : goal.returns-in_err-pop
returns-in_err-pop c = absurd (omega (arith, c.in_err-pop.ensures.cases, c.requires.some))

pub returns-in_err-last : goal.returns-in_err-last
returns-in_err-last c =
    let P = IsVeteran c.args.table.now.shared.table_id (run_of c.args.table.now.shared.key) in
    absurd (subst P c.in_err-last.was (all_last P _ _ (all_of P _ _ (sym c.in_ok-pop.ensures.items) c.requires.each)))

pub loop-place-init : goal.loop-place-init
loop-place-init c =
    let P = IsVeteran c.args.table.now.shared.table_id (run_of c.args.table.now.shared.key) in
    let each = all_of P _ _ (sym c.in_ok-pop.ensures.items) c.requires.each in let vet = subst P c.in_ok-last.was (all_last P _ _ each) in (
      (vet.0, ap (λ m. m.1) vet.1, ap (λ m. m.0.claim.joined) vet.1, ap (λ m. m.0.claim.hand) vet.1, refl),
      (let past = ap (λ m. m.0.claim.past) vet.1 in omega (arith, past, c.in_ok-pop.ensures.cases)),
      all_front P _ _ each,
    )

pub returns-in_err-seat : goal.returns-in_err-seat
returns-in_err-seat c =
    let P = IsVeteran c.args.table.now.shared.table_id (run_of c.args.table.now.shared.key) in
    absurd (subst P c.in_err-seat.was (all_last P _ _ (all_of P _ _ (sym c.in-Some.ensures.items) c.loop-place.invariant.2)))

pub loop-place-smaller : goal.loop-place-smaller
loop-place-smaller c = omega (arith, c.in-Some.ensures.cases)

pub returns : goal.returns
returns c =
    let inv = c.loop-place.invariant in
    (inv.0.0, inv.0.1, inv.0.2, inv.0.3, omega (arith, inv.1, c.in_default.ensures.cases))
