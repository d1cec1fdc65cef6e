use Rattle.std.specs.Prelude.{slice_index}
use Rattle.std.proofs.Common.{ℕ, ◌-◌, ◌*◌, ◌^◌, ◌≤◌, arith, sym, ◌∙◌, subst, [], ◌∷◌, ◌+◌, List}
use Rattle.strip_flood.specs.Jobs.{JobView}
use Rattle.strip_crew.specs.Run.{plan_of}
use Rattle.strip_crew.specs.Claims.{AreReady}
use Rattle.strip_crew.proofs.Jobs.{ready_one, ready_both}
use Rattle.strip_crew.proofs.prepare.prepare_group.Goals as goal

pub loop-i-preserved : goal.loop-i-preserved
loop-i-preserved c =
    let plan = plan_of c.args.plane.now c.args.connect c.args.cut.now in let i = c.loop-i.i in let job = c.in_ok-prepare.field-0 in let made =
    c.in_ok-prepare.ensures in
    subst (λ (l : List JobView). AreReady plan c.args.first (i + 1) l) (sym c.in_ok-push.ensures.items)
    (ready_both plan c.args.first i (i + 1) c.loop-i.jobs.items (job ∷ []) c.loop-i.invariant
    (ready_one plan i job (record {
      fit = made.fit;
      connect = made.connect;
      first_row = made.first_row;
      end_row =
          made.end_row ∙ c.row_after.ensures.value c.args.connect;
    }) made.unflooded))

pub prepare-requires-clause-short : goal.prepare-requires-clause-short
prepare-requires-clause-short c many =
    let i = c.loop-i.i in
    subst (λ (n : ℕ). (n - slice_index c.args.cut.now i) * c.args.plane.now.shape.width ≤ 2 ^ 24) (sym (c.row_after.ensures.value c.args.connect))
    (c.requires.short many i (omega (arith, c.loop-i-test.true, c.requires.inside)))
