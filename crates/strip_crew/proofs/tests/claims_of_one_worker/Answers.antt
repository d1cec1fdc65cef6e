use Rattle.std.proofs.Common.{◌≡◌, ◌≤◌, length, ap₂, sym, subst, arith, rules}
use Rattle.comp_tree.specs.declared.shape.Connect.TheVariants.{Four}
use Rattle.strip_crew.specs.Run.{Plan, IsSized, plan_of, run_with}
use Rattle.strip_crew.specs.Claims.{AreReady}
use Rattle.strip_crew.proofs.Keeping.{starts}
use Rattle.strip_crew.proofs.Crews.{cut_fits}
use Rattle.strip_crew.proofs.tests.claims_of_one_worker.Goals as goal

pub new-requires : goal.new-requires
new-requires g c =
    let cut = c.args.cut.now in let rows = c.extend_from_slice.new.self.items in let value = c.of.result.value in
    let are : rows ≡ cut = search rules in
    let same : plan_of value Four rows ≡ plan_of c.args.plane.now Four cut = ap₂ (λ p l. plan_of p Four l) c.of.ensures are in
    let short : length cut ≤ 65535 = (let a = cut_fits c.args.plane.now.shape.height cut c.requires in
    let b = c.args.plane.now.shape.within_limits.few_rows in omega arith) in
    starts (run_with value Four rows 1) c.in_ok-jobs.jobs.items
    (subst (λ l. IsSized (length l) 1) (sym are)
    (record { some_strip = c.requires.some; most_strips = short; some_worker = omega arith; most_workers = omega arith }))
    (subst (λ (p : Plan). AreReady p 0 (length p.cut) c.in_ok-jobs.jobs.items) (sym same) c.in_ok-jobs.ensures)
