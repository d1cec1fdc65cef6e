use Rattle.std.proofs.Common.{◌≡◌, ℕ, ◌<◌, get_or, length, false, [], ◌∙◌, sym, subst, arith}
use Rattle.std.specs.Mem.Slots.{slots_filled, slots_len}
use Rattle.strip_crew.specs.Run.{plan_of}
use Rattle.strip_crew.specs.Copied.{AreCopied}
use Rattle.strip_crew.proofs.Crews.{emptied_before}
use Rattle.strip_crew.proofs.Copying.{plan_is, copied_none, copied_more}
use Rattle.strip_crew.proofs.crew.only_links.Goals as goal

pub free-requires : goal.free-requires
free-requires c =
    let took = c.take-job.ensures.others in let old = c.args.closed.slots in
    let one : slots_len old ≡ 1 = (let d = c.requires.jobs.count in let e = old.ok.0 in let n = c.requires.one in omega arith) in
    subst (λ m. (k : _) → k < m → get_or (slots_filled c.take-job.new.self.slots) k false ≡ false) (sym (took.2 ∙ one))
    (subst (λ fs. (k : _) → k < 1 → get_or fs k false ≡ false) (sym took.1)
    (emptied_before (slots_filled old) 0 (slots_len old) (omega arith) old.ok.1 (λ k h. absurd (omega arith))))

pub returns : goal.returns
returns c =
    let cut = c.args.cut.now in let plan = plan_of c.args.plane.now c.args.connect cut in let is =
    plan_is c.args.plane.now c.args.connect cut c.shape-shape.result c.shape-shape.ensures.same c.shape-shape.ensures.pixels c.requires.cut in
    let job = c.take-job.result in let one : length cut ≡ 1 = c.requires.one in
    let it = c.requires.jobs.each 0 job c.take-job.ensures.value in
    subst (λ (k : ℕ). AreCopied plan k c.into_parents.result.items) (sym one)
    (subst (AreCopied plan 1) (sym c.into_parents.ensures.links)
    (copied_more plan is 0 (omega arith) [] job (copied_none plan is) it.0 it.1 c.into_parents.ensures.count c.into_parents.ensures.standing))
