use mathlib.Core.Option.{some}
use lib.ListN.{get_elem?}
use Rattle.std.proofs.Common.{◌≡◌, ℕ, ◌+◌, ◌++◌, ◌≤◌, ◌<◌, List, get_or, length, true, false, ap, ◌∙◌, sym, refl, subst, arith}
use Rattle.std.specs.Mem.Slots.{slots_filled, slots_len}
use Rattle.strip_crew.specs.Run.{plan_of}
use Rattle.strip_crew.specs.Copied.{AreCopied}
use Rattle.strip_crew.proofs.Crews.{emptied_later, emptied_before}
use Rattle.strip_crew.proofs.Copying.{plan_is, copied_none, copied_room, copied_more}
use Rattle.strip_crew.proofs.crew.copy_links.Goals as goal

pub loop-i-init : goal.loop-i-init
loop-i-init c =
    let cut = c.args.cut.now in let plan = plan_of c.args.plane.now c.args.connect cut in let is =
    plan_is c.args.plane.now c.args.connect cut c.shape-shape.result c.shape-shape.ensures.same c.shape-shape.ensures.pixels c.requires.cut in
    (refl, refl, c.requires.full, (λ k h. absurd (omega arith)), subst (AreCopied plan 0) (sym c.requires.empty) (copied_none plan is), c.requires.room)

pub append_links-requires : goal.append_links-requires
append_links-requires c =
    let cut = c.args.cut.now in let plan = plan_of c.args.plane.now c.args.connect cut in let is =
    plan_is c.args.plane.now c.args.connect cut c.shape-shape.result c.shape-shape.ensures.same c.shape-shape.ensures.pixels c.requires.cut in
    let inv = c.loop-i.invariant in let i = c.loop-i.i in let job = c.take-job.result in
    let near : i < length cut = (let a = c.loop-i-test.true in let b = c.slot_count-i-end.ensures in let d = c.requires.jobs.count in let e =
    c.args.closed.slots.ok.0 in omega arith) in
    let it = c.requires.jobs.each i job (subst (λ l. get_elem? l i ≡ some job) inv.0 c.take-job.ensures.value) in
    let room = copied_room plan is i near c.loop-i.links.items job inv.4 it.0 c.parents.ensures.count in
    let len = c.loop-i.links.ok.0 in let more = ap length c.parents.ensures.links in let cap = inv.5 in omega arith

pub loop-i-preserved : goal.loop-i-preserved
loop-i-preserved c =
    let cut = c.args.cut.now in let plan = plan_of c.args.plane.now c.args.connect cut in let is =
    plan_is c.args.plane.now c.args.connect cut c.shape-shape.result c.shape-shape.ensures.same c.shape-shape.ensures.pixels c.requires.cut in
    let inv = c.loop-i.invariant in let i = c.loop-i.i in let job = c.take-job.result in let took = c.take-job.ensures.others in let old =
    c.loop-i.closed.slots in let n = slots_len old in
    let test = c.loop-i-test.true in let end = c.slot_count-i-end.ensures in let same = inv.1 in
    let near : i < length cut = (let d = c.requires.jobs.count in let e = c.args.closed.slots.ok.0 in omega arith) in
    let it = c.requires.jobs.each i job (subst (λ l. get_elem? l i ≡ some job) inv.0 c.take-job.ensures.value) in (
      took.0 ∙ inv.0,
      took.2 ∙ inv.1,
      subst (λ m. (k : _) → i + 1 ≤ k → k < m → get_or (slots_filled c.take-job.new.self.slots) k false ≡ true) (sym took.2)
          (subst (λ fs. (k : _) → i + 1 ≤ k → k < n → get_or fs k false ≡ true) (sym took.1) (emptied_later (slots_filled old) i n inv.2)),
      subst (λ fs. (k : _) → k < i + 1 → get_or fs k false ≡ false) (sym took.1) (emptied_before (slots_filled old) i n (omega arith) old.ok.1 inv.3),
      subst (AreCopied plan (i + 1)) (sym (c.append_links.ensures.items ∙ ap (λ (l : List ℕ). c.loop-i.links.items ++ l) c.parents.ensures.links))
          (copied_more plan is i near c.loop-i.links.items job inv.4 it.0 it.1 c.parents.ensures.count c.parents.ensures.standing),
      (let cap = c.append_links.ensures.room in let room = inv.5 in omega arith),
    )

pub returns : goal.returns
returns c =
    let plan = plan_of c.args.plane.now c.args.connect c.args.cut.now in
    let all : c.loop-i.i ≡ length c.args.cut.now =
    (let a = c.loop-i-test.false in let b = c.slot_count-i-end.ensures in let d = c.requires.jobs.count in let e = c.args.closed.slots.ok.0 in let f =
    c.loop-i.auto.i-end in omega arith) in
    subst (λ (k : ℕ). AreCopied plan k c.loop-i.links.items) all c.loop-i.invariant.4
