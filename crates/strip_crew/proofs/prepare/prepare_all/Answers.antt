use Rattle.std.proofs.Common.{◌≡◌, ℕ, subst, sym, refl, ap, ◌∙◌, ◌≤◌, ◌<◌, ◌*◌, ◌+◌, ◌++◌, min, List, [], ◌∷◌, length, length-append, zero-mul, arith}
use Rattle.std.proofs.Common.{vec_items, IfOk}
use Rattle.std.specs.Vec.Iter.{into_iter_items}
use Rattle.strip_flood.specs.Jobs.{JobView}
use Rattle.strip_crew.specs.Grouping.{groups_of}
use Rattle.strip_crew.specs.Run.{Plan, plan_of}
use Rattle.strip_crew.specs.Claims.{AreReady}
use Rattle.strip_crew.specs.Workers.{AreParts}
use Rattle.strip_crew.proofs.Groups.{group_inside, groups_cover, size_le, size_pos}
use Rattle.strip_crew.proofs.Jobs.{ready_none, part_joins}
use Rattle.strip_crew.proofs.prepare.prepare_all.Goals as goal

length_on : {A : Type 0} (xs : List A) (x : A) → length (xs ++ x ∷ []) ≡ length xs + 1
length_on xs x = omega (arith, length-append xs (x ∷ []))

starts_empty : (plan : Plan) (size n : ℕ) (jobs : List JobView) → jobs ≡ [] → AreReady plan 0 (min (0 * size) n) jobs
starts_empty plan size n jobs is = let z = zero-mul size in let none : 0 ≡ min (0 * size) n = omega arith in
    subst (λ (x : ℕ). AreReady plan 0 x jobs) none (subst (AreReady plan 0 0) (sym is) (ready_none plan 0))

pub prepare_parts-requires-clause-some : goal.prepare_parts-requires-clause-some
prepare_parts-requires-clause-some g c κs within =
    subst (λ (x : ℕ). 0 < x) (sym c.div_ceil-size.ensures) (size_pos (length c.args.cut.now) c.args.workers c.requires.cut.some)

pub prepare_parts-requires-clause-most : goal.prepare_parts-requires-clause-most
prepare_parts-requires-clause-most g c κs within =
    subst (λ (x : ℕ). x ≤ length c.args.cut.now) (sym c.div_ceil-size.ensures) (size_le (length c.args.cut.now) c.args.workers c.requires.workers)

pub loop-part-init : goal.loop-part-init
loop-part-init g c =
    let plan = plan_of c.args.plane.now c.args.connect c.args.cut.now in let size : ℕ = c.div_ceil-size.result in
    let same = c.into_iter-part-iterator.ensures.into_iter_gives.0 in (
      subst (λ l. AreParts vec_items plan size 0 l) (sym same) c.in_ok-parts.ensures.parts,
      (let l : length (into_iter_items c.into_iter-part-iterator.result) ≡ groups_of size (length c.args.cut.now) =
          ap length same ∙ c.in_ok-parts.ensures.count in omega (arith, l)),
      starts_empty plan size (length c.args.cut.now) c.new-jobs.result.items c.new-jobs.ensures.items,
    )

pub loop-part-preserved : goal.loop-part-preserved
loop-part-preserved g c =
    let plan = plan_of c.args.plane.now c.args.connect c.args.cut.now in let size : ℕ = c.div_ceil-size.result in let n : ℕ = length c.args.cut.now in
    let inv = c.loop-part.invariant in let y : ℕ = length c.loop-part.yielded in
    let step = c.in-Some.ensures.steps in
    let more = length_on c.loop-part.yielded c.in-Some.part in
    let t = subst (λ l. AreParts vec_items plan size y l) step.0 inv.0 in
    let part = subst (λ r. IfOk r (λ v. AreReady plan (y * size) (min (y * size + size) n) (vec_items v))) c.in_ok-part.was t.0 in
    let count : y + (length (into_iter_items c.next.new.self) + 1) ≡ groups_of size n = omega (arith, ap length step.0, inv.1) in
    let near : y * size < n = group_inside n size y (subst (λ x. 0 < x) (sym c.div_ceil-size.ensures) (size_pos n c.args.workers c.requires.cut.some))
    (omega (arith, count)) in (
      subst (λ (x : ℕ). AreParts vec_items plan size x (into_iter_items c.next.new.self)) (sym more) t.1,
      omega (arith, more, count),
      subst (λ (x : ℕ). AreReady plan 0 (min (x * size) n) c.append.new.self.items) (sym more)
          (part_joins plan size y n c.loop-part.jobs.items c.in_ok-part.part.items c.append.new.self.items refl near inv.2 part c.in_ok-append.ensures.items),
    )

pub returns : goal.returns
returns g c =
    let size : ℕ = c.div_ceil-size.result in let n : ℕ = length c.args.cut.now in
    let none : length (into_iter_items c.loop-part.part-iterator) ≡ 0 = sym c.loop-part.part-iterator.rest.ok.0 ∙ c.in-None.ensures.steps.0 in
    let all : length c.loop-part.yielded ≡ groups_of size n = omega (arith, none, c.loop-part.invariant.1) in
    subst (λ (x : ℕ). AreReady (plan_of c.args.plane.now c.args.connect c.args.cut.now) 0 x c.loop-part.jobs.items)
    (ap (λ (k : ℕ). min (k * size) n) all
    ∙ groups_cover n size (subst (λ (x : ℕ). 0 < x) (sym c.div_ceil-size.ensures) (size_pos n c.args.workers c.requires.cut.some)))
    c.loop-part.invariant.2
