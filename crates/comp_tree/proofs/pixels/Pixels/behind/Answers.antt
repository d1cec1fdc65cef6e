use Rattle.std.proofs.Common.{◌≡◌, ◌<◌, ◌*◌, subst, length, arith, rules}
use Rattle.std.specs.Vec.{vec_len}
use Rattle.comp_tree.specs.Kept.{kept_items}
use Rattle.comp_tree.proofs.Blocks.{kept-length, block-is-there, block-gap}
use Rattle.comp_tree.proofs.pixels.Pixels.behind.Goals as goal

pub overflow_add-result : goal.overflow_add-result
overflow_add-result c = omega (arith, c.requires.few)

pub index-requires : goal.index-requires
index-requires c =
    let size : length c.in-Some.runs.items ≡ vec_len c.in-Some.runs = search rules in
    let within : c.args.p < c.self.inside.count = subst (λ n. c.args.p < n) (kept-length _ _ _) (rw (← c.self.view_is) at c.requires.pixel) in
    let there : c.args.p < length c.in-Some.runs.items * 32 =
    block-is-there (λ runs. runs.items) c.self.inside.count c.self.inside.runs c.in-Some.runs (kept_items c.self.inside.kept) c.args.p
    c.self.invariant within c.in-Some.is in
    omega (arith, size, there)

pub overflow_add-result-in-Some : goal.overflow_add-result-in-Some
overflow_add-result-in-Some c = omega (arith, c.requires.few, c.behind_in_run.ensures.inside)

pub returns-in-None-clause-none : goal.returns-in-None-clause-none
returns-in-None-clause-none c q low high = absurd (omega (arith, low, high))

pub returns-in-Some-clause-none : goal.returns-in-Some-clause-none
returns-in-Some-clause-none c =
    let within : c.args.p < c.self.inside.count = subst (λ n. c.args.p < n) (kept-length _ _ _) (rw (← c.self.view_is) at c.requires.pixel) in
    let there : c.args.p < length c.in-Some.runs.items * 32 =
    block-is-there (λ runs. runs.items) c.self.inside.count c.self.inside.runs c.in-Some.runs (kept_items c.self.inside.kept) c.args.p
    c.self.invariant within c.in-Some.is in
    rw (← c.self.view_is, c.in-Some.is)
    (block-gap c.self.inside.count c.in-Some.runs.items (kept_items c.self.inside.kept) c.args.p c.behind_in_run.result c.index.result.now
    c.index.ensures (omega (arith, there)) c.behind_in_run.ensures.inside c.behind_in_run.ensures.none)
