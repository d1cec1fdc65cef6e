use Rattle.std.proofs.Common.{ℕ, List, drop, set, Some, Bool, Option, sym, subst, ap, ◌∙◌}
use Rattle.level_queue.specs.Queue.{Queue, list_at, with_list}
use Rattle.level_queue.specs.Links.{queue_of}
use Rattle.level_queue.specs.declared.queue.Ends.{Ends}
use Rattle.level_queue.proofs.Queues.{Holds, in_ranks, has_ends, pop_last_holds, pop_last_gives, has_link, pop_more_holds, pop_more_gives}
use Rattle.level_queue.proofs.queue.LevelQueue.pop_front.Goals as goal

pub take-ends-requires : goal.take-ends-requires
take-ends-requires c =
    let s = c.self.inside in
    has_ends s.ends s.used c.self.invariant.1 c.args.rank c.contains.result
    (in_ranks s.next s.ends c.args.self.now c.args.rank c.self.view_is c.requires) c.contains.ensures c.if-not-contains.false

pub take-first-requires : goal.take-first-requires
take-first-requires c =
    let s = c.self.inside in
    has_link s.next s.ends s.used c.self.invariant c.args.rank
    (in_ranks s.next s.ends c.args.self.now c.args.rank c.self.view_is c.requires) c.take-ends.result c.take-ends.ensures.value c.if-ends.false

pub invariant_of-self : goal.invariant_of-self
invariant_of-self c =
    let s = c.self.inside in let ends = c.take-ends.ensures.left in let used = c.remove.ensures in
    subst (λ (p : List (Option Ends) × List Bool). Holds s.next p.0 p.1) (λ j. (sym ends j, sym used j))
    (pop_last_holds s.next s.ends s.used c.self.invariant c.args.rank
    (in_ranks s.next s.ends c.args.self.now c.args.rank c.self.view_is c.requires) c.take-ends.result c.take-ends.ensures.value c.if-ends.true)

pub invariant_of-self-else-ends : goal.invariant_of-self-else-ends
invariant_of-self-else-ends c =
    let s = c.self.inside in let links = c.take-first.ensures.left in
    let d : Ends = record { first = c.take-first.result; last = c.take-ends.result.last } in
    let ends = c.write.ensures ∙ ap (λ (es : List (Option Ends)). set es c.args.rank (Some d)) c.take-ends.ensures.left in
    subst (λ (p : List (Option ℕ) × List (Option Ends)). Holds p.0 p.1 s.used) (λ j. (sym links j, sym ends j))
    (pop_more_holds s.next s.ends s.used c.self.invariant c.args.rank
    (in_ranks s.next s.ends c.args.self.now c.args.rank c.self.view_is c.requires) c.take-ends.result c.take-ends.ensures.value c.take-first.result
    c.take-first.ensures.value)

pub returns-then-ends-clause-rest : goal.returns-then-ends-clause-rest
returns-then-ends-clause-rest c =
    let s = c.self.inside in
    ap (queue_of s.next) c.take-ends.ensures.left
    ∙ pop_last_gives s.next s.ends s.used c.self.invariant c.args.rank
    (in_ranks s.next s.ends c.args.self.now c.args.rank c.self.view_is c.requires) c.take-ends.result c.take-ends.ensures.value c.if-ends.true
    ∙ ap (λ (q : Queue). with_list q c.args.rank (drop 1 (list_at q.lists c.args.rank))) c.self.view_is

pub returns-else-ends-clause-rest : goal.returns-else-ends-clause-rest
returns-else-ends-clause-rest c =
    let s = c.self.inside in let links = c.take-first.ensures.left in
    let d : Ends = record { first = c.take-first.result; last = c.take-ends.result.last } in
    let ends = c.write.ensures ∙ ap (λ (es : List (Option Ends)). set es c.args.rank (Some d)) c.take-ends.ensures.left in
    ap (λ (p : List (Option ℕ) × List (Option Ends)). queue_of p.0 p.1) (λ j. (links j, ends j))
    ∙ pop_more_gives s.next s.ends s.used c.self.invariant c.args.rank
    (in_ranks s.next s.ends c.args.self.now c.args.rank c.self.view_is c.requires) c.take-ends.result c.take-ends.ensures.value c.take-first.result
    c.take-first.ensures.value
    ∙ ap (λ (q : Queue). with_list q c.args.rank (drop 1 (list_at q.lists c.args.rank))) c.self.view_is
