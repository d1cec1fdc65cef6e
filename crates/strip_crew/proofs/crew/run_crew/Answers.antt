use Rattle.std.proofs.Common.{◌≡◌, ℕ, [], ap, ◌∙◌, sym, arith}
use Rattle.strip_crew.specs.Counting.{fresh}
use Rattle.strip_crew.specs.Claims.{view, run_of}
use Rattle.strip_crew.proofs.crew.run_crew.Goals as goal

pub recruit-places-requires-clause-first : goal.recruit-places-requires-clause-first
recruit-places-requires-clause-first g c =
    c.requires.first ∙ ap (λ (k : ℕ). (view (fresh k) (run_of c.args.table.shared.key), [])) c.requires.workers

pub dismiss-requires-clause-some : goal.dismiss-requires-clause-some
dismiss-requires-clause-some g c = let count : c.recruit-places.result.len ≡ c.args.workers =
    c.recruit-places.ensures.count in omega (arith, count, c.requires.some)

pub close_crew-requires : goal.close_crew-requires
close_crew-requires g c =
    let last = c.in-Some.ensures in
    record { last = (last.0, last.1, last.2, last.3, last.4 ∙ (c.recruit-places.ensures.count ∙ sym c.requires.workers)) }

pub returns-clause-jobs : goal.returns-clause-jobs
returns-clause-jobs g c = c.close_crew.ensures.settled.jobs_are
