use Rattle.std.proofs.Common.{[], ap, ◌∙◌, sym}
use Rattle.strip_crew.specs.Run.{Run}
use Rattle.strip_crew.specs.Claims.{run_of, opening_view}
use Rattle.strip_crew.proofs.Keeping.{starts}
use Rattle.strip_crew.proofs.crew.open_table.Goals as goal

pub new-requires : goal.new-requires
new-requires c = starts (run_of c.args.key.now) c.args.jobs.items c.requires.sized c.requires.ready

pub returns-in-Ok : goal.returns-in-Ok
returns-in-Ok c =
    let made = c.in-Ok.ensures.ok in let run = ap run_of made.5 in
    record { words = made.0; table = made.2; run = run; first = made.4 ∙ ap (λ (r : Run). (opening_view r, [])) (sym run) }
