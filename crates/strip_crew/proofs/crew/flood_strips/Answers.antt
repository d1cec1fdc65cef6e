use Rattle.std.proofs.Common.{◌∙◌}
use Rattle.std.specs.Mem.Slots.{slots_items}
use Rattle.strip_crew.specs.Claims.{run_of}
use Rattle.strip_crew.proofs.Crews.{run_sized, run_ready, run_over, run_by, run_flooded}
use Rattle.strip_crew.proofs.crew.flood_strips.Goals as goal

pub open_table-requires-clause-sized : goal.open_table-requires-clause-sized
open_table-requires-clause-sized g c =
    run_sized c.args.plane.now c.args.connect c.args.cut.now c.args.workers (run_of c.in_ok-key.key) c.in_ok-key.ensures
    c.requires.cut c.requires.some c.requires.most

pub open_table-requires-clause-ready : goal.open_table-requires-clause-ready
open_table-requires-clause-ready g c =
    run_ready c.args.plane.now c.args.connect c.args.cut.now c.args.workers (run_of c.in_ok-key.key) c.in_ok-key.ensures
    c.in_ok-jobs.jobs.items c.in_ok-jobs.ensures

pub run_crew-closed-requires-clause-table : goal.run_crew-closed-requires-clause-table
run_crew-closed-requires-clause-table g c κs within = c.in_ok-table.ensures.table

pub run_crew-closed-requires-clause-words : goal.run_crew-closed-requires-clause-words
run_crew-closed-requires-clause-words g c κs within = c.in_ok-table.ensures.words

pub run_crew-closed-requires-clause-first : goal.run_crew-closed-requires-clause-first
run_crew-closed-requires-clause-first g c κs within = c.in_ok-table.ensures.first

pub run_crew-closed-requires-clause-workers : goal.run_crew-closed-requires-clause-workers
run_crew-closed-requires-clause-workers g c κs within =
    run_by c.args.plane.now c.args.connect c.args.cut.now c.args.workers (run_of c.in_ok-table.table.shared.key)
    (c.in_ok-table.ensures.run ∙ c.in_ok-key.ensures)

pub run_crew-closed-requires-clause-some : goal.run_crew-closed-requires-clause-some
run_crew-closed-requires-clause-some g c κs within = c.requires.some

pub run_crew-closed-requires-clause-plane : goal.run_crew-closed-requires-clause-plane
run_crew-closed-requires-clause-plane g c κs within =
    run_over c.args.plane.now c.args.connect c.args.cut.now c.args.workers (run_of c.in_ok-table.table.shared.key)
    (c.in_ok-table.ensures.run ∙ c.in_ok-key.ensures)

pub gather_links-requires-clause-full : goal.gather_links-requires-clause-full
gather_links-requires-clause-full g c = c.run_crew-closed.ensures.full

pub gather_links-requires-clause-cut : goal.gather_links-requires-clause-cut
gather_links-requires-clause-cut g c = c.requires.cut

pub gather_links-requires-clause-jobs : goal.gather_links-requires-clause-jobs
gather_links-requires-clause-jobs g c =
    run_flooded c.args.plane.now c.args.connect c.args.cut.now c.args.workers (run_of c.in_ok-table.table.shared.key)
    (c.in_ok-table.ensures.run ∙ c.in_ok-key.ensures) (slots_items c.run_crew-closed.result.slots) c.run_crew-closed.ensures.jobs

pub gather_links-requires-clause-empty : goal.gather_links-requires-clause-empty
gather_links-requires-clause-empty g c = c.in_ok-room.ensures.empty

pub gather_links-requires-clause-room : goal.gather_links-requires-clause-room
gather_links-requires-clause-room g c = c.in_ok-room.ensures.room
