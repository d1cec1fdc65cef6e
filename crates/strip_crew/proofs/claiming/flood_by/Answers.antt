use Rattle.std.proofs.Common.{◌≡◌, subst, subst₂, false}
use Rattle.strip_flood.specs.Jobs.{JobView, SuitsStrip}
use Rattle.strip_crew.proofs.Flooded.{one_job}
use Rattle.strip_crew.proofs.claiming.flood_by.Goals as goal

pub flood_job-requires-clause-fit : goal.flood_job-requires-clause-fit
flood_job-requires-clause-fit g c =
    let held = c.requires.held in
    subst₂ SuitsStrip (one_job _ _ _ held.0 c.slot_mut.result.now held.1 c.slot_mut.ensures.value) c.requires.plane held.2.0.fit

pub flood_job-requires-clause-unflooded : goal.flood_job-requires-clause-unflooded
flood_job-requires-clause-unflooded g c =
    let held = c.requires.held in
    subst (λ (j : JobView). j.flooded ≡ false) (one_job _ _ _ held.0 c.slot_mut.result.now held.1 c.slot_mut.ensures.value) held.2.1
