use Rattle.std.proofs.Common.{arith, rules, refl, ◌∙◌, w64, SFits}
use Rattle.std.proofs.lemmas.Int.{ints, to_z-of_z}
use Rattle.survey_core.proofs.SumLemmas.{total_none, total_next}
use Rattle.survey_core.proofs.listing.flux_total.Goals as goal

pub loop-row-init : goal.loop-row-init
loop-row-init c = record { total_is = total_none c.args.cells.now; low = omega (arith, ints); high = omega (arith, ints) }

pub loop-row-preserved : goal.loop-row-preserved
loop-row-preserved c =
    let fits : SFits w64 c.cell.result = search rules in
    let i = c.loop-row.invariant in
    let next =
    total_next c.args.cells.now c.loop-row.row _ c.from-total.result c.cell.result _ i.total_is i.low i.high
    (omega (arith, c.loop-row-test.true)) fits c.cell.ensures (c.from-total.ensures ∙ to_z-of_z w64 c.cell.result fits) refl in
    record { total_is = next.0; low = next.1; high = next.2 }
