use Rattle.std.proofs.Common.{◌∙◌, sym, ap}
use Rattle.std.specs.Ordering.{is_lt}
use Rattle.survey_core.proofs.BestRows.{late_is_behind, not_less}
use Rattle.survey_core.proofs.ranking.is_late.Goals as goal

pub returns-in-Some-clause-late : goal.returns-in-Some-clause-late
returns-in-Some-clause-late c = λ late heap.
    late_is_behind c.args.row.now c.in-Some.last.now _ (ap is_lt (sym c.cmp.ensures) ∙ not_less c.cmp.result (sym c.ne.ensures ∙ late))
    (c.in-Some.ensures.greatest heap)
