use Rattle.std.proofs.Common.{sym, ap, subst, ◌∙◌}
use Rattle.std.specs.declared.option.Option.TheVariants.{Some}
use Rattle.survey_core.specs.Places.{IsPlace}
use Rattle.survey_core.proofs.PlaceLemmas.{cells_found_at, not_found}
use Rattle.survey_core.proofs.mem_keeper.find_cells.Goals as goal

pub returns-then-found : goal.returns-then-found
returns-then-found c =
    let at = subst (IsPlace c.args.entries.now c.args.field.now c.place-at.result.0) c.if-found.true c.place-at.ensures.place in
    let e = c.index-entries-at.result in
    ap Some c.deref.ensures.value ∙ sym (cells_found_at c.args.entries.now c.args.field.now c.place-at.result.0 e at)

pub returns-else-found : goal.returns-else-found
returns-else-found c =
    let at = subst (IsPlace c.args.entries.now c.args.field.now c.place-at.result.0) c.if-found.false c.place-at.ensures.place in
    sym (not_found c.args.entries.now c.args.field.now c.place-at.result.0 c.requires at).1
