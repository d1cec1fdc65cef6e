use Rattle.std.proofs.Common.{sym, ap, subst, ◌∙◌, is_some}
use Rattle.survey_core.specs.Places.{IsPlace}
use Rattle.survey_core.specs.Mem.{tables_kept}
use Rattle.survey_core.proofs.PlaceLemmas.{cells_found_at, drop_found, not_found}
use Rattle.survey_core.proofs.mem_keeper.drop_entry.Goals as goal

pub returns-then-found-clause-done : goal.returns-then-found-clause-done
returns-then-found-clause-done c =
    let at =
    subst (IsPlace c.args.entries.now.items c.args.field.now c.place-at.result.0) c.if-found.true
    (subst (λ es. IsPlace es c.args.field.now c.place-at.result.0 c.place-at.result.1) c.deref.ensures.value c.place-at.ensures.place) in
    ap tables_kept c.remove.ensures.items ∙ drop_found c.args.entries.now.items c.args.field.now c.place-at.result.0 c.requires at

pub returns-then-found-clause-found : goal.returns-then-found-clause-found
returns-then-found-clause-found c =
    let at =
    subst (IsPlace c.args.entries.now.items c.args.field.now c.place-at.result.0) c.if-found.true
    (subst (λ es. IsPlace es c.args.field.now c.place-at.result.0 c.place-at.result.1) c.deref.ensures.value c.place-at.ensures.place) in
    c.if-found.true ∙ sym (ap is_some (cells_found_at c.args.entries.now.items c.args.field.now c.place-at.result.0 c.remove.result at))

pub returns-else-found-clause-done : goal.returns-else-found-clause-done
returns-else-found-clause-done c =
    let at =
    subst (IsPlace c.args.entries.now.items c.args.field.now c.place-at.result.0) c.if-found.false
    (subst (λ es. IsPlace es c.args.field.now c.place-at.result.0 c.place-at.result.1) c.deref.ensures.value c.place-at.ensures.place) in
    sym (not_found c.args.entries.now.items c.args.field.now c.place-at.result.0 c.requires at).0

pub returns-else-found-clause-found : goal.returns-else-found-clause-found
returns-else-found-clause-found c =
    let at =
    subst (IsPlace c.args.entries.now.items c.args.field.now c.place-at.result.0) c.if-found.false
    (subst (λ es. IsPlace es c.args.field.now c.place-at.result.0 c.place-at.result.1) c.deref.ensures.value c.place-at.ensures.place) in
    c.if-found.false ∙ sym (ap is_some (not_found c.args.entries.now.items c.args.field.now c.place-at.result.0 c.requires at).1)
