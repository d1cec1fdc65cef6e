use Rattle.std.proofs.Common.{◌≡◌, ◌*◌, ◌+◌, ◌≤◌, ℕ, ℤ, List, length, false, arith, refl, subst, ap, ◌∙◌}
use Rattle.fits_write.specs.CatalogueColumns.{cells_in_row}
use Rattle.survey_core.specs.Catalogues.{first_misnumbered, is_misnumbered}
use Rattle.survey_core.proofs.CatalogueLemmas.{table_cut, table_misnumbered, table_read, table_lost, all_numbered}
use Rattle.survey_core.proofs.catalogue.read_table.Goals as goal

pub returns-in-Err-clause-told : goal.returns-in-Err-clause-told
returns-in-Err-clause-told g c = λ bytes told. table_cut bytes c.args.rows _ c.in-Err.stop (c.in-Err.ensures.told bytes told)

pub returns-in-Some-clause-told : goal.returns-in-Some-clause-told
returns-in-Some-clause-told g c = λ bytes told.
    table_misnumbered bytes c.args.rows c.in-Some.place _ _ c.in-Ok.cells.items (c.in-Ok.ensures.told bytes told)
    (c.in-Some.ensures.first ∙ ap first_misnumbered c.deref.ensures.value) refl

pub returns-in-Ok-take_padding-clause-told : goal.returns-in-Ok-take_padding-clause-told
returns-in-Ok-take_padding-clause-told g c = λ bytes told.
    let rows = c.in-Ok.ensures.told bytes told in
    table_read bytes c.args.rows _ c.in-Ok.cells.items rows (c.in_default.ensures.first ∙ ap first_misnumbered c.deref.ensures.value) _ (omega arith) _
    (c.in-Ok-take_padding.ensures.told _ rows.takes.rest)

pub returns-in-Ok-take_padding-clause-numbered : goal.returns-in-Ok-take_padding-clause-numbered
returns-in-Ok-take_padding-clause-numbered g c =
    all_numbered c.in-Ok.cells.items c.args.rows c.in-Ok.ensures.length
    (subst (λ (cells : List ℤ). (i : ℕ) → cells_in_row * i + cells_in_row ≤ length cells
    → is_misnumbered cells i ≡ false) c.deref.ensures.value c.in_default.ensures.none)

pub returns-in-Err-take_padding-clause-told : goal.returns-in-Err-take_padding-clause-told
returns-in-Err-take_padding-clause-told g c = λ bytes told.
    let rows = c.in-Ok.ensures.told bytes told in
    table_lost bytes c.args.rows _ c.in-Ok.cells.items rows (c.in_default.ensures.first ∙ ap first_misnumbered c.deref.ensures.value) _ (omega arith) _
    (c.in-Err-take_padding.ensures.told _ rows.takes.rest)
