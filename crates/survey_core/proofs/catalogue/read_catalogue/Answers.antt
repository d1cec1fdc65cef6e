use Rattle.std.proofs.Common.{sym, ◌∙◌}
use Rattle.survey_core.proofs.CatalogueLemmas.{no_hdu, no_table, too_many, behind_header}
use Rattle.survey_core.proofs.catalogue.read_catalogue.Goals as goal

pub returns-in-Err-clause-told : goal.returns-in-Err-clause-told
returns-in-Err-clause-told g c = λ bytes told. no_hdu bytes _ c.in-Err.stop c.at_hdu.result c.at_hdu.ensures (c.in-Err.ensures.told bytes told)

pub returns-then-not-is_catalogue-clause-told : goal.returns-then-not-is_catalogue-clause-told
returns-then-not-is_catalogue-clause-told g c = λ bytes told.
    let there = c.in-Ok.ensures.told bytes told in
    no_table bytes there.0 c.in-Ok.hdu _ there.1 there.2 (sym c.is_catalogue.ensures ∙ c.if-not-is_catalogue.true)

pub returns-then-hdu-gt-MOST_ROWS-clause-told : goal.returns-then-hdu-gt-MOST_ROWS-clause-told
returns-then-hdu-gt-MOST_ROWS-clause-told g c = λ bytes told.
    let there = c.in-Ok.ensures.told bytes told in
    too_many bytes there.0 c.in-Ok.hdu _ there.1 there.2 (sym c.is_catalogue.ensures ∙ c.if-not-is_catalogue.false) c.if-hdu-gt-MOST_ROWS.true

pub returns-clause-told : goal.returns-clause-told
returns-clause-told g c = λ bytes told.
    let there = c.in-Ok.ensures.told bytes told in
    behind_header (λ cells. cells.items) bytes there.0 c.in-Ok.hdu _ _ c.read_table.result there.1 there.2
    (sym c.is_catalogue.ensures ∙ c.if-not-is_catalogue.false) c.if-hdu-gt-MOST_ROWS.false
    (c.read_table.ensures.told _ there.2.rest)
