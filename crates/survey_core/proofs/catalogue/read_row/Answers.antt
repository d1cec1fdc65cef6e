use Rattle.std.proofs.Common.{rules}
use Rattle.survey_core.proofs.CatalogueLemmas.{row_read}
use Rattle.survey_core.proofs.catalogue.read_row.Goals as goal

pub returns-in-Ok-eq96-clause-told : goal.returns-in-Ok-eq96-clause-told
returns-in-Ok-eq96-clause-told g c =
    λ bytes told. row_read bytes _ _ c.fill.new.buf (c.in-Ok-eq96.ensures.moved bytes told) c.in-Ok-eq96.field-0-test (search rules)
