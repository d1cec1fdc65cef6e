use Rattle.survey_laws.proofs.Places.{third}
use Rattle.survey_laws.proofs.written_tables.written_table_is_found.Goals as goal

pub returns : goal.returns
returns c = third c.logical_is_read_back.ensures c.integer_is_read_back.ensures.integer c.text_is_read_back.ensures
