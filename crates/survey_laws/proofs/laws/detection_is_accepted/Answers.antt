use Rattle.survey_laws.proofs.Accepting.{accepted_there, refused_there}
use Rattle.survey_laws.proofs.laws.detection_is_accepted.Goals as goal

pub returns-clause-accepted : goal.returns-clause-accepted
returns-clause-accepted c = λ r connect choice rest is few.
    accepted_there c.written_table_is_found.ensures c.written_cells_are_read_back.ensures.table c.written_cells_are_read_back.ensures.size
    c.sources_are_listed.ensures.in_order c.sources_are_disjoint.ensures.disjoint r connect choice rest is few

pub returns-clause-refused : goal.returns-clause-refused
returns-clause-refused c = λ r connect choice rest is many.
    refused_there c.written_table_is_found.ensures c.written_cells_are_read_back.ensures.table c.written_cells_are_read_back.ensures.size
    c.sources_are_listed.ensures.in_order c.sources_are_disjoint.ensures.disjoint r connect choice rest is many
