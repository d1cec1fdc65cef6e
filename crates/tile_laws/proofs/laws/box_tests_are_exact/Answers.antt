use Rattle.tile_laws.proofs.Testing.{whole_test_is_exact, meeting_test_is_exact, within_test_is_exact, settled_test_is_exact}
use Rattle.tile_laws.proofs.laws.box_tests_are_exact.Goals as goal

pub returns-clause-whole : goal.returns-clause-whole
returns-clause-whole c = whole_test_is_exact

pub returns-clause-meeting : goal.returns-clause-meeting
returns-clause-meeting c = meeting_test_is_exact

pub returns-clause-within : goal.returns-clause-within
returns-clause-within c = within_test_is_exact

pub returns-clause-settled : goal.returns-clause-settled
returns-clause-settled c = settled_test_is_exact
