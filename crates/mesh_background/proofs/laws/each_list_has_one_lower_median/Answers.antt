use Rattle.mesh_background.proofs.Medians.{the_one, some_member}
use Rattle.mesh_background.proofs.laws.each_list_has_one_lower_median.Goals as goal

pub returns-clause-one : goal.returns-clause-one
returns-clause-one c = the_one

pub returns-clause-some : goal.returns-clause-some
returns-clause-some c = some_member
