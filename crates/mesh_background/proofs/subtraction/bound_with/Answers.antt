use Rattle.std.proofs.Common.{length}
use Rattle.comp_tree.specs.Limits.{value_bound}
use Rattle.comp_tree.proofs.Exported.{within_more}
use Rattle.mesh_background.proofs.Bands.{given-in_range, given-bounded}
use Rattle.mesh_background.proofs.subtraction.bound_with.Goals as goal

pub with_value-requires : goal.with_value-requires
with_value-requires c = given-in_range (length c.args.plane.now.values) c.args.empty c.requires.given

pub returns-clause-within : goal.returns-clause-within
returns-clause-within c = λ p v e. within_more c.bound_of_values.result c.with_value.result v c.with_value.ensures.kept (c.bound_of_values.ensures.within p v e)

pub returns-clause-bounded : goal.returns-clause-bounded
returns-clause-bounded c =
    c.with_value.ensures.least (value_bound (length c.args.plane.now.values)) c.bound_of_values.ensures.bounded
    (given-bounded (length c.args.plane.now.values) c.args.empty c.requires.given)
