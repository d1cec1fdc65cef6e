use Rattle.comp_tree.proofs.Nesting.{lies_within_is_inclusion}
use Rattle.comp_tree.proofs.laws.lies_within_is_inclusion.Goals as goal

pub returns : goal.returns
returns c = lies_within_is_inclusion
