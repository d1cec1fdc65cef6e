use Rattle.comp_tree.proofs.Ancestors.{parent_is_the_smallest_larger_node, roots_have_no_larger_node}
use Rattle.comp_tree.proofs.laws.parent_is_smallest_larger.Goals as goal

pub returns : goal.returns
returns c = record { parent = parent_is_the_smallest_larger_node; root = roots_have_no_larger_node }
