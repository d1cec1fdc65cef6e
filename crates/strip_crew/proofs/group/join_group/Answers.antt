use Rattle.std.proofs.Common.{◌*◌, arith}
use Rattle.comp_tree.specs.Joined.{Has}
use Rattle.tree_join.proofs.Exported.{stands_more}
use Rattle.strip_crew.specs.Boundaries.{IsRowsPair}
use Rattle.strip_crew.proofs.group.join_group.Goals as goal

pub returns-clause-stands : goal.returns-clause-stands
returns-clause-stands g c = let plane = c.args.plane.now in let joined =
    c.join_strips.ensures.joined in λ E s. stands_more plane.values (c.args.first_row * plane.shape.width) c.args.parents.now c.join_strips.new.parents (Has E)
    (IsRowsPair plane.values plane.shape.width c.args.connect c.args.rows.now)
    (omega arith) joined.same_length c.requires.forest joined.forest joined.joins s
