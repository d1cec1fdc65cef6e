use Rattle.std.proofs.Common.{rules, ◌<◌, length}
use Rattle.comp_tree.proofs.WellFormed.{named_parent_smaller}
use Rattle.comp_tree.proofs.tree.Tree.parent.Goals as goal

pub returns-clause-smaller : goal.returns-clause-smaller
returns-clause-smaller c =
    let inside : c.args.n < length c.self.inside.rows.items = search rules in
    named_parent_smaller c.self.inside.rows.items c.args.n c.index.result.now c.self.invariant.parents inside c.index.ensures
