use Rattle.std.proofs.Common.{length}
use Rattle.comp_tree.specs.Limits.{value_bound}
use Rattle.comp_tree.proofs.Values.{in_range-of_within, in_range-value, in_range-of_value}
use Rattle.comp_tree.proofs.plane.Plane.get.Goals as goal

pub returns-clause-in_range : goal.returns-clause-in_range
returns-clause-in_range c = rw c.get.ensures (in_range-of_value c.self.inside.pixels c.args.p (in_range-of_within c.self.inside.most c.self.inside.pixels c.self.invariant.1 c.self.invariant.2))

pub returns-clause-bounded : goal.returns-clause-bounded
returns-clause-bounded c =
    rw (c.get.ensures, ← c.self.view_is) (in_range-value (value_bound (length c.self.inside.pixels)) c.self.inside.pixels c.args.p (in_range-of_within c.self.inside.most c.self.inside.pixels c.self.invariant.1 c.self.invariant.2))
