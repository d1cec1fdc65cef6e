use Rattle.std.proofs.Common.{ℕ, ◌*◌, arith, subst, sym}
use Rattle.std.specs.Prelude.{ℤ, Option, IfSome}
use Rattle.comp_tree.specs.Limits.{IsWithin, value_bound}
use Rattle.filter_rules.proofs.Filling.{filled_all, filled_within}
use Rattle.filter_rules.proofs.filtering.fill.Goals as goal

pub returns-clause-values : goal.returns-clause-values
returns-clause-values c =
    rw c.into_plane.ensures
    (filled_all c.args.node_of.now c.args.values.now c.loop-p.canvas.values c.loop-p.p
    (omega (arith, c.loop-p-test.false, c.requires.pixels, c.pixels-p-end.ensures.product)) c.loop-p.invariant.filled)

pub set-requires-clause-in_range : goal.set-requires-clause-in_range
set-requires-clause-in_range c =
    subst (λ (n : ℕ). IfSome c.filled_pixel.result (λ v. IsWithin n v)) (sym c.loop-p.invariant.same_most)
    (subst (λ (o : Option ℤ). IfSome o (λ v. IsWithin (value_bound (c.args.shape.width * c.args.shape.height)) v)) (sym c.filled_pixel.ensures)
    (filled_within c.args.values.now (value_bound (c.args.shape.width * c.args.shape.height)) _
    (c.requires.nodes c.loop-p.p (omega (arith, c.loop-p-test.true, c.requires.pixels, c.pixels-p-end.ensures.product))) c.requires.values))
