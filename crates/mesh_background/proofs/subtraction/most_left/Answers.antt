use Rattle.std.proofs.Common.{◌≡◌, ◌≤◌, ◌^◌, ◌∙◌, ap, sym, length, arith}
use Rattle.comp_tree.specs.Limits.{value_bound}
use Rattle.comp_tree.proofs.Exported.{bound_most}
use Rattle.mesh_background.proofs.Bands.{half-of_least, half-of_given}
use Rattle.mesh_background.proofs.subtraction.most_left.Goals as goal

range : (c : goal.After-min) → c.range_of.result ≡ value_bound (length c.args.plane.now.values)
range c = c.range_of.ensures ∙ ap value_bound (c.pixels.ensures.product ∙ sym c.shape.ensures.pixels)

pub overflow_mul-most : goal.overflow_mul-most
overflow_mul-most c =
    let within : value_bound (length c.args.plane.now.values) ≤ 2 ^ 37 = bound_most (length c.args.plane.now.values) in
    omega (arith, c.bound_with-most.ensures.bounded, within)

pub returns-clause-half : goal.returns-clause-half
returns-clause-half c =
    rw c.min.ensures
    (half-of_least c.bound_with-most.result c.range_of.result c.args.plane.now.values c.bound_with-most.ensures.within (range c) c.requires.in_range)

pub returns-clause-given : goal.returns-clause-given
returns-clause-given c =
    rw c.min.ensures
    (half-of_given c.bound_with-most.result c.range_of.result (length c.args.plane.now.values) c.args.empty c.bound_with-most.ensures.given (range c)
    c.requires.given)

pub returns-clause-bounded : goal.returns-clause-bounded
returns-clause-bounded c = omega (arith, range c)
