use Rattle.std.proofs.Common.{◌≡◌, ◌*◌, ◌∙◌, ap, subst, arith}
use Rattle.std.specs.Prelude.{IfOk}
use Rattle.comp_tree.specs.Limits.{value_bound}
use Rattle.comp_tree.proofs.canvas.Canvas.blank.Goals as goal

pub blank_within-requires : goal.blank_within-requires
blank_within-requires c =
    let is : c.bound_of.result ≡ value_bound (c.args.shape.width * c.args.shape.height) =
    c.bound_of.ensures.is ∙ ap value_bound c.pixels.ensures.product in
    omega (arith, is)

pub returns-clause-most : goal.returns-clause-most
returns-clause-most c =
    subst (λ n. IfOk c.blank_within.result (λ canvas. canvas.most ≡ n)) (c.bound_of.ensures.is ∙ ap value_bound c.pixels.ensures.product)
    c.blank_within.ensures.most
