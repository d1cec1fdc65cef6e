use Rattle.std.proofs.Common.{◌∙◌, ◌*◌, sym, ap, subst, length, replicate, arith}
use Rattle.std.specs.Prelude.{None}
use Rattle.std.proofs.lemmas.List.{length-replicate}
use Rattle.comp_tree.specs.Raster.{HasValuesWithin}
use Rattle.comp_tree.proofs.Values.{within-blank, bound_most}
use Rattle.comp_tree.proofs.canvas.Canvas.blank_within.Goals as goal

pub blank-requires : goal.blank-requires
blank-requires c = let most : _ = bound_most (c.args.shape.width * c.args.shape.height) in omega (arith, c.requires, most)

pub invariant_of-result : goal.invariant_of-result
invariant_of-result c = (
  ap length c.in_ok-pixels.ensures.items ∙ length-replicate c.pixels-count.result None ∙ c.pixels-count.ensures.product,
  subst (HasValuesWithin c.args.most) (sym c.in_ok-pixels.ensures.items) (within-blank c.args.most c.pixels-count.result),
  c.requires,
  c.in_ok-pixels.ensures.room,
)

pub returns-clause-undefined : goal.returns-clause-undefined
returns-clause-undefined c = c.in_ok-pixels.ensures.items ∙ ap (λ n. replicate n None) c.pixels-count.ensures.product
