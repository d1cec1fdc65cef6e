use Rattle.std.proofs.Common.{◌∙◌, ◌++◌, ◌∷◌, [], List, append_assoc, ap, sym, arith}
use Rattle.std.specs.Prelude.{ℤ, Option}
use Rattle.comp_tree.specs.Raster.{value_at}
use Rattle.comp_tree.specs.Stored.{shown_values}
use Rattle.comp_tree.proofs.Blocks.{part-more}
use Rattle.comp_tree.proofs.pixels.push_shown.Goals as goal

pub loop-p-preserved : goal.loop-p-preserved
loop-p-preserved c =
    c.in_ok-push.ensures.items
    ∙ ap (λ (x : Option ℤ). c.loop-p.kept.items ++ x ∷ []) c.shown.ensures
    ∙ ap (λ (xs : List (Option ℤ)). xs ++ value_at (shown_values c.args.pixels.now c.args.marks) c.loop-p.p ∷ [])
    c.loop-p.invariant
    ∙ append_assoc c.args.kept.now.items _ _
    ∙ ap (λ (xs : List (Option ℤ)). c.args.kept.now.items ++ xs)
    (sym (part-more (shown_values c.args.pixels.now c.args.marks) c.args.first c.loop-p.p (omega (arith, c.loop-p.auto))))
