use Rattle.std.proofs.Common.{ℕ, sym, subst}
use Rattle.std.specs.Prelude.{Option, ℤ, IfSome}
use Rattle.comp_tree.specs.Limits.{IsWithin}
use Rattle.comp_tree.proofs.Exported.{in_range-value}
use Rattle.source_sheet.proofs.copying.copy_row.Goals as goal

pub set-requires-clause-in_range : goal.set-requires-clause-in_range
set-requires-clause-in_range c =
    subst (λ (m : ℕ). IfSome c.get.result (λ v. IsWithin m v)) (sym c.loop-column.invariant.1)
    (subst (λ (o : Option ℤ). IfSome o (λ v. IsWithin c.args.canvas.now.most v)) (sym c.get.ensures.value)
    (in_range-value c.args.canvas.now.most c.args.plane.now.values c.pixel_at-p.result c.requires.within))
