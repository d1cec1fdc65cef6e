use Rattle.std.proofs.Common.{◌≡◌, ℕ, ◌<◌, ◌≤◌, ◌⊎◌, inl, inr, ◌∙◌, sym, subst, refl, arith}
use Rattle.std.specs.Prelude.{ℤ, Option, None, Some, is_some, false}
use Rattle.std.proofs.lemmas.Bool.{cases_lt}
use Rattle.comp_tree.specs.Raster.{value_at}
use Rattle.comp_tree.proofs.plane.Plane.next_defined.Goals as goal

pub loop-p-init : goal.loop-p-init
loop-p-init c = record { low = omega arith; high = c.requires.order; gap = λ q low high. absurd (omega (arith, low, high)) }

without_value : (o : Option ℤ) → is_some o ≡ false → o ≡ None
without_value None e = refl
without_value (Some v) e = absurd cc

pub loop-p-preserved : goal.loop-p-preserved
loop-p-preserved c = record {
  low = omega (arith, c.loop-p.invariant.low, c.behind.ensures.later, c.requires.order, c.min-p.ensures);
  high = omega (arith, c.min-p.ensures);
  gap = λ q low below. at q low below (cases_lt q c.loop-p.p) (cases_lt c.loop-p.p q);
}
  where
    here : value_at c.args.self.now.values c.loop-p.p ≡ None
    here = sym c.get.ensures.value ∙ without_value c.get.result c.if-is_none.ensures

    at : (q : ℕ) → c.args.first ≤ q → q < c.min-p.result → (q < c.loop-p.p) ⊎ (c.loop-p.p ≤ q) → (c.loop-p.p < q) ⊎ (q ≤ c.loop-p.p)
        → value_at c.args.self.now.values q ≡ None
    at q low below (inl before) d = c.loop-p.invariant.gap q low before
    at q low below (inr ge) (inl behind) = rw (← c.self.view_is) (c.behind.ensures.none q (omega (arith, behind)) (omega (arith, below, c.min-p.ensures)))
    at q low below (inr ge) (inr le) = let same : c.loop-p.p ≡ q = omega (arith, ge, le) in subst (λ r. value_at c.args.self.now.values r ≡ None) same here
