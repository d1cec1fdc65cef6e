use Rattle.std.proofs.Common.{◌≡◌, ℤ, sym, subst, ◌∙◌}
use Rattle.std.specs.Prelude.{Option, Some, IfSome}
use Rattle.comp_tree.specs.Limits.{IsInHalfRange}
use Rattle.mesh_background.proofs.Differences.{difference-fits, difference-within, pixel-less}
use Rattle.mesh_background.proofs.subtraction.lessened.Goals as goal

-- the value that was found
found : (values : Option ℤ) (v : ℤ) → values ≡ Some v → IfSome values (λ z. IsInHalfRange z) → IsInHalfRange v
found values v e h = subst (λ (o : Option ℤ). IfSome o (λ z. IsInHalfRange z)) e h

pub overflow_sub-value : goal.overflow_sub-value
overflow_sub-value c =
    difference-fits c.in-Some.value c.args.number (found _ c.in-Some.value (sym c.value.ensures ∙ c.in-Some.is) c.requires.in_range) c.requires.number

pub of-requires : goal.of-requires
of-requires c =
    difference-within c.in-Some.value c.args.number (found _ c.in-Some.value (sym c.value.ensures ∙ c.in-Some.is) c.requires.in_range) c.requires.number

pub returns-in-Some : goal.returns-in-Some
returns-in-Some c =
    let is = sym c.value.ensures ∙ c.in-Some.is in
    c.of.ensures ∙ pixel-less c.args.pixel c.in-Some.value c.args.number is (found _ c.in-Some.value is c.requires.in_range) c.requires.number
