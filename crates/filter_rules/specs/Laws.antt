-- Model: the laws of the filter rules.
use Rattle.std.specs.Prelude.{◌≡◌, ℕ, ◌≤◌, length, IsTrue, Some}
use Rattle.comp_tree.specs.declared.shape.Connect.{Connect}
use Rattle.comp_tree.specs.Raster.{Raster, IsPlane, is_defined}
use Rattle.comp_tree.specs.Laws.{IsNode, IsIn, IsNestedIn}
use Rattle.filter_rules.specs.declared.rule.Rule.{Rule}
use Rattle.filter_rules.specs.declared.rule.Rule.TheVariants.{Min, Max, Direct}
use Rattle.filter_rules.specs.declared.rule.Criterion.{Criterion}
use Rattle.filter_rules.specs.Filtered.{is_kept, holders, smallest}

-- where neither the greatest area nor the fill refuses any node, `Min`, `Max` and `Direct` keep the same nodes
abbrev pub RulesAgreeOnGrowingMeasures : Type 0
RulesAgreeOnGrowingMeasures = (r : Raster) (connect : Connect) (criterion : Criterion) (n : ℕ)
    → IsPlane r → IsNode r connect n → length r.values ≤ criterion.max_area → criterion.min_fill ≡ 0
    → (is_kept r connect Min criterion n ≡ is_kept r connect Direct criterion n)
    × (is_kept r connect Max criterion n ≡ is_kept r connect Direct criterion n)

-- node n is kept and holds pixel p, and its component lies within that of each kept node that holds p
pub record IsSmallestHolder (r : Raster) (connect : Connect) (rule : Rule) (criterion : Criterion) (p n : ℕ) : Type 0 where
  pub node : IsNode r connect n
  pub kept : IsTrue (is_kept r connect rule criterion n)
  pub holds : IsIn r connect n p
  pub least : (m : ℕ) → IsNode r connect m → IsTrue (is_kept r connect rule criterion m) → IsIn r connect m p → IsNestedIn r connect n m

-- there is such a node for each defined pixel, and it is the one that the definition of the filtered plane takes
abbrev pub EachPixelHasASmallestHolder : Type 0
EachPixelHasASmallestHolder = (r : Raster) (connect : Connect) (rule : Rule) (criterion : Criterion) (p : ℕ)
    → IsPlane r → IsTrue (is_defined r p)
    → (n : ℕ) × (smallest r connect (holders r connect rule criterion p) ≡ Some n) × IsSmallestHolder r connect rule criterion p n
