-- Where area and flux alone are asked of from below, the rules agree.
use Rattle.std.proofs.Common.{◌≡◌, ℕ, ◌*◌, ◌<◌, ◌≤◌, Bool, true, ◌&&◌, ◌||◌, length, refl, sym, ◌∙◌, ap, arith, inl}
use Rattle.std.specs.Prelude.{ℤ, ◌≤ℤ◌, nat_le, int_le}
use Rattle.std.specs.List.{range_with_len}
use Rattle.std.proofs.lemmas.List.FromFn.{length-range_with_len}
use Rattle.std.proofs.lemmas.Int.{ints}
use Rattle.std.proofs.lemmas.Bool.{and_parts, and_from, leb-true, le-leb}
use Rattle.lemmas.proofs.Exported.{int_le-from, int_le-true, same_bool}
use Rattle.comp_tree.specs.declared.shape.Connect.{Connect}
use Rattle.comp_tree.specs.Raster.{Raster, IsPlane, pixels}
use Rattle.comp_tree.specs.Components.{nodes, is_in_node, tree_of}
use Rattle.comp_tree.specs.Laws.{IsNestedIn}
use Rattle.comp_tree.proofs.Exported.{within_from_test}
use Rattle.node_sums.specs.declared.entry.Sums.{Sums}
use Rattle.node_sums.specs.Sums.{sums_of}
use Rattle.comp_tree.specs.Nesting.{pixels_of, is_root}
use Rattle.node_sums.specs.Flux.{flux_of}
use Rattle.node_sums.proofs.Exported.{length-filter-le, flux_grows, sums-area}
use Rattle.filter_rules.specs.declared.rule.Rule.TheVariants.{Min, Max, Direct}
use Rattle.filter_rules.specs.declared.rule.Criterion.{Criterion}
use Rattle.filter_rules.specs.Criteria.{box_of, is_filled, admits, satisfies}
use Rattle.filter_rules.specs.Filtered.{satisfies_rule, is_kept}
use Rattle.filter_rules.specs.Laws.{RulesAgreeOnGrowingMeasures}
use Rattle.filter_rules.proofs.Around.{IsAbove, within_from_above, min_gives, min_from, IsKeptFor, max_gives, max_from}
use Rattle.filter_rules.proofs.Boxes.{length_grows}

pixels_grow : (r : Raster) (connect : Connect) (m n : ℕ) → IsNestedIn r connect n m → length (pixels_of r connect n) ≤ length (pixels_of r connect m)
unfolding pixels_of
pixels_grow r connect m n w = length_grows (is_in_node r connect n) (is_in_node r connect m) (pixels r) (λ p h. w p h)

-- what is known where the criterion is met
record IsAdmitted (criterion : Criterion) (s : Sums) (flux : ℤ) : Type 0 where
  large : criterion.min_area ≤ s.area
  bright : criterion.min_flux ≤ℤ flux

admitted : (criterion : Criterion) (s : Sums) (flux : ℤ) → admits criterion s flux ≡ true → IsAdmitted criterion s flux
admitted criterion s flux h =
    let a : ((nat_le criterion.min_area s.area && nat_le s.area criterion.max_area && int_le criterion.min_flux flux) ≡ true) × (is_filled criterion s ≡ true) =
    and_parts (nat_le criterion.min_area s.area && nat_le s.area criterion.max_area && int_le criterion.min_flux flux) (is_filled criterion s) h in
    let b : ((nat_le criterion.min_area s.area && nat_le s.area criterion.max_area) ≡ true) × (int_le criterion.min_flux flux ≡ true) =
    and_parts (nat_le criterion.min_area s.area && nat_le s.area criterion.max_area) (int_le criterion.min_flux flux) a.0 in
    let d : (nat_le criterion.min_area s.area ≡ true) × (nat_le s.area criterion.max_area ≡ true) =
    and_parts (nat_le criterion.min_area s.area) (nat_le s.area criterion.max_area) b.0 in
    record { large = leb-true criterion.min_area s.area d.0; bright = int_le-true criterion.min_flux flux b.1 }

admits-from : (criterion : Criterion) (s : Sums) (flux : ℤ) → criterion.min_fill ≡ 0 → s.area ≤ criterion.max_area
    → IsAdmitted criterion s flux → admits criterion s flux ≡ true
admits-from criterion s flux none few k =
    and_from (nat_le criterion.min_area s.area && nat_le s.area criterion.max_area && int_le criterion.min_flux flux) (is_filled criterion s)
    (and_from (nat_le criterion.min_area s.area && nat_le s.area criterion.max_area) (int_le criterion.min_flux flux)
    (and_from (nat_le criterion.min_area s.area) (nat_le s.area criterion.max_area) (le-leb criterion.min_area s.area k.large)
    (le-leb s.area criterion.max_area few))
    (int_le-from criterion.min_flux flux k.bright))
    (le-leb (criterion.min_fill * box_of s) (1000 * s.area) empty)
  where
    empty : criterion.min_fill * box_of s ≤ 1000 * s.area
    empty = let z : criterion.min_fill * box_of s ≡ 0 = ap (λ (k : ℕ). k * box_of s) none ∙ zero_times (box_of s) in omega (arith, z)
      where
        zero_times : (k : ℕ) → 0 * k ≡ 0
        zero_times k = omega arith

-- a node has at most the pixels of its plane
area_within : (r : Raster) (connect : Connect) (n : ℕ) → length (pixels_of r connect n) ≤ length r.values
unfolding pixels_of pixels
area_within r connect n =
    omega (arith, length-filter-le (is_in_node r connect n) (range_with_len 0 (length r.values)), length-range_with_len 0 (length r.values))

-- a node around one that satisfies does too
satisfies_grows : (r : Raster) (connect : Connect) (criterion : Criterion) (m n : ℕ) → IsPlane r → m < length (nodes r connect) → n < length (nodes r connect)
    → length r.values ≤ criterion.max_area → criterion.min_fill ≡ 0 → IsAbove (tree_of r connect).rows m n → satisfies r connect criterion n ≡ true
    → satisfies r connect criterion m ≡ true
unfolding satisfies
satisfies_grows r connect criterion m n plane hm hn most none a h =
    admits-from criterion (sums_of r connect m) (flux_of r connect m) none
    (omega (arith, most, sums-area r connect m, area_within r connect m))
    (record {
      large = omega (arith, k.large, sums-area r connect m, sums-area r connect n, pixels_grow r connect m n w);
      bright = omega (arith, ints, k.bright, flux_grows r connect m n plane hm hn w);
    })
  where
    w : IsNestedIn r connect n m
    w = within_from_test r connect n m (within_from_above r connect n m plane hn hm a)

    k : IsAdmitted criterion (sums_of r connect n) (flux_of r connect n)
    k = admitted criterion (sums_of r connect n) (flux_of r connect n) h

direct-is : (r : Raster) (connect : Connect) (criterion : Criterion) (n : ℕ) → satisfies_rule r connect Direct criterion n ≡ satisfies r connect criterion n
unfolding satisfies_rule
direct-is r connect criterion n = refl

pub rules_agree : RulesAgreeOnGrowingMeasures
unfolding is_kept
rules_agree r connect criterion n plane hn most none = (
  ap (λ (b : Bool). is_root (tree_of r connect) n || b) (min ∙ sym (direct-is r connect criterion n)),
  ap (λ (b : Bool). is_root (tree_of r connect) n || b) (max ∙ sym (direct-is r connect criterion n)),
)
  where
    min : satisfies_rule r connect Min criterion n ≡ satisfies r connect criterion n
    min =
        same_bool (satisfies_rule r connect Min criterion n) (satisfies r connect criterion n)
        (λ h. min_gives r connect criterion n n plane hn h hn (inl refl))
        (λ h. min_from r connect criterion n plane hn (λ m hm a. satisfies_grows r connect criterion m n plane hm hn most none a h))

    from : IsKeptFor r connect criterion n → satisfies r connect criterion n ≡ true
    from k = satisfies_grows r connect criterion n k.node plane hn k.listed most none k.within k.satisfied

    max : satisfies_rule r connect Max criterion n ≡ satisfies r connect criterion n
    max =
        same_bool (satisfies_rule r connect Max criterion n) (satisfies r connect criterion n)
        (λ h. from (max_gives r connect criterion n plane hn h))
        (λ h. max_from r connect criterion n n plane hn hn (inl refl) h)
