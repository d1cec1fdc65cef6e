-- The flux as it is computed from a tree and its sums.
use Rattle.std.proofs.Common.{◌≡◌, ℕ, ◌+◌, ◌*◌, ◌^◌, ◌≤◌, ◌<◌, List, length, refl, sym, ◌∙◌, ap, subst, arith, lit<, get_or}
use Rattle.std.specs.Prelude.{ℤ, pos, ◌-ℤ◌, ◌*ℤ◌, ◌≤ℤ◌, Some, slice_get}
use Rattle.std.specs.List.{range_with_len}
use Rattle.std.proofs.lemmas.Int.{to_z-of_z, to_z_pos}
use Rattle.std.proofs.lemmas.List.{length-map}
use Rattle.std.proofs.lemmas.List.FromFn.{length-range_with_len, get_or-map-range_with_len}
use Rattle.std.proofs.lemmas.Option.{slice_get_within, get_or_from_slice_get}
use mir.Syntax.{w64}
use mir.Val.{SFits, of_z, to_z}
use Rattle.comp_tree.specs.declared.shape.Connect.{Connect}
use Rattle.comp_tree.specs.Raster.{Raster, IsPlane, HasValuesInRange, pixels, level}
use Rattle.comp_tree.specs.ComponentTree.{ComponentTree}
use Rattle.comp_tree.specs.Components.{nodes, is_in_node, tree_of}
use Rattle.comp_tree.specs.Nesting.{pixels_of}
use Rattle.comp_tree.specs.Laws.{top_of}
use Rattle.comp_tree.proofs.Exported.{bound_most, bound_of_sum, length-rows}
use Rattle.comp_tree.specs.Limits.{value_bound}
use Rattle.node_sums.specs.declared.entry.Sums.{Sums}
use Rattle.node_sums.specs.Sums.{sums_over, sums_of, sums_in, AreSumsOfNode}
use Rattle.node_sums.specs.OutlinePasses.{AreTheTrees}
use Rattle.node_sums.specs.Flux.{base_of, flux_of}
use Rattle.node_sums.specs.Sizes.{IsUpTo, HasSizes, HasFluxSizes, level_bound, total_bound}
use Rattle.node_sums.proofs.Sizes.{sizes, filtered_pixels, level_within, length-filter-le, up_to-times, up_to-minus, up_to_more}
use Rattle.node_sums.proofs.Reading.{fits}
use Rattle.node_sums.proofs.Totals.{total-less}
use Rattle.node_sums.proofs.Fluxes.{BaseCase, at_root, at_child, base-case, never_negative}

pub length-sums_in : (r : Raster) (connect : Connect) → length (sums_in r connect) ≡ length (nodes r connect)
unfolding sums_in
length-sums_in r connect =
    length-map (range_with_len 0 (length (nodes r connect))) (sums_of r connect) ∙ length-range_with_len 0 (length (nodes r connect))

-- the entry of node n
entry_is : (r : Raster) (connect : Connect) (sums : List Sums) (n : ℕ) (entry : Sums) → sums ≡ sums_in r connect → slice_get sums n ≡ Some entry
    → entry ≡ sums_of r connect n
unfolding sums_in
entry_is r connect sums n entry e g =
    let inside : n < length (nodes r connect) = omega (arith, slice_get_within sums n entry g, ap length e, length-sums_in r connect) in
    sym (get_or_from_slice_get sums n entry entry g) ∙ ap (λ (xs : List Sums). get_or xs n entry) e
    ∙ get_or-map-range_with_len (sums_of r connect) 0 (length (nodes r connect)) n n entry inside (omega arith)

-- the flux by the sums of a node is the flux by the definition
pub sums-flux : (r : Raster) (connect : Connect) (n : ℕ)
    → (sums_of r connect n).r -ℤ base_of (tree_of r connect) n *ℤ pos (sums_of r connect n).area ≡ flux_of r connect n
unfolding sums_of sums_over flux_of
sums-flux r connect n = sym (total-less (level r) (base_of (tree_of r connect) n) (pixels_of r connect n))

pub flux-is : (r : Raster) (connect : Connect) (tree : ComponentTree) (sums : List Sums) (n : ℕ) (entry : Sums) → tree ≡ tree_of r connect
    → sums ≡ sums_in r connect
    → slice_get sums n ≡ Some entry → entry.r -ℤ base_of tree n *ℤ pos entry.area ≡ flux_of r connect n
flux-is r connect tree sums n entry e f g =
    ap (λ (s : Sums). s.r -ℤ base_of tree n *ℤ pos s.area) (entry_is r connect sums n entry f g)
    ∙ ap (λ (t : ComponentTree). (sums_of r connect n).r -ℤ base_of t n *ℤ pos (sums_of r connect n).area) e
    ∙ sums-flux r connect n

-- ---- the sums of some plane's tree

pub trees_rows : (tree : ComponentTree) (sums : List Sums) → AreTheTrees tree sums → length sums ≡ length tree.rows
trees_rows tree sums t =
    ap length t.of_plane.sums_are ∙ length-sums_in t.plane t.of_plane.connect ∙ sym (length-rows t.plane t.of_plane.connect)
    ∙ ap (λ (x : ComponentTree). length x.rows) (sym t.of_plane.tree_is)

pub flux_not_negative : (tree : ComponentTree) (sums : List Sums) (n : ℕ) (entry : Sums) → AreTheTrees tree sums → slice_get sums n ≡ Some entry
    → pos 0 ≤ℤ (entry.r -ℤ base_of tree n *ℤ pos entry.area)
flux_not_negative tree sums n entry t g =
    let inside : n < length (nodes t.plane t.of_plane.connect) =
    omega (arith, slice_get_within sums n entry g, ap length t.of_plane.sums_are, length-sums_in t.plane t.of_plane.connect) in
    subst (λ (z : ℤ). pos 0 ≤ℤ z) (sym (flux-is t.plane t.of_plane.connect tree sums n entry t.of_plane.tree_is t.of_plane.sums_are g))
    (never_negative t.plane t.of_plane.connect n t.one_each inside)

-- ---- sizes

pub base_within : (r : Raster) (connect : Connect) (n : ℕ) → IsPlane r → HasValuesInRange r.values → n < length (nodes r connect)
    → IsUpTo (value_bound (length r.values)) (base_of (tree_of r connect) n)
base_within r connect n plane range hn = go (base-case r connect n plane hn)
  where
    go : BaseCase r connect n → IsUpTo (value_bound (length r.values)) (base_of (tree_of r connect) n)
    go (at_root e b) = subst (IsUpTo (value_bound (length r.values))) (sym b) (level_within r (top_of r connect n) range)
    go (at_child a e ha b l) = subst (IsUpTo (value_bound (length r.values))) (sym b) (level_within r (top_of r connect a) range)

pub base_up_to : (r : Raster) (connect : Connect) (n : ℕ) → IsPlane r → HasValuesInRange r.values → n < length (nodes r connect)
    → IsUpTo level_bound (base_of (tree_of r connect) n)
base_up_to r connect n plane range hn =
    up_to_more (value_bound (length r.values)) level_bound (base_of (tree_of r connect) n) (base_within r connect n plane range hn) (bound_most (length r.values))

node_sizes : (r : Raster) (connect : Connect) (n : ℕ) → IsPlane r → HasValuesInRange r.values → HasSizes (sums_of r connect n)
unfolding sums_of pixels_of pixels
node_sizes r connect n plane range =
    sizes r (pixels_of r connect n) plane (filtered_pixels r (is_in_node r connect n) (length r.values) plane (omega arith) (λ q _. level_within r q range))

-- a node has at most the pixels of the plane
node_area : (r : Raster) (connect : Connect) (n : ℕ) → (sums_of r connect n).area ≤ length r.values
unfolding sums_of sums_over pixels_of pixels
node_area r connect n =
    omega (arith, length-filter-le (is_in_node r connect n) (range_with_len 0 (length r.values)), length-range_with_len 0 (length r.values))

-- the numbers from which the flux is computed, and those met on the way, fit
pub record FluxFits (sum base : ℤ) (area : ℕ) : Type 0 where
  pub few : area < 2 ^ 63
  pub sum_fits : SFits w64 sum
  pub base_fits : SFits w64 base
  pub product_fits : SFits w64 (base *ℤ pos area)
  pub flux_fits : SFits w64 (sum -ℤ base *ℤ pos area)

pub fits_from_sizes : (area : ℕ) (r base : ℤ) → HasFluxSizes area r base → FluxFits r base area
fits_from_sizes area r base h = record {
  few = omega (arith, h.few);
  sum_fits = fits w64 total_bound r h.sum (lit< tt);
  base_fits = fits w64 level_bound base h.level (lit< tt);
  product_fits = fits w64 total_bound (base *ℤ pos area) h.product (lit< tt);
  flux_fits = fits w64 (total_bound + total_bound) (r -ℤ base *ℤ pos area) (up_to-minus total_bound total_bound r (base *ℤ pos area) h.sum h.product)
      (lit< tt);
}

-- the area is at most that of the plane, and by the number of its pixels the base is bounded
flux_sizes : (count : ℕ) (s : Sums) (base : ℤ) → HasSizes s → count ≤ 2147483647 → s.area ≤ count → IsUpTo (value_bound count) base → HasFluxSizes s.area s.r base
flux_sizes count s base h few inside b = record {
  few = h.area;
  sum = h.r;
  level = up_to_more (value_bound count) level_bound base b (bound_most count);
  product = up_to_more (value_bound count * count) total_bound (base *ℤ pos s.area) (up_to-times (value_bound count) count s.area base b inside)
      (bound_of_sum count few);
}

pub flux_numbers : (tree : ComponentTree) (sums : List Sums) (n : ℕ) (entry : Sums) → AreTheTrees tree sums → slice_get sums n ≡ Some entry
    → HasFluxSizes entry.area entry.r (base_of tree n)
flux_numbers tree sums n entry t g =
    flux_sizes (length t.plane.values) entry (base_of tree n)
    (subst HasSizes (sym (entry_is t.plane t.of_plane.connect sums n entry t.of_plane.sums_are g))
    (node_sizes t.plane t.of_plane.connect n t.one_each t.in_range))
    (omega (arith, t.one_each, t.plane.shape.within_limits.few_pixels))
    (subst (λ (s : Sums). s.area ≤ length t.plane.values) (sym (entry_is t.plane t.of_plane.connect sums n entry t.of_plane.sums_are g))
    (node_area t.plane t.of_plane.connect n))
    (subst (λ (x : ComponentTree). IsUpTo (value_bound (length t.plane.values)) (base_of x n)) (sym t.of_plane.tree_is)
    (base_within t.plane t.of_plane.connect n t.one_each t.in_range inside))
  where
    inside : n < length (nodes t.plane t.of_plane.connect)
    inside = omega (arith, slice_get_within sums n entry g, ap length t.of_plane.sums_are, length-sums_in t.plane t.of_plane.connect)

-- ---- the sums of one node

pub node_in_rows : (tree : ComponentTree) (n : ℕ) (entry : Sums) → (t : AreSumsOfNode tree n entry) → n < length tree.rows → n < length (nodes t.plane t.connect)
node_in_rows tree n entry t h = omega (arith, h, ap (λ (x : ComponentTree). length x.rows) t.tree_is, length-rows t.plane t.connect)

pub flux_by_sums : (r : Raster) (connect : Connect) (tree : ComponentTree) (n : ℕ) (entry : Sums) → tree ≡ tree_of r connect → entry ≡ sums_of r connect n
    → entry.r -ℤ base_of tree n *ℤ pos entry.area ≡ flux_of r connect n
flux_by_sums r connect tree n entry e f =
    ap (λ (s : Sums). s.r -ℤ base_of tree n *ℤ pos s.area) f
    ∙ ap (λ (t : ComponentTree). (sums_of r connect n).r -ℤ base_of t n *ℤ pos (sums_of r connect n).area) e
    ∙ sums-flux r connect n

pub flux_by_sums_not_negative : (tree : ComponentTree) (n : ℕ) (entry : Sums) → AreSumsOfNode tree n entry → n < length tree.rows
    → pos 0 ≤ℤ (entry.r -ℤ base_of tree n *ℤ pos entry.area)
flux_by_sums_not_negative tree n entry t h =
    subst (λ (z : ℤ). pos 0 ≤ℤ z) (sym (flux_by_sums t.plane t.connect tree n entry t.tree_is t.sums_are))
    (never_negative t.plane t.connect n t.one_each (node_in_rows tree n entry t h))

pub flux_numbers_of_node : (tree : ComponentTree) (n : ℕ) (entry : Sums) → AreSumsOfNode tree n entry → n < length tree.rows
    → HasFluxSizes entry.area entry.r (base_of tree n)
flux_numbers_of_node tree n entry t h =
    flux_sizes (length t.plane.values) entry (base_of tree n)
    (subst HasSizes (sym t.sums_are) (node_sizes t.plane t.connect n t.one_each t.in_range))
    (omega (arith, t.one_each, t.plane.shape.within_limits.few_pixels))
    (subst (λ (s : Sums). s.area ≤ length t.plane.values) (sym t.sums_are) (node_area t.plane t.connect n))
    (subst (λ (x : ComponentTree). IsUpTo (value_bound (length t.plane.values)) (base_of x n)) (sym t.tree_is)
    (base_within t.plane t.connect n t.one_each t.in_range (node_in_rows tree n entry t h)))

-- ---- as the code computes it, where `got` is the base

pub product-read : (sum base got : ℤ) (area : ℕ) → FluxFits sum base area → got ≡ base → to_z w64 (of_z w64 got) *ℤ to_z w64 area ≡ base *ℤ pos area
product-read sum base got area f e = rw (e, to_z-of_z w64 base f.base_fits, to_z_pos w64 area f.few) refl

pub flux-read : (sum base got : ℤ) (area : ℕ) → FluxFits sum base area → got ≡ base
    → to_z w64 (of_z w64 sum) -ℤ to_z w64 (of_z w64 (to_z w64 (of_z w64 got) *ℤ to_z w64 area)) ≡ sum -ℤ base *ℤ pos area
flux-read sum base got area f e = rw (product-read sum base got area f e, to_z-of_z w64 sum f.sum_fits, to_z-of_z w64 (base *ℤ pos area) f.product_fits) refl

pub result-read : (sum base got : ℤ) (area : ℕ) → FluxFits sum base area → got ≡ base
    → to_z w64 (of_z w64 (to_z w64 (of_z w64 sum) -ℤ to_z w64 (of_z w64 (to_z w64 (of_z w64 got) *ℤ to_z w64 area)))) ≡ sum -ℤ base *ℤ pos area
result-read sum base got area f e = rw (flux-read sum base got area f e) (to_z-of_z w64 (sum -ℤ base *ℤ pos area) f.flux_fits)

-- the sum of values, and the flux, as they are handed on
sum-handed : (area : ℕ) (r base : ℤ) → HasFluxSizes area r base → to_z w64 (of_z w64 r) ≡ r
sum-handed area r base h = to_z-of_z w64 r (fits w64 total_bound r h.sum (lit< tt))

pub handed_sizes : (area : ℕ) (r base : ℤ) → HasFluxSizes area r base → HasFluxSizes area (to_z w64 (of_z w64 r)) base
handed_sizes area r base h = subst (λ (z : ℤ). HasFluxSizes area z base) (sym (sum-handed area r base h)) h

pub handed-flux : (area : ℕ) (r base result : ℤ) → HasFluxSizes area r base → result ≡ to_z w64 (of_z w64 r) -ℤ base *ℤ pos area
    → to_z w64 (of_z w64 result) ≡ r -ℤ base *ℤ pos area
handed-flux area r base result h e =
    let is : result ≡ r -ℤ base *ℤ pos area = e ∙ ap (λ (z : ℤ). z -ℤ base *ℤ pos area) (sum-handed area r base h) in
    ap (λ (z : ℤ). to_z w64 (of_z w64 z)) is ∙ to_z-of_z w64 (r -ℤ base *ℤ pos area) (fits_from_sizes area r base h).flux_fits
