-- The image of a trial as it is written, and what is told of it as it is counted.
use Rattle.std.proofs.Common.{◌≡◌, ℕ, ◌+◌, ◌*◌, ◌/◌, ◌^◌, ◌<◌, ◌≤◌, suc, inl, inr, List, length, sym, ap, subst, ◌∙◌, arith}
use Rattle.std.specs.Prelude.{ℤ, pos, ◌-ℤ◌, ◌*ℤ◌, ◌≤ℤ◌, unsigned_abs, sum_by, slice_get, Some}
use Rattle.std.specs.List.{range_with_len}
use Rattle.std.proofs.lemmas.Int.{ints, to_z-of_z, fits_signed_from_abs}
use Rattle.std.proofs.lemmas.List.{map-id}
use Rattle.std.proofs.lemmas.Option.{slice_get_cases}
use Rattle.std.proofs.lemmas.List.FromFn.{sum_by-map-range_with_len_more}
use mir.Syntax.{w64}
use mir.Val.{SFits, of_z, to_z}
use Rattle.comp_tree.specs.declared.shape.Shape.{Shape}
use Rattle.comp_tree.specs.declared.shape.Connect.{Connect}
use Rattle.comp_tree.specs.Limits.{IsWithin}
use Rattle.comp_tree.specs.Raster.{Raster, value_at}
use Rattle.comp_tree.specs.ComponentTree.{ComponentTree}
use Rattle.comp_tree.specs.Components.{tree_of}
use Rattle.node_sums.specs.declared.outline.Outline.{Outline}
use Rattle.node_sums.specs.Flux.{base_of, flux_of}
use Rattle.tree_products.specs.Trials.{next_state, value_of_state, trial_image, total_flux}
use Rattle.tree_products.specs.TrialSizes.{HasSmallFluxes, flux_bound}
use Rattle.tree_products.proofs.Trials.{state_at, state-next, trial_value, byte-of_state, byte_within}

-- ---- the image

value-fits : (state : ℕ) → state < 2 ^ 32 → SFits w64 (pos (state / 2 ^ 24))
value-fits state h = fits_signed_from_abs w64 (pos (state / 2 ^ 24)) (omega arith)

pub value-read : (state : ℕ) (got : ℤ) → state < 2 ^ 32 → got ≡ pos (state / 2 ^ 24) → to_z w64 (of_z w64 got) ≡ pos (state / 2 ^ 24)
value-read state got h e = ap (λ (z : ℤ). to_z w64 (of_z w64 z)) e ∙ to_z-of_z w64 (pos (state / 2 ^ 24)) (value-fits state h)

pub value-within : (most state : ℕ) (z : ℤ) → most ≡ 255 → state < 2 ^ 32 → z ≡ pos (state / 2 ^ 24) → IsWithin most z
value-within most state z m h e = subst (λ (b : ℕ). IsWithin b z) (sym m) (subst (λ (v : ℤ). IsWithin 255 v) (sym e) (byte_within _ (byte-of_state state h)))

pub state_more : (seed p state next : ℕ) → state ≡ state_at seed p → next ≡ next_state state → next ≡ state_at seed (p + 1)
state_more seed p state next is e = e ∙ ap next_state is ∙ sym (state-next seed p) ∙ ap (state_at seed) (let f : suc p ≡ p + 1 = omega arith in f)

pub value_more : (seed p state next : ℕ) (shape : Shape) (z : ℤ) → state ≡ state_at seed p → next ≡ next_state state → p < shape.width * shape.height
    → z ≡ pos (next / 2 ^ 24)
    → Some z ≡ value_at (trial_image seed shape).values p
value_more seed p state next shape z is e lt f =
    ap Some f ∙ ap value_of_state (e ∙ ap next_state is ∙ sym (state-next seed p)) ∙ sym (trial_value seed shape p lt)

-- ---- the fluxes

pub sum_range_more : (g : ℕ → ℕ) (n : ℕ) → sum_by g (range_with_len 0 (n + 1)) ≡ sum_by g (range_with_len 0 n) + g n
sum_range_more g n =
    ap (sum_by g) (sym (map-id (range_with_len 0 (n + 1)))) ∙ sum_by-map-range_with_len_more g (λ x. x) 0 n n (omega arith)
    ∙ ap (λ (xs : List ℕ). sum_by g xs + g n) (map-id (range_with_len 0 n))

abs_at_most : (z : ℤ) (b : ℕ) → pos 0 ≤ℤ z → z ≤ℤ pos b → unsigned_abs z ≤ b
abs_at_most (pos n) b low high = omega (arith, ints)
abs_at_most z b low high = omega (arith, ints)

-- the flux of a node, as it is computed
pub flux_at_most : (tree : ComponentTree) (outlines : List Outline) (n : ℕ) (flux : ℤ) → HasSmallFluxes tree outlines → n < length outlines
    → ((entry : Outline) → slice_get outlines n ≡ Some entry → flux ≡ entry.r -ℤ base_of tree n *ℤ pos entry.area) → pos 0 ≤ℤ flux → unsigned_abs flux ≤ flux_bound
flux_at_most tree outlines n flux small inside is low = elim (slice_get_cases outlines n).1 [
  | inl e ↦ abs_at_most flux flux_bound low (subst (λ (z : ℤ). z ≤ℤ pos flux_bound) (sym (is e.0 e.2)) (small.each n e.0 e.2))
  | inr past ↦ absurd (omega (arith, past.0))
]

pub total_flux-all : (r : Raster) (connect : Connect) (tree : ComponentTree) (n total : ℕ) → tree ≡ tree_of r connect → n ≡ length tree.rows
    → total ≡ sum_by (λ m. unsigned_abs (flux_of r connect m)) (range_with_len 0 n) → total ≡ total_flux r connect
unfolding total_flux
total_flux-all r connect tree n total is all e =
    e ∙ ap (λ (m : ℕ). sum_by (λ k. unsigned_abs (flux_of r connect k)) (range_with_len 0 m)) (all ∙ ap (λ (t : ComponentTree). length t.rows) is)
