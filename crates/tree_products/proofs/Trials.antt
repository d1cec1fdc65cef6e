-- The trial's image: its states, its values, and how large what is made of it is.
use Rattle.std.proofs.Common.{◌≡◌, ℕ, ◌+◌, ◌*◌, ◌/◌, ◌^◌, ◌<◌, ◌≤◌, zero, suc, List, [], ◌∷◌, length, map}
use Rattle.std.proofs.Common.{refl, sym, ap, subst, get_or, ◌∙◌, arith}
use Rattle.std.specs.Prelude.{ℤ, pos, nat_le, Bool, true, false, cond, ◌-ℤ◌, ◌*ℤ◌, ◌≤ℤ◌, sum_by, slice_get, Option, Some, None, unwrap_or}
use Rattle.std.specs.List.{fold}
use Rattle.std.proofs.lemmas.Int.{ints}
use Rattle.std.proofs.lemmas.Nat.{mod_below}
use Rattle.std.proofs.lemmas.List.{length-map, get_or-map}
use Rattle.std.proofs.lemmas.Option.{slice_get_within, slice_get-get_or, get_or_from_slice_get}
use Rattle.comp_tree.specs.declared.shape.Shape.{Shape}
use Rattle.comp_tree.specs.declared.shape.Connect.{Connect}
use Rattle.comp_tree.specs.Raster.{Raster, IsPlane, value_at, level}
use Rattle.comp_tree.specs.ComponentTree.{ComponentTree}
use Rattle.comp_tree.specs.Components.{nodes, tree_of, is_in_node}
use Rattle.comp_tree.specs.Laws.{top_of}
use Rattle.comp_tree.specs.Raster.{HasValuesInHalfRange, pixels}
use Rattle.comp_tree.specs.Limits.{IsWithin, value_bound, half_bound}
use Rattle.comp_tree.proofs.Exported.{half_twice, within_more, length-pixels}
use Rattle.node_sums.specs.declared.entry.Sums.{Sums}
use Rattle.comp_tree.specs.Nesting.{pixels_of}
use Rattle.node_sums.specs.declared.outline.Outline.{Outline}
use Rattle.node_sums.specs.Sums.{sums_of, sums_in}
use Rattle.node_sums.specs.Outlines.{outline_of, outlines_in, AreOutlinesOfPlane}
use Rattle.node_sums.specs.Flux.{base_of, flux_of}
use Rattle.node_sums.specs.Sizes.{IsUpTo}
use Rattle.node_sums.proofs.Exported.{length-filter-le, up_to-minus, total-up_to, BaseCase, at_root, at_child, base-case, flux-is, length-sums_in}
use Rattle.tree_products.specs.Trials.{next_state, states_behind, value_of_state, trial_image}
use Rattle.tree_products.specs.SmallValues.{IsSmall, HasSmallValues}
use Rattle.tree_products.specs.TrialSizes.{HasSmallFluxes, flux_bound}

-- ---- its states

-- the state k steps behind a state
abbrev pub state_at : ℕ → ℕ → ℕ
state_at state zero = state
state_at state (suc k) = state_at (next_state state) k

pub state-next : (state k : ℕ) → state_at state (suc k) ≡ next_state (state_at state k)
state-next state zero = refl
state-next state (suc k) = state-next (next_state state) k

length-states : (state n : ℕ) → length (states_behind state n) ≡ n
unfolding states_behind
length-states state zero = refl
length-states state (suc n) = ap suc (length-states (next_state state) n)

value-of_state : (state n k : ℕ) → k < n → value_at (map value_of_state (states_behind state n)) k ≡ value_of_state (state_at state (suc k))
unfolding states_behind
value-of_state state zero k lt = absurd (omega arith)
value-of_state state (suc n) zero lt = refl
value-of_state state (suc n) (suc k) lt = value-of_state (next_state state) n k (omega arith)

-- ---- its values

pub trial_length : (seed : ℕ) (shape : Shape) → length (trial_image seed shape).values ≡ shape.width * shape.height
unfolding trial_image
trial_length seed shape = length-map (states_behind seed (shape.width * shape.height)) value_of_state ∙ length-states seed (shape.width * shape.height)

pub trial_shape : (seed : ℕ) (shape : Shape) → (trial_image seed shape).shape ≡ shape
unfolding trial_image
trial_shape seed shape = refl

pub trial_value : (seed : ℕ) (shape : Shape) (k : ℕ) → k < shape.width * shape.height
    → value_at (trial_image seed shape).values k ≡ value_of_state (state_at seed (suc k))
unfolding trial_image
trial_value seed shape k lt = value-of_state seed (shape.width * shape.height) k lt

next_below : (state : ℕ) → next_state state < 2 ^ 32
next_below state = mod_below (1664525 * state + 1013904223) (2 ^ 32) (omega arith)

-- a whole number from 0 to 255
pub record IsByte (value : ℤ) : Type 0 where
  pub low : pos 0 ≤ℤ value
  pub high : value ≤ℤ pos 255

pub byte-of_state : (state : ℕ) → state < 2 ^ 32 → IsByte (pos (state / 2 ^ 24))
byte-of_state state h = let l : state / 2 ^ 24 ≤ 255 = omega arith in record { low = omega (arith, ints); high = omega (arith, ints) }

bytes-of_states : (state n p : ℕ) (v : ℤ) → slice_get (map value_of_state (states_behind state n)) p ≡ Some (Some v) → IsByte v
unfolding states_behind
bytes-of_states state zero p v e = absurd (cc)
bytes-of_states state (suc n) zero v e =
    let f : pos (next_state state / 2 ^ 24) ≡ v = cc in subst IsByte f (byte-of_state (next_state state) (next_below state))
bytes-of_states state (suc n) (suc p) v e = bytes-of_states (next_state state) n p v e

pub trial_bytes : (seed : ℕ) (shape : Shape) (p : ℕ) (v : ℤ) → slice_get (trial_image seed shape).values p ≡ Some (Some v) → IsByte v
unfolding trial_image
trial_bytes seed shape p v e = bytes-of_states seed (shape.width * shape.height) p v e

bytes_half : (count : ℕ) → 255 ≤ half_bound count
unfolding half_bound
bytes_half count = go (nat_le count (2 ^ 24))
  where
    go : (b : Bool) → 255 ≤ cond b (2 ^ 36) (2 ^ 29)
    go true = omega arith
    go false = omega arith

-- a small value is within half of the range of any plane
pub small_in_half : (count : ℕ) (v : ℤ) → IsSmall v → IsWithin (half_bound count) v
small_in_half count v small = within_more 255 (half_bound count) v (bytes_half count) (record { low = small.low; high = small.high })

pub trial_is_storable : (seed : ℕ) (shape : Shape) → HasValuesInHalfRange (trial_image seed shape).values
trial_is_storable seed shape = record {
  each = λ p v e.
      let b : IsByte v = trial_bytes seed shape p v e in
      small_in_half (length (trial_image seed shape).values) v (record { low = omega (arith, ints, b.low); high = b.high });
}

pub trial_is_small : (seed : ℕ) (shape : Shape) → shape.width * shape.height ≤ 2 ^ 24 → HasSmallValues (trial_image seed shape).values
trial_is_small seed shape few = record {
  each = λ p v e. let b : IsByte v = trial_bytes seed shape p v e in record { low = omega (arith, ints, b.low); high = b.high };
  few = omega (arith, few, trial_length seed shape);
}

-- such a value is within 255, and a canvas of any shape can have that bound
pub byte_within : (v : ℤ) → IsByte v → IsWithin 255 v
byte_within v b = record { low = omega (arith, ints, b.low); high = b.high }

pub bytes_bounded : (count : ℕ) → 255 ≤ value_bound count
bytes_bounded count = omega (arith, bytes_half count, half_twice count)

-- ---- the level of a pixel

pub get_from_read : (xs : List (Option ℤ)) (p : ℕ) (v : ℤ) → value_at xs p ≡ Some v → slice_get xs p ≡ Some (Some v)
get_from_read [] p v e = absurd (cc)
get_from_read (x ∷ xs) zero v e = ap Some e
get_from_read (x ∷ xs) (suc p) v e = get_from_read xs p v e

-- what holds of 0 and of the value of a pixel holds of its level
pub level-from : (P : ℤ → Type 0) (r : Raster) (p : ℕ) → ((v : ℤ) → slice_get r.values p ≡ Some (Some v) → P v) → P (pos 0) → P (level r p)
unfolding level
level-from P r p each none = go (value_at r.values p) refl
  where
    go : (o : Option ℤ) → value_at r.values p ≡ o → P (unwrap_or o (pos 0))
    go None e = none
    go (Some v) e = each v (get_from_read r.values p v e)

-- ---- the fluxes over a plane of small values

small-level : (r : Raster) (p : ℕ) → HasSmallValues r.values → IsUpTo 255 (level r p)
small-level r p h =
    level-from (IsUpTo 255) r p (λ v e. let k : IsSmall v = h.each p v e in record { low = k.low; high = k.high })
    (record { low = omega (arith, ints); high = omega (arith, ints) })

small-base : (r : Raster) (connect : Connect) (n : ℕ) → IsPlane r → HasSmallValues r.values → n < length (nodes r connect)
    → IsUpTo 255 (base_of (tree_of r connect) n)
small-base r connect n plane small hn = go (base-case r connect n plane hn)
  where
    go : BaseCase r connect n → IsUpTo 255 (base_of (tree_of r connect) n)
    go (at_root e b) = subst (IsUpTo 255) (sym b) (small-level r (top_of r connect n) small)
    go (at_child a e ha b l) = subst (IsUpTo 255) (sym b) (small-level r (top_of r connect a) small)

up_to-area : (area : ℕ) (z : ℤ) → area ≤ 2 ^ 24 → IsUpTo (510 * area) z → z ≤ℤ pos flux_bound
up_to-area area z few h = omega (arith, ints, h.high)

few_of_node : (r : Raster) (connect : Connect) (n : ℕ) → length r.values ≤ 2 ^ 24 → length (pixels_of r connect n) ≤ 2 ^ 24
unfolding pixels_of
few_of_node r connect n few = omega (arith, length-filter-le (is_in_node r connect n) (pixels r), length-pixels r, few)

small-flux : (r : Raster) (connect : Connect) (n : ℕ) → IsPlane r → HasSmallValues r.values → n < length (nodes r connect)
    → flux_of r connect n ≤ℤ pos flux_bound
unfolding flux_of
small-flux r connect n plane small hn =
    up_to-area (length (pixels_of r connect n)) _ (few_of_node r connect n small.few)
    (total-up_to (λ p. level r p -ℤ base_of (tree_of r connect) n) 510 (pixels_of r connect n)
    (λ p m. up_to-minus 255 255 (level r p) (base_of (tree_of r connect) n) (small-level r p small) (small-base r connect n plane small hn)))

pub small_fluxes : (r : Raster) (tree : ComponentTree) (outlines : List Outline) → IsPlane r → HasSmallValues r.values → AreOutlinesOfPlane r tree outlines
    → HasSmallFluxes tree outlines
small_fluxes r tree outlines plane small of = record {
  each = λ n entry g.
      let same : outlines ≡ map outline_of (sums_in r of.connect) = of.outlines_are in
      let inside : n < length (nodes r of.connect) =
      omega (arith, slice_get_within outlines n entry g, ap length same, length-map (sums_in r of.connect) outline_of, length-sums_in r of.connect) in
      let there : n < length (sums_in r of.connect) = omega (arith, inside, length-sums_in r of.connect) in
      let got : slice_get (sums_in r of.connect) n ≡ Some (get_or (sums_in r of.connect) n (sums_of r of.connect n)) =
      slice_get-get_or (sums_in r of.connect) n (sums_of r of.connect n) there in
      let is : outline_of (get_or (sums_in r of.connect) n (sums_of r of.connect n)) ≡ entry =
      sym (get_or-map outline_of (sums_in r of.connect) n (sums_of r of.connect n) entry there)
      ∙ ap (λ (xs : List Outline). get_or xs n entry) (sym same) ∙ get_or_from_slice_get outlines n entry entry g in
      subst (λ (o : Outline). (o.r -ℤ base_of tree n *ℤ pos o.area) ≤ℤ pos flux_bound) is
      (subst (λ (z : ℤ). z ≤ℤ pos flux_bound)
      (sym (flux-is r of.connect tree (sums_in r of.connect) n (get_or (sums_in r of.connect) n (sums_of r of.connect n)) of.tree_is refl got))
      (small-flux r of.connect n plane small inside));
}

pub areas_of_outlines : (r : Raster) (connect : Connect) → sum_by (λ (o : Outline). o.area) (outlines_in r connect) ≡ sum_by (λ (s : Sums). s.area) (sums_in r connect)
areas_of_outlines r connect = same 0 (sums_in r connect)
  where
    same : (n : ℕ) (xs : List Sums) → fold (λ (a : ℕ) (o : Outline). a + o.area) n (map outline_of xs) ≡ fold (λ (a : ℕ) (s : Sums). a + s.area) n xs
    same n [] = refl
    same n (x ∷ xs) = same (n + x.area) xs
