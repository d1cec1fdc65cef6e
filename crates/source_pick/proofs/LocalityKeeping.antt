-- The plane that keeps the pixels near those of at least the threshold agrees with the whole plane there.
use Rattle.std.proofs.Common.{◌≡◌, ℕ, ◌<◌, Bool, true, false, cond, length, refl, sym, ◌∙◌, ap, subst, arith, inl, inr}
use Rattle.std.specs.Prelude.{IsTrue, ℤ, Option, None, filter}
use Rattle.std.specs.List.{range_with_len, list_any}
use Rattle.std.proofs.lemmas.Bool.{true≢false, or_left, or_right}
use Rattle.std.proofs.lemmas.List.{length-map}
use Rattle.std.proofs.lemmas.List.FromFn.{get_or-map-range_with_len, length-range_with_len}
use Rattle.lemmas.proofs.Exported.{among-filter, any_from_among}
use Rattle.comp_tree.specs.declared.shape.Connect.{Connect}
use Rattle.comp_tree.specs.Raster.{Raster, IsPlane, pixels, value_at, at_least, is_at_least}
use Rattle.comp_tree.specs.Grid.{are_neighbours}
use Rattle.comp_tree.proofs.Exported.{are_neighbours_comm, among_from_defined, defined_from_at_least, below_from_defined}
use Rattle.source_pick.specs.declared.choice.Choice.{Choice}
use Rattle.source_pick.specs.Locality.{HaveSameSources, IsHighInEither, IsNearHighOfEither, AgreeNearHigh, is_beside_high, is_near_high, kept, KeptIsAPlane}
use Rattle.source_pick.specs.Locality.{KeptHasTheSameSources}
use Rattle.source_pick.proofs.Locality.{sources_are_local}

pub length-kept : (r : Raster) (connect : Connect) (h : ℤ) → length (kept r connect h).values ≡ length r.values
unfolding kept pixels
length-kept r connect h =
    length-map (range_with_len 0 (length r.values)) (λ p. cond (is_near_high r connect h p) (value_at r.values p) None)
    ∙ length-range_with_len 0 (length r.values)

pub shape-kept : (r : Raster) (connect : Connect) (h : ℤ) → (kept r connect h).shape ≡ r.shape
unfolding kept
shape-kept r connect h = refl

pub kept_is_a_plane : KeptIsAPlane
unfolding kept
kept_is_a_plane r connect h plane = length-kept r connect h ∙ plane

pub value-kept : (r : Raster) (connect : Connect) (h : ℤ) (p : ℕ) → p < length r.values
    → value_at (kept r connect h).values p ≡ cond (is_near_high r connect h p) (value_at r.values p) None
unfolding kept pixels
value-kept r connect h p l =
    get_or-map-range_with_len (λ q. cond (is_near_high r connect h q) (value_at r.values q) None) 0 (length r.values) p p None l (omega arith)

-- what is high in the plane that is kept is high in the whole one
high_in_whole : (r : Raster) (connect : Connect) (h : ℤ) (p : ℕ) → IsTrue (is_at_least (kept r connect h) h p) → IsTrue (is_at_least r h p)
high_in_whole r connect h p k = go (is_near_high r connect h p) (subst (λ (v : Option ℤ). at_least h v ≡ true) (value-kept r connect h p below) k)
  where
    inside : p < length (kept r connect h).values
    inside = below_from_defined (kept r connect h) p (defined_from_at_least (kept r connect h) h p k)

    below : p < length r.values
    below = omega (arith, length-kept r connect h, inside)

    go : (b : Bool) → at_least h (cond b (value_at r.values p) None) ≡ true → IsTrue (is_at_least r h p)
    go true m = m
    go false m = absurd (true≢false (sym m))

high_in_either : (r : Raster) (connect : Connect) (h : ℤ) (p : ℕ) → IsHighInEither r (kept r connect h) h p → IsTrue (is_at_least r h p)
high_in_either r connect h p (inl k) = k
high_in_either r connect h p (inr k) = high_in_whole r connect h p k

pub near_from_neighbour : (r : Raster) (connect : Connect) (h : ℤ) (p q : ℕ) → IsTrue (is_at_least r h q) → IsTrue (are_neighbours connect r.shape.width q p)
    → IsTrue (is_near_high r connect h p)
unfolding is_near_high is_beside_high
near_from_neighbour r connect h p q k n =
    or_right (is_at_least r h p) (list_any (is_at_least r h) (filter (are_neighbours connect r.shape.width p) (pixels r)))
    (any_from_among (is_at_least r h) q (filter (are_neighbours connect r.shape.width p) (pixels r))
    (among-filter (are_neighbours connect r.shape.width p) q (pixels r) (among_from_defined r q (defined_from_at_least r h q k))
    (are_neighbours_comm connect r.shape.width p q ∙ n)) k)

pub near_from_own : (r : Raster) (connect : Connect) (h : ℤ) (p : ℕ) → IsTrue (is_at_least r h p) → IsTrue (is_near_high r connect h p)
unfolding is_near_high
near_from_own r connect h p k = or_left (is_at_least r h p) (is_beside_high r connect h p) k

near_from : (r : Raster) (connect : Connect) (h : ℤ) (p : ℕ) → IsNearHighOfEither r (kept r connect h) connect h p → IsTrue (is_near_high r connect h p)
near_from r connect h p (inl k) = near_from_own r connect h p (high_in_either r connect h p k)
near_from r connect h p (inr (q, k, n)) = near_from_neighbour r connect h p q (high_in_either r connect h q k) n

pub kept_agrees : (r : Raster) (connect : Connect) (h : ℤ) → AgreeNearHigh r (kept r connect h) connect h
kept_agrees r connect h = record {
  same_shape = sym (shape-kept r connect h);
  same = λ p l k. sym (value-kept r connect h p l ∙ ap (λ (b : Bool). cond b (value_at r.values p) None) (near_from r connect h p k));
}

pub kept_has_the_same_sources : KeptHasTheSameSources
kept_has_the_same_sources r connect choice plane =
    sources_are_local r (kept r connect choice.threshold) connect choice plane (kept_is_a_plane r connect choice.threshold plane)
    (kept_agrees r connect choice.threshold)

-- so has a plane that is this one
pub cleared_has_the_same_sources : (r s : Raster) (connect : Connect) (choice : Choice) (h : ℤ) → IsPlane r → choice.threshold ≡ h → s ≡ kept r connect h
    → HaveSameSources r s connect choice
cleared_has_the_same_sources r s connect choice h plane e same =
    subst (λ (x : Raster). HaveSameSources r x connect choice) (ap (kept r connect) e ∙ sym same) (kept_has_the_same_sources r connect choice plane)
