-- The plane of the marked pixels.
use Rattle.std.proofs.Common.{◌≡◌, ℕ, ◌<◌, ◌≤◌, cond, List, length, map, sym, ◌∙◌, ap, refl, subst, arith}
use Rattle.std.specs.Prelude.{Bool, true, false, ℤ, Option, None, Some, slice_index_or, IfSome}
use Rattle.std.specs.List.{range_with_len}
use Rattle.std.proofs.lemmas.List.{length-map, ext_get_or}
use Rattle.std.proofs.lemmas.List.FromFn.{get_or-map-range_with_len, length-range_with_len}
use Rattle.comp_tree.specs.declared.shape.Shape.{Shape}
use Rattle.comp_tree.specs.Raster.{Raster, HasValuesWithin, pixels, value_at, without_unmarked}
use Rattle.comp_tree.specs.Limits.{IsWithin}
use Rattle.std.proofs.lemmas.Option.{get_or_from_slice_get, slice_get_within}
use Rattle.comp_tree.proofs.Values.{in_range-value}
use Rattle.comp_tree.proofs.Blocks.{length-marked, marked-at}
use Rattle.comp_tree.specs.Stored.{IsClearedUpTo, marked_values}

pub cleared_all : (r plane : Raster) (marks : List Bool) (count : ℕ) → IsClearedUpTo r marks count plane → length r.values ≤ count
    → plane ≡ without_unmarked r marks
unfolding without_unmarked pixels
cleared_all r plane marks count h all = ap (λ (s : Shape). let x : Raster = record { shape = s; values = plane.values } in x) h.same_shape
    ∙ ap (λ (vs : List (Option ℤ)). let x : Raster = record { shape = r.shape; values = vs } in x) same
  where
    f : ℕ → Option ℤ
    f p = cond (slice_index_or marks p false) (value_at r.values p) None

    same : plane.values ≡ map (λ p. cond (slice_index_or marks p false) (value_at r.values p) None) (range_with_len 0 (length r.values))
    same = ext_get_or None plane.values (map (λ p. cond (slice_index_or marks p false) (value_at r.values p) None) (range_with_len 0 (length r.values)))
        (h.one_each ∙ sym (length-map (range_with_len 0 (length r.values))
        (λ p. cond (slice_index_or marks p false) (value_at r.values p) None) ∙ length-range_with_len 0 (length r.values)))
        (λ q l. let b : q < length r.values = omega (arith, h.one_each) in
        h.done q (omega arith)
        ∙ sym (get_or-map-range_with_len (λ p. cond (slice_index_or marks p false) (value_at r.values p) None) 0 (length r.values) q q None b (omega arith)))

pub from-marked_values : (r : Raster) (marks : List Bool)
    → (let x : Raster = record { shape = r.shape; values = marked_values r.values marks } in x) ≡ without_unmarked r marks
unfolding without_unmarked marked_values pixels
from-marked_values r marks = refl

-- a marked pixel's value is one of the plane's
pub within-marked : (bound : ℕ) (values : List (Option ℤ)) (marks : List Bool) → HasValuesWithin bound values → HasValuesWithin bound (marked_values values marks)
within-marked bound values marks range p v is = got (value_at (marked_values values marks) p) inside value
  where
    lt : p < length values
    lt = subst (λ n. p < n) (length-marked values marks) (slice_get_within (marked_values values marks) p (Some v) is)

    value : value_at (marked_values values marks) p ≡ Some v
    value = get_or_from_slice_get (marked_values values marks) p (Some v) None is

    choose : (b : Bool) → IfSome (cond b (value_at values p) None) (λ w. IsWithin bound w)
    choose true = in_range-value bound values p range
    choose false = tt

    inside : IfSome (value_at (marked_values values marks) p) (λ w. IsWithin bound w)
    inside = subst (λ (o : Option ℤ). IfSome o (λ w. IsWithin bound w)) (sym (marked-at values marks p lt)) (choose (slice_index_or marks p false))

    got : (o : Option ℤ) → IfSome o (λ w. IsWithin bound w) → o ≡ Some v → IsWithin bound v
    got None h e = absurd cc
    got (Some w) h e = let same : w ≡ v = cc in subst (λ (z : ℤ). IsWithin bound z) same h
