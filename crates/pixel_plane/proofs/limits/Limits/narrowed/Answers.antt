use Rattle.std.proofs.Common.{◌≡◌, pos, neg_ℤ, to_z, of_z, w64, sym, subst, ℤ}
use Rattle.std.specs.Int.{int_max, int_min}
use Rattle.comp_tree.specs.Limits.{half_bound}
use Rattle.comp_tree.proofs.Exported.{half_most}
use Rattle.pixel_plane.specs.ImageLimits.{narrowed}
use Rattle.pixel_plane.specs.ValueRanges.{IsRangeOfValues, narrowed_range}
use Rattle.pixel_plane.proofs.OneLimits.{limits_are}
use Rattle.pixel_plane.proofs.Narrowing.{max_read, min_read}
use Rattle.pixel_plane.proofs.limits.Limits.narrowed.Goals as goal

pub invariant_of-result : goal.invariant_of-result
invariant_of-result c =
    let limits = c.args.self.now in
    let bound = half_bound c.args.count in
    let low : to_z w64 (of_z w64 c.max.result) ≡ int_max limits.least (neg_ℤ (pos bound)) =
    max_read limits.least bound _ _ c.half_bound-bound.ensures (half_most c.args.count) limits.range.least_low limits.range.least_high c.max.ensures.value in
    let high : to_z w64 (of_z w64 c.min.result) ≡ int_min limits.greatest (pos bound) =
    min_read limits.greatest bound _ _ c.half_bound-bound.ensures (half_most c.args.count) limits.range.greatest_low limits.range.greatest_high
    c.min.ensures.value in
    record {
      range = subst (λ (l : ℤ). IsRangeOfValues l (to_z w64 (of_z w64 c.min.result))) (sym low)
          (subst (λ (g : ℤ). IsRangeOfValues (int_max limits.least (neg_ℤ (pos bound))) g) (sym high)
          (narrowed_range limits.least limits.greatest c.args.count limits.range));
    }

pub returns : goal.returns
unfolding narrowed
returns c =
    let limits = c.args.self.now in
    let bound = half_bound c.args.count in
    limits_are limits.pixels _ _ _ _ _ (narrowed_range limits.least limits.greatest c.args.count limits.range)
    (max_read limits.least bound _ _ c.half_bound-bound.ensures (half_most c.args.count) limits.range.least_low limits.range.least_high c.max.ensures.value)
    (min_read limits.greatest bound _ _ c.half_bound-bound.ensures (half_most c.args.count) limits.range.greatest_low limits.range.greatest_high
    c.min.ensures.value)
