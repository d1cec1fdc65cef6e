-- A catalogue row from the sums of a node.
use Rattle.std.proofs.Common.{◌≡◌, ℕ, ◌+◌, ◌*◌, ◌^◌, ◌<◌, ◌≤◌, true, length, refl, sym, ◌∙◌, ap, subst, arith, lit<}
use Rattle.std.specs.Prelude.{ℤ, pos, ◌-ℤ◌, ◌*ℤ◌, ◌≤ℤ◌}
use Rattle.std.proofs.lemmas.Int.{ints, to_z-of_z}
use Rattle.std.proofs.Math.Nat.{mul-le-mul_left}
use Rattle.std.specs.List.{range_with_len}
use Rattle.std.proofs.lemmas.List.FromFn.{length-range_with_len}
use mir.Syntax.{w64, w128}
use mir.Val.{SFits, of_z, to_z}
use Rattle.lemmas.proofs.Exported.{IsAmong, among-filter, among_from_filter, not_empty}
use Rattle.comp_tree.specs.declared.shape.Connect.{Connect}
use Rattle.comp_tree.specs.Raster.{Raster, IsPlane, HasValuesInRange, pixels, level}
use Rattle.comp_tree.specs.Components.{nodes, is_in_node, tree_of}
use Rattle.comp_tree.specs.Laws.{top_of}
use Rattle.comp_tree.specs.Limits.{value_bound}
use Rattle.comp_tree.proofs.Exported.{bound_of_sum, among_from_defined, below_from_defined, in_node-defined, top_inside}
use Rattle.node_sums.specs.declared.entry.Sums.{Sums}
use Rattle.node_sums.specs.Sums.{total, least, greatest, x_of, y_of, sums_over, sums_of}
use Rattle.comp_tree.specs.Nesting.{pixels_of, level_of_node}
use Rattle.node_sums.specs.Flux.{base_of, flux_of}
use Rattle.node_sums.specs.Sizes.{IsUpTo, HasSizes}
use Rattle.node_sums.proofs.Exported.{level_at_least, never_negative, BaseCase, at_root, at_child, base-case, base_up_to, base_within, fits, sizes, filtered_pixels}
use Rattle.node_sums.proofs.Exported.{level_within, length-filter-le, total-up_to, up_to_more, up_to-minus, x_small, y_small}
use Rattle.source_pick.specs.Catalogue.{centre_of, measured_row, catalogue_row, IsCentred}
use Rattle.source_pick.specs.Numbers.{IsMoment, IsMean, IsMeasured}
use Rattle.source_pick.proofs.OrderListing.{first_below}
use Rattle.source_pick.proofs.CellsMeans.{IsCentre, centred, moment_low, moment_high, sum_low, sum_high, least_low, greatest_high, greatest_small}

-- ---- the centre

pub row_centred : (number : ℕ) (level base flux : ℤ) (width : ℕ) (s : Sums) → IsMeasured number base flux width s
    → IsCentred (measured_row number level base flux width s)
unfolding measured_row
row_centred number level base flux width s k = record {
  left = across.above;
  right = across.below;
  bottom = along.above;
  top = along.below;
}
  where
    across : IsCentre (centre_of (s.rx -ℤ base *ℤ pos s.x) s.x flux s.area) s.xmin s.xmax
    across = centred (s.rx -ℤ base *ℤ pos s.x) s.x flux s.area s.xmin s.xmax k.across

    along : IsCentre (centre_of (s.ry -ℤ base *ℤ pos s.y) s.y flux s.area) s.ymin s.ymax
    along = centred (s.ry -ℤ base *ℤ pos s.y) s.y flux s.area s.ymin s.ymax k.along

-- ---- as the code reads the numbers

pub moment-read : (moment base : ℤ) (sum : ℕ) → IsMoment moment base sum → SFits w128 moment → SFits w64 base
    → IsMoment (to_z w128 (of_z w128 moment)) (to_z w64 (of_z w64 base)) sum
moment-read moment base sum k f g = rw (to_z-of_z w128 moment f, to_z-of_z w64 base g) k

pub moment_of : (base : ℤ) (s : Sums) → IsUpTo (2 ^ 37) base → HasSizes s → IsMoment s.rx base s.x
moment_of base s b h = record {
  moment_small = up_to_more (2 ^ 53 * s.area) (2 ^ 84) s.rx h.rx (omega (arith, h.area));
  base_small = b;
  sum_small = omega (arith, h.x, h.area);
}

pub moment_along : (base : ℤ) (s : Sums) → IsUpTo (2 ^ 37) base → HasSizes s → IsMoment s.ry base s.y
moment_along base s b h = record {
  moment_small = up_to_more (2 ^ 53 * s.area) (2 ^ 84) s.ry h.ry (omega (arith, h.area));
  base_small = b;
  sum_small = omega (arith, h.y, h.area);
}

pub weighted-read : (got moment base : ℤ) (sum : ℕ) → SFits w128 got → SFits w128 moment → SFits w64 base
    → got ≡ to_z w128 (of_z w128 moment) -ℤ to_z w64 (of_z w64 base) *ℤ pos sum
    → to_z w128 (of_z w128 got) ≡ moment -ℤ base *ℤ pos sum
weighted-read got moment base sum f g h e =
    to_z-of_z w128 got f ∙ e ∙ ap (λ (z : ℤ). z -ℤ to_z w64 (of_z w64 base) *ℤ pos sum) (to_z-of_z w128 moment g)
    ∙ ap (λ (z : ℤ). moment -ℤ z *ℤ pos sum) (to_z-of_z w64 base h)

pub mean-read : (got weight : ℤ) (sum : ℕ) (flux : ℤ) (area low high : ℕ) → IsMean weight sum flux area low high → got ≡ weight → SFits w64 flux
    → IsMean got sum (to_z w64 (of_z w64 flux)) area low high
mean-read got weight sum flux area low high k e f = rw (e, to_z-of_z w64 flux f) k

pub centre_is : (got weighed weight : ℤ) (sum : ℕ) (flux : ℤ) (area : ℕ) → SFits w64 got → SFits w64 flux → weighed ≡ weight
    → got ≡ centre_of weighed sum (to_z w64 (of_z w64 flux)) area
    → to_z w64 (of_z w64 got) ≡ centre_of weight sum flux area
centre_is got weighed weight sum flux area f g e h =
    to_z-of_z w64 got f ∙ h ∙ ap (λ (z : ℤ). centre_of z sum (to_z w64 (of_z w64 flux)) area) e
    ∙ ap (λ (z : ℤ). centre_of weight sum z area) (to_z-of_z w64 flux g)

pub moment_fits : (base : ℤ) (s : Sums) → IsUpTo (2 ^ 37) base → HasSizes s → SFits w128 s.rx
moment_fits base s b h = fits w128 (2 ^ 84) s.rx (moment_of base s b h).moment_small (lit< tt)

pub moment_fits_along : (base : ℤ) (s : Sums) → IsUpTo (2 ^ 37) base → HasSizes s → SFits w128 s.ry
moment_fits_along base s b h = fits w128 (2 ^ 84) s.ry (moment_along base s b h).moment_small (lit< tt)

-- ---- a node's numbers

module _ (r : Raster) (connect : Connect) (n : ℕ) (plane : IsPlane r) (range : HasValuesInRange r.values) (hn : n < length (nodes r connect)) where
  node_sizes : HasSizes (sums_of r connect n)
  unfolding sums_of pixels_of pixels
  node_sizes =
      sizes r (pixels_of r connect n) plane (filtered_pixels r (is_in_node r connect n) (length r.values) plane (omega arith) (λ q _. level_within r q range))

  inside : (p : ℕ) → IsAmong p (pixels_of r connect n) → is_in_node r connect n p ≡ true
  unfolding pixels_of
  inside p k = (among_from_filter (is_in_node r connect n) p (pixels r) k).1

  below : (p : ℕ) → IsAmong p (pixels_of r connect n) → p < length r.values
  below p k = below_from_defined r p (in_node-defined r connect n p (inside p k))

  top_among : IsAmong (top_of r connect n) (pixels_of r connect n)
  unfolding pixels_of
  top_among =
      among-filter (is_in_node r connect n) (top_of r connect n) (pixels r)
      (among_from_defined r (top_of r connect n) (in_node-defined r connect n (top_of r connect n) (top_inside r connect n hn))) (top_inside r connect n hn)

  some : 0 < length (pixels_of r connect n)
  some = not_empty (pixels_of r connect n) (top_of r connect n) top_among

  above_base : (p : ℕ) → IsAmong p (pixels_of r connect n) → pos 0 ≤ℤ (level r p -ℤ base_of (tree_of r connect) n)
  above_base p k = go (base-case r connect n plane hn)
    where
      high : level r (top_of r connect n) ≤ℤ level r p
      high = level_at_least r connect n p (inside p k)

      go : BaseCase r connect n → pos 0 ≤ℤ (level r p -ℤ base_of (tree_of r connect) n)
      go (at_root e b) = omega (arith, ints, high)
      go (at_child a e ha b l) = omega (arith, ints, high)

  area_few : length (pixels_of r connect n) ≤ 2147483647
  unfolding sums_of sums_over
  area_few = node_sizes.area

  flux_small : flux_of r connect n ≤ℤ pos (2 ^ 62)
  unfolding flux_of pixels_of pixels
  flux_small =
      let few : length (pixels_of r connect n) ≤ length r.values =
      omega (arith, length-filter-le (is_in_node r connect n) (range_with_len 0 (length r.values)), length-range_with_len 0 (length r.values)) in
      let most : value_bound (length r.values) * length r.values ≤ 2 ^ 61 =
      bound_of_sum (length r.values) (omega (arith, plane, r.shape.within_limits.few_pixels)) in
      let fewer : value_bound (length r.values) * length (pixels_of r connect n) ≤ value_bound (length r.values) * length r.values =
      mul-le-mul_left (value_bound (length r.values)) few in
      let both : (value_bound (length r.values) + value_bound (length r.values)) * length (pixels_of r connect n)
      ≡ value_bound (length r.values) * length (pixels_of r connect n) + value_bound (length r.values) * length (pixels_of r connect n) =
      omega arith in
      let each : IsUpTo ((value_bound (length r.values) + value_bound (length r.values)) * length (pixels_of r connect n))
      (total (λ p. level r p -ℤ base_of (tree_of r connect) n) (pixels_of r connect n)) =
      total-up_to (λ p. level r p -ℤ base_of (tree_of r connect) n) (value_bound (length r.values) + value_bound (length r.values)) (pixels_of r connect n)
      (λ p k. up_to-minus (value_bound (length r.values)) (value_bound (length r.values)) (level r p) (base_of (tree_of r connect) n)
      (level_within r p range) (base_within r connect n plane range hn)) in
      (up_to_more ((value_bound (length r.values) + value_bound (length r.values)) * length (pixels_of r connect n)) (2 ^ 62)
      (total (λ p. level r p -ℤ base_of (tree_of r connect) n) (pixels_of r connect n)) each (omega (arith, both, fewer, most))).high

  across : IsMean ((sums_of r connect n).rx -ℤ base_of (tree_of r connect) n *ℤ pos (sums_of r connect n).x) (sums_of r connect n).x (flux_of r connect n)
      (sums_of r connect n).area
      (sums_of r connect n).xmin (sums_of r connect n).xmax
  unfolding sums_of sums_over flux_of
  across = record {
    some = some;
    few = node_sizes.area;
    ordered =
        (let a : least (x_of r) (pixels_of r connect n) ≤ x_of r (top_of r connect n) = least_low (x_of r) (pixels_of r connect n) (top_of r connect n)
        top_among in
        let b : x_of r (top_of r connect n) ≤ greatest (x_of r) (pixels_of r connect n) =
        greatest_high (x_of r) (pixels_of r connect n) (top_of r connect n) top_among in
        omega arith);
    high_small = greatest_small (x_of r) 65535 (pixels_of r connect n) (λ p k. x_small r p);
    sum_low = sum_low (x_of r) (least (x_of r) (pixels_of r connect n)) (pixels_of r connect n) (λ p k. least_low (x_of r) (pixels_of r connect n) p k);
    sum_high = sum_high (x_of r) (greatest (x_of r) (pixels_of r connect n)) (pixels_of r connect n)
        (λ p k. greatest_high (x_of r) (pixels_of r connect n) p k);
    not_negative = never_negative r connect n plane hn;
    small = flux_small;
    moment_low = moment_low (level r) (x_of r) (base_of (tree_of r connect) n) (least (x_of r) (pixels_of r connect n)) (pixels_of r connect n)
        (λ p k. (above_base p k, least_low (x_of r) (pixels_of r connect n) p k));
    moment_high = moment_high (level r) (x_of r) (base_of (tree_of r connect) n) (greatest (x_of r) (pixels_of r connect n)) (pixels_of r connect n)
        (λ p k. (above_base p k, greatest_high (x_of r) (pixels_of r connect n) p k));
  }

  along : IsMean ((sums_of r connect n).ry -ℤ base_of (tree_of r connect) n *ℤ pos (sums_of r connect n).y) (sums_of r connect n).y (flux_of r connect n)
      (sums_of r connect n).area
      (sums_of r connect n).ymin (sums_of r connect n).ymax
  unfolding sums_of sums_over flux_of
  along = record {
    some = some;
    few = node_sizes.area;
    ordered =
        (let a : least (y_of r) (pixels_of r connect n) ≤ y_of r (top_of r connect n) = least_low (y_of r) (pixels_of r connect n) (top_of r connect n)
        top_among in
        let b : y_of r (top_of r connect n) ≤ greatest (y_of r) (pixels_of r connect n) =
        greatest_high (y_of r) (pixels_of r connect n) (top_of r connect n) top_among in
        omega arith);
    high_small = greatest_small (y_of r) 65535 (pixels_of r connect n) (λ p k. y_small r p plane (below p k));
    sum_low = sum_low (y_of r) (least (y_of r) (pixels_of r connect n)) (pixels_of r connect n) (λ p k. least_low (y_of r) (pixels_of r connect n) p k);
    sum_high = sum_high (y_of r) (greatest (y_of r) (pixels_of r connect n)) (pixels_of r connect n)
        (λ p k. greatest_high (y_of r) (pixels_of r connect n) p k);
    not_negative = never_negative r connect n plane hn;
    small = flux_small;
    moment_low = moment_low (level r) (y_of r) (base_of (tree_of r connect) n) (least (y_of r) (pixels_of r connect n)) (pixels_of r connect n)
        (λ p k. (above_base p k, least_low (y_of r) (pixels_of r connect n) p k));
    moment_high = moment_high (level r) (y_of r) (base_of (tree_of r connect) n) (greatest (y_of r) (pixels_of r connect n)) (pixels_of r connect n)
        (λ p k. (above_base p k, greatest_high (y_of r) (pixels_of r connect n) p k));
  }

  pub measured : (number : ℕ) → number ≤ 2147483647 → IsMeasured number (base_of (tree_of r connect) n) (flux_of r connect n) r.shape.width (sums_of r connect n)
  measured number h = record {
    few = h;
    some_columns = r.shape.within_limits.some_columns;
    few_columns = r.shape.within_limits.few_columns;
    few_rows = y_small r (sums_of r connect n).first plane (first_below r connect n plane hn);
    base_up_to = base_up_to r connect n plane range hn;
    sizes = node_sizes;
    across = across;
    along = along;
  }

-- ---- the row as it is read

pub row-same : (number : ℕ) (a b c x y z : ℤ) (v w : ℕ) (s t : Sums) → a ≡ x → b ≡ y → c ≡ z → v ≡ w → s ≡ t
    → measured_row number a b c v s ≡ measured_row number x y z w t
row-same number a b c x y z v w s t e f g h k =
    ap (λ (q : ℤ). measured_row number q b c v s) e ∙ ap (λ (q : ℤ). measured_row number x q c v s) f ∙ ap (λ (q : ℤ). measured_row number x y q v s) g
    ∙ ap (λ (q : ℕ). measured_row number x y z q s) h
    ∙ ap (λ (q : Sums). measured_row number x y z w q) k

pub row-is : (r : Raster) (connect : Connect) (number n : ℕ)
    → measured_row number (level_of_node r connect n) (base_of (tree_of r connect) n) (flux_of r connect n) r.shape.width (sums_of r connect n)
    ≡ catalogue_row r connect number n
unfolding catalogue_row
row-is r connect number n = refl

pub measured-same : (number : ℕ) (b c y z : ℤ) (v w : ℕ) (s t : Sums) → b ≡ y → c ≡ z → v ≡ w → s ≡ t → IsMeasured number y z w t → IsMeasured number b c v s
measured-same number b c y z v w s t f g h k m =
    subst (λ (q : ℤ). IsMeasured number q c v s) (sym f) (subst (λ (q : ℤ). IsMeasured number y q v s) (sym g)
    (subst (λ (q : ℕ). IsMeasured number y z q s) (sym h) (subst (λ (q : Sums). IsMeasured number y z w q) (sym k) m)))
