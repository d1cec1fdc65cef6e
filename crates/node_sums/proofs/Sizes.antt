-- How large sums over pixels of a plane are.
use Rattle.std.proofs.Common.{◌≡◌, ℕ, ◌+◌, ◌*◌, ◌^◌, ◌≤◌, ◌<◌, zero, suc, Bool, List, [], ◌∷◌, length, refl, sym, ap, subst, arith, inl, inr}
use Rattle.std.specs.Prelude.{ℤ, pos, negsuc, neg_ℤ, ◌+ℤ◌, ◌-ℤ◌, ◌*ℤ◌, ◌≤ℤ◌, filter, sum_by, Option}
use Rattle.std.specs.Prelude.{Some, None, slice_get, slice_index_or, unwrap_or, unsigned_abs}
use Rattle.std.proofs.lemmas.Int.{ints, unsigned_abs-mul}
use Rattle.std.proofs.lemmas.Nat.{mul-le, mod_below}
use Rattle.std.proofs.lemmas.List.Sums.{sum_by-le, length-filter, count_by-le-length}
use Rattle.std.specs.List.{range_with_len}
use Rattle.std.proofs.lemmas.List.FromFn.{length-range_with_len}
use Rattle.std.proofs.Math.Nat.{mul-le-mul_left, mul_comm, mul-suc}
use Rattle.lemmas.proofs.Exported.{IsAmong, all_from_among, among_from_filter, among_from_range}
use Rattle.comp_tree.specs.Limits.{IsWithin, IsWithinRange, value_bound}
use Rattle.comp_tree.proofs.Exported.{bound_most, bound_of_sum, row_below, within_range}
use Rattle.comp_tree.specs.Raster.{Raster, IsPlane, HasValuesInRange, level, value_at}
use Rattle.node_sums.specs.Sums.{sums_over, x_of, y_of, total, least, greatest}
use Rattle.node_sums.specs.Sizes.{IsUpTo, HasSizes, level_bound, moment_bound, total_bound}

-- ---- whole numbers between -m and m

pub up_to_from_abs : (m : ℕ) (z : ℤ) → unsigned_abs z ≤ m → IsUpTo m z
up_to_from_abs m (pos n) h = record { low = omega (arith, ints); high = omega (arith, ints) }
up_to_from_abs m (negsuc n) h = record { low = omega (arith, ints); high = omega (arith, ints) }

pub abs_up_to : (m : ℕ) (z : ℤ) → IsUpTo m z → unsigned_abs z ≤ m
abs_up_to m (pos n) h = let k : pos n ≤ℤ pos m = h.high in omega (arith, ints)
abs_up_to m (negsuc n) h = let k : neg_ℤ (pos m) ≤ℤ negsuc n = h.low in omega (arith, ints)

pub up_to-plus : (m n : ℕ) (a b : ℤ) → IsUpTo m a → IsUpTo n b → IsUpTo (m + n) (a +ℤ b)
up_to-plus m n a b h k = record { low = omega (arith, ints, h.low, k.low); high = omega (arith, ints, h.high, k.high) }

pub up_to-minus : (m n : ℕ) (a b : ℤ) → IsUpTo m a → IsUpTo n b → IsUpTo (m + n) (a -ℤ b)
up_to-minus m n a b h k = record { low = omega (arith, ints, h.low, k.high); high = omega (arith, ints, h.high, k.low) }

pub up_to_more : (m n : ℕ) (z : ℤ) → IsUpTo m z → m ≤ n → IsUpTo n z
up_to_more m n z h l = record { low = omega (arith, ints, h.low); high = omega (arith, ints, h.high) }

pub up_to-times : (m k x : ℕ) (z : ℤ) → IsUpTo m z → x ≤ k → IsUpTo (m * k) (z *ℤ pos x)
up_to-times m k x z h l =
    up_to_from_abs (m * k) (z *ℤ pos x)
    (subst (λ (n : ℕ). n ≤ m * k) (sym (unsigned_abs-mul z (pos x))) (mul-le (unsigned_abs z) x m k (abs_up_to m z h) l))

times_suc : (m n : ℕ) → m + m * n ≡ m * suc n
times_suc m n = let e : m * suc n ≡ m * n + m = mul-suc m n in omega arith

pub total-up_to : (f : ℕ → ℤ) (m : ℕ) (ps : List ℕ) → ((p : ℕ) → IsAmong p ps → IsUpTo m (f p)) → IsUpTo (m * length ps) (total f ps)
total-up_to f m [] h = record { low = omega (arith, ints); high = omega (arith, ints) }
total-up_to f m (p ∷ ps) h =
    subst (λ (n : ℕ). IsUpTo n (f p +ℤ total f ps)) (times_suc m (length ps))
    (up_to-plus m (m * length ps) (f p) (total f ps) (h p (inl refl)) (total-up_to f m ps (λ q k. h q (inr k))))

-- ---- pixels

pub value_within : (values : List (Option ℤ)) (p : ℕ) (v : ℤ) → HasValuesInRange values → value_at values p ≡ Some v → IsWithin (value_bound (length values)) v
value_within values p v h e = h p v (found values p e)
  where
    found : (xs : List (Option ℤ)) (n : ℕ) → slice_index_or xs n None ≡ Some v → slice_get xs n ≡ Some (Some v)
    found [] n e = absurd (cc)
    found (x ∷ xs) zero e = ap Some e
    found (x ∷ xs) (suc n) e = found xs n e

pub value_in_range : (values : List (Option ℤ)) (p : ℕ) (v : ℤ) → HasValuesInRange values → value_at values p ≡ Some v → IsWithinRange v
value_in_range values p v h e = within_range (length values) v (value_within values p v h e)

pub level_within : (r : Raster) (p : ℕ) → HasValuesInRange r.values → IsUpTo (value_bound (length r.values)) (level r p)
unfolding level
level_within r p h = go (value_at r.values p) refl
  where
    go : (o : Option ℤ) → value_at r.values p ≡ o → IsUpTo (value_bound (length r.values)) (unwrap_or o (pos 0))
    go None e = record { low = omega (arith, ints); high = omega (arith, ints) }
    go (Some v) e = let k : IsWithin (value_bound (length r.values)) v = value_within r.values p v h e in record { low = k.low; high = k.high }

pub level_up_to : (r : Raster) (p : ℕ) → HasValuesInRange r.values → IsUpTo level_bound (level r p)
level_up_to r p h = up_to_more (value_bound (length r.values)) level_bound (level r p) (level_within r p h) (bound_most (length r.values))

pub x_small : (r : Raster) (p : ℕ) → x_of r p ≤ 65535
x_small r p = omega (arith, mod_below p r.shape.width r.shape.within_limits.some_columns, r.shape.within_limits.few_columns)

pub y_small : (r : Raster) (p : ℕ) → IsPlane r → p < length r.values → y_of r p ≤ 65535
y_small r p plane h =
    omega (
      arith,
      row_below r.shape.width r.shape.height p (subst (λ (n : ℕ). p < n) plane h),
      r.shape.within_limits.few_rows,
    )

-- ---- the sums

-- each number in the list is a pixel's, and its value is in the range of values
pub record ArePixels (r : Raster) (ps : List ℕ) : Type 0 where
  pub few : length ps ≤ length r.values
  pub below : (p : ℕ) → IsAmong p ps → p < length r.values
  pub small : (p : ℕ) → IsAmong p ps → IsUpTo (value_bound (length r.values)) (level r p)

by_square : (s : ℕ) (k n : ℕ) → s ≤ n * k → s ≤ k * n
by_square s k n h = subst (λ (t : ℕ). s ≤ t) (mul_comm n k) h

sum_small : (f : ℕ → ℕ) (k : ℕ) (ps : List ℕ) → ((p : ℕ) → IsAmong p ps → f p ≤ k) → sum_by f ps ≤ k * length ps
sum_small f k ps h = by_square (sum_by f ps) k (length ps) (sum_by-le f k ps (all_from_among (λ p. f p ≤ k) ps h))

product_small : (a b : ℕ) → a ≤ 65535 → b ≤ 65535 → a * b ≤ 2 ^ 32
product_small a b h k = let l : a * b ≤ 65536 * 65536 = mul-le a b 65536 65536 (omega arith) (omega arith) in l

pub moment_up_to : (z : ℤ) (x : ℕ) → IsUpTo level_bound z → x ≤ 65535 → IsUpTo moment_bound (z *ℤ pos x)
moment_up_to z x h k = up_to-times level_bound 65536 x z h (omega arith)

pub sizes : (r : Raster) (ps : List ℕ) → IsPlane r → ArePixels r ps → HasSizes (sums_over r ps)
unfolding sums_over
sizes r ps plane k = record {
  area = omega (arith, k.few, plane, r.shape.within_limits.few_pixels);
  r = up_to_more (value_bound (length r.values) * length ps) total_bound (total (level r) ps) (total-up_to (level r) (value_bound (length r.values)) ps (λ p m.
      k.small p m)) (omega (arith, mul-le-mul_left (value_bound (length r.values)) k.few, bound_of_sum (length r.values) (omega (arith, plane, r.shape.within_limits.few_pixels))));
  x = sum_small (x_of r) (2 ^ 16) ps (λ p m. omega (arith, x_small r p));
  y = sum_small (y_of r) (2 ^ 16) ps (λ p m. omega (arith, y_small r p plane (k.below p m)));
  xx = sum_small (λ p. x_of r p * x_of r p) (2 ^ 32) ps (λ p m. product_small (x_of r p) (x_of r p) (x_small r p) (x_small r p));
  xy = sum_small (λ p. x_of r p * y_of r p) (2 ^ 32) ps (λ p m. product_small (x_of r p) (y_of r p) (x_small r p) (y_small r p plane (k.below p m)));
  yy = sum_small (λ p. y_of r p * y_of r p) (2 ^ 32) ps
      (λ p m. product_small (y_of r p) (y_of r p) (y_small r p plane (k.below p m)) (y_small r p plane (k.below p m)));
  rx = total-up_to (λ p. level r p *ℤ pos (x_of r p)) moment_bound ps (λ p m. moment_up_to (level r p) (x_of r p) (small p m) (x_small r p));
  ry = total-up_to (λ p. level r p *ℤ pos (y_of r p)) moment_bound ps
      (λ p m. moment_up_to (level r p) (y_of r p) (small p m) (y_small r p plane (k.below p m)));
}
  where
    small : (p : ℕ) → IsAmong p ps → IsUpTo level_bound (level r p)
    small p m = up_to_more (value_bound (length r.values)) level_bound (level r p) (k.small p m) (bound_most (length r.values))

-- the least and the greatest number of some pixels
pub least_at_most : (f : ℕ → ℕ) (ps : List ℕ) (p : ℕ) → IsAmong p ps → least f ps ≤ f p
least_at_most f [] p m = absurd m
least_at_most f (q ∷ ps) p (inl e) = let g : f q ≡ f p = ap f e in omega arith
least_at_most f (q ∷ ps) p (inr m) = let g : least f ps ≤ f p = least_at_most f ps p m in omega arith

pub greatest_at_least : (f : ℕ → ℕ) (ps : List ℕ) (p : ℕ) → IsAmong p ps → f p ≤ greatest f ps
greatest_at_least f [] p m = absurd m
greatest_at_least f (q ∷ ps) p (inl e) = let g : f q ≡ f p = ap f e in omega arith
greatest_at_least f (q ∷ ps) p (inr m) = let g : f p ≤ greatest f ps = greatest_at_least f ps p m in omega arith

pub greatest_up_to : (f : ℕ → ℕ) (k : ℕ) (ps : List ℕ) → ((p : ℕ) → IsAmong p ps → f p ≤ k) → greatest f ps ≤ k
greatest_up_to f k [] h = omega arith
greatest_up_to f k (q ∷ ps) h =
    let a : f q ≤ k = h q (inl refl) in
    let b : greatest f ps ≤ k = greatest_up_to f k ps (λ p m. h p (inr m)) in
    omega arith

pub length-filter-le : (test : ℕ → Bool) (xs : List ℕ) → length (filter test xs) ≤ length xs
length-filter-le test xs = rw (length-filter test xs) (count_by-le-length test xs)

-- the first count pixels, where their values are in the range
pub filtered_pixels : (r : Raster) (test : ℕ → Bool) (count : ℕ) → IsPlane r → count ≤ length r.values → ((q : ℕ) → q < count → IsUpTo (value_bound (length r.values)) (level r q))
    → ArePixels r (filter test (range_with_len 0 count))
filtered_pixels r test count plane few small = record {
  few = omega (arith, length-filter-le test (range_with_len 0 count), length-range_with_len 0 count, few);
  below = λ p m. let h : p < count = inside p m in omega arith;
  small = λ p m. small p (inside p m);
}
  where
    inside : (p : ℕ) → IsAmong p (filter test (range_with_len 0 count)) → p < count
    inside p m = let h : (0 ≤ p) × (p < 0 + count) = among_from_range 0 count p (among_from_filter test p (range_with_len 0 count) m).0 in omega arith
