-- Measures over lists of pixels: one pixel more, two sets of pixels that share none, how large they are, and what they are in the end.
use Rattle.std.proofs.Common.{◌≡◌, ℕ, ◌+◌, ◌-◌, ◌*◌, ◌^◌, ◌<◌, ◌≤◌, Bool, true, false, List, [], ◌∷◌, ◌++◌, length, map, refl, sym, ◌∙◌, ap, subst, arith, eqb, lit<}
use Rattle.std.specs.Prelude.{ℤ, pos, neg_ℤ, ◌+ℤ◌, ◌≤ℤ◌, Option, Some, None, filter, fold, unwrap_or}
use Rattle.std.specs.Int.{int_min, int_max}
use Rattle.std.specs.List.{range_with_len}
use Rattle.std.proofs.lemmas.Int.{ints, clamps, to_z-of_z}
use mir.Syntax.{w64}
use mir.Val.{SFits, of_z, to_z}
use Rattle.std.proofs.lemmas.Bool.Decides.{nat_tests}
use Rattle.std.proofs.lemmas.List.FromFn.{length-range_with_len}
use Rattle.lemmas.proofs.Exported.{IsAmong, among_from_filter, among_from_range, int_max_assoc, int_max_comm, int_min_assoc, int_min_comm, plus_assoc}
use Rattle.lemmas.proofs.Exported.{plus_comm, plus_z_assoc, plus_z_comm}
use Rattle.comp_tree.specs.Limits.{IsWithin, value_bound}
use Rattle.comp_tree.proofs.Exported.{bound_most, bound_of_sum}
use Rattle.std.proofs.Math.Nat.{mul-le-mul_left, mul-le-mul_right}
use Rattle.comp_tree.specs.Raster.{Raster, IsPlane, HasValuesInRange, is_defined, level, value_at}
use Rattle.node_sums.specs.Sums.{total, highest}
use Rattle.node_sums.specs.Sizes.{IsUpTo}
use Rattle.node_sums.proofs.Exported.{total-up_to, up_to_more, level_up_to, length-filter-le, fits}
use Rattle.comp_tree.proofs.Exported.{level-value}
use Rattle.dual_measure.specs.declared.values.Measure.{Measure}
use Rattle.dual_measure.specs.Measures.{measure_over, seen_of, missing_of, least_or_zero, greatest_or_zero, IsSumOf, HasMeasureSizes}
use Rattle.dual_measure.specs.Adding.{blank_measure, measure_at, combined, measured_so_far, settled_measure}

pub same_measure : (a b : Measure) → a.seen ≡ b.seen → a.missing ≡ b.missing → a.v ≡ b.v → a.low ≡ b.low → a.peak ≡ b.peak → a ≡ b
same_measure a b seen missing v low peak = λ i. record {
  seen = seen i;
  missing = missing i;
  v = v i;
  low = low i;
  peak = peak i;
}

-- ---- the laws of `combined`

combined_assoc : (a b c : Measure) → combined (combined a b) c ≡ combined a (combined b c)
combined_assoc a b c =
    same_measure _ _ (plus_assoc a.seen b.seen c.seen) (plus_assoc a.missing b.missing c.missing) (plus_z_assoc a.v b.v c.v) (int_min_assoc a.low b.low c.low)
    (int_max_assoc a.peak b.peak c.peak)

combined_comm : (a b : Measure) → combined a b ≡ combined b a
combined_comm a b =
    same_measure _ _ (plus_comm a.seen b.seen) (plus_comm a.missing b.missing) (plus_z_comm a.v b.v) (int_min_comm a.low b.low) (int_max_comm a.peak b.peak)

-- the middle one may be taken first
combined_swap : (a b c : Measure) → combined a (combined b c) ≡ combined b (combined a c)
combined_swap a b c = sym (combined_assoc a b c) ∙ ap (λ (m : Measure). combined m c) (combined_comm a b) ∙ combined_assoc b a c

-- ---- one pixel more

abbrev pub pixel_measure : Raster → ℕ → Measure
pixel_measure values p = measure_at (value_at values.values p)

pub so_far-none : (values : Raster) → measured_so_far values [] ≡ blank_measure
unfolding measured_so_far
so_far-none values = refl

so_far-cons : (values : Raster) (p : ℕ) (ps : List ℕ) → measured_so_far values (p ∷ ps) ≡ combined (pixel_measure values p) (measured_so_far values ps)
unfolding measured_so_far
so_far-cons values p ps = refl

pub so_far-push : (values : Raster) (p : ℕ) (ps : List ℕ)
    → measured_so_far values (ps ++ p ∷ []) ≡ combined (measured_so_far values ps) (pixel_measure values p)
so_far-push values p [] = so_far-cons values p [] ∙ combined_comm (pixel_measure values p) (measured_so_far values [])
so_far-push values p (q ∷ ps) =
    so_far-cons values q (ps ++ p ∷ []) ∙ ap (combined (pixel_measure values q)) (so_far-push values p ps)
    ∙ sym (combined_assoc (pixel_measure values q) (measured_so_far values ps) (pixel_measure values p))
    ∙ ap (λ (m : Measure). combined m (pixel_measure values p)) (sym (so_far-cons values q ps))

-- ---- two sets of pixels that share none

none_twice : (values : Raster) → measured_so_far values [] ≡ combined (measured_so_far values []) (measured_so_far values [])
unfolding measured_so_far
none_twice values = refl

pub so_far-union : (values : Raster) (all some others : ℕ → Bool) (ps : List ℕ)
    → ((q : ℕ) → some q ≡ true → (all q ≡ true) × (others q ≡ false))
    → ((q : ℕ) → some q ≡ false → all q ≡ others q)
    → measured_so_far values (filter all ps) ≡ combined (measured_so_far values (filter some ps)) (measured_so_far values (filter others ps))
so_far-union values all some others [] h k = none_twice values
so_far-union values all some others (p ∷ ps) h k = go (some p) (others p) refl refl (so_far-union values all some others ps h k)
  where
    go : (s o : Bool) → some p ≡ s → others p ≡ o
        → measured_so_far values (filter all ps) ≡ combined (measured_so_far values (filter some ps)) (measured_so_far values (filter others ps))
        → measured_so_far values (filter all (p ∷ ps))
        ≡ combined (measured_so_far values (filter some (p ∷ ps))) (measured_so_far values (filter others (p ∷ ps)))
    go true o u v ih =
        let in_all : all p ≡ true = (h p u).0 in
        let not_other : others p ≡ false = (h p u).1 in
        rw (in_all, u, not_other, so_far-cons values p (filter all ps), so_far-cons values p (filter some ps), ih)
        (sym (combined_assoc (pixel_measure values p) (measured_so_far values (filter some ps)) (measured_so_far values (filter others ps))))
    go false true u v ih =
        let in_all : all p ≡ true = k p u ∙ v in
        rw (in_all, u, v, so_far-cons values p (filter all ps), so_far-cons values p (filter others ps), ih)
        (combined_swap (pixel_measure values p) (measured_so_far values (filter some ps)) (measured_so_far values (filter others ps)))
    go false false u v ih =
        let in_all : all p ≡ false = k p u ∙ v in
        rw (in_all, u, v) ih

-- ---- by plain counts and sums

-- the least value of f over some pixels; over none, the greatest i64
abbrev lowest_value : (ℕ → ℤ) → List ℕ → ℤ
lowest_value f [] = pos (2 ^ 63 - 1)
lowest_value f (p ∷ ps) = int_min (f p) (lowest_value f ps)

-- the measure over some pixels, with the ends of the range where none is seen
abbrev pub plain : Raster → List ℕ → Measure
plain values ps = record {
  seen = length (seen_of values ps);
  missing = length (missing_of values ps);
  v = total (level values) (seen_of values ps);
  low = lowest_value (level values) (seen_of values ps);
  peak = highest (level values) (seen_of values ps);
}

lowest_below : (f : ℕ → ℤ) (ps : List ℕ) → lowest_value f ps ≤ℤ pos (2 ^ 63 - 1)
lowest_below f [] = omega (arith, ints)
lowest_below f (p ∷ ps) = let h : lowest_value f ps ≤ℤ pos (2 ^ 63 - 1) = lowest_below f ps in omega (arith, ints, clamps)

highest_above : (f : ℕ → ℤ) (ps : List ℕ) → neg_ℤ (pos (2 ^ 63)) ≤ℤ highest f ps
highest_above f [] = omega (arith, ints)
highest_above f (p ∷ ps) = let h : neg_ℤ (pos (2 ^ 63)) ≤ℤ highest f ps = highest_above f ps in omega (arith, ints, clamps)

no_less : (z : ℤ) → z ≤ℤ pos (2 ^ 63 - 1) → int_min (pos (2 ^ 63 - 1)) z ≡ z
no_less z h = omega (arith, ints, clamps)

no_more : (z : ℤ) → neg_ℤ (pos (2 ^ 63)) ≤ℤ z → int_max (neg_ℤ (pos (2 ^ 63))) z ≡ z
no_more z h = omega (arith, ints, clamps)

zero_plus : (z : ℤ) → pos 0 +ℤ z ≡ z
zero_plus z = omega (arith, ints)

pub so_far_is : (values : Raster) (ps : List ℕ) → measured_so_far values ps ≡ plain values ps
so_far_is values [] = so_far-none values
so_far_is values (p ∷ ps) = so_far-cons values p ps ∙ ap (combined (pixel_measure values p)) (so_far_is values ps) ∙ by (value_at values.values p) refl
  where
    by : (o : Option ℤ) → value_at values.values p ≡ o → combined (pixel_measure values p) (plain values ps) ≡ plain values (p ∷ ps)
    by None e =
        rw e (same_measure _ _ (omega arith) (omega arith) (zero_plus (total (level values) (seen_of values ps)))
        (no_less _ (lowest_below (level values) (seen_of values ps))) (no_more _ (highest_above (level values) (seen_of values ps))))
    by (Some v) e =
        let is : level values p ≡ v = level-value values p v e in
        rw e (same_measure _ _ (omega arith) (omega arith) (ap (λ (z : ℤ). z +ℤ total (level values) (seen_of values ps)) (sym is))
        (ap (λ (z : ℤ). int_min z (lowest_value (level values) (seen_of values ps))) (sym is))
        (ap (λ (z : ℤ). int_max z (highest (level values) (seen_of values ps))) (sym is)))

-- ---- in the end

pub level_small : (values : Raster) (p : ℕ) → ((v : ℤ) → value_at values.values p ≡ Some v → IsWithin (value_bound (length values.values)) v) → IsUpTo (value_bound (length values.values)) (level values p)
unfolding level
level_small values p h = go (value_at values.values p) refl
  where
    go : (o : Option ℤ) → value_at values.values p ≡ o → IsUpTo (value_bound (length values.values)) (unwrap_or o (pos 0))
    go None e = record { low = omega (arith, ints); high = omega (arith, ints) }
    go (Some v) e = let k : IsWithin (value_bound (length values.values)) v = h v e in record { low = k.low; high = k.high }

pub level_in_range : (values : Raster) (p : ℕ) → HasValuesInRange values.values → IsUpTo (2 ^ 37) (level values p)
level_in_range values p h = level_up_to values p h

fold_least : (f : ℕ → ℤ) (z : ℤ) (qs : List ℕ) → z ≤ℤ pos (2 ^ 63 - 1) → int_min z (lowest_value f qs) ≡ fold int_min z (map f qs)
fold_least f z [] h = omega (arith, ints, clamps)
fold_least f z (q ∷ qs) h =
    let less : int_min z (f q) ≤ℤ pos (2 ^ 63 - 1) = omega (arith, ints, clamps) in
    sym (int_min_assoc z (f q) (lowest_value f qs)) ∙ fold_least f (int_min z (f q)) qs less

fold_greatest : (f : ℕ → ℤ) (z : ℤ) (qs : List ℕ) → neg_ℤ (pos (2 ^ 63)) ≤ℤ z → int_max z (highest f qs) ≡ fold int_max z (map f qs)
fold_greatest f z [] h = omega (arith, ints, clamps)
fold_greatest f z (q ∷ qs) h =
    let more : neg_ℤ (pos (2 ^ 63)) ≤ℤ int_max z (f q) = omega (arith, ints, clamps) in
    sym (int_max_assoc z (f q) (highest f qs)) ∙ fold_greatest f (int_max z (f q)) qs more

settled_some : (m : Measure) → 0 < m.seen → settled_measure m ≡ m
unfolding settled_measure
settled_some m h = let is : eqb m.seen 0 ≡ false = not_zero m.seen h in rw is refl
  where
    not_zero : (n : ℕ) → 0 < n → eqb n 0 ≡ false
    not_zero n h = grind (arith, nat_tests)

settled_plain : (f : ℕ → ℤ) (qs : List ℕ) (missing : ℕ) → ((q : ℕ) → IsUpTo (2 ^ 37) (f q))
    → settled_measure (record { seen = length qs; missing = missing; v = total f qs; low = lowest_value f qs; peak = highest f qs })
    ≡ record { seen = length qs; missing = missing; v = total f qs; low = least_or_zero (map f qs); peak = greatest_or_zero (map f qs) }
unfolding settled_measure
settled_plain f [] missing small = refl
settled_plain f (q ∷ qs) missing small =
    settled_some _ (omega arith)
    ∙ same_measure _ _ refl refl refl (fold_least f (f q) qs (omega (arith, ints, (small q).high)))
    (fold_greatest f (f q) qs (omega (arith, ints, (small q).low)))

pub settled_is : (values : Raster) (ps : List ℕ) → HasValuesInRange values.values → settled_measure (measured_so_far values ps) ≡ measure_over values ps
unfolding measure_over
settled_is values ps h =
    ap settled_measure (so_far_is values ps) ∙ settled_plain (level values) (seen_of values ps) (length (missing_of values ps)) (λ q. level_in_range values q h)

-- ---- how large it is

pub all_counted : (values : Raster) (ps : List ℕ) → length (seen_of values ps) + length (missing_of values ps) ≡ length ps
all_counted values [] = refl
all_counted values (p ∷ ps) = go (is_defined values p) refl (all_counted values ps)
  where
    go : (b : Bool) → is_defined values p ≡ b → length (seen_of values ps) + length (missing_of values ps) ≡ length ps
        → length (seen_of values (p ∷ ps)) + length (missing_of values (p ∷ ps)) ≡ length (p ∷ ps)
    go true e ih = rw e (omega arith)
    go false e ih = rw e (omega arith)

pub sum_small : (values : Raster) (ps : List ℕ) → IsPlane values → length ps ≤ length values.values
    → ((p : ℕ) → IsAmong p ps → IsUpTo (value_bound (length values.values)) (level values p))
    → IsSumOf (length (seen_of values ps)) (total (level values) (seen_of values ps))
sum_small values ps plane few small =
    let sum : IsUpTo ((value_bound (length values.values)) * length (seen_of values ps)) (total (level values) (seen_of values ps)) =
    total-up_to (level values) (value_bound (length values.values)) (seen_of values ps) (λ p m. small p (among_from_filter (is_defined values) p ps m).0) in
    let each : (value_bound (length values.values)) * length (seen_of values ps) ≤ 2 ^ 37 * length (seen_of values ps) =
    mul-le-mul_right (length (seen_of values ps)) (bound_most (length values.values)) in
    let all : (value_bound (length values.values)) * length (seen_of values ps) ≤ (value_bound (length values.values)) * length values.values =
    mul-le-mul_left (value_bound (length values.values)) (omega (arith, few, all_counted values ps)) in
    let most : (value_bound (length values.values)) * length values.values ≤ 2 ^ 61 =
    bound_of_sum (length values.values) (omega (arith, plane, values.shape.within_limits.few_pixels)) in
    let h : IsUpTo (2 ^ 37 * length (seen_of values ps)) (total (level values) (seen_of values ps)) =
    up_to_more ((value_bound (length values.values)) * length (seen_of values ps)) (2 ^ 37 * length (seen_of values ps)) (total (level values) (seen_of values ps)) sum each in
    let k : IsUpTo (2 ^ 61) (total (level values) (seen_of values ps)) =
    up_to_more ((value_bound (length values.values)) * length (seen_of values ps)) (2 ^ 61) (total (level values) (seen_of values ps)) sum (omega (arith, all, most)) in
    record { low = h.low; high = h.high; least = k.low; most = k.high }

-- of the first n pixels
pub so_far_small : (values : Raster) (test : ℕ → Bool) (n : ℕ) → IsPlane values → n ≤ length values.values
    → ((q : ℕ) (v : ℤ) → q < n → value_at values.values q ≡ Some v → IsWithin (value_bound (length values.values)) v)
    → HasMeasureSizes (measured_so_far values (filter test (range_with_len 0 n)))
so_far_small values test n plane within small =
    subst HasMeasureSizes (sym (so_far_is values (filter test (range_with_len 0 n)))) (record {
      few = omega (
        arith,
        all_counted values (filter test (range_with_len 0 n)),
        length-filter-le test (range_with_len 0 n),
        length-range_with_len 0 n,
        plane,
        values.shape.within_limits.few_pixels,
      );
      sum = sum_small values (filter test (range_with_len 0 n)) plane
          (omega (arith, length-filter-le test (range_with_len 0 n), length-range_with_len 0 n, within)) (λ p m. level_small values p (λ v e. small p v (inside p m) e));
    })
  where
    inside : (p : ℕ) → IsAmong p (filter test (range_with_len 0 n)) → p < n
    inside p m = let h : (0 ≤ p) × (p < 0 + n) = among_from_range 0 n p (among_from_filter test p (range_with_len 0 n) m).0 in omega arith

-- ---- as the code computes it

pub low-read : (a b m : ℤ) → SFits w64 a → SFits w64 b → m ≡ int_min (to_z w64 (of_z w64 a)) (to_z w64 (of_z w64 b)) → m ≡ int_min a b
low-read a b m f g e = e ∙ ap (λ (x : ℤ). int_min x (to_z w64 (of_z w64 b))) (to_z-of_z w64 a f) ∙ ap (int_min a) (to_z-of_z w64 b g)

pub sum_fits : (count : ℕ) (sum : ℤ) → IsSumOf count sum → count ≤ 2147483647 → SFits w64 sum
sum_fits count sum h few = fits w64 (2 ^ 61) sum (record { low = h.least; high = h.most }) (lit< tt)
