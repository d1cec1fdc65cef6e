-- Entries of measures, and the values around a node.
use Rattle.std.proofs.Common.{◌≡◌, ℕ, ◌+◌, ◌-◌, ◌<◌, ◌≤◌, zero, suc, Bool, true, false, List, [], ◌∷◌, length, map, refl, sym, ◌∙◌, ap, subst, arith}
use Rattle.std.proofs.Common.{get_or}
use Rattle.std.specs.Prelude.{◌==◌, ◌&&◌, not, ℤ, pos, ◌+ℤ◌, ◌-ℤ◌, Some, filter, slice_get, slice_index_or}
use Rattle.std.specs.List.{range_with_len}
use Rattle.std.proofs.lemmas.Bool.{eq-eqb, ne_eqb}
use Rattle.std.proofs.lemmas.List.{length-map}
use Rattle.std.proofs.lemmas.List.FromFn.{length-range_with_len}
use Rattle.std.proofs.lemmas.Option.{slice_get-get_or}
use Rattle.std.proofs.lemmas.Int.{ints, to_z-of_z}
use mir.Syntax.{w64}
use mir.Val.{SFits, of_z, to_z}
use Rattle.comp_tree.specs.declared.shape.Connect.{Connect}
use Rattle.comp_tree.specs.declared.tree.NodeRow.{NodeRow}
use Rattle.comp_tree.specs.Raster.{Raster, IsPlane, HasValuesInRange, pixels}
use Rattle.comp_tree.specs.ComponentTree.{ComponentTree, parent_in, no_node}
use Rattle.comp_tree.specs.Components.{nodes, is_in_node, tree_of}
use Rattle.comp_tree.specs.Nesting.{node_numbers, pixels_of}
use Rattle.node_sums.proofs.Exported.{length-filter-le, level_within, parent_holds, rows_are, parent_is}
use Rattle.dual_measure.specs.declared.values.Measure.{Measure}
use Rattle.dual_measure.specs.Measures.{measure_over, measure_of, measures_of, floor_mean, around_node, back_of, IsSumOf, HasMeasureSizes, IsPlanesTree}
use Rattle.dual_measure.specs.Measures.{AreTheTreesMeasures}
use Rattle.dual_measure.specs.Adding.{combined, measured_so_far}
use Rattle.dual_measure.proofs.Passing.{as_many, parent_read, parent_there}
use Rattle.dual_measure.proofs.Measuring.{so_far_is, so_far-union, sum_small, all_counted, sum_fits}

-- ---- the entries

at_place : (f : ℕ → Measure) (a count n : ℕ) (entry : Measure) → slice_get (map f (range_with_len a count)) n ≡ Some entry → entry ≡ f (a + n)
at_place f a zero n entry e = absurd (cc)
at_place f a (suc count) zero entry e = let is : f a ≡ entry = cc in sym is ∙ ap f (omega arith)
at_place f a (suc count) (suc n) entry e = at_place f (a + 1) count n entry e ∙ ap f (omega arith)

pub entry_is : (values r : Raster) (connect : Connect) (measures : List Measure) (n : ℕ) (entry : Measure) → measures ≡ measures_of values r connect
    → slice_get measures n ≡ Some entry
    → entry ≡ measure_of values r connect n
unfolding measures_of
entry_is values r connect measures n entry e g =
    at_place (measure_of values r connect) 0 (length (nodes r connect)) n entry (sym (ap (λ (xs : List Measure). slice_get xs n) e) ∙ g)
    ∙ ap (measure_of values r connect) (omega arith)

pub one_for_each : (tree : ComponentTree) (measures : List Measure) → AreTheTreesMeasures tree measures → length measures ≡ length tree.rows
unfolding measures_of
one_for_each tree measures h =
    ap length h.measures_are ∙ length-map (node_numbers h.plane h.connect) (measure_of h.values h.plane h.connect)
    ∙ length-range_with_len 0 (length (nodes h.plane h.connect)) ∙ sym (rows_are h.plane h.connect tree h.tree_is)

over_sum : (values : Raster) (ps : List ℕ) → IsPlane values → length ps ≤ length values.values → HasValuesInRange values.values
    → IsSumOf (measure_over values ps).seen (measure_over values ps).v
unfolding measure_over
over_sum values ps plane few range = sum_small values ps plane few (λ p _. level_within values p range)

few_pixels : (values : Raster) (r : Raster) (connect : Connect) (n : ℕ) → IsPlane r
    → (measure_of values r connect n).seen + (measure_of values r connect n).missing ≤ 2147483647
unfolding measure_of measure_over pixels_of pixels
few_pixels values r connect n plane =
    omega (
      arith,
      all_counted values (filter (is_in_node r connect n) (range_with_len 0 (length r.values))),
      length-filter-le (is_in_node r connect n) (range_with_len 0 (length r.values)),
      length-range_with_len 0 (length r.values),
      plane,
      r.shape.within_limits.few_pixels,
    )

node_sum : (values r : Raster) (connect : Connect) (n : ℕ) → IsPlane values → length r.values ≤ length values.values → HasValuesInRange values.values
    → IsSumOf (measure_of values r connect n).seen (measure_of values r connect n).v
unfolding measure_of pixels_of pixels
node_sum values r connect n plane few range =
    over_sum values (pixels_of r connect n) plane
    (omega (arith, length-filter-le (is_in_node r connect n) (range_with_len 0 (length r.values)), length-range_with_len 0 (length r.values), few)) range

around_few : (r : Raster) (connect : Connect) (n : ℕ) → length (around_node r connect n) ≤ length r.values
unfolding around_node pixels
around_few r connect n =
    omega (
      arith,
      length-filter-le (λ p. is_in_node r connect (parent_in (tree_of r connect).rows n) p && not (is_in_node r connect n p)) (range_with_len 0 (length r.values)),
      length-range_with_len 0 (length r.values),
    )

same_count : (tree : ComponentTree) (measures : List Measure) (h : AreTheTreesMeasures tree measures) → length h.values.values ≡ length h.plane.values
same_count tree measures h = as_many h.values h.plane h.connect tree h.value_each h.one_each h.same_shape h.tree_is

pub entry_small : (tree : ComponentTree) (measures : List Measure) (n : ℕ) (entry : Measure) → AreTheTreesMeasures tree measures
    → slice_get measures n ≡ Some entry → HasMeasureSizes entry
entry_small tree measures n entry h g =
    subst HasMeasureSizes (sym (entry_is h.values h.plane h.connect measures n entry h.measures_are g)) (record {
      few = few_pixels h.values h.plane h.connect n h.one_each;
      sum = node_sum h.values h.plane h.connect n h.value_each (omega (arith, same_count tree measures h)) h.in_range;
    })

-- ---- the values around a node

-- what a node's parent holds is what the node holds and what lies around it
around_union : (values r : Raster) (connect : Connect) (n : ℕ) → IsPlane r → n < length (nodes r connect)
    → parent_in (tree_of r connect).rows n < length (nodes r connect)
    → measured_so_far values (pixels_of r connect (parent_in (tree_of r connect).rows n))
    ≡ combined (measured_so_far values (pixels_of r connect n)) (measured_so_far values (around_node r connect n))
unfolding pixels_of around_node
around_union values r connect n plane hn ha =
    so_far-union values (is_in_node r connect (parent_in (tree_of r connect).rows n)) (is_in_node r connect n)
    (λ p. is_in_node r connect (parent_in (tree_of r connect).rows n) p && not (is_in_node r connect n p)) (pixels r) apart rest
  where
    apart : (q : ℕ) → is_in_node r connect n q ≡ true
        → (is_in_node r connect (parent_in (tree_of r connect).rows n) q ≡ true)
        × (is_in_node r connect (parent_in (tree_of r connect).rows n) q && not (is_in_node r connect n q) ≡ false)
    apart q h =
        let up : is_in_node r connect (parent_in (tree_of r connect).rows n) q ≡ true =
        parent_holds r connect (parent_in (tree_of r connect).rows n) n q plane hn refl ha h in
        (up, rw (up, h) refl)

    rest : (q : ℕ) → is_in_node r connect n q ≡ false
        → is_in_node r connect (parent_in (tree_of r connect).rows n) q
        ≡ (is_in_node r connect (parent_in (tree_of r connect).rows n) q && not (is_in_node r connect n q))
    rest q h = rw h (plus_true (is_in_node r connect (parent_in (tree_of r connect).rows n) q))
      where
        plus_true : (b : Bool) → b ≡ (b && true)
        plus_true true = refl
        plus_true false = refl

seen-so_far : (values : Raster) (ps : List ℕ) → (measured_so_far values ps).seen ≡ (measure_over values ps).seen
unfolding measure_over
seen-so_far values ps = ap (λ (m : Measure). m.seen) (so_far_is values ps)

v-so_far : (values : Raster) (ps : List ℕ) → (measured_so_far values ps).v ≡ (measure_over values ps).v
unfolding measure_over
v-so_far values ps = ap (λ (m : Measure). m.v) (so_far_is values ps)

-- the entries of a node and of its parent differ by what lies around the node
pub record IsAround (whole part around : Measure) : Type 0 where
  pub seen : whole.seen ≡ part.seen + around.seen
  pub v : whole.v ≡ part.v +ℤ around.v

around_is : (values r : Raster) (connect : Connect) (n : ℕ) → IsPlane r → n < length (nodes r connect)
    → parent_in (tree_of r connect).rows n < length (nodes r connect)
    → IsAround (measure_of values r connect (parent_in (tree_of r connect).rows n)) (measure_of values r connect n)
    (measure_over values (around_node r connect n))
unfolding measure_of
around_is values r connect n plane hn ha = record {
  seen = sym (seen-so_far values whole) ∙ ap (λ (m : Measure). m.seen) union ∙ sums;
  v = sym (v-so_far values whole) ∙ ap (λ (m : Measure). m.v) union ∙ sums_v;
}
  where
    whole : List ℕ
    whole = pixels_of r connect (parent_in (tree_of r connect).rows n)

    union : measured_so_far values (pixels_of r connect (parent_in (tree_of r connect).rows n))
        ≡ combined (measured_so_far values (pixels_of r connect n)) (measured_so_far values (around_node r connect n))
    union = around_union values r connect n plane hn ha

    sums : (measured_so_far values (pixels_of r connect n)).seen + (measured_so_far values (around_node r connect n)).seen
        ≡ (measure_over values (pixels_of r connect n)).seen + (measure_over values (around_node r connect n)).seen
    sums = rw (seen-so_far values (pixels_of r connect n), seen-so_far values (around_node r connect n)) refl

    sums_v : (measured_so_far values (pixels_of r connect n)).v +ℤ (measured_so_far values (around_node r connect n)).v
        ≡ (measure_over values (pixels_of r connect n)).v +ℤ (measure_over values (around_node r connect n)).v
    sums_v = rw (v-so_far values (pixels_of r connect n), v-so_far values (around_node r connect n)) refl

-- node n has a parent, and the code has read both entries
pub record HasParts (tree : ComponentTree) (measures : List Measure) (n : ℕ) (whole part : Measure) : Type 0 where
  pub below : n < length tree.rows
  pub inside : parent_in tree.rows n < length tree.rows
  pub whole_is : slice_get measures (parent_in tree.rows n) ≡ Some whole
  pub part_is : slice_get measures n ≡ Some part

parts_around : (tree : ComponentTree) (measures : List Measure) (n : ℕ) (whole part : Measure) (values r : Raster) (connect : Connect) → IsPlane r
    → tree ≡ tree_of r connect
    → measures ≡ measures_of values r connect → HasParts tree measures n whole part → IsAround whole part (measure_over values (around_node r connect n))
parts_around tree measures n whole part values r connect plane e f h =
    let count : length tree.rows ≡ length (nodes r connect) = rows_are r connect tree e in
    let parent : parent_in tree.rows n ≡ parent_in (tree_of r connect).rows n = parent_is r connect tree n e in
    let one : whole ≡ measure_of values r connect (parent_in (tree_of r connect).rows n) =
    entry_is values r connect measures (parent_in tree.rows n) whole f h.whole_is ∙ ap (measure_of values r connect) parent in
    let two : part ≡ measure_of values r connect n = entry_is values r connect measures n part f h.part_is in
    subst (λ (m : Measure). IsAround m part (measure_over values (around_node r connect n))) (sym one)
    (subst (λ (m : Measure). IsAround (measure_of values r connect (parent_in (tree_of r connect).rows n)) m (measure_over values (around_node r connect n)))
    (sym two)
    (around_is values r connect n plane (omega (arith, h.below)) (omega (arith, h.inside))))

-- the difference of the entries as numbers of their own
pub record IsDifference (whole part : Measure) : Type 0 where
  pub less : part.seen ≤ whole.seen
  pub sum : IsSumOf (whole.seen - part.seen) (whole.v -ℤ part.v)
  pub few : whole.seen ≤ 2147483647

pub parts_differ : (tree : ComponentTree) (measures : List Measure) (n : ℕ) (whole part : Measure) → AreTheTreesMeasures tree measures
    → HasParts tree measures n whole part → IsDifference whole part
parts_differ tree measures n whole part h p = record {
  less = omega (arith, around.seen);
  sum = subst (IsSumOf (whole.seen - part.seen)) rest
      (subst (λ (k : ℕ). IsSumOf k (measure_over h.values (around_node h.plane h.connect n)).v) count
      (over_sum h.values (around_node h.plane h.connect n) h.value_each
      (omega (arith, same_count tree measures h, around_few h.plane h.connect n)) h.in_range));
  few = omega (arith, (entry_small tree measures (parent_in tree.rows n) whole h p.whole_is).few);
}
  where
    around : IsAround whole part (measure_over h.values (around_node h.plane h.connect n))
    around = parts_around tree measures n whole part h.values h.plane h.connect h.one_each h.tree_is h.measures_are p

    count : (measure_over h.values (around_node h.plane h.connect n)).seen ≡ whole.seen - part.seen
    count = omega (arith, around.seen)

    rest : (measure_over h.values (around_node h.plane h.connect n)).v ≡ whole.v -ℤ part.v
    rest = omega (arith, ints, around.v)

pub back_at_root : (tree : ComponentTree) (n : ℕ) (values r : Raster) (connect : Connect) → tree ≡ tree_of r connect → parent_in tree.rows n ≡ no_node
    → pos 0 ≡ back_of values r connect n
unfolding back_of
back_at_root tree n values r connect e root =
    let is : (parent_in (tree_of r connect).rows n == no_node) ≡ true =
    eq-eqb (parent_in (tree_of r connect).rows n) no_node (sym (parent_is r connect tree n e) ∙ root) in
    rw is refl

pub back_is : (tree : ComponentTree) (measures : List Measure) (n : ℕ) (whole part : Measure) (values r : Raster) (connect : Connect) → IsPlane r
    → tree ≡ tree_of r connect
    → measures ≡ measures_of values r connect → HasParts tree measures n whole part → (parent_in tree.rows n ≡ no_node → ⊥)
    → floor_mean (whole.v -ℤ part.v) (whole.seen - part.seen) ≡ back_of values r connect n
unfolding back_of
back_is tree measures n whole part values r connect plane e f h some =
    let around : IsAround whole part (measure_over values (around_node r connect n)) = parts_around tree measures n whole part values r connect plane e f h in
    let sum : whole.v -ℤ part.v ≡ (measure_over values (around_node r connect n)).v = omega (arith, ints, around.v) in
    let count : whole.seen - part.seen ≡ (measure_over values (around_node r connect n)).seen = omega (arith, around.seen) in
    let inner : (parent_in (tree_of r connect).rows n == no_node) ≡ false =
    ne_eqb (parent_in (tree_of r connect).rows n) no_node (λ k. some (parent_is r connect tree n e ∙ k)) in
    rw (sum, count, inner) refl

-- ---- as the code reads them

pub trees_plane : (tree : ComponentTree) (measures : List Measure) → AreTheTreesMeasures tree measures → IsPlanesTree tree
trees_plane tree measures h = record { plane = h.plane; one_each = h.one_each; connect = h.connect; tree_is = h.tree_is }

-- what stands for an entry past the last
abbrev pub no_entry : Measure
no_entry = record {
  seen = 0;
  missing = 0;
  v = pos 0;
  low = pos 0;
  peak = pos 0;
}

-- the code has read the number of node n's parent
pub record IsParentRead (tree : ComponentTree) (measures : List Measure) (n a : ℕ) : Type 0 where
  pub trees : AreTheTreesMeasures tree measures
  pub below : n < length tree.rows
  pub parent : parent_in tree.rows n ≡ a
  pub some : a ≡ no_node → ⊥

pub parent_read_from_code : (tree : ComponentTree) (measures : List Measure) (n : ℕ) (rows : List NodeRow) (row : NodeRow) → AreTheTreesMeasures tree measures
    → n < length tree.rows → rows ≡ tree.rows
    → ((slice_index_or rows n row).parent ≡ no_node → ⊥) → IsParentRead tree measures n (slice_index_or rows n row).parent
parent_read_from_code tree measures n rows row h below same some = record {
  trees = h;
  below = below;
  parent = parent_read rows tree n row same (omega (arith, ap length same));
  some = some;
}

parent_below : (tree : ComponentTree) (measures : List Measure) (n a : ℕ) → IsParentRead tree measures n a → a < length tree.rows
parent_below tree measures n a h = parent_there tree n a (trees_plane tree measures h.trees) h.below h.parent h.some

pub parent_entry : (tree : ComponentTree) (measures : List Measure) (n a : ℕ) → IsParentRead tree measures n a → a < length measures
parent_entry tree measures n a h = omega (arith, parent_below tree measures n a h, one_for_each tree measures h.trees)

parts_read : (tree : ComponentTree) (measures : List Measure) (n a : ℕ) → IsParentRead tree measures n a
    → HasParts tree measures n (get_or measures a no_entry) (get_or measures n no_entry)
parts_read tree measures n a h = record {
  below = h.below;
  inside = omega (arith, h.parent, parent_below tree measures n a h);
  whole_is = subst (λ (k : ℕ). slice_get measures k ≡ Some (get_or measures a no_entry)) (sym h.parent)
      (slice_get-get_or measures a no_entry (parent_entry tree measures n a h));
  part_is = slice_get-get_or measures n no_entry (omega (arith, h.below, one_for_each tree measures h.trees));
}

entry_fits : (tree : ComponentTree) (measures : List Measure) (n : ℕ) (entry : Measure) → AreTheTreesMeasures tree measures → slice_get measures n ≡ Some entry
    → SFits w64 entry.v
entry_fits tree measures n entry h g =
    let small : HasMeasureSizes entry = entry_small tree measures n entry h g in
    sum_fits entry.seen entry.v small.sum (omega (arith, small.few))

pub difference : (tree : ComponentTree) (measures : List Measure) (n a : ℕ) → IsParentRead tree measures n a
    → IsDifference (get_or measures a no_entry) (get_or measures n no_entry)
difference tree measures n a h = parts_differ tree measures n _ _ h.trees (parts_read tree measures n a h)

pub difference-read : (tree : ComponentTree) (measures : List Measure) (n a : ℕ) → IsParentRead tree measures n a
    → to_z w64 (of_z w64 (get_or measures a no_entry).v) -ℤ to_z w64 (of_z w64 (get_or measures n no_entry).v)
    ≡ (get_or measures a no_entry).v -ℤ (get_or measures n no_entry).v
difference-read tree measures n a h =
    let parts : HasParts tree measures n (get_or measures a no_entry) (get_or measures n no_entry) = parts_read tree measures n a h in
    ap (λ (z : ℤ). z -ℤ to_z w64 (of_z w64 (get_or measures n no_entry).v))
    (to_z-of_z w64 (get_or measures a no_entry).v (entry_fits tree measures _ _ h.trees parts.whole_is))
    ∙ ap (λ (z : ℤ). (get_or measures a no_entry).v -ℤ z) (to_z-of_z w64 (get_or measures n no_entry).v (entry_fits tree measures _ _ h.trees parts.part_is))

fits_difference : (tree : ComponentTree) (measures : List Measure) (n a : ℕ) → IsParentRead tree measures n a
    → SFits w64 ((get_or measures a no_entry).v -ℤ (get_or measures n no_entry).v)
fits_difference tree measures n a h =
    let d : IsDifference (get_or measures a no_entry) (get_or measures n no_entry) = difference tree measures n a h in
    sum_fits ((get_or measures a no_entry).seen - (get_or measures n no_entry).seen) _ d.sum (omega (arith, d.few))

pub difference_fits : (tree : ComponentTree) (measures : List Measure) (n a : ℕ) → IsParentRead tree measures n a
    → SFits w64 (to_z w64 (of_z w64 (get_or measures a no_entry).v) -ℤ to_z w64 (of_z w64 (get_or measures n no_entry).v))
difference_fits tree measures n a h = subst (SFits w64) (sym (difference-read tree measures n a h)) (fits_difference tree measures n a h)

difference-stored : (tree : ComponentTree) (measures : List Measure) (n a : ℕ) → IsParentRead tree measures n a
    → to_z w64 (of_z w64 (to_z w64 (of_z w64 (get_or measures a no_entry).v) -ℤ to_z w64 (of_z w64 (get_or measures n no_entry).v)))
    ≡ (get_or measures a no_entry).v -ℤ (get_or measures n no_entry).v
difference-stored tree measures n a h =
    ap (λ (z : ℤ). to_z w64 (of_z w64 z)) (difference-read tree measures n a h) ∙ to_z-of_z w64 _ (fits_difference tree measures n a h)

pub difference_sum : (tree : ComponentTree) (measures : List Measure) (n a : ℕ) → IsParentRead tree measures n a
    → IsSumOf ((get_or measures a no_entry).seen - (get_or measures n no_entry).seen)
    (to_z w64 (of_z w64 (to_z w64 (of_z w64 (get_or measures a no_entry).v) -ℤ to_z w64 (of_z w64 (get_or measures n no_entry).v))))
difference_sum tree measures n a h = subst (IsSumOf _) (sym (difference-stored tree measures n a h)) (difference tree measures n a h).sum

pub back_from_code : (tree : ComponentTree) (measures : List Measure) (n a : ℕ) (mean : ℤ) (values r : Raster) (connect : Connect)
    → IsParentRead tree measures n a → SFits w64 mean
    → mean ≡ floor_mean (to_z w64 (of_z w64 (to_z w64 (of_z w64 (get_or measures a no_entry).v) -ℤ to_z w64 (of_z w64 (get_or measures n no_entry).v))))
    ((get_or measures a no_entry).seen - (get_or measures n no_entry).seen)
    → IsPlane r → tree ≡ tree_of r connect → measures ≡ measures_of values r connect → to_z w64 (of_z w64 mean) ≡ back_of values r connect n
back_from_code tree measures n a mean values r connect h fits made plane e f =
    to_z-of_z w64 mean fits ∙ made
    ∙ ap (λ (z : ℤ). floor_mean z ((get_or measures a no_entry).seen - (get_or measures n no_entry).seen)) (difference-stored tree measures n a h)
    ∙ back_is tree measures n _ _ values r connect plane e f (parts_read tree measures n a h) (λ k. h.some (sym h.parent ∙ k))

pub same_seven : (a b c d e f g p q r s t u v : ℤ) → a ≡ p → b ≡ q → c ≡ r → d ≡ s → e ≡ t → f ≡ u → g ≡ v
    → a ∷ b ∷ c ∷ d ∷ e ∷ f ∷ g ∷ [] ≡ p ∷ q ∷ r ∷ s ∷ t ∷ u ∷ v ∷ []
same_seven a b c d e f g p q r s t u v h1 h2 h3 h4 h5 h6 h7 = cc
