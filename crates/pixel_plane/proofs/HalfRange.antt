-- The values of a plane that is read are within its limits.
use Rattle.std.proofs.Common.{◌≡◌, ◌∙◌, ℕ, ◌+◌, ◌-◌, ◌<◌, ◌≤◌, inl, inr, true, false, List, length, get_or, set, replicate, refl, sym, ap, subst, arith, ℤ, pos, neg_ℤ, ◌≤ℤ◌, ◌*◌}
use Rattle.std.specs.Prelude.{slice_get, IfSome, nat_lt}
use Rattle.std.specs.declared.option.Option.{Option}
use Rattle.std.specs.Prelude.{Some, None}
use Rattle.std.proofs.lemmas.Bool.{cases_lt}
use Rattle.std.proofs.lemmas.Int.{ints, clamps}
use Rattle.std.specs.Int.{int_max, int_min}
use Rattle.std.proofs.lemmas.List.{length-set, get_or-set_same, get_or-set_other, get_or-replicate, length-replicate, get_or_past}
use Rattle.std.proofs.lemmas.Option.{slice_get_within, get_or_from_slice_get, slice_get-get_or}
use Rattle.std.specs.List.{position, position_or_len}
use Rattle.std.proofs.lemmas.List.Sums.{position_or_len_is}
use Rattle.std.proofs.lemmas.List.Quantifiers.{position-Some}
use Rattle.std.proofs.lemmas.Bool.Decides.{nat_tests}
use Rattle.comp_tree.specs.Limits.{IsWithin, half_bound}
use Rattle.comp_tree.specs.Raster.{HasValuesInHalfRange, value_at}
use Rattle.pixel_plane.specs.declared.limits.Limits.{Limits}
use Rattle.pixel_plane.specs.WithinLimits.{IsInRange, HasValuesInLimits, SuitCount}
use Rattle.pixel_plane.specs.ImageLimits.{narrowed}
use Rattle.comp_tree.proofs.Exported.{int_le-from}
use Rattle.pixel_plane.specs.Stored.{is_out_of_range, value_limits}
use Rattle.comp_tree.specs.declared.shape.Shape.{Shape}

there : (values : List (Option ℤ)) (p : ℕ) (v : ℤ) → p < length values → get_or values p None ≡ Some v → slice_get values p ≡ Some (Some v)
there values p v within is = slice_get-get_or values p None within ∙ ap Some is

is_in_range : (limits : Limits) (value : Option ℤ) (v : ℤ) → IfSome value (λ x. IsInRange limits x) → value ≡ Some v → IsInRange limits v
is_in_range limits (Some x) v h is = let same : x ≡ v = cc in subst (IsInRange limits) same h
is_in_range limits None v h is = absurd (cc)

-- a plane without values has none that is not so
pub blank_in_range : (limits : Limits) (n : ℕ) (values : List (Option ℤ)) → values ≡ replicate n None → HasValuesInLimits limits values
blank_in_range limits n values blank = record { each = each }
  where
    each : (p : ℕ) (v : ℤ) → slice_get values p ≡ Some (Some v) → IsInRange limits v
    each p v is =
        let within = slice_get_within values p (Some v) is in
        let nothing : Option ℤ = None in
        let few : p < n = omega (arith, ap length blank, length-replicate n nothing) in
        let none : get_or values p None ≡ None = ap (λ (l : List (Option ℤ)). get_or l p None) blank ∙ get_or-replicate n p None None few in
        let some : get_or values p None ≡ Some v = get_or_from_slice_get values p (Some v) None is in
        absurd (cc)

-- one value more
pub set_in_range : (limits : Limits) (values : List (Option ℤ)) (p : ℕ) (value : Option ℤ) → IfSome value (λ v. IsInRange limits v) → HasValuesInLimits limits values
    → HasValuesInLimits limits (set values p value)
set_in_range limits values p value here all = record { each = each }
  where
    by : (q : ℕ) (v : ℤ) → q < length values → get_or (set values p value) q None ≡ Some v → IsInRange limits v
    by q v within is = elim (cases_lt q p) [
      | inl less ↦ all.each q v (there values q v within (sym (get_or-set_other values p q value None (omega arith)) ∙ is))
      | inr more ↦ elim (cases_lt p q) [
        | inl greater ↦ all.each q v (there values q v within (sym (get_or-set_other values p q value None (omega arith)) ∙ is))
        | inr same ↦ let at : q ≡ p =
            omega arith in is_in_range limits value v here
            (sym (get_or-set_same values p value None (omega arith)) ∙ sym (ap (λ i. get_or (set values p value) i None) at) ∙ is)
      ]
    ]

    each : (q : ℕ) (v : ℤ) → slice_get (set values p value) q ≡ Some (Some v) → IsInRange limits v
    each q v is =
        by q v (omega (arith, slice_get_within (set values p value) q (Some v) is, length-set values p value))
        (get_or_from_slice_get (set values p value) q (Some v) None is)

-- a run of further values
pub run_in_range : (limits : Limits) (run old new : List (Option ℤ)) (first : ℕ) → length new ≡ length old
    → ((k : ℕ) → k < length run → IfSome (value_at run k) (λ v. IsInRange limits v))
    → ((k : ℕ) → k < length run → value_at new (first + k) ≡ value_at run k) → ((p : ℕ) → p < first → value_at new p ≡ value_at old p)
    → ((p : ℕ) → first + length run ≤ p → value_at new p ≡ value_at old p) → HasValuesInLimits limits old → HasValuesInLimits limits new
run_in_range limits run old new first same here inside before behind all = record { each = each }
  where
    by : (p : ℕ) (v : ℤ) → p < length new → value_at new p ≡ Some v → IsInRange limits v
    by p v within is = elim (cases_lt p first) [
      | inl less ↦ all.each p v (there old p v (omega (arith, within, same)) (sym (before p less) ∙ is))
      | inr more ↦ elim (cases_lt p (first + length run)) [
        | inl few ↦
            let k : p - first < length run = omega (arith, few, more) in
            let at : first + (p - first) ≡ p = omega (arith, more) in
            is_in_range limits (value_at run (p - first)) v (here (p - first) k) (sym (inside (p - first) k) ∙ ap (value_at new) at ∙ is)
        | inr past ↦ all.each p v (there old p v (omega (arith, within, same)) (sym (behind p past) ∙ is))
      ]
    ]

    each : (p : ℕ) (v : ℤ) → slice_get new p ≡ Some (Some v) → IsInRange limits v
    each p v is = by p v (slice_get_within new p (Some v) is) (get_or_from_slice_get new p (Some v) None is)

-- what is within limits that suit so many pixels
half_of : (limits : Limits) (count : ℕ) (v : ℤ) → SuitCount limits count → IsInRange limits v → IsWithin (half_bound count) v
half_of limits count v suited it =
    let bound : ℕ = half_bound count in
    let least : neg_ℤ (pos bound) ≤ℤ limits.least = suited.low in
    let greatest : limits.greatest ≤ℤ pos bound = suited.high in
    let low = it.low in
    let high = it.high in
    record { low = omega (arith, ints); high = omega (arith, ints) }

-- a plane of so many is in half of its range
pub in_half_range : (limits : Limits) (values : List (Option ℤ)) → SuitCount limits (length values) → HasValuesInLimits limits values → HasValuesInHalfRange values
in_half_range limits values suited all = record { each = λ p v is. half_of limits (length values) v suited (all.each p v is) }

cut_suits : (limits : Limits) (count bound : ℕ) → bound ≡ half_bound count
    → (neg_ℤ (pos bound) ≤ℤ int_max limits.least (neg_ℤ (pos bound))) × (int_min limits.greatest (pos bound) ≤ℤ pos bound)
cut_suits limits count bound is = (omega (arith, ints, clamps), omega (arith, ints, clamps))

-- narrowed limits suit
pub narrowed_suits : (limits : Limits) (count : ℕ) → SuitCount (narrowed limits count) count
unfolding narrowed
narrowed_suits limits count = let both = cut_suits limits count (half_bound count) refl in record { low = both.0; high = both.1 }

-- those of an image's shape suit its planes
pub suited_by : (limits : Limits) (shape : Shape) (narrow : Limits) (count : ℕ) → narrow ≡ value_limits limits shape → count ≡ shape.width * shape.height
    → SuitCount narrow count
suited_by limits shape narrow count is all =
    subst (λ n. SuitCount narrow n) (sym all) (subst (λ (l : Limits). SuitCount l (shape.width * shape.height)) (sym is) (narrowed_suits limits (shape.width * shape.height)))

-- ---- no value of such a plane is out of range

near : (limits : Limits) (value : ℤ) → IsInRange limits value → is_out_of_range limits (Some value) ≡ false
near limits value h = rw (int_le-from _ _ h.low, int_le-from _ _ h.high) refl

not_far : (limits : Limits) (value : Option ℤ) → ((v : ℤ) → value ≡ Some v → IsInRange limits v) → is_out_of_range limits value ≡ false
not_far limits None h = refl
not_far limits (Some v) h = near limits v (h v refl)

pub none_far : (limits : Limits) (values : List (Option ℤ)) (p : ℕ) → HasValuesInLimits limits values → is_out_of_range limits (value_at values p) ≡ false
none_far limits values p all = elim (cases_lt p (length values)) [
  | inl within ↦ not_far limits (value_at values p) (λ v is. all.each p v (there values p v within is))
  | inr past ↦ let none : value_at values p ≡ None = get_or_past values p None past in rw none refl
]

-- ---- the least pixel out of range

pub no_position : (limits : Limits) (values : List (Option ℤ)) → ((p : ℕ) → is_out_of_range limits (value_at values p) ≡ false) → position (is_out_of_range limits) values ≡ None
no_position limits values none = go (position (is_out_of_range limits) values) refl
  where
    go : (found : Option ℕ) → position (is_out_of_range limits) values ≡ found → position (is_out_of_range limits) values ≡ None
    go None e = e
    go (Some p) e =
        let at = position-Some (is_out_of_range limits) values p None e in
        let yes : is_out_of_range limits (value_at values p) ≡ true = at.1 in
        let no : is_out_of_range limits (value_at values p) ≡ false = none p in
        absurd (cc)

pub position_at : (limits : Limits) (values : List (Option ℤ)) (p : ℕ) → p < length values → is_out_of_range limits (value_at values p) ≡ true
    → ((q : ℕ) → q < p → is_out_of_range limits (value_at values q) ≡ false) → position (is_out_of_range limits) values ≡ Some p
position_at limits values p within far before =
    let here : position_or_len (is_out_of_range limits) values ≡ p = position_or_len_is (is_out_of_range limits) values p None (omega arith) before (λ h. far) in
    let inside : nat_lt (position_or_len (is_out_of_range limits) values) (length values) ≡ true = grind (arith, nat_tests) in
    rw inside (ap Some here)
