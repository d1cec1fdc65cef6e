-- Planes that are cut pixel by pixel; a plane and its cut have the same pixels of at least the level of the cut.
use Rattle.std.proofs.Common.{◌≡◌, ℕ, ◌+◌, ◌<◌, ◌≤◌, Bool, true, false, cond, length, refl, sym, ◌∙◌, ap, subst, arith, inl, inr}
use Rattle.std.specs.Prelude.{IsTrue, ℤ, Option, None, is_some, slice_set}
use Rattle.std.proofs.lemmas.Bool.{cases_lt, true≢false}
use Rattle.std.proofs.lemmas.List.{length-set, get_or-set_same, get_or-set_other}
use Rattle.std.proofs.lemmas.List.FromFn.{get_or-map-range_with_len, length-map-range_with_len}
use Rattle.comp_tree.specs.Raster.{Raster, IsPlane, pixels, value_at, at_least, is_defined, is_at_least}
use Rattle.comp_tree.proofs.Exported.{written_all, AlikeAbove, defined_from_at_least, below_from_defined}
use Rattle.measure_top.specs.Cuts.{cut}
use Rattle.measure_top.specs.Picks.{IsCutUpTo}

-- whether it is at least h is told by the plane itself, before it is cut
told : (r plane : Raster) (h : ℤ) (p : ℕ) (b : Bool) → IsCutUpTo r h p plane → is_at_least plane h p ≡ b
    → cond (is_at_least r h p) (value_at r.values p) None ≡ cond b (value_at r.values p) None
told r plane h p b c k =
    ap (λ (t : Bool). cond t (value_at r.values p) None) (sym (ap (λ (v : Option ℤ). at_least h v) (c.rest p (omega arith))) ∙ k)

pub cut_skip : (r plane : Raster) (h : ℤ) (p : ℕ) → IsCutUpTo r h p plane → is_at_least plane h p ≡ true → IsCutUpTo r h (p + 1) plane
cut_skip r plane h p c k = record {
  same_shape = c.same_shape;
  one_each = c.one_each;
  done = λ q l. elim (cases_lt q p) [
    | inl less ↦ c.done q less
    | inr more ↦ let e : p ≡ q = omega arith in
        subst (λ x. value_at plane.values x ≡ cond (is_at_least r h x) (value_at r.values x) None) e (c.rest p (omega arith) ∙ sym (told r plane h p true c k))
  ];
  rest = λ q l. c.rest q (omega arith);
}

pub cut_more : (r plane : Raster) (h : ℤ) (p : ℕ) → IsCutUpTo r h p plane → p < length r.values → is_at_least plane h p ≡ false
    → IsCutUpTo r h (p + 1) (record plane { values = slice_set plane.values p None })
cut_more r plane h p c inside k = record {
  same_shape = c.same_shape;
  one_each = length-set plane.values p None ∙ c.one_each;
  done = λ q l. elim (cases_lt q p) [
    | inl less ↦ get_or-set_other plane.values p q None None (λ e. absurd (omega arith)) ∙ c.done q less
    | inr more ↦ let e : p ≡ q = omega arith in
        subst (λ x. value_at (slice_set plane.values p None) x ≡ cond (is_at_least r h x) (value_at r.values x) None) e
        (get_or-set_same plane.values p None None (omega (arith, c.one_each)) ∙ sym (told r plane h p false c k))
  ];
  rest = λ q l. get_or-set_other plane.values p q None None (λ e. absurd (omega arith)) ∙ c.rest q (omega arith);
}

pub cut_all : (r plane : Raster) (h : ℤ) (count : ℕ) → IsCutUpTo r h count plane → length r.values ≤ count → plane ≡ cut r h
unfolding cut
cut_all r plane h count c all =
    written_all r plane (λ p. cond (is_at_least r h p) (value_at r.values p) None) count
    (record { shape_is = c.same_shape; one_each = c.one_each; written = c.done }) all

-- ---- the cut plane

pub length-cut : (r : Raster) (h : ℤ) → length (cut r h).values ≡ length r.values
unfolding cut pixels
length-cut r h = length-map-range_with_len (λ p. cond (is_at_least r h p) (value_at r.values p) None) 0 (length r.values)

pub cut_is_a_plane : (r : Raster) (h : ℤ) → IsPlane r → IsPlane (cut r h)
unfolding cut
cut_is_a_plane r h plane = length-cut r h ∙ plane

pub value-cut : (r : Raster) (h : ℤ) (p : ℕ) → p < length r.values → value_at (cut r h).values p ≡ cond (is_at_least r h p) (value_at r.values p) None
unfolding cut pixels
value-cut r h p l = get_or-map-range_with_len (λ q. cond (is_at_least r h q) (value_at r.values q) None) 0 (length r.values) p p None l (omega arith)

-- a pixel that is left has at least the level
high_in_whole : (r : Raster) (h : ℤ) (p : ℕ) → IsTrue (is_defined (cut r h) p) → IsTrue (is_at_least r h p)
high_in_whole r h p d =
    go (is_at_least r h p) (subst (λ (v : Option ℤ). is_some v ≡ true) (value-cut r h p (omega (arith, length-cut r h, below_from_defined (cut r h) p d))) d)
  where
    go : (b : Bool) → is_some (cond b (value_at r.values p) None) ≡ true → b ≡ true
    go true m = refl
    go false m = absurd (true≢false (sym m))

value_left : (r : Raster) (h : ℤ) (p : ℕ) → IsTrue (is_at_least r h p) → value_at r.values p ≡ value_at (cut r h).values p
value_left r h p k =
    sym (value-cut r h p (below_from_defined r p (defined_from_at_least r h p k)) ∙ ap (λ (b : Bool). cond b (value_at r.values p) None) k)

pub high_in_cut : (r : Raster) (h : ℤ) (p : ℕ) → IsTrue (is_defined (cut r h) p) → IsTrue (is_at_least (cut r h) h p)
high_in_cut r h p d = let k : IsTrue (is_at_least r h p) = high_in_whole r h p d in subst (λ (v : Option ℤ). at_least h v ≡ true) (value_left r h p k) k

pub cut_alike : (r : Raster) (h : ℤ) → AlikeAbove r (cut r h) h
unfolding cut
cut_alike r h = record {
  width = refl;
  size = sym (length-cut r h);
  one = value_left r h;
  other = λ p k. value_left r h p (high_in_whole r h p (defined_from_at_least (cut r h) h p k));
}
