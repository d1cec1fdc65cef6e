-- Pixels that places hold: each is marked once.
use Rattle.std.proofs.Common.{◌≡◌, ◌∙◌, ℕ, ◌+◌, ◌-◌, ◌*◌, ◌/◌, ◌%◌, ◌<◌, ◌≤◌, zero, suc, Bool, true, false, List, length, refl, sym, ap, subst, arith}
use Rattle.std.proofs.Common.{◌⊎◌, inl, inr, replicate}
use Rattle.std.specs.Prelude.{IsTrue, All, Contains, Some, slice_get, nat_lt, ℤ}
use Rattle.std.proofs.lemmas.Bool.{cases_lt, and_parts, and_from, ltb-true, lt-ltb, true≢false}
use Rattle.std.proofs.lemmas.List.{length-replicate}
use Rattle.std.proofs.Math.Nat.{mul-le-mul_right, mul_comm}
use Rattle.std.proofs.lemmas.Option.{slice_get_within}
use Rattle.comp_tree.specs.Raster.{Raster, is_at_least}
use Rattle.comp_tree.specs.Marks.{is_marked}
use Rattle.comp_tree.specs.Windows.{Window, in_whole}
use Rattle.comp_tree.proofs.Exported.{row-from}
use Rattle.source_pick.specs.Sheets.{is_high_there, window_size}
use Rattle.source_sheet.specs.declared.sheet.Place.{Place}
use Rattle.source_sheet.specs.Laid.{windows_of, HoldsPixel, AreHeldOnce}
use Rattle.source_sheet.specs.Holding.{HasHeld, HasHeldFirst, HasHeldAll, IsHeldBySome, AreHeldApart}

-- ---- a row

-- the pixel of a window in a column of a row, in the whole
pub place_of : (width : ℕ) (w : Window) (row column : ℕ) → column < w.shape.width
    → in_whole width w (row * w.shape.width + column) ≡ (w.top + row) * width + (w.left + column)
unfolding in_whole
place_of width w row column below =
    let next : (row + 1) * w.shape.width ≡ row * w.shape.width + w.shape.width = omega arith in
    let at : ((row * w.shape.width + column) / w.shape.width ≡ row) × ((row * w.shape.width + column) % w.shape.width
    ≡ row * w.shape.width + column - row * w.shape.width) =
    row-from w.shape.width row (row * w.shape.width + column) (omega arith) (omega arith) (omega arith) in
    let rows : (row * w.shape.width + column) / w.shape.width + w.top ≡ w.top + row = omega (arith, at.0) in
    let columns : (row * w.shape.width + column) % w.shape.width + w.left ≡ w.left + column = omega (arith, at.1) in
    rw (rows, columns) refl

-- it is a pixel of the window
pub below_size : (width height row column : ℕ) → row < height → column < width → row * width + column < width * height
below_size width height row column k l =
    let next : (row + 1) * width ≡ row * width + width = omega arith in
    let most : (row + 1) * width ≤ height * width = mul-le-mul_right width (omega arith) in
    omega (arith, mul_comm height width)

-- the window ends behind its last row
pub rows_all : (width height row : ℕ) → height ≤ row → width * height ≤ row * width
rows_all width height row k = let most : height * width ≤ row * width = mul-le-mul_right width k in omega (arith, mul_comm height width)

high_at : (s : Raster) (h : ℤ) (v : Window) (q : ℕ) → IsTrue (is_high_there s h v q) → IsTrue (is_at_least s h (in_whole s.shape.width v q))
unfolding is_high_there
high_at s h v q e = (and_parts (nat_lt q (window_size v)) (is_at_least s h (in_whole s.shape.width v q)) e).1

high_below : (s : Raster) (h : ℤ) (v : Window) (q : ℕ) → IsTrue (is_high_there s h v q) → q < window_size v
unfolding is_high_there
high_below s h v q e = ltb-true q (window_size v) (and_parts (nat_lt q (window_size v)) (is_at_least s h (in_whole s.shape.width v q)) e).0

high_from : (s : Raster) (h : ℤ) (v : Window) (q : ℕ) → q < window_size v → IsTrue (is_at_least s h (in_whole s.shape.width v q))
    → IsTrue (is_high_there s h v q)
unfolding is_high_there
high_from s h v q l e = and_from (nat_lt q (window_size v)) (is_at_least s h (in_whole s.shape.width v q)) (lt-ltb q (window_size v) l) e

pub first_step : (r s : Raster) (h : ℤ) (c : Place) (q there p : ℕ) (old mid new : List Bool) → HasHeldFirst r s h c q old mid → HasHeld s h there p mid new
    → q < window_size (windows_of c).to → p ≡ in_whole r.shape.width (windows_of c).from q → there ≡ in_whole s.shape.width (windows_of c).to q
    → HasHeldFirst r s h c (q + 1) old new
first_step r s h c q there p old mid new f g inside from to = record {
  one_each = g.one_each ∙ f.one_each;
  free = λ k l high. free k high (cases_lt k q) l;
  set = λ k l high. set k high (cases_lt k q) l;
  kept = λ a m. g.kept a (f.kept a m);
  listed = λ a m. elim (g.listed a m) [ inl k ↦ f.listed a k | inr k ↦ inr (holds a k.0 k.1) ];
}
  where
    high_here : IsTrue (is_high_there s h (windows_of c).to q) → IsTrue (is_at_least s h there)
    high_here high = subst (λ (x : ℕ). IsTrue (is_at_least s h x)) (sym to) (high_at s h (windows_of c).to q high)

    not_yet : (t : Bool) → is_marked old p ≡ t → is_marked mid p ≡ false → is_marked old p ≡ false
    not_yet false e none = e
    not_yet true e none = absurd (true≢false (sym (f.kept p e) ∙ none))

    free_here : IsTrue (is_high_there s h (windows_of c).to q) → is_marked old (in_whole r.shape.width (windows_of c).from q) ≡ false
    free_here high = subst (λ (x : ℕ). is_marked old x ≡ false) from (not_yet (is_marked old p) refl (g.free (high_here high)))

    set_here : IsTrue (is_high_there s h (windows_of c).to q) → IsTrue (is_marked new (in_whole r.shape.width (windows_of c).from q))
    set_here high = subst (λ (x : ℕ). IsTrue (is_marked new x)) from (g.set (high_here high))

    free : (k : ℕ) → IsTrue (is_high_there s h (windows_of c).to k) → (k < q) ⊎ (q ≤ k) → k < q + 1
        → is_marked old (in_whole r.shape.width (windows_of c).from k) ≡ false
    free k high (inl m) l = f.free k m high
    free k high (inr m) l =
        let e : q ≡ k = omega arith in
        subst (λ (x : ℕ). IsTrue (is_high_there s h (windows_of c).to x) → is_marked old (in_whole r.shape.width (windows_of c).from x) ≡ false) e
        free_here high

    set : (k : ℕ) → IsTrue (is_high_there s h (windows_of c).to k) → (k < q) ⊎ (q ≤ k) → k < q + 1
        → IsTrue (is_marked new (in_whole r.shape.width (windows_of c).from k))
    set k high (inl m) l = g.kept (in_whole r.shape.width (windows_of c).from k) (f.set k m high)
    set k high (inr m) l =
        let e : q ≡ k = omega arith in
        subst (λ (x : ℕ). IsTrue (is_high_there s h (windows_of c).to x) → IsTrue (is_marked new (in_whole r.shape.width (windows_of c).from x))) e
        set_here high

    holds : (a : ℕ) → p ≡ a → IsTrue (is_at_least s h there) → HoldsPixel r s h c a
    holds a e high = record {
      it = q;
      is_own = high_from s h (windows_of c).to q inside (subst (λ (x : ℕ). IsTrue (is_at_least s h x)) to high);
      place = sym from ∙ e;
    }

-- a row is done where the next one begins
pub first_at : (r s : Raster) (h : ℤ) (c : Place) (q k : ℕ) (old new : List Bool) → HasHeldFirst r s h c q old new → q ≡ k → HasHeldFirst r s h c k old new
first_at r s h c q k old new f e = subst (λ (n : ℕ). HasHeldFirst r s h c n old new) e f

-- ---- a place

pub first_none : (r s : Raster) (h : ℤ) (c : Place) (marks : List Bool) → HasHeldFirst r s h c 0 marks marks
first_none r s h c marks = record {
  one_each = refl;
  free = λ q l _. absurd (omega arith);
  set = λ q l _. absurd (omega arith);
  kept = λ a m. m;
  listed = λ a m. inl m;
}

pub first_all : (r s : Raster) (h : ℤ) (c : Place) (count : ℕ) (old new : List Bool) → HasHeldFirst r s h c count old new
    → window_size (windows_of c).to ≤ count → HasHeldAll r s h c old new
first_all r s h c count old new f all = record {
  one_each = f.one_each;
  free = λ p k. subst (λ (x : ℕ). is_marked old x ≡ false) k.place (f.free k.it (below k.it k.is_own) k.is_own);
  set = λ p k. subst (λ (x : ℕ). IsTrue (is_marked new x)) k.place (f.set k.it (below k.it k.is_own) k.is_own);
  kept = f.kept;
  listed = f.listed;
}
  where
    below : (q : ℕ) → IsTrue (is_high_there s h (windows_of c).to q) → q < count
    below q e = let l : q < window_size (windows_of c).to = high_below s h (windows_of c).to q e in omega (arith, l, all)

-- ---- all places

no_mark : (n a : ℕ) → is_marked (replicate n false) a ≡ false
no_mark zero a = refl
no_mark (suc n) zero = refl
no_mark (suc n) (suc a) = no_mark n a

pub apart_none : (r s : Raster) (h : ℤ) (places : List Place) (marks : List Bool) → marks ≡ replicate (length r.values) false
    → AreHeldApart r s h places 0 marks
apart_none r s h places marks e = record {
  one_each = ap length e ∙ length-replicate (length r.values) false;
  apart = λ i j p c d l _ _ _ _ _. absurd (omega arith);
  held = λ p m. absurd (true≢false (sym m ∙ ap (λ xs. is_marked xs p) e ∙ no_mark (length r.values) p));
  set = λ i p c l _ _. absurd (omega arith);
}

pub apart_more : (r s : Raster) (h : ℤ) (places : List Place) (count : ℕ) (c : Place) (mid new : List Bool) → AreHeldApart r s h places count mid
    → slice_get places count ≡ Some c → HasHeldAll r s h c mid new → AreHeldApart r s h places (count + 1) new
apart_more r s h places count c mid new f is g = record {
  one_each = g.one_each ∙ f.one_each;
  apart = λ i j p d e k l d_is e_is hd he. apart i j p d e d_is e_is hd he (cases_lt i count) (cases_lt j count) k l;
  held = λ p m. elim (g.listed p m) [
    | inl k ↦ f.held p k
    | inr k ↦ record { it = count; place = c; there = is; holds = k }
  ];
  set = λ i p d k d_is hd. set i p d d_is hd (cases_lt i count) k;
}
  where
    -- the place with this number is c
    here : (i p : ℕ) (d : Place) → slice_get places i ≡ Some d → i ≡ count → HoldsPixel r s h d p → HoldsPixel r s h c p
    here i p d d_is at hd =
        let same : Some d ≡ Some c = sym d_is ∙ ap (slice_get places) at ∙ is in
        let e : d ≡ c = cc in
        subst (λ (x : Place). HoldsPixel r s h x p) e hd

    clash : (i p : ℕ) (d : Place) → i < count → slice_get places i ≡ Some d → HoldsPixel r s h d p → HoldsPixel r s h c p → ⊥
    clash i p d l d_is hd hc = absurd (true≢false (sym (f.set i p d l d_is hd) ∙ g.free p hc))

    apart : (i j p : ℕ) (d e : Place) → slice_get places i ≡ Some d → slice_get places j ≡ Some e → HoldsPixel r s h d p → HoldsPixel r s h e p
        → (i < count) ⊎ (count ≤ i) → (j < count) ⊎ (count ≤ j) → i < count + 1 → j < count + 1 → i ≡ j
    apart i j p d e d_is e_is hd he (inl k) (inl l) _ _ = f.apart i j p d e k l d_is e_is hd he
    apart i j p d e d_is e_is hd he (inl k) (inr l) _ m = absurd (clash i p d k d_is hd (here j p e e_is (omega arith) he))
    apart i j p d e d_is e_is hd he (inr k) (inl l) m _ = absurd (clash j p e l e_is he (here i p d d_is (omega arith) hd))
    apart i j p d e d_is e_is hd he (inr k) (inr l) m n = omega arith

    set : (i p : ℕ) (d : Place) → slice_get places i ≡ Some d → HoldsPixel r s h d p → (i < count) ⊎ (count ≤ i) → i < count + 1
        → IsTrue (is_marked new p)
    set i p d d_is hd (inl k) _ = g.kept p (f.set i p d k d_is hd)
    set i p d d_is hd (inr k) m = g.set p (here i p d d_is (omega arith) hd)

pub apart_all : (r s : Raster) (h : ℤ) (places : List Place) (marks : List Bool) → AreHeldApart r s h places (length places) marks
    → AreHeldOnce r s h places
apart_all r s h places marks f i j p c e c_is e_is hc he =
    f.apart i j p c e (slice_get_within places i c c_is) (slice_get_within places j e e_is) c_is e_is hc he

pub listed_held : (r s : Raster) (h : ℤ) (places : List Place) (marks : List Bool) (listed : List ℕ) (p : ℕ)
    → AreHeldApart r s h places (length places) marks → All (λ a. IsTrue (is_marked marks a)) listed → Contains listed p
    → (i : ℕ) × ((c : Place) × (slice_get places i ≡ Some c) × HoldsPixel r s h c p)
listed_held r s h places marks listed p f all c =
    let m : IsTrue (is_marked marks p) = subst (λ (x : ℕ). IsTrue (is_marked marks x)) c.2 (all c.0 p c.1) in
    let k : IsHeldBySome r s h places p = f.held p m in
    (k.it, (k.place, k.there, k.holds))
