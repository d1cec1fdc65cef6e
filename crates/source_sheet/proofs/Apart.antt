-- Marks that are set where none was: so no pixel lies in two places.
use Rattle.std.proofs.Common.{◌≡◌, ℕ, ◌+◌, ◌*◌, ◌/◌, ◌%◌, ◌<◌, ◌≤◌, Bool, true, false, List, length, refl, sym, ◌∙◌, ap, subst, arith, ◌⊎◌, inl, inr, set}
use Rattle.std.specs.Prelude.{IsTrue, Some, slice_get}
use Rattle.std.proofs.lemmas.Bool.{cases_lt, cases_eq, true≢false, false_from_ne_true}
use Rattle.std.proofs.lemmas.List.{length-set, get_or-set_same, get_or-set_other}
use Rattle.std.proofs.lemmas.Nat.{mod_below, div_below}
use Rattle.std.proofs.lemmas.Option.{slice_get_within, same_Some}
use Rattle.std.proofs.Math.Nat.{mul-le-mul_right}
use Rattle.comp_tree.specs.declared.shape.Shape.{Shape}
use Rattle.comp_tree.specs.Raster.{Raster}
use Rattle.comp_tree.specs.Windows.{Window, IsInside, in_whole}
use Rattle.comp_tree.proofs.Exported.{some_columns}
use Rattle.source_sheet.specs.declared.sheet.Place.{Place}
use Rattle.source_sheet.specs.Laid.{windows_of, LiesAt, AreApartThere}
use Rattle.comp_tree.specs.Marks.{is_marked}
use Rattle.source_sheet.specs.Checks.{AreNewlyMarked, IsBetween, IsInRows, AreAllApart}

-- ---- one mark

mark_kept : (marks : List Bool) (p q : ℕ) → p < length marks → IsTrue (is_marked marks q) → IsTrue (is_marked (set marks p true) q)
mark_kept marks p q l k = go (cases_eq q p)
  where
    go : (q ≡ p) ⊎ (q ≡ p → ⊥) → is_marked (set marks p true) q ≡ true
    go (inl e) = ap (is_marked (set marks p true)) e ∙ get_or-set_same marks p true false l
    go (inr n) = get_or-set_other marks p q true false n ∙ k

module _ (old new : List Bool) (LiesThere : ℕ → Type 0) (newly : AreNewlyMarked old new LiesThere) where
  -- a pixel without a mark had none before
  unmarked_before : (p : ℕ) → is_marked new p ≡ false → is_marked old p ≡ false
  unmarked_before p e = false_from_ne_true (is_marked old p) (λ k. true≢false (sym (newly.kept p k) ∙ e))

-- ---- one pixel after the other

pub newly_none : (marks : List Bool) (first : ℕ) → AreNewlyMarked marks marks (IsBetween first first)
newly_none marks first = record {
  same_length = refl;
  kept = λ p k. k;
  free = λ p b. let low : first ≤ p = b.low in let high : p < first = b.high in absurd (omega arith);
  all = λ p b. let low : first ≤ p = b.low in let high : p < first = b.high in absurd (omega arith);
}

newly_more : (old marks : List Bool) (first p : ℕ) → p < length marks → is_marked marks p ≡ false → AreNewlyMarked old marks (IsBetween first p)
    → AreNewlyMarked old (set marks p true) (IsBetween first (p + 1))
newly_more old marks first p l none before = record {
  same_length = length-set marks p true ∙ before.same_length;
  kept = λ q k. mark_kept marks p q l (before.kept q k);
  free = λ q b. free q b (cases_lt q p);
  all = λ q b. all q b (cases_lt q p);
}
  where
    same : (q : ℕ) → IsBetween first (p + 1) q → p ≤ q → p ≡ q
    same q b k = let high : q < p + 1 = b.high in omega arith

    free : (q : ℕ) → IsBetween first (p + 1) q → (q < p) ⊎ (p ≤ q) → is_marked old q ≡ false
    free q b (inl k) = before.free q (record { low = b.low; high = k })
    free q b (inr k) =
        subst (λ (n : ℕ). is_marked old n ≡ false) (same q b k) (unmarked_before old marks (IsBetween first p) before p none)

    all : (q : ℕ) → IsBetween first (p + 1) q → (q < p) ⊎ (p ≤ q) → is_marked (set marks p true) q ≡ true
    all q b (inl k) = mark_kept marks p q l (before.all q (record { low = b.low; high = k }))
    all q b (inr k) = subst (λ (n : ℕ). is_marked (set marks p true) n ≡ true) (same q b k) (get_or-set_same marks p true false l)

pub newly_marked : (old marks new : List Bool) (first p : ℕ) → p < length marks → is_marked marks p ≡ false → new ≡ set marks p true
    → AreNewlyMarked old marks (IsBetween first p) → AreNewlyMarked old new (IsBetween first (p + 1))
newly_marked old marks new first p l none is before =
    subst (λ (m : List Bool). AreNewlyMarked old m (IsBetween first (p + 1))) (sym is) (newly_more old marks first p l none before)

pub newly_at : (old new : List Bool) (first p end : ℕ) → AreNewlyMarked old new (IsBetween first p) → p ≡ end → AreNewlyMarked old new (IsBetween first end)
newly_at old new first p end newly e = subst (λ (n : ℕ). AreNewlyMarked old new (IsBetween first n)) e newly

-- ---- one row after the other

newly_joined : (old middle new : List Bool) (P Q R : ℕ → Type 0) → ((p : ℕ) → R p → P p ⊎ Q p) → AreNewlyMarked old middle P → AreNewlyMarked middle new Q
    → AreNewlyMarked old new R
newly_joined old middle new P Q R split before behind = record {
  same_length = behind.same_length ∙ before.same_length;
  kept = λ p k. behind.kept p (before.kept p k);
  free = λ p k. free p (split p k);
  all = λ p k. all p (split p k);
}
  where
    free : (p : ℕ) → P p ⊎ Q p → is_marked old p ≡ false
    free p (inl k) = before.free p k
    free p (inr k) = unmarked_before old middle P before p (behind.free p k)

    all : (p : ℕ) → P p ⊎ Q p → is_marked new p ≡ true
    all p (inl k) = behind.kept p (before.all p k)
    all p (inr k) = behind.all p k

pub rows_none : (width : ℕ) (w : Window) (marks : List Bool) → AreNewlyMarked marks marks (IsInRows width w 0)
rows_none width w marks = record {
  same_length = refl;
  kept = λ p k. k;
  free = λ p b. let below : b.row < 0 = b.below in absurd (omega arith);
  all = λ p b. let below : b.row < 0 = b.below in absurd (omega arith);
}

pub rows_more : (width : ℕ) (w : Window) (row first end : ℕ) (old middle new : List Bool) → first ≡ (row + w.top) * width + w.left
    → end ≡ first + w.shape.width → AreNewlyMarked old middle (IsInRows width w row) → AreNewlyMarked middle new (IsBetween first end)
    → AreNewlyMarked old new (IsInRows width w (row + 1))
rows_more width w row first end old middle new e f before behind =
    newly_joined old middle new (IsInRows width w row) (IsBetween first end) (IsInRows width w (row + 1)) (λ p k. split p k (cases_lt k.row row)) before behind
  where
    split : (p : ℕ) (k : IsInRows width w (row + 1) p) → (k.row < row) ⊎ (row ≤ k.row) → IsInRows width w row p ⊎ IsBetween first end p
    split p k (inl l) = inl (record { row = k.row; below = l; low = k.low; high = k.high })
    split p k (inr l) =
        let below : k.row < row + 1 = k.below in
        let same : k.row ≡ row = omega arith in
        let place : (k.row + w.top) * width ≡ (row + w.top) * width = ap (λ (n : ℕ). (n + w.top) * width) same in
        let low : (k.row + w.top) * width + w.left ≤ p = k.low in
        let high : p < (k.row + w.top) * width + (w.left + w.shape.width) = k.high in
        inr (record { low = omega (arith, e, place, low); high = omega (arith, e, f, place, high) })

pub rows_at : (width : ℕ) (w : Window) (row rows : ℕ) (old new : List Bool) → AreNewlyMarked old new (IsInRows width w row) → row ≡ rows
    → AreNewlyMarked old new (IsInRows width w rows)
rows_at width w row rows old new newly e = subst (λ (n : ℕ). AreNewlyMarked old new (IsInRows width w n)) e newly

-- a row ends within the image
pub row_inside : (whole : Shape) (w : Window) (row first end : ℕ) → IsInside whole w → row < w.shape.height → first ≡ (row + w.top) * whole.width + w.left
    → end ≡ first + w.shape.width → end ≤ whole.width * whole.height
row_inside whole w row first end inside l e f =
    let right : w.left + w.shape.width ≤ whole.width = inside.columns in
    let bottom : w.top + w.shape.height ≤ whole.height = inside.rows in
    let next : (row + w.top + 1) * whole.width ≤ whole.height * whole.width = mul-le-mul_right whole.width (omega arith) in
    let more : (row + w.top + 1) * whole.width ≡ (row + w.top) * whole.width + whole.width = omega arith in
    omega arith

-- ---- one place after the other

pub apart_none : (width : ℕ) (places : List Place) (marks : List Bool) → AreAllApart width places 0 marks
apart_none width places marks = record {
  marked = λ i p c l g k. absurd (omega arith);
  apart = λ i j p c e l m f g h k. absurd (omega arith);
}

pub apart_more : (width : ℕ) (places : List Place) (count : ℕ) (c : Place) (old new : List Bool) → slice_get places count ≡ Some c
    → AreAllApart width places count old → AreNewlyMarked old new (IsInRows width (windows_of c).to c.shape.height)
    → AreAllApart width places (count + 1) new
apart_more width places count c old new here before newly = record {
  marked = λ i p d l g k. marked i p d l g k (cases_lt i count);
  apart = λ i j p d e l m f g h k. apart i j p d e l m f g h k (cases_lt i count) (cases_lt j count);
}
  where
    last : (i p : ℕ) (d : Place) → i < count + 1 → count ≤ i → slice_get places i ≡ Some d
        → IsInRows width (windows_of d).to d.shape.height p → IsInRows width (windows_of c).to c.shape.height p
    last i p d l m g k =
        let same : i ≡ count = omega arith in
        let one : d ≡ c = same_Some d c (sym g ∙ ap (slice_get places) same ∙ here) in
        subst (λ (x : Place). IsInRows width (windows_of x).to x.shape.height p) one k

    marked : (i p : ℕ) (d : Place) → i < count + 1 → slice_get places i ≡ Some d → IsInRows width (windows_of d).to d.shape.height p
        → (i < count) ⊎ (count ≤ i) → is_marked new p ≡ true
    marked i p d l g k (inl m) = newly.kept p (before.marked i p d m g k)
    marked i p d l g k (inr m) = newly.all p (last i p d l m g k)

    -- a pixel of an earlier place was marked, and one of the last place wasn't
    both : (i j p : ℕ) (d e : Place) → i < count → j < count + 1 → count ≤ j → slice_get places i ≡ Some d → slice_get places j ≡ Some e
        → IsInRows width (windows_of d).to d.shape.height p → IsInRows width (windows_of e).to e.shape.height p → ⊥
    both i j p d e l m n f g h k = true≢false (sym (before.marked i p d l f h) ∙ newly.free p (last j p e m n g k))

    apart : (i j p : ℕ) (d e : Place) → i < count + 1 → j < count + 1 → slice_get places i ≡ Some d → slice_get places j ≡ Some e
        → IsInRows width (windows_of d).to d.shape.height p → IsInRows width (windows_of e).to e.shape.height p
        → (i < count) ⊎ (count ≤ i) → (j < count) ⊎ (count ≤ j) → i ≡ j
    apart i j p d e l m f g h k (inl u) (inl v) = before.apart i j p d e u v f g h k
    apart i j p d e l m f g h k (inl u) (inr v) = absurd (both i j p d e u m v f g h k)
    apart i j p d e l m f g h k (inr u) (inl v) = absurd (both j i p e d v l u g f k h)
    apart i j p d e l m f g h k (inr u) (inr v) = omega arith

pub apart_at : (width : ℕ) (places : List Place) (i count : ℕ) (marks : List Bool) → AreAllApart width places i marks → i ≡ count
    → AreAllApart width places count marks
apart_at width places i count marks apart e = subst (λ (n : ℕ). AreAllApart width places n marks) e apart

-- a pixel of a place lies in one of its rows
lies_in_rows : (s : Raster) (c : Place) (p : ℕ) → LiesAt s c p → IsInRows s.shape.width (windows_of c).to c.shape.height p
unfolding in_whole
lies_in_rows s c p k =
    let place : (k.it / c.shape.width + c.to_top) * s.shape.width + (k.it % c.shape.width + c.to_left) ≡ p = k.place in
    let column : k.it % c.shape.width < c.shape.width = mod_below k.it c.shape.width (some_columns c.shape) in
    let size : k.it < c.shape.width * c.shape.height = k.below in
    record {
      row = k.it / c.shape.width;
      below = div_below k.it c.shape.width c.shape.height (some_columns c.shape) (omega arith);
      low = omega arith;
      high = omega arith;
    }

pub apart_from : (s : Raster) (width : ℕ) (places : List Place) (marks : List Bool) → width ≡ s.shape.width
    → AreAllApart width places (length places) marks → AreApartThere s places
apart_from s width places marks wide apart i j p c e f g h k =
    apart.apart i j p c e (slice_get_within places i c f) (slice_get_within places j e g) f g
    (subst (λ (n : ℕ). IsInRows n (windows_of c).to c.shape.height p) (sym wide) (lies_in_rows s c p h))
    (subst (λ (n : ℕ). IsInRows n (windows_of e).to e.shape.height p) (sym wide) (lies_in_rows s e p k))
