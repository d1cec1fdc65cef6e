-- The numbers of the sheet's pixels, as they are taken to the plane place by place.
use Rattle.std.proofs.Common.{◌≡◌, ℕ, ◌+◌, ◌<◌, ◌≤◌, List, length, set, refl, sym, ◌∙◌, ap, subst, arith, ◌⊎◌, inl, inr}
use Rattle.std.specs.Prelude.{Some, slice_get, slice_index}
use Rattle.std.proofs.lemmas.Bool.{cases_eq, cases_lt}
use Rattle.std.proofs.lemmas.List.{get_or-set_same, get_or-set_other}
use Rattle.std.proofs.lemmas.Option.{same_Some}
use Rattle.comp_tree.specs.Windows.{in_whole}
use Rattle.source_pick.specs.Sheets.{window_size}
use Rattle.source_sheet.specs.declared.sheet.Place.{Place}
use Rattle.source_sheet.specs.Laid.{windows_of}
use Rattle.source_sheet.specs.Backs.{IsFromPlace, ArePutIn, AreTakenTo}

-- ---- one place

pub put_none : (width columns : ℕ) (c : Place) (numbers map : List ℕ) → ArePutIn width columns c numbers 0 map map
put_none width columns c numbers map = record { sound = λ p. inl refl; complete = λ q l. absurd (omega (arith, l)); kept = λ p z. z }

pub put_more : (width columns : ℕ) (c : Place) (numbers : List ℕ) (q : ℕ) (before after : List ℕ) (p v : ℕ) → ArePutIn width columns c numbers q before after
    → q < window_size (windows_of c).from → p ≡ in_whole width (windows_of c).from q → p < length after
    → v ≡ slice_index numbers (in_whole columns (windows_of c).to q) → (v ≡ 0 → ⊥) → ArePutIn width columns c numbers (q + 1) before (set after p v)
put_more width columns c numbers q before after p v h few at inside number some = record {
  sound = λ m. sound m (cases_eq m p) (h.sound m);
  complete = λ m l z. complete m (cases_eq (in_whole width (windows_of c).from m) p) (cases_lt m q) l z;
  kept = λ m z. kept m (cases_eq m p) z;
}
  where
    here : slice_index (set after p v) p ≡ v
    here = get_or-set_same after p v 0 inside

    sound : (m : ℕ) → (m ≡ p) ⊎ (m ≡ p → ⊥)
        → (slice_index after m ≡ slice_index before m)
        ⊎ ((x : ℕ) × (x < window_size (windows_of c).from) × (in_whole width (windows_of c).from x ≡ m)
        × (slice_index after m ≡ slice_index numbers (in_whole columns (windows_of c).to x)))
        → (slice_index (set after p v) m ≡ slice_index before m)
        ⊎ ((x : ℕ) × (x < window_size (windows_of c).from) × (in_whole width (windows_of c).from x ≡ m)
        × (slice_index (set after p v) m ≡ slice_index numbers (in_whole columns (windows_of c).to x)))
    sound m (inl e) old = inr (q, few, sym at ∙ sym e, ap (λ (x : ℕ). slice_index (set after p v) x) e ∙ here ∙ number)
    sound m (inr d) (inl f) = inl (get_or-set_other after p m v 0 d ∙ f)
    sound m (inr d) (inr (x, l, e, f)) = inr (x, l, e, get_or-set_other after p m v 0 d ∙ f)

    complete : (m : ℕ) → (in_whole width (windows_of c).from m ≡ p) ⊎ (in_whole width (windows_of c).from m ≡ p → ⊥) → (m < q) ⊎ (q ≤ m) → m < q + 1
        → slice_index (set after p v) (in_whole width (windows_of c).from m) ≡ 0 → slice_index numbers (in_whole columns (windows_of c).to m) ≡ 0
    complete m (inl e) t l z = absurd (some (sym here ∙ ap (λ (x : ℕ). slice_index (set after p v) x) (sym e) ∙ z))
    complete m (inr d) (inl t) l z = h.complete m t (sym (get_or-set_other after p (in_whole width (windows_of c).from m) v 0 d) ∙ z)
    complete m (inr d) (inr t) l z = let e : m ≡ q = omega (arith, t, l) in absurd (d (ap (in_whole width (windows_of c).from) e ∙ sym at))

    kept : (m : ℕ) → (m ≡ p) ⊎ (m ≡ p → ⊥) → slice_index (set after p v) m ≡ 0 → slice_index before m ≡ 0
    kept m (inl e) z = absurd (some (sym here ∙ ap (λ (x : ℕ). slice_index (set after p v) x) (sym e) ∙ z))
    kept m (inr d) z = h.kept m (sym (get_or-set_other after p m v 0 d) ∙ z)

pub put_same : (width columns : ℕ) (c : Place) (numbers : List ℕ) (q : ℕ) (before after : List ℕ) → ArePutIn width columns c numbers q before after
    → slice_index numbers (in_whole columns (windows_of c).to q) ≡ 0 → ArePutIn width columns c numbers (q + 1) before after
put_same width columns c numbers q before after h none = record {
  sound = h.sound;
  complete = λ m l z. complete m (cases_lt m q) l z;
  kept = h.kept;
}
  where
    complete : (m : ℕ) → (m < q) ⊎ (q ≤ m) → m < q + 1 → slice_index after (in_whole width (windows_of c).from m) ≡ 0
        → slice_index numbers (in_whole columns (windows_of c).to m) ≡ 0
    complete m (inl t) l z = h.complete m t z
    complete m (inr t) l z =
        let e : m ≡ q = omega (arith, t, l) in ap (λ (x : ℕ). slice_index numbers (in_whole columns (windows_of c).to x)) e ∙ none

pub put_up_to : (width columns : ℕ) (c : Place) (numbers : List ℕ) (j k : ℕ) (before after : List ℕ) → ArePutIn width columns c numbers k before after → j ≤ k
    → ArePutIn width columns c numbers j before after
put_up_to width columns c numbers j k before after h e = record {
  sound = h.sound;
  complete = λ q l z. h.complete q (omega (arith, l, e)) z;
  kept = h.kept;
}

-- ---- all places

pub taken_to_none : (width columns : ℕ) (places : List Place) (numbers map : List ℕ) → ((p : ℕ) → slice_index map p ≡ 0)
    → AreTakenTo width columns places numbers 0 map
taken_to_none width columns places numbers map blank = record { sound = λ p. inl (blank p); complete = λ i q c l. absurd (omega (arith, l)) }

pub taken_to_more : (width columns : ℕ) (places : List Place) (numbers : List ℕ) (i : ℕ) (c : Place) (before after : List ℕ)
    → AreTakenTo width columns places numbers i before → slice_get places i ≡ Some c
    → ArePutIn width columns c numbers (window_size (windows_of c).from) before after → AreTakenTo width columns places numbers (i + 1) after
taken_to_more width columns places numbers i c before after h got m = record {
  sound = λ p. sound p (m.sound p) (h.sound p);
  complete = λ j q d l g few z. complete j q d (cases_lt j i) l g few z;
}
  where
    sound : (p : ℕ)
        → (slice_index after p ≡ slice_index before p)
        ⊎ ((q : ℕ) × (q < window_size (windows_of c).from) × (in_whole width (windows_of c).from q ≡ p)
        × (slice_index after p ≡ slice_index numbers (in_whole columns (windows_of c).to q)))
        → (slice_index before p ≡ 0) ⊎ IsFromPlace width columns places numbers before p
        → (slice_index after p ≡ 0) ⊎ IsFromPlace width columns places numbers after p
    sound p (inr (q, l, e, n)) old = inr (record { it = i; place = c; at = got; pixel = q; below = l; there = e; number = n })
    sound p (inl e) (inl z) = inl (e ∙ z)
    sound p (inl e) (inr f) =
        inr (record { it = f.it; place = f.place; at = f.at; pixel = f.pixel; below = f.below; there = f.there; number = e ∙ f.number })

    complete : (j q : ℕ) (d : Place) → (j < i) ⊎ (i ≤ j) → j < i + 1 → slice_get places j ≡ Some d → q < window_size (windows_of d).from
        → slice_index after (in_whole width (windows_of d).from q) ≡ 0 → slice_index numbers (in_whole columns (windows_of d).to q) ≡ 0
    complete j q d (inl t) l g few z = h.complete j q d t g few (m.kept (in_whole width (windows_of d).from q) z)
    complete j q d (inr t) l g few z =
        let e : j ≡ i = omega (arith, t, l) in
        let same : d ≡ c = same_Some d c (sym g ∙ ap (slice_get places) e ∙ got) in
        ap (λ (x : Place). slice_index numbers (in_whole columns (windows_of x).to q)) same
        ∙ m.complete q (subst (λ (x : Place). q < window_size (windows_of x).from) same few)
        (ap (λ (x : Place). slice_index after (in_whole width (windows_of x).from q)) (sym same) ∙ z)

pub taken_to_up_to : (width columns : ℕ) (places : List Place) (numbers : List ℕ) (j k : ℕ) (map : List ℕ) → AreTakenTo width columns places numbers k map
    → j ≤ k → AreTakenTo width columns places numbers j map
taken_to_up_to width columns places numbers j k map h e = record {
  sound = h.sound;
  complete = λ i q c l. h.complete i q c (omega (arith, l, e));
}

-- a map of small numbers has small numbers
pub taken_to_small : (width columns : ℕ) (places : List Place) (numbers : List ℕ) (k : ℕ) (map : List ℕ) → AreTakenTo width columns places numbers k map
    → ((p : ℕ) → slice_index numbers p ≤ 2147483647) → (p : ℕ) → slice_index map p ≤ 2147483647
taken_to_small width columns places numbers k map h few p = go (h.sound p)
  where
    go : (slice_index map p ≡ 0) ⊎ IsFromPlace width columns places numbers map p → slice_index map p ≤ 2147483647
    go (inl z) = omega (arith, z)
    go (inr f) =
        let l : slice_index numbers (in_whole columns (windows_of f.place).to f.pixel) ≤ 2147483647 =
        few (in_whole columns (windows_of f.place).to f.pixel) in
        let e : slice_index map p ≡ slice_index numbers (in_whole columns (windows_of f.place).to f.pixel) = f.number in
        omega (arith, l, e)
