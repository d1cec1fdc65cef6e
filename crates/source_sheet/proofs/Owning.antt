-- The owners of the sheet's pixels, as they are marked window by window.
use Rattle.std.proofs.Common.{◌≡◌, ℕ, ◌+◌, ◌<◌, ◌≤◌, List, length, set, refl, sym, ◌∙◌, ap, subst, arith, ◌⊎◌, inl, inr}
use Rattle.std.specs.Prelude.{Some, slice_get, slice_index}
use Rattle.std.proofs.lemmas.Bool.{cases_eq, cases_lt}
use Rattle.std.proofs.lemmas.List.{get_or-set_same, get_or-set_other}
use Rattle.std.proofs.lemmas.Option.{same_Some}
use Rattle.comp_tree.specs.Windows.{Window, in_whole}
use Rattle.source_pick.specs.Sheets.{window_size}
use Rattle.source_sheet.specs.declared.sheet.Place.{Place}
use Rattle.source_sheet.specs.Laid.{windows_of}
use Rattle.source_sheet.specs.Checks.{IsInWindow}
use Rattle.source_sheet.specs.Backs.{AreMarkedIn, IsOwned, AreOwners}

-- ---- one window

pub marked_in_none : (width : ℕ) (w : Window) (number : ℕ) (owners : List ℕ) → AreMarkedIn width w number 0 owners owners
marked_in_none width w number owners = record { sound = λ p. inl refl; complete = λ q l. absurd (omega (arith, l)) }

pub marked_in_more : (width : ℕ) (w : Window) (number q : ℕ) (before after : List ℕ) (p : ℕ) → AreMarkedIn width w number q before after → q < window_size w
    → p ≡ in_whole width w q → p < length after → AreMarkedIn width w number (q + 1) before (set after p number)
marked_in_more width w number q before after p h few at inside = record {
  sound = λ m. sound m (cases_eq m p) (h.sound m);
  complete = λ m l. complete m (cases_eq (in_whole width w m) p) (cases_lt m q) l;
}
  where
    here : slice_index (set after p number) p ≡ number
    here = get_or-set_same after p number 0 inside

    sound : (m : ℕ) → (m ≡ p) ⊎ (m ≡ p → ⊥)
        → (slice_index after m ≡ slice_index before m) ⊎ (IsInWindow width w m × (slice_index after m ≡ number))
        → (slice_index (set after p number) m ≡ slice_index before m) ⊎ (IsInWindow width w m × (slice_index (set after p number) m ≡ number))
    sound m (inl e) old =
        inr (record { it = q; below = few; place = sym at ∙ sym e }, ap (λ (x : ℕ). slice_index (set after p number) x) e ∙ here)
    sound m (inr d) (inl f) = inl (get_or-set_other after p m number 0 d ∙ f)
    sound m (inr d) (inr (w, f)) = inr (w, get_or-set_other after p m number 0 d ∙ f)

    complete : (m : ℕ) → (in_whole width w m ≡ p) ⊎ (in_whole width w m ≡ p → ⊥) → (m < q) ⊎ (q ≤ m) → m < q + 1
        → slice_index (set after p number) (in_whole width w m) ≡ number
    complete m (inl e) t l = ap (λ (x : ℕ). slice_index (set after p number) x) e ∙ here
    complete m (inr d) (inl t) l = get_or-set_other after p (in_whole width w m) number 0 d ∙ h.complete m t
    complete m (inr d) (inr t) l = let e : m ≡ q = omega (arith, t, l) in absurd (d (ap (in_whole width w) e ∙ sym at))

pub marked_in_up_to : (width : ℕ) (w : Window) (number j k : ℕ) (before after : List ℕ) → AreMarkedIn width w number k before after → j ≤ k
    → AreMarkedIn width w number j before after
marked_in_up_to width w number j k before after h e = record { sound = h.sound; complete = λ q l. h.complete q (omega (arith, l, e)) }

-- ---- all windows

pub owners_none : (width : ℕ) (places : List Place) (owners : List ℕ) → ((p : ℕ) → slice_index owners p ≡ 0) → AreOwners width places 0 owners
owners_none width places owners blank = record { sound = λ p. inl (blank p); complete = λ i p c l. absurd (omega (arith, l)) }

pub owners_more : (width : ℕ) (places : List Place) (i : ℕ) (c : Place) (before after : List ℕ) → AreOwners width places i before
    → slice_get places i ≡ Some c → AreMarkedIn width (windows_of c).to (i + 1) (window_size (windows_of c).to) before after
    → AreOwners width places (i + 1) after
owners_more width places i c before after h got m = record {
  sound = λ p. sound p (m.sound p) (h.sound p);
  complete = λ j p d l g w z. complete j p d (cases_lt j i) (m.sound p) l g w z;
}
  where
    sound : (p : ℕ) → (slice_index after p ≡ slice_index before p) ⊎ (IsInWindow width (windows_of c).to p × (slice_index after p ≡ i + 1))
        → (slice_index before p ≡ 0) ⊎ IsOwned width places before p → (slice_index after p ≡ 0) ⊎ IsOwned width places after p
    sound p (inr (w, n)) old = inr (record { it = i; place = c; at = got; lies = w; number = n })
    sound p (inl e) (inl z) = inl (e ∙ z)
    sound p (inl e) (inr o) = inr (record { it = o.it; place = o.place; at = o.at; lies = o.lies; number = e ∙ o.number })

    complete : (j p : ℕ) (d : Place) → (j < i) ⊎ (i ≤ j)
        → (slice_index after p ≡ slice_index before p) ⊎ (IsInWindow width (windows_of c).to p × (slice_index after p ≡ i + 1))
        → j < i + 1 → slice_get places j ≡ Some d → IsInWindow width (windows_of d).to p → slice_index after p ≡ 0 → ⊥
    complete j p d (inl t) (inl e) l g w z = h.complete j p d t g w (sym e ∙ z)
    complete j p d (inl t) (inr (v, n)) l g w z = absurd (omega (arith, n, z))
    complete j p d (inr t) k l g w z =
        let e : j ≡ i = omega (arith, t, l) in
        let same : d ≡ c = same_Some d c (sym g ∙ ap (slice_get places) e ∙ got) in
        let v : IsInWindow width (windows_of c).to p = subst (λ (x : Place). IsInWindow width (windows_of x).to p) same w in
        let n : slice_index after p ≡ i + 1 = ap (λ (x : ℕ). slice_index after x) (sym v.place) ∙ m.complete v.it v.below in
        absurd (omega (arith, n, z))

pub owners_up_to : (width : ℕ) (places : List Place) (j k : ℕ) (owners : List ℕ) → AreOwners width places k owners → j ≤ k → AreOwners width places j owners
owners_up_to width places j k owners h e = record { sound = h.sound; complete = λ i p c l. h.complete i p c (omega (arith, l, e)) }
