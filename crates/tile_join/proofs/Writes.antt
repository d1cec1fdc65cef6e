-- What is written into the map from one tile, pixel by pixel of its window.
use Rattle.std.proofs.Common.{◌≡◌, ℕ, ◌+◌, ◌*◌, ◌<◌, ◌⊎◌, inl, inr, true, false, cond, Bool, List, length, get_or, set, refl, sym, ◌∙◌, ap, subst, arith}
use Rattle.std.proofs.Common.{get_or-set_same, get_or-set_other}
use Rattle.std.specs.Prelude.{IsTrue}
use Rattle.std.proofs.lemmas.Bool.{cases_eq, cases_Bool, eq-eqb, ne_eqb, true≢false}
use Rattle.comp_tree.specs.declared.shape.Shape.{Shape}
use Rattle.comp_tree.specs.Windows.{IsInside, in_whole}
use Rattle.comp_tree.proofs.Exported.{in_whole-one}
use Rattle.tile_join.specs.declared.tiles.TileCatalogue.{TileCatalogue}
use Rattle.tile_join.specs.Tiles.{window_of, is_in_frame}
use Rattle.tile_join.specs.Joins.{in_window}
use Rattle.tile_join.specs.Places.{number_or, number_given, AreFirstWritten}
use Rattle.tile_join.proofs.Frames.{IsPixelOf, pixel_of, pixel_in_frame, in_window-in_whole}

-- a number but 0, or else another one
pub number_or-none : (n other : ℕ) → n ≡ 0 → number_or n other ≡ other
number_or-none n other e = ap (λ (b : Bool). cond b other n) (eq-eqb n 0 e)

pub number_or-some : (n other : ℕ) → (n ≡ 0 → ⊥) → number_or n other ≡ n
number_or-some n other e = ap (λ (b : Bool). cond b other n) (ne_eqb n 0 e)

pub number_or-zero : (n : ℕ) → number_or n 0 ≡ n
number_or-zero n = go (cases_eq n 0)
  where
    go : (n ≡ 0) ⊎ (n ≡ 0 → ⊥) → number_or n 0 ≡ n
    go (inl e) = number_or-none n 0 e ∙ sym e
    go (inr e) = number_or-some n 0 e

pub written_none : (width : ℕ) (t : TileCatalogue) (table old : List ℕ) → AreFirstWritten width t table 0 old old
written_none width t table old = record { inside = λ q l. absurd (omega arith); outside = λ p n. refl }

pub written_more : (whole : Shape) (t : TileCatalogue) (table : List ℕ) (q p number : ℕ) (old map : List ℕ) → IsInside whole (window_of t.window)
    → AreFirstWritten whole.width t table q old map → p ≡ in_whole whole.width (window_of t.window) q → p < length map
    → number ≡ number_or (get_or map p 0) (get_or table (get_or t.map.items q 0) 0) → AreFirstWritten whole.width t table (q + 1) old (set map p number)
written_more whole t table q p number old map i h e l d = record { inside = inside; outside = outside }
  where
    place : ℕ → ℕ
    place k = in_whole whole.width (window_of t.window) k

    given : ℕ → ℕ
    given k = get_or table (get_or t.map.items k 0) 0

    before : get_or map p 0 ≡ get_or old p 0
    before =
        h.outside p (λ k b f. let s : k ≡ q = in_whole-one whole (window_of t.window) k q i (f ∙ e) in absurd (omega arith))

    inside : (k : ℕ) → k < q + 1 → get_or (set map p number) (in_whole whole.width (window_of t.window) k) 0
        ≡ number_or (get_or old (in_whole whole.width (window_of t.window) k) 0) (get_or table (get_or t.map.items k 0) 0)
    inside k b = go (cases_eq k q)
      where
        at_q : get_or (set map p number) (in_whole whole.width (window_of t.window) q) 0
            ≡ number_or (get_or old (in_whole whole.width (window_of t.window) q) 0) (get_or table (get_or t.map.items q 0) 0)
        at_q =
            subst (λ (x : ℕ). get_or (set map p number) x 0 ≡ number_or (get_or old x 0) (get_or table (get_or t.map.items q 0) 0)) e
            (get_or-set_same map p number 0 l ∙ d ∙ ap (λ (n : ℕ). number_or n (get_or table (get_or t.map.items q 0) 0)) before)

        go : (k ≡ q) ⊎ (k ≡ q → ⊥) → get_or (set map p number) (in_whole whole.width (window_of t.window) k) 0
            ≡ number_or (get_or old (in_whole whole.width (window_of t.window) k) 0) (get_or table (get_or t.map.items k 0) 0)
        go (inl s) =
            subst (λ (x : ℕ). get_or (set map p number) (in_whole whole.width (window_of t.window) x) 0
            ≡ number_or (get_or old (in_whole whole.width (window_of t.window) x) 0) (get_or table (get_or t.map.items x 0) 0)) (sym s) at_q
        go (inr n) =
            get_or-set_other map p (in_whole whole.width (window_of t.window) k) number 0
            (λ f. n (in_whole-one whole (window_of t.window) k q i (f ∙ e)))
            ∙ h.inside k (omega arith)

    outside : (j : ℕ) → ((k : ℕ) → k < q + 1 → in_whole whole.width (window_of t.window) k ≡ j → ⊥) → get_or (set map p number) j 0 ≡ get_or old j 0
    outside j n =
        get_or-set_other map p j number 0 (λ f. n q (omega arith) (sym (f ∙ e)))
        ∙ h.outside j (λ k b f. n k (omega arith) f)

pub written_all : (whole : Shape) (t : TileCatalogue) (table : List ℕ) (count : ℕ) (old new : List ℕ) → IsInside whole (window_of t.window)
    → t.window.shape.width * t.window.shape.height ≡ count → AreFirstWritten whole.width t table count old new
    → (p : ℕ) → get_or new p 0 ≡ number_or (get_or old p 0) (number_given whole.width t table p)
unfolding number_given
written_all whole t table count old new i c h p = go (cases_Bool (is_in_frame whole.width t.window p))
  where
    given : Bool → ℕ
    given b = cond b (get_or table (get_or t.map.items (in_window whole.width (window_of t.window) p) 0) 0) 0

    go : (is_in_frame whole.width t.window p ≡ true) ⊎ (is_in_frame whole.width t.window p ≡ false)
        → get_or new p 0 ≡ number_or (get_or old p 0) (cond (is_in_frame whole.width t.window p)
        (get_or table (get_or t.map.items (in_window whole.width (window_of t.window) p) 0) 0) 0)
    go (inl k) =
        let s : IsPixelOf whole.width t.window p = pixel_of whole t.window p k in
        let own : in_window whole.width (window_of t.window) p ≡ s.it =
        ap (in_window whole.width (window_of t.window)) (sym s.place) ∙ in_window-in_whole whole (window_of t.window) s.it i in
        subst (λ (x : ℕ). get_or new x 0 ≡ number_or (get_or old x 0) (get_or table (get_or t.map.items s.it 0) 0)) s.place
        (h.inside s.it (subst (λ (n : ℕ). s.it < n) c s.below))
        ∙ ap (λ (x : ℕ). number_or (get_or old p 0) (get_or table (get_or t.map.items x 0) 0)) (sym own)
        ∙ ap (λ (b : Bool). number_or (get_or old p 0) (given b)) (sym k)
    go (inr k) =
        h.outside p (λ q l f. absurd (true≢false (sym (subst (λ (x : ℕ). IsTrue (is_in_frame whole.width t.window x)) f
        (pixel_in_frame whole t.window q i (subst (λ (n : ℕ). q < n) (sym c) l))) ∙ k)))
        ∙ sym (number_or-zero (get_or old p 0))
        ∙ ap (λ (b : Bool). number_or (get_or old p 0) (given b)) (sym k)
