-- The rows get their parents, pixel by pixel.
use Rattle.std.proofs.Common.{◌≡◌, ◌≢◌, ℕ, ◌+◌, ◌<◌, ◌≤◌, List, length, map, get_or, set, refl, sym, ap, ◌∙◌, inl, inr, ◌⊎◌, arith, length-set}
use Rattle.std.proofs.Common.{get_or-set_same, get_or-set_other}
use Rattle.std.proofs.lemmas.Bool.{cases_eq}
use Rattle.std.proofs.lemmas.List.{ext_get_or, get_or-map, length-map}
use Rattle.std.proofs.lemmas.Option.{slice_get-get_or}
use Rattle.comp_tree.specs.declared.tree.NodeRow.{NodeRow}
use Rattle.comp_tree.specs.Forest.{link_of}
use Rattle.tree_canon.specs.Canonical.{node_number_at, with_parent}
use Rattle.tree_canon.specs.Places.{IsRowAt, AreNumberedBy}
use Rattle.tree_canon.proofs.Parents.{blank}

-- the rows of the first i pixels have their parents
pub record IsSetBy (links numbers ps : List ℕ) (old new : List NodeRow) (i : ℕ) : Type 0 where
  pub count : length new ≡ length old
  pub levels : (n : ℕ) → (get_or new n blank).level ≡ (get_or old n blank).level
  pub pixels : (n : ℕ) → (get_or new n blank).rep ≡ (get_or old n blank).rep
  pub done : (k : ℕ) → k < i → k < length ps
      → get_or new (node_number_at numbers (get_or ps k 0)) blank ≡ with_parent links numbers (get_or old (node_number_at numbers (get_or ps k 0)) blank)

pub set_by_none : (links numbers ps : List ℕ) (old : List NodeRow) → IsSetBy links numbers ps old old 0
set_by_none links numbers ps old = record { count = refl; levels = λ n. refl; pixels = λ n. refl; done = λ k lt _. absurd (omega arith) }

made_of : (row other : NodeRow) (m : ℕ) → row.level ≡ other.level → row.rep ≡ other.rep
    → (let x : NodeRow = record { level = row.level; rep = row.rep; parent = m } in x)
    ≡ (let y : NodeRow = record { level = other.level; rep = other.rep; parent = m } in y)
made_of row other m e f = λ i. record { level = e i; rep = f i; parent = m }

pub set_by_more : (links numbers ps : List ℕ) (old new : List NodeRow) (i n m : ℕ) → i < length ps → AreNumberedBy old ps numbers
    → n ≡ node_number_at numbers (get_or ps i 0)
    → m ≡ node_number_at numbers (link_of 0 links (get_or ps i 0)) → IsSetBy links numbers ps old new i
    → IsSetBy links numbers ps old (set new n (record { level = (get_or new n blank).level; rep = (get_or new n blank).rep; parent = m })) (i + 1)
set_by_more links numbers ps old new i n m lt by is up h = record {
  count = length-set new n row ∙ h.count;
  levels = λ j. level_at j (cases_eq j n);
  pixels = λ j. pixel_at j (cases_eq j n);
  done = λ k below kt. on k below kt (cases_eq (node_number_at numbers (get_or ps k 0)) n);
}
  where
    row : NodeRow
    row = record { level = (get_or new n blank).level; rep = (get_or new n blank).rep; parent = m }

    here : IsRowAt old (node_number_at numbers (get_or ps i 0)) (get_or ps i 0)
    here = by.rows_at i lt

    inside : n < length new
    inside = omega (arith, is, here.inside, h.count)

    there : get_or (set new n row) n blank ≡ row
    there = get_or-set_same new n row blank inside

    level_at : (j : ℕ) → (j ≡ n) ⊎ (j ≢ n) → (get_or (set new n row) j blank).level ≡ (get_or old j blank).level
    level_at j (inl e) = ap (λ x. (get_or (set new n row) x blank).level) e ∙ ap (λ (x : NodeRow). x.level) there ∙ h.levels n
        ∙ ap (λ x. (get_or old x blank).level) (sym e)
    level_at j (inr ne) = ap (λ (x : NodeRow). x.level) (get_or-set_other new n j row blank ne) ∙ h.levels j

    pixel_at : (j : ℕ) → (j ≡ n) ⊎ (j ≢ n) → (get_or (set new n row) j blank).rep ≡ (get_or old j blank).rep
    pixel_at j (inl e) = ap (λ x. (get_or (set new n row) x blank).rep) e ∙ ap (λ (x : NodeRow). x.rep) there ∙ h.pixels n
        ∙ ap (λ x. (get_or old x blank).rep) (sym e)
    pixel_at j (inr ne) = ap (λ (x : NodeRow). x.rep) (get_or-set_other new n j row blank ne) ∙ h.pixels j

    own : (get_or old n blank).rep ≡ get_or ps i 0
    own = ap (λ x. (get_or old x blank).rep) is ∙ here.pixel

    made : row ≡ with_parent links numbers (get_or old n blank)
    made =
        made_of (get_or new n blank) (get_or old n blank) m (h.levels n) (h.pixels n)
        ∙ ap (λ (x : ℕ). let y : NodeRow = record { level = (get_or old n blank).level; rep = (get_or old n blank).rep; parent = x } in y)
        (up ∙ ap (λ x. node_number_at numbers (link_of 0 links x)) (sym own))

    on : (k : ℕ) → k < i + 1 → k < length ps → (node_number_at numbers (get_or ps k 0) ≡ n) ⊎ (node_number_at numbers (get_or ps k 0) ≢ n)
        → get_or (set new n row) (node_number_at numbers (get_or ps k 0)) blank
        ≡ with_parent links numbers (get_or old (node_number_at numbers (get_or ps k 0)) blank)
    on k below kt (inl e) = ap (λ x. get_or (set new n row) x blank) e ∙ there ∙ made ∙ ap (λ x. with_parent links numbers (get_or old x blank)) (sym e)
    on k below kt (inr ne) = elim (cases_eq k i) [
      | inl f ↦ absurd (ne (ap (λ x. node_number_at numbers (get_or ps x 0)) f ∙ sym is))
      | inr nf ↦ get_or-set_other new n (node_number_at numbers (get_or ps k 0)) row blank ne ∙ h.done k (omega arith) kt
    ]

pub set_by_all : (links numbers ps : List ℕ) (old new : List NodeRow) (i : ℕ) → length ps ≤ i → AreNumberedBy old ps numbers
    → IsSetBy links numbers ps old new i
    → new ≡ map (with_parent links numbers) old
set_by_all links numbers ps old new i long by h =
    ext_get_or blank new (map (with_parent links numbers) old) (h.count ∙ sym (length-map old (with_parent links numbers))) at
  where
    at : (n : ℕ) → n < length new → get_or new n blank ≡ get_or (map (with_parent links numbers) old) n blank
    at n lt =
        let inside : n < length old = omega (arith, h.count) in
        let k = by.all n (get_or old n blank) (slice_get-get_or old n blank inside) in
        ap (λ x. get_or new x blank) (sym k.1.1) ∙ h.done k.0 (omega (arith, k.1.0)) k.1.0 ∙ ap (λ x. with_parent links numbers (get_or old x blank)) k.1.1
        ∙ sym (get_or-map (with_parent links numbers) old n blank blank inside)
