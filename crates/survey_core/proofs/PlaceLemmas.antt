-- Entries edited at the place of a field.
use Rattle.std.proofs.Common.{◌≡◌, ◌⊎◌, inl, inr, ℕ, zero, suc, ℤ, Bool, true, false, List, [], ◌∷◌, ◌++◌, take, drop, length, ◌<◌, get_or, Some}
use Rattle.std.proofs.Common.{None, refl, sym, ap, ap₂, subst, ◌∙◌, arith, Ordering, Less, Equal, Greater}
use lib.ListN.{set}
use Rattle.std.specs.List.{AllByRecursion}
use Rattle.survey_core.specs.declared.mem_keeper.Entry.{Entry}
use Rattle.survey_core.specs.Fields.{name_cmp}
use Rattle.survey_core.specs.Tables.{Table, AreInOrder, cells_of_field, put, without_field}
use Rattle.survey_core.specs.Mem.{tables_kept}
use Rattle.survey_core.specs.Places.{IsPlace}
use Rattle.survey_core.proofs.TableLemmas.{same_name, never_before, after_is, before_trans, all_from, above_first}

abbrev table_of : Entry → Table
table_of e = (e.field, e.cells.items)

later : (e : Entry) (es : List Entry) (field : List ℕ) (at : ℕ) (found : Bool) → IsPlace (e ∷ es) field (suc at) found → IsPlace es field at found
later e es field at found p = record { inside = omega (arith, p.inside); before = p.before.1; here = p.here }

put_lesser : (t : Table) (ts : List Table) (field : List ℕ) (cells : List ℤ) → name_cmp t.0 field ≡ Less → put field cells (t ∷ ts) ≡ t ∷ put field cells ts
put_lesser t ts field cells h = rw h refl

pub put_found : (es : List Entry) (field : List ℕ) (cells : List ℤ) (at : ℕ) (x d : Entry) → IsPlace es field at true → x.field ≡ (get_or es at d).field
    → x.cells.items ≡ cells → tables_kept (set es at x) ≡ put field cells (tables_kept es)
put_found [] field cells zero x d p same is = absurd (let bad = p.here in cc)
put_found [] field cells (suc at) x d p same is = absurd (let bad = p.here in cc)
put_found (e ∷ es) field cells zero x d p same is =
    rw p.here (ap (λ (t : Table). t ∷ tables_kept es) (ap₂ (λ f c. (f, c)) (same ∙ same_name e.field field p.here) is))
put_found (e ∷ es) field cells (suc at) x d p same is =
    ap (λ ts. table_of e ∷ ts) (put_found es field cells at x d (later e es field at true p) same is)
    ∙ sym (put_lesser (table_of e) (tables_kept es) field cells p.before.0)

pub put_new : (es : List Entry) (at : ℕ) (x : Entry) → IsPlace es x.field at false
    → tables_kept (take at es ++ x ∷ drop at es) ≡ put x.field x.cells.items (tables_kept es)
put_new [] zero x p = refl
put_new [] (suc at) x p = refl
put_new (e ∷ es) zero x p = rw p.here refl
put_new (e ∷ es) (suc at) x p =
    ap (λ ts. table_of e ∷ ts) (put_new es at x (later e es x.field at false p))
    ∙ sym (put_lesser (table_of e) (tables_kept es) x.field x.cells.items p.before.0)

-- no table has a field that all come after
all_above : (field : List ℕ) (ts : List Table) → AllByRecursion (λ t. name_cmp field t.0 ≡ Less) ts
    → (without_field field ts ≡ ts) × (cells_of_field field ts ≡ None)
all_above field [] h = (refl, refl)
all_above field (t ∷ ts) h = go (name_cmp t.0 field) refl (all_above field ts h.1)
  where
    go : (o : Ordering) → name_cmp t.0 field ≡ o → (without_field field ts ≡ ts) × (cells_of_field field ts ≡ None)
        → (without_field field (t ∷ ts) ≡ t ∷ ts) × (cells_of_field field (t ∷ ts) ≡ None)
    go Less e more = (rw e (ap (λ l. t ∷ l) more.0), rw e more.1)
    go Equal e more = absurd (never_before field t.0 (sym (same_name t.0 field e)) h.0)
    go Greater e more = (rw e (ap (λ l. t ∷ l) more.0), rw e more.1)

above_head : (field : List ℕ) (t : Table) (ts : List Table) → AreInOrder (t ∷ ts) → (name_cmp t.0 field ≡ Equal) ⊎ (name_cmp t.0 field ≡ Greater)
    → AllByRecursion (λ u. name_cmp field u.0 ≡ Less) ts
above_head field t ts up (inl e) = all_from _ ts (λ u m. subst (λ f. name_cmp f u.0 ≡ Less) (same_name t.0 field e) (above_first t ts u up m))
above_head field t ts up (inr e) = all_from _ ts (λ u m. before_trans field t.0 u.0 (after_is t.0 field e) (above_first t ts u up m))

pub drop_found : (es : List Entry) (field : List ℕ) (at : ℕ) → AreInOrder (tables_kept es) → IsPlace es field at true
    → tables_kept (take at es ++ drop (suc at) es) ≡ without_field field (tables_kept es)
drop_found [] field zero up p = absurd (let bad = p.here in cc)
drop_found [] field (suc at) up p = absurd (let bad = p.here in cc)
drop_found (e ∷ es) field zero up p = rw p.here (sym (all_above field (tables_kept es) (above_head field (table_of e) (tables_kept es) up (inl p.here))).0)
drop_found (e ∷ es) field (suc at) up p = rw p.before.0 (ap (λ ts. table_of e ∷ ts) (drop_found es field at up.1 (later e es field at true p)))

pub cells_found_at : (es : List Entry) (field : List ℕ) (at : ℕ) (d : Entry) → IsPlace es field at true
    → cells_of_field field (tables_kept es) ≡ Some (get_or es at d).cells.items
cells_found_at [] field zero d p = absurd (let bad = p.here in cc)
cells_found_at [] field (suc at) d p = absurd (let bad = p.here in cc)
cells_found_at (e ∷ es) field zero d p = rw p.here refl
cells_found_at (e ∷ es) field (suc at) d p = rw p.before.0 (cells_found_at es field at d (later e es field at true p))

pub within : (es : List Entry) (field : List ℕ) (at : ℕ) → IsPlace es field at true → at < length es
within [] field zero p = absurd (let bad = p.here in cc)
within [] field (suc at) p = absurd (let bad = p.here in cc)
within (e ∷ es) field zero p = omega arith
within (e ∷ es) field (suc at) p = omega (arith, within es field at (later e es field at true p))

pub not_found : (es : List Entry) (field : List ℕ) (at : ℕ) → AreInOrder (tables_kept es) → IsPlace es field at false
    → (without_field field (tables_kept es) ≡ tables_kept es) × (cells_of_field field (tables_kept es) ≡ None)
not_found [] field at up p = (refl, refl)
not_found (e ∷ es) field zero up p =
    let rest = all_above field (tables_kept es) (above_head field (table_of e) (tables_kept es) up (inr p.here)) in
    (rw p.here (ap (λ l. table_of e ∷ l) rest.0), rw p.here rest.1)
not_found (e ∷ es) field (suc at) up p =
    let rest = not_found es field at up.1 (later e es field at false p) in
    (rw p.before.0 (ap (λ l. table_of e ∷ l) rest.0), rw p.before.0 rest.1)
