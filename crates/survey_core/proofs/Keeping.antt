-- Tables that are told, and their fields one after the other.
use Rattle.std.proofs.Common.{◌≡◌, ◌∙◌, ℕ, zero, suc, ◌+◌, ◌<◌, List, [], ◌∷◌, ◌++◌, append-nil, length, map, get_or, take, Some, None}
use Rattle.std.proofs.Common.{refl, sym, ap, ap₂, subst, arith, ℤ, inl, inr}
use Rattle.std.specs.Prelude.{Option, IfSome, unwrap_or}
use Rattle.std.specs.Option.{ForSome}
use Rattle.std.specs.List.{flat_map}
use Rattle.std.proofs.lemmas.Grind.{flat_map-append}
use Rattle.std.proofs.lemmas.List.{take_more, map-append, get_or-map, length-map}
use Rattle.survey_core.specs.declared.listing.Summary.{Summary}
use Rattle.survey_core.specs.Tables.{Table, AreInOrder, cells_of_field, names_of}
use Rattle.survey_core.specs.Clauses.{Stays}
use Rattle.survey_core.specs.Listings.{table_summary}
use Rattle.survey_core.specs.Ranking.{rows_of, all_rows}
use Rattle.survey_core.proofs.TableLemmas.{Among, cells_found}

pub at_some : {T : Type 0} (o : Option T) (x : T) (P : T → Type 0) → o ≡ Some x → IfSome o P → P x
at_some None x P e h = absurd (cc)
at_some (Some y) x P e h = subst P (ap (λ p. unwrap_or p x) e) h

pub from_some : {T : Type 0} (o : Option T) (P : T → Type 0) → ForSome o P → IfSome o P
from_some None P h = tt
from_some (Some y) P h = h y refl

pub stays_at : (a b : Option (List Table)) (x : List Table) → Stays a b → a ≡ Some x → b ≡ Some x
stays_at None b x stays e = absurd (cc)
stays_at (Some y) b x stays e = stays ∙ e

pub stays_on : (a b c : Option (List Table)) → Stays a b → Stays b c → Stays a c
stays_on None b c p q = tt
stays_on (Some x) None c p q = absurd (cc)
stays_on (Some x) (Some y) c p q = q ∙ p

pub stays_same : (a : Option (List Table)) → Stays a a
stays_same None = tt
stays_same (Some x) = refl

-- ---- the field at a place

among_at : {X : Type 0} (xs : List X) (i : ℕ) (d : X) → i < length xs → Among xs (get_or xs i d)
among_at [] i d h = absurd (omega arith)
among_at (x ∷ xs) zero d h = inl refl
among_at (x ∷ xs) (suc i) d h = inr (among_at xs i d (omega arith))

pub table_at : (ts : List Table) (i : ℕ) (d name : List ℕ) (cells : List ℤ) (t : Table) → AreInOrder ts → i < length ts → name ≡ get_or (names_of ts) i d
    → cells ≡ unwrap_or (cells_of_field name ts) [] → (name, cells) ≡ get_or ts i t
table_at ts i d name cells t up h named is =
    let name_is : name ≡ (get_or ts i t).0 = named ∙ get_or-map (λ (u : Table). u.0) ts i t d h in
    let cells_are : cells ≡ (get_or ts i t).1 = is ∙ ap (λ f. unwrap_or (cells_of_field f ts) []) name_is
    ∙ ap (λ o. unwrap_or o []) (cells_found ts (get_or ts i t) up (among_at ts i t h)) in
    ap₂ (λ a b. (a, b)) name_is cells_are

pub names_long : (ts : List Table) → length (names_of ts) ≡ length ts
names_long ts = length-map ts (λ (u : Table). u.0)

pub name_at : (ts : List Table) (names got : List (List ℕ)) (i : ℕ) (name copy : List ℕ) → name ≡ get_or got i name → got ≡ names → names ≡ names_of ts
    → copy ≡ name → copy ≡ get_or (names_of ts) i name
name_at ts names got i name copy is same are copied = copied ∙ is ∙ ap (λ l. get_or l i name) (same ∙ are)

-- ---- one field more

pub summaries_more : (ts : List Table) (i : ℕ) (t : Table) (items items' : List Summary) (s : Summary) → i < length ts → items ≡ map table_summary (take i ts)
    → items' ≡ items ++ s ∷ [] → s ≡ table_summary (get_or ts i t)
    → items' ≡ map table_summary (take (i + 1) ts)
summaries_more ts i t items items' s h so_far more is =
    more ∙ ap₂ (λ a b. a ++ b ∷ []) so_far is ∙ sym (map-append table_summary (take i ts) (get_or ts i t ∷ []))
    ∙ sym (ap (map table_summary) (take_more ts i t h))

pub rows_more : (ts : List Table) (i : ℕ) (t : Table) → i < length ts → all_rows (take (i + 1) ts) ≡ all_rows (take i ts) ++ rows_of (get_or ts i t)
unfolding all_rows
rows_more ts i t h =
    ap (flat_map rows_of) (take_more ts i t h) ∙ flat_map-append rows_of (take i ts) (get_or ts i t ∷ [])
    ∙ ap (λ l. flat_map rows_of (take i ts) ++ l) (append-nil (rows_of (get_or ts i t)))
