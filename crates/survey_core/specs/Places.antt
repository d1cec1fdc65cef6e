-- Bookkeeping: where a field stands among entries, or where it belongs.
use Rattle.std.specs.Prelude.{◌≡◌, ℕ, Bool, true, false, List, [], ◌∷◌, take, drop, length, ◌≤◌}
use Rattle.std.specs.List.{AllByRecursion}
use Rattle.std.specs.declared.cmp.Ordering.TheVariants.{Less, Equal, Greater}
use Rattle.survey_core.specs.declared.mem_keeper.Entry.{Entry}
use Rattle.survey_core.specs.Fields.{name_cmp}

-- the first of these, if there is one, has the field, or a later one
abbrev pub BelongsAtFront : List Entry → List ℕ → Bool → Type 0
BelongsAtFront [] field found = found ≡ false
BelongsAtFront (e ∷ rest) field true = name_cmp e.field field ≡ Equal
BelongsAtFront (e ∷ rest) field false = name_cmp e.field field ≡ Greater

pub record IsPlace (entries : List Entry) (field : List ℕ) (at : ℕ) (found : Bool) : Type 0 where
  pub inside : at ≤ length entries
  pub before : AllByRecursion (λ e. name_cmp e.field field ≡ Less) (take at entries)
  pub here : BelongsAtFront (drop at entries) field found
