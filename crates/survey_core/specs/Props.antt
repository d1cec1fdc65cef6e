-- Bookkeeping: facts on tables have one proof at most, so they come out of a truncated invariant, and may stand in a ghost field.
use Rattle.std.proofs.Common.{◌≡◌, ℕ, ◌*◌, ◌+◌, ◌%◌, ◌<◌, ℤ, pos, List, [], ◌∷◌, length, slice_get, Some, Ordering, Less}
use Rattle.std.specs.List.{AllByRecursion}
use Rattle.std.specs.contracts.cmp.Ordering as ordering
use Rattle.std.proofs.Props.{props}
use base.Stored.{Coded-set}
use mathlib.Core.Bool.{Bool-set}
use mathlib.Core.HLevel.{×_prop, Unit-prop}
use Rattle.fits_write.specs.CatalogueColumns.{cells_in_row}
use Rattle.survey_core.specs.Tables.{Table, IsNumbered, IsFieldTable, AreInOrder, AreTables}

Ordering-set : IsSet Ordering
Ordering-set = Coded-set ordering.the_row.coded

IsNumbered-prop : (cells : List ℤ) → IsProp (IsNumbered cells)
IsNumbered-prop cells x y =
    let whole_prop : IsProp (length cells % cells_in_row ≡ 0) = hlevel props in
    let numbers_prop : IsProp ((i : ℕ) → cells_in_row * i < length cells → slice_get cells (cells_in_row * i) ≡ Some (pos (i + 1))) = hlevel props in
    λ i. record {
      whole = whole_prop x.whole y.whole i;
      numbers = numbers_prop x.numbers y.numbers i;
    }

all_prop : {X : Type 0} (P : X → Type 0) → ((x : X) → IsProp (P x)) → (xs : List X) → IsProp (AllByRecursion P xs)
all_prop P each [] = Unit-prop
all_prop P each (x ∷ xs) = ×_prop (each x) (all_prop P each xs)

AreInOrder-prop : (ts : List Table) → IsProp (AreInOrder ts)
AreInOrder-prop [] = Unit-prop
AreInOrder-prop (t ∷ ts) = ×_prop (all_prop _ (λ u. Ordering-set _ Less) ts) (AreInOrder-prop ts)

pub AreTables-prop : (ts : List Table) → IsProp (AreTables ts)
AreTables-prop ts = ×_prop (AreInOrder-prop ts) (all_prop IsFieldTable (λ t. ×_prop (Bool-set _ _) (IsNumbered-prop t.1)) ts)
