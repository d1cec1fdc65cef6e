-- Bookkeeping: what a call on a connection does to the rows of `source`, and what its answer says of them.
use Rattle.std.specs.Prelude.{◌≡◌, ◌⊎◌, ◌==◌, ℕ, List, [], ◌∷◌, Option, None, is_some, map}
use Rattle.sqlite.specs.declared.types.Value.TheVariants.{Text}
use Rattle.sqlite.specs.Order.{Row}
use Rattle.sqlite.specs.State.{State, HasCleanDisk}
use Rattle.survey_core.specs.Tables.{Table, cells_of_field}
use Rattle.survey_sqlite.specs.Source.{IsAtRest}
use Rattle.survey_sqlite.specs.Rows.{IsCellsOf}
use Rattle.survey_sqlite.specs.Steps.{tables_of}
use Rattle.survey_sqlite.specs.Turns.{TurnedTo}

abbrev pub AnswersCells : State → State → List ℕ → List Row → Type 0
AnswersCells old new field rows = HasCleanDisk new → IsAtRest old → IsCellsOf (tables_of old) field rows

-- the names of the fields, each in a row of its own
abbrev pub are_names : List Table → List Row
are_names = map (λ t. Text t.0 ∷ [])

abbrev pub AnswersNames : State → State → List Row → Type 0
AnswersNames old new rows = HasCleanDisk new → IsAtRest old → rows ≡ are_names (tables_of old)

-- how many rows were deleted, where it was at rest
abbrev pub CountsFound : State → State → List ℕ → ℕ → Type 0
CountsFound old new field count = HasCleanDisk new → IsAtRest old → (count == 1) ≡ is_some (cells_of_field field (tables_of old))

-- they stay, or no connection was opened
abbrev pub Untouched : {C : Type 0} → (C → State) → Option C → Option C → Type 0
Untouched state_of old new = TurnedTo state_of old new (λ tables. tables) ⊎ ((old ≡ None) × (new ≡ None))
