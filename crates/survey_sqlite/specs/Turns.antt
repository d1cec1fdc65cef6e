-- Model: what a call does to the tables that a connection shows, as far as it shows them; and what a call of a keeper over a file works on.
use Rattle.std.specs.Prelude.{◌≡◌, ◌⊎◌, ℕ, ℤ, Bool, List, Option, Some, None, IsTrue, is_some}
use Rattle.sqlite.specs.Disk.{MoreFaults}
use Rattle.sqlite.specs.State.{State, HasCleanDisk}
use Rattle.survey_core.specs.Tables.{Table, cells_of_field, names_of}
use Rattle.survey_sqlite.specs.Source.{IsAtRest}
use Rattle.survey_sqlite.specs.Tables.{HasSource}
use Rattle.survey_sqlite.specs.Steps.{tables_of}

-- A connection at rest is so again while the disk returned what was written and did not shut it, and the tables become these.
abbrev pub Turns : State → State → (List Table → List Table) → Type 0
Turns old new change = HasCleanDisk new → IsTrue new.is_open → IsAtRest old → IsAtRest new × (tables_of new ≡ change (tables_of old))

-- only a fault of the disk shuts it
abbrev pub StaysOpen : State → State → Type 0
StaysOpen old new = HasCleanDisk new → IsTrue old.is_open → IsTrue new.is_open ⊎ MoreFaults old.faults new.faults

-- the cells of the field are those that it was at rest with
abbrev pub ShowsCells : State → State → List ℕ → Option (List ℤ) → Type 0
ShowsCells old new field cells = HasCleanDisk new → IsAtRest old → cells ≡ cells_of_field field (tables_of old)

-- and these its fields
abbrev pub ShowsNames : State → State → List (List ℕ) → Type 0
ShowsNames old new fields = HasCleanDisk new → IsAtRest old → fields ≡ names_of (tables_of old)

-- and whether it was there
abbrev pub ShowsField : State → State → List ℕ → Bool → Type 0
ShowsField old new field found = HasCleanDisk new → IsAtRest old → found ≡ is_some (cells_of_field field (tables_of old))

-- ---- of a keeper that may have a connection

-- a call works on the connection that there is, or on a new one, which has the table
abbrev pub IsWorkedOn : {C : Type 0} → (C → State) → Option C → C → Type 0
IsWorkedOn state_of None from = HasSource (state_of from).now.schema
IsWorkedOn state_of (Some conn) from = from ≡ conn

-- it leaves its connection, open unless the disk failed, and P holds of what that showed before and shows behind
pub record Worked {C : Type 0} (state_of : C → State) (old new : Option C) (P : State → State → Type 0) : Type 0 where
  pub from : C
  pub to : C
  pub worked_on : IsWorkedOn state_of old from
  pub kept : new ≡ Some to
  pub still : StaysOpen (state_of from) (state_of to)
  pub shows : P (state_of from) (state_of to)

-- the tables become these
abbrev pub TurnedTo : {C : Type 0} → (C → State) → Option C → Option C → (List Table → List Table) → Type 0
TurnedTo state_of old new change = Worked state_of old new (λ s t. Turns s t change)
