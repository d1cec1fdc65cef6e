-- Model: the tables that a connection shows, and names that rise.
use Rattle.std.specs.Prelude.{◌≡◌, ℕ, ◌+◌, ◌<◌, List, [], length, get_or}
use Rattle.std.specs.declared.cmp.Ordering.TheVariants.{Less}
use Rattle.sqlite.specs.State.{State, Opens}
use Rattle.survey_core.specs.Fields.{name_cmp}
use Rattle.survey_core.specs.Tables.{Table}
use Rattle.survey_sqlite.specs.Schemas.{no_schema}
use Rattle.survey_sqlite.specs.Source.{tables_in, IsAtRest}

abbrev pub tables_of : State → List Table
tables_of s = tables_in (s.now.trees 0)

-- each comes before the next, so none comes twice
abbrev pub AreRising : List (List ℕ) → Type 0
AreRising fields = (i : ℕ) → i + 1 < length fields → name_cmp (get_or fields i []) (get_or fields (i + 1) []) ≡ Less

-- a database that opens with nothing in it is at rest then, and shows no field
abbrev pub MakesTable : State → State → Type 0
MakesTable old new = Opens old → old.now.schema ≡ no_schema → IsAtRest new × (tables_of new ≡ [])
