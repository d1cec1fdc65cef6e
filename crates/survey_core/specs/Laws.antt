-- Model: what the tables are after the commands of a session, told by the last command that names a field.
use Rattle.std.specs.Prelude.{◌≡◌, ℕ, Bool, false, List, ◌∷◌, ◌++◌, drop, ℤ, Some, None}
use Rattle.std.specs.List.{list_any}
use Rattle.std.specs.Str.{bytes_eq}
use Rattle.survey_core.specs.declared.words.Command.{Command}
use Rattle.survey_core.specs.declared.words.Command.TheVariants.{Add, Drop, List as Listing, Brightest}
use Rattle.survey_core.specs.declared.fault.Stop.{Stop}
use Rattle.survey_core.specs.Tables.{Table, cells_of_field}
use Rattle.survey_core.specs.Catalogues.{accepted, catalogue_in}
use Rattle.survey_core.specs.Sessions.{effect, session}

-- a command on this field
abbrev pub is_on : List ℕ → Command → Bool
is_on field (Add other) = bytes_eq other field
is_on field (Drop other) = bytes_eq other field
is_on field Listing = false
is_on field (Brightest count) = false

-- no command is on the field
abbrev pub NoneIsOn : List ℕ → List Command → Type 0
NoneIsOn field commands = list_any (is_on field) commands ≡ false

-- it has what it had
abbrev pub UnnamedFieldsStay : Type 0
UnnamedFieldsStay =
    (bytes : List ℕ) (tables : List Table) (commands : List Command) (field : List ℕ) → NoneIsOn field commands → (session bytes tables commands).stop ≡ None
    → cells_of_field field (session bytes tables commands).tables ≡ cells_of_field field tables

-- where the last command on a field adds it, it has the cells of that catalogue
abbrev pub LastAddIsKept : Type 0
LastAddIsKept =
    (bytes : List ℕ) (tables : List Table) (before after : List Command) (field : List ℕ) (cells : List ℤ) (taken : ℕ) → NoneIsOn field after
    → (session bytes tables (before ++ Add field ∷ after)).stop ≡ None → catalogue_in (drop (session bytes tables before).taken bytes) ≡ accepted cells taken
    → cells_of_field field (session bytes tables (before ++ Add field ∷ after)).tables ≡ Some cells

-- and where it drops it, it isn't there
abbrev pub LastDropIsKept : Type 0
LastDropIsKept =
    (bytes : List ℕ) (tables : List Table) (before after : List Command) (field : List ℕ) → NoneIsOn field after
    → (session bytes tables (before ++ Drop field ∷ after)).stop ≡ None
    → cells_of_field field (session bytes tables (before ++ Drop field ∷ after)).tables ≡ None

-- the first command that fails, with this fault, behind a session that doesn't stop and whose tables are kept
pub record StopsBehind (bytes : List ℕ) (tables : List Table) (commands : List Command) (stop : Stop) : Type 0 where
  pub before : List Command
  pub failing : Command
  pub after : List Command
  pub commands_are : commands ≡ before ++ failing ∷ after
  pub passed : (session bytes tables before).stop ≡ None
  pub fails : (effect (drop (session bytes tables before).taken bytes) (session bytes tables before).tables failing).stop ≡ Some stop
  pub tables_are : (session bytes tables commands).tables ≡ (session bytes tables before).tables

-- a session that stops has the tables of the commands before the one that fails, so that the laws above speak of them too
abbrev pub TablesBeforeAStopAreKept : Type 0
TablesBeforeAStopAreKept =
    (bytes : List ℕ) (tables : List Table) (commands : List Command) (stop : Stop) → (session bytes tables commands).stop ≡ Some stop
    → StopsBehind bytes tables commands stop
