-- Model: what the commands of a session do, one after the other, to the bytes of the input and to the tables.
use Rattle.std.specs.Prelude.{ℕ, ◌+◌, Bool, true, false, ◌||◌, List, [], ◌∷◌, ◌++◌, drop, Option, Some, None, is_some, if◌then◌else◌}
use Rattle.survey_core.specs.declared.words.Command.{Command}
use Rattle.survey_core.specs.declared.words.Command.TheVariants.{Add, Drop, List as Listing, Brightest}
use Rattle.survey_core.specs.declared.fault.Stop.{Stop}
use Rattle.survey_core.specs.declared.fault.Stop.TheVariants.{Refused}
use Rattle.survey_core.specs.declared.fault.Fault.TheVariants.{NoSuchField}
use Rattle.survey_core.specs.Tables.{Table, cells_of_field, put, without_field}
use Rattle.survey_core.specs.Catalogues.{Reading, accepted, rejected, catalogue_in}
use Rattle.survey_core.specs.Listings.{list_lines}
use Rattle.survey_core.specs.Ranking.{brightest_lines}

-- the fault, if there is one; what is printed; how many bytes are taken; the tables afterwards; and whether anything was to be printed
pub record Outcome : Type 0 where
  pub stop : Option Stop
  pub output : List ℕ
  pub taken : ℕ
  pub tables : List Table
  pub printed : Bool

-- nothing is done
abbrev pub nothing : List Table → Outcome
nothing tables = record { stop = None; output = []; taken = 0; tables = tables; printed = false }

-- a fault changes no table
abbrev pub fails : Stop → ℕ → List Table → Outcome
fails stop taken tables = record { stop = Some stop; output = []; taken = taken; tables = tables; printed = false }

abbrev pub changes : ℕ → List Table → Outcome
changes taken tables = record { stop = None; output = []; taken = taken; tables = tables; printed = false }

abbrev pub prints : List ℕ → List Table → Outcome
prints output tables = record { stop = None; output = output; taken = 0; tables = tables; printed = true }

-- the field has the cells of the catalogue that was read, in place of any that it had
abbrev pub added : List ℕ → List Table → Reading → Outcome
added field tables (accepted cells taken) = changes taken (put field cells tables)
added field tables (rejected stop taken) = fails stop taken tables

-- what one command does
abbrev pub effect : List ℕ → List Table → Command → Outcome
effect bytes tables (Add field) = added field tables (catalogue_in bytes)
effect bytes tables (Drop field) =
    if is_some (cells_of_field field tables) then changes 0 (without_field field tables) else fails (Refused NoSuchField) 0 tables
effect bytes tables Listing = prints (list_lines tables) tables
effect bytes tables (Brightest count) = prints (brightest_lines tables count) tables

abbrev pub joined_outcomes : Outcome → Outcome → Outcome
joined_outcomes first second = record {
  stop = second.stop;
  output = first.output ++ second.output;
  taken = first.taken + second.taken;
  tables = second.tables;
  printed = first.printed || second.printed;
}

abbrev pub joined_unless : Option Stop → Outcome → Outcome → Outcome
joined_unless None first second = joined_outcomes first second
joined_unless (Some stop) first second = first

-- the first, and then the second, unless the first has a fault
abbrev pub followed_by : Outcome → Outcome → Outcome
followed_by first second = joined_unless first.stop first second

-- what the commands do, up to the first fault
unfoldable pub session : List ℕ → List Table → List Command → Outcome
session bytes tables [] = nothing tables
session bytes tables (command ∷ rest) =
    followed_by (effect bytes tables command) (session (drop (effect bytes tables command).taken bytes) (effect bytes tables command).tables rest)
