-- Bookkeeping: what the carrying out of one command does to the input, the tables and the output, where these are told.
use Rattle.std.specs.Prelude.{◌≡◌, ℕ, ◌<◌, Bool, ◌||◌, List, ◌++◌, Option, Some, None, Result, Ok, Err}
use Rattle.std.specs.Io.KnownBytes.{Appends}
use Rattle.dev_io.specs.Streams.{Takes, TakesAtMost}
use Rattle.survey_core.specs.declared.words.Command.{Command}
use Rattle.survey_core.specs.declared.words.Command.TheVariants.{Add, Drop, List as Listing, Brightest}
use Rattle.survey_core.specs.declared.fault.Stop.{Stop}
use Rattle.survey_core.specs.declared.fault.Stop.TheVariants.{Refused, ReadFault, WriteFault, NoMemory, KeeperFault}
use Rattle.survey_core.specs.Tables.{Table}
use Rattle.survey_core.specs.Sessions.{Outcome}
use Rattle.survey_core.specs.Steps.{is_printing, MayCome, IsFrontAt}

-- `brightest` prints at least one row
abbrev pub HasCount : Command → Type 0
HasCount (Add field) = Unit {0}
HasCount (Drop field) = Unit {0}
HasCount Listing = Unit {0}
HasCount (Brightest count) = 0 < count

-- what the outcome says was done
pub record Does (outcome : Outcome) (bytes : List ℕ) (left' : Option (List ℕ)) (tables' : Option (List Table)) (written written' : Option (List ℕ))
    (stop : Option Stop) : Type 0 where
  pub stop_is : outcome.stop ≡ stop
  pub takes : Takes bytes left' outcome.taken
  pub tables_are : tables' ≡ Some outcome.tables
  pub appended : Appends written written' outcome.output

-- a command with this outcome was cut short: the tables are as before, and some of its bytes and of its output are gone
pub record IsCutCommand (outcome : Outcome) (command : Command) (bytes : List ℕ) (tables : List Table) (left' : Option (List ℕ))
    (tables' : Option (List Table)) (written written' : Option (List ℕ)) (stop : Stop) : Type 0 where
  pub may_come : MayCome stop command outcome
  pub lost : TakesAtMost bytes left' outcome.taken
  pub tables_are : tables' ≡ Some tables
  pub front : List ℕ
  pub back : List ℕ
  pub split : outcome.output ≡ front ++ back
  pub appended : Appends written written' front
  pub is_front : IsFrontAt stop front

-- what a command with this outcome did, by how it ended
abbrev pub Step : Outcome → Command → List ℕ → List Table → Option (List ℕ) → Option (List Table) → Option (List ℕ) → Option (List ℕ)
    → Result Unit Stop → Type 0
Step outcome command bytes tables left' tables' written written' (Ok done) = Does outcome bytes left' tables' written written' None
Step outcome command bytes tables left' tables' written written' (Err (Refused fault)) =
    Does outcome bytes left' tables' written written' (Some (Refused fault))
Step outcome command bytes tables left' tables' written written' (Err ReadFault) =
    IsCutCommand outcome command bytes tables left' tables' written written' ReadFault
Step outcome command bytes tables left' tables' written written' (Err WriteFault) =
    IsCutCommand outcome command bytes tables left' tables' written written' WriteFault
Step outcome command bytes tables left' tables' written written' (Err NoMemory) =
    IsCutCommand outcome command bytes tables left' tables' written written' NoMemory
Step outcome command bytes tables left' tables' written written' (Err KeeperFault) =
    IsCutCommand outcome command bytes tables left' tables' written written' KeeperFault

-- whether all output was handed on
abbrev pub SettledBy : Command → Bool → Bool → Result Unit Stop → Type 0
SettledBy command settled settled' (Ok done) = settled' ≡ (is_printing command || settled)
SettledBy command settled settled' (Err (Refused fault)) = settled' ≡ settled
SettledBy command settled settled' (Err ReadFault) = Unit {0}
SettledBy command settled settled' (Err WriteFault) = Unit {0}
SettledBy command settled settled' (Err NoMemory) = Unit {0}
SettledBy command settled settled' (Err KeeperFault) = Unit {0}
