-- Model: what a session does to its source, its tables and its sinks.
use Rattle.std.specs.Prelude.{◌≡◌, ℕ, ◌+◌, ◌≤◌, List, ◌∷◌, ◌++◌, drop, Result, Ok, Err, Option, Some, None}
use Rattle.std.specs.Io.KnownBytes.{Appends}
use Rattle.dev_io.specs.Streams.{Takes}
use Rattle.survey_core.specs.declared.words.Command.{Command}
use Rattle.survey_core.specs.declared.fault.Stop.{Stop}
use Rattle.survey_core.specs.Tables.{Table}
use Rattle.survey_core.specs.Sessions.{Outcome, effect, session}
use Rattle.survey_core.specs.Steps.{IsFrontAt, MayCome, Cause}

-- where the first outcome is that of the commands before one with the second: that one was cut short
pub record IsCutBehind (before outcome : Outcome) (command : Command) (bytes : List ℕ) (left' : Option (List ℕ)) (tables' : Option (List Table))
    (written written' : Option (List ℕ)) (stop : Stop) : Type 0 where
  pub passed : before.stop ≡ None
  pub may_come : MayCome stop command outcome
  pub tables_are : tables' ≡ Some before.tables
  pub lost : ℕ
  pub few : lost ≤ outcome.taken
  pub takes : Takes bytes left' (before.taken + lost)
  pub front : List ℕ
  pub back : List ℕ
  pub split : outcome.output ≡ front ++ back
  pub appended : Appends written written' (before.output ++ front)
  pub is_front : IsFrontAt stop front

-- the session was cut short in one of the commands that it comes to
pub record IsCutIn (commands : List Command) (bytes : List ℕ) (tables : List Table) (left' : Option (List ℕ)) (tables' : Option (List Table))
    (written written' : Option (List ℕ)) (stop : Stop) : Type 0 where
  pub before : List Command
  pub command : Command
  pub after : List Command
  pub commands_are : commands ≡ before ++ command ∷ after
  pub here : IsCutBehind (session bytes tables before)
      (effect (drop (session bytes tables before).taken bytes) (session bytes tables before).tables command) command bytes left' tables' written written' stop

abbrev pub IsCutFor : Result (List Command) ℕ → List ℕ → List Table → Option (List ℕ) → Option (List Table) → Option (List ℕ) → Option (List ℕ) → Stop → Type 0
IsCutFor (Err at) bytes tables left' tables' written written' stop = ⊥
IsCutFor (Ok commands) bytes tables left' tables' written written' stop = IsCutIn commands bytes tables left' tables' written written' stop

-- a stop came in one of the commands, and this stands behind it
pub record StopsIn (commands : List Command) (source source' sink sink' keeper keeper' : ℕ) (stop : Stop) : Type 0 where
  pub before : List Command
  pub command : Command
  pub after : List Command
  pub commands_are : commands ≡ before ++ command ∷ after
  pub cause : Cause command source source' sink sink' keeper keeper' stop
