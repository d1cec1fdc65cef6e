-- Bookkeeping: what an end of a session says of its source, its tables and its sinks.
use Rattle.std.specs.Prelude.{◌≡◌, ℕ, ◌+◌, Bool, List, Result, Ok, Err, Option, Some, IsTrue}
use Rattle.std.specs.List.{list_any}
use Rattle.std.specs.Io.KnownBytes.{Appends}
use Rattle.dev_io.specs.Streams.{Takes}
use Rattle.survey_core.specs.declared.words.Command.{Command}
use Rattle.survey_core.specs.declared.fault.Stop.{Stop}
use Rattle.survey_core.specs.declared.fault.Stop.TheVariants.{Refused, ReadFault, WriteFault, NoMemory, KeeperFault}
use Rattle.survey_core.specs.declared.top.End.{End}
use Rattle.survey_core.specs.declared.top.End.TheVariants.{Done, Usage, Stopped}
use Rattle.survey_core.specs.Tables.{Table}
use Rattle.survey_core.specs.Steps.{is_printing}
use Rattle.survey_core.specs.Answers.{EndedSession, session_answer_by}
use Rattle.survey_core.specs.Runs.{IsCutFor, StopsIn}

-- what the answer says was done; and if anything was to be printed, it was handed on
pub record SessionAnswers (answer : EndedSession) (bytes : List ℕ) (left' : Option (List ℕ)) (tables' : Option (List Table))
    (written written' : Option (List ℕ))
    (settled' : Bool) (end : End) : Type 0 where
  pub end_is : answer.end ≡ end
  pub takes : Takes bytes left' answer.does.taken
  pub tables_are : tables' ≡ Some answer.does.tables
  pub appended : Appends written written' answer.does.output
  pub settled : IsTrue answer.does.printed → IsTrue settled'

-- what an end at a stop says of the bytes and the tables
abbrev pub StopTells : Result (List Command) ℕ → List ℕ → List Table → Option (List ℕ) → Option (List Table) → Option (List ℕ) → Option (List ℕ)
    → Bool → Stop → Type 0
StopTells commands bytes tables left' tables' written written' settled' (Refused fault) =
    SessionAnswers (session_answer_by commands bytes tables) bytes left' tables' written written' settled' (Stopped (Refused fault))
StopTells commands bytes tables left' tables' written written' settled' ReadFault = IsCutFor commands bytes tables left' tables' written written' ReadFault
StopTells commands bytes tables left' tables' written written' settled' WriteFault = IsCutFor commands bytes tables left' tables' written written' WriteFault
StopTells commands bytes tables left' tables' written written' settled' NoMemory = IsCutFor commands bytes tables left' tables' written written' NoMemory
StopTells commands bytes tables left' tables' written written' settled' KeeperFault = IsCutFor commands bytes tables left' tables' written written' KeeperFault

-- what any end says of them
abbrev pub EndTells : Result (List Command) ℕ → List ℕ → List Table → Option (List ℕ) → Option (List Table) → Option (List ℕ) → Option (List ℕ)
    → Bool → End → Type 0
EndTells commands bytes tables left' tables' written written' settled' Done =
    SessionAnswers (session_answer_by commands bytes tables) bytes left' tables' written written' settled' Done
EndTells commands bytes tables left' tables' written written' settled' (Usage usage) =
    SessionAnswers (session_answer_by commands bytes tables) bytes left' tables' written written' settled' (Usage usage)
EndTells commands bytes tables left' tables' written written' settled' (Stopped stop) =
    StopTells commands bytes tables left' tables' written written' settled' stop

-- what stands behind an end in any case
abbrev pub SessionEndCause : Result (List Command) ℕ → Bool → ℕ → ℕ → ℕ → ℕ → ℕ → ℕ → End → Type 0
SessionEndCause (Ok commands) settled' source source' sink sink' keeper keeper' Done = IsTrue (list_any is_printing commands) → IsTrue settled'
SessionEndCause (Ok commands) settled' source source' sink sink' keeper keeper' (Usage usage) = ⊥
SessionEndCause (Ok commands) settled' source source' sink sink' keeper keeper' (Stopped stop) = StopsIn commands source source' sink sink' keeper keeper' stop
SessionEndCause (Err at) settled' source source' sink sink' keeper keeper' Done = ⊥
SessionEndCause (Err at) settled' source source' sink sink' keeper keeper' (Usage usage) = usage.word ≡ at + 1
SessionEndCause (Err at) settled' source source' sink sink' keeper keeper' (Stopped stop) = ⊥
