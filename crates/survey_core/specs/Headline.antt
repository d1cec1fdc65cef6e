-- Model: the headline: what a session answers, by its status.
use Rattle.std.specs.Prelude.{◌≡◌, ℕ, ◌+◌, ◌<◌, ◌≤◌, ◌⊎◌, ◌↔◌, Bool, List, Ok, Err, Some, IsErr, IsTrue}
use Rattle.std.specs.declared.option.Option.{Option}
use Rattle.std.specs.Option.{ForSome}
use Rattle.std.specs.List.{list_any}
use Rattle.std.specs.Io.KnownBytes.{Appends}
use Rattle.dev_io.specs.Causes.{Rose}
use Rattle.dev_io.specs.Streams.{Takes}
use Rattle.command_line.specs.Notes.{Noted, usage_line}
use Rattle.survey_core.specs.declared.words.Command.{Command}
use Rattle.survey_core.specs.declared.fault.Stop.{Stop}
use Rattle.survey_core.specs.declared.top.End.{End}
use Rattle.survey_core.specs.Tables.{Table}
use Rattle.survey_core.specs.Commands.{commands_of}
use Rattle.survey_core.specs.Steps.{is_printing}
use Rattle.survey_core.specs.Answers.{EndedSession, session_answer, status_at, session_status, session_note}
use Rattle.survey_core.specs.Runs.{IsCutFor, StopsIn}

-- P holds of the answer to the bytes and the tables that are told
abbrev pub ForAnswer : List (List ℕ) → Option (List ℕ) → Option (List Table) → (EndedSession → Type 0) → Type 0
ForAnswer words left tables P = ForSome left (λ bytes. ForSome tables (λ ts. P (session_answer words bytes ts)))

-- the answer's status, or that of a fault of the input, the output or the keeper, or of want of memory
abbrev pub IsSessionStatus : ℕ → EndedSession → Type 0
IsSessionStatus status answer = (status ≡ session_status answer.end) ⊎ ((3 ≤ status) × (status ≤ 6))

-- the session was cut short with this status
pub record IsCutWith (words : List (List ℕ)) (bytes : List ℕ) (tables : List Table) (left' : Option (List ℕ)) (tables' : Option (List Table))
    (written written' : Option (List ℕ)) (status : ℕ) : Type 0 where
  pub stop : Stop
  pub status_is : status ≡ status_at stop
  pub cut : IsCutFor (commands_of words) bytes tables left' tables' written written' stop

-- in which of the commands it was, and which count rose
pub record StopsWith (words : List (List ℕ)) (source source' sink sink' keeper keeper' : ℕ) (status : ℕ) : Type 0 where
  pub stop : Stop
  pub status_is : status ≡ status_at stop
  pub commands : List Command
  pub commands_are : commands_of words ≡ Ok commands
  pub stops : StopsIn commands source source' sink sink' keeper keeper' stop

-- how the session ended, and its line on the notes
pub record TellsSessionEnd (status : ℕ) (old new : Option (List ℕ)) (settled' : Bool) (faults faults' : ℕ) (end : End) : Type 0 where
  pub status_is : status ≡ session_status end
  pub noted : Noted old new settled' faults faults' (session_note end)

-- the answer's status, or want of memory
abbrev pub IsSessionAnswered : ℕ → EndedSession → Type 0
IsSessionAnswered status answer = (status ≡ session_status answer.end) ⊎ (status ≡ 5)

-- ---- what the devices tell

-- of a source: the bytes that are left, whether their end was seen, and the count of faults
pub record SourceSeen : Type 0 where
  pub left : Option (List ℕ)
  pub ended : Bool
  pub faults : ℕ

-- of a keeper: its tables, and the count of faults
pub record KeeperSeen : Type 0 where
  pub tables : Option (List Table)
  pub faults : ℕ

-- of a sink: the bytes that were written, whether all of them were handed on, and the count of faults
pub record SinkSeen : Type 0 where
  pub written : Option (List ℕ)
  pub settled : Bool
  pub faults : ℕ

abbrev pub seen_of_source : {S : Type 0} → (S → Option (List ℕ)) → (S → Bool) → (S → ℕ) → S → SourceSeen
seen_of_source left ended faults s = record { left = left s; ended = ended s; faults = faults s }

abbrev pub seen_of_keeper : {K : Type 0} → (K → Option (List Table)) → (K → ℕ) → K → KeeperSeen
seen_of_keeper tables faults k = record { tables = tables k; faults = faults k }

abbrev pub seen_of_sink : {O : Type 0} → (O → Option (List ℕ)) → (O → Bool) → (O → ℕ) → O → SinkSeen
seen_of_sink written settled faults o = record { written = written o; settled = settled o; faults = faults o }

-- ---- the session

-- What a session of these words does, by its status, from its source, its keeper, its output and its notes as they were to those that it leaves: 0 where
-- all was done, 1 where a word is at fault, 2 at the first fault of a command, 3 at a read fault, 4 at a write fault, 5 where memory is wanted and 6
-- where the keeper fails.
pub record IsSurveyRunOf (words : List (List ℕ)) (status : ℕ) (i i' : SourceSeen) (k k' : KeeperSeen) (o o' n n' : SinkSeen) : Type 0 where
  -- the status is the answer's, or a fault of a device or want of memory came between
  pub status_is : ForAnswer words i.left k.tables (IsSessionStatus status)
  -- where nothing came between, all of the answer's output was written,
  pub writes : status < 3 → ForAnswer words i.left k.tables (λ answer. Appends o.written o'.written answer.does.output)
  -- its bytes were taken,
  pub takes : status < 3
      → ForSome i.left (λ bytes. ForSome k.tables (λ tables. Takes bytes i'.left (session_answer words bytes tables).does.taken))
  -- its tables are kept,
  pub tables_are : status < 3 → ForAnswer words i.left k.tables (λ answer. k'.tables ≡ Some answer.does.tables)
  -- what it prints was handed on,
  pub settled : status < 3 → ForAnswer words i.left k.tables (λ answer. IsTrue answer.does.printed → IsTrue o'.settled)
  -- and the notes got its line, or a front of it and a fault
  pub notes : status < 3 → ForAnswer words i.left k.tables
      (λ answer. Noted n.written n'.written n'.settled n.faults n'.faults (session_note answer.end))
  -- else it was cut short in a command: what those before it did stands, the tables are theirs, and of its own bytes and output a front is gone
  pub cut : 3 ≤ status → ForSome i.left (λ bytes. ForSome k.tables (λ tables.
      IsCutWith words bytes tables i'.left k'.tables o.written o'.written status))
  -- a read fault comes only in an `add`, a write fault only where something is printed, and each, as a keeper's, only where a count rose
  pub stops : 3 ≤ status → StopsWith words i.faults i'.faults o.faults o'.faults k.faults k'.faults status
  -- at status 0 what was printed was handed on, also where the devices tell nothing
  pub printed : status ≡ 0 → (commands : List Command) → commands_of words ≡ Ok commands → IsTrue (list_any is_printing commands) → IsTrue o'.settled
  -- the notes got the line of an end with this status
  pub noted : (end : End) × TellsSessionEnd status n.written n'.written n'.settled n.faults n'.faults end
  -- a word at fault, and nothing else, gives status 1,
  pub usage : IsErr (commands_of words) ↔ (status ≡ 1)
  -- its place stands on the notes,
  pub word : (at : ℕ) → commands_of words ≡ Err at → Noted n.written n'.written n'.settled n.faults n'.faults (usage_line (at + 1))
  -- and nothing was asked of the input, the keeper and the output
  pub input_stays : IsErr (commands_of words) → i' ≡ i
  pub keeper_stays : IsErr (commands_of words) → k' ≡ k
  pub output_stays : IsErr (commands_of words) → o' ≡ o
  -- where no count rose the status is the answer's, or memory is wanted
  pub complete : (Rose i.faults i'.faults → ⊥) → (Rose o.faults o'.faults → ⊥) → (Rose k.faults k'.faults → ⊥)
      → ForAnswer words i.left k.tables (IsSessionAnswered status)
