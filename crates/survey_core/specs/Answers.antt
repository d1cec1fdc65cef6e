-- Model: what is answered to these words, these bytes and these tables.
use Rattle.std.specs.Prelude.{ℕ, ◌+◌, List, [], ◌∷◌, Result, Ok, Err, Option, Some, None, codes, decimal}
use Rattle.std.specs.List.{concat}
use Rattle.command_line.specs.Notes.{usage_line}
use Rattle.survey_core.specs.declared.words.Command.{Command}
use Rattle.survey_core.specs.declared.fault.Fault.{Fault}
use Rattle.survey_core.specs.declared.fault.FaultPlace.{FaultPlace}
use Rattle.survey_core.specs.declared.fault.FaultPlace.TheVariants.{Card, Row}
use Rattle.survey_core.specs.declared.fault.Stop.{Stop}
use Rattle.survey_core.specs.declared.fault.Stop.TheVariants.{Refused, ReadFault, WriteFault, NoMemory, KeeperFault}
use Rattle.survey_core.specs.declared.top.End.{End}
use Rattle.survey_core.specs.declared.top.End.TheVariants.{Done, Usage, Stopped}
use Rattle.survey_core.specs.Tables.{Table}
use Rattle.survey_core.specs.Faults.{survey_fault_number, survey_fault_name, survey_fault_place}
use Rattle.survey_core.specs.Sessions.{Outcome, nothing, session}
use Rattle.survey_core.specs.Commands.{commands_of}

-- ---- the notes

-- the line of a fault with this number and this name, as they are written, and with this place
abbrev pub line_with_place : (number name : List ℕ) → FaultPlace → List ℕ
line_with_place number name (Card place) =
    concat (codes "refused: " ∷ number ∷ codes " " ∷ name ∷ codes " hdu " ∷ decimal place.hdu ∷ codes " card " ∷ decimal place.card ∷ codes "\n" ∷ [])
line_with_place number name (Row row) = concat (codes "refused: " ∷ number ∷ codes " " ∷ name ∷ codes " row " ∷ decimal row ∷ codes "\n" ∷ [])

abbrev pub line_of_fault : (number name : List ℕ) → Option FaultPlace → List ℕ
line_of_fault number name None = concat (codes "refused: " ∷ number ∷ codes " " ∷ name ∷ codes "\n" ∷ [])
line_of_fault number name (Some place) = line_with_place number name place

abbrev pub survey_refusal_line : Fault → List ℕ
survey_refusal_line fault = line_of_fault (decimal (survey_fault_number fault)) (survey_fault_name fault) (survey_fault_place fault)

abbrev pub stop_line : Stop → List ℕ
stop_line (Refused fault) = survey_refusal_line fault
stop_line ReadFault = codes "read fault\n"
stop_line WriteFault = codes "write fault\n"
stop_line NoMemory = codes "out of memory\n"
stop_line KeeperFault = codes "keeper fault\n"

abbrev pub session_note : End → List ℕ
session_note Done = []
session_note (Usage usage) = usage_line usage.word
session_note (Stopped stop) = stop_line stop

-- ---- the status

abbrev pub status_at : Stop → ℕ
status_at (Refused fault) = 2
status_at ReadFault = 3
status_at WriteFault = 4
status_at NoMemory = 5
status_at KeeperFault = 6

abbrev pub session_status : End → ℕ
session_status Done = 0
session_status (Usage usage) = 1
session_status (Stopped stop) = status_at stop

-- ---- the answer

-- how a session ends, with its status and its line on the notes; and what it does
pub record EndedSession : Type 0 where
  pub end : End
  pub does : Outcome

abbrev pub session_end : Option Stop → End
session_end None = Done
session_end (Some stop) = Stopped stop

abbrev pub answer_to_outcome : Outcome → EndedSession
answer_to_outcome outcome = record { end = session_end outcome.stop; does = outcome }

-- where a word is at fault nothing is done
abbrev pub session_answer_by : Result (List Command) ℕ → List ℕ → List Table → EndedSession
session_answer_by (Err at) bytes tables = record { end = Usage (record { word = at + 1 }); does = nothing tables }
session_answer_by (Ok commands) bytes tables = answer_to_outcome (session bytes tables commands)

abbrev pub session_answer : List (List ℕ) → List ℕ → List Table → EndedSession
session_answer words bytes tables = session_answer_by (commands_of words) bytes tables
