-- What a whole run tells, by how its session ended.
use Rattle.std.proofs.Common.{◌≡◌, ◌∙◌, ℕ, ◌<◌, ◌≤◌, Bool, List, Some, refl, ap, sym, subst, arith, Result, Ok, Err, inl, inr, IsTrue}
use Rattle.std.specs.Prelude.{Option, IsErr, ◌↔◌}
use Rattle.std.specs.List.{list_any}
use Rattle.std.specs.Option.{ForSome}
use Rattle.dev_io.specs.Causes.{Rose}
use Rattle.command_line.specs.Notes.{Noted}
use Rattle.survey_core.specs.declared.words.Command.{Command}
use Rattle.survey_core.specs.declared.fault.Stop.{Stop}
use Rattle.survey_core.specs.declared.fault.Stop.TheVariants.{Refused, ReadFault, WriteFault, NoMemory, KeeperFault}
use Rattle.survey_core.specs.declared.top.End.{End}
use Rattle.survey_core.specs.declared.top.End.TheVariants.{Done, Usage, Stopped}
use Rattle.survey_core.specs.Tables.{Table}
use Rattle.survey_core.specs.Commands.{commands_of}
use Rattle.survey_core.specs.Steps.{is_printing}
use Rattle.survey_core.specs.Runs.{StopsIn}
use Rattle.survey_core.specs.Answers.{session_answer, session_status, session_note, status_at}
use Rattle.survey_core.specs.Ends.{SessionAnswers, EndTells, SessionEndCause}
use Rattle.survey_core.specs.Headline.{IsSurveyRunOf, StopsWith, IsSessionStatus, IsSessionAnswered, SourceSeen, KeeperSeen, SinkSeen}
use Rattle.survey_core.proofs.Ending.{cut_with, word_noted}

-- a lesser status is the answer's, and all that it says was done
answered : (words : List (List ℕ)) (bytes : List ℕ) (ts : List Table) (b : Option (List ℕ)) (m : Option (List Table)) (w u : Option (List ℕ))
    (settled : Bool) (status : ℕ) (end : End) → EndTells (commands_of words) bytes ts b m w u settled end → status ≡ session_status end → status < 3
    → SessionAnswers (session_answer words bytes ts) bytes b m w u settled end
answered words bytes ts b m w u settled status Done tells is low = tells
answered words bytes ts b m w u settled status (Usage usage) tells is low = tells
answered words bytes ts b m w u settled status (Stopped (Refused fault)) tells is low = tells
answered words bytes ts b m w u settled status (Stopped ReadFault) tells is low = absurd (omega (arith, is, low))
answered words bytes ts b m w u settled status (Stopped WriteFault) tells is low = absurd (omega (arith, is, low))
answered words bytes ts b m w u settled status (Stopped NoMemory) tells is low = absurd (omega (arith, is, low))
answered words bytes ts b m w u settled status (Stopped KeeperFault) tells is low = absurd (omega (arith, is, low))

-- any other is that of a device or of want of memory
told_status : (words : List (List ℕ)) (bytes : List ℕ) (ts : List Table) (b : Option (List ℕ)) (m : Option (List Table)) (w u : Option (List ℕ))
    (settled : Bool) (status : ℕ) (end : End) → EndTells (commands_of words) bytes ts b m w u settled end → status ≡ session_status end
    → IsSessionStatus status (session_answer words bytes ts)
told_status words bytes ts b m w u settled status Done tells is = inl (is ∙ sym (ap session_status tells.end_is))
told_status words bytes ts b m w u settled status (Usage usage) tells is = inl (is ∙ sym (ap session_status tells.end_is))
told_status words bytes ts b m w u settled status (Stopped (Refused fault)) tells is = inl (is ∙ sym (ap session_status tells.end_is))
told_status words bytes ts b m w u settled status (Stopped ReadFault) tells is = inr (omega (arith, is), omega (arith, is))
told_status words bytes ts b m w u settled status (Stopped WriteFault) tells is = inr (omega (arith, is), omega (arith, is))
told_status words bytes ts b m w u settled status (Stopped NoMemory) tells is = inr (omega (arith, is), omega (arith, is))
told_status words bytes ts b m w u settled status (Stopped KeeperFault) tells is = inr (omega (arith, is), omega (arith, is))

from_2 : (stop : Stop) → 2 ≤ status_at stop
from_2 (Refused fault) = omega arith
from_2 ReadFault = omega arith
from_2 WriteFault = omega arith
from_2 NoMemory = omega arith
from_2 KeeperFault = omega arith

module _ (settled : Bool) (source source' sink sink' keeper keeper' : ℕ) where
  -- a stop came in one of the commands
  stops_in : (r : Result (List Command) ℕ) (stop : Stop) → SessionEndCause r settled source source' sink sink' keeper keeper' (Stopped stop)
      → (commands : List Command) × (r ≡ Ok commands) × StopsIn commands source source' sink sink' keeper keeper' stop
  stops_in (Ok commands) stop cause = (commands, refl, cause)
  stops_in (Err at) stop cause = absurd cause

  stops_with : (words : List (List ℕ)) (status : ℕ) (end : End)
      → SessionEndCause (commands_of words) settled source source' sink sink' keeper keeper' end → status ≡ session_status end → 3 ≤ status
      → StopsWith words source source' sink sink' keeper keeper' status
  stops_with words status Done cause is high = absurd (omega (arith, is, high))
  stops_with words status (Usage usage) cause is high = absurd (omega (arith, is, high))
  stops_with words status (Stopped stop) cause is high =
      let s = stops_in (commands_of words) stop cause in
      record { stop = stop; status_is = is; commands = s.0; commands_are = s.1; stops = s.2 }

  printed_too : (words : List (List ℕ)) (status : ℕ) (end : End) (commands : List Command) → commands_of words ≡ Ok commands
      → SessionEndCause (commands_of words) settled source source' sink sink' keeper keeper' end → status ≡ session_status end → status ≡ 0
      → IsTrue (list_any is_printing commands) → IsTrue settled
  printed_too words status end commands are cause is zero prints =
      by end (subst (λ (r : Result (List Command) ℕ). SessionEndCause r settled source source' sink sink' keeper keeper' end) are cause) is
    where
      by : (end : End) → SessionEndCause (Ok commands) settled source source' sink sink' keeper keeper' end → status ≡ session_status end → IsTrue settled
      by Done cause is = cause prints
      by (Usage usage) cause is = absurd cause
      by (Stopped stop) cause is = absurd (omega (arith, is, zero, from_2 stop))

  usage_first : (r : Result (List Command) ℕ) (status : ℕ) (end : End) → SessionEndCause r settled source source' sink sink' keeper keeper' end
      → status ≡ session_status end → IsErr r ↔ (status ≡ 1)
  usage_first (Ok commands) status Done cause is = (λ h. absurd (cc), λ h. absurd (omega (arith, is, h)))
  usage_first (Ok commands) status (Usage usage) cause is = absurd cause
  usage_first (Ok commands) status (Stopped stop) cause is = (λ h. absurd (cc), λ h. absurd (omega (arith, is, h, from_2 stop)))
  usage_first (Err at) status Done cause is = absurd cause
  usage_first (Err at) status (Usage usage) cause is = (λ h. is, λ h. refl)
  usage_first (Err at) status (Stopped stop) cause is = absurd cause

  answered_but : (words : List (List ℕ)) (bytes : List ℕ) (ts : List Table) (b : Option (List ℕ)) (m : Option (List Table)) (w u : Option (List ℕ))
      (status : ℕ) (end : End) → EndTells (commands_of words) bytes ts b m w u settled end
      → SessionEndCause (commands_of words) settled source source' sink sink' keeper keeper' end → status ≡ session_status end
      → (Rose source source' → ⊥) → (Rose sink sink' → ⊥) → (Rose keeper keeper' → ⊥) → IsSessionAnswered status (session_answer words bytes ts)
  answered_but words bytes ts b m w u status Done tells cause is no_read no_write no_keep = inl (is ∙ sym (ap session_status tells.end_is))
  answered_but words bytes ts b m w u status (Usage usage) tells cause is no_read no_write no_keep = inl (is ∙ sym (ap session_status tells.end_is))
  answered_but words bytes ts b m w u status (Stopped (Refused fault)) tells cause is no_read no_write no_keep =
      inl (is ∙ sym (ap session_status tells.end_is))
  answered_but words bytes ts b m w u status (Stopped ReadFault) tells cause is no_read no_write no_keep =
      let s = stops_in (commands_of words) ReadFault cause in absurd (no_read s.2.cause.1)
  answered_but words bytes ts b m w u status (Stopped WriteFault) tells cause is no_read no_write no_keep =
      let s = stops_in (commands_of words) WriteFault cause in absurd (no_write s.2.cause.1)
  answered_but words bytes ts b m w u status (Stopped NoMemory) tells cause is no_read no_write no_keep = inr is
  answered_but words bytes ts b m w u status (Stopped KeeperFault) tells cause is no_read no_write no_keep =
      let s = stops_in (commands_of words) KeeperFault cause in absurd (no_keep s.2.cause)

-- the whole of it
pub run_told : (words : List (List ℕ)) (status : ℕ) (i i' : SourceSeen) (k k' : KeeperSeen) (o o' n n' : SinkSeen) (end : End)
    → ForSome i.left (λ bytes. ForSome k.tables (λ ts.
    EndTells (commands_of words) bytes ts i'.left k'.tables o.written o'.written o'.settled end))
    → SessionEndCause (commands_of words) o'.settled i.faults i'.faults o.faults o'.faults k.faults k'.faults end
    → (IsErr (commands_of words) → i' ≡ i) → (IsErr (commands_of words) → k' ≡ k) → (IsErr (commands_of words) → o' ≡ o)
    → Noted n.written n'.written n'.settled n.faults n'.faults (session_note end) → status ≡ session_status end
    → IsSurveyRunOf words status i i' k k' o o' n n'
run_told words status i i' k k' o o' n n' end told cause input keeper output noted is = record {
  status_is = λ bytes e ts t. told_status words bytes ts _ _ _ _ _ status end (told bytes e ts t) is;
  writes = λ low bytes e ts t. (answers low bytes e ts t).appended;
  takes = λ low bytes e ts t. (answers low bytes e ts t).takes;
  tables_are = λ low bytes e ts t. (answers low bytes e ts t).tables_are;
  settled = λ low bytes e ts t. (answers low bytes e ts t).settled;
  notes = λ low bytes e ts t. line_of _ (answers low bytes e ts t).end_is;
  cut = λ high bytes e ts t. cut_with words bytes ts _ _ _ _ _ status end (told bytes e ts t) is high;
  stops = λ high. stops_with _ _ _ _ _ _ _ words status end cause is high;
  printed = λ zero commands are prints. printed_too _ _ _ _ _ _ _ words status end commands are cause is zero prints;
  noted = (end, record { status_is = is; noted = noted });
  usage = usage_first _ _ _ _ _ _ _ (commands_of words) status end cause is;
  word = λ at bad. subst (λ (l : List ℕ). Noted n.written n'.written n'.settled n.faults n'.faults l)
      (word_noted (commands_of words) at _ _ _ _ _ _ _ end bad cause) noted;
  input_stays = input;
  keeper_stays = keeper;
  output_stays = output;
  complete = λ no_read no_write no_keep bytes e ts t.
      answered_but _ _ _ _ _ _ _ words bytes ts _ _ _ _ status end (told bytes e ts t) cause is no_read no_write no_keep;
}
  where
    answers : status < 3 → (bytes : List ℕ) → i.left ≡ Some bytes → (ts : List Table) → k.tables ≡ Some ts
        → SessionAnswers (session_answer words bytes ts) bytes i'.left k'.tables o.written o'.written o'.settled end
    answers low bytes e ts t = answered words bytes ts _ _ _ _ _ status end (told bytes e ts t) is low

    line_of : (last : End) → last ≡ end → Noted n.written n'.written n'.settled n.faults n'.faults (session_note last)
    line_of last same = subst (λ (l : List ℕ). Noted n.written n'.written n'.settled n.faults n'.faults l) (sym (ap session_note same)) noted
