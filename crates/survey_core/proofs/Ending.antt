-- How a session ends.
use Rattle.std.proofs.Common.{◌≡◌, ℕ, ◌+◌, ◌-◌, ◌<◌, ◌≤◌, Bool, List, [], ◌∷◌, drop, Some, refl, ap, subst, arith, Result, Ok, Err}
use Rattle.std.specs.Prelude.{Option, IsOk}
use Rattle.std.proofs.KnownBytes.{Appends-nil}
use Rattle.survey_core.specs.declared.words.Command.{Command}
use Rattle.survey_core.specs.declared.words.Usage.{Usage as AtFault}
use Rattle.survey_core.specs.declared.fault.Stop.TheVariants.{Refused, ReadFault, WriteFault, NoMemory, KeeperFault}
use Rattle.survey_core.specs.declared.top.End.{End}
use Rattle.survey_core.specs.declared.top.End.TheVariants.{Done, Usage, Stopped}
use Rattle.survey_core.specs.Tables.{Table}
use Rattle.survey_core.specs.Commands.{read, some_commands, file_words, further, commands_of}
use Rattle.command_line.specs.Notes.{usage_line}
use Rattle.survey_core.specs.Answers.{session_answer_by, session_status, session_note}
use Rattle.survey_core.specs.Ends.{SessionAnswers, EndTells, SessionEndCause}
use Rattle.survey_core.specs.Headline.{IsCutWith}

-- a word is at fault
pub at_fault : (commands : Result (List Command) ℕ) (usage : AtFault) (bytes : List ℕ) (ts : List Table) (a : Option (List ℕ)) (k : Option (List Table))
    (w : Option (List ℕ)) (settled : Bool) → commands ≡ Err (usage.word - 1) → 0 < usage.word
    → a ≡ Some bytes → k ≡ Some ts → SessionAnswers (session_answer_by commands bytes ts) bytes a k w w settled (Usage usage)
at_fault commands usage bytes ts a k w settled is some e t = rw is (record {
  end_is = ap (λ n. Usage (record { word = n })) (omega (arith, some));
  takes = record { within = omega arith; rest = e };
  tables_are = t;
  appended = Appends-nil w;
  settled = λ h. absurd (cc);
})

pub read_too : (words : List (List ℕ)) (commands : List Command) → some_commands words ≡ Ok commands → read words ≡ Ok commands
read_too [] commands e = absurd (cc)
read_too (w ∷ words) commands e = e

-- where no word is at fault the words behind the file are these commands
pub with_commands : (words : List (List ℕ)) (P : Result (List Command) ℕ → Type 0) → IsOk (commands_of words)
    → ((commands : List Command) → read (drop (file_words words) words) ≡ Ok commands → P (Ok commands)) → P (commands_of words)
unfolding commands_of
with_commands words P is_read h = by (some_commands (drop (file_words words) words)) refl is_read
  where
    by : (r : Result (List Command) ℕ) → some_commands (drop (file_words words) words) ≡ r → IsOk (further (file_words words) r)
        → P (further (file_words words) r)
    by (Ok commands) e some = h commands (read_too (drop (file_words words) words) commands e)
    by (Err at) e some = absurd (cc)

module _ (words : List (List ℕ)) (bytes : List ℕ) (ts : List Table) (b : Option (List ℕ)) (m : Option (List Table)) (w u : Option (List ℕ)) (settled : Bool)
    (status : ℕ) where
  -- a status from 3 on comes where a command was cut short
  pub cut_with : (end : End) → EndTells (commands_of words) bytes ts b m w u settled end → status ≡ session_status end → 3 ≤ status
      → IsCutWith words bytes ts b m w u status
  cut_with Done tells is high = absurd (omega (arith, is, high))
  cut_with (Usage usage) tells is high = absurd (omega (arith, is, high))
  cut_with (Stopped (Refused fault)) tells is high = absurd (omega (arith, is, high))
  cut_with (Stopped ReadFault) tells is high = record { stop = ReadFault; status_is = is; cut = tells }
  cut_with (Stopped WriteFault) tells is high = record { stop = WriteFault; status_is = is; cut = tells }
  cut_with (Stopped NoMemory) tells is high = record { stop = NoMemory; status_is = is; cut = tells }
  cut_with (Stopped KeeperFault) tells is high = record { stop = KeeperFault; status_is = is; cut = tells }

-- the line of a word at fault
pub word_noted : (commands : Result (List Command) ℕ) (at : ℕ) (settled : Bool) (source source' sink sink' keeper keeper' : ℕ) (end : End) → commands ≡ Err at
    → SessionEndCause commands settled source source' sink sink' keeper keeper' end
    → session_note end ≡ usage_line (at + 1)
word_noted commands at settled source source' sink sink' keeper keeper' end is cause =
    by end (subst (λ (r : Result (List Command) ℕ). SessionEndCause r settled source source' sink sink' keeper keeper' end) is cause)
  where
    by : (end : End) → SessionEndCause (Err at) settled source source' sink sink' keeper keeper' end → session_note end ≡ usage_line (at + 1)
    by Done cause = absurd cause
    by (Usage usage) cause = ap usage_line cause
    by (Stopped stop) cause = absurd cause
