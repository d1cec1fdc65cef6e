-- Model: the headline: what words may ask of an input, and what a run of them does.
use Rattle.std.specs.Prelude.{◌≡◌, ℕ, ◌<◌, ◌≤◌, ◌⊎◌, ◌↔◌, Bool, true, false, List, [], ◌∷◌, Some, IsTrue}
use Rattle.std.specs.declared.option.Option.{Option}
use Rattle.std.specs.Option.{ForSome}
use Rattle.std.specs.Io.KnownBytes.{Appends, Keeps}
use Rattle.dev_io.specs.Causes.{Rose}
use Rattle.dev_io.specs.Streams.{Takes, TakesAtMost, AppendsPrefix}
use Rattle.command_line.specs.Notes.{Noted}
use Rattle.orders.specs.declared.words.Usage.{Usage as AtFault}
use Rattle.run_relation.specs.declared.ends.End.{End}
use Rattle.run_relation.specs.declared.ends.End.TheVariants.{Done, Usage, Refused}
use Rattle.pixel_plane.specs.InputFaults.{IsCutShort}
use Rattle.run_relation.specs.Answers.{end_status, note_of}

-- ---- what words ask

-- how a run ends, with its status and its line on the notes; what it writes; and how many bytes it takes
pub record Answer : Type 0 where
  pub end : End
  pub output : List ℕ
  pub taken : ℕ

-- what words ask of an input
pub record Asked : Type 0 where
  -- whether the words give an order
  pub has_order : Bool
  -- whether the input is read; where it isn't, it stays as it was
  pub reads : Bool
  -- what is answered to these bytes of the input
  pub answer : List ℕ → Answer
  -- how many of these bytes may have been taken when memory is wanted; it is never wanted where there are no such counts
  pub memory_at : List ℕ → List ℕ

-- words without an order
abbrev pub asked_nothing : AtFault → Asked
asked_nothing usage = record {
  has_order = false;
  reads = false;
  answer = λ bytes. record { end = Usage usage; output = []; taken = 0 };
  memory_at = λ bytes. [];
}

-- ---- what a run makes of its devices, as far as these tell their bytes

-- of its input: the bytes that were left before and behind the run, whether their end was seen, and the count of faults
pub record InputUse : Type 0 where
  pub left : Option (List ℕ)
  pub left' : Option (List ℕ)
  pub ended : Bool
  pub ended' : Bool
  pub faults : ℕ
  pub faults' : ℕ

-- of its output, or of the notes: the bytes that were written before and behind it, whether they were handed on, and the count of faults
pub record OutputUse : Type 0 where
  pub written : Option (List ℕ)
  pub written' : Option (List ℕ)
  pub settled' : Bool
  pub faults : ℕ
  pub faults' : ℕ

-- from one state of a device to another
abbrev pub use_of_input : {S : Type 0} → (S → Option (List ℕ)) → (S → Bool) → (S → ℕ) → S → S → InputUse
use_of_input left ended faults old new =
    record { left = left old; left' = left new; ended = ended old; ended' = ended new; faults = faults old; faults' = faults new }

abbrev pub use_of_output : {O : Type 0} → (O → Option (List ℕ)) → (O → Bool) → (O → ℕ) → O → O → OutputUse
use_of_output written settled faults old new =
    record { written = written old; written' = written new; settled' = settled new; faults = faults old; faults' = faults new }

-- nothing was asked of the input
pub record IsUnused (i : InputUse) : Type 0 where
  pub same_left : i.left' ≡ i.left
  pub same_end : i.ended' ≡ i.ended
  pub same_faults : i.faults' ≡ i.faults

-- the first n bytes were taken
abbrev pub Took : Option (List ℕ) → Option (List ℕ) → ℕ → Type 0
Took old new n = ForSome old (λ bytes. Takes bytes new n)

-- a front of the first n bytes was taken
abbrev pub TookAtMost : Option (List ℕ) → Option (List ℕ) → ℕ → Type 0
TookAtMost old new n = ForSome old (λ bytes. TakesAtMost bytes new n)

-- one of these counts of bytes was taken, so there is one
abbrev pub TookOneOf : Option (List ℕ) → Option (List ℕ) → List ℕ → Type 0
TookOneOf old new [] = ⊥
TookOneOf old new (n ∷ counts) = Took old new n ⊎ TookOneOf old new counts

-- ---- the run

-- these are the bytes that the input tells; where it isn't read it need not tell them
abbrev pub Tells : Asked → Option (List ℕ) → List ℕ → Type 0
Tells asked left bytes = asked.reads ≡ true → left ≡ Some bytes

-- what a run does with this status, by the answer, and by the counts at which memory may be wanted
pub record Follows (answer : Answer) (memory_at : List ℕ) (i : InputUse) (o n : OutputUse) (status : ℕ) : Type 0 where
  -- the status is the answer's, or a device's fault or want of memory came between
  pub status_is : (status ≡ end_status answer.end) ⊎ ((3 ≤ status) × (status ≤ 5))
  -- where nothing came between, all of the answer's output was written,
  pub writes : status < 3 → Appends o.written o.written' answer.output
  -- its bytes were taken,
  pub takes : status < 3 → Took i.left i.left' answer.taken
  -- and the notes got its line, or a front of it and a fault
  pub notes : status < 3 → Noted n.written n.written' n.settled' n.faults n.faults' (note_of answer.end)
  -- at a read fault no more bytes were taken than the answer takes
  pub read_so_far : status ≡ 3 → TookAtMost i.left i.left' answer.taken
  -- at a write fault the answer is done, a front of its output was written,
  pub written_so_far : status ≡ 4 → (answer.end ≡ Done) × AppendsPrefix o.written o.written' answer.output
  -- and its bytes were taken
  pub taken_before : status ≡ 4 → Took i.left i.left' answer.taken
  -- memory is wanted only at these counts
  pub memory_wanted : status ≡ 5 → TookOneOf i.left i.left' memory_at
  -- where no count of faults rose the status is the answer's, or memory was wanted
  pub complete : (Rose i.faults i.faults' → ⊥) → (Rose o.faults o.faults' → ⊥) → (status ≡ end_status answer.end) ⊎ (status ≡ 5)

-- how a run ended, and its line on the notes; a fault that only the end of the input shows comes only there
pub record TellsEnd (i : InputUse) (n : OutputUse) (status : ℕ) (end : End) : Type 0 where
  pub status_is : status ≡ end_status end
  pub noted : Noted n.written n.written' n.settled' n.faults n.faults' (note_of end)
  pub cut : (fault : _) → end ≡ Refused fault → IsCutShort fault → IsTrue i.ended'

-- What a run of words that ask this does to its input, its output and its notes, and its status: 0 where all was written, 1 where the words give
-- no order, 2 where the input is refused, 3 at a read fault, 4 at a write fault, and 5 where memory is wanted.
pub record IsRunOf (asked : Asked) (i : InputUse) (o n : OutputUse) (status : ℕ) : Type 0 where
  -- what follows from the input's bytes
  pub told : (bytes : List ℕ) → Tells asked i.left bytes → Follows (asked.answer bytes) (asked.memory_at bytes) i o n status
  -- words without an order give status 1, and no others do
  pub usage : (asked.has_order ≡ false) ↔ (status ≡ 1)
  -- at status 0 the output was handed on
  pub settled : status ≡ 0 → IsTrue o.settled'
  -- where the input is refused nothing was written
  pub refused : status ≡ 2 → Keeps o.written o.written'
  -- a read fault comes only where the input's count of faults rose and the words ask to read it, and nothing was written
  pub read_fault : status ≡ 3 → Rose i.faults i.faults' × (asked.reads ≡ true) × Keeps o.written o.written'
  -- a write fault comes only where the output's count rose
  pub write_fault : status ≡ 4 → Rose o.faults o.faults'
  -- memory is wanted before anything is written
  pub memory : status ≡ 5 → Keeps o.written o.written'
  -- the notes got the line of an end with this status
  pub noted : (end : End) × TellsEnd i n status end
  -- what isn't read is left alone
  pub untouched : asked.reads ≡ false → IsUnused i
