-- Model: what each end of a run says of its source and its sinks.
use Rattle.std.specs.Prelude.{◌≡◌, ℕ, true, false, List, [], Result, Ok, Err, IsTrue}
use Rattle.std.specs.declared.option.Option.{Option}
use Rattle.std.specs.Io.KnownBytes.{Appends, Keeps}
use Rattle.dev_io.specs.Causes.{Rose}
use Rattle.dev_io.specs.Streams.{AppendsPrefix}
use Rattle.run_relation.specs.declared.ends.End.{End}
use Rattle.run_relation.specs.declared.ends.End.TheVariants.{Done, Usage, Refused, ReadFault, WriteFault, NoMemory}
use Rattle.pixel_plane.specs.declared.image.Stop.{Stop}
use Rattle.pixel_plane.specs.declared.image.Stop.TheVariants as at_image
use Rattle.pixel_plane.specs.InputFaults.{IsCutShort}
use Rattle.run_relation.specs.Headline.{Answer, Asked, InputUse, OutputUse, Took, TookAtMost, TookOneOf}

-- all was read, and this is the answer's output
pub record AllRead (answer : Answer) (left left' : Option (List ℕ)) (output : List ℕ) : Type 0 where
  pub done : answer.end ≡ Done
  pub output_is : output ≡ answer.output
  pub taken_is : Took left left' answer.taken

-- the making stopped, by the counts at which memory may be wanted: a refusal is the answer's, and its bytes were taken
abbrev pub HasStopped : Answer → List ℕ → (left left' : Option (List ℕ)) → Stop → Type 0
HasStopped answer memory_at left left' (at_image.Refused fault) =
    (answer.end ≡ Refused fault) × (answer.output ≡ []) × Took left left' answer.taken
HasStopped answer memory_at left left' at_image.ReadFault = TookAtMost left left' answer.taken
HasStopped answer memory_at left left' at_image.NoMemory = TookOneOf left left' memory_at

-- what was made of these bytes, whose own bytes a definition tells: the answer's output, or it stopped
abbrev pub IsMadeOf : {M : Type 0} → Asked → List ℕ → (left left' : Option (List ℕ)) → (M → List ℕ) → Result M Stop → Type 0
IsMadeOf asked bytes left left' output_of (Ok made) = AllRead (asked.answer bytes) left left' (output_of made)
IsMadeOf asked bytes left left' output_of (Err stop) = HasStopped (asked.answer bytes) (asked.memory_at bytes) left left' stop

-- what an end of its own says of the bytes: it is the answer's, the output was written, and the bytes were taken
pub record GivesAnswer (answer : Answer) (i : InputUse) (o : OutputUse) (end : End) : Type 0 where
  pub end_is : answer.end ≡ end
  pub written_is : Appends o.written o.written' answer.output
  pub taken_is : Took i.left i.left' answer.taken

-- what the end at a write fault says of the bytes
pub record CutsAnswer (answer : Answer) (i : InputUse) (o : OutputUse) : Type 0 where
  pub done : answer.end ≡ Done
  pub front : AppendsPrefix o.written o.written' answer.output
  pub taken_is : Took i.left i.left' answer.taken

-- what an end says of the bytes, by the answer and by the counts at which memory may be wanted
abbrev pub EndsBy : Answer → List ℕ → InputUse → OutputUse → End → Type 0
EndsBy answer memory_at i o Done = GivesAnswer answer i o Done
EndsBy answer memory_at i o (Usage usage) = GivesAnswer answer i o (Usage usage)
EndsBy answer memory_at i o (Refused fault) = GivesAnswer answer i o (Refused fault)
EndsBy answer memory_at i o ReadFault = TookAtMost i.left i.left' answer.taken
EndsBy answer memory_at i o WriteFault = CutsAnswer answer i o
EndsBy answer memory_at i o NoMemory = TookOneOf i.left i.left' memory_at

-- where these bytes are the input's
abbrev pub EndBytes : Asked → List ℕ → InputUse → OutputUse → End → Type 0
EndBytes asked bytes i o end = EndsBy (asked.answer bytes) (asked.memory_at bytes) i o end

-- what an end says in any case
abbrev pub EndCause : Asked → InputUse → OutputUse → End → Type 0
EndCause asked i o Done = (asked.has_order ≡ true) × IsTrue o.settled'
EndCause asked i o (Usage usage) = asked.has_order ≡ false
EndCause asked i o (Refused fault) = (asked.has_order ≡ true) × (IsCutShort fault → IsTrue i.ended') × Keeps o.written o.written'
EndCause asked i o ReadFault = (asked.has_order ≡ true) × Rose i.faults i.faults' × (asked.reads ≡ true) × Keeps o.written o.written'
EndCause asked i o WriteFault = (asked.has_order ≡ true) × Rose o.faults o.faults'
EndCause asked i o NoMemory = (asked.has_order ≡ true) × Keeps o.written o.written'
