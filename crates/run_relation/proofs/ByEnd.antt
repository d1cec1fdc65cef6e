-- How a run may end.
use Rattle.std.proofs.Common.{arith, ◌≡◌, ℕ, ◌∙◌, append-nil, false, List, [], ◌∷◌, ◌++◌, refl, sym, ap, subst, Some, None, inl, inr}
use Rattle.std.specs.declared.option.Option.{Option}
use Rattle.std.specs.Io.KnownBytes.{Appends}
use Rattle.dev_io.specs.Streams.{Takes, TakesAtMost}
use Rattle.command_line.specs.Notes.{Noted}
use Rattle.run_relation.specs.declared.ends.End.{End}
use Rattle.run_relation.specs.declared.ends.End.TheVariants.{Done, Refused}
use Rattle.pixel_plane.specs.declared.input_fault.Fault.{Fault}
use Rattle.pixel_plane.specs.declared.image.Stop.{Stop}
use Rattle.pixel_plane.specs.declared.image.Stop.TheVariants as at_image
use Rattle.pixel_plane.specs.Streams.{TakesOneOf, StoppedBy}
use Rattle.run_relation.specs.Answers.{end_status, end_of, note_of}
use Rattle.run_relation.specs.Headline.{Answer, Asked, Tells, Took, TookOneOf, InputUse, OutputUse, IsUnused, Follows, IsRunOf}
use Rattle.run_relation.specs.RunEnds.{AllRead, HasStopped, GivesAnswer, EndsBy, EndBytes, EndCause}

-- ---- what is taken of the bytes that are told

same_bytes : (a b : List ℕ) (left : Option (List ℕ)) → left ≡ Some a → left ≡ Some b → a ≡ b
same_bytes a b left p q = cc

took : (bytes : List ℕ) (left left' : Option (List ℕ)) (n : ℕ) → left ≡ Some bytes → Takes bytes left' n → Took left left' n
took bytes left left' n told takes = λ x e. subst (λ l. Takes l left' n) (same_bytes bytes x left told e) takes

took_one : (counts bytes : List ℕ) (left left' : Option (List ℕ)) → left ≡ Some bytes → TakesOneOf counts bytes left' → TookOneOf left left' counts
took_one [] bytes left left' told one = one
took_one (n ∷ counts) bytes left left' told (inl takes) = inl (took bytes left left' n told takes)
took_one (n ∷ counts) bytes left left' told (inr one) = inr (took_one counts bytes left left' told one)

-- ---- what was read, and what was made of it

pub all_read : (answer : Answer) (bytes : List ℕ) (left left' : Option (List ℕ)) (output : List ℕ) → left ≡ Some bytes → answer.end ≡ Done
    → output ≡ answer.output → Takes bytes left' answer.taken → AllRead answer left left' output
all_read answer bytes left left' output told done is takes =
    record { done = done; output_is = is; taken_is = took bytes left left' answer.taken told takes }

-- by the stop that a verdict shows, where nothing is written then
pub has_stopped : (answer : Answer) (counts bytes : List ℕ) (shown : Option Stop) (left left' : Option (List ℕ)) (stop : Stop) → left ≡ Some bytes
    → answer.end ≡ end_of shown → ((s : Stop) → shown ≡ Some s → answer.output ≡ []) → StoppedBy shown answer.taken counts bytes left' stop
    → HasStopped answer counts left left' stop
has_stopped answer counts bytes shown left left' (at_image.Refused fault) told ends nothing stopped =
    (ends ∙ ap end_of stopped.0, nothing (at_image.Refused fault) stopped.0, took bytes left left' answer.taken told stopped.1)
has_stopped answer counts bytes shown left left' at_image.ReadFault told ends nothing stopped =
    λ x e. subst (λ l. TakesAtMost l left' answer.taken) (same_bytes bytes x left told e) stopped
has_stopped answer counts bytes shown left left' at_image.NoMemory told ends nothing stopped = took_one counts bytes left left' told stopped

-- ---- the ends

nothing_more : (written : Option (List ℕ)) (output : List ℕ) → output ≡ [] → Appends written written output
nothing_more None output none = tt
nothing_more (Some bytes) output none = sym (ap (λ l. bytes ++ l) none ∙ append-nil bytes)

pub refused_so : (answer : Answer) (counts : List ℕ) (i : InputUse) (o : OutputUse) (fault : Fault) → o.written' ≡ o.written
    → HasStopped answer counts i.left i.left' (at_image.Refused fault) → GivesAnswer answer i o (Refused fault)
refused_so answer counts i o fault same stopped = record {
  end_is = stopped.0;
  written_is = subst (λ w. Appends o.written w answer.output) (sym same) (nothing_more o.written answer.output stopped.1);
  taken_is = stopped.2;
}

-- ---- the run, by its end

follows : (answer : Answer) (memory_at : List ℕ) (i : InputUse) (o n : OutputUse) (end : End) → EndsBy answer memory_at i o end
    → ((asked : Asked) × EndCause asked i o end)
    → Noted n.written n.written' n.settled' n.faults n.faults' (note_of end) → Follows answer memory_at i o n (end_status end)
follows answer memory_at i o n end by cause noted = record {
  status_is = grind arith;
  writes = λ e. grind arith;
  takes = λ e. grind arith;
  notes = λ e. grind arith;
  read_so_far = λ e. grind arith;
  written_so_far = λ e. grind arith;
  taken_before = λ e. grind arith;
  memory_wanted = λ e. grind arith;
  complete = λ read write. grind arith;
}

pub run_of_end : (asked : Asked) (i : InputUse) (o n : OutputUse) (end : End)
    → ((bytes : List ℕ) → Tells asked i.left bytes → EndBytes asked bytes i o end) → EndCause asked i o end → (asked.reads ≡ false → IsUnused i)
    → Noted n.written n.written' n.settled' n.faults n.faults' (note_of end) → IsRunOf asked i o n (end_status end)
run_of_end asked i o n end told cause untouched noted = record {
  told = λ bytes tells. follows (asked.answer bytes) (asked.memory_at bytes) i o n end (told bytes tells) (asked, cause) noted;
  usage = grind arith;
  settled = λ e. grind arith;
  refused = λ e. grind arith;
  read_fault = λ e. grind arith;
  write_fault = λ e. grind arith;
  memory = λ e. grind arith;
  noted = (end, record { status_is = refl; noted = noted; cut = λ fault is short. grind arith });
  untouched = untouched;
}
