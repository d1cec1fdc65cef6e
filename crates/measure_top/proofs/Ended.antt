-- What an order to measure makes of an input.
use Rattle.std.proofs.Common.{◌≡◌, ◌∙◌, ℕ, ◌≤◌, List, [], refl, sym, ap, subst, arith, Some, inl, inr}
use Rattle.std.specs.declared.option.Option.{Option}
use Rattle.std.proofs.lemmas.Option.{none-some}
use Rattle.dev_io.specs.Streams.{Takes}
use Rattle.source_pick.specs.declared.choice.Choice.{Choice}
use Rattle.orders.specs.declared.words.Order.{Order}
use Rattle.run_relation.specs.Answers.{end_status, end_of}
use Rattle.run_relation.specs.RunEnds.{AllRead, HasStopped}
use Rattle.run_relation.proofs.Exported.{by_verdict, all_read, has_stopped}
use Rattle.pixel_plane.specs.declared.limits.Limits.{Limits}
use Rattle.pixel_plane.specs.declared.image.Stop.{Stop}
use Rattle.pixel_plane.specs.declared.image.Stop.TheVariants.{NoMemory}
use Rattle.pixel_plane.specs.declared.two_images.TwoPlanes.{TwoPlanes}
use Rattle.pixel_plane.specs.Streams.{TakesOneOf}
use Rattle.pixel_plane.specs.TwoImages.{TwoVerdict, two_images, earlier_fault, later_fault, shapes_differ, taken_for_two, stop_of_two, memory_at_two}
use Rattle.pixel_plane.specs.TwoReads.{TwoRead, TwoStopped}
use Rattle.measure_top.specs.MeasureAnswers.{measured_of_two, measure_output, measure_answer_to_verdict, verdict_for, asked_to_measure}

-- both were read, and what is made of them is the answer's output
pub both_read : (limits : Limits) (order : Order) (choice : Choice) (values : ℕ) (found : TwoVerdict) (bytes : List ℕ) (left left' : Option (List ℕ)) (planes : TwoPlanes)
    (output : List ℕ) → left ≡ Some bytes → found ≡ verdict_for limits order values bytes → TwoRead found bytes left' planes
    → output ≡ measured_of_two order choice values planes.first planes.second
    → AllRead (measure_answer_to_verdict order choice values (verdict_for limits order values bytes)) left left' output
both_read limits order choice values found bytes left left' planes output told same read is =
    let images = sym same ∙ read.are_images in
    all_read (measure_answer_to_verdict order choice values (verdict_for limits order values bytes)) bytes left left' output told
    (ap (λ v. end_of (stop_of_two v)) images)
    (is ∙ sym (ap (measure_output order choice values) images))
    (subst (Takes bytes left') (sym (ap taken_for_two images)) read.takes)

nothing_written : (order : Order) (choice : Choice) (values : ℕ) (found : TwoVerdict) (s : Stop) → stop_of_two found ≡ Some s
    → measure_output order choice values found ≡ []
nothing_written order choice values (two_images first head end second head' end') s is = absurd (none-some s is)
nothing_written order choice values (earlier_fault found) s is = refl
nothing_written order choice values (later_fault head end found) s is = refl
nothing_written order choice values (shapes_differ head end head') s is = refl

-- the reading stopped
pub two_stopped : (limits : Limits) (order : Order) (choice : Choice) (values : ℕ) (found : TwoVerdict) (bytes : List ℕ) (left left' : Option (List ℕ)) (stop : Stop)
    → left ≡ Some bytes → found ≡ verdict_for limits order values bytes → TwoStopped found bytes left' stop
    → HasStopped (measure_answer_to_verdict order choice values (verdict_for limits order values bytes)) (memory_at_two (verdict_for limits order values bytes)) left left' stop
two_stopped limits order choice values found bytes left left' stop told same stopped =
    subst (λ v. HasStopped (measure_answer_to_verdict order choice values v) (memory_at_two v) left left' stop) same
    (has_stopped (measure_answer_to_verdict order choice values found) (memory_at_two found) bytes (stop_of_two found) left left' stop told refl
    (nothing_written order choice values found) stopped)

-- memory may be wanted after both were read
pub memory_after : (limits : Limits) (order : Order) (choice : Choice) (values : ℕ) (found : TwoVerdict) (bytes : List ℕ) (left left' : Option (List ℕ)) (planes : TwoPlanes)
    → left ≡ Some bytes → found ≡ verdict_for limits order values bytes → TwoRead found bytes left' planes
    → HasStopped (measure_answer_to_verdict order choice values (verdict_for limits order values bytes)) (memory_at_two (verdict_for limits order values bytes)) left left'
    NoMemory
memory_after limits order choice values found bytes left left' planes told same read =
    two_stopped limits order choice values found bytes left left' NoMemory told same
    (subst (λ v. TakesOneOf (memory_at_two v) bytes left') (sym read.are_images) (inr (inr (inr (inl read.takes)))))

-- ---- the status of an answer

by_two : (found : TwoVerdict) → end_status (end_of (stop_of_two found)) ≤ 2
by_two (two_images first head end second head' end') = omega arith
by_two (earlier_fault found) = by_verdict found
by_two (later_fault head end found) = by_verdict found
by_two (shapes_differ head end head') = omega arith

pub status_of_measure : (limits : Limits) (order : Order) (choice : Choice) (values : ℕ) (bytes : List ℕ)
    → end_status ((asked_to_measure limits order choice values).answer bytes).end ≤ 2
status_of_measure limits order choice values bytes = by_two (verdict_for limits order values bytes)
