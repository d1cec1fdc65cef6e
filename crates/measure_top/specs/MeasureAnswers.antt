-- Model: what an order to measure asks of an input.
use Rattle.std.specs.Prelude.{ℕ, true, List, [], min, max, nat_lt, if◌then◌else◌}
use Rattle.comp_tree.specs.Raster.{Raster}
use Rattle.source_pick.specs.declared.choice.Choice.{Choice}
use Rattle.orders.specs.declared.words.Order.{Order}
use Rattle.run_relation.specs.Answers.{end_of}
use Rattle.run_relation.specs.Headline.{Answer, Asked}
use Rattle.pixel_plane.specs.declared.limits.Limits.{Limits}
use Rattle.pixel_plane.specs.TwoImages.{TwoVerdict, two_images, verdict_on_two, taken_for_two, stop_of_two, memory_at_two}
use Rattle.measure_top.specs.MeasuredCatalogues.{measured_output}

-- of the images of the HDUs with the lesser and with the greater number: sources are detected in the one that the order names
unfoldable pub measured_of_two : Order → Choice → (values : ℕ) → (first second : Raster) → List ℕ
measured_of_two order choice values first second =
    if nat_lt order.hdu values then measured_output order choice first second else measured_output order choice second first

abbrev pub measure_output : Order → Choice → (values : ℕ) → TwoVerdict → List ℕ
measure_output order choice values (two_images first head end second head' end') = measured_of_two order choice values first second
measure_output order choice values fault = []

-- to the verdict on both HDUs
abbrev pub measure_answer_to_verdict : Order → Choice → (values : ℕ) → TwoVerdict → Answer
measure_answer_to_verdict order choice values found =
    record { end = end_of (stop_of_two found); output = measure_output order choice values found; taken = taken_for_two found }

-- the verdict on the HDU that an order names, and on that of the values
abbrev pub verdict_for : Limits → Order → (values : ℕ) → List ℕ → TwoVerdict
verdict_for limits order values bytes = verdict_on_two limits bytes (min order.hdu values) (max order.hdu values)

-- sources are to be detected in the image that the order names, and measured in that of the HDU with the number `values`
abbrev pub asked_to_measure : Limits → Order → Choice → (values : ℕ) → Asked
asked_to_measure limits order choice values = record {
  has_order = true;
  reads = true;
  answer = λ bytes. measure_answer_to_verdict order choice values (verdict_for limits order values bytes);
  memory_at = λ bytes. memory_at_two (verdict_for limits order values bytes);
}
