-- Model: what an order that works on one image asks of an input.
use Rattle.std.specs.Prelude.{ℕ, true, false, List, [], ◌∷◌}
use Rattle.comp_tree.specs.Raster.{Raster}
use Rattle.pixel_plane.specs.declared.limits.Limits.{Limits}
use Rattle.pixel_plane.specs.Verdicts.{Verdict, image, verdict_on, taken_for}
use Rattle.orders.specs.declared.words.Order.{Order}
use Rattle.pixel_plane.specs.Streams.{stop_of, memory_at_verdict}
use Rattle.run_relation.specs.declared.ends.End.TheVariants.{Done}
use Rattle.run_relation.specs.Answers.{end_of}
use Rattle.run_relation.specs.Headline.{Answer, Asked}
use Rattle.tree_products.specs.Products.{output_of}

-- what is written by the verdict on the input's bytes
abbrev pub output_on : Order → Verdict → List ℕ
output_on order (image plane head end) = output_of order plane
output_on order fault = []

abbrev pub answer_to_verdict : Order → Verdict → Answer
answer_to_verdict order found = record { end = end_of (stop_of found); output = output_on order found; taken = taken_for found }

-- the image of the HDU that the order names is read
abbrev pub asked_of_input : Limits → Order → Asked
asked_of_input limits order = record {
  has_order = true;
  reads = true;
  answer = λ bytes. answer_to_verdict order (verdict_on limits bytes order.hdu);
  memory_at = λ bytes. memory_at_verdict (verdict_on limits bytes order.hdu);
}

-- this image is made, which needs no bytes
abbrev pub asked_of_made : Order → Raster → Asked
asked_of_made order made = record {
  has_order = true;
  reads = false;
  answer = λ bytes. record { end = Done; output = output_of order made; taken = 0 };
  memory_at = λ bytes. 0 ∷ [];
}
