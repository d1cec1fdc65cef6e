-- Model: what words ask of an input.
use Rattle.std.specs.Prelude.{ℕ, List, Result, Ok, Err}
use Rattle.orders.specs.declared.words.Order.{Order}
use Rattle.orders.specs.declared.words.Job.{Job}
use Rattle.orders.specs.declared.words.Job.TheVariants.{Tree, Filter, Detect, Trial, Measure}
use Rattle.orders.specs.declared.words.Usage.{Usage as AtFault}
use Rattle.orders.specs.Words.{order_within, image_order_of}
use Rattle.pixel_plane.specs.declared.limits.Limits.{Limits}
use Rattle.pixel_plane.specs.ImageLimits.{usual_limits}
use Rattle.run_relation.specs.Headline.{Answer, Asked, asked_nothing}
use Rattle.tree_products.specs.Trials.{trial_image}
use Rattle.detect_top.specs.ImageAnswers.{asked_of_input, asked_of_made}
use Rattle.measure_top.specs.MeasureAnswers.{asked_to_measure}

-- by the order's job: a trial makes its image, measuring reads two, and each other job reads one
abbrev pub asked_for : Limits → Order → Job → Asked
asked_for limits order Tree = asked_of_input limits order
asked_for limits order (Filter rule criterion) = asked_of_input limits order
asked_for limits order (Detect choice) = asked_of_input limits order
asked_for limits order (Trial seed shape) = asked_of_made order (trial_image seed shape)
asked_for limits order (Measure choice values) = asked_to_measure limits order choice values

abbrev pub asked_by : Limits → Result Order AtFault → Asked
asked_by limits (Err usage) = asked_nothing usage
asked_by limits (Ok order) = asked_for limits order order.job

-- what any words ask, where images have these limits
abbrev pub asked_within : Limits → List (List ℕ) → Asked
asked_within limits words = asked_by limits (order_within limits.pixels words)

-- where they have the usual ones
abbrev pub asked_of_all : List (List ℕ) → Asked
asked_of_all words = asked_within usual_limits words

-- the same where words that ask for measuring are none of a command
abbrev pub asked_of : List (List ℕ) → Asked
asked_of words = asked_by usual_limits (image_order_of words)

-- what these words and bytes alone determine
abbrev pub answer_to_words : Limits → List (List ℕ) → List ℕ → Answer
answer_to_words limits words bytes = (asked_within limits words).answer bytes
