-- The status of an answer to words and bytes: none shows a device's fault.
use Rattle.std.proofs.Common.{ℕ, ◌≤◌, List, arith}
use Rattle.std.specs.Prelude.{Result, Ok, Err}
use Rattle.pixel_plane.specs.declared.limits.Limits.{Limits}
use Rattle.pixel_plane.specs.ImageLimits.{usual_limits}
use Rattle.pixel_plane.specs.Verdicts.{verdict_on}
use Rattle.orders.specs.declared.words.Order.{Order}
use Rattle.orders.specs.declared.words.Job.{Job}
use Rattle.orders.specs.declared.words.Job.TheVariants.{Tree, Filter, Detect, Trial, Measure}
use Rattle.orders.specs.declared.words.Usage.{Usage as AtFault}
use Rattle.orders.specs.Words.{order_within, image_order_of}
use Rattle.run_relation.specs.Answers.{end_status}
use Rattle.run_relation.specs.Laws.{AnswersAreOfWordsAndBytes}
use Rattle.run_relation.proofs.Exported.{by_verdict}
use Rattle.measure_top.proofs.Exported.{status_of_measure}
use Rattle.detect_top.specs.WordAnswers.{asked_by, asked_for, asked_of, asked_of_all}

by_job : (limits : Limits) (order : Order) (job : Job) (bytes : List ℕ) → end_status ((asked_for limits order job).answer bytes).end ≤ 2
by_job limits order Tree bytes = by_verdict (verdict_on limits bytes order.hdu)
by_job limits order (Filter rule criterion) bytes = by_verdict (verdict_on limits bytes order.hdu)
by_job limits order (Detect choice) bytes = by_verdict (verdict_on limits bytes order.hdu)
by_job limits order (Trial seed shape) bytes = omega arith
by_job limits order (Measure choice values) bytes = status_of_measure limits order choice values bytes

by_order : (limits : Limits) (order : Result Order AtFault) (bytes : List ℕ) → end_status ((asked_by limits order).answer bytes).end ≤ 2
by_order limits (Err usage) bytes = omega arith
by_order limits (Ok order) bytes = by_job limits order order.job bytes

pub status_of_all : AnswersAreOfWordsAndBytes asked_of_all
status_of_all words bytes = by_order usual_limits (order_within usual_limits.pixels words) bytes

pub status_by_words_and_bytes : AnswersAreOfWordsAndBytes asked_of
status_by_words_and_bytes words bytes = by_order usual_limits (image_order_of words) bytes
