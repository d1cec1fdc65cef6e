-- Model: the order that words give to measure.
use Rattle.std.specs.Prelude.{◌≡◌, ◌≢◌, ℕ, List, Result, Ok, Err}
use Rattle.source_pick.specs.declared.choice.Choice.{Choice}
use Rattle.orders.specs.declared.words.Order.{Order}
use Rattle.orders.specs.declared.words.Job.{Job}
use Rattle.orders.specs.declared.words.Job.TheVariants.{Detect, Measure}
use Rattle.orders.specs.declared.words.Usage.{Usage}
use Rattle.orders.specs.Words.{order_of, at_fault, HasLimits}
use Rattle.measure_top.specs.declared.order.MeasureOrder.{MeasureOrder}

-- to detect and to measure, by the job of an order; with another job the first word is at fault
abbrev pub measure_by_job : Order → Job → Result MeasureOrder Usage
measure_by_job order (Measure choice values) = Ok (record {
  order = record {
    job = Detect choice;
    hdu = order.hdu;
    connect = order.connect;
    strips = order.strips;
    workers = order.workers;
    mesh = order.mesh;
    flat = order.flat;
  };
  values = values;
})
measure_by_job order job = at_fault 1

abbrev pub measure_by_order : Result Order Usage → Result MeasureOrder Usage
measure_by_order (Err usage) = Err usage
measure_by_order (Ok order) = measure_by_job order order.job

-- the order of words that ask for measuring, or the first word at fault
abbrev pub measure_order_of : List (List ℕ) → Result MeasureOrder Usage
measure_order_of words = measure_by_order (order_of words)

-- sources are to be detected in one HDU, and measured in another
pub record IsMeasureOrder (found : MeasureOrder) : Type 0 where
  pub limits : HasLimits found.order
  pub detects : (choice : Choice) × (found.order.job ≡ Detect choice)
  pub apart : found.values ≢ found.order.hdu
