-- Model: what the words of the command mean. Words are counted from 1: the first is the command, the even ones behind it name
-- options, and each odd one is the value of the option that is named before it.
use Rattle.std.specs.Prelude.{ℕ, ◌<◌, ◌≤◌, ◌+◌, ◌-◌, ◌*◌, ◌/◌, ◌%◌, ◌^◌, Bool, true, false, ◌==◌, ◌≢◌, ◌||◌, not, nat_lt, List}
use Rattle.std.specs.Prelude.{[], ◌∷◌, length, find, get_or, ℤ, pos, Option, Some, None, is_some, unwrap_or, option_and_then, Result, Ok, Err}
use Rattle.std.specs.Prelude.{codes, if◌then◌else◌}
use Rattle.std.specs.Str.{bytes_eq}
use Rattle.std.specs.List.{range_with_len}
use Rattle.std.specs.Option.{option_map}
use Rattle.comp_tree.specs.declared.shape.Shape.{Shape}
use Rattle.comp_tree.specs.declared.shape.Connect.TheVariants.{Four}
use Rattle.comp_tree.specs.Shapes.{shape_of}
use Rattle.filter_rules.specs.declared.rule.Criterion.{Criterion}
use Rattle.source_pick.specs.declared.choice.Choice.{Choice}
use Rattle.orders.specs.declared.options.Command.{Command}
use Rattle.orders.specs.declared.options.Command.TheVariants as command
use Rattle.orders.specs.declared.options.Setting.{Setting}
use Rattle.orders.specs.declared.options.Setting.TheVariants.{Hdu, Connect, Strips, Workers, Mesh, Flat, Rule, MinArea}
use Rattle.orders.specs.declared.options.Setting.TheVariants.{MaxArea, MinFlux, MinFill, Threshold, Contrast, Seed, Width, Height, Values}
use Rattle.orders.specs.declared.words.Order.{Order}
use Rattle.orders.specs.declared.words.Job.{Job}
use Rattle.orders.specs.declared.words.Job.TheVariants as job
use Rattle.orders.specs.declared.words.Usage.{Usage}
use Rattle.orders.specs.Options.{command_named, option_name, option_named, is_value, u16_in, connect_in, positive_u16_in, workers_in}
use Rattle.orders.specs.Options.{flat_in, rule_in, area_in, flux_in, thousandths_in, threshold_in, seed_in, positive_u16_in}

-- ---- the places

-- word k
unfoldable pub word_at : List (List ℕ) → ℕ → List ℕ
word_at words k = get_or words (k - 1) []

-- word 2 * i names this option
abbrev pub names : List (List ℕ) → Setting → ℕ → Bool
names words setting i = bytes_eq (word_at words (2 * i)) (option_name setting)

-- the first i, from 1 to n, such that word 2 * i names this option
unfoldable pub naming : List (List ℕ) → Setting → ℕ → Option ℕ
naming words setting n = find (names words setting) (range_with_len 1 n)

-- this option, which word 2 * i names, isn't one of the command, or stands at an earlier even place
abbrev pub is_bad_option : List (List ℕ) → ℕ → Option Setting → Bool
is_bad_option words i None = true
is_bad_option words i (Some setting) = is_some (naming words setting (i - 1))

-- word 2 * i, which is to be a name; past the last word nothing need be named
unfoldable pub is_bad_name : Command → List (List ℕ) → ℕ → Bool
is_bad_name command words i = if nat_lt (length words) (2 * i) then false else is_bad_option words i (option_named command (word_at words (2 * i)))

abbrev pub is_bad_value_of : (most : ℕ) → Option Setting → List ℕ → Bool
is_bad_value_of most None text = true
is_bad_value_of most (Some setting) text = not (is_value most setting text)

-- word 2 * i + 1, which is to be the value of the option that word 2 * i names: it is missing, can't be read or is out of range
unfoldable pub is_bad_value : (most : ℕ) → Command → List (List ℕ) → ℕ → Bool
is_bad_value most command words i =
    nat_lt (length words) (2 * i + 1) || is_bad_value_of most (option_named command (word_at words (2 * i))) (word_at words (2 * i + 1))

-- word k behind the command is at fault
unfoldable pub is_at_fault : (most : ℕ) → Command → List (List ℕ) → ℕ → Bool
is_at_fault most command words k = if k % 2 == 0 then is_bad_name command words (k / 2) else is_bad_value most command words (k / 2)

-- the first word at fault behind the command; a value that is missing stands behind the last word
unfoldable pub first_at_fault : (most : ℕ) → Command → List (List ℕ) → Option ℕ
first_at_fault most command words = find (is_at_fault most command words) (range_with_len 2 (length words))

-- ---- the order

-- the word behind the first of n names that names this option
unfoldable pub value_given : List (List ℕ) → ℕ → Setting → Option (List ℕ)
value_given words n setting = option_map (λ i. word_at words (2 * i + 1)) (naming words setting n)

-- what the value of an option means, where it is given
abbrev pub given : {T : Type 0} → (List ℕ → Option T) → List (List ℕ) → ℕ → Setting → Option T
given read words n setting = option_and_then read (value_given words n setting)

-- where no most area is given, it is the most pixels of an image
unfoldable pub criterion_given : (most : ℕ) → List (List ℕ) → ℕ → Criterion
criterion_given most words n = record {
  min_area = unwrap_or (given (area_in most) words n MinArea) 0;
  max_area = unwrap_or (given (area_in most) words n MaxArea) most;
  min_flux = unwrap_or (given flux_in words n MinFlux) (pos 0);
  min_fill = unwrap_or (given thousandths_in words n MinFill) 0;
}

unfoldable pub choice_given : (most : ℕ) → List (List ℕ) → ℕ → ℤ → Choice
choice_given most words n threshold = record {
  threshold = threshold;
  min_area = unwrap_or (given (area_in most) words n MinArea) 1;
  min_flux = unwrap_or (given flux_in words n MinFlux) (pos 0);
  contrast = unwrap_or (given thousandths_in words n Contrast) 5;
}

-- the shape of a trial's image, if both sides are given and there are at most 2 ^ 24 pixels
unfoldable pub shape_given : List (List ℕ) → ℕ → Option Shape
shape_given words n = option_and_then (λ width. option_and_then (shape_of width) (given positive_u16_in words n Height)) (given positive_u16_in words n Width)

-- sources are to be picked, if a threshold is given
abbrev pub detection_given : (most : ℕ) → List (List ℕ) → ℕ → Option Job
detection_given most words n = option_map (λ threshold. job.Detect (choice_given most words n threshold)) (given threshold_in words n Threshold)

-- the number of the HDU with the image
abbrev pub hdu_given : List (List ℕ) → ℕ → ℕ
hdu_given words n = unwrap_or (given u16_in words n Hdu) 0

-- detection and values stand in two HDUs
abbrev pub measure_apart : ℕ → Choice → ℕ → Option Job
measure_apart hdu choice values = if values == hdu then None else Some (job.Measure choice values)

-- sources are to be measured in another HDU, if a threshold and that HDU are given
unfoldable pub measuring_given : (most : ℕ) → List (List ℕ) → ℕ → Option Job
measuring_given most words n =
    option_and_then (λ threshold. option_and_then (measure_apart (hdu_given words n) (choice_given most words n threshold)) (given u16_in words n Values))
    (given threshold_in words n Threshold)

-- what is to be done, unless something is missing for it
unfoldable pub job_given : (most : ℕ) → Command → List (List ℕ) → ℕ → Option Job
job_given most command.Tree words n = Some job.Tree
job_given most command.Filter words n = option_map (λ rule. job.Filter rule (criterion_given most words n)) (given rule_in words n Rule)
job_given most command.Detect words n = detection_given most words n
job_given most command.Trial words n = option_and_then (λ seed. option_map (job.Trial seed) (shape_given words n)) (given seed_in words n Seed)
job_given most command.Measure words n = measuring_given most words n

unfoldable pub order_for : List (List ℕ) → ℕ → Job → Order
order_for words n job = record {
  job = job;
  hdu = hdu_given words n;
  connect = unwrap_or (given connect_in words n Connect) Four;
  strips = unwrap_or (given positive_u16_in words n Strips) 1;
  workers = unwrap_or (given workers_in words n Workers) 1;
  mesh = unwrap_or (given u16_in words n Mesh) 0;
  flat = unwrap_or (given flat_in words n Flat) false;
}

-- the order that n pairs of a name and a value give, none of which is at fault
abbrev pub order_given : (most : ℕ) → Command → List (List ℕ) → ℕ → Option Order
order_given most command words n = option_map (order_for words n) (job_given most command words n)

-- there is no order, and this word is at fault
abbrev pub at_fault : {T : Type 0} → ℕ → Result T Usage
at_fault k = Err (record { word = k })

abbrev pub order_unless : {T : Type 0} → Option ℕ → ℕ → Option T → Result T Usage
order_unless (Some k) end order = at_fault k
order_unless None end (Some order) = Ok order
order_unless None end None = at_fault end

abbrev pub command_of : List (List ℕ) → Option Command
command_of [] = None
command_of (first ∷ rest) = command_named first

abbrev pub order_by : (most : ℕ) → List (List ℕ) → Option Command → Result Order Usage
order_by most words None = at_fault 1
order_by most words (Some command) =
    order_unless (first_at_fault most command words) (length words + 1) (order_given most command words (length words / 2))

-- the order, or the first word at fault, where images have no more pixels than the most; where something is missing at the end, that is the one
-- behind the last
unfoldable pub order_within : (most : ℕ) → List (List ℕ) → Result Order Usage
order_within most words = order_by most words (command_of words)

-- where they have no more than 2 ^ 24
abbrev pub order_of : List (List ℕ) → Result Order Usage
order_of words = order_within (2 ^ 24) words

-- the numbers of a job are within their limits
abbrev pub HasJobLimits : Job → Type 0
HasJobLimits job.Tree = Unit {0}
HasJobLimits (job.Filter rule criterion) = criterion.min_fill ≤ 1000
HasJobLimits (job.Detect choice) = choice.contrast ≤ 1000
HasJobLimits (job.Trial seed shape) = shape.width * shape.height ≤ 2 ^ 24
HasJobLimits (job.Measure choice values) = choice.contrast ≤ 1000

-- the HDU with this number isn't that of the values, where a job has any
abbrev pub IsApartFrom : ℕ → Job → Type 0
IsApartFrom hdu job.Tree = Unit {0}
IsApartFrom hdu (job.Filter rule criterion) = Unit {0}
IsApartFrom hdu (job.Detect choice) = Unit {0}
IsApartFrom hdu (job.Trial seed shape) = Unit {0}
IsApartFrom hdu (job.Measure choice values) = values ≢ hdu

-- the numbers of an order are within their limits
pub record HasLimits (order : Order) : Type 0 where
  pub some_strip : 0 < order.strips
  pub most_strips : order.strips ≤ 65535
  pub some_worker : 0 < order.workers
  pub most_workers : order.workers ≤ 64
  pub most_mesh : order.mesh ≤ 65535
  pub job : HasJobLimits order.job
  pub apart : IsApartFrom order.hdu order.job

-- ---- all commands but the one that measures

-- the first word asks for measuring
abbrev pub asks_measure : List (List ℕ) → Bool
asks_measure [] = false
asks_measure (first ∷ rest) = bytes_eq first (codes "measure")

-- the order of words that work on one image, or make one: `measure` is none of their commands
abbrev pub image_order_of : List (List ℕ) → Result Order Usage
image_order_of words = if asks_measure words then at_fault 1 else order_of words
