-- The numbers of an order are within their limits.
use Rattle.std.proofs.Common.{◌≡◌, ℕ, ◌*◌, ◌^◌, ◌≤◌, ◌≢◌, Bool, true, false, ◌==◌, ◌&&◌, cond, List, refl, sym, subst, arith, if◌then◌else◌}
use Rattle.std.specs.Prelude.{ℤ, pos, int_le, ◌≤ℤ◌, Option, Some, None, unwrap_or, unsigned_abs, option_and_then}
use Rattle.std.specs.Option.{option_map}
use Rattle.std.proofs.lemmas.Bool.{and_parts, eqb-false}
use Rattle.std.proofs.lemmas.Int.{ints}
use Rattle.lemmas.proofs.Exported.{int_le-true}
use Rattle.comp_tree.specs.declared.shape.Shape.{Shape}
use Rattle.comp_tree.specs.Limits.{IsWithinLimits}
use Rattle.comp_tree.specs.Shapes.{fits_limits, limits_from, usual_from, shape_if, shape_of}
use Rattle.orders.specs.declared.options.Setting.TheVariants.{Strips, Workers, Mesh, Rule, MinFill, Threshold, Contrast, Seed, Width, Height, Values}
use Rattle.orders.specs.declared.options.Command.{Command}
use Rattle.orders.specs.declared.options.Command.TheVariants.{Tree, Filter, Detect, Trial, Measure}
use Rattle.source_pick.specs.declared.choice.Choice.{Choice}
use Rattle.orders.specs.declared.words.Job.{Job}
use Rattle.orders.specs.declared.words.Job.TheVariants as the_job
use Rattle.command_line.specs.Numbers.{within, whole_number}
use Rattle.orders.specs.Options.{count_between, positive_u16_in, workers_in, u16_in, rule_in, thousandths_in, threshold_in, seed_in}
use Rattle.orders.specs.Words.{criterion_given, choice_given, job_given, order_for, value_given, given, HasJobLimits, HasLimits, shape_given}
use Rattle.orders.specs.Words.{IsApartFrom, hdu_given, measure_apart, measuring_given}

record IsBetween (least most n : ℕ) : Type 0 where
  low : least ≤ n
  high : n ≤ most

abs_between : (least most : ℕ) (z : ℤ) → pos least ≤ℤ z → z ≤ℤ pos most → IsBetween least most (unsigned_abs z)
abs_between least most (pos n) low high = record { low = omega (arith, ints, low); high = omega (arith, ints, high) }
abs_between least most z low high = absurd (omega (arith, ints, low))

number_between : (least most default : ℕ) (z : ℤ) (b : Bool) → IsBetween least most default → (int_le (pos least) z && int_le z (pos most)) ≡ b
    → IsBetween least most (unwrap_or (option_map unsigned_abs (if b then Some z else None)) default)
number_between least most default z false otherwise h = otherwise
number_between least most default z true otherwise h =
    let both = and_parts (int_le (pos least) z) (int_le z (pos most)) h in
    abs_between least most z (int_le-true _ _ both.0) (int_le-true _ _ both.1)

within_between : (least most default : ℕ) (o : Option ℤ) → IsBetween least most default
    → IsBetween least most (unwrap_or (option_map unsigned_abs (within (pos least) (pos most) o)) default)
within_between least most default None otherwise = otherwise
within_between least most default (Some z) otherwise = number_between least most default z (int_le (pos least) z && int_le z (pos most)) otherwise refl

-- an option whose value is from least to most, as its default is
given_between : (least most default : ℕ) (o : Option (List ℕ)) → IsBetween least most default
    → IsBetween least most (unwrap_or (option_and_then (count_between (pos least) (pos most)) o) default)
given_between least most default None otherwise = otherwise
given_between least most default (Some text) otherwise = within_between least most default (whole_number text) otherwise

criterion_limits : (most : ℕ) (words : List (List ℕ)) (n : ℕ) → (criterion_given most words n).min_fill ≤ 1000
unfolding criterion_given thousandths_in
criterion_limits most words n = (given_between 0 1000 0 (value_given words n MinFill) (record { low = omega arith; high = omega arith })).high

choice_limits : (most : ℕ) (words : List (List ℕ)) (n : ℕ) (threshold : ℤ) → (choice_given most words n threshold).contrast ≤ 1000
unfolding choice_given thousandths_in
choice_limits most words n threshold = (given_between 0 1000 5 (value_given words n Contrast) (record { low = omega arith; high = omega arith })).high

job_of : {T : Type 0} (o : Option T) (f : T → Job) (job : Job) → option_map f o ≡ Some job → (x : T) × (job ≡ f x)
job_of (Some x) f job is = let same : job ≡ f x = cc in (x, same)
job_of None f job is = absurd (cc)

job_behind : {T : Type 0} (o : Option T) (f : T → Option Job) (job : Job) → option_and_then f o ≡ Some job → (x : T) × (f x ≡ Some job)
job_behind (Some x) f job is = (x, is)
job_behind None f job is = absurd (cc)

made_of : {T : Type 0} (o : Option T) (f : T → Job) (job : Job) → option_map f o ≡ Some job → (x : T) × (o ≡ Some x) × (job ≡ f x)
made_of (Some x) f job is = let same : job ≡ f x = cc in (x, refl, same)
made_of None f job is = absurd (cc)

shape_behind : {T : Type 0} (o : Option T) (f : T → Option Shape) (shape : Shape) → option_and_then f o ≡ Some shape → (x : T) × (f x ≡ Some shape)
shape_behind (Some x) f shape is = (x, is)
shape_behind None f shape is = absurd (cc)

few_if : (width height : ℕ) (within : Bool) (limits : within ≡ true → IsWithinLimits width height) → (within ≡ true → width * height ≤ 2 ^ 24) → (s : Shape)
    → shape_if width height within limits ≡ Some s → s.width * s.height ≤ 2 ^ 24
few_if width height true limits few s is =
    let made : Shape = record { width = width; height = height; within_limits = limits refl } in
    let same : made ≡ s = cc in
    subst (λ (x : Shape). x.width * x.height ≤ 2 ^ 24) same (few refl)
few_if width height false limits few s is = absurd (cc)

few_of : (width height : ℕ) (s : Shape) → shape_of width height ≡ Some s → s.width * s.height ≤ 2 ^ 24
unfolding shape_of
few_of width height s is =
    few_if width height (fits_limits width height) (limits_from width height) (λ fits. (usual_from width height fits).few_pixels) s is

-- a trial's image has few pixels
few_given : (words : List (List ℕ)) (n : ℕ) (shape : Shape) → shape_given words n ≡ Some shape → shape.width * shape.height ≤ 2 ^ 24
unfolding shape_given
few_given words n shape is =
    let width = shape_behind (given positive_u16_in words n Width) _ shape is in
    let height = shape_behind (given positive_u16_in words n Height) _ shape width.1 in
    few_of width.0 height.0 shape height.1

-- the job that is given to measure
record IsMeasuring (most : ℕ) (words : List (List ℕ)) (n : ℕ) (job : Job) : Type 0 where
  threshold : ℤ
  values : ℕ
  job_is : job ≡ the_job.Measure (choice_given most words n threshold) values
  apart : values ≢ hdu_given words n

apart_job : (hdu : ℕ) (choice : Choice) (values : ℕ) (job : Job) → measure_apart hdu choice values ≡ Some job
    → (job ≡ the_job.Measure choice values) × (values ≢ hdu)
apart_job hdu choice values job is = by (values == hdu) refl is
  where
    by : (b : Bool) → (values == hdu) ≡ b → cond b None (Some (the_job.Measure choice values)) ≡ Some job
        → (job ≡ the_job.Measure choice values) × (values ≢ hdu)
    by true test same = absurd (cc)
    by false test same = let there : the_job.Measure choice values ≡ job = cc in (sym there, eqb-false values hdu test)

measured : (most : ℕ) (words : List (List ℕ)) (n : ℕ) (job : Job) → measuring_given most words n ≡ Some job → IsMeasuring most words n job
unfolding measuring_given
measured most words n job is =
    let threshold = job_behind (given threshold_in words n Threshold) _ job is in
    let values = job_behind (given u16_in words n Values) _ job threshold.1 in
    let found = apart_job (hdu_given words n) (choice_given most words n threshold.0) values.0 job values.1 in
    record { threshold = threshold.0; values = values.0; job_is = found.0; apart = found.1 }

-- it measures in another HDU
job_apart : (most : ℕ) (command : Command) (words : List (List ℕ)) (n : ℕ) (job : Job) → job_given most command words n ≡ Some job → IsApartFrom (hdu_given words n) job
unfolding job_given
job_apart most Tree words n job is = let same : the_job.Tree ≡ job = cc in subst (IsApartFrom (hdu_given words n)) same tt
job_apart most Filter words n job is = subst (IsApartFrom (hdu_given words n)) (sym (job_of (given rule_in words n Rule) _ job is).1) tt
job_apart most Detect words n job is = subst (IsApartFrom (hdu_given words n)) (sym (job_of (given threshold_in words n Threshold) _ job is).1) tt
job_apart most Trial words n job is =
    subst (IsApartFrom (hdu_given words n)) (sym (job_of (shape_given words n) _ job (job_behind (given seed_in words n Seed) _ job is).1).1) tt
job_apart most Measure words n job is = let found = measured most words n job is in subst (IsApartFrom (hdu_given words n)) (sym found.job_is) found.apart

job_limits : (most : ℕ) (command : Command) (words : List (List ℕ)) (n : ℕ) (job : Job) → job_given most command words n ≡ Some job → HasJobLimits job
unfolding job_given
job_limits most Tree words n job is = let same : the_job.Tree ≡ job = cc in subst HasJobLimits same tt
job_limits most Filter words n job is = subst HasJobLimits (sym (job_of (given rule_in words n Rule) _ job is).1) (criterion_limits most words n)
job_limits most Detect words n job is = subst HasJobLimits (sym (job_of (given threshold_in words n Threshold) _ job is).1) (choice_limits most words n _)
job_limits most Measure words n job is =
    let found = measured most words n job is in subst HasJobLimits (sym found.job_is) (choice_limits most words n found.threshold)
job_limits most Trial words n job is =
    let seed = job_behind (given seed_in words n Seed) _ job is in
    let made = made_of (shape_given words n) (the_job.Trial seed.0) job seed.1 in
    subst HasJobLimits (sym made.2) (few_given words n made.0 made.1)

pub given_limits : (most : ℕ) (command : Command) (words : List (List ℕ)) (n : ℕ) (job : Job) → job_given most command words n ≡ Some job → HasLimits (order_for words n job)
unfolding order_for positive_u16_in workers_in u16_in
given_limits most command words n job is =
    let strips = given_between 1 65535 1 (value_given words n Strips) (record { low = omega arith; high = omega arith }) in
    let workers = given_between 1 64 1 (value_given words n Workers) (record { low = omega arith; high = omega arith }) in
    let mesh = given_between 0 65535 0 (value_given words n Mesh) (record { low = omega arith; high = omega arith }) in
    record {
      some_strip = strips.low;
      most_strips = strips.high;
      some_worker = workers.low;
      most_workers = workers.high;
      most_mesh = mesh.high;
      job = job_limits most command words n job is;
      apart = job_apart most command words n job is;
    }
