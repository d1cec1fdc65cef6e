use Rattle.std.proofs.Common.{◌≡◌, ◌∙◌, sym, arith, ℤ, Some, ◌+ℤ◌, w64, to_z, of_z, true, false}
use Rattle.std.specs.Option.{option_eq}
use Rattle.std.specs.Ordering.{int_eq}
use Rattle.std.proofs.lemmas.Int.{ints}
use Rattle.pixel_plane.specs.Stored.{stored_number, is_out_of_range}
use Rattle.pixel_plane.proofs.Bounds.{far_number, range_of, unless_blank}
use Rattle.pixel_plane.proofs.Nearness.{value_near}
use Rattle.pixel_plane.proofs.encoding.Encoding.compared_value.Goals as goal

pub returns-then-is_far-clause-value : goal.returns-then-is_far-clause-value
returns-then-is_far-clause-value c =
    let stored : ℤ = c.stored-stored.result in
    let same : to_z w64 (of_z w64 stored) ≡ stored = omega (arith, ints) in
    let number : stored_number c.args.self.now.size c.args.bytes.now ≡ stored = sym c.stored-stored.ensures.number in
    let there : option_eq int_eq c.args.self.now.blank (Some stored) ≡ false = rw same at (sym c.eq.ensures ∙ c.if-eq.false) in
    let far : is_out_of_range c.args.self.now.limits (Some (c.args.self.now.zero +ℤ stored)) ≡ true = rw same at (sym c.is_far.ensures ∙ c.if-is_far.true) in
    rw (same, number) (far_number c.args.self.now.limits c.args.self.now.zero c.args.self.now.blank stored there far)

pub returns-clause-value : goal.returns-clause-value
returns-clause-value c =
    let zero : ℤ = c.args.self.now.zero in
    let stored : ℤ = c.stored-stored.result in
    let a : to_z w64 (of_z w64 zero) ≡ zero = omega (arith, ints) in
    let b : to_z w64 (of_z w64 stored) ≡ stored = omega (arith, ints) in
    let number : stored_number c.args.self.now.size c.args.bytes.now ≡ stored = sym c.stored-stored.ensures.number in
    let there : option_eq int_eq c.args.self.now.blank (Some stored) ≡ false = rw b at (sym c.eq.ensures ∙ c.if-eq.false) in
    let near : is_out_of_range c.args.self.now.limits (Some (zero +ℤ stored)) ≡ false = rw b at (sym c.is_far.ensures ∙ c.if-is_far.false) in
    let range = range_of c.args.self.now.limits (zero +ℤ stored) near in
    let low = range.low in
    let least = c.args.self.now.limits.range.least_low in
    let greatest = c.args.self.now.limits.range.greatest_high in
    let high = range.high in
    let sum : to_z w64 (of_z w64 (zero +ℤ stored)) ≡ zero +ℤ stored = omega (arith, ints) in
    rw (a, b, sum, number) (sym (unless_blank zero c.args.self.now.blank stored there))

pub returns-clause-within : goal.returns-clause-within
returns-clause-within c =
    let zero : ℤ = c.args.self.now.zero in
    let stored : ℤ = c.stored-stored.result in
    let a : to_z w64 (of_z w64 zero) ≡ zero = omega (arith, ints) in
    let b : to_z w64 (of_z w64 stored) ≡ stored = omega (arith, ints) in
    let near : is_out_of_range c.args.self.now.limits (Some (zero +ℤ stored)) ≡ false = rw b at (sym c.is_far.ensures ∙ c.if-is_far.false) in
    let range = range_of c.args.self.now.limits (zero +ℤ stored) near in
    let low = range.low in
    let least = c.args.self.now.limits.range.least_low in
    let greatest = c.args.self.now.limits.range.greatest_high in
    let high = range.high in
    record { low = omega (arith, ints); high = omega (arith, ints) }

pub returns-clause-near : goal.returns-clause-near
returns-clause-near c =
    let zero : ℤ = c.args.self.now.zero in
    let stored : ℤ = c.stored-stored.result in
    let a : to_z w64 (of_z w64 zero) ≡ zero = omega (arith, ints) in
    let b : to_z w64 (of_z w64 stored) ≡ stored = omega (arith, ints) in
    let there : option_eq int_eq c.args.self.now.blank (Some stored) ≡ false = rw b at (sym c.eq.ensures ∙ c.if-eq.false) in
    let near : is_out_of_range c.args.self.now.limits (Some (zero +ℤ stored)) ≡ false = rw b at (sym c.is_far.ensures ∙ c.if-is_far.false) in
    let range = range_of c.args.self.now.limits (zero +ℤ stored) near in
    let low = range.low in
    let least = c.args.self.now.limits.range.least_low in
    let greatest = c.args.self.now.limits.range.greatest_high in
    let high = range.high in
    let sum : to_z w64 (of_z w64 (zero +ℤ stored)) ≡ zero +ℤ stored = omega (arith, ints) in
    rw (a, b, sum) (value_near c.args.self.now.size zero c.args.self.now.blank c.args.self.now.limits stored
    (record { low = c.args.self.now.low; high = c.args.self.now.high; number_is = c.stored-stored.ensures.of_size; there = there }) range)
