use Rattle.std.proofs.Common.{◌≡◌, ◌∙◌, sym, ap, subst, Some, false}
use Rattle.std.specs.Prelude.{IfSome}
use Rattle.std.specs.declared.option.Option.{Option}
use Rattle.std.specs.Option.{option_eq}
use Rattle.std.specs.Ordering.{int_eq}
use Rattle.std.proofs.Common.{ℤ}
use Rattle.pixel_plane.specs.WithinLimits.{IsInRange}
use Rattle.pixel_plane.proofs.Bounds.{unless_blank}
use Rattle.pixel_plane.proofs.Narrow.{IsNear, read_near, sum_in_range, sum_read}
use Rattle.pixel_plane.specs.Nearness.{most_of}
use Rattle.comp_tree.specs.Limits.{IsWithin}
use Rattle.pixel_plane.proofs.Nearness.{value_near}
use Rattle.pixel_plane.proofs.encoding.Encoding.pixel_of.Goals as goal

pub returns-else-eq-clause-value : goal.returns-else-eq-clause-value
returns-else-eq-clause-value c =
    let zero : IsNear c.args.self.now.zero = record { low = c.args.self.now.low; high = c.args.self.now.high } in
    let stored : IsNear c.args.stored = record { low = c.requires.low; high = c.requires.high } in
    let there : option_eq int_eq c.args.self.now.blank (Some c.args.stored) ≡ false =
    subst (λ x. option_eq int_eq c.args.self.now.blank (Some x) ≡ false) (read_near c.args.stored stored) (sym c.eq.ensures ∙ c.if-eq.false) in
    c.of-else-eq.ensures ∙ ap Some (sum_read c.args.self.now.zero c.args.stored zero stored)
    ∙ sym (unless_blank c.args.self.now.zero c.args.self.now.blank c.args.stored there)

pub returns-else-eq-clause-within : goal.returns-else-eq-clause-within
returns-else-eq-clause-within c =
    let zero : IsNear c.args.self.now.zero = record { low = c.args.self.now.low; high = c.args.self.now.high } in
    let stored : IsNear c.args.stored = record { low = c.requires.low; high = c.requires.high } in
    subst (λ (x : Option ℤ). IfSome x (λ v. IsInRange c.args.self.now.limits v))
    (sym (c.of-else-eq.ensures ∙ ap Some (sum_read c.args.self.now.zero c.args.stored zero stored)))
    (sum_in_range c.args.self.now.limits c.args.self.now.zero c.args.stored c.requires.holds zero stored)

pub returns-else-eq-clause-near : goal.returns-else-eq-clause-near
returns-else-eq-clause-near c =
    let zero : IsNear c.args.self.now.zero = record { low = c.args.self.now.low; high = c.args.self.now.high } in
    let stored : IsNear c.args.stored = record { low = c.requires.low; high = c.requires.high } in
    let there : option_eq int_eq c.args.self.now.blank (Some c.args.stored) ≡ false =
    subst (λ x. option_eq int_eq c.args.self.now.blank (Some x) ≡ false) (read_near c.args.stored stored) (sym c.eq.ensures ∙ c.if-eq.false) in
    subst (λ (x : Option ℤ). IfSome x (λ v. IsWithin (most_of c.args.self.now.size c.args.self.now.zero c.args.self.now.blank c.args.self.now.limits) v))
    (sym (c.of-else-eq.ensures ∙ ap Some (sum_read c.args.self.now.zero c.args.stored zero stored)))
    (value_near c.args.self.now.size c.args.self.now.zero c.args.self.now.blank c.args.self.now.limits c.args.stored
    (record { low = zero.low; high = zero.high; number_is = c.requires.of_size; there = there })
    (sum_in_range c.args.self.now.limits c.args.self.now.zero c.args.stored c.requires.holds zero stored))
