use Rattle.std.proofs.Common.{◌≡◌, ◌+◌, ◌-◌, ◌<◌, ℕ, ℤ, pos, length, ◌+ℤ◌, ◌*ℤ◌, sym, ap, subst, ◌∙◌, arith}
use Rattle.std.proofs.lemmas.Int.{to_z-of_z}
use Rattle.std.specs.Prelude.{◌-ℤ◌, Option, IfSome, slice_set}
use Rattle.std.specs.Option.{option_map}
use mir.Syntax.{w64}
use Rattle.comp_tree.specs.Limits.{IsInHalfRange}
use Rattle.mesh_background.specs.declared.slope.Mixed.{Mixed}
use Rattle.mesh_background.specs.Lessened.{IsInHalfRangeFrom, IsLessened}
use Rattle.mesh_background.specs.Slopes.{in_parts, steps_on}
use Rattle.mesh_background.proofs.Fitting.{kept}
use Rattle.mesh_background.proofs.Slopes.{mixed-is, steps-more, no-steps}
use Rattle.mesh_background.proofs.Lessening.{lessened-none, lessened-more, half_from-later, half_from-at}
use Rattle.mesh_background.proofs.Residuals.{half-fits}
use Rattle.mesh_background.proofs.Differences.{pixel-read, lessened-set}
use Rattle.mesh_background.proofs.subtraction.lessen_slope.Goals as goal

floor-is-on : (parts k : ℕ) (level step at : Mixed) → at.rest < parts → in_parts parts at ≡ in_parts parts level +ℤ pos k *ℤ in_parts parts step
    → at.floor ≡ steps_on parts level step k
floor-is-on parts k level step at few e = mixed-is parts at (in_parts parts level +ℤ pos k *ℤ in_parts parts step) few e

floor-half : (parts k : ℕ) (level step at : Mixed) → at.rest < parts → in_parts parts at ≡ in_parts parts level +ℤ pos k *ℤ in_parts parts step
    → IsInHalfRange (steps_on parts level step k)
    → IsInHalfRange at.floor
floor-half parts k level step at few e h = subst (λ (z : ℤ). IsInHalfRange z) (sym (floor-is-on parts k level step at few e)) h

pub loop-x-init : goal.loop-x-init
loop-x-init c = (
  lessened-none c.args.row.now (λ x. steps_on c.args.parts c.args.level c.args.step (x - c.args.first)) c.args.first,
  no-steps (in_parts c.args.parts c.args.level) (in_parts c.args.parts c.args.step) (c.args.first - c.args.first) (omega arith),
  c.requires.rest,
)

pub lessened-requires-clause-number : goal.lessened-requires-clause-number
lessened-requires-clause-number c =
    let h = c.loop-x.invariant in
    let low : _ = c.loop-x.auto.x in
    let lt : c.loop-x.x - c.args.first < c.args.end - c.args.first = omega (arith, c.loop-x-test.true, low) in
    let half : IsInHalfRange c.loop-x.at.floor =
    floor-half c.args.parts (c.loop-x.x - c.args.first) c.args.level c.args.step c.loop-x.at h.2 h.1 (c.requires.levels (c.loop-x.x - c.args.first) lt) in
    subst (λ (z : ℤ). IsInHalfRange z) (sym (to_z-of_z w64 c.loop-x.at.floor (half-fits c.loop-x.at.floor half))) half

pub lessened-requires-clause-in_range : goal.lessened-requires-clause-in_range
lessened-requires-clause-in_range c =
    let h = c.loop-x.invariant in
    let low : _ = c.loop-x.auto.x in
    let from : IsInHalfRangeFrom c.loop-x.x c.loop-x.row =
    half_from-later c.args.row.now c.loop-x.row (λ x. steps_on c.args.parts c.args.level c.args.step (x - c.args.first)) c.args.first c.loop-x.x
    c.args.first c.requires.in_range h.0 low in
    let inside : c.loop-x.x < length c.loop-x.row = omega (arith, c.loop-x-test.true, c.requires.within, h.0.one_each) in
    subst (λ (o : Option ℤ). IfSome o (λ v. IsInHalfRange v)) (sym (pixel-read c.loop-x.row c.loop-x.x c.index-row-x.result inside c.index-row-x.is))
    (half_from-at c.loop-x.row c.loop-x.x c.loop-x.x from (omega arith))

pub plus-at-requires-clause-level : goal.plus-at-requires-clause-level
plus-at-requires-clause-level c =
    let h = c.loop-x.invariant in
    let low : _ = c.loop-x.auto.x in
    let lt : c.loop-x.x - c.args.first < c.args.end - c.args.first = omega (arith, c.loop-x-test.true, low) in
    floor-half c.args.parts (c.loop-x.x - c.args.first) c.args.level c.args.step c.loop-x.at h.2 h.1 (c.requires.levels (c.loop-x.x - c.args.first) lt)

pub loop-x-preserved : goal.loop-x-preserved
loop-x-preserved c =
    let h = c.loop-x.invariant in
    let low : _ = c.loop-x.auto.x in
    let by : ℕ → ℤ = λ x. steps_on c.args.parts c.args.level c.args.step (x - c.args.first) in
    let lt : c.loop-x.x - c.args.first < c.args.end - c.args.first = omega (arith, c.loop-x-test.true, low) in
    let half : IsInHalfRange c.loop-x.at.floor =
    floor-half c.args.parts (c.loop-x.x - c.args.first) c.args.level c.args.step c.loop-x.at h.2 h.1 (c.requires.levels (c.loop-x.x - c.args.first) lt) in
    let inside : c.loop-x.x < length c.loop-x.row = omega (arith, c.loop-x-test.true, c.requires.within, h.0.one_each) in
    let one : IsLessened c.loop-x.row (λ _. kept w64 c.loop-x.at.floor) c.loop-x.x (c.loop-x.x + 1) (slice_set c.loop-x.row c.loop-x.x c.lessened.result) =
    lessened-set c.loop-x.row c.loop-x.x (kept w64 c.loop-x.at.floor) c.lessened.result inside (c.lessened.ensures
    ∙ ap (option_map (λ v. v -ℤ kept w64 c.loop-x.at.floor)) (pixel-read c.loop-x.row c.loop-x.x c.index-row-x.result inside c.index-row-x.is)) in
    let is =
    to_z-of_z w64 c.loop-x.at.floor (half-fits c.loop-x.at.floor half)
    ∙ floor-is-on c.args.parts (c.loop-x.x - c.args.first) c.args.level c.args.step c.loop-x.at h.2 h.1 in (
      lessened-more c.args.row.now c.loop-x.row (slice_set c.loop-x.row c.loop-x.x c.lessened.result) by (λ _. kept w64 c.loop-x.at.floor) c.args.first
          c.loop-x.x (c.loop-x.x + 1) h.0 one low (omega arith)
          (λ x from to. let same : c.loop-x.x ≡ x = omega (arith, from, to) in is ∙ ap by same),
      c.plus-at.ensures.sum
          ∙ steps-more (c.loop-x.x - c.args.first) (c.loop-x.x + 1 - c.args.first) (in_parts c.args.parts c.loop-x.at) (in_parts c.args.parts c.args.level)
          (in_parts c.args.parts c.args.step) h.1 (omega (arith, low)),
      c.plus-at.ensures.rest,
    )
