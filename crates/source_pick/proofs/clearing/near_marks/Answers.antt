use Rattle.std.proofs.Common.{◌≡◌, ◌∙◌, ℕ, ℤ, false, map, replicate, sym, ap, subst, arith, w64}
use Rattle.std.proofs.lemmas.Int.{to_z-of_z}
use Rattle.std.proofs.lemmas.Result.{IfOk-from_err}
use Rattle.comp_tree.specs.Raster.{pixels}
use Rattle.node_sums.proofs.Exported.{take_front}
use Rattle.source_pick.specs.Locality.{is_near_high}
use Rattle.source_pick.proofs.clearing.near_marks.Goals as goal

pub overflow_cast-pixels : goal.overflow_cast-pixels
overflow_cast-pixels g c = record { fits = omega (arith, c.pixels.type_inv) }

pub returns-in_err-marks : goal.returns-in_err-marks
returns-in_err-marks g c = IfOk-from_err _ _ c.from_residual.ensures.0

pub mark_bands-requires-clause-some : goal.mark_bands-requires-clause-some
mark_bands-requires-clause-some g c = λ κs l. c.requires

pub mark_bands-requires-clause-blank : goal.mark_bands-requires-clause-blank
mark_bands-requires-clause-blank g c = λ κs l.
    c.deref_mut.ensures.value ∙ c.in_ok-marks.ensures
    ∙ ap (λ (n : ℕ). replicate n false) (c.pixels.ensures.product ∙ sym c.shape.ensures.pixels)

pub returns : goal.returns
returns g c =
    take_front c.mark_bands.new.marks _ _ (c.mark_bands.auto.marks ∙ c.deref_mut.ensures.len)
    ∙ subst (λ (h : ℤ). c.mark_bands.new.marks ≡ map (is_near_high c.args.plane.now c.args.connect h) (pixels c.args.plane.now))
    (to_z-of_z w64 c.args.threshold c.ranges.threshold) c.mark_bands.ensures
