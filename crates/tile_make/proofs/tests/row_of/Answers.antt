use Rattle.std.proofs.Common.{◌^◌, ◌∙◌, subst, sym}
use Rattle.comp_tree.specs.Raster.{HasValuesWithin}
use Rattle.mesh_background.proofs.Exported.{half_range-push, half_range-of}
use Rattle.tile_make.proofs.tests.row_of.Goals as goal

pub loop-value-preserved : goal.loop-value-preserved
loop-value-preserved c =
    subst (HasValuesWithin (2 ^ 29)) (sym c.in_ok-push.ensures.items)
    (half_range-push (2 ^ 29) c.loop-value.pixels.items c.in_ok-pixel.pixel c.loop-value.invariant c.in_ok-pixel.ensures)

pub returns-in-Some : goal.returns-in-Some
returns-in-Some c =
    half_range-of c.in_ok-shape.shape c.deref.result.now c.in-Some.plane (sym (c.in_ok-plane.ensures) ∙ c.in-Some.is)
    (subst (HasValuesWithin (2 ^ 29)) (sym c.deref.ensures.value) c.loop-value.invariant)
