use Rattle.std.proofs.Common.{◌^◌}
use Rattle.comp_tree.specs.Raster.{HasValuesWithin}
use Rattle.mesh_background.proofs.tests.plane_of.Given as goal

abbrev pub invariant-loop-value : goal.invariant-loop-value
invariant-loop-value l = HasValuesWithin (2 ^ 29) l.pixels.items
