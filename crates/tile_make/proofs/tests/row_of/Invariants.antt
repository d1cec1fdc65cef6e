use Rattle.std.proofs.Common.{◌^◌}
use Rattle.comp_tree.specs.Raster.{HasValuesWithin}
use Rattle.tile_make.proofs.tests.row_of.Given as goal

abbrev pub invariant-loop-value : goal.invariant-loop-value
invariant-loop-value l = HasValuesWithin (2 ^ 29) l.pixels.items
