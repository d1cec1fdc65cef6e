use Rattle.std.proofs.Common.{◌≡◌, true, length, take}
use Rattle.std.specs.List.{list_all}
use Rattle.comp_tree.specs.Limits.{value_bound}
use Rattle.comp_tree.specs.Raster.{is_pixel_value as may_stand}
use Rattle.comp_tree.proofs.plane.pixels_of.Given as goal

abbrev pub invariant-loop-value : goal.invariant-loop-value
invariant-loop-value l =
    (l.pixels.items ≡ take l.value-index l.values)
    × (list_all (may_stand (value_bound (length l.values))) (take l.value-index l.values) ≡ true)
