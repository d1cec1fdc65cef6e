use Rattle.std.proofs.Common.{◌≡◌, ◌-◌, ◌++◌, map}
use Rattle.std.specs.List.{range_with_len}
use Rattle.comp_tree.specs.Raster.{value_at}
use Rattle.comp_tree.specs.Stored.{shown_values}
use Rattle.comp_tree.proofs.pixels.push_shown.Given as goal

abbrev pub invariant-loop-p : goal.invariant-loop-p
invariant-loop-p l =
    l.kept.items ≡ l.fn.kept.items ++ map (value_at (shown_values l.pixels l.marks)) (range_with_len l.first (l.p - l.first))
