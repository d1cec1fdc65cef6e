use Rattle.std.proofs.Common.{◌≡◌, ◌-◌, max, map}
use Rattle.std.specs.List.{range_with_len, flat_map}
use Rattle.mesh_background.specs.Smoothing.{number_in_grid, places_around}
use Rattle.mesh_background.proofs.smoothing.gather_around.Given as goal

abbrev pub invariant-loop-near : goal.invariant-loop-near
invariant-loop-near l =
    l.around.items ≡ flat_map (λ j. map (λ k. number_in_grid l.values l.columns k j) (places_around l.columns l.column))
    (range_with_len (max l.row 1 - 1) (l.near - (max l.row 1 - 1)))
