-- Whether one of the first k pixels has at least the value.
use Rattle.std.proofs.Common.{◌≡◌}
use Rattle.std.specs.List.{list_any, range_with_len}
use Rattle.comp_tree.specs.Raster.{at_least, value_at}
use Rattle.comp_tree.proofs.pixels.Pixels.any_of_each.Given as goal

abbrev pub invariant-loop-k : goal.invariant-loop-k
invariant-loop-k l = l.any ≡ list_any (λ p. at_least l.bound (value_at l.self p)) (range_with_len l.first l.k)
