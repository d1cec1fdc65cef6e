use Rattle.std.proofs.Common.{◌≡◌, map, take}
use Rattle.comp_tree.specs.declared.shape.Connect.{Connect}
use Rattle.comp_tree.specs.Raster.{Raster}
use Rattle.node_sums.specs.Sums.{sums_of}
use Rattle.source_pick.specs.Passes.{with_sums}
use Rattle.source_pick.proofs.picking.placed_sources.Given as goal

abbrev pub invariant-loop-i : goal.invariant-loop-i
invariant-loop-i l = (r : Raster) (connect : Connect) → l.sums ≡ map (sums_of r connect) l.nodes
    → l.placed.items ≡ map (with_sums r connect) (take l.i l.nodes)
