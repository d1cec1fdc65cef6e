use Rattle.std.proofs.Common.{◌≡◌, ◌≤◌, length, map, take}
use Rattle.std.specs.List.{All}
use Rattle.comp_tree.specs.declared.shape.Connect.{Connect}
use Rattle.comp_tree.specs.Raster.{Raster}
use Rattle.comp_tree.specs.Components.{tree_of}
use Rattle.node_sums.specs.Sums.{sums_of}
use Rattle.source_pick.specs.Catalogue.{catalogue_of}
use Rattle.tile_join.specs.Tiles.{IsWritableRow}
use Rattle.tile_make.specs.TileOf.{own_of}
use Rattle.tile_make.proofs.rows.own_rows.Given as goal

abbrev pub invariant-loop-i : goal.invariant-loop-i
invariant-loop-i l =
    ((plane : Raster) (connect : Connect) → l.tree ≡ tree_of plane connect → l.sums ≡ map (sums_of plane connect) l.picked
    → l.rows.items ≡ own_of l.place l.tree.shape (take l.i (catalogue_of plane connect l.picked)))
    × All IsWritableRow l.rows.items × (length l.rows.items ≤ l.i)
