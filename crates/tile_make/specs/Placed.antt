-- Model: where a tile lies in an image, and what is asked of it.
use Rattle.std.specs.Prelude.{ℕ, ◌+◌, ◌%◌, ◌&&◌, ◌||◌, ◌==◌, nat_le, Bool, ℤ, Option}
use Rattle.comp_tree.specs.declared.shape.Shape.{Shape}
use Rattle.comp_tree.specs.Windows.{Window}
use Rattle.source_pick.specs.declared.choice.Choice.{Choice}
use Rattle.source_sheet.specs.Laid.{window_at}
use Rattle.tile_laws.specs.Pieces.{DetectionChoice}
use Rattle.orders.specs.declared.words.Order.{Order}
use Rattle.tile_make.specs.declared.placing.TilePlace.{TilePlace}

-- the window of this shape
abbrev pub window_of_place : TilePlace → Shape → Window
window_of_place place shape = window_at place.left place.top shape

-- along a side: the core lies in the window, and the window in the image
unfoldable pub lies_along : ℕ → ℕ → ℕ → ℕ → ℕ → Bool
lies_along from count core_from core_count side =
    nat_le from core_from && (nat_le (core_from + core_count) (from + count) && nat_le (from + count) side)

-- a column or a row begins cells of the mesh; without a mesh each does
unfoldable pub begins_cells : ℕ → ℕ → Bool
begins_cells mesh corner = (mesh == 0) || (corner % mesh == 0)

-- so it is along both sides, and the window's corner stands on the mesh
unfoldable pub is_tile_place : TilePlace → Shape → ℕ → Bool
is_tile_place place shape mesh =
    (begins_cells mesh place.left && begins_cells mesh place.top)
    && (lies_along place.left shape.width place.core.left place.core.shape.width place.whole.width
    && lies_along place.top shape.height place.core.top place.core.shape.height place.whole.height)

-- what an order that detects asks, where a number may be given for the mesh's cells without a value
abbrev pub detection_of : Order → Option ℤ → Choice → DetectionChoice
detection_of order empty choice = record {
  mesh = order.mesh;
  flat = order.flat;
  empty = empty;
  connect = order.connect;
  choice = choice;
}
