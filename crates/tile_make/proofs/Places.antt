-- A place that passes the test is one of a tile.
use Rattle.std.proofs.Common.{◌≡◌, ℕ, ◌+◌, ◌%◌, ◌<◌, ◌≤◌, true, ◌&&◌, ◌==◌, ◌⊎◌, inl, inr, arith}
use Rattle.std.specs.Prelude.{nat_le}
use Rattle.std.proofs.lemmas.Bool.{and_parts, eqb-true, leb-true, or_cases}
use Rattle.comp_tree.specs.declared.shape.Shape.{Shape}
use Rattle.tile_make.specs.declared.placing.TilePlace.{TilePlace}
use Rattle.tile_make.specs.Placed.{begins_cells, lies_along, is_tile_place}
use Rattle.tile_make.specs.Told.{IsPlacedWell}

-- along one side
record LiesAlong (from count core_from core_count side : ℕ) : Type 0 where
  low : from ≤ core_from
  high : core_from + core_count ≤ from + count
  end : from + count ≤ side

along : (from count core_from core_count side : ℕ) → lies_along from count core_from core_count side ≡ true → LiesAlong from count core_from core_count side
unfolding lies_along
along from count core_from core_count side h =
    let both = and_parts (nat_le from core_from) (nat_le (core_from + core_count) (from + count) && nat_le (from + count) side) h in
    let rest = and_parts (nat_le (core_from + core_count) (from + count)) (nat_le (from + count) side) both.1 in
    record {
      low = leb-true from core_from both.0;
      high = leb-true (core_from + core_count) (from + count) rest.0;
      end = leb-true (from + count) side rest.1;
    }

corner : (mesh from : ℕ) → 0 < mesh → begins_cells mesh from ≡ true → from % mesh ≡ 0
unfolding begins_cells
corner mesh from some h = go (or_cases (mesh == 0) (from % mesh == 0) h)
  where
    go : (mesh == 0 ≡ true) ⊎ (from % mesh == 0 ≡ true) → from % mesh ≡ 0
    go (inl none) = let e : mesh ≡ 0 = eqb-true mesh 0 none in absurd (omega (arith, some, e))
    go (inr k) = eqb-true (from % mesh) 0 k

pub well_placed : (place : TilePlace) (shape : Shape) (mesh : ℕ) → is_tile_place place shape mesh ≡ true → IsPlacedWell place shape mesh
unfolding is_tile_place
well_placed place shape mesh h = record {
  inside = record { columns = across.end; rows = down.end };
  core = record { left = across.low; right = across.high; top = down.low; bottom = down.high };
  on_mesh = λ some. record { columns = corner mesh place.left some corners.0; rows = corner mesh place.top some corners.1 };
}
  where
    halves : ((begins_cells mesh place.left && begins_cells mesh place.top) ≡ true)
        × ((lies_along place.left shape.width place.core.left place.core.shape.width place.whole.width
        && lies_along place.top shape.height place.core.top place.core.shape.height place.whole.height) ≡ true)
    halves = and_parts (begins_cells mesh place.left && begins_cells mesh place.top)
        (lies_along place.left shape.width place.core.left place.core.shape.width place.whole.width
        && lies_along place.top shape.height place.core.top place.core.shape.height place.whole.height) h

    corners : (begins_cells mesh place.left ≡ true) × (begins_cells mesh place.top ≡ true)
    corners = and_parts (begins_cells mesh place.left) (begins_cells mesh place.top) halves.0

    sides : (lies_along place.left shape.width place.core.left place.core.shape.width place.whole.width ≡ true)
        × (lies_along place.top shape.height place.core.top place.core.shape.height place.whole.height ≡ true)
    sides = and_parts (lies_along place.left shape.width place.core.left place.core.shape.width place.whole.width)
        (lies_along place.top shape.height place.core.top place.core.shape.height place.whole.height) halves.1

    across : LiesAlong place.left shape.width place.core.left place.core.shape.width place.whole.width
    across = along place.left shape.width place.core.left place.core.shape.width place.whole.width sides.0

    down : LiesAlong place.top shape.height place.core.top place.core.shape.height place.whole.height
    down = along place.top shape.height place.core.top place.core.shape.height place.whole.height sides.1
