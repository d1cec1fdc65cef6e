-- A tile has numbers for which a file has room.
use Rattle.std.proofs.Common.{◌≡◌, ℕ, ◌+◌, ◌<◌, ◌≤◌, true, List, arith}
use Rattle.std.specs.Prelude.{nat_le, slice_index}
use Rattle.std.specs.List.{All}
use Rattle.std.proofs.lemmas.Bool.{and_from, le-leb}
use Rattle.std.proofs.lemmas.List.Elements.{All-from_get_or, All-weaker}
use Rattle.comp_tree.specs.declared.shape.Shape.{Shape}
use Rattle.tile_laws.specs.declared.extents.Extent.{Extent}
use Rattle.tile_laws.specs.Extents.{extent_box}
use Rattle.tile_laws.specs.Opening.{IsBoxOf}
use Rattle.tile_join.specs.declared.tiles.Frame.{Frame}
use Rattle.tile_join.specs.Tiles.{is_frame_of}
use Rattle.tile_make.specs.declared.placing.TilePlace.{TilePlace}
use Rattle.tile_make.specs.TileOf.{core_box, frame_at}
use Rattle.tile_make.specs.Told.{IsPlacedWell}

frame_inside : (whole : Shape) (f : Frame) → f.left + f.shape.width ≤ whole.width → f.top + f.shape.height ≤ whole.height → is_frame_of whole f ≡ true
unfolding is_frame_of
frame_inside whole f across along =
    and_from (nat_le (f.left + f.shape.width) whole.width) (nat_le (f.top + f.shape.height) whole.height)
    (le-leb (f.left + f.shape.width) whole.width across) (le-leb (f.top + f.shape.height) whole.height along)

module _ (place : TilePlace) (shape : Shape) (mesh : ℕ) (well : IsPlacedWell place shape mesh) where
  pub window_inside : is_frame_of place.whole (frame_at place.left place.top shape) ≡ true
  window_inside = frame_inside place.whole (frame_at place.left place.top shape) well.inside.columns well.inside.rows

  pub core_inside : is_frame_of place.whole place.core ≡ true
  core_inside =
      frame_inside place.whole place.core (omega (arith, well.inside.columns, well.core.right)) (omega (arith, well.inside.rows, well.core.bottom))

  -- the box of the core lies in the image
  pub core_of : IsBoxOf place.whole (core_box place)
  core_of = record {
    columns = let k : 0 < place.core.shape.width = place.core.shape.within_limits.some_columns in omega (arith, k);
    right = omega (arith, well.inside.columns, well.core.right);
    rows = let k : 0 < place.core.shape.height = place.core.shape.within_limits.some_rows in omega (arith, k);
    bottom = omega (arith, well.inside.rows, well.core.bottom);
  }

-- boxes of an image have short sides
pub short_sides : (whole : Shape) (boxes : List Extent) → All (λ found. IsBoxOf whole (extent_box found)) boxes
    → All (λ e. (e.columns.to ≤ 65535) × (e.columns.from ≤ 65535) × (e.rows.to ≤ 65535) × (e.rows.from ≤ 65535)) boxes
short_sides whole boxes inside =
    All-weaker (λ found. IsBoxOf whole (extent_box found))
    (λ e. (e.columns.to ≤ 65535) × (e.columns.from ≤ 65535) × (e.rows.to ≤ 65535) × (e.rows.from ≤ 65535)) (λ e of. one e of) boxes inside
  where
    one : (e : Extent) → IsBoxOf whole (extent_box e)
        → (e.columns.to ≤ 65535) × (e.columns.from ≤ 65535) × (e.rows.to ≤ 65535) × (e.rows.from ≤ 65535)
    one e of =
        let w : whole.width ≤ 65535 = whole.within_limits.few_columns in
        let h : whole.height ≤ 65535 = whole.within_limits.few_rows in (
          omega (arith, w, of.right),
          omega (arith, w, of.right, of.columns),
          omega (arith, h, of.bottom),
          omega (arith, h, of.bottom, of.rows),
        )

-- numbers that are small at each place are small
pub small_numbers : (numbers : List ℕ) → ((p : ℕ) → slice_index numbers p ≤ 2147483647) → All (λ n. n ≤ 2147483647) numbers
small_numbers numbers few = All-from_get_or (λ n. n ≤ 2147483647) numbers 0 (λ i l. few i)
