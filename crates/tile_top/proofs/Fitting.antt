-- A tile that is made of a window's image can be written, and has the answer's bytes.
use Rattle.std.proofs.Common.{◌≡◌, ◌∙◌, ℕ, ◌≤◌, true, false, List, ap, sym}
use Rattle.std.specs.Prelude.{◌&&◌, ◌==◌}
use Rattle.std.specs.List.{All}
use Rattle.std.proofs.lemmas.Bool.{and_parts, eqb-true, true≢false}
use Rattle.std.proofs.lemmas.List.Elements.{All-weaker}
use Rattle.comp_tree.specs.declared.shape.Shape.{Shape}
use Rattle.comp_tree.specs.Raster.{Raster}
use Rattle.comp_tree.specs.Raster.{Raster}
use Rattle.source_pick.specs.declared.catalogue.CatRow.{CatRow}
use Rattle.tile_laws.specs.declared.extents.Extent.{Extent}
use Rattle.tile_join.specs.declared.tiles.Frame.{Frame}
use Rattle.tile_join.specs.declared.tiles.TileCatalogue.{TileCatalogue}
use Rattle.tile_make.specs.Placed.{lies_along, begins_cells, is_tile_place}
use Rattle.tile_make.specs.TileOf.{IsTileOfWindow, IsStorable}
use Rattle.tile_file.specs.TileFiles.{tile_hdus, tile_bytes, HasEndsWithin, IsTileFile}
use Rattle.tile_words.specs.declared.words.TileOrder.{TileOrder}
use Rattle.tile_top.specs.TileAnswers.{tile_output, has_window_shape}

-- boxes with short sides end within an image
boxes_end : (boxes : List Extent) → All (λ e. (e.columns.to ≤ 65535) × (e.columns.from ≤ 65535) × (e.rows.to ≤ 65535) × (e.rows.from ≤ 65535)) boxes
    → All HasEndsWithin boxes
boxes_end boxes short =
    All-weaker (λ e. (e.columns.to ≤ 65535) × (e.columns.from ≤ 65535) × (e.rows.to ≤ 65535) × (e.rows.from ≤ 65535)) HasEndsWithin
    (λ e ends. record { left = ends.1; right = ends.0; top = ends.3; bottom = ends.2 }) boxes short

-- the tile can be written
pub tile_fits : (t : TileCatalogue) → IsStorable t → IsTileFile t
tile_fits t storable = record {
  boxes = record {
    window_inside = storable.window;
    core_inside = storable.core;
    ends = boxes_end t.open.items storable.boxes;
    few = storable.few_boxes;
  };
  numbers = record { one_each = storable.map_length; small = storable.small };
  rows = record {
    fit = λ k d h. record { columns = storable.rows k d h; whole = storable.whole_rows k d h };
    few = storable.few_rows;
  };
}

same_hdus : (a a' : Shape) (b b' c c' : Frame) (d d' : List Extent) (e e' : List CatRow) (f f' : List ℕ) → a ≡ a' → b ≡ b' → c ≡ c' → d ≡ d' → e ≡ e'
    → f ≡ f' → tile_hdus a b c d e f ≡ tile_hdus a' b' c' d' e' f'
same_hdus a a' b b' c c' d d' e e' f f' p q r s u v = cc

-- its bytes are those of the answer
pub tile_written : (t : TileOrder) (window : Raster) (tile : TileCatalogue) → IsTileOfWindow t.order t.empty t.choice t.place window tile
    → tile_bytes tile ≡ tile_output t window
unfolding tile_output
tile_written t window tile told = same_hdus _ _ _ _ _ _ _ _ _ _ _ _ told.whole told.window told.core told.open told.rows told.map

-- where the image has the window's shape, the place is one of a tile in it, too
pub placed_in_image : (t : TileOrder) (shape : Shape) → has_window_shape t shape ≡ true → is_tile_place t.place t.window t.order.mesh ≡ true
    → is_tile_place t.place shape t.order.mesh ≡ false → ⊥
unfolding is_tile_place
placed_in_image t shape same placed misplaced =
    let parts = and_parts (shape.width == t.window.width) (shape.height == t.window.height) same in
    let width : shape.width ≡ t.window.width = eqb-true shape.width t.window.width parts.0 in
    let height : shape.height ≡ t.window.height = eqb-true shape.height t.window.height parts.1 in
    let place = t.place in
    let mesh = t.order.mesh in
    let within =
    ap (λ w. (begins_cells mesh place.left && begins_cells mesh place.top)
    && (lies_along place.left w place.core.left place.core.shape.width place.whole.width
    && lies_along place.top shape.height place.core.top place.core.shape.height place.whole.height)) width
    ∙ ap (λ h. (begins_cells mesh place.left && begins_cells mesh place.top)
    && (lies_along place.left t.window.width place.core.left place.core.shape.width place.whole.width
    && lies_along place.top h place.core.top place.core.shape.height place.whole.height)) height in
    true≢false (sym placed ∙ sym within ∙ misplaced)
