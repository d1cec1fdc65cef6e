-- Model: what the words of `tile` ask of an input: the image of a window.
use Rattle.std.specs.Prelude.{ℕ, ◌==◌, ◌&&◌, Bool, true, List, [], Result, Ok, Err, if◌then◌else◌}
use Rattle.comp_tree.specs.declared.shape.Shape.{Shape}
use Rattle.comp_tree.specs.Raster.{Raster}
use Rattle.mesh_background.specs.Residuals.{residual_with}
use Rattle.source_pick.specs.Catalogue.{catalogue}
use Rattle.source_pick.specs.Segmentation.{segmentation}
use Rattle.orders.specs.declared.words.Usage.{Usage as AtFault}
use Rattle.pixel_plane.specs.declared.limits.Limits.{Limits}
use Rattle.pixel_plane.specs.declared.input_fault.Fault.TheVariants.{ShapeDiffers}
use Rattle.pixel_plane.specs.Verdicts.{Verdict, image, verdict_on, taken_for}
use Rattle.pixel_plane.specs.Streams.{stop_of, memory_at_verdict}
use Rattle.run_relation.specs.declared.ends.End.TheVariants.{Done, Refused}
use Rattle.run_relation.specs.Answers.{end_of}
use Rattle.run_relation.specs.Headline.{Answer, Asked, asked_nothing}
use Rattle.tile_make.specs.TileOf.{own_of, frame_at, open_of_tile}
use Rattle.tile_file.specs.TileFiles.{tile_hdus}
use Rattle.tile_words.specs.declared.words.TileOrder.{TileOrder}
use Rattle.tile_words.specs.TileWords.{tile_order_of}

-- the bytes of the tile that an order makes of the image of its window: its rows and its map are those of the image's residual
unfoldable pub tile_output : TileOrder → Raster → List ℕ
tile_output t window =
    let residual = residual_with t.empty window t.order.mesh t.order.flat in
    tile_hdus t.place.whole (frame_at t.place.left t.place.top window.shape) t.place.core (open_of_tile t.order t.empty t.choice t.place window)
    (own_of t.place window.shape (catalogue residual t.order.connect t.choice)) (segmentation residual t.order.connect t.choice)

-- an image has the window's shape
abbrev pub has_window_shape : TileOrder → Shape → Bool
has_window_shape t shape = (shape.width == t.window.width) && (shape.height == t.window.height)

-- what is answered to the verdict on the input's bytes: an image of another shape than the window's is refused
abbrev pub tile_answer : TileOrder → Verdict → Answer
tile_answer t (image plane head end) =
    if has_window_shape t plane.shape then record { end = Done; output = tile_output t plane; taken = end }
    else record { end = Refused ShapeDiffers; output = []; taken = end }
tile_answer t found = record { end = end_of (stop_of found); output = []; taken = taken_for found }

-- the image of the HDU that the order names is read
abbrev pub asked_for_tile : Limits → TileOrder → Asked
asked_for_tile limits t = record {
  has_order = true;
  reads = true;
  answer = λ bytes. tile_answer t (verdict_on limits bytes t.order.hdu);
  memory_at = λ bytes. memory_at_verdict (verdict_on limits bytes t.order.hdu);
}

abbrev pub asked_by_tile : Limits → Result TileOrder AtFault → Asked
asked_by_tile limits (Err usage) = asked_nothing usage
asked_by_tile limits (Ok t) = asked_for_tile limits t

-- what any words ask of `tile`, where images have these limits
abbrev pub asked_of_tile : Limits → List (List ℕ) → Asked
asked_of_tile limits words = asked_by_tile limits (tile_order_of limits.pixels words)
