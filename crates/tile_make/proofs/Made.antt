-- A tile that tells what was found in a window's plane is one that is made of the image.
use Rattle.std.proofs.Common.{◌≡◌, ℕ, ◌+◌, ◌*◌, ◌<◌, Bool, true, false, cond, not, List, [], ◌∷◌, length, map, refl, sym, ◌∙◌, ap, subst, arith, inl, Option, Some, None}
use Rattle.std.specs.Prelude.{IsTrue, IfSome, ℤ, Contains, filter}
use Rattle.std.specs.List.{list_any}
use Rattle.std.proofs.lemmas.Bool.{and_parts, or_left, true≢false}
use Rattle.std.proofs.lemmas.List.{length-map}
use Rattle.std.proofs.lemmas.List.FromFn.{get_or-map-range_with_len, length-range_with_len}
use Rattle.std.proofs.lemmas.Nat.{mul-add-lt}
use Rattle.lemmas.proofs.Exported.{any_from_among, among_of, contains_from_among}
use Rattle.comp_tree.specs.declared.shape.Connect.{Connect}
use Rattle.comp_tree.specs.declared.shape.Shape.{Shape}
use Rattle.comp_tree.specs.Raster.{Raster, IsPlane, pixels, value_at, at_least, is_at_least, is_defined}
use Rattle.comp_tree.specs.declared.tree.NodeRow.{NodeRow}
use Rattle.comp_tree.specs.Windows.{Window, Box, IsInside, in_whole, is_in_box, seen_through}
use Rattle.comp_tree.proofs.Exported.{AlikeAbove, below_from_defined, defined_from_at_least, seen-length, seen-shape}
use Rattle.mesh_background.specs.Mesh.{cells_along, cell_count, mesh_cell_of}
use Rattle.mesh_background.specs.Residuals.{residual_with}
use Rattle.mesh_background.specs.Windows.{HasDefinedCellsIn}
use Rattle.mesh_background.proofs.Exported.{residual_shape}
use Rattle.comp_tree.specs.Components.{tree_of}
use Rattle.node_sums.specs.declared.outline.Outline.{Outline}
use Rattle.node_sums.specs.Outlines.{outlines_in}
use Rattle.source_pick.specs.declared.choice.Choice.{Choice}
use Rattle.source_pick.specs.declared.catalogue.CatRow.{CatRow}
use Rattle.source_pick.specs.Catalogue.{catalogue, moved_row}
use Rattle.source_pick.specs.Locality.{HaveSameSources, is_beside_high, is_near_high, kept}
use Rattle.source_pick.proofs.Exported.{shape-kept}
use Rattle.tile_laws.specs.declared.extents.Extent.{Extent}
use Rattle.tile_laws.specs.Clear.{clear_box, IsBoxWithin, IsSureBox}
use Rattle.tile_laws.specs.Extents.{box_extent, extent_box}
use Rattle.tile_laws.specs.Final.{LiesInABox}
use Rattle.tile_laws.specs.Pieces.{DetectionChoice, Piece, searched, detected, mapped, first_pixel, AnswersForCore}
use Rattle.tile_laws.specs.Opening.{holds_box, open_extents}
use Rattle.tile_laws.proofs.Exported.{open_alike, within_test_is_exact}
use Rattle.orders.specs.declared.words.Order.{Order}
use Rattle.tile_join.specs.declared.tiles.Frame.{Frame}
use Rattle.tile_join.specs.declared.tiles.TileCatalogue.{TileCatalogue}
use Rattle.tile_join.specs.Tiles.{window_of, is_in_frame}
use Rattle.tile_join.specs.Made.{own_rows, is_known_of, known_piece_of, IsTileMade}
use Rattle.tile_make.specs.declared.placing.TilePlace.{TilePlace}
use Rattle.tile_make.specs.Placed.{window_of_place, detection_of}
use Rattle.tile_make.specs.TileOf.{core_box, frame_at, left_open, own_of, sure_extent_of, IsTileOfWindow}
use Rattle.tile_make.specs.Told.{MakingLaws, HasNoEmptyCell, IsPlacedWell, IsSureExtent, IsTold}

-- ---- the plane that is kept

near_itself : (s : Raster) (connect : Connect) (h : ℤ) (p : ℕ) → IsTrue (is_at_least s h p) → is_near_high s connect h p ≡ true
unfolding is_near_high
near_itself s connect h p high = or_left (is_at_least s h p) (is_beside_high s connect h p) high

-- it has the same pixels of at least the threshold
alike_kept : (s : Raster) (connect : Connect) (h : ℤ) → AlikeAbove s (kept s connect h) h
unfolding kept pixels
alike_kept s connect h = record {
  width = refl;
  size = sym size;
  one = λ p high. sym (read p (below_from_defined s p (defined_from_at_least s h p high)) ∙ ap (λ b. cond b (value_at s.values p) None) (near p high));
  other = other;
}
  where
    size : length (map (λ p. cond (is_near_high s connect h p) (value_at s.values p) None) (pixels s)) ≡ length s.values
    size = length-map (pixels s) (λ p. cond (is_near_high s connect h p) (value_at s.values p) None) ∙ length-range_with_len 0 (length s.values)

    read : (p : ℕ) → p < length s.values → value_at (kept s connect h).values p ≡ cond (is_near_high s connect h p) (value_at s.values p) None
    read p l = get_or-map-range_with_len (λ q. cond (is_near_high s connect h q) (value_at s.values q) None) 0 (length s.values) p p None l (omega arith)

    near : (p : ℕ) → IsTrue (is_at_least s h p) → is_near_high s connect h p ≡ true
    near p high = near_itself s connect h p high

    other : (p : ℕ) → IsTrue (is_at_least (kept s connect h) h p) → value_at s.values p ≡ value_at (kept s connect h).values p
    other p high = go (is_near_high s connect h p) (read p inside) (subst (λ v. at_least h v ≡ true) (read p inside) high)
      where
        inside : p < length s.values
        inside = omega (arith, size, below_from_defined (kept s connect h) p (defined_from_at_least (kept s connect h) h p high))

        go : (b : Bool) → value_at (kept s connect h).values p ≡ cond b (value_at s.values p) None → at_least h (cond b (value_at s.values p) None) ≡ true
            → value_at s.values p ≡ value_at (kept s connect h).values p
        go true e k = sym e
        go false e k = absurd (true≢false (sym k))

-- ---- the background

-- each cell that a pixel needs has a defined pixel where all cells have
full_cells : (s : Raster) (w : Window) (flat : Bool) (mesh q : ℕ) → s.shape ≡ w.shape → HasNoEmptyCell s mesh → HasDefinedCellsIn s w flat mesh q
full_cells s w flat mesh q same full c d few_columns few_rows column row = (found.0, found.1, place ∙ found.2)
  where
    columns : ℕ
    columns = cells_along mesh w.shape.width

    below : d * columns + c < cell_count mesh s.shape
    below =
        subst (λ (x : Shape). d * columns + c < cell_count mesh x) (sym same)
        (mul-add-lt d columns c (cells_along mesh w.shape.height) few_rows few_columns)

    found : (b : ℕ) × IsTrue (is_defined s b) × (mesh_cell_of mesh s.shape.width b ≡ d * columns + c)
    found = full (d * columns + c) below

    place : mesh_cell_of mesh w.shape.width found.0 ≡ mesh_cell_of mesh s.shape.width found.0
    place = ap (λ (x : Shape). mesh_cell_of mesh x.width found.0) (sym same)

-- ---- the tile

-- rows that are moved and picked, from what that depends on
own_from : (place : TilePlace) (shape : Shape) (width : ℕ) (frame core : Frame) (rows found : List CatRow) (d : DetectionChoice) (seen : Raster)
    → place.whole.width ≡ width → core ≡ place.core → window_of frame ≡ window_of_place place shape → rows ≡ own_of place shape found → found ≡ detected d seen
    → rows ≡ own_rows d width frame core seen
unfolding own_of own_rows
own_from place shape width frame core rows found d seen width_is core_is window_is rows_are found_is =
    rows_are
    ∙ ap (picked place.whole.width place.core (window_of_place place shape)) found_is
    ∙ ap (λ (w : Window). picked place.whole.width place.core w (detected d seen)) (sym window_is)
    ∙ ap (λ (c : Frame). picked place.whole.width c (window_of frame) (detected d seen)) (sym core_is)
    ∙ ap (λ (n : ℕ). picked n core (window_of frame) (detected d seen)) width_is
  where
    picked : ℕ → Frame → Window → List CatRow → List CatRow
    picked n c w xs = filter (λ row. is_in_frame n c (first_pixel n row)) (map (moved_row w) xs)

-- the boxes that are left open of two planes with the same pixels of at least the threshold
left_alike : (threshold : ℤ) (place : TilePlace) (sure : Option Extent) (connect : Connect) (r s : Raster) → IsPlane r → IsPlane s → AlikeAbove r s threshold
    → left_open threshold place sure (tree_of r connect).rows (outlines_in r connect) ≡ left_open threshold place sure (tree_of s connect).rows (outlines_in s connect)
unfolding left_open
left_alike threshold place None connect r s one other alike = refl
left_alike threshold place (Some sure) connect r s one other alike =
    ap (λ (boxes : List Extent). cond (holds_box (extent_box sure) (core_box place)) boxes (box_extent (core_box place) ∷ []))
    (open_alike r s connect threshold place.left place.top place.whole (core_box place) (extent_box sure) one other alike)

left_open-none : (threshold : ℤ) (place : TilePlace) (rows : List NodeRow) (outlines : List Outline)
    → left_open threshold place None rows outlines ≡ box_extent (core_box place) ∷ []
unfolding left_open
left_open-none threshold place rows outlines = refl

module _ (laws : MakingLaws) (order : Order) (empty : Option ℤ) (choice : Choice) (place : TilePlace) (image k : Raster) (sure : Option Extent) (t : TileCatalogue)
    (well : IsPlacedWell place image.shape order.mesh)
    (sure_is : IfSome sure (λ box. IsSureExtent empty order.flat order.mesh image place box))
    (k_is : k ≡ kept (residual_with empty image order.mesh order.flat) order.connect choice.threshold)
    (same : HaveSameSources (residual_with empty image order.mesh order.flat) k order.connect choice)
    (told : IsTold k order.connect choice place sure t)
    (r : Raster) (plane : IsPlane r) (shape : r.shape ≡ place.whole) (seen : seen_through (window_of_place place image.shape) r ≡ image) where
  abbrev d : DetectionChoice
  d = detection_of order empty choice

  abbrev w : Window
  w = window_of_place place image.shape

  abbrev left : Raster
  left = residual_with empty image order.mesh order.flat

  inside : IsInside r.shape w
  inside = subst (λ (s : Shape). IsInside s w) (sym shape) well.inside

  image_plane : IsPlane image
  image_plane = subst IsPlane seen (seen-length w r ∙ sym (ap (λ (x : Shape). x.width * x.height) (seen-shape w r)))

  k_shape : k.shape ≡ image.shape
  k_shape = ap (λ (x : Raster). x.shape) k_is ∙ shape-kept left order.connect choice.threshold ∙ residual_shape empty image order.mesh order.flat

  left_shape : left.shape ≡ image.shape
  left_shape = residual_shape empty image order.mesh order.flat

  window_is : window_of t.window ≡ w
  window_is = ap window_of told.window ∙ ap (window_of_place place) k_shape

  found_is : detected d image ≡ detected d (seen_through (window_of t.window) r)
  found_is = ap (detected d) (sym seen) ∙ ap (λ (v : Window). detected d (seen_through v r)) (sym window_is)

  -- a box of this kind is sure
  box_sure : (box : Extent) → IsSureExtent empty order.flat order.mesh image place box → IsSureBox empty r w order.flat order.mesh (extent_box box)
  box_sure box is = by order.flat refl
    where
      at_whole : extent_box box ≡ clear_box order.flat order.mesh r.shape w
      at_whole = is.box ∙ ap (λ (s : Shape). clear_box order.flat order.mesh s w) (sym shape)

      clear : IsBoxWithin (clear_box order.flat order.mesh r.shape w) (extent_box box)
      clear = subst (λ (b : Box). IsBoxWithin b (extent_box box)) at_whole
          (record { left = omega arith; right = omega arith; top = omega arith; bottom = omega arith })

      by : (flat : Bool) → order.flat ≡ flat → IsSureBox empty r w order.flat order.mesh (extent_box box)
      by true e =
          subst (λ (f : Bool). IsSureBox empty r w f order.mesh (extent_box box)) (sym e)
          (laws.flat empty r w order.mesh (extent_box box) well.on_mesh
          (subst (λ (f : Bool). IsBoxWithin (clear_box f order.mesh r.shape w) (extent_box box)) e clear))
      by false e = record {
        clear = clear;
        defined = λ none q some in_box defined.
            full_cells (seen_through w r) w order.flat order.mesh q (seen-shape w r)
            (subst (λ (s : Raster). HasNoEmptyCell s order.mesh) (sym seen) (is.full none e some));
      }

  abbrev known : ℕ → Bool
  known = is_known_of r.shape.width t.core t.open.items

  open_is : t.open.items ≡ left_open choice.threshold place sure (tree_of left order.connect).rows (outlines_in left order.connect)
  open_is =
      told.open ∙ sym (left_alike choice.threshold place sure order.connect left k left_plane told.plane
      (subst (λ (x : Raster). AlikeAbove left x choice.threshold) (sym k_is) (alike_kept left order.connect choice.threshold)))
    where
      left_plane : IsPlane left
      left_plane = laws.residual empty image order.mesh order.flat image_plane

  in_core : (p : ℕ) → IsTrue (known p) → IsTrue (is_in_box r.shape.width (core_box place) p)
  unfolding is_known_of
  in_core p own =
      subst (λ (c : Frame). IsTrue (is_in_frame r.shape.width c p)) told.core
      (and_parts (is_in_frame r.shape.width t.core p) (not (list_any (λ e. is_in_box r.shape.width (extent_box e) p) t.open.items)) own).0

  -- such a pixel lies in none of the boxes
  lies_in_none : (p : ℕ) → IsTrue (known p) → LiesInABox r.shape.width t.open.items p → ⊥
  unfolding is_known_of
  lies_in_none p own lies =
      let none = (and_parts (is_in_frame r.shape.width t.core p) (not (list_any (λ e. is_in_box r.shape.width (extent_box e) p) t.open.items)) own).1 in
      let some = any_from_among (λ e. is_in_box r.shape.width (extent_box e) p) lies.it t.open.items (among_of lies.it t.open.items lies.among) lies.there in
      true≢false (sym none ∙ ap not some)

  -- where the core's own box is left open there is none
  none_known : t.open.items ≡ box_extent (core_box place) ∷ [] → (p : ℕ) → IsTrue (known p) → ⊥
  none_known alone p own = lies_in_none p own (record {
    it = box_extent (core_box place);
    among = subst (λ (boxes : List Extent). Contains boxes (box_extent (core_box place))) (sym alone)
        (contains_from_among (box_extent (core_box place)) (box_extent (core_box place) ∷ []) (inl refl));
    there = in_core p own;
  })

  abbrev known_piece : Piece
  known_piece = record { window = w; core = known }

  nothing_known : ((p : ℕ) → IsTrue (known p) → ⊥) → AnswersForCore d r known_piece
  nothing_known none = record {
    inside = inside;
    on_mesh = well.on_mesh;
    core_sure = λ p own. absurd (none p own);
    components = λ q own high. absurd (none (in_whole r.shape.width w q) own);
  }

  -- with a box in which the background is the image's
  answers_by : (extent : Extent) → IsSureExtent empty order.flat order.mesh image place extent
      → t.open.items ≡ left_open choice.threshold place (Some extent) (tree_of left order.connect).rows (outlines_in left order.connect)
      → AnswersForCore d r known_piece
  unfolding left_open
  answers_by extent is boxes = by (holds_box (extent_box extent) (core_box place)) refl
    where
      told_boxes : List Extent
      told_boxes = open_extents choice.threshold (tree_of left order.connect).rows (outlines_in left order.connect) place.left place.top place.whole
          (core_box place) (extent_box extent)

      boxes_of : (b : Bool) → holds_box (extent_box extent) (core_box place) ≡ b → t.open.items ≡ cond b told_boxes (box_extent (core_box place) ∷ [])
      boxes_of b e = boxes ∙ ap (λ (x : Bool). cond x told_boxes (box_extent (core_box place) ∷ [])) e

      by : (b : Bool) → holds_box (extent_box extent) (core_box place) ≡ b → AnswersForCore d r known_piece
      by false e = nothing_known (none_known (boxes_of false e))
      by true e =
          laws.unopened d r known_piece (core_box place) (extent_box extent) plane inside well.on_mesh (box_sure extent is)
          ((within_test_is_exact (extent_box extent) (core_box place)).0 e) in_core
          (λ p own lies. lies_in_none p own (subst (λ (xs : List Extent). LiesInABox r.shape.width xs p) same_boxes lies))
        where
          same_boxes : open_extents choice.threshold (tree_of (searched d (seen_through w r)) order.connect).rows
              (outlines_in (searched d (seen_through w r)) order.connect) w.left w.top r.shape (core_box place) (extent_box extent) ≡ t.open.items
          same_boxes =
              ap (λ (s : Raster). open_extents choice.threshold (tree_of (searched d s) order.connect).rows (outlines_in (searched d s) order.connect)
              w.left w.top r.shape (core_box place) (extent_box extent)) seen
              ∙ ap (λ (s : Shape). open_extents choice.threshold (tree_of left order.connect).rows (outlines_in left order.connect) place.left place.top s
              (core_box place) (extent_box extent)) shape
              ∙ sym (boxes_of true e)

  answers_known : AnswersForCore d r known_piece
  answers_known = by sure refl sure_is
    where
      by : (o : Option Extent) → sure ≡ o → IfSome o (λ box. IsSureExtent empty order.flat order.mesh image place box) → AnswersForCore d r known_piece
      by None e h = nothing_known (none_known (open_is
          ∙ ap (λ (x : Option Extent). left_open choice.threshold place x (tree_of left order.connect).rows (outlines_in left order.connect)) e
          ∙ left_open-none choice.threshold place (tree_of left order.connect).rows (outlines_in left order.connect)))
      by (Some extent) e h =
          answers_by extent h
          (open_is ∙ ap (λ (x : Option Extent). left_open choice.threshold place x (tree_of left order.connect).rows (outlines_in left order.connect)) e)

  piece_is : known_piece ≡ known_piece_of r.shape.width t
  piece_is = ap (λ (v : Window). record { window = v; core = known }) (sym window_is)

  pub tile_made : IsTileMade d r t
  tile_made = record {
    whole = told.whole ∙ sym shape;
    inside = subst (λ (v : Window). IsInside r.shape v) (sym window_is) inside;
    rows = own_from place k.shape r.shape.width t.window t.core t.rows.items (catalogue k order.connect choice) d
        (seen_through (window_of t.window) r) (ap (λ (s : Shape). s.width) (sym shape)) told.core (ap window_of told.window) told.rows
        (sym same.rows ∙ found_is);
    map = told.map ∙ sym same.numbers ∙ ap (mapped d) (sym seen) ∙ ap (λ (v : Window). mapped d (seen_through v r)) (sym window_is);
    answers = subst (AnswersForCore d r) piece_is answers_known;
  }

-- ---- the tile, told to the last number

pub tile_of_window : (order : Order) (empty : Option ℤ) (choice : Choice) (place : TilePlace) (image k : Raster) (sure : Option Extent) (t : TileCatalogue)
    → sure ≡ sure_extent_of empty order.flat order.mesh place image → k ≡ kept (residual_with empty image order.mesh order.flat) order.connect choice.threshold
    → HaveSameSources (residual_with empty image order.mesh order.flat) k order.connect choice → IsTold k order.connect choice place sure t
    → IsTileOfWindow order empty choice place image t
tile_of_window order empty choice place image k sure t sure_is k_is same told = record {
  whole = told.whole;
  window = told.window ∙ ap (frame_at place.left place.top) k_shape;
  core = told.core;
  rows =
      told.rows ∙ ap (λ (s : Shape). own_of place s (catalogue k order.connect choice)) k_shape ∙ ap (own_of place image.shape) (sym same.rows);
  map = told.map ∙ sym same.numbers;
  «open» =
      told.open
      ∙ ap (λ (o : Option Extent). left_open choice.threshold place o (tree_of k order.connect).rows (outlines_in k order.connect)) sure_is
      ∙ sym (left_alike choice.threshold place (sure_extent_of empty order.flat order.mesh place image) order.connect left k left_plane told.plane alike);
}
  where
    left : Raster
    left = residual_with empty image order.mesh order.flat

    k_left : k.shape ≡ left.shape
    k_left = ap (λ (x : Raster). x.shape) k_is ∙ shape-kept (residual_with empty image order.mesh order.flat) order.connect choice.threshold

    k_shape : k.shape ≡ image.shape
    k_shape = k_left ∙ residual_shape empty image order.mesh order.flat

    alike : AlikeAbove left k choice.threshold
    alike = subst (λ (x : Raster). AlikeAbove left x choice.threshold) (sym k_is) (alike_kept left order.connect choice.threshold)

    left_plane : IsPlane left
    left_plane = alike.size ∙ told.plane ∙ ap (λ (s : Shape). s.width * s.height) k_left
