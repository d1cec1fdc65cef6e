use Rattle.std.proofs.Common.{◌*◌, ℕ, List, length, map, ◌∙◌, refl, sym, ap, subst}
use Rattle.std.specs.Prelude.{FitsSigned}
use Rattle.std.specs.Int.{w64}
use Rattle.std.specs.List.{All}
use Rattle.std.proofs.lemmas.List.Elements.{All-weaker}
use Rattle.comp_tree.specs.ComponentTree.{ComponentTree}
use Rattle.comp_tree.specs.declared.shape.Shape.{Shape}
use Rattle.comp_tree.specs.Windows.{IsInside}
use Rattle.comp_tree.specs.Components.{tree_of}
use Rattle.comp_tree.proofs.Exported.{shape-of, length-numbers}
use Rattle.node_sums.specs.declared.entry.Sums.{Sums}
use Rattle.node_sums.specs.declared.outline.Outline.{Outline}
use Rattle.node_sums.specs.Sums.{sums_of, AreSumsOfNodes}
use Rattle.node_sums.specs.Outlines.{AreOutlinesOfTree}
use Rattle.node_sums.specs.DisjointNodes.{AreDisjointNodes}
use Rattle.source_pick.specs.Catalogue.{catalogue, catalogue_of, cells_of, FitsColumns}
use Rattle.source_pick.specs.Segmentation.{segmentation, segmentation_of}
use Rattle.tile_join.specs.Tiles.{IsWritableRow}
use Rattle.tile_make.specs.Placed.{window_of_place}
use Rattle.tile_make.specs.TileOf.{frame_at, left_open, own_of}
use Rattle.tile_make.specs.Told.{IsPlacedWell}
use Rattle.tile_make.proofs.Storing.{window_inside, core_inside, core_of, short_sides, small_numbers}
use Rattle.tile_make.proofs.making.tell.Goals as goal

pub open_of-requires-clause-inside : goal.open_of-requires-clause-inside
open_of-requires-clause-inside g c =
    subst (λ (s : Shape). IsInside c.args.place.now.whole (window_of_place c.args.place.now s))
    (sym (ap (λ (x : ComponentTree). x.shape) c.in_ok-tree.ensures ∙ shape-of c.args.plane.now c.args.order.now.connect)) c.requires.placed.inside

pub own_rows-requires-clause-inside : goal.own_rows-requires-clause-inside
own_rows-requires-clause-inside g c =
    subst (λ (s : Shape). IsInside c.args.place.now.whole (window_of_place c.args.place.now s))
    (sym (ap (λ (x : ComponentTree). x.shape) c.in_ok-tree.ensures ∙ shape-of c.args.plane.now c.args.order.now.connect)) c.requires.placed.inside

pub open_of-requires-clause-core : goal.open_of-requires-clause-core
open_of-requires-clause-core g c = core_of c.args.place.now c.args.plane.now.shape c.args.order.now.mesh c.requires.placed

pub open_of-requires-clause-outlines : goal.open_of-requires-clause-outlines
open_of-requires-clause-outlines g c =
    subst (λ (xs : List Outline). AreOutlinesOfTree c.in_ok-tree.tree xs) (sym c.deref.ensures.value) c.in_ok-outlines.ensures.of_tree

pub pick_by_outlines-requires-clause-outlines : goal.pick_by_outlines-requires-clause-outlines
pick_by_outlines-requires-clause-outlines g c =
    subst (λ (xs : List Outline). AreOutlinesOfTree c.in_ok-tree.tree xs) (sym c.deref-2.ensures.value) c.in_ok-outlines.ensures.of_tree

pub pick_by_outlines-requires-clause-of_plane : goal.pick_by_outlines-requires-clause-of_plane
pick_by_outlines-requires-clause-of_plane g c = λ connect is. c.deref-2.ensures.value ∙ c.in_ok-outlines.ensures.exact connect is

pub own_rows-requires-clause-sums : goal.own_rows-requires-clause-sums
own_rows-requires-clause-sums g c =
    subst (λ (xs : List Sums). AreSumsOfNodes c.in_ok-tree.tree c.deref-4.result.now xs) (sym c.deref-3.ensures.value)
    (subst (λ (ns : List ℕ). AreSumsOfNodes c.in_ok-tree.tree ns c.in_ok-picked.picked.sums.items) (sym c.deref-4.ensures.value) c.in_ok-picked.ensures.sums)

pub own_rows-requires-clause-disjoint : goal.own_rows-requires-clause-disjoint
own_rows-requires-clause-disjoint g c = subst (AreDisjointNodes c.in_ok-tree.tree) (sym c.deref-4.ensures.value) c.in_ok-picked.ensures.disjoint

pub returns-clause-told : goal.returns-clause-told
unfolding catalogue segmentation
returns-clause-told g c =
    let plane = c.args.plane.now in
    let connect = c.args.order.now.connect in
    let choice = c.args.choice.now in
    let place = c.args.place.now in
    let tree = c.in_ok-tree.ensures in
    let outlines = c.in_ok-outlines.ensures.exact connect tree in
    let picked = c.in_ok-picked.ensures.exact connect tree in
    let shape = ap (λ (x : ComponentTree). x.shape) tree ∙ shape-of plane connect in
    record {
      plane = c.shape.ensures.pixels ∙ ap (λ (s : Shape). s.width * s.height) c.shape.ensures.same;
      whole = refl;
      window = ap (frame_at place.left place.top) c.shape.ensures.same;
      core = refl;
      rows = c.in_ok-rows.ensures.exact plane connect tree
          (c.deref-3.ensures.value ∙ picked.sums_are ∙ ap (map (sums_of plane connect)) (sym c.deref-4.ensures.value))
          ∙ ap (λ s. own_of place s (catalogue_of plane connect c.deref-4.result.now)) shape
          ∙ ap (λ ns. own_of place plane.shape (catalogue_of plane connect ns)) (c.deref-4.ensures.value ∙ picked.nodes_are);
      map = c.in_ok-map.ensures.exact plane connect tree ∙ ap (segmentation_of plane connect) (c.deref-5.ensures.value ∙ picked.nodes_are);
      «open» = c.in_ok-open.ensures.exact
          ∙ ap (λ (t : ComponentTree). left_open choice.threshold place c.args.sure t.rows c.deref.result.now) tree
          ∙ ap (left_open choice.threshold place c.args.sure (tree_of plane connect).rows) (c.deref.ensures.value ∙ outlines);
    }

pub returns-clause-storable : goal.returns-clause-storable
returns-clause-storable g c =
    let plane = c.args.plane.now in
    let connect = c.args.order.now.connect in
    let place = c.args.place.now in
    let tree = c.in_ok-tree.ensures in
    record {
      window = window_inside place c.shape.result c.args.order.now.mesh
          (subst (λ (s : Shape). IsPlacedWell place s c.args.order.now.mesh) (sym c.shape.ensures.same) c.requires.placed);
      core = core_inside place plane.shape c.args.order.now.mesh c.requires.placed;
      boxes = short_sides place.whole _ c.in_ok-open.ensures.inside;
      few_boxes = c.in_ok-open.ensures.few;
      map_length = c.in_ok-map.ensures.one_each ∙ ap (λ (x : ComponentTree). length x.node_of) tree ∙ length-numbers plane connect
          ∙ c.shape.ensures.pixels;
      small = small_numbers _ c.in_ok-map.ensures.few;
      rows = All-weaker IsWritableRow FitsColumns (λ row k. k.columns) _ c.in_ok-rows.ensures.fit;
      whole_rows = All-weaker IsWritableRow (λ row. All (FitsSigned w64) (cells_of row)) (λ row k. k.whole) _ c.in_ok-rows.ensures.fit;
      few_rows = c.in_ok-rows.ensures.few;
    }
