-- The pixels of a tile's core that lie in none of its open boxes.
use Rattle.std.proofs.Common.{◌≡◌, ℕ, not, List, [], map, sym, ap, subst}
use Rattle.std.specs.Prelude.{IsTrue, filter}
use Rattle.std.specs.List.{list_any}
use Rattle.std.proofs.lemmas.Bool.{and_from}
use Rattle.lemmas.proofs.Exported.{IsAmong, among_from_filter, among_of, contains_from_among}
use Rattle.comp_tree.specs.Windows.{is_in_box, seen_through}
use Rattle.source_pick.specs.declared.catalogue.CatRow.{CatRow}
use Rattle.source_pick.specs.Catalogue.{moved_row}
use Rattle.tile_laws.specs.declared.extents.Extent.{Extent}
use Rattle.tile_laws.specs.Extents.{extent_box}
use Rattle.tile_laws.specs.Final.{OwnRowsAreFinal}
use Rattle.tile_laws.specs.Pieces.{detected, first_pixel}
use Rattle.tile_laws.proofs.Exported.{IsImageOf, image_of}
use Rattle.tile_join.specs.declared.tiles.TileCatalogue.{TileCatalogue}
use Rattle.tile_join.specs.Tiles.{window_of, is_in_frame}
use Rattle.tile_join.specs.Made.{own_rows, is_known_of, known_piece_of}
use Rattle.tile_join.specs.Laws.{KnownRowsAreFinal}

-- where nothing is open these are all
pub all_known : (width : ℕ) (t : TileCatalogue) (p : ℕ) → t.open.items ≡ [] → IsTrue (is_in_frame width t.core p)
    → IsTrue (is_known_of width t.core t.open.items p)
unfolding is_known_of
all_known width t p none own =
    and_from (is_in_frame width t.core p) (not (list_any (λ e. is_in_box width (extent_box e) p) t.open.items)) own
    (ap (λ (boxes : List Extent). not (list_any (λ e. is_in_box width (extent_box e) p) boxes)) none)

pub known_rows_are_final : OwnRowsAreFinal → KnownRowsAreFinal
unfolding own_rows
known_rows_are_final law d r t row plane made listed known =
    law d r (known_piece_of r.shape.width t) row plane made.answers (record {
      it = k.it;
      listed = contains_from_among k.it (detected d (seen_through (window_of t.window) r)) k.among;
      moved = sym k.image;
      own = known;
    })
  where
    rows : List CatRow
    rows = map (moved_row (window_of t.window)) (detected d (seen_through (window_of t.window) r))

    there : IsAmong row (filter (λ x. is_in_frame r.shape.width t.core (first_pixel r.shape.width x)) rows)
    there = subst (λ (xs : List CatRow). IsAmong row xs) made.rows (among_of row t.rows.items listed)

    k : IsImageOf (moved_row (window_of t.window)) row (detected d (seen_through (window_of t.window) r))
    k = image_of (moved_row (window_of t.window)) row (detected d (seen_through (window_of t.window) r))
        (among_from_filter (λ x. is_in_frame r.shape.width t.core (first_pixel r.shape.width x)) row rows there).0
