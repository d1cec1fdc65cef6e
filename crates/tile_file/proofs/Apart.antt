-- Tiles, and their parts, are known by their bytes.
use Rattle.std.proofs.Common.{◌≡◌, ◌∙◌, ℕ, ◌*◌, ◌^◌, ◌<◌, ◌≤◌, Bool, true, false, IsTrue, List, [], ◌∷◌, ◌++◌, length, flat_map}
use Rattle.std.proofs.Common.{refl, sym, ap, ap₂, subst, subst₂, arith, ℤ, FitsSigned, w64, All, append_assoc, append-nil, length-append}
use Rattle.std.specs.Prelude.{codes, ◌↔◌}
use Rattle.std.specs.List.{AllByRecursion, list_all}
use Rattle.std.proofs.lemmas.List.{append_cancel_left}
use Rattle.std.proofs.lemmas.List.Elements.{recursion_from_All}
use Rattle.comp_tree.specs.declared.shape.Shape.{Shape}
use Rattle.fits_card.specs.Written.{is_plain, written_logical}
use Rattle.fits_write.specs.declared.table.Column.{Column}
use Rattle.fits_write.specs.Blocks.{filled}
use Rattle.fits_write.specs.Columns.{IsTable}
use Rattle.fits_write.specs.CatalogueColumns.{catalogue_columns}
use Rattle.fits_write.specs.Hdus.{header, primary_cards, empty_primary, named_hdu, map_hdu, table_hdu}
use Rattle.source_pick.specs.declared.catalogue.CatRow.{CatRow}
use Rattle.source_pick.specs.Catalogue.{cells_of}
use Rattle.tile_laws.specs.declared.extents.Extent.{Extent}
use Rattle.tile_join.specs.declared.tiles.Frame.{Frame}
use Rattle.tile_join.specs.declared.tiles.TileCatalogue.{TileCatalogue}
use Rattle.tile_file.specs.TileFiles.{box_columns, box_cells, image_extent, frame_extent, tile_extents, boxes_hdu, rows_hdu, tile_hdus, tile_bytes}
use Rattle.tile_file.specs.TileFiles.{bytes_of_tiles, AreTileBoxes, AreTileNumbers, AreTileRows, IsTileFile}
use Rattle.fits_back.specs.Laws.{TablesAreToldApart, MapsAreToldApart}
use Rattle.tile_file.specs.Laws.{AreSameTiles, TilesAreToldApart, TileFilesAreToldApart}
use Rattle.tile_file.proofs.Extents.{plain_boxes, same_boxes, same_image, same_frame, extents_table, extents_whole, narrow_whole}
use Rattle.tile_file.proofs.CatalogueCells.{same_rows, rows_table, rows_whole, rows_from_table}
use Rattle.tile_file.proofs.InTurn.{nothing_else}

-- ---- tables and maps that are read

pub plain_table : (columns : List Column) → columns ≡ box_columns → IsTrue (list_all (λ (column : Column). list_all is_plain column.name) columns)
plain_table columns same = subst (λ l. IsTrue (list_all (λ (column : Column). list_all is_plain column.name) l)) (sym same) plain_boxes

pub plain_catalogue : (columns : List Column) → columns ≡ catalogue_columns → IsTrue (list_all (λ (column : Column). list_all is_plain column.name) columns)
unfolding catalogue_columns
plain_catalogue columns same = subst (λ l. IsTrue (list_all (λ (column : Column). list_all is_plain column.name) l)) (sym same) refl

-- no table with this name and these columns stands at the front
abbrev IsNoTable : List ℕ → List ℕ → List Column → Type 0
IsNoTable bytes name columns =
    (cells : List ℤ) (rest : List ℕ) → IsTable columns cells → All (FitsSigned w64) cells → bytes ≡ named_hdu name columns cells ++ rest → ⊥

pub no_box_table : (columns : List Column) (bytes : List ℕ) → columns ≡ box_columns → IsNoTable bytes (codes "TILE") columns → (whole : Shape)
    (window core : Frame) (boxes : List Extent) (rest : List ℕ) → AreTileBoxes whole window core boxes
    → bytes ≡ boxes_hdu whole window core boxes ++ rest → ⊥
unfolding boxes_hdu
no_box_table columns bytes same none whole window core boxes rest are is =
    let none_of : IsNoTable bytes (codes "TILE") box_columns = subst (IsNoTable bytes (codes "TILE")) same none in
    none_of (flat_map box_cells (tile_extents whole window core boxes)) rest (extents_table whole window core boxes are)
    (extents_whole whole window core boxes are) is

pub boxes_found : (columns : List Column) (bytes rest : List ℕ) (cells read : List ℤ) (whole : Shape) (window core : Frame) (boxes : List Extent)
    → columns ≡ box_columns → bytes ≡ named_hdu (codes "TILE") columns cells ++ rest → read ≡ cells
    → read ≡ flat_map box_cells (tile_extents whole window core boxes) → bytes ≡ boxes_hdu whole window core boxes ++ rest
unfolding boxes_hdu
boxes_found columns bytes rest cells read whole window core boxes same is read_is are =
    is ∙ ap₂ (λ l z. named_hdu (codes "TILE") l z ++ rest) same (sym read_is ∙ are)

pub no_tile_boxes : TablesAreToldApart → (columns : List Column) (bytes rest : List ℕ) (cells read : List ℤ) → columns ≡ box_columns
    → bytes ≡ named_hdu (codes "TILE") columns cells ++ rest → IsTable columns cells → read ≡ cells
    → ((whole : Shape) (window core : Frame) (boxes : List Extent) → AreTileBoxes whole window core boxes
    → read ≡ flat_map box_cells (tile_extents whole window core boxes) → ⊥)
    → (whole : Shape) (window core : Frame) (boxes : List Extent) (others : List ℕ) → AreTileBoxes whole window core boxes
    → bytes ≡ boxes_hdu whole window core boxes ++ others → ⊥
unfolding boxes_hdu
no_tile_boxes tables columns bytes rest cells read same is table read_is none whole window core boxes others are other =
    let table' : IsTable box_columns cells = subst (λ l. IsTable l cells) same table in
    let both =
    tables (codes "TILE") box_columns cells (flat_map box_cells (tile_extents whole window core boxes)) rest others
    table'
    (extents_table whole window core boxes are) (narrow_whole cells table') (extents_whole whole window core boxes are)
    (subst (λ l. named_hdu (codes "TILE") l cells ++ rest ≡ bytes) same (sym is) ∙ other) in
    none whole window core boxes are (read_is ∙ both.0)

words : (numbers : List ℕ) → All (λ n. n ≤ 2147483647) numbers → All (λ n. n < 2 ^ 32) numbers
words numbers small = λ k d h. omega (arith, small k d h)

pub no_numbers : MapsAreToldApart → (shape : Shape) (bytes rest numbers read : List ℕ) (test : Bool) → bytes ≡ map_hdu shape numbers ++ rest
    → length numbers ≡ shape.width * shape.height → read ≡ numbers → (IsTrue test ↔ All (λ n. n ≤ 2147483647) read) → All (λ n. n < 2 ^ 32) read
    → test ≡ false → (others behind : List ℕ) → AreTileNumbers shape others → bytes ≡ map_hdu shape others ++ behind → ⊥
no_numbers maps shape bytes rest numbers read test is many read_is says fits fails others behind are other =
    let both =
    maps shape numbers others rest behind many are.one_each (subst (All (λ n. n < 2 ^ 32)) read_is fits) (words others are.small) (sym is ∙ other) in
    let small : All (λ n. n ≤ 2147483647) read = subst (All (λ n. n ≤ 2147483647)) (sym (read_is ∙ both.0)) are.small in
    let passes : test ≡ true = says.1 small in
    absurd (cc)

-- no table of rows
pub no_row_table : (columns : List Column) (bytes : List ℕ) → columns ≡ catalogue_columns → IsNoTable bytes (codes "SOURCES") columns → (rows : List CatRow)
    (rest : List ℕ) → AreTileRows rows → bytes ≡ rows_hdu rows ++ rest → ⊥
unfolding rows_hdu table_hdu
no_row_table columns bytes same none rows rest are is =
    let none_of : IsNoTable bytes (codes "SOURCES") catalogue_columns = subst (IsNoTable bytes (codes "SOURCES")) same none in
    none_of (flat_map cells_of rows) rest (rows_table rows are) (rows_whole rows are) is

pub rows_found : (columns : List Column) (bytes rest : List ℕ) (cells read : List ℤ) (rows : List CatRow) → columns ≡ catalogue_columns
    → bytes ≡ named_hdu (codes "SOURCES") columns cells ++ rest → read ≡ cells → read ≡ flat_map cells_of rows → bytes ≡ rows_hdu rows ++ rest
unfolding rows_hdu table_hdu
rows_found columns bytes rest cells read rows same is read_is are =
    is ∙ ap₂ (λ l z. named_hdu (codes "SOURCES") l z ++ rest) same (sym read_is ∙ are)

pub rows_fit : (columns : List Column) (cells read : List ℤ) (rows : List CatRow) → columns ≡ catalogue_columns → IsTable columns cells → read ≡ cells
    → read ≡ flat_map cells_of rows → All (FitsSigned w64) read → AreTileRows rows
rows_fit columns cells read rows same table read_is are fits =
    rows_from_table rows read are (subst₂ IsTable same (sym read_is) table) fits

-- ---- the bytes of a tile

regroup : (e b m r a : List ℕ) → (e ++ (b ++ (m ++ r))) ++ a ≡ e ++ (b ++ (m ++ (r ++ a)))
regroup e b m r a = simp append_assoc

pub in_line : (t : TileCatalogue) (a : List ℕ)
    → tile_bytes t ++ a
    ≡ empty_primary ++ (boxes_hdu t.whole t.window t.core t.open.items ++ (map_hdu t.window.shape t.map.items ++ (rows_hdu t.rows.items ++ a)))
unfolding tile_hdus
in_line t a =
    regroup empty_primary (boxes_hdu t.whole t.window t.core t.open.items) (map_hdu t.window.shape t.map.items) (rows_hdu t.rows.items) a

-- what stands behind the primary of a tile
pub behind_primary : (bytes behind : List ℕ) (t : TileCatalogue) (a : List ℕ) → bytes ≡ empty_primary ++ behind → bytes ≡ tile_bytes t ++ a
    → behind ≡ boxes_hdu t.whole t.window t.core t.open.items ++ (map_hdu t.window.shape t.map.items ++ (rows_hdu t.rows.items ++ a))
behind_primary bytes behind t a first is = append_cancel_left empty_primary _ _ (sym first ∙ is ∙ in_line t a)

nothing : (x : ℕ) (xs ys : List ℕ) → (x ∷ xs) ++ ys ≡ [] → ⊥
nothing x xs ys is = cc

front_empty : (xs ys : List ℕ) → xs ++ ys ≡ [] → xs ≡ []
front_empty [] ys is = refl
front_empty (x ∷ xs) ys is = absurd (nothing x xs ys is)

some_first : (x : ℕ) (xs : List ℕ) → x ∷ xs ≡ [] → ⊥
some_first x xs is = cc

some_card : written_logical (codes "SIMPLE  ") true ≡ [] → ⊥
unfolding written_logical
some_card is = some_first _ _ is

some_primary : empty_primary ≡ [] → ⊥
unfolding empty_primary header filled primary_cards
some_primary is = some_card (front_empty _ _ (front_empty _ _ is))

pub some_bytes : (t : TileCatalogue) (rest : List ℕ) → tile_bytes t ++ rest ≡ [] → ⊥
some_bytes t rest is = some_primary (front_empty empty_primary _ (sym (in_line t rest) ∙ is))

length_some : (xs : List ℕ) → (xs ≡ [] → ⊥) → 0 < length xs
length_some [] h = absurd (h refl)
length_some (x ∷ xs) h = omega arith

pub shorter : (t : TileCatalogue) (bytes rest : List ℕ) → bytes ≡ tile_bytes t ++ rest → length rest < length bytes
shorter t bytes rest is =
    let some : 0 < length (tile_bytes t) = length_some (tile_bytes t) (λ none. some_bytes t [] (append-nil (tile_bytes t) ∙ none)) in
    omega (arith, some, ap length is, length-append (tile_bytes t) rest)

pub all_parts : (t : TileCatalogue) (bytes b m r a : List ℕ) → bytes ≡ empty_primary ++ b → b ≡ boxes_hdu t.whole t.window t.core t.open.items ++ m
    → m ≡ map_hdu t.window.shape t.map.items ++ r → r ≡ rows_hdu t.rows.items ++ a → bytes ≡ tile_bytes t ++ a
all_parts t bytes b m r a first second third last =
    first
    ∙ ap (λ l. empty_primary ++ l) (second
    ∙ ap (λ l. boxes_hdu t.whole t.window t.core t.open.items ++ l) (third ∙ ap (λ l. map_hdu t.window.shape t.map.items ++ l) last))
    ∙ sym (in_line t a)

-- ---- parts of tiles

pub record AreSameBoxes (s t : Shape) (w v k l : Frame) (ds es : List Extent) (a b : List ℕ) : Type 0 where
  pub whole : s ≡ t
  pub window : w ≡ v
  pub core : k ≡ l
  pub boxes : ds ≡ es
  pub rest : a ≡ b

module _ (tables : TablesAreToldApart) (maps : MapsAreToldApart) where
  pub boxes_apart : (s t : Shape) (w v k l : Frame) (ds es : List Extent) (a b : List ℕ) → AreTileBoxes s w k ds → AreTileBoxes t v l es
      → boxes_hdu s w k ds ++ a ≡ boxes_hdu t v l es ++ b → AreSameBoxes s t w v k l ds es a b
  unfolding boxes_hdu
  boxes_apart s t w v k l ds es a b are others is =
      let both =
      tables (codes "TILE") box_columns (flat_map box_cells (tile_extents s w k ds)) (flat_map box_cells (tile_extents t v l es)) a b
      (extents_table s w k ds are) (extents_table t v l es others) (extents_whole s w k ds are) (extents_whole t v l es others) is in
      let same : tile_extents s w k ds ≡ tile_extents t v l es = same_boxes (tile_extents s w k ds) (tile_extents t v l es) both.0 in
      let image : image_extent s ≡ image_extent t = cc in
      let window : frame_extent w ≡ frame_extent v = cc in
      let core : frame_extent k ≡ frame_extent l = cc in
      let boxes : ds ≡ es = cc in
      record { whole = same_image s t image; window = same_frame w v window; core = same_frame k l core; boxes = boxes; rest = both.1 }

  pub numbers_apart : (shape : Shape) (xs ys a b : List ℕ) → AreTileNumbers shape xs → AreTileNumbers shape ys → map_hdu shape xs ++ a ≡ map_hdu shape ys ++ b
      → (xs ≡ ys) × (a ≡ b)
  numbers_apart shape xs ys a b are others is = maps shape xs ys a b are.one_each others.one_each (words xs are.small) (words ys others.small) is

  pub rows_apart : (rows others : List CatRow) (a b : List ℕ) → AreTileRows rows → AreTileRows others → rows_hdu rows ++ a ≡ rows_hdu others ++ b
      → (rows ≡ others) × (a ≡ b)
  unfolding rows_hdu table_hdu
  rows_apart rows others a b are so is =
      let both =
      tables (codes "SOURCES") catalogue_columns (flat_map cells_of rows) (flat_map cells_of others) a b (rows_table rows are) (rows_table others so)
      (rows_whole rows are)
      (rows_whole others so) is in
      (same_rows rows others both.0, both.1)

  -- ---- whole tiles

  -- what stands behind its boxes, as they were read
  pub behind_boxes : (bytes behind more : List ℕ) (s : Shape) (w k : Frame) (ds : List Extent) (t : TileCatalogue) (a : List ℕ)
      → bytes ≡ empty_primary ++ behind → behind ≡ boxes_hdu s w k ds ++ more → AreTileBoxes s w k ds → IsTileFile t → bytes ≡ tile_bytes t ++ a
      → AreSameBoxes s t.whole w t.window k t.core ds t.open.items more (map_hdu t.window.shape t.map.items ++ (rows_hdu t.rows.items ++ a))
  behind_boxes bytes behind more s w k ds t a first second are fits is =
      boxes_apart s t.whole w t.window k t.core ds t.open.items more _ are fits.boxes (sym second ∙ behind_primary bytes behind t a first is)

  pub map_ahead : (bytes behind more : List ℕ) (s : Shape) (w k : Frame) (ds : List Extent) (t : TileCatalogue) (a : List ℕ)
      → bytes ≡ empty_primary ++ behind → behind ≡ boxes_hdu s w k ds ++ more → AreTileBoxes s w k ds → IsTileFile t → bytes ≡ tile_bytes t ++ a
      → (more ≡ map_hdu w.shape t.map.items ++ (rows_hdu t.rows.items ++ a)) × AreTileNumbers w.shape t.map.items
  map_ahead bytes behind more s w k ds t a first second are fits is =
      let same = behind_boxes bytes behind more s w k ds t a first second are fits is in (
        same.rest ∙ ap (λ (f : Frame). map_hdu f.shape t.map.items ++ (rows_hdu t.rows.items ++ a)) (sym same.window),
        subst (λ (f : Frame). AreTileNumbers f.shape t.map.items) (sym same.window) fits.numbers,
      )

  -- what stands behind its map
  pub behind_map : (bytes behind more last numbers : List ℕ) (s : Shape) (w k : Frame) (ds : List Extent) (t : TileCatalogue) (a : List ℕ)
      → bytes ≡ empty_primary ++ behind → behind ≡ boxes_hdu s w k ds ++ more → AreTileBoxes s w k ds → more ≡ map_hdu w.shape numbers ++ last
      → AreTileNumbers w.shape numbers → IsTileFile t → bytes ≡ tile_bytes t ++ a → last ≡ rows_hdu t.rows.items ++ a
  behind_map bytes behind more last numbers s w k ds t a first second are third so fits is =
      let ahead = map_ahead bytes behind more s w k ds t a first second are fits is in
      (numbers_apart w.shape numbers t.map.items last (rows_hdu t.rows.items ++ a) so ahead.1 (sym third ∙ ahead.0)).1

  pub tiles_apart : TilesAreToldApart
  tiles_apart t u a b t_fits u_fits is =
      let boxes =
      behind_boxes (tile_bytes t ++ a)
      (boxes_hdu t.whole t.window t.core t.open.items ++ (map_hdu t.window.shape t.map.items ++ (rows_hdu t.rows.items ++ a)))
      (map_hdu t.window.shape t.map.items ++ (rows_hdu t.rows.items ++ a)) t.whole t.window t.core t.open.items u b (in_line t a) refl t_fits.boxes u_fits is in
      let ahead =
      map_ahead (tile_bytes t ++ a)
      (boxes_hdu t.whole t.window t.core t.open.items ++ (map_hdu t.window.shape t.map.items ++ (rows_hdu t.rows.items ++ a)))
      (map_hdu t.window.shape t.map.items ++ (rows_hdu t.rows.items ++ a)) t.whole t.window t.core t.open.items u b (in_line t a) refl t_fits.boxes u_fits is in
      let numbers =
      numbers_apart t.window.shape t.map.items u.map.items (rows_hdu t.rows.items ++ a) (rows_hdu u.rows.items ++ b) t_fits.numbers ahead.1 ahead.0 in
      let rows = rows_apart t.rows.items u.rows.items a b t_fits.rows u_fits.rows numbers.1 in (
        record {
          whole = boxes.whole;
          window = boxes.window;
          core = boxes.core;
          boxes = boxes.boxes;
          rows = rows.0;
          numbers = numbers.0;
        },
        rows.1,
      )

  -- ---- tiles one behind the other

  lists_apart : (ts us : List TileCatalogue) → AllByRecursion IsTileFile ts → AllByRecursion IsTileFile us → bytes_of_tiles ts ≡ bytes_of_tiles us
      → AreSameTiles ts us
  lists_apart [] [] fits others is = tt
  lists_apart [] (u ∷ us) fits others is = some_bytes u (bytes_of_tiles us) (sym is)
  lists_apart (t ∷ ts) [] fits others is = some_bytes t (bytes_of_tiles ts) is
  lists_apart (t ∷ ts) (u ∷ us) fits others is =
      let both = tiles_apart t u (bytes_of_tiles ts) (bytes_of_tiles us) fits.0 others.0 is in (both.0, lists_apart ts us fits.1 others.1 both.1)

  pub tile_files_apart : TileFilesAreToldApart
  tile_files_apart ts us fits others is =
      lists_apart ts us (recursion_from_All IsTileFile ts fits) (recursion_from_All IsTileFile us others) is

-- no tile stands at the front of what is left
pub no_tiles : TilesAreToldApart → (ts us : List TileCatalogue) (rest : List ℕ) → AllByRecursion IsTileFile ts → All IsTileFile us → (rest ≡ [] → ⊥)
    → ((t : TileCatalogue) (behind : List ℕ) → IsTileFile t → rest ≡ tile_bytes t ++ behind → ⊥) → bytes_of_tiles ts ++ rest ≡ bytes_of_tiles us → ⊥
no_tiles law ts us rest taken all more none is =
    nothing_else TileCatalogue ℕ tile_bytes IsTileFile some_bytes (λ t u a b p q same. (law t u a b p q same).1) ts us rest taken
    (recursion_from_All IsTileFile us all) more none is
