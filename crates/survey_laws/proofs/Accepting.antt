-- What is written of a plane's sources is accepted, or refused where they are too many.
use Rattle.std.proofs.Common.{◌≡◌, ◌∙◌, ℕ, ◌+◌, ◌*◌, ◌/◌, ◌^◌, ◌<◌, ◌≤◌, ◌==◌, ◌&&◌, Bool, true, false, List, [], ◌∷◌, ◌++◌, length, drop, replicate, min}
use Rattle.std.proofs.Common.{refl, sym, ap, ap₂, arith, append_assoc, length-append, ℤ, nat_lt, nat_le}
use Rattle.std.specs.List.{AllByRecursion, list_all, range_with_len}
use Rattle.std.proofs.lemmas.Bool.Decides.{nat_tests}
use Rattle.std.proofs.lemmas.List.{length-map}
use Rattle.std.proofs.lemmas.List.FromFn.{length-range_with_len}
use Rattle.std.proofs.Math.Nat.{mul-div_cancel_left}
use Rattle.std.proofs.Math.Seq.{drop-append_seam}
use Rattle.comp_tree.specs.declared.shape.Connect.{Connect}
use Rattle.comp_tree.specs.Raster.{Raster, pixels}
use Rattle.fits_hdu.specs.Headers.{found}
use Rattle.fits_hdu.specs.Finding.{find_of, padded}
use Rattle.fits_write.specs.declared.table.Column.{Column}
use Rattle.fits_write.specs.Blocks.{filled, room_after}
use Rattle.fits_write.specs.Columns.{row_size, table_bytes}
use Rattle.fits_write.specs.Hdus.{header, table_cards, empty_primary, map_hdu, table_hdu, named_hdu}
use Rattle.fits_write.specs.CatalogueColumns.{catalogue_columns, cells_in_row, bytes_in_row}
use Rattle.fits_write.specs.Rows.{table_cells}
use Rattle.fits_write.specs.Laws.{WrittenTableIsReadBack, TableHasItsRowsBytes}
use Rattle.survey_laws.proofs.Places.{filled_size}
use Rattle.survey_laws.specs.WrittenTables.{table_said, table_start, WrittenTableIsFound}
use Rattle.source_pick.specs.declared.choice.Choice.{Choice}
use Rattle.source_pick.specs.Sources.{sources}
use Rattle.source_pick.specs.Laws.{SourcesAreInOrder, SourcesAreDisjoint}
use Rattle.source_pick.specs.Segmentation.{segmentation_of, segmentation}
use Rattle.survey_core.proofs.Exported.{lt_false, lt_true, many_columns, columns_size}
use Rattle.survey_core.specs.Catalogues.{most_rows, accepted, too_many_rows, is_catalogue, table_of}
use Rattle.survey_core.specs.Catalogues.{reading_by, catalogue_in}
use Rattle.tree_products.specs.Catalogues.{catalogue_cells, detected_hdus}
use Rattle.survey_laws.specs.Laws.{IsRunsPlane}
use Rattle.survey_laws.proofs.CatalogueRows.{few_sources, many_cells, none_misnumbered, table_is, cells_are_64}

itself : (n : ℕ) → (n == n) ≡ true
itself n = grind (arith, nat_tests)

-- ---- the columns

short_from : (columns : List Column) → list_all (λ column. nat_le (length column.name) 68) columns ≡ true
    → AllByRecursion (λ column. length column.name ≤ 68) columns
short_from [] all = tt
short_from (column ∷ columns) all = by (nat_le (length column.name) 68) refl all (short_from columns)
  where
    by : (b : Bool) → nat_le (length column.name) 68 ≡ b → b && list_all (λ c. nat_le (length c.name) 68) columns ≡ true
        → (list_all (λ c. nat_le (length c.name) 68) columns ≡ true → AllByRecursion (λ c. length c.name ≤ 68) columns)
        → (length column.name ≤ 68) × AllByRecursion (λ c. length c.name ≤ 68) columns
    by true is all later = (let few : length column.name ≤ 68 = grind (arith, nat_tests) in few, later all)
    by false is all later = absurd (cc)

names_short : AllByRecursion (λ column. length column.name ≤ 68) catalogue_columns
unfolding catalogue_columns
names_short = short_from catalogue_columns refl

-- ---- where the parts stand

behind_front : (a b c d e : List ℕ) → (a ++ (b ++ (c ++ d))) ++ e ≡ (a ++ (b ++ c)) ++ (d ++ e)
behind_front a b c d e = simp append_assoc

nested : (a b c d : List ℕ) → (a ++ (b ++ c)) ++ d ≡ a ++ (b ++ (c ++ d))
nested a b c d = simp append_assoc

map_many : (r : Raster) (connect : Connect) (choice : Choice) → IsRunsPlane r → length (segmentation r connect choice) ≡ r.shape.width * r.shape.height
unfolding segmentation segmentation_of pixels
map_many r connect choice is = length-map (range_with_len 0 (length r.values)) _ ∙ length-range_with_len 0 (length r.values) ∙ is.one_each

module _ (find_law : WrittenTableIsFound) (read_law : WrittenTableIsReadBack) (size_law : TableHasItsRowsBytes)
    (order_law : SourcesAreInOrder) (disjoint_law : SourcesAreDisjoint)
    (r : Raster) (connect : Connect) (choice : Choice) (rest : List ℕ) (is : IsRunsPlane r) where
  abbrev n : ℕ
  n = length (sources r connect choice)

  abbrev cells : List ℤ
  cells = catalogue_cells r connect choice

  abbrev the_map : List ℕ
  the_map = map_hdu r.shape (segmentation r connect choice)

  abbrev the_header : List ℕ
  the_header = header (table_cards catalogue_columns n)

  abbrev the_data : List ℕ
  the_data = filled 0 (table_bytes catalogue_columns cells)

  abbrev front : List ℕ
  front = empty_primary ++ (the_map ++ the_header)

  abbrev head : ℕ
  head = table_start r.shape (segmentation r connect choice) catalogue_columns n

  rows : length cells / length catalogue_columns ≡ n
  rows =
      ap₂ ◌/◌ (many_cells r connect choice) many_columns ∙ mul-div_cancel_left n (let some : 0 < cells_in_row = omega arith in some)

  table_is_there : table_hdu catalogue_columns cells ≡ the_header ++ the_data
  unfolding table_hdu named_hdu table_cards
  table_is_there = ap (λ k. header (table_cards catalogue_columns k) ++ the_data) rows

  all_is : detected_hdus r connect choice ≡ empty_primary ++ (the_map ++ (the_header ++ the_data))
  unfolding detected_hdus
  all_is = ap (λ l. empty_primary ++ (the_map ++ l)) table_is_there

  front_size : length front ≡ head
  front_size =
      length-append empty_primary (the_map ++ the_header) ∙ ap (λ k. length empty_primary + k) (length-append the_map the_header)

  data_size : length the_data ≡ padded (bytes_in_row * n)
  data_size =
      filled_size 0 (table_bytes catalogue_columns cells)
      ∙ ap padded (size_law catalogue_columns cells (table_is order_law disjoint_law r connect choice is) ∙ ap₂ ◌*◌ columns_size rows)

  bytes_are : detected_hdus r connect choice ++ rest ≡ front ++ (the_data ++ rest)
  bytes_are = ap (λ l. l ++ rest) all_is ∙ behind_front empty_primary the_map the_header the_data rest

  all_size : length (detected_hdus r connect choice) ≡ head + padded (bytes_in_row * n)
  all_size =
      let nothing = behind_front empty_primary the_map the_header the_data [] in
      ap length all_is ∙ length-append empty_primary (the_map ++ (the_header ++ the_data))
      ∙ ap (λ k. length empty_primary + k) (length-append the_map (the_header ++ the_data) ∙ ap (λ k. length the_map + k) (length-append the_header the_data))
      ∙ omega (arith, data_size)

  -- the rows of any image's sources are few enough
  few_bytes : row_size catalogue_columns * (length cells / length catalogue_columns) ≤ 2 ^ 40
  few_bytes =
      let few : n ≤ 2147483647 = few_sources order_law disjoint_law r connect choice is in
      let size : row_size catalogue_columns * (length cells / length catalogue_columns) ≡ bytes_in_row * n = ap₂ ◌*◌ columns_size rows in
      omega (arith, few, size)

  found_there : find_of (detected_hdus r connect choice ++ rest) 2 ≡ found (table_said catalogue_columns n) head
  unfolding detected_hdus
  found_there =
      ap (λ l. find_of l 2) (nested empty_primary the_map (table_hdu catalogue_columns cells) rest)
      ∙ find_law r.shape (segmentation r connect choice) catalogue_columns cells rest (map_many r connect choice is)
      (table_is order_law disjoint_law r connect choice is) names_short few_bytes
      ∙ ap (λ k. found (table_said catalogue_columns k) (table_start r.shape (segmentation r connect choice) catalogue_columns k)) rows

  said_is : is_catalogue (table_said catalogue_columns n) ≡ true
  unfolding is_catalogue
  said_is = rw columns_size (itself (bytes_in_row * n))

  behind : drop head (detected_hdus r connect choice ++ rest) ≡ the_data ++ rest
  behind = ap₂ (λ k (l : List ℕ). drop k l) (sym front_size) bytes_are ∙ drop-append_seam front (the_data ++ rest)

  read_there : table_cells catalogue_columns (the_data ++ rest) n ≡ cells
  unfolding filled
  read_there =
      let written = table_bytes catalogue_columns cells in
      let room = replicate (room_after (length written)) 0 in
      ap (λ l. table_cells catalogue_columns l n) (append_assoc written room rest)
      ∙ ap (table_cells catalogue_columns (written ++ (room ++ rest))) (sym rows)
      ∙ read_law catalogue_columns cells (room ++ rest) (table_is order_law disjoint_law r connect choice is)
      (cells_are_64 order_law disjoint_law r connect choice is)

  table_there : table_of (the_data ++ rest) n ≡ accepted cells (padded (bytes_in_row * n))
  unfolding table_of
  table_there =
      let long : length (the_data ++ rest) ≡ padded (bytes_in_row * n) + length rest = length-append the_data rest ∙ ap (λ k. k + length rest) data_size in
      let whole : nat_lt (length (the_data ++ rest)) (bytes_in_row * n)
      ≡ false = lt_false (length (the_data ++ rest)) (bytes_in_row * n) (omega (arith, long)) in
      let size : min (padded (bytes_in_row * n)) (length (the_data ++ rest)) ≡ padded (bytes_in_row * n) = omega (arith, long) in
      rw (whole, read_there, none_misnumbered r connect choice) (ap (accepted cells) size)

  pub accepted_there : n ≤ most_rows → catalogue_in (detected_hdus r connect choice ++ rest) ≡ accepted cells (length (detected_hdus r connect choice))
  unfolding catalogue_in reading_by
  accepted_there few =
      let enough : nat_lt most_rows n ≡ false = lt_false most_rows n few in
      rw (found_there, said_is, enough, behind, table_there) (ap (accepted cells) (sym all_size))

  pub refused_there : most_rows < n → catalogue_in (detected_hdus r connect choice ++ rest) ≡ too_many_rows head
  unfolding catalogue_in reading_by
  refused_there many =
      let more : nat_lt most_rows n ≡ true = lt_true most_rows n many in
      rw (found_there, said_is, more) refl
