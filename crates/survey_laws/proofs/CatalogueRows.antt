-- The rows of a plane's catalogue: they can be written, and each has the number of its place.
use Rattle.std.proofs.Common.{◌≡◌, ◌∙◌, ℕ, zero, suc, ◌+◌, ◌-◌, ◌*◌, ◌/◌, ◌<◌, ◌≤◌, true, false, not, List, [], ◌∷◌, ◌++◌}
use Rattle.std.proofs.Common.{length, map, get_or, refl, sym, ap, subst, arith, flat_map, ℤ, pos, FitsSigned, w64, All, None}
use Rattle.std.proofs.Common.{slice_get, Some, IsTrue, inl, inr}
use Rattle.std.specs.List.{AllByRecursion, enumerate_from}
use Rattle.std.specs.Ordering.{int_eq}
use Rattle.std.proofs.lemmas.Bool.Decides.{Decides-int_eq}
use Rattle.std.proofs.lemmas.List.{get_or-append_right, length-map}
use Rattle.std.proofs.lemmas.List.FromFn.{length-enumerate_from}
use Rattle.lemmas.proofs.Exported.{find_nothing, IsAmong}
use Rattle.comp_tree.specs.declared.shape.Connect.{Connect}
use Rattle.comp_tree.specs.Raster.{Raster}
use Rattle.comp_tree.specs.Components.{tree_of}
use Rattle.comp_tree.specs.Laws.{IsNode, AreDisjoint}
use Rattle.node_sums.specs.Sums.{sums_of}
use Rattle.node_sums.proofs.Exported.{rows_are as tree_rows}
use Rattle.fits_write.specs.Columns.{IsTable}
use Rattle.fits_write.specs.CatalogueColumns.{catalogue_columns, cells_in_row, number_place}
use Rattle.fits_write.proofs.Exported.{FitEach, catalogue_are_columns, rows_are_table}
use Rattle.source_pick.specs.declared.catalogue.CatRow.{CatRow}
use Rattle.source_pick.specs.declared.choice.Choice.{Choice}
use Rattle.source_pick.specs.Sources.{is_source, sources}
use Rattle.source_pick.specs.Laws.{SourcesAreInOrder, SourcesAreDisjoint}
use Rattle.source_pick.specs.Catalogue.{measured_row, catalogue_row, catalogue_of, catalogue, cells_of}
use Rattle.source_pick.proofs.Exported.{catalogue_row_fits, row_fits, source_from_among}
use Rattle.tree_products.specs.Catalogues.{catalogue_cells}
use Rattle.tree_products.proofs.Exported.{few_picked}
use Rattle.survey_core.specs.Listings.{table_cell}
use Rattle.survey_core.specs.Catalogues.{is_misnumbered, first_misnumbered}
use Rattle.survey_laws.specs.Laws.{IsRunsPlane}

-- ---- numbers

number_is : (r : Raster) (connect : Connect) (number n : ℕ) → (catalogue_row r connect number n).number ≡ pos number
unfolding catalogue_row measured_row
number_is r connect number n = refl

abbrev rows_from : Raster → Connect → ℕ → List ℕ → List CatRow
rows_from r connect first picked = map (λ e. catalogue_row r connect e.0 e.1) (enumerate_from first picked)

rows_are : (r : Raster) (connect : Connect) (choice : Choice)
    → catalogue_cells r connect choice ≡ flat_map cells_of (rows_from r connect 1 (sources r connect choice))
unfolding catalogue_cells catalogue catalogue_of
rows_are r connect choice = refl

-- row i has the number of its place
numbered : (r : Raster) (connect : Connect) (first : ℕ) (picked : List ℕ) (i : ℕ) → i < length picked
    → get_or (flat_map cells_of (rows_from r connect first picked)) (cells_in_row * i + number_place) (pos 0) ≡ pos (first + i)
numbered r connect first [] i h = absurd (omega arith)
numbered r connect first (n ∷ picked) zero h = number_is r connect first n ∙ ap pos (omega arith)
numbered r connect first (n ∷ picked) (suc i) h =
    let rest = flat_map cells_of (rows_from r connect (first + 1) picked) in
    let row = cells_of (catalogue_row r connect first n) in
    let place : cells_in_row * suc i + number_place - cells_in_row ≡ cells_in_row * i + number_place = omega arith in
    let number : first + 1 + i ≡ first + suc i = omega arith in
    get_or-append_right row rest cells_in_row (cells_in_row * suc i + number_place) (pos 0) refl (omega arith)
    ∙ ap (λ k. get_or rest k (pos 0)) place ∙ numbered r connect (first + 1) picked i (omega arith) ∙ ap pos number

-- ---- how many

cells_of_all : (rows : List CatRow) → length (flat_map cells_of rows) ≡ cells_in_row * length rows
cells_of_all [] = refl
cells_of_all (row ∷ rows) = omega (arith, cells_of_all rows)

rows_of_all : (r : Raster) (connect : Connect) (first : ℕ) (picked : List ℕ) → length (rows_from r connect first picked) ≡ length picked
rows_of_all r connect first picked =
    length-map (enumerate_from first picked) (λ e. catalogue_row r connect e.0 e.1) ∙ length-enumerate_from first picked

pub many_cells : (r : Raster) (connect : Connect) (choice : Choice)
    → length (catalogue_cells r connect choice) ≡ cells_in_row * length (sources r connect choice)
many_cells r connect choice =
    ap length (rows_are r connect choice) ∙ cells_of_all (rows_from r connect 1 (sources r connect choice))
    ∙ ap (λ n. cells_in_row * n) (rows_of_all r connect 1 (sources r connect choice))

-- no row has another number
pub none_misnumbered : (r : Raster) (connect : Connect) (choice : Choice) → first_misnumbered (catalogue_cells r connect choice) ≡ None
unfolding first_misnumbered
none_misnumbered r connect choice =
    find_nothing (is_misnumbered cells) 0 (length cells / cells_in_row) (λ j low high. right j (omega (arith, high, many_cells r connect choice)))
  where
    cells : List ℤ
    cells = catalogue_cells r connect choice

    right : (j : ℕ) → j < length (sources r connect choice) → is_misnumbered (catalogue_cells r connect choice) j ≡ false
    right j h =
        let number : table_cell (catalogue_cells r connect choice) j number_place ≡ pos (j + 1) =
        ap (λ l. get_or l (cells_in_row * j + number_place) (pos 0)) (rows_are r connect choice) ∙ numbered r connect 1 (sources r connect choice) j h
        ∙ ap pos (omega arith) in
        let same : int_eq (table_cell (catalogue_cells r connect choice) j number_place) (pos (j + 1)) ≡ true = (Decides-int_eq _ _).1 number in
        ap not same

-- ---- few

among_at : (x : ℕ) (xs : List ℕ) (i : ℕ) → slice_get xs i ≡ Some x → IsAmong x xs
among_at x [] i e = absurd (cc)
among_at x (y ∷ xs) zero e = inl (let same : y ≡ x = cc in same)
among_at x (y ∷ xs) (suc i) e = inr (among_at x xs i e)

module _ (order_law : SourcesAreInOrder) (disjoint_law : SourcesAreDisjoint) (r : Raster) (connect : Connect) (choice : Choice) (is : IsRunsPlane r) where
  node_at : (i s : ℕ) → slice_get (sources r connect choice) i ≡ Some s → IsNode r connect s × IsTrue (is_source r connect choice s)
  node_at i s at = source_from_among r connect choice s is.one_each (among_at s (sources r connect choice) i at)

  apart : (i j s t : ℕ) → i < j → slice_get (sources r connect choice) i ≡ Some s → slice_get (sources r connect choice) j ≡ Some t → AreDisjoint r connect s t
  apart i j s t less at_i at_j =
      let a = node_at i s at_i in
      let b = node_at j t at_j in
      let rising : (sums_of r connect s).first < (sums_of r connect t).first = order_law r connect choice i j s t is.one_each less at_i at_j in
      disjoint_law r connect choice s t is.one_each a.0 b.0 a.1 b.1
      (λ same. let first : (sums_of r connect s).first
      ≡ (sums_of r connect t).first = ap (λ n. (sums_of r connect n).first) same in absurd (omega (arith, first, rising)))

  pub few_sources : length (sources r connect choice) ≤ 2147483647
  few_sources = few_picked (tree_of r connect) (sources r connect choice) (record {
    plane = r;
    connect = connect;
    one_each = is.one_each;
    tree_is = refl;
    nodes = λ i s at. subst (λ n. s < n) (sym (tree_rows r connect (tree_of r connect) refl)) (node_at i s at).0;
    disjoint = apart;
  })

  -- ---- they can be written

  rows_fit : (first : ℕ) (picked : List ℕ) → first + length picked ≤ 2147483648 → ((n : ℕ) → IsAmong n picked → IsNode r connect n)
      → AllByRecursion (λ row. FitEach catalogue_columns (cells_of row)) (rows_from r connect first picked)
  rows_fit first [] few each = tt
  rows_fit first (n ∷ picked) few each = (
    row_fits (catalogue_row r connect first n) (catalogue_row_fits r connect n first is.one_each is.in_range (each n (inl refl)) (omega (arith, few))).0,
    rows_fit (first + 1) picked (omega (arith, few)) (λ m a. each m (inr a)),
  )

  with_row : (cells more : List ℤ) → AllByRecursion (FitsSigned w64) cells → AllByRecursion (FitsSigned w64) more
      → AllByRecursion (FitsSigned w64) (cells ++ more)
  with_row [] more a b = b
  with_row (z ∷ cells) more a b = (a.0, with_row cells more a.1 b)

  cells_fit : (first : ℕ) (picked : List ℕ) → first + length picked ≤ 2147483648 → ((n : ℕ) → IsAmong n picked → IsNode r connect n)
      → AllByRecursion (FitsSigned w64) (flat_map cells_of (rows_from r connect first picked))
  cells_fit first [] few each = tt
  cells_fit first (n ∷ picked) few each =
      with_row (cells_of (catalogue_row r connect first n)) (flat_map cells_of (rows_from r connect (first + 1) picked))
      (catalogue_row_fits r connect n first is.one_each is.in_range (each n (inl refl)) (omega (arith, few))).1
      (cells_fit (first + 1) picked (omega (arith, few)) (λ m a. each m (inr a)))

  by_places : (cells : List ℤ) → AllByRecursion (FitsSigned w64) cells → All (FitsSigned w64) cells
  by_places [] all i d h = absurd (omega (arith, h))
  by_places (z ∷ cells) all zero d h = all.0
  by_places (z ∷ cells) all (suc i) d h = by_places cells all.1 i d (omega (arith, h))

  each_node : (n : ℕ) → IsAmong n (sources r connect choice) → IsNode r connect n
  each_node n m = (source_from_among r connect choice n is.one_each m).0

  few_numbers : 1 + length (sources r connect choice) ≤ 2147483648
  few_numbers = omega (arith, few_sources)

  pub table_is : IsTable catalogue_columns (catalogue_cells r connect choice)
  table_is =
      let rows = rows_from r connect 1 (sources r connect choice) in
      subst (IsTable catalogue_columns) (sym (rows_are r connect choice))
      (rows_are_table catalogue_columns cells_of rows catalogue_are_columns (rows_fit 1 (sources r connect choice) few_numbers each_node)
      (omega (arith, rows_of_all r connect 1 (sources r connect choice), few_sources)))

  pub cells_are_64 : All (FitsSigned w64) (catalogue_cells r connect choice)
  cells_are_64 =
      subst (All (FitsSigned w64)) (sym (rows_are r connect choice))
      (by_places (flat_map cells_of (rows_from r connect 1 (sources r connect choice))) (cells_fit 1 (sources r connect choice) few_numbers each_node))
