-- The cells of a catalogue, row by row.
use Rattle.std.proofs.Common.{◌≡◌, ◌∙◌, ap, sym, subst, refl, arith, ℕ, ◌+◌, ◌<◌, ◌≤◌, List, [], ◌∷◌, ◌++◌, length, map, take}
use Rattle.std.proofs.Common.{get_or, append-nil, length-append, ℤ}
use Rattle.std.specs.List.{flat_map, enumerate_from, AllByRecursion}
use Rattle.std.proofs.lemmas.Grind.{flat_map-append}
use Rattle.std.proofs.lemmas.List.{take_more, take_all, length-map, get_or-map}
use Rattle.std.proofs.lemmas.List.FromFn.{length-enumerate_from, get_or-enumerate_from}
use Rattle.comp_tree.specs.declared.shape.Connect.{Connect}
use Rattle.comp_tree.specs.Raster.{Raster}
use Rattle.comp_tree.specs.ComponentTree.{ComponentTree}
use Rattle.comp_tree.specs.Components.{tree_of}
use Rattle.node_sums.specs.declared.entry.Sums.{Sums}
use Rattle.node_sums.specs.Sums.{sums_of}
use Rattle.fits_write.specs.Columns.{IsTable}
use Rattle.source_pick.specs.declared.catalogue.CatRow.{CatRow}
use Rattle.source_pick.specs.Catalogue.{catalogue_of, catalogue_row, cells_of, FitsColumns}
use Rattle.node_sums.specs.DisjointNodes.{AreDisjointNodes}
use Rattle.source_pick.proofs.Exported.{few_marked, few_rows, row_fits}
use Rattle.source_sheet.proofs.Exported.{all_more}
use Rattle.fits_write.specs.CatalogueColumns.{catalogue_columns}
use Rattle.fits_write.proofs.Exported.{FitEach, catalogue_are_columns, rows_are_table}

-- ---- the cells of some rows

-- these are the cells of the first count rows of the catalogue of some nodes
pub record AreCells (tree : ComponentTree) (sums : List Sums) (picked : List ℕ) (count : ℕ) (items : List ℤ) : Type 0 where
  pub rows : List CatRow
  pub made : items ≡ flat_map cells_of rows
  pub one_each : length rows ≡ count
  pub fit : AllByRecursion (λ row. FitEach catalogue_columns (cells_of row)) rows
  pub exact : (plane : Raster) (connect : Connect) → tree ≡ tree_of plane connect → sums ≡ map (sums_of plane connect) picked
      → rows ≡ take count (catalogue_of plane connect picked)

pub few_picked : (tree : ComponentTree) (picked : List ℕ) → AreDisjointNodes tree picked → length picked ≤ 2147483647
few_picked tree picked d = omega (arith, few_marked tree picked d, few_rows tree picked d)

pub no_cells : (tree : ComponentTree) (sums : List Sums) (picked : List ℕ) (items : List ℤ) → items ≡ [] → AreCells tree sums picked 0 items
no_cells tree sums picked items empty = record { rows = []; made = empty; one_each = refl; fit = tt; exact = λ plane connect is are. refl }

-- ---- one row more

length-catalogue : (plane : Raster) (connect : Connect) (picked : List ℕ) → length (catalogue_of plane connect picked) ≡ length picked
unfolding catalogue_of
length-catalogue plane connect picked = length-map (enumerate_from 1 picked) (λ e. catalogue_row plane connect e.0 e.1) ∙ length-enumerate_from 1 picked

row_numbered : (plane : Raster) (connect : Connect) (picked : List ℕ) (place : ℕ) (d : CatRow) → place < length picked
    → get_or (catalogue_of plane connect picked) place d ≡ catalogue_row plane connect (place + 1) (get_or picked place 0)
unfolding catalogue_of
row_numbered plane connect picked place d within =
    let pair : get_or (enumerate_from 1 picked) place (0, 0) ≡ (1 + place, get_or picked place 0) = get_or-enumerate_from 1 picked place (0, 0) within in
    let number : 1 + place ≡ place + 1 = omega arith in
    get_or-map (λ e. catalogue_row plane connect e.0 e.1) (enumerate_from 1 picked) place (0, 0) d (omega (arith, within, length-enumerate_from 1 picked))
    ∙ ap (λ e. catalogue_row plane connect e.0 e.1) pair
    ∙ ap (λ n. catalogue_row plane connect n (get_or picked place 0)) number

-- so many rows of the catalogue, and one more; and all of them
pub row_more : (plane : Raster) (connect : Connect) (picked : List ℕ) (count : ℕ) (rows : List CatRow) (row : CatRow)
    → rows ≡ take count (catalogue_of plane connect picked) → count < length picked → row ≡ catalogue_row plane connect (count + 1) (get_or picked count 0)
    → rows ++ row ∷ [] ≡ take (count + 1) (catalogue_of plane connect picked)
row_more plane connect picked count rows row before within is =
    let all = catalogue_of plane connect picked in
    ap (λ l. l ++ row ∷ []) before ∙ ap (λ r. take count all ++ r ∷ []) (is ∙ sym (row_numbered plane connect picked count row within))
    ∙ sym (take_more all count row (omega (arith, within, length-catalogue plane connect picked)))

pub rows_all : (plane : Raster) (connect : Connect) (picked : List ℕ) (count : ℕ) (rows : List CatRow) → rows ≡ take count (catalogue_of plane connect picked)
    → length picked ≤ count → rows ≡ catalogue_of plane connect picked
rows_all plane connect picked count rows are whole =
    are ∙ take_all count (catalogue_of plane connect picked) (omega (arith, whole, length-catalogue plane connect picked))

pub cells_more : (tree : ComponentTree) (sums : List Sums) (picked : List ℕ) (count : ℕ) (items items' : List ℤ) (row : CatRow)
    → AreCells tree sums picked count items → count < length picked
    → items' ≡ items ++ cells_of row → FitsColumns row
    → ((plane : Raster) (connect : Connect) → tree ≡ tree_of plane connect → sums ≡ map (sums_of plane connect) picked → row
    ≡ catalogue_row plane connect (count + 1) (get_or picked count 0))
    → AreCells tree sums picked (count + 1) items'
cells_more tree sums picked count items items' row before within more fits is = record {
  rows = before.rows ++ row ∷ [];
  made = more ∙ ap (λ l. l ++ cells_of row) before.made ∙ ap (λ l. flat_map cells_of before.rows ++ l) (sym (append-nil (cells_of row)))
      ∙ sym (flat_map-append cells_of before.rows (row ∷ []));
  one_each = length-append before.rows (row ∷ []) ∙ omega (arith, before.one_each);
  fit = all_more (λ (r : CatRow). FitEach catalogue_columns (cells_of r)) before.rows row before.fit (row_fits row fits);
  exact = λ plane connect tree_is sums_are.
      row_more plane connect picked count before.rows row (before.exact plane connect tree_is sums_are) within (is plane connect tree_is sums_are);
}

-- ---- all rows

pub all_cells : (tree : ComponentTree) (sums : List Sums) (picked : List ℕ) (count : ℕ) (items : List ℤ) → AreCells tree sums picked count items
    → length picked ≤ count
    → (plane : Raster) (connect : Connect) → tree ≡ tree_of plane connect → sums ≡ map (sums_of plane connect) picked
    → items ≡ flat_map cells_of (catalogue_of plane connect picked)
all_cells tree sums picked count items are whole plane connect tree_is sums_are =
    are.made ∙ ap (flat_map cells_of) (rows_all plane connect picked count are.rows (are.exact plane connect tree_is sums_are) whole)

pub cells_table : (tree : ComponentTree) (sums : List Sums) (picked : List ℕ) (count : ℕ) (items : List ℤ) → AreCells tree sums picked count items
    → count ≤ 2147483647
    → IsTable catalogue_columns items
cells_table tree sums picked count items are few =
    let rows = rows_are_table catalogue_columns cells_of are.rows catalogue_are_columns are.fit (omega (arith, are.one_each, few)) in
    subst (IsTable catalogue_columns) (sym are.made) rows
