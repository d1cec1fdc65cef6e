-- The rows of a catalogue with measures: each fits its columns, and they are put one behind the other.
use Rattle.std.proofs.Common.{◌≡◌, refl, arith, ℕ, ◌≤◌, List, [], ◌∷◌, ◌++◌, length, ℤ, pos, ◌∙◌, ap, sym, subst, ◌+◌, ◌*◌, ◌<◌, take, get_or, append-nil}
use Rattle.std.proofs.Common.{length-append}
use Rattle.std.proofs.lemmas.Int.{ints}
use Rattle.fits_write.specs.declared.table.Column.{Column}
use Rattle.fits_write.specs.Columns.{IsTable}
use Rattle.source_pick.specs.declared.catalogue.CatRow.{CatRow}
use Rattle.source_pick.specs.Catalogue.{FitsColumn, FitsColumns, cells_of}
use Rattle.dual_measure.specs.declared.values.Measure.{Measure}
use Rattle.dual_measure.specs.Measures.{HasMeasureSizes, measure_of, measures_of, back_of, AreTheTreesMeasures}
use Rattle.dual_measure.specs.Columns.{measured_cells_of}
use Rattle.fits_write.specs.CatalogueColumns.{catalogue_columns, measured_columns, measured_cells_in_row}
use Rattle.fits_write.proofs.Exported.{FitEach, measured_are_columns, one_row, no_rows, tables_joined}
use Rattle.source_pick.proofs.Exported.{narrow, wide, row_fits}
use Rattle.std.specs.Prelude.{Some, slice_get, slice_index}
use Rattle.std.specs.List.{flat_map}
use Rattle.std.proofs.lemmas.Grind.{flat_map-append}
use Rattle.std.proofs.lemmas.List.{take_more, take_all}
use Rattle.std.proofs.lemmas.List.FromFn.{get_or-map-range_with_len}
use Rattle.std.proofs.lemmas.Option.{slice_get-get_or}
use Rattle.comp_tree.specs.declared.shape.Connect.{Connect}
use Rattle.comp_tree.specs.Raster.{Raster, IsPlane}
use Rattle.comp_tree.specs.ComponentTree.{ComponentTree}
use Rattle.comp_tree.specs.Components.{nodes, node_of, tree_of}
use Rattle.comp_tree.proofs.Exported.{read-node_of}
use Rattle.node_sums.proofs.Exported.{rows_are}
use Rattle.source_pick.proofs.Exported.{numbers-length}
use Rattle.dual_measure.proofs.Exported.{one_for_each}
use Rattle.source_sheet.specs.declared.tops.PickedSource.{PickedSource}
use Rattle.measure_top.specs.Picks.{StandIn, cells_at, all_cells}

-- ---- a row that fits its columns

pub many_columns : length measured_columns ≡ measured_cells_in_row
unfolding measured_columns catalogue_columns
many_columns = refl

count_fits : (n : ℕ) → n ≤ 2147483647 → FitsColumn (pos n)
count_fits n few = record { low = omega (arith, ints); high = omega (arith, ints, few) }

-- columns behind others
fit_behind : (columns behind : List Column) (numbers others : List ℤ) → FitEach columns numbers → FitEach behind others
    → FitEach (columns ++ behind) (numbers ++ others)
fit_behind [] behind [] others fit more = more
fit_behind [] behind (z ∷ numbers) others fit more = absurd fit
fit_behind (column ∷ columns) behind [] others fit more = absurd fit
fit_behind (column ∷ columns) behind (z ∷ numbers) others fit more = (fit.0, fit_behind columns behind numbers others fit.1 more)

measured_row_fits : (row : CatRow) (measure : Measure) (back : ℤ) → FitsColumns row → HasMeasureSizes measure
    → FitEach measured_columns (measured_cells_of row measure back)
unfolding measured_columns
measured_row_fits row measure back h sizes =
    let few = sizes.few in
    fit_behind catalogue_columns _ (cells_of row) _ (row_fits row h) (narrow (count_fits measure.seen (omega (arith, few)))
    (narrow (count_fits measure.missing (omega (arith, few))) (wide (wide (wide (wide (wide tt)))))))

-- a row by itself is a table
pub row_table : (row : CatRow) (measure : Measure) (back : ℤ) → FitsColumns row → HasMeasureSizes measure
    → IsTable measured_columns (measured_cells_of row measure back)
row_table row measure back h sizes =
    one_row measured_columns (measured_cells_of row measure back) measured_are_columns (measured_row_fits row measure back h sizes)

-- ---- rows one behind the other

-- these are the cells of the first count of some nodes
pub record AreMeasuredRows (tree : ComponentTree) (measures : List Measure) (picked : List PickedSource) (count : ℕ) (items : List ℤ) : Type 0 where
  pub table : IsTable measured_columns items
  pub many : length items ≡ measured_cells_in_row * count
  pub exact : (plane values : Raster) (connect : Connect) → IsPlane plane → tree ≡ tree_of plane connect → measures ≡ measures_of values plane connect
      → items ≡ all_cells plane values connect (take count picked)

pub before_rows : (tree : ComponentTree) (measures : List Measure) (picked : List PickedSource) (items : List ℤ) → items ≡ []
    → AreMeasuredRows tree measures picked 0 items
unfolding all_cells
before_rows tree measures picked items empty = record {
  table = subst (IsTable measured_columns) (sym empty) (no_rows measured_columns measured_are_columns);
  many = ap (λ (l : List ℤ). length l) empty;
  exact = λ plane values connect one is these. empty;
}

one_more : (plane values : Raster) (connect : Connect) (picked : List PickedSource) (count : ℕ) (d : PickedSource) → count < length picked
    → all_cells plane values connect (take (count + 1) picked) ≡ all_cells plane values connect (take count picked)
    ++ cells_at plane values connect (get_or picked count d)
unfolding all_cells
one_more plane values connect picked count d within =
    let cells : PickedSource → List ℤ = cells_at plane values connect in
    ap (flat_map cells) (take_more picked count d within)
    ∙ flat_map-append cells (take count picked) (get_or picked count d ∷ [])
    ∙ ap (λ l. flat_map cells (take count picked) ++ l) (append-nil _)

pub rows_more : (tree : ComponentTree) (measures : List Measure) (picked : List PickedSource) (count : ℕ) (d : PickedSource) (items items' row : List ℤ)
    → AreMeasuredRows tree measures picked count items → length picked ≤ 2147483647 → count < length picked → items' ≡ items ++ row
    → length row ≡ measured_cells_in_row → IsTable measured_columns row
    → ((plane values : Raster) (connect : Connect) → IsPlane plane → tree ≡ tree_of plane connect → measures ≡ measures_of values plane connect
    → row ≡ cells_at plane values connect (get_or picked count d))
    → AreMeasuredRows tree measures picked (count + 1) items'
rows_more tree measures picked count d items items' row before few within more cells table is =
    let many = before.many in
    record {
      table = subst (IsTable measured_columns) (sym more)
          (tables_joined measured_columns items row count 1 before.table table (many ∙ ap (λ n. n * count) (sym many_columns))
          (omega (arith, cells, many_columns)) (omega (arith, few, within)));
      many = ap (λ (l : List ℤ). length l) more ∙ length-append items row ∙ omega (arith, many, cells);
      exact = λ plane values connect one tree_is measures_are.
          more
          ∙ ap (λ l. l ++ row) (before.exact plane values connect one tree_is measures_are)
          ∙ ap (λ l. all_cells plane values connect (take count picked) ++ l) (is plane values connect one tree_is measures_are)
          ∙ sym (one_more plane values connect picked count d within);
    }

pub all_rows : (tree : ComponentTree) (measures : List Measure) (picked : List PickedSource) (count : ℕ) (items : List ℤ)
    → AreMeasuredRows tree measures picked count items
    → length picked ≤ count → (plane values : Raster) (connect : Connect) → IsPlane plane → tree ≡ tree_of plane connect
    → measures ≡ measures_of values plane connect → items ≡ all_cells plane values connect picked
all_rows tree measures picked count items are whole plane values connect one tree_is measures_are =
    are.exact plane values connect one tree_is measures_are ∙ ap (all_cells plane values connect) (take_all count picked whole)

-- ---- the row of a node

pub measure_read : (values plane : Raster) (connect : Connect) (tree : ComponentTree) (measures : List Measure) (n : ℕ) (d : Measure)
    → tree ≡ tree_of plane connect
    → measures ≡ measures_of values plane connect → n < length tree.rows → get_or measures n d ≡ measure_of values plane connect n
unfolding measures_of
measure_read values plane connect tree measures n d tree_is are within =
    ap (λ (l : List Measure). get_or l n d) are
    ∙ get_or-map-range_with_len (measure_of values plane connect) 0 (length (nodes plane connect)) n n d
    (omega (arith, within, rows_are plane connect tree tree_is)) (omega arith)

pub size_read : (tree : ComponentTree) (measures : List Measure) (n : ℕ) (d : Measure) → AreTheTreesMeasures tree measures
    → ((m : ℕ) (entry : Measure) → slice_get measures m ≡ Some entry → HasMeasureSizes entry) → n < length tree.rows → HasMeasureSizes (get_or measures n d)
size_read tree measures n d are small within =
    small n (get_or measures n d) (slice_get-get_or measures n d (omega (arith, within, one_for_each tree measures are)))

pub cells_are : (row : CatRow) (measure measure' : Measure) (back back' : ℤ) → measure ≡ measure' → back ≡ back'
    → measured_cells_of row measure back ≡ measured_cells_of row measure' back'
cells_are row measure measure' back back' a b = λ i. measured_cells_of row (a i) (b i)

-- ---- the node of a pixel

-- the number of a pixel's node, as it is read from the tree
pub number_read : (r : Raster) (connect : Connect) (tree : ComponentTree) (p : ℕ) → tree ≡ tree_of r connect → p < length r.values
    → slice_index tree.node_of p ≡ node_of r connect p
unfolding tree_of
number_read r connect tree p is within = ap (λ (t : ComponentTree). slice_index t.node_of p) is ∙ read-node_of r connect p within

-- a node's pixel has a number, which is that of a row
pub number_there : (tree : ComponentTree) (numbers : List ℕ) (nodes : List PickedSource) (k : ℕ) (d : PickedSource) → StandIn tree nodes
    → numbers ≡ tree.node_of → k < length nodes
    → ((get_or nodes k d).rep < length numbers) × (slice_index numbers (get_or nodes k d).rep < length tree.rows)
number_there tree numbers nodes k d there same within =
    subst (λ (l : List ℕ). ((get_or nodes k d).rep < length l) × (slice_index l (get_or nodes k d).rep < length tree.rows)) (sym same)
    (there k (get_or nodes k d) (slice_get-get_or nodes k d within))

-- the number that is read for it is that of its node
pub node_read : (plane values : Raster) (connect : Connect) (tree : ComponentTree) (numbers : List ℕ) (node : PickedSource) (row : List ℤ)
    → tree ≡ tree_of plane connect → numbers ≡ tree.node_of
    → node.rep < length tree.node_of
    → row ≡ measured_cells_of node.row (measure_of values plane connect (get_or numbers node.rep 0)) (back_of values plane connect (get_or numbers node.rep 0))
    → row ≡ cells_at plane values connect node
unfolding cells_at
node_read plane values connect tree numbers node row is same within cells =
    let inside : node.rep < length plane.values = omega (arith, within, numbers-length plane connect tree is) in
    cells
    ∙ ap (λ m. measured_cells_of node.row (measure_of values plane connect m) (back_of values plane connect m))
    (ap (λ (l : List ℕ). get_or l node.rep 0) same ∙ number_read plane connect tree node.rep is inside)
