-- The rows of the sheet's sources, taken back to the plane, and their cells.
use Rattle.std.proofs.Common.{◌≡◌, ℕ, ◌+◌, ◌*◌, ◌^◌, ◌<◌, ◌≤◌, true, List, [], ◌∷◌, ◌++◌, length, take, get_or, refl, sym, ◌∙◌, ap, subst, arith, append-nil, length-append, ℤ, ◌-◌, neg_ℤ, lit<}
use Rattle.std.specs.Prelude.{pos, ◌+ℤ◌, ◌-ℤ◌, ◌*ℤ◌, ◌≤ℤ◌, Some, slice_get}
use Rattle.std.specs.List.{flat_map, enumerate_from, AllByRecursion}
use Rattle.std.proofs.lemmas.Int.{ints, to_z-of_z, to_z_pos}
use mir.Syntax.{w64}
use mir.Val.{SFits, of_z, to_z}
use Rattle.std.proofs.lemmas.Grind.{flat_map-append}
use Rattle.std.proofs.lemmas.List.{take_more, take_all, length-map, get_or-map}
use Rattle.std.proofs.lemmas.List.FromFn.{length-enumerate_from, get_or-enumerate_from}
use Rattle.std.proofs.lemmas.Option.{slice_get_within, get_or_from_slice_get}
use Rattle.lemmas.proofs.Exported.{IsAmong}
use Rattle.comp_tree.specs.declared.shape.Connect.{Connect}
use Rattle.comp_tree.specs.Raster.{Raster, IsPlane}
use Rattle.comp_tree.specs.ComponentTree.{ComponentTree}
use Rattle.comp_tree.specs.Components.{is_in_node, tree_of}
use Rattle.comp_tree.specs.Laws.{IsNode, top_of}
use Rattle.comp_tree.specs.Nesting.{pixels_of}
use Rattle.comp_tree.proofs.Exported.{among_pixels, below_from_defined, in_node-defined, in_node_from_among, top_inside}
use Rattle.node_sums.specs.Sums.{x_of, y_of, least, greatest, sums_over, sums_of}
use Rattle.node_sums.proofs.Exported.{x_small, y_small, least_at_most, greatest_up_to, fits}
use Rattle.fits_write.specs.Columns.{IsTable}
use Rattle.fits_write.specs.CatalogueColumns.{catalogue_columns}
use Rattle.fits_write.proofs.Exported.{FitEach, catalogue_are_columns, rows_are_table}
use Rattle.source_pick.specs.declared.catalogue.CatRow.{CatRow}
use Rattle.source_pick.specs.Catalogue.{catalogue_row, measured_row, cells_of, FitsColumn, FitsColumns, IsCentred}
use Rattle.source_pick.specs.Sheets.{Part, row_back, sheet_rows}
use Rattle.source_pick.proofs.Exported.{first_inside, row_fits}
use Rattle.source_sheet.specs.declared.sheet.Place.{Place}
use Rattle.source_sheet.specs.declared.back.Taken.{Taken}
use Rattle.source_sheet.specs.Laid.{part_of}
use Rattle.source_sheet.specs.Backs.{IsCoordinate, IsSmallRow, IsNear, HaveSums, found_as, found_of}
use Rattle.source_sheet.proofs.Taking.{get_mapped}

-- ---- how large the numbers of a row are

side : (n : ℕ) → n ≤ 65535 → IsCoordinate (pos n)
side n l = record { low = omega (arith, ints); high = omega (arith, ints, l) }

pub small_row : (s : Raster) (connect : Connect) (number k : ℕ) → IsPlane s → IsNode s connect k → IsSmallRow (catalogue_row s connect number k)
unfolding catalogue_row measured_row sums_of sums_over
small_row s connect number k plane hk = record {
  xmin =
      side (least (x_of s) (pixels_of s connect k))
      (let a : least (x_of s) (pixels_of s connect k) ≤ x_of s top = least_at_most (x_of s) (pixels_of s connect k) top among in
      let b : x_of s top ≤ 65535 = x_small s top in omega (arith, a, b));
  xmax = side (greatest (x_of s) (pixels_of s connect k)) (greatest_up_to (x_of s) 65535 (pixels_of s connect k) (λ p m. x_small s p));
  ymin =
      side (least (y_of s) (pixels_of s connect k))
      (let a : least (y_of s) (pixels_of s connect k) ≤ y_of s top = least_at_most (y_of s) (pixels_of s connect k) top among in
      let b : y_of s top ≤ 65535 = y_small s top plane (below top inside) in omega (arith, a, b));
  ymax =
      side (greatest (y_of s) (pixels_of s connect k))
      (greatest_up_to (y_of s) 65535 (pixels_of s connect k) (λ p m. y_small s p plane (below p (in_node_from_among s connect k p m))));
  xfirst = side (x_of s first) (x_small s first);
  yfirst = side (y_of s first) (y_small s first plane (below first first_in));
}
  where
    top : ℕ
    top = top_of s connect k

    inside : is_in_node s connect k top ≡ true
    inside = top_inside s connect k hk

    among : IsAmong top (pixels_of s connect k)
    among = among_pixels s connect k top inside

    first : ℕ
    first = least (λ p. p) (pixels_of s connect k)

    first_in : is_in_node s connect k first ≡ true
    first_in = first_inside s connect k plane hk

    below : (p : ℕ) → is_in_node s connect k p ≡ true → p < length s.values
    below p i = below_from_defined s p (in_node-defined s connect k p i)

moved_side : (z : ℤ) (a b : ℕ) → IsCoordinate z → a ≤ 65535 → b ≤ 65535 → FitsColumn (z +ℤ pos a -ℤ pos b)
moved_side z a b k l m =
    let low : pos 0 ≤ℤ z = k.low in
    let high : z ≤ℤ pos 65535 = k.high in
    record { low = omega (arith, ints, low, l, m); high = omega (arith, ints, high, l, m) }

moved_centre : (z x y : ℤ) (a b : ℕ) → (pos 1000 *ℤ x) ≤ℤ z → z ≤ℤ (pos 1000 *ℤ y) → IsCoordinate x → IsCoordinate y → a ≤ 65535 → b ≤ 65535
    → FitsColumn (z +ℤ pos (1000 * a) -ℤ pos (1000 * b))
moved_centre z x y a b above below u v l m =
    let low : pos 0 ≤ℤ x = u.low in
    let high : y ≤ℤ pos 65535 = v.high in
    record { low = omega (arith, ints, low, above, l, m); high = omega (arith, ints, high, below, l, m) }

-- a row that is taken back fits its columns too
pub back_fits : (t : Raster) (h : ℤ) (c : Place) (row : CatRow) → FitsColumns row → IsSmallRow row → IsCentred row → IsNear c
    → FitsColumns (row_back (part_of t h c) row)
unfolding row_back
back_fits t h c row columns small centred near = record {
  number = columns.number;
  area = columns.area;
  xmin = moved_side row.xmin c.left c.to_left small.xmin near.left near.to_left;
  xmax = moved_side row.xmax c.left c.to_left small.xmax near.left near.to_left;
  ymin = moved_side row.ymin c.top c.to_top small.ymin near.top near.to_top;
  ymax = moved_side row.ymax c.top c.to_top small.ymax near.top near.to_top;
  xfirst = moved_side row.xfirst c.left c.to_left small.xfirst near.left near.to_left;
  yfirst = moved_side row.yfirst c.top c.to_top small.yfirst near.top near.to_top;
  xcen = moved_centre row.xcen row.xmin row.xmax c.left c.to_left centred.left centred.right small.xmin small.xmax near.left near.to_left;
  ycen = moved_centre row.ycen row.ymin row.ymax c.top c.to_top centred.bottom centred.top small.ymin small.ymax near.top near.to_top;
}

-- ---- the cells of some rows

-- these are the cells of the first count rows
pub record AreCellsBack (tree : ComponentTree) (taken : List Taken) (count : ℕ) (items : List ℤ) : Type 0 where
  pub rows : List CatRow
  pub made : items ≡ flat_map cells_of rows
  pub one_each : length rows ≡ count
  pub fit : AllByRecursion (λ row. FitEach catalogue_columns (cells_of row)) rows
  pub exact : (s : Raster) (connect : Connect) → tree ≡ tree_of s connect → HaveSums s connect taken → (h : ℤ)
      → rows ≡ take count (sheet_rows s connect (found_of s h taken))

pub no_cells : (tree : ComponentTree) (taken : List Taken) (items : List ℤ) → items ≡ [] → AreCellsBack tree taken 0 items
no_cells tree taken items empty = record { rows = []; made = empty; one_each = refl; fit = tt; exact = λ s connect is are h. refl }

pub all_more : {X : Type 0} (P : X → Type 0) (xs : List X) (x : X) → AllByRecursion P xs → P x → AllByRecursion P (xs ++ x ∷ [])
all_more P [] x before here = (here, tt)
all_more P (y ∷ xs) x before here = (before.0, all_more P xs x before.1 here)

pub length-rows : (s : Raster) (connect : Connect) (h : ℤ) (taken : List Taken) → length (sheet_rows s connect (found_of s h taken)) ≡ length taken
unfolding sheet_rows
length-rows s connect h taken =
    length-map (enumerate_from 1 (found_of s h taken)) (λ e. row_back e.1.0 (catalogue_row s connect e.0 e.1.1))
    ∙ length-enumerate_from 1 (found_of s h taken) ∙ length-map taken (found_as s h)

pub row_numbered : (s : Raster) (connect : Connect) (h : ℤ) (taken : List Taken) (count : ℕ) (e : Taken) (d : CatRow) → slice_get taken count ≡ Some e
    → get_or (sheet_rows s connect (found_of s h taken)) count d ≡ row_back (part_of s h e.place) (catalogue_row s connect (count + 1) e.node)
unfolding sheet_rows
row_numbered s connect h taken count e d got =
    let few : count < length taken = slice_get_within taken count e got in
    let long : length (found_of s h taken) ≡ length taken = length-map taken (found_as s h) in
    let pair : get_or (enumerate_from 1 (found_of s h taken)) count (0, found_as s h e) ≡ (1 + count, get_or (found_of s h taken) count (found_as s h e)) =
    get_or-enumerate_from 1 (found_of s h taken) count (0, found_as s h e) (omega (arith, few, long)) in
    let number : 1 + count ≡ count + 1 = omega arith in
    get_or-map (λ x. row_back x.1.0 (catalogue_row s connect x.0 x.1.1)) (enumerate_from 1 (found_of s h taken)) count (0, found_as s h e) d
    (omega (arith, few, long, length-enumerate_from 1 (found_of s h taken)))
    ∙ ap (λ (x : ℕ × (Part × ℕ)). row_back x.1.0 (catalogue_row s connect x.0 x.1.1)) pair
    ∙ ap (λ (x : Part × ℕ). row_back x.0 (catalogue_row s connect (1 + count) x.1))
    (get_or_from_slice_get (found_of s h taken) count (found_as s h e) (found_as s h e) (get_mapped (found_as s h) taken count e got))
    ∙ ap (λ (n : ℕ). row_back (part_of s h e.place) (catalogue_row s connect n e.node)) number

pub cells_more : (tree : ComponentTree) (taken : List Taken) (count : ℕ) (items items' : List ℤ) (e : Taken) (row : CatRow)
    → AreCellsBack tree taken count items → slice_get taken count ≡ Some e → items' ≡ items ++ cells_of row → FitsColumns row
    → ((s : Raster) (connect : Connect) → tree ≡ tree_of s connect → HaveSums s connect taken → (t : Raster) (h : ℤ)
    → row ≡ row_back (part_of t h e.place) (catalogue_row s connect (count + 1) e.node))
    → AreCellsBack tree taken (count + 1) items'
cells_more tree taken count items items' e row before got more columns is = record {
  rows = before.rows ++ row ∷ [];
  made = more ∙ ap (λ l. l ++ cells_of row) before.made ∙ ap (λ l. flat_map cells_of before.rows ++ l) (sym (append-nil (cells_of row)))
      ∙ sym (flat_map-append cells_of before.rows (row ∷ []));
  one_each = length-append before.rows (row ∷ []) ∙ omega (arith, before.one_each);
  fit = all_more (λ (r : CatRow). FitEach catalogue_columns (cells_of r)) before.rows row before.fit (row_fits row columns);
  exact = λ s connect tree_is sums_are h.
      ap (λ (l : List CatRow). l ++ row ∷ []) (before.exact s connect tree_is sums_are h)
      ∙ ap (λ (r : CatRow). take count (sheet_rows s connect (found_of s h taken)) ++ r ∷ [])
      (is s connect tree_is sums_are s h ∙ sym (row_numbered s connect h taken count e row got))
      ∙ sym (take_more (sheet_rows s connect (found_of s h taken)) count row
      (let few : count < length taken = slice_get_within taken count e got in omega (arith, few, length-rows s connect h taken)));
}

pub all_cells : (tree : ComponentTree) (taken : List Taken) (count : ℕ) (items : List ℤ) → AreCellsBack tree taken count items
    → length taken ≤ count → (s : Raster) (connect : Connect) → tree ≡ tree_of s connect → HaveSums s connect taken → (h : ℤ)
    → items ≡ flat_map cells_of (sheet_rows s connect (found_of s h taken))
all_cells tree taken count items are whole s connect tree_is sums_are h =
    are.made
    ∙ ap (flat_map cells_of)
    (are.exact s connect tree_is sums_are h
    ∙ take_all count (sheet_rows s connect (found_of s h taken)) (omega (arith, whole, length-rows s connect h taken)))

pub cells_table : (tree : ComponentTree) (taken : List Taken) (count : ℕ) (items : List ℤ) → AreCellsBack tree taken count items
    → count ≤ 2147483647 → IsTable catalogue_columns items
cells_table tree taken count items are few =
    subst (IsTable catalogue_columns) (sym are.made)
    (rows_are_table catalogue_columns cells_of are.rows catalogue_are_columns are.fit (omega (arith, are.one_each, few)))

-- ---- a row as the code writes it

column_fits : (z : ℤ) → FitsColumn z → SFits w64 z
column_fits z k =
    let low : neg_ℤ (pos (2 ^ 31)) ≤ℤ z = k.low in
    let high : z ≤ℤ pos (2 ^ 31 - 1) = k.high in
    fits w64 (2 ^ 31) z (record { low = low; high = omega (arith, ints, high) }) (lit< tt)

pub column_read : (z : ℤ) → FitsColumn z → to_z w64 (of_z w64 z) ≡ z
column_read z k = to_z-of_z w64 z (column_fits z k)

-- by how far the place is moved
moved_by : (a b : ℕ) → a ≤ 65535 → b ≤ 65535 → to_z w64 (of_z w64 (to_z w64 a -ℤ to_z w64 b)) ≡ pos a -ℤ pos b
moved_by a b l m =
    ap (λ (x : ℤ). to_z w64 (of_z w64 (x -ℤ to_z w64 b))) (to_z_pos w64 a (omega (arith, l)))
    ∙ ap (λ (x : ℤ). to_z w64 (of_z w64 (pos a -ℤ x))) (to_z_pos w64 b (omega (arith, m)))
    ∙ to_z-of_z w64 (pos a -ℤ pos b)
    (fits w64 65535 (pos a -ℤ pos b) (record { low = omega (arith, ints, l, m); high = omega (arith, ints, l, m) }) (lit< tt))

pub moved_read : (z : ℤ) (a b : ℕ) → FitsColumn z → a ≤ 65535 → b ≤ 65535
    → to_z w64 (of_z w64 (to_z w64 (of_z w64 z) +ℤ to_z w64 (of_z w64 (to_z w64 a -ℤ to_z w64 b)))) ≡ z +ℤ pos a -ℤ pos b
moved_read z a b k l m =
    let low : neg_ℤ (pos (2 ^ 31)) ≤ℤ z = k.low in
    let high : z ≤ℤ pos (2 ^ 31 - 1) = k.high in
    let same : z +ℤ (pos a -ℤ pos b) ≡ z +ℤ pos a -ℤ pos b = omega (arith, ints) in
    ap (λ (x : ℤ). to_z w64 (of_z w64 (x +ℤ to_z w64 (of_z w64 (to_z w64 a -ℤ to_z w64 b))))) (column_read z k)
    ∙ ap (λ (x : ℤ). to_z w64 (of_z w64 (z +ℤ x))) (moved_by a b l m)
    ∙ to_z-of_z w64 (z +ℤ (pos a -ℤ pos b))
    (fits w64 (2 ^ 32) (z +ℤ (pos a -ℤ pos b)) (record { low = omega (arith, ints, low, l, m); high = omega (arith, ints, high, l, m) }) (lit< tt))
    ∙ same

pub moved_centre_read : (z : ℤ) (a b : ℕ) → FitsColumn z → a ≤ 65535 → b ≤ 65535
    → to_z w64 (of_z w64 (to_z w64 (of_z w64 z) +ℤ to_z w64 (of_z w64 (pos 1000 *ℤ to_z w64 (of_z w64 (to_z w64 a -ℤ to_z w64 b))))))
    ≡ z +ℤ pos (1000 * a) -ℤ pos (1000 * b)
moved_centre_read z a b k l m =
    let low : neg_ℤ (pos (2 ^ 31)) ≤ℤ z = k.low in
    let high : z ≤ℤ pos (2 ^ 31 - 1) = k.high in
    let thousand : pos 1000 *ℤ (pos a -ℤ pos b) ≡ pos (1000 * a) -ℤ pos (1000 * b) = omega (arith, ints) in
    let same : z +ℤ (pos (1000 * a) -ℤ pos (1000 * b)) ≡ z +ℤ pos (1000 * a) -ℤ pos (1000 * b) = omega (arith, ints) in
    ap (λ (x : ℤ). to_z w64 (of_z w64 (x +ℤ to_z w64 (of_z w64 (pos 1000 *ℤ to_z w64 (of_z w64 (to_z w64 a -ℤ to_z w64 b))))))) (column_read z k)
    ∙ ap (λ (x : ℤ). to_z w64 (of_z w64 (z +ℤ to_z w64 (of_z w64 (pos 1000 *ℤ x))))) (moved_by a b l m)
    ∙ ap (λ (x : ℤ). to_z w64 (of_z w64 (z +ℤ to_z w64 (of_z w64 x)))) thousand
    ∙ ap (λ (x : ℤ). to_z w64 (of_z w64 (z +ℤ x)))
    (to_z-of_z w64 (pos (1000 * a) -ℤ pos (1000 * b))
    (fits w64 65535000 (pos (1000 * a) -ℤ pos (1000 * b)) (record { low = omega (arith, ints, l, m); high = omega (arith, ints, l, m) }) (lit< tt)))
    ∙ to_z-of_z w64 (z +ℤ (pos (1000 * a) -ℤ pos (1000 * b)))
    (fits w64 (2 ^ 32) (z +ℤ (pos (1000 * a) -ℤ pos (1000 * b))) (record { low = omega (arith, ints, low, l, m); high = omega (arith, ints, high, l, m) })
    (lit< tt))
    ∙ same
