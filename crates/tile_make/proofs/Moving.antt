-- A row that is moved to the image, as the code moves it, and where its first pixel stands.
use Rattle.std.proofs.Common.{◌≡◌, ℕ, ◌+◌, ◌-◌, ◌*◌, ◌/◌, ◌%◌, ◌^◌, ◌<◌, ◌≤◌, List, [], ◌∷◌, ◌++◌, get_or, length, map, take, take_all, refl, sym, ◌∙◌, ap, subst, arith, ℤ, neg_ℤ, lit<}
use Rattle.std.specs.List.{enumerate_from, All, AllByRecursion}
use Rattle.std.proofs.lemmas.List.{take_more, length-map, get_or-map, map-append}
use Rattle.std.proofs.lemmas.List.Elements.{filter-append, All-from_recursion}
use Rattle.std.proofs.lemmas.List.FromFn.{length-enumerate_from, get_or-enumerate_from}
use Rattle.std.specs.Prelude.{FitsSigned, filter, pos, ◌+ℤ◌, ◌*ℤ◌, ◌≤ℤ◌}
use Rattle.std.proofs.lemmas.Int.{ints, to_z-of_z, to_z_pos}
use Rattle.std.proofs.lemmas.Nat.{mod_below}
use mir.Syntax.{w64}
use mir.Val.{SFits, of_z, to_z}
use Rattle.comp_tree.specs.declared.shape.Connect.{Connect}
use Rattle.comp_tree.specs.declared.shape.Shape.{Shape}
use Rattle.comp_tree.specs.Raster.{Raster, IsPlane}
use Rattle.comp_tree.specs.Laws.{IsNode}
use Rattle.comp_tree.specs.Windows.{Window, IsInside}
use Rattle.comp_tree.proofs.Exported.{below_from_defined, in_node-defined, row_below}
use Rattle.node_sums.specs.declared.entry.Sums.{Sums}
use Rattle.node_sums.specs.Sums.{sums_of}
use Rattle.node_sums.specs.Outlines.{outline_of}
use Rattle.node_sums.proofs.Exported.{fits}
use Rattle.source_pick.specs.declared.catalogue.CatRow.{CatRow}
use Rattle.source_pick.specs.Catalogue.{catalogue_of, catalogue_row, measured_row, cells_of, moved_row, FitsColumn, FitsColumns, IsCentred}
use Rattle.source_pick.proofs.Exported.{first_inside}
use Rattle.tile_laws.specs.Knowing.{HasBoxIn}
use Rattle.tile_laws.specs.Pieces.{first_pixel}
use Rattle.tile_laws.proofs.Exported.{box_in}
use Rattle.tile_join.specs.Tiles.{is_in_frame}
use Rattle.tile_make.specs.declared.placing.TilePlace.{TilePlace}
use Rattle.tile_make.specs.Placed.{window_of_place}
use Rattle.tile_make.specs.TileOf.{own_of}
use Rattle.tile_make.specs.Told.{FirstStandsIn}

column_fits : (z : ℤ) → FitsColumn z → SFits w64 z
column_fits z k =
    let low : neg_ℤ (pos (2 ^ 31)) ≤ℤ z = k.low in
    let high : z ≤ℤ pos (2 ^ 31 - 1) = k.high in
    fits w64 (2 ^ 31) z (record { low = low; high = omega (arith, ints, high) }) (lit< tt)

pub column_read : (z : ℤ) → FitsColumn z → to_z w64 (of_z w64 z) ≡ z
column_read z k = to_z-of_z w64 z (column_fits z k)

pub moved_read : (z : ℤ) (a : ℕ) → FitsColumn z → a ≤ 65535 → to_z w64 (of_z w64 (to_z w64 (of_z w64 z) +ℤ to_z w64 a)) ≡ z +ℤ pos a
moved_read z a k l =
    let low : neg_ℤ (pos (2 ^ 31)) ≤ℤ z = k.low in
    let high : z ≤ℤ pos (2 ^ 31 - 1) = k.high in
    ap (λ (x : ℤ). to_z w64 (of_z w64 (x +ℤ to_z w64 a))) (column_read z k)
    ∙ ap (λ (x : ℤ). to_z w64 (of_z w64 (z +ℤ x))) (to_z_pos w64 a (omega (arith, l)))
    ∙ to_z-of_z w64 (z +ℤ pos a)
    (fits w64 (2 ^ 32) (z +ℤ pos a) (record { low = omega (arith, ints, low, l); high = omega (arith, ints, high, l) }) (lit< tt))

pub moved_centre_read : (z : ℤ) (a : ℕ) → FitsColumn z → a ≤ 65535
    → to_z w64 (of_z w64 (to_z w64 (of_z w64 z) +ℤ to_z w64 (of_z w64 (pos 1000 *ℤ to_z w64 a)))) ≡ z +ℤ pos (1000 * a)
moved_centre_read z a k l =
    let low : neg_ℤ (pos (2 ^ 31)) ≤ℤ z = k.low in
    let high : z ≤ℤ pos (2 ^ 31 - 1) = k.high in
    let thousand : pos 1000 *ℤ pos a ≡ pos (1000 * a) = omega (arith, ints) in
    ap (λ (x : ℤ). to_z w64 (of_z w64 (x +ℤ to_z w64 (of_z w64 (pos 1000 *ℤ to_z w64 a))))) (column_read z k)
    ∙ ap (λ (x : ℤ). to_z w64 (of_z w64 (z +ℤ to_z w64 (of_z w64 (pos 1000 *ℤ x))))) (to_z_pos w64 a (omega (arith, l)))
    ∙ ap (λ (x : ℤ). to_z w64 (of_z w64 (z +ℤ to_z w64 (of_z w64 x)))) thousand
    ∙ ap (λ (x : ℤ). to_z w64 (of_z w64 (z +ℤ x)))
    (to_z-of_z w64 (pos (1000 * a)) (fits w64 65535000 (pos (1000 * a)) (record { low = omega (arith, ints, l); high = omega (arith, ints, l) }) (lit< tt)))
    ∙ to_z-of_z w64 (z +ℤ pos (1000 * a))
    (fits w64 (2 ^ 32) (z +ℤ pos (1000 * a)) (record { low = omega (arith, ints, low, l); high = omega (arith, ints, high, l) }) (lit< tt))

-- the first pixel of a row that was moved stands in the image
pub first_stands : (r : Raster) (connect : Connect) (number n : ℕ) (whole : Shape) (w : Window) → IsPlane r → IsNode r connect n → r.shape ≡ w.shape
    → IsInside whole w → FirstStandsIn whole (moved_row w (catalogue_row r connect number n))
unfolding moved_row catalogue_row measured_row
first_stands r connect number n whole w plane node same inside = record {
  left = omega (arith, ints);
  right = omega (arith, ints, column, wide, inside.columns);
  top = omega (arith, ints);
  bottom = omega (arith, ints, row, high, inside.rows);
}
  where
    first : ℕ
    first = (sums_of r connect n).first

    below : first < length r.values
    below = below_from_defined r first (in_node-defined r connect n first (first_inside r connect n plane node))

    column : first % r.shape.width < r.shape.width
    column = mod_below first r.shape.width r.shape.within_limits.some_columns

    row : first / r.shape.width < r.shape.height
    row = row_below r.shape.width r.shape.height first (subst (λ (k : ℕ). first < k) plane below)

    wide : r.shape.width ≡ w.shape.width
    wide = ap (λ (s : Shape). s.width) same

    high : r.shape.height ≡ w.shape.height
    high = ap (λ (s : Shape). s.height) same

-- and its numbers fit their columns
moved_side : (z : ℤ) (k a : ℕ) → z ≡ pos k → k ≤ 65535 → a ≤ 65535 → FitsColumn (z +ℤ pos a)
moved_side z k a is few small = record { low = omega (arith, ints, is, few, small); high = omega (arith, ints, is, few, small) }

moved_centre : (z x y : ℤ) (k l a : ℕ) → x ≡ pos k → y ≡ pos l → l ≤ 65535 → a ≤ 65535 → (pos 1000 *ℤ x) ≤ℤ z → z ≤ℤ (pos 1000 *ℤ y)
    → FitsColumn (z +ℤ pos (1000 * a))
moved_centre z x y k l a x_is y_is few small above below = record {
  low = omega (arith, ints, x_is, small, above);
  high = omega (arith, ints, y_is, few, small, below);
}

pub moved_fits : (r : Raster) (connect : Connect) (number n : ℕ) (whole : Shape) (w : Window) (row : CatRow) → IsPlane r → IsNode r connect n
    → r.shape ≡ w.shape → IsInside whole w → row ≡ catalogue_row r connect number n → FitsColumns row → IsCentred row
    → FirstStandsIn whole (moved_row w row) → FitsColumns (moved_row w row)
unfolding moved_row catalogue_row measured_row
moved_fits r connect number n whole w row plane node same inside is columns centred first = record {
  number = columns.number;
  area = columns.area;
  xmin = moved_side row.xmin s.xmin w.left (ap (λ (x : CatRow). x.xmin) is) (omega (arith, box.columns, box.right, wide)) left;
  xmax = moved_side row.xmax s.xmax w.left (ap (λ (x : CatRow). x.xmax) is) (omega (arith, box.right, wide)) left;
  ymin = moved_side row.ymin s.ymin w.top (ap (λ (x : CatRow). x.ymin) is) (omega (arith, box.rows, box.bottom, high)) top;
  ymax = moved_side row.ymax s.ymax w.top (ap (λ (x : CatRow). x.ymax) is) (omega (arith, box.bottom, high)) top;
  xfirst =
      let a : pos 1 ≤ℤ (row.xfirst +ℤ pos w.left) = first.left in
      let b : (row.xfirst +ℤ pos w.left) ≤ℤ pos whole.width = first.right in
      record { low = omega (arith, ints, a); high = omega (arith, ints, b, whole_wide) };
  yfirst =
      let a : pos 1 ≤ℤ (row.yfirst +ℤ pos w.top) = first.top in
      let b : (row.yfirst +ℤ pos w.top) ≤ℤ pos whole.height = first.bottom in
      record { low = omega (arith, ints, a); high = omega (arith, ints, b, whole_high) };
  xcen =
      moved_centre row.xcen row.xmin row.xmax s.xmin s.xmax w.left (ap (λ (x : CatRow). x.xmin) is) (ap (λ (x : CatRow). x.xmax) is)
      (omega (arith, box.right, wide)) left centred.left centred.right;
  ycen =
      moved_centre row.ycen row.ymin row.ymax s.ymin s.ymax w.top (ap (λ (x : CatRow). x.ymin) is) (ap (λ (x : CatRow). x.ymax) is)
      (omega (arith, box.bottom, high)) top centred.bottom centred.top;
}
  where
    s : Sums
    s = sums_of r connect n

    box : HasBoxIn r.shape (outline_of (sums_of r connect n))
    box = box_in r connect n plane node

    wide : r.shape.width ≤ 65535
    wide = r.shape.within_limits.few_columns

    high : r.shape.height ≤ 65535
    high = r.shape.within_limits.few_rows

    whole_wide : whole.width ≤ 65535
    whole_wide = whole.within_limits.few_columns

    whole_high : whole.height ≤ 65535
    whole_high = whole.within_limits.few_rows

    left : w.left ≤ 65535
    left = omega (arith, inside.columns, whole_wide)

    top : w.top ≤ 65535
    top = omega (arith, inside.rows, whole_high)

-- all of them fit 64 bits
pub moved_whole : (w : Window) (row : CatRow) → AllByRecursion (FitsSigned w64) (cells_of row) → FitsColumns (moved_row w row)
    → All (FitsSigned w64) (cells_of (moved_row w row))
unfolding moved_row
moved_whole w row all columns =
    All-from_recursion (FitsSigned w64) (cells_of (moved_row w row))
    (column_fits _ columns.number, (all.1.0, (all.1.1.0, (column_fits _ columns.area, (all.1.1.1.1.0, (all.1.1.1.1.1.0, (column_fits _ columns.xmin, (column_fits _ columns.xmax, (column_fits _ columns.ymin, (column_fits _ columns.ymax, (column_fits _ columns.xfirst, (column_fits _ columns.yfirst, (column_fits _ columns.xcen, (column_fits _ columns.ycen, (all.1.1.1.1.1.1.1.1.1.1.1.1.1.1.0, (all.1.1.1.1.1.1.1.1.1.1.1.1.1.1.1.0, (all.1.1.1.1.1.1.1.1.1.1.1.1.1.1.1.1.0, tt)))))))))))))))))

-- ---- rows one behind the other

-- one row more of a catalogue
catalogue_taken : (r : Raster) (connect : Connect) (picked : List ℕ) (i : ℕ) (d : CatRow) → i < length picked
    → take (i + 1) (catalogue_of r connect picked) ≡ take i (catalogue_of r connect picked) ++ catalogue_row r connect (i + 1) (get_or picked i 0) ∷ []
unfolding catalogue_of
catalogue_taken r connect picked i d within =
    let pairs : List (ℕ × ℕ) = enumerate_from 1 picked in
    let pair : get_or pairs i (0, 0) ≡ (1 + i, get_or picked i 0) = get_or-enumerate_from 1 picked i (0, 0) within in
    let few : i < length pairs = omega (arith, within, length-enumerate_from 1 picked) in
    let rows : List CatRow = map (λ e. catalogue_row r connect e.0 e.1) pairs in
    take_more rows i d (omega (arith, few, length-map pairs (λ e. catalogue_row r connect e.0 e.1)))
    ∙ ap (λ (row : CatRow). take i rows ++ row ∷ [])
    (get_or-map (λ e. catalogue_row r connect e.0 e.1) pairs i (0, 0) d few ∙ ap (λ (e : ℕ × ℕ). catalogue_row r connect e.0 e.1) pair
    ∙ ap (λ (n : ℕ). catalogue_row r connect n (get_or picked i 0)) (omega arith))

module _ (place : TilePlace) (shape : Shape) where
  own_append : (xs : List CatRow) (x : CatRow)
      → own_of place shape (xs ++ x ∷ [])
      ≡ own_of place shape xs
      ++ filter (λ row. is_in_frame place.whole.width place.core (first_pixel place.whole.width row)) (moved_row (window_of_place place shape) x ∷ [])
  unfolding own_of
  own_append xs x =
      ap (filter (λ row. is_in_frame place.whole.width place.core (first_pixel place.whole.width row)))
      (map-append (moved_row (window_of_place place shape)) xs (x ∷ []))
      ∙ filter-append (λ row. is_in_frame place.whole.width place.core (first_pixel place.whole.width row)) (map (moved_row (window_of_place place shape)) xs)
      (moved_row (window_of_place place shape) x ∷ [])

  -- the rows so far, one more, and all of them
  pub own_none : (r : Raster) (connect : Connect) (picked : List ℕ) → own_of place shape (take 0 (catalogue_of r connect picked)) ≡ []
  unfolding own_of
  own_none r connect picked = refl

  pub own_more : (r : Raster) (connect : Connect) (picked : List ℕ) (i : ℕ) (before now : List CatRow) (row : CatRow) → i < length picked
      → before ≡ own_of place shape (take i (catalogue_of r connect picked))
      → row ≡ moved_row (window_of_place place shape) (catalogue_row r connect (i + 1) (get_or picked i 0))
      → now ≡ before ++ filter (λ x. is_in_frame place.whole.width place.core (first_pixel place.whole.width x)) (row ∷ [])
      → now ≡ own_of place shape (take (i + 1) (catalogue_of r connect picked))
  own_more r connect picked i before now row within same row_is more =
      more
      ∙ ap (λ (xs : List CatRow). xs ++ filter (λ x. is_in_frame place.whole.width place.core (first_pixel place.whole.width x)) (row ∷ [])) same
      ∙ ap (λ (x : CatRow). own_of place shape (take i (catalogue_of r connect picked))
      ++ filter (λ y. is_in_frame place.whole.width place.core (first_pixel place.whole.width y)) (x ∷ [])) row_is
      ∙ sym (own_append (take i (catalogue_of r connect picked)) (catalogue_row r connect (i + 1) (get_or picked i 0)))
      ∙ ap (own_of place shape) (sym (catalogue_taken r connect picked i row within))

  pub own_all : (r : Raster) (connect : Connect) (picked : List ℕ) (i : ℕ) (rows : List CatRow) → length picked ≤ i
      → rows ≡ own_of place shape (take i (catalogue_of r connect picked)) → rows ≡ own_of place shape (catalogue_of r connect picked)
  unfolding catalogue_of
  own_all r connect picked i rows whole same =
      same ∙ ap (own_of place shape) (take_all i (catalogue_of r connect picked)
      (omega (arith, whole, length-map (enumerate_from 1 picked) (λ e. catalogue_row r connect e.0 e.1), length-enumerate_from 1 picked)))
