-- What is said of a row column by column: rows with the same numbers are the same, a moved row is that of moved sums, and the numbers of a node's
-- row fit the columns in which they stand, and all of them 64 bits.
use Rattle.std.proofs.Common.{ℕ, ◌^◌, ◌<◌, ◌≤◌, Bool, true, false, cond, List, [], ◌∷◌, length, sym, subst, arith, lit<, pos, neg_ℤ, ◌*◌, ◌≤ℤ◌}
use Rattle.std.proofs.Common.{negsuc, ℤ, FitsSigned, w64, int_lt}
use Rattle.std.specs.List.{AllByRecursion}
use Rattle.std.proofs.lemmas.Int.{ints}
use Rattle.std.specs.Int.{int_max}
use Rattle.comp_tree.specs.declared.shape.Connect.{Connect}
use Rattle.comp_tree.specs.Raster.{Raster, IsPlane, HasValuesInRange, level}
use Rattle.comp_tree.specs.Components.{nodes}
use Rattle.comp_tree.specs.Laws.{top_of}
use Rattle.comp_tree.specs.Nesting.{pixels_of, level_of_node}
use Rattle.node_sums.specs.declared.entry.Sums.{Sums}
use Rattle.node_sums.specs.Sums.{highest, sums_over, sums_of}
use Rattle.node_sums.proofs.Exported.{fits, level_up_to, level-of_node}
use Rattle.source_pick.specs.Catalogue.{spread_of, measured_row, catalogue_row, cells_of, FitsColumn, FitsColumns}
use Rattle.source_pick.specs.Numbers.{IsSpread, IsMeasured}
use Rattle.source_pick.proofs.CellsMeans.{spread_fits}
use Rattle.source_pick.proofs.CellsRows.{measured}
use Rattle.std.proofs.Common.{◌≡◌, ◌+◌, ◌/◌, ◌%◌, refl, ap, w32}
use Rattle.std.specs.Prelude.{◌+ℤ◌, ◌-ℤ◌, ◌*ℤ◌, ⊤}
use Rattle.std.proofs.lemmas.Nat.{mod_below}
use Rattle.comp_tree.specs.Windows.{Window}
use Rattle.comp_tree.proofs.Exported.{IsAt}
use Rattle.fits_write.specs.CatalogueColumns.{catalogue_columns}
use Rattle.fits_write.proofs.Exported.{FitEach}
use Rattle.node_sums.specs.Sizes.{IsUpTo}
use Rattle.source_pick.specs.declared.catalogue.CatRow.{CatRow}
use Rattle.source_pick.specs.Catalogue.{centre_of, moved_row}
use Rattle.source_pick.proofs.CellsMeans.{centre-small}
use Rattle.source_pick.proofs.WindowsMoved.{AreMovedSums, centre_from, spread_from}

-- ---- the same row

pub same_row : (a b : CatRow) → a.number ≡ b.number → a.level ≡ b.level → a.base ≡ b.base → a.area ≡ b.area → a.flux ≡ b.flux → a.peak ≡ b.peak
    → a.xmin ≡ b.xmin → a.xmax ≡ b.xmax
    → a.ymin ≡ b.ymin → a.ymax ≡ b.ymax → a.xfirst ≡ b.xfirst → a.yfirst ≡ b.yfirst → a.xcen ≡ b.xcen → a.ycen ≡ b.ycen → a.xvar ≡ b.xvar → a.yvar ≡ b.yvar
    → a.xycov ≡ b.xycov → a ≡ b
same_row a b number level base area flux peak xmin xmax ymin ymax xfirst yfirst xcen ycen xvar yvar xycov = λ i. record {
  number = number i;
  level = level i;
  base = base i;
  area = area i;
  flux = flux i;
  peak = peak i;
  xmin = xmin i;
  xmax = xmax i;
  ymin = ymin i;
  ymax = ymax i;
  xfirst = xfirst i;
  yfirst = yfirst i;
  xcen = xcen i;
  ycen = ycen i;
  xvar = xvar i;
  yvar = yvar i;
  xycov = xycov i;
}

-- ---- a row that is moved by a window's corner

-- the row of moved sums
pub row_moved : (number : ℕ) (level base flux : ℤ) (wide : ℕ) (w : Window) (narrow : ℕ) (s t : Sums) → AreMovedSums w.left w.top s t
    → IsAt wide narrow w.left w.top s.first t.first
    → flux ≡ t.r -ℤ base *ℤ pos t.area → pos 0 ≤ℤ flux → 0 < t.area
    → measured_row number level base flux wide s ≡ moved_row w (measured_row number level base flux narrow t)
unfolding measured_row moved_row
row_moved number level base flux wide w narrow s t m place e low some =
    same_row (measured_row number level base flux wide s) (moved_row w (measured_row number level base flux narrow t))
    refl refl refl (ap pos m.area) refl m.peak (ap pos m.xmin) (ap pos m.xmax) (ap pos m.ymin) (ap pos m.ymax)
    (ap pos (let c : s.first % wide ≡ t.first % narrow + w.left = place.column in omega (arith, c)))
    (ap pos (let c : s.first / wide ≡ t.first / narrow + w.top = place.row in omega (arith, c)))
    (centre_from t.rx base t.r flux s.rx t.x s.x t.area s.area w.left m.rx m.x m.area e low some)
    (centre_from t.ry base t.r flux s.ry t.y s.y t.area s.area w.top m.ry m.y m.area e low some)
    (spread_from t.area s.area t.xx s.xx t.x s.x t.x s.x w.left w.left m.area m.xx m.x m.x)
    (spread_from t.area s.area t.yy s.yy t.y s.y t.y s.y w.top w.top m.area m.yy m.y m.y)
    (spread_from t.area s.area t.xy s.xy t.x s.x t.y s.y w.left w.top m.area m.xy m.x m.y)

-- the window that is the whole plane
abbrev pub all_of : Raster → Window
all_of s = record { left = 0; top = 0; shape = s.shape }

stays : (z : ℤ) → z +ℤ pos 0 ≡ z
stays z = omega (arith, ints)

-- it moves no row
pub unmoved : (s : Raster) (row : CatRow) → moved_row (all_of s) row ≡ row
unfolding moved_row
unmoved s row = same_row (moved_row (all_of s) row) row refl refl refl refl refl refl (stays row.xmin) (stays row.xmax) (stays row.ymin) (stays row.ymax)
    (stays row.xfirst)
    (stays row.yfirst) (stays row.xcen) (stays row.ycen) refl refl refl

-- ---- the columns in which numbers fit

small_column : (n : ℕ) → n ≤ 2147483647 → FitsColumn (pos n)
small_column n h = record { low = omega (arith, ints); high = omega (arith, ints) }

centre_column : (z : ℤ) → IsUpTo 65535000 z → FitsColumn z
centre_column z h = record { low = omega (arith, ints, h.low); high = omega (arith, ints, h.high) }

pub row_columns : (number : ℕ) (level base flux : ℤ) (width : ℕ) (s : Sums) → IsMeasured number base flux width s
    → FitsColumns (measured_row number level base flux width s)
unfolding measured_row
row_columns number level base flux width s k = record {
  number = small_column number k.few;
  area = small_column s.area k.sizes.area;
  xmin = small_column s.xmin (omega (arith, k.across.ordered, k.across.high_small));
  xmax = small_column s.xmax (omega (arith, k.across.high_small));
  ymin = small_column s.ymin (omega (arith, k.along.ordered, k.along.high_small));
  ymax = small_column s.ymax (omega (arith, k.along.high_small));
  xfirst = small_column (s.first % width + 1) (omega (arith, mod_below s.first width k.some_columns, k.few_columns));
  yfirst = small_column (s.first / width + 1) (omega (arith, k.few_rows));
  xcen = centre_column (centre_of (s.rx -ℤ base *ℤ pos s.x) s.x flux s.area) (centre-small (s.rx -ℤ base *ℤ pos s.x) s.x flux s.area s.xmin s.xmax k.across);
  ycen = centre_column (centre_of (s.ry -ℤ base *ℤ pos s.y) s.y flux s.area) (centre-small (s.ry -ℤ base *ℤ pos s.y) s.y flux s.area s.ymin s.ymax k.along);
}

narrow_fits : (z : ℤ) → FitsColumn z → FitsSigned w32 z
narrow_fits (pos n) h = record { sfits = omega (arith, ints, h.high) }
narrow_fits (negsuc n) h = record { sfits = omega (arith, ints, h.low) }

-- a number of 32 bits, and one of 64 bits, before those that fit theirs
pub narrow : {Rest : Type 0} {z : ℤ} → FitsColumn z → Rest → FitsSigned w32 z × Rest
narrow {Rest} {z} h rest = (narrow_fits z h, rest)

pub wide : {Rest : Type 0} → Rest → ⊤ × Rest
wide rest = (tt, rest)

pub row_fits : (row : CatRow) → FitsColumns row → FitEach catalogue_columns (cells_of row)
unfolding catalogue_columns
row_fits row h =
    narrow h.number (wide (wide (narrow h.area (wide (wide (narrow h.xmin (narrow h.xmax (narrow h.ymin (narrow h.ymax
    (narrow h.xfirst (narrow h.yfirst (narrow h.xcen (narrow h.ycen (wide (wide (wide tt))))))))))))))))

-- ---- numbers of 64 bits

column_fits : (z : ℤ) → FitsColumn z → FitsSigned w64 z
column_fits (pos n) h = record { sfits = omega (arith, ints, h.high) }
column_fits (negsuc n) h = record { sfits = omega (arith, ints, h.low) }

greater_fits : (a b : ℤ) → FitsSigned w64 a → FitsSigned w64 b → FitsSigned w64 (int_max a b)
greater_fits a b f g = by (int_lt b a)
  where
    by : (c : Bool) → FitsSigned w64 (cond c a b)
    by true = f
    by false = g

least_fits : FitsSigned w64 (neg_ℤ (pos (2 ^ 63)))
least_fits = record { sfits = omega (arith, ints) }

peak_fits : (f : ℕ → ℤ) (ps : List ℕ) → ((p : ℕ) → FitsSigned w64 (f p)) → FitsSigned w64 (highest f ps)
peak_fits f [] each = least_fits
peak_fits f (p ∷ ps) each = greater_fits (f p) (highest f ps) (each p) (peak_fits f ps each)

one_spread_fits : (area products first second : ℕ) → IsSpread area products first second → FitsSigned w64 (spread_of area products first second)
one_spread_fits area products first second is =
    fits w64 (1000 * 2 ^ 32) (spread_of area products first second) (spread_fits area products first second is).spread (lit< tt)

flux_fits : (flux : ℤ) → pos 0 ≤ℤ flux → flux ≤ℤ pos (2 ^ 62) → FitsSigned w64 flux
flux_fits flux low high = fits w64 (2 ^ 62) flux (record { low = omega (arith, ints, low); high = high }) (lit< tt)

cells_whole : (number : ℕ) (level base flux : ℤ) (width : ℕ) (s : Sums) → IsMeasured number base flux width s → FitsSigned w64 level → FitsSigned w64 s.peak
    → AllByRecursion (FitsSigned w64) (cells_of (measured_row number level base flux width s))
unfolding measured_row
cells_whole number level base flux width s is level_fits peak =
    let columns : FitsColumns (measured_row number level base flux width s) = row_columns number level base flux width s is in
    let sizes = is.sizes in
    let some : 0 < s.area = is.across.some in (
      column_fits (pos number) columns.number,
      (
        level_fits,
        (
          fits w64 (2 ^ 37) base is.base_up_to (lit< tt),
          (
            column_fits (pos s.area) columns.area,
            (
              flux_fits flux is.across.not_negative is.across.small,
              (
                peak,
                (
                  column_fits (pos s.xmin) columns.xmin,
                  (
                    column_fits (pos s.xmax) columns.xmax,
                    (
                      column_fits (pos s.ymin) columns.ymin,
                      (
                        column_fits (pos s.ymax) columns.ymax,
                        (
                          column_fits _ columns.xfirst,
                          (
                            column_fits _ columns.yfirst,
                            (
                              column_fits _ columns.xcen,
                              (
                                column_fits _ columns.ycen,
                                (
                                  one_spread_fits s.area s.xx s.x s.x
                                      (record { some = some; few = sizes.area; products_small = sizes.xx; first_small = sizes.x; second_small = sizes.x }),
                                  (
                                    one_spread_fits s.area s.yy s.y s.y
                                        (record { some = some; few = sizes.area; products_small = sizes.yy; first_small = sizes.y; second_small = sizes.y }),
                                    (
                                      one_spread_fits s.area s.xy s.x s.y
                                          (record { some = some; few = sizes.area; products_small = sizes.xy; first_small = sizes.x; second_small = sizes.y }),
                                      tt,
                                    ),
                                  ),
                                ),
                              ),
                            ),
                          ),
                        ),
                      ),
                    ),
                  ),
                ),
              ),
            ),
          ),
        ),
      ),
    )

level_fits : (r : Raster) (p : ℕ) → HasValuesInRange r.values → FitsSigned w64 (level r p)
level_fits r p range = fits w64 (2 ^ 37) (level r p) (level_up_to r p range) (lit< tt)

node_peak : (r : Raster) (connect : Connect) (n : ℕ) → HasValuesInRange r.values → FitsSigned w64 (sums_of r connect n).peak
unfolding sums_of sums_over
node_peak r connect n range = peak_fits (level r) (pixels_of r connect n) (λ p. level_fits r p range)

-- the row of a node of a plane fits its columns, and each of its numbers 64 bits
pub catalogue_row_fits : (r : Raster) (connect : Connect) (n number : ℕ) → IsPlane r → HasValuesInRange r.values → n < length (nodes r connect)
    → number ≤ 2147483647
    → FitsColumns (catalogue_row r connect number n) × AllByRecursion (FitsSigned w64) (cells_of (catalogue_row r connect number n))
unfolding catalogue_row
catalogue_row_fits r connect n number plane range hn few =
    let is = measured r connect n plane range hn number few in
    let level : FitsSigned w64 (level_of_node r connect n) =
    subst (FitsSigned w64) (sym (level-of_node r connect n hn)) (level_fits r (top_of r connect n) range) in
    (row_columns number (level_of_node r connect n) _ _ _ _ is, cells_whole number (level_of_node r connect n) _ _ _ _ is level (node_peak r connect n range))
