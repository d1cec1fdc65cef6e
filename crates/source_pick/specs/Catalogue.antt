-- Model: the catalogue: for each source some whole numbers, from the sums over its component and from its flux.
use Rattle.std.specs.Prelude.{ℕ, ◌+◌, ◌*◌, ◌/◌, ◌%◌, ◌^◌, ◌-◌, cond, ℤ, pos, neg_ℤ, ◌+ℤ◌, ◌-ℤ◌, ◌*ℤ◌, ◌≤ℤ◌, List, [], ◌∷◌, map}
use Rattle.std.specs.List.{enumerate_from}
use Rattle.std.specs.Int.{int_div_euclid}
use Rattle.std.specs.Ordering.{int_eq}
use Rattle.comp_tree.specs.declared.shape.Connect.{Connect}
use Rattle.comp_tree.specs.Raster.{Raster}
use Rattle.comp_tree.specs.Components.{tree_of}
use Rattle.comp_tree.specs.Nesting.{level_of_node}
use Rattle.comp_tree.specs.Windows.{Window}
use Rattle.node_sums.specs.declared.entry.Sums.{Sums}
use Rattle.node_sums.specs.Sums.{sums_of}
use Rattle.node_sums.specs.Flux.{base_of, flux_of}
use Rattle.source_pick.specs.declared.choice.Choice.{Choice}
use Rattle.source_pick.specs.declared.catalogue.CatRow.{CatRow}
use Rattle.source_pick.specs.Sources.{sources}

-- a / d, for a d above 0, rounded towards minus infinity
abbrev pub floor_of : ℤ → ℤ → ℤ
floor_of a d = int_div_euclid a d

-- a coordinate of the centre in thousandths: weighted by value less base, and without weights where the flux is 0
unfoldable pub centre_of : ℤ → ℕ → ℤ → ℕ → ℤ
centre_of moment sum flux area =
    cond (int_eq flux (pos 0)) (floor_of (pos (1000 * sum)) (pos area)) (floor_of (pos 1000 *ℤ moment) flux)

-- the variance or the covariance of the positions of the pixels, in thousandths
unfoldable pub spread_of : ℕ → ℕ → ℕ → ℕ → ℤ
spread_of area products first second =
    floor_of (pos 1000 *ℤ (pos (area * products) -ℤ pos (first * second))) (pos (area * area))

-- the row of a node from its level, its base, its flux and its sums, in a plane with so many columns
unfoldable pub measured_row : ℕ → ℤ → ℤ → ℤ → ℕ → Sums → CatRow
measured_row number level base flux width s = record {
  number = pos number;
  level = level;
  base = base;
  area = pos s.area;
  flux = flux;
  peak = s.peak;
  xmin = pos s.xmin;
  xmax = pos s.xmax;
  ymin = pos s.ymin;
  ymax = pos s.ymax;
  xfirst = pos (s.first % width + 1);
  yfirst = pos (s.first / width + 1);
  xcen = centre_of (s.rx -ℤ base *ℤ pos s.x) s.x flux s.area;
  ycen = centre_of (s.ry -ℤ base *ℤ pos s.y) s.y flux s.area;
  xvar = spread_of s.area s.xx s.x s.x;
  yvar = spread_of s.area s.yy s.y s.y;
  xycov = spread_of s.area s.xy s.x s.y;
}

-- the row of node n of the plane's tree, as source with this number
unfoldable pub catalogue_row : Raster → Connect → ℕ → ℕ → CatRow
catalogue_row r connect number n =
    measured_row number (level_of_node r connect n) (base_of (tree_of r connect) n) (flux_of r connect n) r.shape.width (sums_of r connect n)

-- a row of a window, as a row of the whole: columns, rows and centres are moved by the window's corner
unfoldable pub moved_row : Window → CatRow → CatRow
moved_row w row = record {
  number = row.number;
  level = row.level;
  base = row.base;
  area = row.area;
  flux = row.flux;
  peak = row.peak;
  xmin = row.xmin +ℤ pos w.left;
  xmax = row.xmax +ℤ pos w.left;
  ymin = row.ymin +ℤ pos w.top;
  ymax = row.ymax +ℤ pos w.top;
  xfirst = row.xfirst +ℤ pos w.left;
  yfirst = row.yfirst +ℤ pos w.top;
  xcen = row.xcen +ℤ pos (1000 * w.left);
  ycen = row.ycen +ℤ pos (1000 * w.top);
  xvar = row.xvar;
  yvar = row.yvar;
  xycov = row.xycov;
}

-- the rows of some nodes, which are numbered from 1
unfoldable pub catalogue_of : Raster → Connect → List ℕ → List CatRow
catalogue_of r connect picked = map (λ e. catalogue_row r connect e.0 e.1) (enumerate_from 1 picked)

-- the catalogue of the sources
unfoldable pub catalogue : Raster → Connect → Choice → List CatRow
catalogue r connect choice = catalogue_of r connect (sources r connect choice)

-- the numbers of a row, in the order of the columns
abbrev pub cells_of : CatRow → List ℤ
cells_of row =
    row.number ∷ row.level ∷ row.base ∷ row.area ∷ row.flux ∷ row.peak
    ∷ row.xmin ∷ row.xmax ∷ row.ymin ∷ row.ymax ∷ row.xfirst ∷ row.yfirst
    ∷ row.xcen ∷ row.ycen ∷ row.xvar ∷ row.yvar ∷ row.xycov ∷ []

-- a number fits a column of 32 bits
pub record FitsColumn (z : ℤ) : Type 0 where
  pub low : neg_ℤ (pos (2 ^ 31)) ≤ℤ z
  pub high : z ≤ℤ pos (2 ^ 31 - 1)

-- the numbers of a row that stand in columns of 32 bits fit them
pub record FitsColumns (row : CatRow) : Type 0 where
  pub number : FitsColumn row.number
  pub area : FitsColumn row.area
  pub xmin : FitsColumn row.xmin
  pub xmax : FitsColumn row.xmax
  pub ymin : FitsColumn row.ymin
  pub ymax : FitsColumn row.ymax
  pub xfirst : FitsColumn row.xfirst
  pub yfirst : FitsColumn row.yfirst
  pub xcen : FitsColumn row.xcen
  pub ycen : FitsColumn row.ycen

-- the centre lies within the box around the pixels
pub record IsCentred (row : CatRow) : Type 0 where
  pub left : (pos 1000 *ℤ row.xmin) ≤ℤ row.xcen
  pub right : row.xcen ≤ℤ (pos 1000 *ℤ row.xmax)
  pub bottom : (pos 1000 *ℤ row.ymin) ≤ℤ row.ycen
  pub top : row.ycen ≤ℤ (pos 1000 *ℤ row.ymax)
