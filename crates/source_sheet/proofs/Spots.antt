-- Where the pixels of a place stand in the plane and on the sheet.
use Rattle.std.proofs.Common.{◌≡◌, ℕ, ◌+◌, ◌-◌, ◌*◌, ◌/◌, ◌%◌, ◌<◌, ◌≤◌, ◌∙◌, ap, subst, arith}
use Rattle.std.specs.Prelude.{ℤ}
use Rattle.std.proofs.lemmas.Nat.{mod_below, div_below, mul-add-lt}
use Rattle.comp_tree.specs.declared.shape.Shape.{Shape}
use Rattle.comp_tree.specs.Raster.{Raster}
use Rattle.comp_tree.specs.Windows.{in_whole}
use Rattle.comp_tree.proofs.Exported.{IsAt, in_whole-at, some_columns}
use Rattle.source_pick.specs.Sheets.{taken_back}
use Rattle.source_sheet.specs.declared.sheet.Place.{Place}
use Rattle.source_sheet.specs.Laid.{windows_of, part_of}
use Rattle.source_sheet.specs.Checks.{LiesInBoth, IsInWindow}

-- where a pixel of the place's window on the sheet stands, there and in the plane
pub record IsBack (whole onto : Shape) (c : Place) (p : ℕ) : Type 0 where
  pub it : ℕ
  pub row : p / onto.width ≡ it / c.shape.width + c.to_top
  pub column : p % onto.width ≡ it % c.shape.width + c.to_left
  pub low_row : it / c.shape.width + c.top < whole.height
  pub low_column : it % c.shape.width + c.left < whole.width
  pub top : c.top ≤ 65535
  pub left : c.left ≤ 65535
  pub few_rows : p / onto.width ≤ 65535
  pub few_columns : p % onto.width ≤ 65535

pub stands_there : (whole onto : Shape) (c : Place) (p : ℕ) → LiesInBoth whole onto c → (l : IsInWindow onto.width (windows_of c).to p)
    → IsAt onto.width c.shape.width c.to_left c.to_top p l.it
stands_there whole onto c p i l = subst (λ (x : ℕ). IsAt onto.width c.shape.width c.to_left c.to_top x l.it) l.place (in_whole-at onto (windows_of c).to l.it i.to)

pub back_from : (whole onto : Shape) (c : Place) (p : ℕ) → LiesInBoth whole onto c → IsInWindow onto.width (windows_of c).to p → IsBack whole onto c p
back_from whole onto c p i l =
    let at : IsAt onto.width c.shape.width c.to_left c.to_top p l.it = stands_there whole onto c p i l in
    let row : p / onto.width ≡ l.it / c.shape.width + c.to_top = at.row in
    let column : p % onto.width ≡ l.it % c.shape.width + c.to_left = at.column in
    let below : l.it < c.shape.width * c.shape.height = l.below in
    let y : l.it / c.shape.width < c.shape.height = div_below l.it c.shape.width c.shape.height (some_columns c.shape) (omega (arith, below)) in
    let x : l.it % c.shape.width < c.shape.width = mod_below l.it c.shape.width (some_columns c.shape) in
    let rows : c.top + c.shape.height ≤ whole.height = i.from.rows in
    let columns : c.left + c.shape.width ≤ whole.width = i.from.columns in
    let rows_there : c.to_top + c.shape.height ≤ onto.height = i.to.rows in
    let columns_there : c.to_left + c.shape.width ≤ onto.width = i.to.columns in
    let high : whole.height ≤ 65535 = whole.within_limits.few_rows in
    let wide : whole.width ≤ 65535 = whole.within_limits.few_columns in
    let high_there : onto.height ≤ 65535 = onto.within_limits.few_rows in
    let wide_there : onto.width ≤ 65535 = onto.within_limits.few_columns in
    record {
      it = l.it;
      row = row;
      column = column;
      low_row = omega (arith, y, rows);
      low_column = omega (arith, x, columns);
      top = omega (arith, rows, high);
      left = omega (arith, columns, wide);
      few_rows = omega (arith, row, y, rows_there, high_there);
      few_columns = omega (arith, column, x, columns_there, wide_there);
    }

-- the sum by which it is found in the plane
pub back_row : (whole onto : Shape) (c : Place) (p : ℕ) → IsBack whole onto c p → p / onto.width + c.top - c.to_top < whole.height
back_row whole onto c p b =
    let e : p / onto.width ≡ b.it / c.shape.width + c.to_top = b.row in
    let l : b.it / c.shape.width + c.top < whole.height = b.low_row in
    omega (arith, e, l)

pub back_column : (whole onto : Shape) (c : Place) (p : ℕ) → IsBack whole onto c p → p % onto.width + c.left - c.to_left < whole.width
back_column whole onto c p b =
    let e : p % onto.width ≡ b.it % c.shape.width + c.to_left = b.column in
    let l : b.it % c.shape.width + c.left < whole.width = b.low_column in
    omega (arith, e, l)

pub back_few : (whole onto : Shape) (c : Place) (p : ℕ) → IsBack whole onto c p
    → (p / onto.width + c.top - c.to_top) * whole.width + (p % onto.width + c.left - c.to_left) < 2147483648
back_few whole onto c p b =
    let l : (p / onto.width + c.top - c.to_top) * whole.width + (p % onto.width + c.left - c.to_left) < whole.width * whole.height =
    mul-add-lt (p / onto.width + c.top - c.to_top) whole.width (p % onto.width + c.left - c.to_left) whole.height
    (back_row whole onto c p b) (back_column whole onto c p b) in
    let f : whole.width * whole.height ≤ 2147483647 = whole.within_limits.few_pixels in
    omega (arith, l, f)

-- it is where the window of the plane has this pixel
pub back_is : (whole onto : Shape) (s : Raster) (h : ℤ) (c : Place) (p : ℕ) → LiesInBoth whole onto c → (l : IsInWindow onto.width (windows_of c).to p)
    → taken_back whole.width onto.width (part_of s h c) p ≡ in_whole whole.width (windows_of c).from l.it
unfolding taken_back in_whole
back_is whole onto s h c p i l =
    let at : IsAt onto.width c.shape.width c.to_left c.to_top p l.it = stands_there whole onto c p i l in
    let a : p / onto.width ≡ l.it / c.shape.width + c.to_top = at.row in
    let b : p % onto.width ≡ l.it % c.shape.width + c.to_left = at.column in
    let row : p / onto.width + c.top - c.to_top ≡ l.it / c.shape.width + c.top = omega (arith, a) in
    let column : p % onto.width + c.left - c.to_left ≡ l.it % c.shape.width + c.left = omega (arith, b) in
    ap (λ (x : ℕ). x * whole.width + (p % onto.width + c.left - c.to_left)) row
    ∙ ap (λ (x : ℕ). (l.it / c.shape.width + c.top) * whole.width + x) column
