use Rattle.std.proofs.Common.{◌≡◌, ◌+◌, ◌-◌, ◌*◌, ◌/◌, ◌%◌, ◌^◌, ◌<◌, ◌≤◌, ◌++◌, ℕ, Fits, w64, length, zero, suc, min, max, take, drop}
use Rattle.std.proofs.Common.{refl, ap, ◌∙◌, arith, rules}
use Rattle.std.proofs.Math.Nat.{mul_comm, mul-le-mul_right}
use Rattle.std.proofs.lemmas.Nat.{mod_below, div_below, mul-le}
use Rattle.mesh_background.proofs.Around.{rows-none, rows-next, rows-all}
use Rattle.mesh_background.proofs.smoothing.gather_around.Goals as goal

-- a cell lies in a column and a row of the grid
cell-column : (columns rows cell : ℕ) → cell < columns * rows → cell % columns < columns
cell-column columns rows cell lt = mod_below cell columns (some columns lt)
  where
    some : (n : ℕ) → cell < n * rows → 0 < n
    some zero h = absurd (omega arith)
    some (suc n) h = omega arith

cell-row : (columns rows cell : ℕ) → cell < columns * rows → cell / columns < rows
cell-row columns rows cell lt =
    let column : cell % columns < columns = cell-column columns rows cell lt in
    div_below cell columns rows (omega arith) (omega (arith, lt, mul_comm columns rows))

-- as far as the list of numbers reaches, so much fits
record IsNear (columns rows near left right count : ℕ) : Type 0 where
  row : Fits w64 (near * columns)
  start : Fits w64 (near * columns + left)
  end : Fits w64 (near * columns + right)
  offset : Fits w64 ((near * columns + left) * 8)
  order : near * columns + left ≤ near * columns + right
  inside : near * columns + right ≤ count

near-is : (columns rows near left right count : ℕ) → count ≡ columns * rows → count * 8 < 2 ^ 64 → near < rows → left ≤ right → right ≤ columns
    → IsNear columns rows near left right count
near-is columns rows near left right count long few lt lr rc =
    let le : (near + 1) * columns ≤ rows * columns = mul-le-mul_right columns (omega (arith, lt)) in
    let inside : near * columns + right ≤ count = omega (arith, le, long, rc, mul_comm columns rows) in
    record {
      row = omega (arith, inside, few);
      start = omega (arith, inside, lr, few);
      end = omega (arith, inside, few);
      offset = omega (arith, inside, lr, few);
      order = omega (arith, lr);
      inside = inside;
    }

sides-few : (columns rows cell count : ℕ) → count ≡ columns * rows → count * 8 < 2 ^ 64 → cell < columns * rows
    → Fits w64 (cell % columns + 2) × Fits w64 (cell / columns + 2)
sides-few columns rows cell count long few lt =
    let column : cell % columns < columns = cell-column columns rows cell lt in
    let row : cell / columns < rows = cell-row columns rows cell lt in
    let wide : columns * 1 ≤ columns * rows = mul-le columns 1 columns rows (omega arith) (omega (arith, row)) in
    let high : 1 * rows ≤ columns * rows = mul-le 1 rows columns rows (omega (arith, column)) (omega arith) in
    (omega (arith, column, wide, long, few), omega (arith, row, high, long, few))

-- from the row of numbers before the cell's to the one behind it, and likewise of the columns
around-is : (columns rows near left right end cell count : ℕ) → count ≡ columns * rows → count * 8 < 2 ^ 64 → cell < columns * rows
    → left ≡ max (cell % columns) 1 → right ≡ min (cell % columns + 2) columns → end ≡ min (cell / columns + 2) rows → near < end
    → IsNear columns rows near (left - 1) right count
around-is columns rows near left right end cell count long few lt l r e high =
    let column : cell % columns < columns = cell-column columns rows cell lt in
    near-is columns rows near (left - 1) right count long few (omega (arith, high, e)) (omega (arith, column, l, r)) (omega (arith, r))

pub loop-near-init : goal.loop-near-init
loop-near-init c =
    c.clear.ensures.items
    ∙ rows-none c.args.values.now c.args.columns (c.args.cell % c.args.columns) (max (c.args.cell / c.args.columns) 1 - 1) (c.max-near.result - 1)
    (ap (λ (n : ℕ). n - 1) c.max-near.ensures)

pub loop-near-preserved : goal.loop-near-preserved
loop-near-preserved c =
    let values = c.args.values.now in
    let near = c.loop-near.near in
    let columns = c.args.columns in
    let row : c.args.cell / columns < c.args.rows = cell-row columns c.args.rows c.args.cell c.requires.cell in
    let first : c.max-near.result ≡ max (c.args.cell / columns) 1 = c.max-near.ensures in
    let end : c.min-near-end.result ≡ min (c.args.cell / columns + 2) c.args.rows = c.min-near-end.ensures in
    let low : _ = c.loop-near.auto.near in
    let high : _ = c.loop-near-test.true in
    rows-next values c.loop-near.around.items c.extend_from_slice.new.self.items columns c.args.rows (c.args.cell % columns) (max (c.args.cell / columns) 1 - 1)
    near
    c.requires.one_each (cell-column columns c.args.rows c.args.cell c.requires.cell) (omega (arith, high, end)) (omega (arith, low, first))
    c.loop-near.invariant
    (c.in_ok-extend_from_slice.ensures.items
    ∙ (λ t. c.loop-near.around.items ++ take (near * columns + c.min-right.ensures t - (near * columns + (c.max-left.ensures t - 1)))
    (drop (near * columns + (c.max-left.ensures t - 1)) values)))

pub returns : goal.returns
returns c =
    let columns = c.args.columns in
    let row : c.args.cell / columns < c.args.rows = cell-row columns c.args.rows c.args.cell c.requires.cell in
    let first : c.max-near.result ≡ max (c.args.cell / columns) 1 = c.max-near.ensures in
    let end : c.min-near-end.result ≡ min (c.args.cell / columns + 2) c.args.rows = c.min-near-end.ensures in
    let near : c.loop-near.near ≡ min (c.args.cell / columns + 2) c.args.rows = omega arith in
    rows-all c.args.values.now c.loop-near.around.items columns c.args.rows (c.args.cell % columns) (c.args.cell / columns) (max (c.args.cell / columns) 1 - 1)
    c.loop-near.near row refl
    (ap (λ (n : ℕ). n - (max (c.args.cell / columns) 1 - 1)) near) c.loop-near.invariant

pub nonzero_rem-column : goal.nonzero_rem-column
nonzero_rem-column c =
    let lt : c.args.cell % c.args.columns < c.args.columns = cell-column c.args.columns c.args.rows c.args.cell c.requires.cell in
    omega (arith, lt)

pub nonzero_div-row : goal.nonzero_div-row
nonzero_div-row c =
    let lt : c.args.cell % c.args.columns < c.args.columns = cell-column c.args.columns c.args.rows c.args.cell c.requires.cell in
    omega (arith, lt)

pub overflow_sub-left : goal.overflow_sub-left
overflow_sub-left c = omega (arith, c.max-left.ensures)

pub overflow_add-column : goal.overflow_add-column
overflow_add-column c =
    let few : length c.args.values.now * 8 < 2 ^ 64 = search rules in
    (sides-few c.args.columns c.args.rows c.args.cell _ c.requires.one_each few c.requires.cell).0

pub overflow_step-near : goal.overflow_step-near
overflow_step-near c = omega (arith, c.max-near.ensures)

pub overflow_add-row : goal.overflow_add-row
overflow_add-row c =
    let few : length c.args.values.now * 8 < 2 ^ 64 = search rules in
    (sides-few c.args.columns c.args.rows c.args.cell _ c.requires.one_each few c.requires.cell).1

pub overflow_mul-near : goal.overflow_mul-near
overflow_mul-near c =
    let few : length c.args.values.now * 8 < 2 ^ 64 = search rules in
    let near =
    around-is c.args.columns c.args.rows c.loop-near.near c.max-left.result c.min-right.result c.min-near-end.result c.args.cell _ c.requires.one_each few
    c.requires.cell c.max-left.ensures c.min-right.ensures c.min-near-end.ensures c.loop-near-test.true in
    near.row

pub overflow_add-near : goal.overflow_add-near
overflow_add-near c =
    let few : length c.args.values.now * 8 < 2 ^ 64 = search rules in
    let near =
    around-is c.args.columns c.args.rows c.loop-near.near c.max-left.result c.min-right.result c.min-near-end.result c.args.cell _ c.requires.one_each few
    c.requires.cell c.max-left.ensures c.min-right.ensures c.min-near-end.ensures c.loop-near-test.true in
    near.start

pub overflow_mul-near-in-loop-near : goal.overflow_mul-near-in-loop-near
overflow_mul-near-in-loop-near c =
    let few : length c.args.values.now * 8 < 2 ^ 64 = search rules in
    let near =
    around-is c.args.columns c.args.rows c.loop-near.near c.max-left.result c.min-right.result c.min-near-end.result c.args.cell _ c.requires.one_each few
    c.requires.cell c.max-left.ensures c.min-right.ensures c.min-near-end.ensures c.loop-near-test.true in
    near.row

pub overflow_add-near-in-loop-near : goal.overflow_add-near-in-loop-near
overflow_add-near-in-loop-near c =
    let few : length c.args.values.now * 8 < 2 ^ 64 = search rules in
    let near =
    around-is c.args.columns c.args.rows c.loop-near.near c.max-left.result c.min-right.result c.min-near-end.result c.args.cell _ c.requires.one_each few
    c.requires.cell c.max-left.ensures c.min-right.ensures c.min-near-end.ensures c.loop-near-test.true in
    near.end

pub offset_bounds-values-near : goal.offset_bounds-values-near
offset_bounds-values-near c =
    let few : length c.args.values.now * 8 < 2 ^ 64 = search rules in
    let near =
    around-is c.args.columns c.args.rows c.loop-near.near c.max-left.result c.min-right.result c.min-near-end.result c.args.cell _ c.requires.one_each few
    c.requires.cell c.max-left.ensures c.min-right.ensures c.min-near-end.ensures c.loop-near-test.true in
    near.offset

pub slice_bounds-extend_from_slice-count : goal.slice_bounds-extend_from_slice-count
slice_bounds-extend_from_slice-count c =
    let few : length c.args.values.now * 8 < 2 ^ 64 = search rules in
    let near =
    around-is c.args.columns c.args.rows c.loop-near.near c.max-left.result c.min-right.result c.min-near-end.result c.args.cell _ c.requires.one_each few
    c.requires.cell c.max-left.ensures c.min-right.ensures c.min-near-end.ensures c.loop-near-test.true in
    near.order

pub slice_bounds-extend_from_slice-start : goal.slice_bounds-extend_from_slice-start
slice_bounds-extend_from_slice-start c =
    let few : length c.args.values.now * 8 < 2 ^ 64 = search rules in
    let near =
    around-is c.args.columns c.args.rows c.loop-near.near c.max-left.result c.min-right.result c.min-near-end.result c.args.cell _ c.requires.one_each few
    c.requires.cell c.max-left.ensures c.min-right.ensures c.min-near-end.ensures c.loop-near-test.true in
    near.order

pub slice_bounds-extend_from_slice-end : goal.slice_bounds-extend_from_slice-end
slice_bounds-extend_from_slice-end c =
    let few : length c.args.values.now * 8 < 2 ^ 64 = search rules in
    let near =
    around-is c.args.columns c.args.rows c.loop-near.near c.max-left.result c.min-right.result c.min-near-end.result c.args.cell _ c.requires.one_each few
    c.requires.cell c.max-left.ensures c.min-right.ensures c.min-near-end.ensures c.loop-near-test.true in
    near.inside
