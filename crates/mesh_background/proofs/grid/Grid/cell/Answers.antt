use Rattle.std.proofs.Common.{◌≡◌, ℕ, ◌+◌, ◌*◌, ◌/◌, ◌%◌, ◌<◌, ◌≤◌, min, Fits, w32, sym, subst, arith}
use Rattle.comp_tree.specs.Limits.{IsWithinLimits}
use Rattle.mesh_background.specs.Bounds.{IsCell}
use Rattle.mesh_background.proofs.Extents.{cell-is, columns-some}
use Rattle.mesh_background.proofs.grid.Grid.cell.Goals as goal

-- the bounds of a cell fit, and so does a whole mesh more
record IsFew (mesh left top : ℕ) : Type 0 where
  left_fits : Fits w32 left
  right_fits : Fits w32 (left + mesh)
  top_fits : Fits w32 top
  bottom_fits : Fits w32 (top + mesh)

few : (mesh width height k left right top bottom : ℕ) → IsWithinLimits width height → mesh ≤ 65535 → IsCell mesh width height k left right top bottom
    → IsFew mesh left top
few mesh width height k left right top bottom limits small c =
    let narrow : width ≤ 65535 = limits.few_columns in
    let low : height ≤ 65535 = limits.few_rows in
    let r : right ≡ min (left + mesh) width = c.right_is in
    let b : bottom ≡ min (top + mesh) height = c.bottom_is in
    let across : left < right = c.some_columns in
    let down : top < bottom = c.some_rows in
    record {
      left_fits = omega (arith, narrow, r, across);
      right_fits = omega (arith, narrow, r, across, small);
      top_fits = omega (arith, low, b, down);
      bottom_fits = omega (arith, low, b, down, small);
    }

pub returns : goal.returns
returns c =
    let g = c.args.self.now in
    let cell : IsCell _ _ _ _ _ _ _ _ =
    cell-is g.mesh g.shape.width g.shape.height g.columns c.args.number g.some g.shape.within_limits g.columns_is c.requires in
    let right : c.min.result ≡ _ = c.min.ensures in
    let bottom : c.min-2.result ≡ _ = c.min-2.ensures in
    record {
      left_is = cell.left_is;
      right_is = right;
      top_is = cell.top_is;
      bottom_is = bottom;
      some_columns = subst (λ (n : ℕ). c.args.number % g.columns * g.mesh < n) (sym right) cell.some_columns;
      some_rows = subst (λ (n : ℕ). c.args.number / g.columns * g.mesh < n) (sym bottom) cell.some_rows;
    }

pub nonzero_rem-left : goal.nonzero_rem-left
nonzero_rem-left c =
    let g = c.args.self.now in
    subst (λ (n : ℕ). 0 < n) (sym g.columns_is) (columns-some g.mesh g.shape.width g.some g.shape.within_limits.some_columns)

pub nonzero_div-top : goal.nonzero_div-top
nonzero_div-top c =
    let g = c.args.self.now in
    subst (λ (n : ℕ). 0 < n) (sym g.columns_is) (columns-some g.mesh g.shape.width g.some g.shape.within_limits.some_columns)

pub overflow_mul-left : goal.overflow_mul-left
overflow_mul-left c =
    let g = c.args.self.now in
    (few g.mesh g.shape.width g.shape.height c.args.number _ _ _ _ g.shape.within_limits g.few
    (cell-is g.mesh g.shape.width g.shape.height g.columns c.args.number g.some g.shape.within_limits g.columns_is c.requires)).left_fits

pub overflow_mul-top : goal.overflow_mul-top
overflow_mul-top c =
    let g = c.args.self.now in
    (few g.mesh g.shape.width g.shape.height c.args.number _ _ _ _ g.shape.within_limits g.few
    (cell-is g.mesh g.shape.width g.shape.height g.columns c.args.number g.some g.shape.within_limits g.columns_is c.requires)).top_fits

pub overflow_add-left : goal.overflow_add-left
overflow_add-left c =
    let g = c.args.self.now in
    (few g.mesh g.shape.width g.shape.height c.args.number _ _ _ _ g.shape.within_limits g.few
    (cell-is g.mesh g.shape.width g.shape.height g.columns c.args.number g.some g.shape.within_limits g.columns_is c.requires)).right_fits

pub overflow_add-top : goal.overflow_add-top
overflow_add-top c =
    let g = c.args.self.now in
    (few g.mesh g.shape.width g.shape.height c.args.number _ _ _ _ g.shape.within_limits g.few
    (cell-is g.mesh g.shape.width g.shape.height g.columns c.args.number g.some g.shape.within_limits g.columns_is c.requires)).bottom_fits
