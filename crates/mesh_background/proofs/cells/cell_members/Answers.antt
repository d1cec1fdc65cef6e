use Rattle.std.proofs.Common.{◌≡◌, ℕ, ◌+◌, ◌-◌, ◌*◌, ◌<◌, ◌≤◌, min, Fits, w32, sym, ap, subst, ◌∙◌, arith}
use Rattle.comp_tree.specs.Limits.{IsWithinLimits}
use Rattle.comp_tree.specs.declared.shape.Shape.{Shape}
use Rattle.comp_tree.specs.Raster.{IsPlane}
use Rattle.mesh_background.specs.Mesh.{cell_count}
use Rattle.mesh_background.specs.Bounds.{IsCell}
use Rattle.mesh_background.proofs.Extents.{room-few}
use Rattle.mesh_background.proofs.Rows.{place-fits, row-fits}
use Rattle.mesh_background.proofs.Gathering.{gather-start, row-within, gather-row, gather-end}
use Rattle.mesh_background.proofs.cells.cell_members.Goals as goal

-- the pixels of a cell's row
record IsFew (width y left right : ℕ) : Type 0 where
  row : Fits w32 (y * width)
  first : Fits w32 (y * width + left)
  end : Fits w32 (y * width + right)

few : (mesh width height k left right top bottom y : ℕ) → IsWithinLimits width height → IsCell mesh width height k left right top bottom → y < bottom
    → IsFew width y left right
few mesh width height k left right top bottom y limits c lt =
    let r : right ≡ min (left + mesh) width = c.right_is in
    let b : bottom ≡ min (top + mesh) height = c.bottom_is in
    let across : left < right = c.some_columns in
    let down : y < height = omega (arith, lt, b) in
    record {
      row = row-fits width height y limits down;
      first = place-fits width height y left limits down (omega (arith, across, r));
      end = place-fits width height y right limits down (omega (arith, r));
    }

pub overflow_sub-room : goal.overflow_sub-room
overflow_sub-room c = omega (arith, c.cell-bounds.ensures.some_columns)

pub overflow_sub-room-2 : goal.overflow_sub-room-2
overflow_sub-room-2 c = omega (arith, c.cell-bounds.ensures.some_rows)

pub overflow_mul-room : goal.overflow_mul-room
overflow_mul-room c =
    let g = c.args.grid.now in
    let b = c.cell-bounds.result in
    let most : (b.right - b.left) * (b.bottom - b.top) ≤ 2147483647 =
    room-few g.mesh g.shape.width g.shape.height c.args.cell b.left b.right b.top b.bottom g.shape.within_limits c.cell-bounds.ensures in
    omega (arith, most)

pub loop-y-init : goal.loop-y-init
loop-y-init c =
    let g = c.args.grid.now in
    let b = c.cell-bounds.result in
    let cell = subst (λ (s : Shape). IsCell g.mesh s.width s.height c.args.cell b.left b.right b.top b.bottom) c.requires.shape c.cell-bounds.ensures in
    gather-start c.args.plane.now g.mesh c.args.cell b.left b.right b.top b.bottom b.top c.in_ok-members.members.items cell (λ i. b.top)
    c.in_ok-members.ensures.items

pub push_values-requires-clause-ordered : goal.push_values-requires-clause-ordered
push_values-requires-clause-ordered c = omega (arith, c.cell-bounds.ensures.some_columns)

pub push_values-requires-clause-within : goal.push_values-requires-clause-within
push_values-requires-clause-within c =
    let g = c.args.grid.now in
    let b = c.cell-bounds.result in
    let r = c.args.plane.now in
    let cell = subst (λ (s : Shape). IsCell g.mesh s.width s.height c.args.cell b.left b.right b.top b.bottom) c.requires.shape c.cell-bounds.ensures in
    let wide : c.shape-width.result.width ≡ r.shape.width = ap (λ (s : Shape). s.width) c.shape-width.ensures.same in
    let plane : IsPlane r = c.shape-width.ensures.pixels ∙ ap (λ (s : Shape). s.width * s.height) c.shape-width.ensures.same in
    row-within r g.mesh c.args.cell b.left b.right b.top b.bottom c.loop-y.y c.shape-width.result.width plane cell c.loop-y-test.true wide

pub loop-y-preserved : goal.loop-y-preserved
loop-y-preserved c =
    let g = c.args.grid.now in
    let b = c.cell-bounds.result in
    let r = c.args.plane.now in
    let cell = subst (λ (s : Shape). IsCell g.mesh s.width s.height c.args.cell b.left b.right b.top b.bottom) c.requires.shape c.cell-bounds.ensures in
    let wide : c.shape-width.result.width ≡ r.shape.width = ap (λ (s : Shape). s.width) c.shape-width.ensures.same in
    gather-row r g.mesh c.args.cell b.left b.right b.top b.bottom c.loop-y.y c.shape-width.result.width c.loop-y.members.items c.push_values.new.members.items
    cell
    c.loop-y.auto.y c.loop-y-test.true wide c.loop-y.invariant c.in_ok-push_values.ensures

pub returns : goal.returns
returns c =
    let g = c.args.grid.now in
    let b = c.cell-bounds.result in
    let r = c.args.plane.now in
    let cell = subst (λ (s : Shape). IsCell g.mesh s.width s.height c.args.cell b.left b.right b.top b.bottom) c.requires.shape c.cell-bounds.ensures in
    let plane : IsPlane r = c.shape-width.ensures.pixels ∙ ap (λ (s : Shape). s.width * s.height) c.shape-width.ensures.same in
    let low : b.top < b.bottom = c.cell-bounds.ensures.some_rows in
    let y_is : c.loop-y.y ≡ b.bottom = omega (arith, low, c.loop-y.auto.y-end, c.loop-y-test.false) in
    gather-end r g.mesh c.args.cell b.left b.right b.top b.bottom c.loop-y.y c.loop-y.members.items plane cell y_is c.loop-y.invariant

pub cell-bounds-requires : goal.cell-bounds-requires
cell-bounds-requires c = subst (λ (s : Shape). c.args.cell < cell_count c.args.grid.now.mesh s) (sym c.requires.shape) c.requires.cell

pub overflow_cast-room : goal.overflow_cast-room
overflow_cast-room c =
    let g = c.args.grid.now in
    let b = c.cell-bounds.result in
    let most : (b.right - b.left) * (b.bottom - b.top) ≤ 2147483647 =
    room-few g.mesh g.shape.width g.shape.height c.args.cell b.left b.right b.top b.bottom g.shape.within_limits c.cell-bounds.ensures in
    omega (arith, most)

pub overflow_mul-y : goal.overflow_mul-y
overflow_mul-y c =
    let b = c.cell-bounds.result in
    let s : Shape = c.shape-width.result in
    let cell = subst (λ (t : Shape). IsCell c.args.grid.now.mesh t.width t.height c.args.cell b.left b.right b.top b.bottom)
    (c.requires.shape ∙ sym c.shape-width.ensures.same) c.cell-bounds.ensures in
    (few c.args.grid.now.mesh s.width s.height c.args.cell b.left b.right b.top b.bottom c.loop-y.y s.within_limits cell c.loop-y-test.true).row

pub overflow_add-y : goal.overflow_add-y
overflow_add-y c =
    let b = c.cell-bounds.result in
    let s : Shape = c.shape-width.result in
    let cell = subst (λ (t : Shape). IsCell c.args.grid.now.mesh t.width t.height c.args.cell b.left b.right b.top b.bottom)
    (c.requires.shape ∙ sym c.shape-width.ensures.same) c.cell-bounds.ensures in
    (few c.args.grid.now.mesh s.width s.height c.args.cell b.left b.right b.top b.bottom c.loop-y.y s.within_limits cell c.loop-y-test.true).first

pub overflow_mul-y-in-loop-y : goal.overflow_mul-y-in-loop-y
overflow_mul-y-in-loop-y c =
    let b = c.cell-bounds.result in
    let s : Shape = c.shape-width.result in
    let cell = subst (λ (t : Shape). IsCell c.args.grid.now.mesh t.width t.height c.args.cell b.left b.right b.top b.bottom)
    (c.requires.shape ∙ sym c.shape-width.ensures.same) c.cell-bounds.ensures in
    (few c.args.grid.now.mesh s.width s.height c.args.cell b.left b.right b.top b.bottom c.loop-y.y s.within_limits cell c.loop-y-test.true).row

pub overflow_add-y-in-loop-y : goal.overflow_add-y-in-loop-y
overflow_add-y-in-loop-y c =
    let b = c.cell-bounds.result in
    let s : Shape = c.shape-width.result in
    let cell = subst (λ (t : Shape). IsCell c.args.grid.now.mesh t.width t.height c.args.cell b.left b.right b.top b.bottom)
    (c.requires.shape ∙ sym c.shape-width.ensures.same) c.cell-bounds.ensures in
    (few c.args.grid.now.mesh s.width s.height c.args.cell b.left b.right b.top b.bottom c.loop-y.y s.within_limits cell c.loop-y-test.true).end
