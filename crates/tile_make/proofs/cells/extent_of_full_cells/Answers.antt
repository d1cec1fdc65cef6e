use Rattle.std.proofs.Common.{sym, ◌∙◌, arith}
use Rattle.tile_make.proofs.Exactly.{no_sure, one_sure, flat_known, meshless_known, full_known}
use Rattle.tile_make.proofs.cells.extent_of_full_cells.Goals.{else-not-order-via-then-not-order+then-order-gt0+in_ok-has_full_mesh+else-not-branch, else-not-order-via-then-not-order+else-order-gt0, else-not-order-via-else-not-order}
use Rattle.tile_make.proofs.cells.extent_of_full_cells.Goals as goal

pub returns-then-not-branch-clause-exact : goal.returns-then-not-branch-clause-exact
returns-then-not-branch-clause-exact c =
    no_sure c.args.order.now.flat c.args.order.now.mesh c.args.place.now c.args.image.now c.if-not-order.true c.if-order-gt0.true
    (sym c.in_ok-has_full_mesh.ensures.exact ∙ c.if-not-branch.true)

pub returns-clause-exact : goal.returns-clause-exact
returns-clause-exact c =
    let flat = c.args.order.now.flat in
    let mesh = c.args.order.now.mesh in
    let place = c.args.place.now in
    let image = c.args.image.now in
    one_sure flat mesh place image c.clear_part.result c.clear_part.ensures
    (elim c.else-not-order.branch [
      | else-not-order-via-then-not-order+then-order-gt0+in_ok-has_full_mesh+else-not-branch w ↦
          full_known flat mesh place image (sym w.in_ok-has_full_mesh.ensures.exact ∙ w.if-not-branch.false)
      | else-not-order-via-then-not-order+else-order-gt0 w ↦ meshless_known flat mesh place image (omega (arith, w.if-order-gt0.false))
      | else-not-order-via-else-not-order w ↦ flat_known flat mesh place image w.if-not-order.false
    ])
