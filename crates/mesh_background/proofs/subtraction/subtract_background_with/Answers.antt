use Rattle.std.proofs.Common.{◌≡◌, sym, ap, subst, ◌∙◌}
use Rattle.comp_tree.specs.Raster.{Raster}
use Rattle.mesh_background.specs.Mesh.{values_of_mesh}
use Rattle.mesh_background.specs.Residuals.{residual_with}
use Rattle.mesh_background.proofs.Residuals.{no_mesh, grid-count, grid-smooth}
use Rattle.mesh_background.proofs.subtraction.subtract_background_with.Goals as goal

pub returns-then-mesh-eq0-clause-subtracted : goal.returns-then-mesh-eq0-clause-subtracted
returns-then-mesh-eq0-clause-subtracted g c =
    let r : Raster = c.args.plane.now in
    subst (λ n. r ≡ residual_with c.args.empty r n c.args.flat) (sym c.if-mesh-eq0.true) (sym (no_mesh c.args.empty r c.args.flat))

pub smooth_mesh-requires-clause-one_each : goal.smooth_mesh-requires-clause-one_each
smooth_mesh-requires-clause-one_each g c =
    let r : Raster = c.args.plane.now in
    let grid = c.of-grid.result in
    grid-count c.args.empty r grid.mesh grid.shape grid.columns grid.rows c.deref-2.result.now
    (record { shape_is = c.of-grid.ensures.shape ∙ c.shape.ensures.same; columns_is = grid.columns_is; rows_is = grid.rows_is })
    (c.deref-2.ensures.value ∙ c.in-Ok.ensures ∙ ap (values_of_mesh c.args.empty r) (sym c.of-grid.ensures.mesh))

pub subtract_levels-requires-clause-numbers : goal.subtract_levels-requires-clause-numbers
subtract_levels-requires-clause-numbers g c = λ κs within.
    let r : Raster = c.args.plane.now in
    let grid = c.of-grid.result in
    grid-smooth c.args.empty r grid.mesh grid.shape grid.columns grid.rows c.deref-2.result.now c.deref-3.result.now
    (record { shape_is = c.of-grid.ensures.shape ∙ c.shape.ensures.same; columns_is = grid.columns_is; rows_is = grid.rows_is })
    (c.deref-2.ensures.value ∙ c.in-Ok.ensures ∙ ap (values_of_mesh c.args.empty r) (sym c.of-grid.ensures.mesh))
    (c.deref-3.ensures.value ∙ c.in-Ok-smooth_mesh.ensures)
