use Rattle.std.proofs.Common.{◌∙◌, subst, sym, arith, rules, w64, SFits}
use Rattle.std.proofs.lemmas.Int.{to_z-of_z}
use Rattle.fits_write.specs.Columns.{IsTable}
use Rattle.fits_write.specs.CatalogueColumns.{measured_columns}
use Rattle.measure_top.proofs.MeasuredRows.{row_table, measure_read, size_read, cells_are}
use Rattle.dual_measure.proofs.Exported.{one_for_each}
use Rattle.measure_top.proofs.measuring.row_cells.Goals as goal

pub bounds-measures-n : goal.bounds-measures-n
bounds-measures-n c = omega (arith, c.requires.node, one_for_each c.args.tree.now c.args.measures.now c.requires.measures)

pub measured_cells-requires : goal.measured_cells-requires
measured_cells-requires c =
    let size = size_read c.args.tree.now c.args.measures.now c.args.n _ c.requires.measures c.requires.small c.requires.node in size.sum

pub returns-clause-exact : goal.returns-clause-exact
returns-clause-exact c = λ plane values connect one tree_is measures_are.
    let fits : SFits w64 c.back-around.result = search rules in
    c.measured_cells.ensures
    ∙ cells_are c.args.row.now _ _ _ _ (measure_read values plane connect c.args.tree.now c.args.measures.now c.args.n _ tree_is measures_are
    c.requires.node)
    (to_z-of_z w64 c.back-around.result fits ∙ c.back-around.ensures values plane connect one tree_is measures_are)

pub returns-clause-table : goal.returns-clause-table
returns-clause-table c =
    let size = size_read c.args.tree.now c.args.measures.now c.args.n _ c.requires.measures c.requires.small c.requires.node in
    subst (IsTable measured_columns) (sym c.measured_cells.ensures) (row_table c.args.row.now _ _ c.requires.columns size)
