use Rattle.std.proofs.Common.{subst, sym}
use Rattle.sqlite.specs.Held.{state}
use Rattle.survey_sqlite.specs.Rows.{IsCellsOf}
use Rattle.survey_sqlite.specs.Steps.{tables_of}
use Rattle.survey_sqlite.proofs.shown.cells_shown.Goals as goal

pub returns-in-Ok-read_cells-clause-cells : goal.returns-in-Ok-read_cells-clause-cells
returns-in-Ok-read_cells-clause-cells g c = λ clean rest.
    let old = tables_of (state g.S.Store c.args.conn.now) in
    c.in-Ok-read_cells.ensures.cells old c.args.field.now
    (subst (IsCellsOf old c.args.field.now) (sym c.deref.ensures.value) (c.in-Ok.ensures.cells clean rest))
