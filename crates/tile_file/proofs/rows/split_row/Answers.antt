use Rattle.tile_file.proofs.CatalogueCells.{front_row}
use Rattle.tile_file.proofs.rows.split_row.Goals as goal

pub returns-in-Some-clause-some : goal.returns-in-Some-clause-some
returns-in-Some-clause-some c =
    (front_row c.args.cells.now c.in-Some.front.now c.in-Some.rest.now c.row_of.result c.in-Some.ensures.cases c.row_of.ensures.cells, c.row_of.ensures.whole)
