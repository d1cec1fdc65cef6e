use Rattle.measure_top.proofs.PickedRows.{rep_is}
use Rattle.measure_top.proofs.picking_near.picked_node.Goals as goal

pub returns-clause-row : goal.returns-clause-row
returns-clause-row c = c.row.ensures.exact

pub returns-clause-rep : goal.returns-clause-rep
returns-clause-rep c = λ plane connect is. rep_is plane connect c.args.tree.now c.rows.result.now c.args.n _ is c.rows.ensures c.requires.node

pub returns-clause-columns : goal.returns-clause-columns
returns-clause-columns c = c.row.ensures.columns
