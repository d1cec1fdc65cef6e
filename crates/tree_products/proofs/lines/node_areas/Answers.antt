use Rattle.tree_products.proofs.EachArea.{one_area_each, list_is}
use Rattle.tree_products.proofs.lines.node_areas.Goals as goal

pub returns-clause-one_each : goal.returns-clause-one_each
returns-clause-one_each c = one_area_each c.args.plane c.requires.0 _ _ c.requires.1 (c.in_ok-areas.ensures.exact c.requires.0 c.requires.1)

pub returns-clause-lines : goal.returns-clause-lines
returns-clause-lines c = λ connect is. list_is c.args.plane connect c.args.tree _ is (c.in_ok-areas.ensures.exact connect is)
