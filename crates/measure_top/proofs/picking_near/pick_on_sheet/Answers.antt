use Rattle.source_pick.specs.Catalogue.{catalogue}
use Rattle.measure_top.proofs.picking_near.pick_on_sheet.Goals as goal

pub returns-clause-exact : goal.returns-clause-exact
unfolding catalogue
returns-clause-exact g c = λ plane l. record {
  numbers_are = c.in_ok-found.ensures.map plane c.args.order.connect l c.in_ok-tree.ensures;
  nodes_are = record {
    rows = c.in_ok-found.ensures.rows plane c.args.order.connect l c.in_ok-tree.ensures;
    representatives = c.in_ok-found.ensures.tops plane c.args.order.connect l c.in_ok-tree.ensures;
  };
}
