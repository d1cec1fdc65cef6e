use Rattle.std.proofs.Common.{refl, subst}
use Rattle.std.specs.Prelude.{Option, IfSome}
use Rattle.source_sheet.specs.declared.sheet.Sheet.{Sheet}
use Rattle.source_sheet.specs.Laid.{IsLaidOut}
use Rattle.measure_top.proofs.picking_near.pick_sources.Goals as goal

pub pick_on_sheet-requires-clause-laid_out : goal.pick_on_sheet-requires-clause-laid_out
pick_on_sheet-requires-clause-laid_out g c = λ κs within. record {
  plane = c.args.plane.now;
  connect = c.args.order.connect;
  laid_out =
      subst (λ (o : Option Sheet). IfSome o (λ sheet. IsLaidOut c.args.plane.now c.args.order.connect c.args.choice.now sheet)) c.in-Some.is c.in_ok-sheet.ensures;
  tree_is = refl;
}
