use Rattle.std.proofs.Common.{◌∙◌}
use Rattle.std.proofs.lemmas.Result.{on_ok_weaker}
use Rattle.source_sheet.proofs.Grouping.{near_is, near_below, spread_all}
use Rattle.source_sheet.proofs.groups.spread.Goals as goal

pub mark_high-requires-clause-inside : goal.mark_high-requires-clause-inside
mark_high-requires-clause-inside c =
    near_below c.args.plane.now c.args.connect c.args.a c.deref.result.now
    (near_is c.args.plane.now c.shape.result c.args.connect c.args.a c.deref.result.now c.shape.ensures.same c.shape.ensures.pixels
    (c.deref.ensures.0 ∙ c.neighbours-near.ensures))

pub returns : goal.returns
returns c =
    on_ok_weaker c.mark_high.result
    (spread_all c.args.plane.now c.args.connect c.args.choice.now.threshold c.args.a c.deref.result.now c.args.marks.now c.args.pixels.now.items
    c.mark_high.new.marks c.mark_high.new.pixels.items
    (near_is c.args.plane.now c.shape.result c.args.connect c.args.a c.deref.result.now c.shape.ensures.same c.shape.ensures.pixels
    (c.deref.ensures.0 ∙ c.neighbours-near.ensures)))
    c.mark_high.ensures
