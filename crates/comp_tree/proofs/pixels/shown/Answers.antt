use Rattle.std.proofs.Common.{◌∙◌}
use Rattle.comp_tree.proofs.Blocks.{shown-all, shown-marked}
use Rattle.comp_tree.proofs.pixels.shown.Goals as goal

pub returns-in-None : goal.returns-in-None
returns-in-None c = shown-all c.args.pixels.now c.args.marks c.pixel.result c.args.p c.in-None.is c.pixel.ensures

pub returns-in-Some : goal.returns-in-Some
returns-in-Some c =
    c.pixel_if.ensures ∙ shown-marked c.args.pixels.now c.args.marks c.in-Some.marks c.args.p c.in-Some.is c.requires.inside
