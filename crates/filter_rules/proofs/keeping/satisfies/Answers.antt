use Rattle.std.proofs.Common.{rules, ◌∙◌, arith}
use Rattle.std.proofs.lemmas.Int.{to_z-of_z}
use mir.Syntax.{w64}
use mir.Val.{SFits}
use Rattle.node_sums.proofs.Exported.{outlines_rows}
use Rattle.filter_rules.proofs.Boxes.{trees_box, admitted}
use Rattle.filter_rules.proofs.keeping.satisfies.Goals as goal

pub bounds-outlines-n : goal.bounds-outlines-n
bounds-outlines-n c = omega (arith, c.requires.node, outlines_rows c.args.tree.now c.args.outlines.now c.requires.outlines)

pub admits-requires-clause-pixels : goal.admits-requires-clause-pixels
admits-requires-clause-pixels c = trees_box c.args.tree.now c.args.outlines.now c.args.n _ c.requires.outlines c.requires.node

pub returns : goal.returns
returns c = λ plane connect e f.
    let fits : SFits w64 c.flux_by_outlines.result = search rules in
    admitted plane connect c.args.tree.now c.args.outlines.now c.args.criterion.now c.args.n _ _ c.admits.result e f c.requires.node
    (to_z-of_z w64 c.flux_by_outlines.result fits ∙ c.flux_by_outlines.ensures.exact plane connect e f) c.admits.ensures
