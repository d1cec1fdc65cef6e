use Rattle.std.proofs.Common.{◌∙◌, sym}
use Rattle.comp_tree.specs.Stored.{shown_values}
use Rattle.comp_tree.proofs.Blocks.{count-in-blocks, these-in-blocks, length-shown}
use Rattle.comp_tree.proofs.pixels.blocks_of.Goals as goal

pub invariant_of-result : goal.invariant_of-result
invariant_of-result c =
    count-in-blocks c.len-3.result c.add_blocks.new.runs.items c.add_blocks.new.kept.items (shown_values c.args.pixels.now c.args.marks)
    (length-shown c.args.pixels.now c.args.marks ∙ sym c.len-3.ensures) (c.in_ok-add_blocks.ensures c.if-not-branch.false)

pub returns : goal.returns
returns c =
    these-in-blocks c.len-3.result c.add_blocks.new.runs.items c.add_blocks.new.kept.items (shown_values c.args.pixels.now c.args.marks)
    (length-shown c.args.pixels.now c.args.marks ∙ sym c.len-3.ensures) (c.in_ok-add_blocks.ensures c.if-not-branch.false)
