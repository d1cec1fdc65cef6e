use Rattle.std.proofs.Common.{◌≡◌, length, arith}
use Rattle.comp_tree.specs.Stored.{shown_values}
use Rattle.comp_tree.proofs.Blocks.{no-blocks, all-in-blocks, length-shown}
use Rattle.comp_tree.proofs.pixels.add_blocks.Goals as goal

pub loop-block-init : goal.loop-block-init
loop-block-init c = no-blocks c.args.runs.now.items c.args.kept.now.items (shown_values c.args.pixels.now c.args.marks) c.requires.no_runs c.requires.none_kept

pub returns : goal.returns
returns c = λ e.
    let all : length (shown_values c.args.pixels.now c.args.marks) ≡ length c.args.pixels.now =
    length-shown c.args.pixels.now c.args.marks in
    all-in-blocks c.loop-block.block c.loop-block.runs.items c.loop-block.kept.items (shown_values c.args.pixels.now c.args.marks)
    (omega (arith, all, c.loop-block-test.false, c.div_ceil-block-end.ensures)) c.loop-block.invariant
