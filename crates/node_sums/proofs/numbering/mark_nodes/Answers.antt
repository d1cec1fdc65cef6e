use Rattle.std.proofs.Common.{arith, refl, ◌<◌, length, get_or}
use Rattle.std.proofs.lemmas.Option.{slice_get-get_or}
use Rattle.node_sums.proofs.Marks.{marked_none, marked_more, marked_up_to}
use Rattle.node_sums.proofs.numbering.mark_nodes.Goals as goal

pub loop-i-init : goal.loop-i-init
loop-i-init c = marked_none (length c.args.numbers.now) c.args.nodes.now c.args.numbers.now refl c.requires.none

pub bounds-numbers-n : goal.bounds-numbers-n
bounds-numbers-n c =
    let inside : get_or c.args.nodes.now c.loop-i.i 0 < length c.args.numbers.now =
    c.requires.inside c.loop-i.i (get_or c.args.nodes.now c.loop-i.i 0) (slice_get-get_or c.args.nodes.now c.loop-i.i 0 c.loop-i-test.true) in
    omega (arith, inside, c.loop-i.invariant.one_each)

pub loop-i-preserved : goal.loop-i-preserved
loop-i-preserved c =
    marked_more (length c.args.numbers.now) c.args.nodes.now c.loop-i.numbers c.loop-i.i (get_or c.args.nodes.now c.loop-i.i 0) _ c.loop-i.invariant
    (slice_get-get_or c.args.nodes.now c.loop-i.i 0 c.loop-i-test.true)
    (c.requires.inside c.loop-i.i (get_or c.args.nodes.now c.loop-i.i 0) (slice_get-get_or c.args.nodes.now c.loop-i.i 0 c.loop-i-test.true)) refl

pub returns : goal.returns
returns c =
    marked_up_to (length c.args.numbers.now) c.args.nodes.now c.loop-i.numbers _ c.loop-i.i c.loop-i.invariant
    (omega (arith, c.loop-i-test.false, c.loop-i.auto.i-end))
