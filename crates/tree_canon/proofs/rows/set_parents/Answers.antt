use Rattle.std.proofs.Common.{◌∙◌, ◌<◌, length, slice_index, ap, arith}
use Rattle.std.proofs.lemmas.List.{get_or_default}
use Rattle.comp_tree.specs.Forest.{no_node}
use Rattle.tree_canon.specs.Canonical.{node_number_at}
use Rattle.tree_canon.proofs.Finding.{read_link}
use Rattle.tree_canon.proofs.SettingParents.{set_by_none, set_by_more, set_by_all}
use Rattle.tree_canon.proofs.rows.set_parents.Goals as goal

pub loop-p-init : goal.loop-p-init
loop-p-init c = set_by_none c.args.links.now c.args.numbers.now c.args.pixels.now c.args.rows.now

pub loop-p-preserved : goal.loop-p-preserved
loop-p-preserved c =
    let within : slice_index c.args.pixels.now c.loop-p.p-index < length c.args.links.now = c.requires.within c.loop-p.p-index 0 c.loop-p-test.true in
    set_by_more c.args.links.now c.args.numbers.now c.args.pixels.now c.args.rows.now c.loop-p.rows c.loop-p.p-index _ c.node_number_at-parent.result
    c.loop-p-test.true c.requires.rows
    (get_or_default c.args.numbers.now (slice_index c.args.pixels.now c.loop-p.p-index) 0 no_node (omega (arith, within, c.requires.one_each)))
    (c.node_number_at-parent.ensures ∙ ap (node_number_at c.args.numbers.now)
    (read_link c.args.links.now (slice_index c.args.pixels.now c.loop-p.p-index) within))
    c.loop-p.invariant

pub returns : goal.returns
returns c = set_by_all c.args.links.now c.args.numbers.now c.args.pixels.now c.args.rows.now c.loop-p.rows c.loop-p.p-index c.loop-p-test.false
    c.requires.rows c.loop-p.invariant
