use Rattle.std.proofs.Common.{refl, rules, sym, ◌∙◌}
use mir.Syntax.{w64}
use mir.Val.{SFits}
use Rattle.source_pick.proofs.PassesReadings.{level-read, less-read}
use Rattle.source_pick.proofs.PassesStrong.{entry_below, entry_not_lowest, entry_if_large}
use Rattle.source_pick.proofs.marking.passes_as_entry.Goals as goal

pub returns-then-rows-n : goal.returns-then-rows-n
returns-then-rows-n c = λ r connect of_tree of_outlines is_plane.
    let threshold : SFits w64 c.args.choice.now.threshold = search rules in
    entry_below r connect c.args.choice.now c.args.n
    (sym (less-read _ c.args.choice.now.threshold _ _ (search rules) threshold
    (level-read r connect c.args.tree.now c.rows.result.now c.args.n _ of_tree c.rows.ensures c.requires.node) refl) ∙ c.if-rows-n.true)

pub returns-then-not-lies_lowest : goal.returns-then-not-lies_lowest
returns-then-not-lies_lowest c =
    λ r connect of_tree of_outlines is_plane. entry_not_lowest r connect c.args.choice.now c.args.n (c.if-not-lies_lowest.ensures r connect of_tree)

pub returns : goal.returns
returns c = λ r connect of_tree of_outlines is_plane.
    let threshold : SFits w64 c.args.choice.now.threshold = search rules in
    entry_if_large r connect c.args.choice.now c.args.n _
    (sym (less-read _ c.args.choice.now.threshold _ _ (search rules) threshold
    (level-read r connect c.args.tree.now c.rows.result.now c.args.n _ of_tree c.rows.ensures c.requires.node) refl) ∙ c.if-rows-n.false)
    (c.if-not-lies_lowest.ensures r connect of_tree) (c.has_size.ensures r connect of_tree of_outlines is_plane)
