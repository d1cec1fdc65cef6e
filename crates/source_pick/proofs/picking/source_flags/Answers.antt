use Rattle.std.proofs.Common.{◌∙◌, sym, subst, List, Bool, length}
use Rattle.node_sums.proofs.Exported.{take_front}
use Rattle.source_pick.specs.Passes.{AreSources}
use Rattle.source_pick.proofs.picking.source_flags.Goals as goal

pub returns : goal.returns
returns c = λ choice outlines known_entries known_strong.
    subst (λ (xs : List Bool). AreSources choice c.args.tree.now outlines (length c.args.tree.now.rows) xs)
    (sym (take_front c.flag_sources.new.flags _ _ (c.flag_sources.auto.flags ∙ c.deref_mut.ensures.len)))
    (c.flag_sources.ensures choice outlines known_entries known_strong)
