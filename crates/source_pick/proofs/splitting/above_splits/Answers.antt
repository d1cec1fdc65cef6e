use Rattle.std.proofs.Common.{◌∙◌, List, Bool, map, sym, ap, subst, length}
use Rattle.std.proofs.lemmas.List.{length-map}
use Rattle.std.proofs.lemmas.Result.{IfOk-from_err}
use Rattle.node_sums.proofs.Exported.{take_front}
use Rattle.source_pick.specs.Passes.{AreAboveSplits, are_several}
use Rattle.source_pick.proofs.splitting.above_splits.Goals as goal

pub returns-in_err-flags : goal.returns-in_err-flags
returns-in_err-flags c = IfOk-from_err _ _ c.from_residual.ensures.0

pub pass_up-requires : goal.pass_up-requires
pass_up-requires c =
    ap length (c.deref_mut.ensures.value ∙ c.in_ok-flags.ensures) ∙ length-map c.args.children.now are_several ∙ c.requires

pub returns : goal.returns
returns c =
    subst (λ (xs : List Bool). AreAboveSplits c.args.tree.now.rows (map are_several c.args.children.now) xs)
    (sym (take_front c.pass_up.new.flags _ _ (c.pass_up.auto.flags ∙ c.deref_mut.ensures.len)))
    (subst (λ (xs : List Bool). AreAboveSplits c.args.tree.now.rows xs c.pass_up.new.flags) (c.deref_mut.ensures.value ∙ c.in_ok-flags.ensures)
    c.pass_up.ensures)
