use Rattle.std.proofs.Common.{◌∙◌, ℕ, ap, map, rules, Vec, Global}
use Rattle.command_line.proofs.Exported.{line_is, line_in, waiting, waiting_cut}
use Rattle.tree_products.proofs.rounds.add_texts.Goals as goal

pub returns-in-Err-clause-err : goal.returns-in-Err-clause-err
returns-in-Err-clause-err g c =
    let bytes = λ (text : Vec ℕ Global). text.items in let texts = c.args.texts.now in let i = c.loop-text.text-index in let h = c.loop-text-test.true in
    waiting_cut _ _ _ c.args.block.now (map bytes texts) _ i _ (line_in bytes texts i h)
    (c.deref.ensures.value ∙ ap bytes c.text-item.is ∙ line_is bytes texts i c.text-item.result h) c.loop-text.invariant.moved c.in-Err.ensures.err

pub loop-text-preserved : goal.loop-text-preserved
loop-text-preserved g c =
    let bytes = λ (text : Vec ℕ Global). text.items in let texts = c.args.texts.now in let i = c.loop-text.text-index in let h = c.loop-text-test.true in record {
      moved = waiting _ _ _ c.args.block.now (map bytes texts) _ _ i _ (line_in bytes texts i h)
          (c.deref.ensures.value ∙ ap bytes c.text-item.is ∙ line_is bytes texts i c.text-item.result h) c.loop-text.invariant.moved c.in_default.ensures.ok;
      later = search rules;
    }
