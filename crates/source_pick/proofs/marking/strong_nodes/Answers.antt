use Rattle.std.proofs.Common.{◌∙◌, List, Bool, false, sym, ap, subst, length, arith}
use Rattle.std.proofs.lemmas.List.{length-replicate}
use Rattle.std.proofs.lemmas.Result.{IfOk-from_err}
use Rattle.node_sums.proofs.Exported.{take_front}
use Rattle.source_pick.specs.Passes.{AreStrong}
use Rattle.source_pick.proofs.marking.strong_nodes.Goals as goal

pub overflow_cast-count : goal.overflow_cast-count
overflow_cast-count c = record { fits = omega (arith, c.node_count-count.ensures.few) }

pub returns-in_err-strong : goal.returns-in_err-strong
returns-in_err-strong c = IfOk-from_err _ _ c.from_residual.ensures.0

pub find_strong-requires-clause-outlines : goal.find_strong-requires-clause-outlines
find_strong-requires-clause-outlines c = c.requires.outlines

pub find_strong-requires-clause-entries : goal.find_strong-requires-clause-entries
find_strong-requires-clause-entries c = c.requires.entries

pub find_strong-requires-clause-one_each : goal.find_strong-requires-clause-one_each
find_strong-requires-clause-one_each c =
    ap length (c.deref_mut.ensures.value ∙ c.in_ok-strong.ensures.items_if_clones_equal (λ y e. e)) ∙ length-replicate c.node_count-count.result false
    ∙ c.node_count-count.ensures.all

pub returns : goal.returns
returns c =
    subst (λ (xs : List Bool). AreStrong c.args.choice.now c.args.tree.now c.args.outlines.now (length c.args.tree.now.rows) xs)
    (sym (take_front c.find_strong.new.strong _ _ (c.find_strong.auto.strong ∙ c.deref_mut.ensures.len))) c.find_strong.ensures
