use Rattle.std.proofs.Common.{◌∙◌, ℕ, List, sym, ap, subst, length, arith}
use Rattle.std.proofs.lemmas.List.{length-replicate}
use Rattle.std.proofs.lemmas.Result.{IfOk-from_err}
use Rattle.comp_tree.specs.ComponentTree.{no_node}
use Rattle.node_sums.proofs.Exported.{take_front}
use Rattle.source_pick.specs.Passes.{AreEntries}
use Rattle.source_pick.proofs.marking.entries_of_nodes.Goals as goal

pub overflow_cast-count : goal.overflow_cast-count
overflow_cast-count c = record { fits = omega (arith, c.node_count-count.ensures.few) }

pub returns-in_err-entries : goal.returns-in_err-entries
returns-in_err-entries c = IfOk-from_err _ _ c.from_residual.ensures.0

pub find_entries-requires-clause-outlines : goal.find_entries-requires-clause-outlines
find_entries-requires-clause-outlines c = c.requires

pub find_entries-requires-clause-one_each : goal.find_entries-requires-clause-one_each
find_entries-requires-clause-one_each c =
    ap length (c.deref_mut.ensures.value ∙ c.in_ok-entries.ensures.items_if_clones_equal (λ y e. e)) ∙ length-replicate c.node_count-count.result no_node
    ∙ c.node_count-count.ensures.all

pub returns : goal.returns
returns c =
    subst (λ (xs : List ℕ). AreEntries c.args.choice.now c.args.tree.now c.args.outlines.now (length c.args.tree.now.rows) xs)
    (sym (take_front c.find_entries.new.entries _ _ (c.find_entries.auto.entries ∙ c.deref_mut.ensures.len))) c.find_entries.ensures
