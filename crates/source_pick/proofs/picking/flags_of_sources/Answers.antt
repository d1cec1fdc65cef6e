use Rattle.std.proofs.Common.{◌≡◌, ◌∙◌, sym, ap, subst, map, List, ℕ, Bool, length}
use Rattle.std.proofs.lemmas.Result.{IfOk-from_err}
use Rattle.comp_tree.specs.declared.tree.NodeRow.{NodeRow}
use Rattle.source_pick.specs.declared.splitting.StrongChildren.{StrongChildren}
use Rattle.source_pick.specs.Passes.{AreEntries, AreStrong, AreStrongChildCounts, AreAboveSplits, are_several}
use Rattle.source_pick.proofs.PassesFlags.{flags_exact}
use Rattle.source_pick.proofs.picking.flags_of_sources.Goals as goal

children_read : (rows : List NodeRow) (es ds : List ℕ) (ss ts : List Bool) (cs bs : List StrongChildren) → es ≡ ds → ss ≡ ts → cs ≡ bs
    → AreStrongChildCounts rows ds ts (length rows) bs → AreStrongChildCounts rows es ss (length rows) cs
children_read rows es ds ss ts cs bs e f g h =
    subst (λ (xs : List ℕ). AreStrongChildCounts rows xs ss (length rows) cs) (sym e)
    (subst (λ (xs : List Bool). AreStrongChildCounts rows ds xs (length rows) cs) (sym f)
    (subst (λ (xs : List StrongChildren). AreStrongChildCounts rows ds ts (length rows) xs) (sym g) h))

above_read : (rows : List NodeRow) (cs bs : List StrongChildren) (us zs : List Bool) → cs ≡ bs → us ≡ zs
    → AreAboveSplits rows (map are_several bs) zs → AreAboveSplits rows (map are_several cs) us
above_read rows cs bs us zs e f h =
    subst (λ (xs : List StrongChildren). AreAboveSplits rows (map are_several xs) us) (sym e)
    (subst (λ (xs : List Bool). AreAboveSplits rows (map are_several bs) xs) (sym f) h)

pub entries_of_nodes-requires : goal.entries_of_nodes-requires
entries_of_nodes-requires c = c.requires

pub returns-in_err-entries : goal.returns-in_err-entries
returns-in_err-entries c = IfOk-from_err _ _ c.from_residual.ensures.0

pub strong_nodes-requires-clause-outlines : goal.strong_nodes-requires-clause-outlines
strong_nodes-requires-clause-outlines c = c.requires

pub strong_nodes-requires-clause-entries : goal.strong_nodes-requires-clause-entries
strong_nodes-requires-clause-entries c =
    subst (λ (xs : List ℕ). AreEntries c.args.choice.now c.args.tree.now c.args.outlines.now (length c.args.tree.now.rows) xs) (sym c.deref.ensures.value)
    c.in_ok-entries.ensures

pub returns-in_err-strong : goal.returns-in_err-strong
returns-in_err-strong c = IfOk-from_err _ _ c.from_residual-in_err-strong.ensures.0

pub strong_children-requires-clause-entries : goal.strong_children-requires-clause-entries
strong_children-requires-clause-entries c = ap length c.deref-2.ensures.value ∙ c.in_ok-entries.ensures.one_each

pub strong_children-requires-clause-strong : goal.strong_children-requires-clause-strong
strong_children-requires-clause-strong c = ap length c.deref-3.ensures.value ∙ c.in_ok-strong.ensures.one_each

pub returns-in_err-children : goal.returns-in_err-children
returns-in_err-children c = IfOk-from_err _ _ c.from_residual-in_err-children.ensures.0

pub above_splits-requires : goal.above_splits-requires
above_splits-requires c = ap length c.deref-4.ensures.value ∙ c.in_ok-children.ensures.one_each

pub returns-in_err-above : goal.returns-in_err-above
returns-in_err-above c = IfOk-from_err _ _ c.from_residual-in_err-above.ensures.0

pub source_flags-requires-clause-entries : goal.source_flags-requires-clause-entries
source_flags-requires-clause-entries c = ap length c.deref-5.ensures.value ∙ c.in_ok-entries.ensures.one_each

pub source_flags-requires-clause-strong : goal.source_flags-requires-clause-strong
source_flags-requires-clause-strong c = ap length c.deref-6.ensures.value ∙ c.in_ok-strong.ensures.one_each

pub source_flags-requires-clause-children : goal.source_flags-requires-clause-children
source_flags-requires-clause-children c =
    children_read c.args.tree.now.rows _ _ _ _ _ _
    (c.deref-5.ensures.value ∙ sym c.deref-2.ensures.value) (c.deref-6.ensures.value ∙ sym c.deref-3.ensures.value)
    c.deref-7.ensures.value c.in_ok-children.ensures

pub source_flags-requires-clause-above : goal.source_flags-requires-clause-above
source_flags-requires-clause-above c =
    above_read c.args.tree.now.rows _ _ _ _ (c.deref-7.ensures.value ∙ sym c.deref-4.ensures.value) c.deref-8.ensures.value c.in_ok-above.ensures

pub returns : goal.returns
returns c =
    flags_exact c.source_flags.result c.args.choice.now c.args.tree.now c.args.outlines.now c.deref-5.result.now c.deref-6.result.now
    (subst (λ (xs : List ℕ). AreEntries c.args.choice.now c.args.tree.now c.args.outlines.now (length c.args.tree.now.rows) xs) (sym c.deref-5.ensures.value)
    c.in_ok-entries.ensures)
    (subst (λ (xs : List Bool). AreStrong c.args.choice.now c.args.tree.now c.args.outlines.now (length c.args.tree.now.rows) xs) (sym c.deref-6.ensures.value)
    c.in_ok-strong.ensures)
    c.source_flags.ensures
