use Rattle.std.proofs.Common.{◌≡◌, ◌∙◌, ◌<◌, ℕ, List, length, sym, ap, w64, rules, arith}
use Rattle.std.specs.Prelude.{slice_index_or}
use Rattle.std.proofs.lemmas.Int.{to_z-of_z}
use Rattle.comp_tree.specs.declared.tree.NodeRow.{NodeRow}
use Rattle.comp_tree.specs.ComponentTree.{ComponentTree}
use Rattle.comp_tree.specs.Nesting.{level_in}
use Rattle.comp_tree.proofs.Exported.{row_level}
use Rattle.node_sums.proofs.Fluxes.{base-root, base-child}
use Rattle.node_sums.proofs.Reading.{some_parent_smaller}
use Rattle.node_sums.proofs.measures.base.Goals as goal

level_read : (tree : ComponentTree) (rows : List NodeRow) (n : ℕ) (d : NodeRow) → rows ≡ tree.rows → n < length tree.rows
    → (slice_index_or rows n d).level ≡ level_in tree.rows n
level_read tree rows n d e h = row_level rows n d (omega (arith, h, ap length e)) ∙ ap (λ (xs : List NodeRow). level_in xs n) e

pub bounds-rows-parent : goal.bounds-rows-parent
bounds-rows-parent c =
    let smaller = some_parent_smaller c.parent-parent.result c.args.n c.parent-parent.ensures.smaller c.if-parent.false in
    omega (arith, c.requires, smaller, ap length c.rows-rows.ensures)

pub bounds-rows-n : goal.bounds-rows-n
bounds-rows-n c = omega (arith, c.requires, ap length c.rows-rows.ensures)

pub returns-then-parent : goal.returns-then-parent
returns-then-parent c =
    to_z-of_z w64 _ (search rules) ∙ level_read c.args.tree.now c.rows-rows.result.now c.args.n _ c.rows-rows.ensures c.requires
    ∙ sym (base-root c.args.tree.now c.args.n (sym c.parent-parent.ensures.same ∙ c.if-parent.true))

pub returns-else-parent : goal.returns-else-parent
returns-else-parent c =
    let smaller = some_parent_smaller c.parent-parent.result c.args.n c.parent-parent.ensures.smaller c.if-parent.false in
    to_z-of_z w64 _ (search rules)
    ∙ level_read c.args.tree.now c.rows-rows.result.now _ _ c.rows-rows.ensures (omega (arith, c.requires, smaller))
    ∙ ap (level_in c.args.tree.now.rows) c.parent-parent.ensures.same
    ∙ sym (base-child c.args.tree.now c.args.n (λ e. c.if-parent.false (c.parent-parent.ensures.same ∙ e)))
