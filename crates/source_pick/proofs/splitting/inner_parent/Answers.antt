use Rattle.std.proofs.Common.{◌∙◌, ℕ, sym, ap, arith}
use Rattle.std.specs.Prelude.{slice_index}
use Rattle.std.proofs.lemmas.Bool.{true≢false}
use Rattle.node_sums.proofs.Exported.{some_parent_smaller}
use Rattle.source_pick.proofs.PassesCounts.{none_outside}
use Rattle.source_pick.proofs.splitting.inner_parent.Goals as goal

pub bounds-entries-parent : goal.bounds-entries-parent
bounds-entries-parent c =
    let smaller =
    some_parent_smaller c.parent-parent.result c.args.n c.parent-parent.ensures.smaller c.if-parent.false in
    omega (arith, smaller, c.requires.node, c.requires.entries)

pub returns-clause-inside : goal.returns-clause-inside
returns-clause-inside c =
    let smaller =
    some_parent_smaller c.parent-parent.result c.args.n c.parent-parent.ensures.smaller c.if-parent.false in
    omega (arith, smaller, c.requires.node)

pub bounds-strong-n : goal.bounds-strong-n
bounds-strong-n c = omega (arith, c.requires.node, c.requires.strong)

pub returns-then-not-strong-n-clause-none : goal.returns-then-not-strong-n-clause-none
returns-then-not-strong-n-clause-none c = λ m l i. absurd (true≢false (sym i.is_strong ∙ c.if-not-strong-n.true))

pub returns-then-parent-clause-none : goal.returns-then-parent-clause-none
returns-then-parent-clause-none c = λ m l i.
    none_outside c.args.tree.now.rows c.args.n m _ c.parent-parent.ensures.few c.parent-parent.ensures.same c.if-parent.true i.is_child l

pub returns-then-entries-parent-clause-none : goal.returns-then-entries-parent-clause-none
returns-then-entries-parent-clause-none c = λ m l i.
    i.has_entry
    (ap (λ (k : ℕ). slice_index c.args.entries.now k)
    (sym i.is_child ∙ sym c.parent-parent.ensures.same)
    ∙ c.if-entries-parent.true)

pub returns-clause-found : goal.returns-clause-found
returns-clause-found c = record {
  is_child = sym c.parent-parent.ensures.same;
  is_strong = c.if-not-strong-n.false;
  has_entry = c.if-entries-parent.false;
}
