use Rattle.std.proofs.Common.{refl, arith, inl, inr}
use Rattle.filter_rules.specs.declared.rule.Rule.TheVariants.{Min, Max, Direct}
use Rattle.filter_rules.proofs.Filling
use Rattle.filter_rules.proofs.filtering.node_value.Goals as goal

pub returns-then-row-clause-in_range : goal.returns-then-row-clause-in_range
returns-then-row-clause-in_range c =
    Filling.own_range c.args.rows.now c.args.rule c.args.kept.now c.args.values.now c.args.n _ c.requires.rows c.requires.node c.requires.before
    c.requires.values

pub bounds-values-parent : goal.bounds-values-parent
bounds-values-parent c =
    omega (
      arith,
      c.requires.before,
      Filling.parent_before c.args.rows.now c.args.rule c.args.kept.now c.args.values.now c.args.n _ c.requires.rows c.requires.node c.requires.before
          c.requires.values c.if-row.false,
    )

pub returns-then-not-kept-n-clause-exact : goal.returns-then-not-kept-n-clause-exact
returns-then-not-kept-n-clause-exact c =
    Filling.dropped_exact c.args.rows.now c.args.rule c.args.kept.now c.args.values.now c.args.n _ c.requires.rows c.requires.node c.requires.before
    c.requires.values c.if-row.false
    c.if-not-kept-n.true

pub returns-then-not-kept-n-clause-in_range : goal.returns-then-not-kept-n-clause-in_range
returns-then-not-kept-n-clause-in_range c =
    Filling.dropped_range c.args.rows.now c.args.rule c.args.kept.now c.args.values.now c.args.n _ c.requires.rows c.requires.node c.requires.before
    c.requires.values c.if-row.false

pub returns-then-not-kept-n-clause-at_most : goal.returns-then-not-kept-n-clause-at_most
returns-then-not-kept-n-clause-at_most c =
    Filling.dropped_most c.args.rows.now c.args.rule c.args.kept.now c.args.values.now c.args.n _ c.requires.rows c.requires.node c.requires.before
    c.requires.values c.if-row.false

pub bounds-rows-parent : goal.bounds-rows-parent
bounds-rows-parent c =
    omega (
      arith,
      c.requires.node,
      Filling.parent_before c.args.rows.now c.args.rule c.args.kept.now c.args.values.now c.args.n _ c.requires.rows c.requires.node c.requires.before
          c.requires.values c.if-row.false,
    )

pub overflow_sub-result : goal.overflow_sub-result
overflow_sub-result c =
    Filling.sub_fits c.args.rows.now c.args.rule c.args.kept.now c.args.values.now c.args.n _ c.requires.rows c.requires.node c.requires.before
    c.requires.values c.if-row.false

pub overflow_add-result : goal.overflow_add-result
overflow_add-result c =
    Filling.add_fits c.args.rows.now c.args.rule c.args.kept.now c.args.values.now c.args.n _ c.requires.rows c.requires.node c.requires.before
    c.requires.values c.if-row.false

pub returns-in-Min : goal.returns-in-Min
returns-in-Min c = record {
  exact = elim c.in-Min.is [
    | inl e ↦
        Filling.level_exact c.args.rows.now c.args.rule c.args.kept.now c.args.values.now c.args.n _ c.requires.rows c.requires.node c.requires.before
        c.requires.values c.if-row.false
        Min e (λ level base above. refl) c.if-not-kept-n.false
    | inr f ↦ elim f [
      | inl e ↦
          Filling.level_exact c.args.rows.now c.args.rule c.args.kept.now c.args.values.now c.args.n _ c.requires.rows c.requires.node c.requires.before
          c.requires.values c.if-row.false
          Max e (λ level base above. refl) c.if-not-kept-n.false
      | inr e ↦
          Filling.level_exact c.args.rows.now c.args.rule c.args.kept.now c.args.values.now c.args.n _ c.requires.rows c.requires.node c.requires.before
          c.requires.values c.if-row.false
          Direct e (λ level base above. refl) c.if-not-kept-n.false
    ]
  ];
  in_range = Filling.own_range c.args.rows.now c.args.rule c.args.kept.now c.args.values.now c.args.n _ c.requires.rows c.requires.node c.requires.before
      c.requires.values;
  at_most = Filling.level_most c.args.rows.now c.args.rule c.args.kept.now c.args.values.now c.args.n _ c.requires.rows c.requires.node c.requires.before
      c.requires.values c.if-row.false;
}

pub returns-in-Subtractive-clause-exact : goal.returns-in-Subtractive-clause-exact
returns-in-Subtractive-clause-exact c =
    Filling.sum_exact c.args.rows.now c.args.rule c.args.kept.now c.args.values.now c.args.n _ c.requires.rows c.requires.node c.requires.before
    c.requires.values c.if-row.false
    c.in-Subtractive.is c.if-not-kept-n.false

pub returns-in-Subtractive-clause-in_range : goal.returns-in-Subtractive-clause-in_range
returns-in-Subtractive-clause-in_range c =
    Filling.sum_in_range c.args.rows.now c.args.rule c.args.kept.now c.args.values.now c.args.n _ c.requires.rows c.requires.node c.requires.before
    c.requires.values c.if-row.false

pub returns-in-Subtractive-clause-at_most : goal.returns-in-Subtractive-clause-at_most
returns-in-Subtractive-clause-at_most c =
    Filling.sum_at_most c.args.rows.now c.args.rule c.args.kept.now c.args.values.now c.args.n _ c.requires.rows c.requires.node c.requires.before
    c.requires.values c.if-row.false
