use Rattle.std.proofs.Common.{◌≡◌, ℕ, ◌+◌, ◌<◌, false, true, length, arith, refl, below_more}
use Rattle.comp_tree.specs.Forest.{LiesInStretch, LinksToEarlier}
use Rattle.comp_tree.proofs.forest.is_forest.Goals as goal
use Rattle.comp_tree.proofs.forest.is_forest.Goals.{else-p-first-via-then-p-first+else-not-is_kept, else-p-first-via-else-p-first}

none : {A : Type 0} → false ≡ true → A
none e = cc

-- a fact of the numbers below p that are asked for, and of p
more : (P Q : ℕ → Type 0) (p : ℕ) → ((k : ℕ) → Q k → k < p → P k) → (Q p → P p) → (k : ℕ) → Q k → k < p + 1 → P k
more P Q p before here k within less = below_more (λ i. Q i → P i) p (λ i low there. before i there low) here k less within

pub is_kept-requires-clause-pixel : goal.is_kept-requires-clause-pixel
is_kept-requires-clause-pixel c = record { low = c.loop-p.auto.p; high = omega arith }

pub returns-then-not-is_kept : goal.returns-then-not-is_kept
returns-then-not-is_kept c = (
  λ e. none e,
  λ forest. c.if-not-is_kept.ensures.1 (forest.earlier c.loop-p.p (record { low = c.loop-p.auto.p; high = omega arith })),
)

pub loop-p-preserved : goal.loop-p-preserved
loop-p-preserved c =
    more (LinksToEarlier c.args.plane.now.values c.args.first c.args.parents.now) (LiesInStretch c.args.first (length c.args.parents.now)) c.loop-p.p
    c.loop-p.invariant
    (elim c.else-p-first.branch [
      | else-p-first-via-then-p-first+else-not-is_kept w ↦ λ _. w.if-not-is_kept.ensures.0 refl
      | else-p-first-via-else-p-first w ↦ λ within. let high : _ = within.high in absurd (omega (arith, high, w.if-p-first.false, c.loop-p.auto.p))
    ])

pub returns : goal.returns
returns c = (
  λ _. record {
    earlier = λ p within. let high : _ = within.high in
        c.loop-p.invariant p within (omega (arith, high));
  },
  λ _. refl,
)
