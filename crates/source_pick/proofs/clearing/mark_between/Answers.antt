use Rattle.std.proofs.Common.{◌≡◌, ◌≤◌, ◌<◌, ◌+◌, ◌⊎◌, inl, inr, length, arith}
use Rattle.std.proofs.lemmas.Bool.{cases_lt}
use Rattle.source_pick.proofs.LocalityNearing.{between_none, between_more, between_all}
use Rattle.source_pick.proofs.clearing.mark_between.Goals as goal

pub loop-p-init : goal.loop-p-init
loop-p-init c = between_none c.args.start c.args.first c.args.end c.max-p.result c.args.marks.now (go (cases_lt c.args.first c.args.start))
  where
    go : (c.args.first < c.args.start) ⊎ (c.args.start ≤ c.args.first) → (c.max-p.result ≡ c.args.first) ⊎ (c.max-p.result ≡ c.args.start)
    go (inl l) = inr (omega (arith, c.max-p.ensures))
    go (inr l) = inl (omega (arith, c.max-p.ensures))

pub loop-p-preserved : goal.loop-p-preserved
loop-p-preserved c =
    between_more c.args.start c.args.first c.args.end c.loop-p.p c.args.marks.now c.loop-p.marks c.loop-p.invariant
    (omega (arith, c.max-p.ensures, c.loop-p.auto.p)) (omega (arith, c.min-p-end.ensures, c.loop-p-test.true)) (omega (arith, c.max-p.ensures, c.loop-p.auto.p))
    (omega (arith, c.min-p-end.ensures, c.loop-p-test.true, c.max-p.ensures, c.loop-p.auto.p))

pub returns : goal.returns
returns c =
    between_all c.args.start c.args.first c.args.end c.loop-p.p c.args.marks.now c.loop-p.marks c.loop-p.invariant
    (go (cases_lt c.args.end (c.args.start + length c.args.marks.now)))
  where
    go : (c.args.end < c.args.start + length c.args.marks.now) ⊎ (c.args.start + length c.args.marks.now ≤ c.args.end)
        → (c.args.end ≤ c.loop-p.p) ⊎ (c.args.start + length c.args.marks.now ≤ c.loop-p.p)
    go (inl l) = inl (omega (arith, l, c.min-p-end.ensures, c.loop-p-test.false))
    go (inr l) = inr (omega (arith, l, c.min-p-end.ensures, c.loop-p-test.false))
