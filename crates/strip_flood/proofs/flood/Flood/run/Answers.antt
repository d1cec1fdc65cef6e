use Rattle.std.proofs.Common.{◌≡◌, ◌+◌, ◌<◌, length, sym, subst, arith, ⊎_elim}
use Rattle.std.proofs.lemmas.Bool.{cases_eq}
use Rattle.comp_tree.specs.Counts.{count_defined}
use Rattle.strip_flood.specs.Flood.{cursor_of, rank_of, seen_count, looks}
use Rattle.strip_flood.specs.Jobs.{inner_count}
use Rattle.strip_flood.specs.Strips.{ground_of, state_of, values_of}
use Rattle.strip_flood.proofs.Counting.{step_trans}
use Rattle.strip_flood.proofs.Flooded.{flooded_stands, seen_all, looks_all}
use Rattle.strip_flood.proofs.flood.Flood.run.Goals as goal

pub loop-p-preserved : goal.loop-p-preserved
loop-p-preserved g c = record {
  between = c.flood_from.ensures.between;
  empty = c.flood_from.ensures.ended;
  step = step_trans (ground_of c.args.strip.now) c.args.self.now.cursors.items c.loop-p.self.cursors.items c.flood_from.new.self.cursors.items
      c.args.queued.now c.loop-p.queued c.flood_from.new.queued c.args.looked.now c.loop-p.looked c.flood_from.new.looked c.loop-p.invariant.step
      c.flood_from.ensures.step;
  seen = λ x w l low. ⊎_elim
      (λ (e : x ≡ c.loop-p.p). subst (λ y. rank_of (ground_of c.args.strip.now) y < length c.args.strip.now.levels.items
      → 0 < cursor_of (ground_of c.args.strip.now) c.flood_from.new.self.cursors.items y) (sym e) c.flood_from.ensures.seen low)
      (λ (ne : x ≡ c.loop-p.p → ⊥). c.flood_from.ensures.step.seen x w (c.loop-p.invariant.seen x w (omega arith) low))
      (cases_eq x c.loop-p.p);
}

pub returns-clause-stands : goal.returns-clause-stands
returns-clause-stands g c = flooded_stands (ground_of c.args.strip.now)
    (state_of c.loop-p.self) c.requires.strip.ranked c.loop-p.invariant.between.turning c.loop-p.invariant.empty
    (λ x w low. c.loop-p.invariant.seen x w (let h : x < c.args.strip.now.first + length c.args.strip.now.ranks.items =
    w.high in let n : c.count.result ≡ length c.args.strip.now.ranks.items = c.count.ensures.all in omega (arith, c.loop-p-test.false)) low)

pub returns-clause-queued : goal.returns-clause-queued
returns-clause-queued g c =
    let all : seen_count c.loop-p.self.cursors.items
    ≡ count_defined (values_of c.args.strip.now) c.args.strip.now.first (length c.args.strip.now.ranks.items) =
    seen_all (ground_of c.args.strip.now) (state_of c.loop-p.self) c.requires.strip.ranked c.loop-p.invariant.between.turning c.loop-p.invariant.empty
    (λ x w low. c.loop-p.invariant.seen x w (let h : x < c.args.strip.now.first + length c.args.strip.now.ranks.items =
    w.high in let n : c.count.result ≡ length c.args.strip.now.ranks.items = c.count.ensures.all in omega (arith, c.loop-p-test.false)) low) in
    let step : c.loop-p.queued + seen_count c.args.self.now.cursors.items ≡ c.args.queued.now + seen_count c.loop-p.self.cursors.items =
    c.loop-p.invariant.step.queued in
    let fresh : seen_count c.args.self.now.cursors.items ≡ 0 = c.requires.unseen in omega arith

pub returns-clause-looked : goal.returns-clause-looked
returns-clause-looked g c =
    let all : looks (ground_of c.args.strip.now) c.loop-p.self.cursors.items
    ≡ inner_count (values_of c.args.strip.now) c.args.strip.now.width c.args.strip.now.connect c.args.strip.now.first (length c.args.strip.now.ranks.items)
    = looks_all (ground_of c.args.strip.now) (state_of c.loop-p.self) c.requires.strip.ranked c.loop-p.invariant.between.turning c.loop-p.invariant.empty
    (λ x w low. c.loop-p.invariant.seen x w (let h : x < c.args.strip.now.first + length c.args.strip.now.ranks.items =
    w.high in let n : c.count.result ≡ length c.args.strip.now.ranks.items = c.count.ensures.all in omega (arith, c.loop-p-test.false)) low) in
    let step : c.loop-p.looked + looks (ground_of c.args.strip.now) c.args.self.now.cursors.items
    ≡ c.args.looked.now + looks (ground_of c.args.strip.now) c.loop-p.self.cursors.items = c.loop-p.invariant.step.looked in
    let fresh : looks (ground_of c.args.strip.now) c.args.self.now.cursors.items ≡ 0 = c.requires.unlooked in omega arith
