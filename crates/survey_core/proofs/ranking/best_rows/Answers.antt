use Rattle.std.proofs.Common.{◌<◌, ◌++◌, length, take, take_all, ap, ap₂, arith, sym, ◌∙◌}
use Rattle.survey_core.specs.Tables.{Table}
use Rattle.survey_core.specs.Ranking.{rows_of, all_rows}
use Rattle.survey_core.proofs.Keeping.{at_some, from_some, stays_at, stays_on, table_at, name_at, names_long, rows_more}
use Rattle.survey_core.proofs.Places.{places_are, rows_differ}
use Rattle.survey_core.proofs.BestRows.{none_best, best_of, best_sorted}
use Rattle.survey_core.proofs.ranking.best_rows.Goals as goal

pub loop-name-init : goal.loop-name-init
unfolding all_rows
loop-name-init g c = record {
  so_far = λ ts told. none_best c.args.most _ c.new-best.ensures.items c.new-best.ensures.heap_order;
  kept = c.in-Ok.ensures.kept;
  later = c.in-Ok.ensures.later;
}

pub loop-name-preserved : goal.loop-name-preserved
loop-name-preserved g c = record {
  so_far = λ ts told.
      let now = stays_at _ _ ts c.loop-name.invariant.kept told in
      let names = at_some _ ts _ told c.in-Ok.ensures.told in
      let up = (at_some _ ts _ now (g.met.K.Keeper.tables_are c.loop-name.keeper)).0 in
      let i = c.loop-name.name-index in
      let h : i < length ts = omega (arith, c.loop-name-test.true, ap length c.deref-name-items.ensures.value, ap length names, names_long ts) in
      let name = name_at ts _ _ i c.name-item.result c.copy.result c.name-item.is c.deref-name-items.ensures.value names c.copy.ensures in
      let t : Table = (c.copy.result, c.in-Ok-cells_kept.cells.items) in
      let there = table_at ts i _ c.copy.result c.in-Ok-cells_kept.cells.items t up h name (at_some _ ts _ now c.in-Ok-cells_kept.ensures.told) in
      let so_far = all_rows (take i ts) in
      let here = ap rows_of (ap₂ (λ a b. (a, b)) (sym c.copy.ensures) c.deref.ensures.value ∙ there) in
      best_of c.args.most _ (ap (λ l. so_far ++ l) here ∙ sym (rows_more ts i t h)) (c.in_default.ensures so_far (c.loop-name.invariant.so_far ts told));
  kept = stays_on _ _ _ c.loop-name.invariant.kept c.in-Ok-cells_kept.ensures.kept;
  later = omega (arith, c.loop-name.invariant.later, c.in-Ok-cells_kept.ensures.later);
}

pub returns-clause-told : goal.returns-clause-told
returns-clause-told g c = from_some _ _ (λ ts told.
    let names = at_some _ ts _ told c.in-Ok.ensures.told in
    let are = at_some _ ts _ told (g.met.K.Keeper.tables_are c.args.keeper.now) in
    let all = take_all c.loop-name.name-index ts
    (omega (arith, c.loop-name-test.false, ap length c.deref-name-items.ensures.value, ap length names, names_long ts)) in
    let best = best_of c.args.most _ (ap all_rows all) (c.loop-name.invariant.so_far ts told) in
    best_sorted c.args.most (all_rows ts) _ _ best (rows_differ ts are) c.into_sorted_vec.ensures.permutation (c.into_sorted_vec.ensures.sorted best.heap)
    ∙ places_are ts c.args.most are)

pub returns-in-Err-cells_kept-clause-kept : goal.returns-in-Err-cells_kept-clause-kept
returns-in-Err-cells_kept-clause-kept g c = stays_on _ _ _ c.loop-name.invariant.kept c.in-Err-cells_kept.ensures.kept

pub returns-in-Err-cells_kept-clause-later : goal.returns-in-Err-cells_kept-clause-later
returns-in-Err-cells_kept-clause-later g c = omega (arith, c.loop-name.invariant.later, c.in-Err-cells_kept.ensures.later)

pub returns-in-Err-rank_all-clause-kept : goal.returns-in-Err-rank_all-clause-kept
returns-in-Err-rank_all-clause-kept g c = stays_on _ _ _ c.loop-name.invariant.kept c.in-Ok-cells_kept.ensures.kept

pub returns-in-Err-rank_all-clause-later : goal.returns-in-Err-rank_all-clause-later
returns-in-Err-rank_all-clause-later g c = omega (arith, c.loop-name.invariant.later, c.in-Ok-cells_kept.ensures.later)
