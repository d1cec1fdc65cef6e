use Rattle.std.proofs.Common.{◌≡◌, ◌<◌, ◌++◌, ◌∷◌, [], length, map, take_all, arith, rules, sym, ap, ap₂, ◌∙◌}
use Rattle.survey_core.specs.Tables.{Table}
use Rattle.survey_core.specs.Listings.{table_summary}
use Rattle.survey_core.proofs.Keeping.{at_some, from_some, stays_at, stays_on, table_at, name_at, names_long, summaries_more}
use Rattle.survey_core.proofs.listing.summarize.Goals as goal

pub loop-name-preserved : goal.loop-name-preserved
loop-name-preserved g c = record {
  so_far = λ ts told.
      let now = stays_at _ _ ts c.loop-name.invariant.kept told in
      let names = at_some _ ts _ told c.in-Ok.ensures.told in
      let up = (at_some _ ts _ now (g.met.K.Keeper.tables_are c.loop-name.keeper)).0 in
      let i = c.loop-name.name-index in
      let h : i < length ts = omega (arith, c.loop-name-test.true, ap length c.deref-name-items.ensures.value, ap length names, names_long ts) in
      let name = name_at ts _ _ i c.name-item.result c.copy.result c.name-item.is c.deref-name-items.ensures.value names c.copy.ensures in
      let t : Table = (c.copy.result, c.in-Ok-cells_kept.cells.items) in
      let there = table_at ts i _ c.copy.result c.in-Ok-cells_kept.cells.items t up h name (at_some _ ts _ now c.in-Ok-cells_kept.ensures.told) in
      let pushed : c.push.new.self.items ≡ c.loop-name.summaries.items ++ c.summary_of.result ∷ [] = search rules in
      summaries_more ts i t c.loop-name.summaries.items c.push.new.self.items c.summary_of.result h (c.loop-name.invariant.so_far ts told) pushed
      (c.summary_of.ensures ∙ ap table_summary (ap₂ (λ a b. (a, b)) (c.copy-in-loop-name.ensures ∙ sym c.copy.ensures) c.deref.ensures.value ∙ there));
  kept = stays_on _ _ _ c.loop-name.invariant.kept c.in-Ok-cells_kept.ensures.kept;
  later = omega (arith, c.loop-name.invariant.later, c.in-Ok-cells_kept.ensures.later);
}

pub returns-clause-told : goal.returns-clause-told
returns-clause-told g c = from_some _ _ (λ ts told.
    let names = at_some _ ts _ told c.in-Ok.ensures.told in
    c.loop-name.invariant.so_far ts told
    ∙ ap (map table_summary) (take_all c.loop-name.name-index ts
    (omega (arith, c.loop-name-test.false, ap length c.deref-name-items.ensures.value, ap length names, names_long ts))))

pub returns-in-Err-cells_kept-clause-kept : goal.returns-in-Err-cells_kept-clause-kept
returns-in-Err-cells_kept-clause-kept g c = stays_on _ _ _ c.loop-name.invariant.kept c.in-Err-cells_kept.ensures.kept

pub returns-in-Err-cells_kept-clause-later : goal.returns-in-Err-cells_kept-clause-later
returns-in-Err-cells_kept-clause-later g c = omega (arith, c.loop-name.invariant.later, c.in-Err-cells_kept.ensures.later)
