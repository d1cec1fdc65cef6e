use Rattle.std.proofs.Common.{ℕ, arith, rules, subst}
use Rattle.survey_core.specs.Reads.{AreTableRows}
use Rattle.survey_core.proofs.CatalogueLemmas.{no_rows, rows_short, rows_more, rows_wanted, cells_more}
use Rattle.survey_core.proofs.catalogue.read_rows.Goals as goal

pub returns-in-Err-clause-told : goal.returns-in-Err-clause-told
returns-in-Err-clause-told g c = λ bytes told.
    let rows = c.loop.invariant.told bytes told in
    rows_short bytes c.loop.counter c.args.count _ _ _ c.in-Err.stop rows c.loop-test.true (c.in-Err.ensures.told _ rows.takes.rest)

pub loop-init : goal.loop-init
loop-init g c = record { told = λ bytes told. no_rows bytes _ _ told c.new-cells.ensures.items; whole = search rules; later = search rules }

pub loop-preserved : goal.loop-preserved
loop-preserved g c = record {
  told = λ bytes told.
      let rows = c.loop.invariant.told bytes told in
      rows_more bytes c.loop.counter _ _ _ _ _ _ rows
      (c.in_default.ensures.told _ rows.takes.rest) c.catalogue_columns-columns.ensures.columns c.in_default-add_row.ensures;
  whole = cells_more c.loop.counter _ _ _ _ c.loop.invariant.whole c.catalogue_columns-columns.ensures.columns c.in_default-add_row.ensures;
  later = omega (arith, c.loop.invariant.later, c.read_row.ensures.later);
}

pub returns-in-Err-add_row-clause-told : goal.returns-in-Err-add_row-clause-told
returns-in-Err-add_row-clause-told g c = λ bytes told.
    let rows = c.loop.invariant.told bytes told in
    rows_wanted bytes c.loop.counter c.args.count _ _ _ _ rows c.loop-test.true (c.in_default.ensures.told _ rows.takes.rest)

pub returns-clause-told : goal.returns-clause-told
returns-clause-told g c = λ bytes told.
    subst (λ (n : ℕ). AreTableRows bytes n (g.S.Source.left c.loop.src) c.loop.cells.items) (omega arith) (c.loop.invariant.told bytes told)
