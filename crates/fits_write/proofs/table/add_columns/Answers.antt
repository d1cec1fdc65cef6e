use Rattle.std.proofs.Common.{rules}
use Rattle.std.proofs.lemmas.List.{get_or_default}
use Rattle.fits_write.proofs.TableParts.{columns_wait, columns_cut}
use Rattle.fits_write.proofs.table.add_columns.Goals as goal

pub returns-in-Err-clause-err : goal.returns-in-Err-clause-err
returns-in-Err-clause-err g c =
    columns_cut _ _ _ c.args.blocks.now c.args.columns.now _ c.loop-index.index _ _ c.loop-index-test.true (get_or_default _ _ _ _ c.loop-index-test.true)
    c.column_cards.ensures
    c.loop-index.invariant.waiting c.in-Err.ensures.err

pub loop-index-preserved : goal.loop-index-preserved
loop-index-preserved g c = record {
  waiting =
      columns_wait _ _ _ c.args.blocks.now c.args.columns.now _ _ c.loop-index.index _ _ c.loop-index-test.true (get_or_default _ _ _ _ c.loop-index-test.true)
      c.column_cards.ensures
      c.loop-index.invariant.waiting c.in_default.ensures.ok;
  later = search rules;
}
