use Rattle.std.proofs.lemmas.List.{get_or_default}
use Rattle.fits_back.proofs.Headers.{column_off, column_missing}
use Rattle.fits_back.proofs.table.strip_columns.Goals as goal

pub returns-in_default : goal.returns-in_default
returns-in_default c =
    column_missing c.args.columns.now c.loop-index.index _ _ c.args.bytes.now c.loop-index.rest.now c.loop-index-test.true
    (get_or_default _ _ _ _ c.loop-index-test.true) c.column_cards.ensures c.loop-index.invariant c.in_default.ensures

pub loop-index-preserved : goal.loop-index-preserved
loop-index-preserved c =
    column_off c.args.columns.now c.loop-index.index _ _ c.args.bytes.now c.loop-index.rest.now _ c.loop-index-test.true
    (get_or_default _ _ _ _ c.loop-index-test.true) c.column_cards.ensures c.loop-index.invariant c.in-Some.ensures
