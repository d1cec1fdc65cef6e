use Rattle.fits_write.proofs.TableParts.{front_cut, middle_waits, middle_cut, back_cut, header_filled}
use Rattle.fits_write.proofs.table.put_table_header.Goals as goal

pub returns-in-Err-clause-bytes : goal.returns-in-Err-clause-bytes
returns-in-Err-clause-bytes g c = front_cut c.args.name.now _ _ _ c.args.columns.now c.args.rows _ c.new-blocks.ensures c.table_front.ensures c.in-Err.ensures.err

pub returns-in-Err-add_columns-clause-bytes : goal.returns-in-Err-add_columns-clause-bytes
returns-in-Err-add_columns-clause-bytes g c =
    middle_cut c.args.name.now _ _ _ _ c.args.columns.now c.args.rows _ _ c.new-blocks.ensures c.table_front.ensures c.in_default.ensures.ok c.in-Err-add_columns.ensures.err

pub returns-in-Err-add_cards-clause-bytes : goal.returns-in-Err-add_cards-clause-bytes
returns-in-Err-add_cards-clause-bytes g c =
    back_cut c.args.name.now _ _ _ c.args.columns.now c.args.rows _ _ c.named_back.ensures
    (middle_waits _ _ _ _ c.args.columns.now c.args.rows _ _ _ c.new-blocks.ensures c.table_front.ensures c.in_default.ensures.ok
    c.in_default-add_columns.ensures.ok)
    c.in-Err-add_cards.ensures.err

pub returns-clause-bytes : goal.returns-clause-bytes
returns-clause-bytes g c =
    header_filled c.args.name.now _ _ _ _ _ c.args.columns.now c.args.rows _ _ _ c.named_back.ensures
    (middle_waits _ _ _ _ c.args.columns.now c.args.rows _ _ _ c.new-blocks.ensures c.table_front.ensures c.in_default.ensures.ok
    c.in_default-add_columns.ensures.ok)
    c.in_default-add_cards.ensures.ok c.fill.ensures.bytes
