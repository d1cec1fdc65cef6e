use Rattle.fits_write.specs.Hdus.{named_cards}
use Rattle.fits_back.proofs.Headers.{front_missing, columns_missing, back_missing, cards_off, header_stripped}
use Rattle.fits_back.proofs.table.strip_table_header.Goals as goal

pub returns-in_default : goal.returns-in_default
returns-in_default c = front_missing c.args.name.now c.args.columns.now c.args.rows _ c.args.bytes.now c.table_front.ensures c.in_default.ensures

pub returns-in_default-strip_columns : goal.returns-in_default-strip_columns
returns-in_default-strip_columns c =
    columns_missing c.args.name.now c.args.columns.now c.args.rows _ c.args.bytes.now c.in-Some.behind_front.now c.table_front.ensures c.in-Some.ensures
    c.in_default-strip_columns.ensures

pub returns-in_default-strip_cards : goal.returns-in_default-strip_cards
returns-in_default-strip_cards c =
    back_missing c.args.name.now c.args.columns.now c.args.rows _ _ c.args.bytes.now c.in-Some.behind_front.now c.in-Some-strip_columns.behind_columns.now
    c.table_front.ensures c.named_back.ensures c.in-Some.ensures c.in-Some-strip_columns.ensures c.in_default-strip_cards.ensures

pub returns : goal.returns
returns c =
    header_stripped (named_cards c.args.name.now c.args.columns.now c.args.rows) c.args.bytes.now c.in-Some-strip_cards.behind_cards.now _
    (cards_off c.args.name.now c.args.columns.now c.args.rows _ _ c.args.bytes.now c.in-Some.behind_front.now c.in-Some-strip_columns.behind_columns.now
    c.in-Some-strip_cards.behind_cards.now c.table_front.ensures c.named_back.ensures c.in-Some.ensures c.in-Some-strip_columns.ensures
    c.in-Some-strip_cards.ensures)
    c.strip_fill.ensures
