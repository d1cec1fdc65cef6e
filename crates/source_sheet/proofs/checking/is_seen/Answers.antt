use Rattle.source_sheet.specs.Laid.{window_at}
use Rattle.source_sheet.proofs.Copies.{seen_from}
use Rattle.source_sheet.proofs.checking.is_seen.Goals as goal

pub returns-then-is_among : goal.returns-then-is_among
returns-then-is_among c = λ k.
    let columns : _ = c.is_among.ensures c.if-is_among.true in
    let rows : _ = c.is_among-then-is_among.ensures k in
    seen_from c.args.whole.width (window_at c.args.left c.args.top c.args.shape) c.args.p columns.0 rows.0 columns.1 rows.1
