use Rattle.std.proofs.Common.{sym, ◌∙◌, w32, SFits, rules}
use Rattle.std.proofs.lemmas.Int.{to_z-of_z}
use Rattle.fits_hdu.proofs.Judging.{groups_is, judged_groups, judged_long, judged_found}
use Rattle.fits_hdu.proofs.header.judge.Goals as goal

pub returns-then-is_groups-clause-told : goal.returns-then-is_groups-clause-told
returns-then-is_groups-clause-told c = λ axes after count is from.
    judged_groups _ _ _ axes after (groups_is _ axes after _ _ _ count is from ∙ sym c.is_groups.ensures ∙ c.if-is_groups.true)

pub returns-then-data_bytes-gt-MOST_DATA-clause-told : goal.returns-then-data_bytes-gt-MOST_DATA-clause-told
returns-then-data_bytes-gt-MOST_DATA-clause-told c = λ axes after count is from.
    judged_long _ _ _ axes after _ _ from (groups_is _ axes after _ _ _ count is from ∙ sym c.is_groups.ensures ∙ c.if-is_groups.false)
    (c.size_of-data_bytes.ensures axes count is) c.if-data_bytes-gt-MOST_DATA.true

pub returns-clause-told : goal.returns-clause-told
returns-clause-told c = λ axes after count is from.
    let fits : SFits w32 c.args.cards.now.bitpix = search rules in
    rw (to_z-of_z w32 c.args.cards.now.bitpix fits)
    (judged_found _ _ _ axes after _ _ _ _ _ _ _ count is from (groups_is _ axes after _ _ _ count is from ∙ sym c.is_groups.ensures ∙ c.if-is_groups.false)
    (c.size_of-data_bytes.ensures axes count is) c.if-data_bytes-gt-MOST_DATA.false c.kind_of.ensures c.unwrap_or.ensures c.unwrap_or-2.ensures)
