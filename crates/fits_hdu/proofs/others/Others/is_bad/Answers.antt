use Rattle.fits_hdu.proofs.Keeping.{pcount_kept, gcount_kept, or_first, or_second}
use Rattle.fits_hdu.proofs.others.Others.is_bad.Goals as goal

pub returns-then-is_bad_count : goal.returns-then-is_bad_count
returns-then-is_bad_count c = λ cards is. rw c.if-primary.false (or_first _ _ _ c.if-is_bad_count.true (c.is_bad_count.ensures cards (pcount_kept cards _ is)))

pub returns-else-is_bad_count : goal.returns-else-is_bad_count
returns-else-is_bad_count c = λ cards is. rw c.if-primary.false
    (or_second _ _ _ _ c.if-is_bad_count.false (c.is_bad_count.ensures cards (pcount_kept cards _ is))
    (c.is_bad_count-else-is_bad_count.ensures cards (gcount_kept cards _ is)))
