use Rattle.fits_hdu.proofs.Keeping.{groups_kept, pcount_kept, gcount_kept, bscale_kept, bzero_kept, blank_kept, others_more}
use Rattle.fits_hdu.proofs.others.Others.with.Goals as goal

pub returns : goal.returns
returns c = λ cards is. others_more cards _ _ _ _ _ _ _
    (c.keep_logical.ensures cards (groups_kept cards _ is)) (c.keep_number.ensures cards (pcount_kept cards _ is))
    (c.keep_number-2.ensures cards (gcount_kept cards _ is))
    (c.keep_whole.ensures cards (bscale_kept cards _ is)) (c.keep_whole-2.ensures cards (bzero_kept cards _ is))
    (c.keep_whole-3.ensures cards (blank_kept cards _ is))
