use Rattle.dev_io.specs.Laws.{AppendsPrefix-more, PutAppends-after}
use Rattle.fits_write.specs.Hdus.{named_hdu}
use Rattle.fits_write.proofs.table.put_header_and_cells.Goals as goal

pub returns-in-Err-clause-bytes : goal.returns-in-Err-clause-bytes
unfolding named_hdu
returns-in-Err-clause-bytes g c = AppendsPrefix-more _ _ _ _ c.in-Err.ensures.bytes

pub returns-clause-bytes : goal.returns-clause-bytes
unfolding named_hdu
returns-clause-bytes g c = PutAppends-after _ _ _ _ _ _ c.in_default.ensures.bytes c.put_cells.ensures.bytes
