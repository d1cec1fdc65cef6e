use Rattle.dev_io.proofs.Exported.{front_empty}
use Rattle.fits_write.specs.Hdus.{header}
use Rattle.fits_write.proofs.Pieces.{from_nothing, cut_filled, waits_filled}
use Rattle.fits_write.proofs.header.put_header.Goals as goal

pub returns-in-Err-clause-bytes : goal.returns-in-Err-clause-bytes
unfolding header
returns-in-Err-clause-bytes g c = cut_filled _ _ _ 32 (front_empty _ _ _ _ c.new-blocks.ensures c.in-Err.ensures.err)

pub returns-clause-bytes : goal.returns-clause-bytes
unfolding header
returns-clause-bytes g c = waits_filled _ _ _ _ _ _ 32 (from_nothing _ _ _ _ _ c.new-blocks.ensures c.in_default.ensures.ok) c.fill.ensures.bytes
