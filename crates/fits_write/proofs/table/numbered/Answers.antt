use Rattle.std.proofs.Common.{rules}
use Rattle.fits_write.proofs.Keywords.{numbered_by_one, numbered_by_two}
use Rattle.fits_write.proofs.table.numbered.Goals as goal

pub returns-then-number-lt10 : goal.returns-then-number-lt10
returns-then-number-lt10 c = numbered_by_one c.args.root.now c.args.number (search rules) c.if-number-lt10.true

pub returns-else-number-lt10 : goal.returns-else-number-lt10
returns-else-number-lt10 c = numbered_by_two c.args.root.now c.args.number (search rules) c.if-number-lt10.false c.requires
