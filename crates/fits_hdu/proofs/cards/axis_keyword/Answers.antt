use Rattle.fits_hdu.proofs.Keywords.{keyword_of_one, keyword_of_two, keyword_of_three}
use Rattle.fits_hdu.proofs.cards.axis_keyword.Goals as goal

pub returns-then-number-lt10 : goal.returns-then-number-lt10
returns-then-number-lt10 c = keyword_of_one _ c.if-number-lt10.true

pub returns-then-number-lt100 : goal.returns-then-number-lt100
returns-then-number-lt100 c = keyword_of_two _ c.if-number-lt10.false c.if-number-lt100.true

pub returns-else-number-lt100 : goal.returns-else-number-lt100
returns-else-number-lt100 c = keyword_of_three _ c.if-number-lt100.false c.requires
