use Rattle.std.proofs.Common.{◌∙◌, refl, arith}
use Rattle.fits_hdu.proofs.Keeping.{kept_first, kept_second, kept_later}
use Rattle.fits_hdu.proofs.axes.Axes.with.Goals as goal

pub returns-in-0 : goal.returns-in-0
returns-in-0 c = λ axes count is. kept_first axes _ _ _ (count ∙ c.in-0.is) is c.saturating_mul-product.ensures

pub returns-in-1 : goal.returns-in-1
returns-in-1 c = λ axes count is. kept_second axes _ _ _ (count ∙ c.in-1.is) is c.saturating_mul-product.ensures

pub returns-then-self : goal.returns-then-self
returns-then-self c = λ axes count is. kept_later axes _ _ _ _ (omega arith) is c.saturating_mul-product.ensures (rw c.if-self.true refl)

pub returns-else-self : goal.returns-else-self
returns-else-self c = λ axes count is. kept_later axes _ _ _ _ (omega arith) is c.saturating_mul-product.ensures (rw c.if-self.false refl)
