use Rattle.std.proofs.Common.{refl}
use Rattle.orders.specs.Options.{u16_in}
use Rattle.orders.proofs.Places.{given_by}
use Rattle.orders.proofs.words.hdu_for.Goals as goal

pub returns : goal.returns
returns c = let hdu = given_by _ _ u16_in _ c.value.ensures c.and_then.ensures in rw (c.unwrap_or.ensures, hdu) refl
