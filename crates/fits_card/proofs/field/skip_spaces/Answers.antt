use Rattle.std.proofs.Common.{◌∙◌}
use Rattle.fits_card.proofs.Cutting.{space-passed}
use Rattle.fits_card.proofs.field.skip_spaces.Goals as goal

pub loop-at-preserved : goal.loop-at-preserved
loop-at-preserved c = c.loop-at.invariant ∙ space-passed c.args.bytes.now c.loop-at.at c.loop-at-test.true c.if-b-ne32.false
