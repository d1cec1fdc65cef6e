use Rattle.std.proofs.Common.{◌≡◌, ◌∙◌, sym, ap, take, arith}
use Rattle.fits_card.specs.Pieces.{without_trailing_spaces}
use Rattle.fits_card.proofs.Cutting.{space-cut, no-space-at_end}
use Rattle.fits_card.proofs.field.significant.Goals as goal

pub loop-kept-preserved : goal.loop-kept-preserved
loop-kept-preserved c = record {
  within = omega arith;
  same = c.loop-kept.invariant.same ∙ space-cut c.args.bytes.now c.loop-kept.kept c.loop-kept-test.true c.loop-kept.invariant.within c.if-bytes-kept-ne32.false;
}

pub returns-then-bytes-kept-ne32 : goal.returns-then-bytes-kept-ne32
returns-then-bytes-kept-ne32 c =
    sym (c.loop-kept.invariant.same
    ∙ no-space-at_end c.args.bytes.now c.loop-kept.kept c.loop-kept-test.true c.loop-kept.invariant.within c.if-bytes-kept-ne32.true)

pub returns : goal.returns
returns c =
    let none : c.loop-kept.kept ≡ 0 = omega arith in
    sym (c.loop-kept.invariant.same ∙ ap (λ n. without_trailing_spaces (take n c.args.bytes.now)) none)
