use Rattle.std.proofs.Common.{refl, arith, ap, ◌+◌}
use Rattle.fits_hdu.proofs.Reaching.{stop_missing, stop_long}
use Rattle.fits_hdu.proofs.Stages.{others_first, others_refused, others_ended, others_step}
use Rattle.fits_hdu.proofs.header.read_others.Goals as goal

pub loop-number-init : goal.loop-number-init
loop-number-init g c = record {
  told = λ bytes start first count. others_first bytes _ start _ _ _ _ first count (ap (λ n. 4 + n) c.from-number.ensures) c.none-others.ensures;
  later = omega arith;
}

pub returns-in-Err-clause-told : goal.returns-in-Err-clause-told
returns-in-Err-clause-told g c = λ bytes start first count.
    let before = c.loop-number.invariant.told bytes start first count in
    stop_missing bytes _ start _ _ _ _ before.reached (omega arith) (c.in-Err.ensures.told bytes _ before.reached.takes)

pub returns-then-is_bad-clause-told : goal.returns-then-is_bad-clause-told
returns-then-is_bad-clause-told g c = λ bytes start first count.
    let before = c.loop-number.invariant.told bytes start first count in
    others_refused bytes _ start _ _ _ _ _ _ _ before count (omega arith) (omega arith) (c.in-Ok.ensures.told bytes _ before.reached.takes) c.is_bad.ensures
    c.if-is_bad.true

pub returns-then-is_end-clause-told : goal.returns-then-is_end-clause-told
returns-then-is_end-clause-told g c = λ bytes start first count.
    let before = c.loop-number.invariant.told bytes start first count in
    others_ended bytes _ start _ _ _ _ _ _ _ _ before count (omega arith) (omega arith) (c.in-Ok.ensures.told bytes _ before.reached.takes) c.is_bad.ensures
    c.if-is_bad.false c.is_end.ensures c.if-is_end.true

pub loop-number-preserved : goal.loop-number-preserved
loop-number-preserved g c = record {
  told = λ bytes start first count.
      let before = c.loop-number.invariant.told bytes start first count in
      others_step bytes _ start _ _ _ _ _ _ _ _ _ _ before count (omega arith) refl (c.in-Ok.ensures.told bytes _ before.reached.takes) c.is_bad.ensures
      c.if-is_bad.false c.is_end.ensures c.if-is_end.false c.with-others.ensures;
  later = omega (arith, c.in-Ok.ensures.later);
}

pub returns-clause-told : goal.returns-clause-told
returns-clause-told g c = λ bytes start first count.
    let before = c.loop-number.invariant.told bytes start first count in
    stop_long bytes _ start _ _ before.reached (omega arith)
