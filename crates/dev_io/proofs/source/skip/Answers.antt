use Rattle.std.proofs.Common.{arith, drop, length-append}
use Rattle.std.proofs.lemmas.List.{length-take, length-drop}
use Rattle.dev_io.proofs.Skipping.{skip_cut, skip_more, skip_lost}
use Rattle.dev_io.proofs.source.skip.Goals as goal

pub returns-in-Ok-clause-told : goal.returns-in-Ok-clause-told
returns-in-Ok-clause-told g c = λ bytes at takes.
    let before = c.loop-left.invariant.told bytes at takes in
    skip_cut bytes at _ _ c.min-piece.result _ _ _ _ before (c.in-Ok.ensures.moved _ before.rest)
    (omega (arith, length-take c.min-piece.result c.loop-left.buffer)) (omega arith) c.loop-left.invariant.within c.if-taken-piece.true

pub loop-left-preserved : goal.loop-left-preserved
loop-left-preserved g c = record {
  within = omega arith;
  long =
      omega (
        arith,
        length-append c.fill.new.buf (drop c.min-piece.result c.loop-left.buffer),
        length-drop c.min-piece.result c.loop-left.buffer,
        length-take c.min-piece.result c.loop-left.buffer,
      );
  told = λ bytes at takes.
      let before = c.loop-left.invariant.told bytes at takes in
      skip_more bytes at _ _ c.min-piece.result _ _ _ _ before (c.in-Ok.ensures.moved _ before.rest)
      (omega (arith, length-take c.min-piece.result c.loop-left.buffer)) (omega arith) c.loop-left.invariant.within c.if-taken-piece.false;
  later = omega (arith, c.in-Ok.ensures.cause.later);
}

pub returns-in-Err-clause-told : goal.returns-in-Err-clause-told
returns-in-Err-clause-told g c = λ bytes at takes.
    let before = c.loop-left.invariant.told bytes at takes in
    skip_lost bytes at _ _ c.min-piece.result _ _ _ before (c.in-Err.ensures.lost _ before.rest)
    (omega (arith, length-take c.min-piece.result c.loop-left.buffer)) (omega arith) c.loop-left.invariant.within
