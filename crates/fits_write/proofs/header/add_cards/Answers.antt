use Rattle.std.proofs.Common.{rules}
use Rattle.std.proofs.lemmas.List.{get_or_default}
use Rattle.fits_write.proofs.Pieces.{waits_more, waits_cut}
use Rattle.fits_write.proofs.header.add_cards.Goals as goal

pub returns-in-Err-clause-err : goal.returns-in-Err-clause-err
returns-in-Err-clause-err g c =
    waits_cut _ _ _ c.args.blocks.now c.args.cards.now _ c.loop-card.card-index _ c.loop-card-test.true (get_or_default _ _ _ _ c.loop-card-test.true)
    c.loop-card.invariant.waiting c.in-Err.ensures.err

pub loop-card-preserved : goal.loop-card-preserved
loop-card-preserved g c = record {
  waiting = waits_more _ _ _ c.args.blocks.now c.args.cards.now _ _ c.loop-card.card-index _ c.loop-card-test.true
      (get_or_default _ _ _ _ c.loop-card-test.true) c.loop-card.invariant.waiting c.in_default.ensures.ok;
  later = search rules;
}
