use Rattle.std.proofs.Common.{◌+◌, refl, rules}
use Rattle.fits_write.specs.Hdus.{map_bytes}
use Rattle.fits_write.proofs.Pieces.{part_waits, part_cut, all_wait, waits_filled, cut_filled}
use Rattle.fits_write.proofs.map.put_numbers.Goals as goal

pub loop-first-init : goal.loop-first-init
unfolding map_bytes
loop-first-init g c = search rules

pub returns-in-Err-clause-bytes : goal.returns-in-Err-clause-bytes
returns-in-Err-clause-bytes g c =
    cut_filled _ _ _ 0
    (part_cut _ _ _ c.args.numbers.now _ c.loop-first.first c.min-count.result (c.loop-first.first + c.min-count.result) refl c.loop-first.invariant.waiting
    c.in-Err.ensures.err)

pub loop-first-preserved : goal.loop-first-preserved
loop-first-preserved g c = record {
  within = search rules;
  waiting = part_waits _ _ _ c.args.numbers.now _ _ c.loop-first.first c.min-count.result (c.loop-first.first + c.min-count.result) refl
      c.loop-first.invariant.waiting c.in_default.ensures.ok;
  later = search rules;
}

pub returns-clause-bytes : goal.returns-clause-bytes
returns-clause-bytes g c =
    waits_filled _ _ _ _ _ _ 0 (all_wait _ _ c.args.numbers.now _ c.loop-first.first c.loop-first-test.false c.loop-first.invariant.waiting)
    c.fill.ensures.bytes
