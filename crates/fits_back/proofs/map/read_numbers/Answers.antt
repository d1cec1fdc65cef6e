use Rattle.std.proofs.Common.{◌∙◌, ◌++◌, ap, arith, rules, w8}
use Rattle.std.proofs.Math.Facts.{Fits-lt-pow}
use Rattle.fits_write.specs.Hdus.{map_bytes}
use Rattle.fits_back.proofs.Numbers.{no_numbers, number_read, all_read}
use Rattle.fits_back.proofs.map.read_numbers.Goals as goal

pub loop-init : goal.loop-init
loop-init c = record {
  so_far = ap (λ l. map_bytes l ++ c.args.bytes.now) c.in_ok-numbers.ensures.items ∙ no_numbers c.args.bytes.now;
  left = omega (arith, c.requires);
  many = search rules;
}

pub loop-preserved : goal.loop-preserved
loop-preserved c = record {
  so_far =
      ap (λ l. map_bytes l ++ c.split_at.result.1.now) c.in_ok-push.ensures.items
      ∙ number_read c.loop.numbers.items c.args.bytes.now c.loop.rest.now c.split_at.result.0.now c.split_at.result.1.now c.read_u32.result
      (λ k. Fits-lt-pow {w = w8} (c.type_inv.bytes k)) c.loop.invariant.so_far c.split_at.ensures.by_index.0 c.split_at.ensures.front_len c.read_u32.ensures;
  left = omega (arith, c.loop.invariant.left, c.split_at.ensures.back_len);
  many = search rules;
}

pub returns-clause-bytes : goal.returns-clause-bytes
returns-clause-bytes c =
    all_read c.loop.numbers.items c.args.bytes.now c.loop.rest.now (omega (arith, c.loop.invariant.left, c.loop-test.false)) c.loop.invariant.so_far
