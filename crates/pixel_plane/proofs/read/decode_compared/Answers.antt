use Rattle.std.proofs.Common.{◌≡◌, ◌-◌, ◌∙◌, ◌<◌, length, arith, rules, w64, to_z, of_z, SFits}
use Rattle.std.proofs.lemmas.Int.{ints}
use Rattle.std.proofs.lemmas.List.{length-set}
use Rattle.pixel_plane.specs.Decoding.{decoded, most_in}
use Rattle.pixel_plane.proofs.HalfRange.{set_in_range}
use Rattle.pixel_plane.proofs.Nearness.{settable}
use Rattle.pixel_plane.proofs.Decoding.{decoded_next, value_from, far_from}
use Rattle.pixel_plane.proofs.read.decode_compared.Goals as goal

pub returns-in-Err-clause-decoded : goal.returns-in-Err-clause-decoded
returns-in-Err-clause-decoded c =
    let fits : SFits w64 c.in-Err.stored = search rules in
    let same : to_z w64 (of_z w64 c.in-Err.stored) ≡ c.in-Err.stored = omega (arith, ints) in
    rw same (record {
      from = omega arith;
      inside = omega arith;
      is_far = far_from c.args.encoding.now c.args.bytes.now (c.loop-p.p - c.args.first) c.in-Err.stored c.requires.wide c.in-Err.ensures.value;
      decoded_before = c.loop-p.invariant.decoded;
    })

pub loop-p-preserved : goal.loop-p-preserved
loop-p-preserved c =
    let inside : c.loop-p.p < length c.loop-p.canvas.values = omega (arith, c.loop-p-test.true, c.requires.within, c.loop-p.invariant.count) in
    let value : c.in-Ok.value ≡ decoded c.args.encoding.now c.args.bytes.now (c.loop-p.p - c.args.first) =
    c.in-Ok.ensures.value ∙ value_from c.args.encoding.now c.args.bytes.now (c.loop-p.p - c.args.first) in
    rw c.set.ensures (record {
      shape = c.loop-p.invariant.shape;
      count = length-set _ _ _ ∙ c.loop-p.invariant.count;
      most = c.loop-p.invariant.most;
      in_limits = set_in_range _ _ _ _ c.in-Ok.ensures.within c.loop-p.invariant.in_limits;
      decoded = decoded_next _ _ _ _ _ _ _ c.loop-p.auto.p inside value c.loop-p.invariant.decoded;
    })

pub set-requires-clause-in_range : goal.set-requires-clause-in_range
set-requires-clause-in_range c =
    settable c.loop-p.canvas.most (most_in c.args.encoding.now) c.in-Ok.value (c.loop-p.invariant.most ∙ c.requires.most) c.in-Ok.ensures.near
