use Rattle.std.proofs.Common.{◌≡◌, ◌∙◌, ◌<◌, length, ap, arith, rules, w64, SFits}
use Rattle.std.proofs.lemmas.Int.{to_z-of_z}
use Rattle.std.proofs.lemmas.List.{length-set}
use Rattle.pixel_plane.specs.Stored.{value_stored_as}
use Rattle.pixel_plane.specs.Decoding.{decoded, SuitsEncoding}
use Rattle.pixel_plane.proofs.Decoding.{run_next, byte_at}
use Rattle.pixel_plane.proofs.runs.decode_ones.Goals as goal

pub loop-k-preserved : goal.loop-k-preserved
loop-k-preserved c =
    let inside : c.loop-k.k < length c.loop-k.run = omega (arith, c.loop-k-test.true, c.loop-k.invariant.one_each) in
    let there : c.loop-k.k < length c.args.bytes.now = omega (arith, inside, c.loop-k.invariant.one_each, c.requires.room) in
    let wide : SFits w64 c.from.result = search rules in
    let value : c.pixel_of.result ≡ decoded c.args.encoding.now c.args.bytes.now c.loop-k.k =
    c.pixel_of.ensures.value ∙ ap (value_stored_as c.args.encoding.now.zero c.args.encoding.now.blank) (to_z-of_z w64 c.from.result wide)
    ∙ byte_at c.args.encoding.now c.args.bytes.now c.loop-k.k _ c.requires.size there c.from.ensures in
    let suits : SuitsEncoding c.args.encoding.now c.pixel_of.result = record { within = c.pixel_of.ensures.within; near = c.pixel_of.ensures.near } in
    record {
      one_each = length-set _ _ _ ∙ c.loop-k.invariant.one_each;
      decoded = run_next _ _ _ _ _ inside value suits c.loop-k.invariant.decoded;
    }
