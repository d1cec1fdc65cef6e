use Rattle.std.proofs.Common.{◌≡◌, ◌∙◌, ◌<◌, length, ap, arith, rules, w16, w64, SFits}
use Rattle.std.proofs.lemmas.Int.{to_z-of_z}
use Rattle.std.proofs.lemmas.List.{length-set}
use Rattle.pixel_plane.specs.Stored.{value_stored_as}
use Rattle.pixel_plane.specs.Decoding.{decoded, SuitsEncoding}
use Rattle.pixel_plane.proofs.Decoding.{run_next, number_at}
use Rattle.pixel_plane.proofs.runs.decode_twos.Goals as goal

pub loop-k-preserved : goal.loop-k-preserved
loop-k-preserved c =
    let inside : c.loop-k.k < length c.loop-k.run = omega (arith, c.loop-k-test.true, c.loop-k.invariant.one_each) in
    let fits : SFits w16 c.read_i16.result = search rules in
    let wide : SFits w64 c.from.result = search rules in
    let value : c.pixel_of.result ≡ decoded c.args.encoding.now c.args.bytes.now c.loop-k.k =
    c.pixel_of.ensures.value ∙ ap (value_stored_as c.args.encoding.now.zero c.args.encoding.now.blank) (to_z-of_z w64 c.from.result wide)
    ∙ number_at c.args.encoding.now c.args.bytes.now c.loop-k.k 2 _ c.requires.size (c.from.ensures ∙ to_z-of_z w16 c.read_i16.result fits ∙ c.read_i16.ensures) in
    let suits : SuitsEncoding c.args.encoding.now c.pixel_of.result = record { within = c.pixel_of.ensures.within; near = c.pixel_of.ensures.near } in
    record {
      one_each = length-set _ _ _ ∙ c.loop-k.invariant.one_each;
      decoded = run_next _ _ _ _ _ inside value suits c.loop-k.invariant.decoded;
    }
