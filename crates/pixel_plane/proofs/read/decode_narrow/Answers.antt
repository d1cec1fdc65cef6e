use Rattle.std.proofs.Common.{◌≡◌, ◌∙◌, length, sym, arith, rules}
use Rattle.pixel_plane.proofs.HalfRange.{run_in_range}
use Rattle.pixel_plane.proofs.Decoding.{run_counted, run_follows}
use Rattle.pixel_plane.proofs.read.decode_narrow.Goals as goal

pub loop-p-preserved : goal.loop-p-preserved
loop-p-preserved c =
    let size : length c.decode_run.new.run ≡ c.min-count.result = search rules in
    let decoded = run_counted c.args.encoding.now _ c.decode_run.new.run _ c.min-count.result (sym c.decode_run.ensures.one_each ∙ size)
    c.decode_run.ensures.decoded in
    record {
      from = search rules;
      within = search rules;
      shape = search rules;
      count = search rules;
      most = search rules;
      in_limits = run_in_range c.args.encoding.now.limits c.decode_run.new.run c.loop-p.canvas.values c.put_pixels.new.self.values c.loop-p.p
          c.put_pixels.ensures.one_each (λ k h. (decoded.suit k (omega (arith, h, size))).within) c.put_pixels.ensures.inside
          c.put_pixels.ensures.before c.put_pixels.ensures.behind c.loop-p.invariant.in_limits;
      decoded = run_follows c.args.encoding.now c.args.bytes.now c.args.first c.loop-p.p c.min-count.result c.decode_run.new.run
          c.args.canvas.now.values c.loop-p.canvas.values c.put_pixels.new.self.values c.loop-p.invariant.from
          decoded (λ k h. c.put_pixels.ensures.inside k (omega (arith, h, size))) c.put_pixels.ensures.before c.loop-p.invariant.decoded;
    }
