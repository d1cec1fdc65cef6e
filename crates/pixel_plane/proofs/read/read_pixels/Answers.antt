use Rattle.std.proofs.Common.{rules, arith, ℕ, ◌≤◌, ◌≡◌, ◌-◌, ◌*◌, length, subst, mul-le-mul}
use Rattle.pixel_plane.specs.Decoding.{ReadSoFar, PixelsStopped}
use Rattle.pixel_plane.proofs.Decoding.{read_more, taken_to, block_stopped, far_stopped, size_at_most}
use Rattle.pixel_plane.proofs.Naming.{none_far_named, far_named}
use Rattle.pixel_plane.proofs.read.read_pixels.Goals as goal

pub loop-first-preserved : goal.loop-first-preserved
loop-first-preserved g c =
    let order : c.loop-first.first ≤ c.min-end.result = search rules in
    let size : length c.fill_all.new.buf ≡ (c.min-end.result - c.loop-first.first) * c.args.encoding.now.size = search rules in
    record {
      within = search rules;
      shape = search rules;
      values = search rules;
      most = search rules;
      in_limits = search rules;
      told = λ x e.
          let before = c.loop-first.invariant.told x e in
          let fills = c.in_default.ensures.told _ before.takes.rest in
          read_more c.args.encoding.now x _ _ _ _ _ _ _ order size before fills c.in_default-decode.ensures.decoded;
      later = search rules;
    }

pub returns-clause-told : goal.returns-clause-told
returns-clause-told g c = λ x e.
    let all : c.loop-first.first ≡ length c.loop-first.canvas.values =
    omega (
      arith,
      c.loop-first-test.false,
      c.loop-first.invariant.within,
      c.loop-first.invariant.values,
      c.shape.ensures.pixels,
      c.pixels-count.ensures.product,
    ) in
    subst (ReadSoFar c.args.encoding.now x _ c.loop-first.canvas.values) all (c.loop-first.invariant.told x e)

pub returns-in-Err-clause-told : goal.returns-in-Err-clause-told
returns-in-Err-clause-told g c = λ x e.
    let order : c.loop-first.first ≤ c.min-end.result = search rules in
    let size : length c.fill_all.new.buf ≡ (c.min-end.result - c.loop-first.first) * c.args.encoding.now.size = search rules in
    let within : c.min-end.result ≤ length c.args.canvas.now.values = search rules in
    let before = c.loop-first.invariant.told x e in
    block_stopped c.args.encoding.now x _ _ _ _ _ _ _ order within size before.takes (c.in-Err.ensures.told _ before.takes.rest)

pub returns-in-Err-decode-clause-told : goal.returns-in-Err-decode-clause-told
returns-in-Err-decode-clause-told g c = λ x e.
    let order : c.loop-first.first ≤ c.min-end.result = search rules in
    let size : length c.fill_all.new.buf ≡ (c.min-end.result - c.loop-first.first) * c.args.encoding.now.size = search rules in
    let within : c.min-end.result ≤ c.pixels-count.result = search rules in
    let count : c.pixels-count.result ≡ length c.args.canvas.now.values = search rules in
    let before = c.loop-first.invariant.told x e in
    let fills = c.in_default.ensures.told _ before.takes.rest in
    let taken = taken_to c.args.encoding.now x _ _ _ _ _ order size before.takes fills in
    let far = c.in-Err-decode.ensures.decoded in
    let near = c.in-Err-decode.ensures.in_limits in
    let stopped = c.stop_at_range.ensures.told _ taken.rest in
    subst (λ n. PixelsStopped c.args.encoding.now n x (g.S.Source.left c.stop_at_range.new.src) c.stop_at_range.result) count
    (far_stopped c.args.encoding.now x _ _ _ _ _ _ _ _ _ _ _ _ order within size before fills far near stopped)

pub returns-in-Err-clause-range : goal.returns-in-Err-clause-range
returns-in-Err-clause-range g c = none_far_named c.args.encoding.now (length c.args.canvas.now.values) c.in-Err.stop c.in-Err.ensures.range

pub returns-in-Err-decode-clause-range : goal.returns-in-Err-decode-clause-range
returns-in-Err-decode-clause-range g c =
    let within : c.min-end.result ≤ length c.args.canvas.now.values = search rules in
    far_named c.args.encoding.now _ _ _ _ _ _ _ _ c.stop_at_range.result within c.in-Err-decode.ensures.decoded c.stop_at_range.ensures.range

pub overflow_mul-count : goal.overflow_mul-count
overflow_mul-count g c =
    let size : ℕ = c.args.encoding.now.size in
    let rest : ℕ = c.pixels-count.result - c.min-end.result in
    let small : size ≤ 8 = size_at_most size c.args.encoding.now.sizes in
    let few : rest ≤ 2147483647 = omega (arith, c.pixels-count.ensures.few) in
    let product : rest * size ≤ 2147483647 * 8 = mul-le-mul few small in
    omega (arith, product)
