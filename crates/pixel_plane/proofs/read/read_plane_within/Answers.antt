use Rattle.std.proofs.Common.{◌∙◌, ◌≡◌, ◌*◌, ap, length, refl, subst}
use Rattle.std.proofs.lemmas.List.{length-replicate}
use Rattle.pixel_plane.specs.declared.limits.Limits.{Limits}
use Rattle.pixel_plane.specs.WithinLimits.{HasValuesInLimits}
use Rattle.pixel_plane.proofs.Readable.{shape_without_fault}
use Rattle.pixel_plane.proofs.HalfRange.{blank_in_range, in_half_range, suited_by}
use Rattle.pixel_plane.proofs.Nearness.{most_fits}
use Rattle.pixel_plane.proofs.Planes.{IsEncodingOf, plane_is_read, plane_stopped}
use Rattle.pixel_plane.proofs.Naming.{pixel_named}
use Rattle.pixel_plane.proofs.read.read_plane_within.Goals as goal

pub of-encoding-requires : goal.of-encoding-requires
of-encoding-requires g c = shape_without_fault c.args.limits.now c.args.hdu.now c.args.shape c.requires

pub returns-in-Ok-read_pixels-clause-told : goal.returns-in-Ok-read_pixels-clause-told
returns-in-Ok-read_pixels-clause-told g c = λ x e.
    let encoding : IsEncodingOf c.args.limits.now c.args.hdu.now c.args.shape c.of-encoding.result = record {
      size = c.of-encoding.ensures.size;
      zero = c.of-encoding.ensures.zero;
      blank = c.of-encoding.ensures.blank;
      within = c.of-encoding.ensures.limits;
    } in
    let blank : length c.in-Ok.canvas.values ≡ c.args.shape.width * c.args.shape.height = ap length c.in-Ok.ensures.undefined ∙ length-replicate _ _ in
    rw c.into_plane.ensures
    (plane_is_read c.args.limits.now c.args.hdu.now c.args.shape c.of-encoding.result x _ _ encoding (c.in-Ok-read_pixels.ensures.shape ∙ c.in-Ok.ensures.shape)
    (c.in-Ok-read_pixels.ensures.count ∙ blank) (subst (λ (l : Limits). HasValuesInLimits l c.read_pixels.new.canvas.values) c.of-encoding.ensures.limits c.in-Ok-read_pixels.ensures.in_limits) (c.in-Ok-read_pixels.ensures.told x e))

pub read_pixels-requires-clause-in_limits : goal.read_pixels-requires-clause-in_limits
read_pixels-requires-clause-in_limits g c = blank_in_range _ _ _ c.in-Ok.ensures.undefined

pub blank_within-requires : goal.blank_within-requires
blank_within-requires g c = rw c.most.ensures (most_fits _ _ _ c.of-encoding.result.limits (c.args.shape.width * c.args.shape.height)
    (suited_by c.args.limits.now c.args.shape c.of-encoding.result.limits (c.args.shape.width * c.args.shape.height) c.of-encoding.ensures.limits refl))

pub returns-in-Err-clause-told : goal.returns-in-Err-clause-told
returns-in-Err-clause-told g c = λ x e.
    let encoding : IsEncodingOf c.args.limits.now c.args.hdu.now c.args.shape c.of-encoding.result = record {
      size = c.of-encoding.ensures.size;
      zero = c.of-encoding.ensures.zero;
      blank = c.of-encoding.ensures.blank;
      within = c.of-encoding.ensures.limits;
    } in
    let blank : length c.in-Ok.canvas.values ≡ c.args.shape.width * c.args.shape.height = ap length c.in-Ok.ensures.undefined ∙ length-replicate _ _ in
    plane_stopped c.args.limits.now c.args.hdu.now c.args.shape c.of-encoding.result x _ _ c.in-Err.stop encoding (shape_without_fault c.args.limits.now c.args.hdu.now c.args.shape c.requires)
    blank
    (c.in-Err.ensures.told x e)

pub returns-in-Err-clause-range : goal.returns-in-Err-clause-range
returns-in-Err-clause-range g c =
    let encoding : IsEncodingOf c.args.limits.now c.args.hdu.now c.args.shape c.of-encoding.result = record {
      size = c.of-encoding.ensures.size;
      zero = c.of-encoding.ensures.zero;
      blank = c.of-encoding.ensures.blank;
      within = c.of-encoding.ensures.limits;
    } in
    let blank : length c.in-Ok.canvas.values ≡ c.args.shape.width * c.args.shape.height = ap length c.in-Ok.ensures.undefined ∙ length-replicate _ _ in
    pixel_named c.args.limits.now c.args.hdu.now c.args.shape c.of-encoding.result _ c.in-Err.stop encoding (shape_without_fault c.args.limits.now c.args.hdu.now c.args.shape c.requires) blank
    c.in-Err.ensures.range

pub returns-in-Ok-read_pixels-clause-half_range : goal.returns-in-Ok-read_pixels-clause-half_range
returns-in-Ok-read_pixels-clause-half_range g c =
    let blank : length c.in-Ok.canvas.values ≡ c.args.shape.width * c.args.shape.height = ap length c.in-Ok.ensures.undefined ∙ length-replicate _ _ in
    rw c.into_plane.ensures (in_half_range c.of-encoding.result.limits _
    (suited_by c.args.limits.now c.args.shape c.of-encoding.result.limits _ c.of-encoding.ensures.limits (c.in-Ok-read_pixels.ensures.count ∙ blank))
    c.in-Ok-read_pixels.ensures.in_limits)
