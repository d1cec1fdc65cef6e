-- All pixels were read: the plane is the stored one.
use Rattle.std.proofs.Common.{◌≡◌, ℕ, ◌*◌, ◌<◌, List, length, drop, true, false, Option, Some, None, pos, refl, ◌∙◌, ap, sym, subst, arith}
use Rattle.std.specs.List.{position}
use Rattle.std.proofs.lemmas.List.{ext_get_or, length-map}
use Rattle.std.proofs.lemmas.List.FromFn.{get_or-map-range_with_len, length-range_with_len}
use Rattle.dev_io.specs.Streams.{Takes, TakesAtMost}
use Rattle.comp_tree.specs.declared.shape.Shape.{Shape}
use Rattle.comp_tree.specs.Raster.{Raster, value_at}
use Rattle.comp_tree.proofs.Exported.{raster_is}
use Rattle.fits_hdu.specs.declared.answer.Hdu.{Hdu}
use Rattle.pixel_plane.specs.declared.limits.Limits.{Limits}
use Rattle.pixel_plane.specs.WithinLimits.{HasValuesInLimits}
use Rattle.pixel_plane.specs.declared.encoding.Encoding.{Encoding}
use Rattle.pixel_plane.specs.Stored.{size_of, whole_or_zero, blank_of, pixel_value, stored_number, stored_plane, is_out_of_range, holds_narrow, value_limits, first_out_of_range}
use Rattle.pixel_plane.specs.Images.{image_fault}
use Rattle.pixel_plane.specs.Reading.{PlaneRead, PlaneStopped, image_bytes}
use Rattle.pixel_plane.specs.Decoding.{decoded, PixelsRead, PixelsStopped}
use Rattle.pixel_plane.proofs.Readable.{wide_bits}
use Rattle.pixel_plane.proofs.HalfRange.{none_far, no_position, position_at}
use Rattle.pixel_plane.specs.declared.fault.PlaneFault.TheVariants.{TruncatedData, PixelRange}
use Rattle.pixel_plane.specs.declared.fault.PlaneStop.{PlaneStop}
use Rattle.pixel_plane.specs.declared.fault.PlaneStop.TheVariants.{Fault, ReadFault, OutOfMemory}

-- the encoding of this image
pub record IsEncodingOf (limits : Limits) (hdu : Hdu) (shape : Shape) (encoding : Encoding) : Type 0 where
  pub size : encoding.size ≡ size_of hdu
  pub zero : encoding.zero ≡ whole_or_zero hdu.bzero
  pub blank : encoding.blank ≡ blank_of hdu.blank
  pub within : encoding.limits ≡ value_limits limits shape

same_pixels : (limits : Limits) (hdu : Hdu) (shape : Shape) (encoding : Encoding) (bytes : List ℕ) (p : ℕ) → IsEncodingOf limits hdu shape encoding → decoded encoding bytes p ≡ pixel_value hdu bytes p
same_pixels limits hdu shape encoding bytes p e = rw (e.size, e.zero, e.blank) refl

-- the number of bytes is that of the encoding's numbers
image_bytes_are : (limits : Limits) (hdu : Hdu) (shape : Shape) (encoding : Encoding) (n : ℕ) → IsEncodingOf limits hdu shape encoding → n ≡ shape.width * shape.height
    → n * encoding.size ≡ image_bytes hdu shape
image_bytes_are limits hdu shape encoding n e count = ap (λ size. n * size) e.size ∙ ap (λ k. k * size_of hdu) count

-- pixel p of the stored plane
stored_pixel : (limits : Limits) (hdu : Hdu) (shape : Shape) (encoding : Encoding) (bytes : List ℕ) (p : ℕ) → IsEncodingOf limits hdu shape encoding → p < shape.width * shape.height
    → value_at (stored_plane hdu shape bytes).values p ≡ decoded encoding bytes p
unfolding stored_plane
stored_pixel limits hdu shape encoding bytes p e h =
    get_or-map-range_with_len (pixel_value hdu bytes) 0 (shape.width * shape.height) p p None h (omega arith) ∙ sym (same_pixels limits hdu shape encoding bytes p e)

stored_length : (hdu : Hdu) (shape : Shape) (bytes : List ℕ) → length (stored_plane hdu shape bytes).values ≡ shape.width * shape.height
unfolding stored_plane
stored_length hdu shape bytes = length-map _ (pixel_value hdu bytes) ∙ length-range_with_len 0 (shape.width * shape.height)

stored_shape : (hdu : Hdu) (shape : Shape) (bytes : List ℕ) → (stored_plane hdu shape bytes).shape ≡ shape
unfolding stored_plane
stored_shape hdu shape bytes = refl

-- with values in range no pixel is out of it
none_first : (limits : Limits) (hdu : Hdu) (shape : Shape) (bytes : List ℕ) → HasValuesInLimits (value_limits limits shape) (stored_plane hdu shape bytes).values
    → first_out_of_range limits hdu shape bytes ≡ None
unfolding first_out_of_range
none_first limits hdu shape bytes near =
    no_position (value_limits limits shape) (stored_plane hdu shape bytes).values (λ p. none_far (value_limits limits shape) _ p near)

some_first : (limits : Limits) (hdu : Hdu) (shape : Shape) (bytes : List ℕ) (p : ℕ)
    → position (is_out_of_range (value_limits limits shape)) (stored_plane hdu shape bytes).values ≡ Some p
    → first_out_of_range limits hdu shape bytes ≡ Some p
unfolding first_out_of_range
some_first limits hdu shape bytes p h = h

pub plane_is_read : (limits : Limits) (hdu : Hdu) (shape : Shape) (encoding : Encoding) (bytes : List ℕ) (left : Option (List ℕ)) (plane : Raster) → IsEncodingOf limits hdu shape encoding
    → plane.shape ≡ shape
    → length plane.values ≡ shape.width * shape.height → HasValuesInLimits (value_limits limits shape) plane.values → PixelsRead encoding bytes left plane.values
    → PlaneRead limits hdu shape bytes left plane
plane_is_read limits hdu shape encoding bytes left plane e same count near read = record {
  plane_is = raster_is plane (stored_plane hdu shape bytes) (same ∙ sym (stored_shape hdu shape bytes)) values_are;
  none_out_of_range = none_first limits hdu shape bytes (subst (HasValuesInLimits (value_limits limits shape)) values_are near);
  takes = subst (Takes bytes left) (image_bytes_are limits hdu shape encoding _ e count) read.takes;
}
  where
    values_are : plane.values ≡ (stored_plane hdu shape bytes).values
    values_are = ext_get_or None plane.values (stored_plane hdu shape bytes).values (count ∙ sym (stored_length hdu shape bytes)) (λ p h.
        read.are_decoded p h ∙ sym (stored_pixel limits hdu shape encoding bytes p e (omega (arith, h, count))))

-- of a reading that stopped
pub plane_stopped : (limits : Limits) (hdu : Hdu) (shape : Shape) (encoding : Encoding) (bytes : List ℕ) (left : Option (List ℕ)) (n : ℕ) (stop : PlaneStop)
    → IsEncodingOf limits hdu shape encoding
    → image_fault limits hdu ≡ None → n ≡ shape.width * shape.height → PixelsStopped encoding n bytes left stop → PlaneStopped limits hdu shape bytes left stop
plane_stopped limits hdu shape encoding bytes left n (Fault TruncatedData) e readable count (short, takes) =
    (subst (λ total. length bytes < total) (image_bytes_are limits hdu shape encoding n e count) short, takes)
plane_stopped limits hdu shape encoding bytes left n ReadFault e readable count stopped =
    subst (TakesAtMost bytes left) (image_bytes_are limits hdu shape encoding n e count) stopped
plane_stopped limits hdu shape encoding bytes left n OutOfMemory e readable count stopped = absurd stopped
plane_stopped limits hdu shape encoding bytes left n (Fault (PixelRange pixel stored)) e readable count far = record {
  bits = bits;
  least = some_first limits hdu shape bytes pixel (position_at (value_limits limits shape) (stored_plane hdu shape bytes).values pixel (omega (arith, inside, stored_length hdu shape bytes))
      (ap (is_out_of_range (value_limits limits shape)) (stored_pixel limits hdu shape encoding bytes pixel e inside) ∙ far_here)
      (λ q h. ap (is_out_of_range (value_limits limits shape)) (stored_pixel limits hdu shape encoding bytes q e (omega (arith, h, inside))) ∙ before q h));
  number = far.is_far.number ∙ ap (λ size. stored_number size (drop (pixel * size) bytes)) e.size;
  takes = subst (Takes bytes left) (image_bytes_are limits hdu shape encoding n e count) far.takes;
}
  where
    inside : pixel < shape.width * shape.height
    inside = omega (arith, far.inside, count)

    bits : holds_narrow (value_limits limits shape) ≡ true → hdu.bitpix ≡ pos 64
    bits holds = wide_bits limits hdu readable (sym e.size ∙ far.is_far.wide (subst (λ (l : Limits). holds_narrow l ≡ true) (sym e.within) holds))

    far_here : is_out_of_range (value_limits limits shape) (decoded encoding bytes pixel) ≡ true
    far_here = subst (λ (l : Limits). is_out_of_range l (decoded encoding bytes pixel) ≡ true) e.within far.is_far.far

    before : (q : ℕ) → q < pixel → is_out_of_range (value_limits limits shape) (decoded encoding bytes q) ≡ false
    before q h = subst (λ (l : Limits). is_out_of_range l (decoded encoding bytes q) ≡ false) e.within (far.before q h)
