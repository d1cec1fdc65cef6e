-- The pixel that a fault names.
use Rattle.std.proofs.Common.{◌≡◌, ℕ, true, ◌≤◌, ◌*◌, List, ℤ, ap, sym, subst, ◌∙◌, arith}
use Rattle.std.specs.declared.option.Option.{Option}
use Rattle.std.specs.Prelude.{None}
use Rattle.comp_tree.specs.declared.shape.Shape.{Shape}
use Rattle.fits_hdu.specs.declared.answer.Hdu.{Hdu}
use Rattle.pixel_plane.specs.declared.encoding.Encoding.{Encoding}
use Rattle.pixel_plane.specs.declared.limits.Limits.{Limits}
use Rattle.pixel_plane.specs.declared.fault.PlaneFault.TheVariants.{TruncatedData, PixelRange}
use Rattle.pixel_plane.specs.declared.fault.PlaneStop.{PlaneStop}
use Rattle.pixel_plane.specs.declared.fault.PlaneStop.TheVariants.{Fault, ReadFault, OutOfMemory}
use Rattle.pixel_plane.specs.Images.{image_fault}
use Rattle.pixel_plane.specs.Stored.{pixel_at, value_stored_as, is_out_of_range, holds_narrow}
use Rattle.pixel_plane.specs.Reading.{NamesPixel}
use Rattle.pixel_plane.specs.Decoding.{FarInside, IsFarPixel, NamesNone, NamesOnly, NamesFar}
use Rattle.pixel_plane.proofs.Readable.{wide_bits}
use Rattle.pixel_plane.proofs.Planes.{IsEncodingOf}

pub none_far_named : (encoding : Encoding) (count : ℕ) (stop : PlaneStop) → NamesNone stop → NamesFar encoding count stop
none_far_named encoding count (Fault TruncatedData) h = tt
none_far_named encoding count ReadFault h = tt
none_far_named encoding count OutOfMemory h = tt
none_far_named encoding count (Fault (PixelRange p number)) h = absurd h

far_pixel : (encoding : Encoding) (bytes : List ℕ) (first end count : ℕ) (old new : List (Option ℤ)) (pixel : ℕ) (stored : ℤ) → end ≤ count
    → FarInside encoding bytes first end old new pixel stored → IsFarPixel encoding count pixel stored
unfolding pixel_at
far_pixel encoding bytes first end count old new pixel stored within far = record {
  wide = far.is_far.wide;
  inside = omega (arith, far.inside, within);
  far = ap (λ number. is_out_of_range encoding.limits (value_stored_as encoding.zero encoding.blank number)) far.is_far.number ∙ far.is_far.far;
}

pub far_named : (encoding : Encoding) (bytes : List ℕ) (first end count : ℕ) (old new : List (Option ℤ)) (pixel : ℕ) (stored : ℤ) (stop : PlaneStop)
    → end ≤ count
    → FarInside encoding bytes first end old new pixel stored → NamesOnly pixel stored stop → NamesFar encoding count stop
far_named encoding bytes first end count old new pixel stored (Fault TruncatedData) within far h = tt
far_named encoding bytes first end count old new pixel stored ReadFault within far h = tt
far_named encoding bytes first end count old new pixel stored OutOfMemory within far h = tt
far_named encoding bytes first end count old new pixel stored (Fault (PixelRange p number)) within far (same, same_number) =
    subst (λ k. IsFarPixel encoding count k number) (sym same)
    (subst (IsFarPixel encoding count pixel) (sym same_number) (far_pixel encoding bytes first end count old new pixel stored within far))

pub pixel_named : (limits : Limits) (hdu : Hdu) (shape : Shape) (encoding : Encoding) (n : ℕ) (stop : PlaneStop) → IsEncodingOf limits hdu shape encoding → image_fault limits hdu ≡ None
    → n ≡ shape.width * shape.height → NamesFar encoding n stop → NamesPixel limits hdu shape stop
pixel_named limits hdu shape encoding n (Fault TruncatedData) e readable count h = tt
pixel_named limits hdu shape encoding n ReadFault e readable count h = tt
pixel_named limits hdu shape encoding n OutOfMemory e readable count h = tt
pixel_named limits hdu shape encoding n (Fault (PixelRange pixel stored)) e readable count far = record {
  bits = λ holds. wide_bits limits hdu readable (sym e.size ∙ far.wide (subst (λ (l : Limits). holds_narrow l ≡ true) (sym e.within) holds));
  inside = omega (arith, far.inside, count);
  outside = rw (← e.zero, ← e.blank, ← e.within) far.far;
}
