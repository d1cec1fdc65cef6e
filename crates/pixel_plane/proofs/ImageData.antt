-- The bytes of an image are all data of its HDU.
use Rattle.std.proofs.Common.{◌≡◌, ℕ, ◌*◌, ◌≤◌, Bool, true, false, ◌||◌, not, nat_lt, List, None, Option, Some, refl, sym, ap, ◌∙◌, arith, mul_comm}
use Rattle.std.specs.Prelude.{Ok}
use Rattle.std.proofs.lemmas.Bool.{not-false}
use Rattle.std.proofs.lemmas.Bool.Decides.{nat_tests}
use Rattle.comp_tree.specs.declared.shape.Shape.{Shape}
use Rattle.comp_tree.specs.Limits.{IsWithinLimits}
use Rattle.comp_tree.specs.Shapes.{shape_if}
use Rattle.fits_hdu.specs.declared.answer.Hdu.{Hdu}
use Rattle.fits_hdu.specs.Headers.{found}
use Rattle.fits_hdu.specs.Finding.{find_of}
use Rattle.fits_hdu.specs.Sizes.{number_bytes}
use Rattle.fits_hdu.proofs.Exported.{image_data}
use Rattle.pixel_plane.specs.declared.fault.ImageFault.{ImageFault}
use Rattle.pixel_plane.specs.declared.limits.Limits.{Limits}
use Rattle.pixel_plane.specs.ImageLimits.{fits_plane, plane_shape, plane_sides}
use Rattle.pixel_plane.specs.Images.{checked, image_fault, shape_unless, has_no_pixels}
use Rattle.pixel_plane.specs.Reading.{image_bytes}
use Rattle.pixel_plane.proofs.Readable.{IsReadable, readable, shape_without_fault}

record HasSides (shape : Shape) (width height : ℕ) : Type 0 where
  columns : shape.width ≡ width
  rows : shape.height ≡ height

sides_if : (width height : ℕ) (within : Bool) (limits : within ≡ true → IsWithinLimits width height) (s : Shape) → shape_if width height within limits ≡ Some s
    → HasSides s width height
sides_if width height true limits s h =
    let made : Shape = record { width = width; height = height; within_limits = limits refl } in
    let same : made ≡ s = cc in
    record { columns = sym (ap (λ (x : Shape). x.width) same); rows = sym (ap (λ (x : Shape). x.height) same) }
sides_if width height false limits s h = absurd (cc)

shape_kept : (fault : Option ImageFault) (made : Option Shape) (s : Shape) → shape_unless fault made ≡ Ok s → made ≡ Some s
shape_kept (Some fault) made s h = absurd (cc)
shape_kept None None s h = absurd (cc)
shape_kept None (Some t) s h = let same : t ≡ s = cc in ap Some same

has_sides : (limits : Limits) (hdu : Hdu) (shape : Shape) → checked limits hdu ≡ Ok shape → HasSides shape hdu.width hdu.height
unfolding checked plane_shape
has_sides limits hdu shape is =
    sides_if hdu.width hdu.height (fits_plane hdu.width hdu.height) (plane_sides hdu.width hdu.height) shape
    (shape_kept (image_fault limits hdu) (plane_shape hdu.width hdu.height) shape is)

record HasPlane (hdu : Hdu) : Type 0 where
  two : 2 ≤ hdu.naxis
  flat : hdu.flat ≡ true

first_and_last : (a b c d : Bool) → (a || b || c || d) ≡ false → (a ≡ false) × (d ≡ false)
first_and_last true b c d h = absurd (cc)
first_and_last false true c d h = absurd (cc)
first_and_last false false true d h = absurd (cc)
first_and_last false false false true h = absurd (cc)
first_and_last false false false false h = (refl, refl)

has_plane : (hdu : Hdu) → has_no_pixels hdu ≡ false → HasPlane hdu
has_plane hdu h =
    let tests = first_and_last (nat_lt hdu.naxis 2) _ _ (not hdu.flat) h in
    record { two = not_below hdu.naxis tests.0; flat = not-false _ tests.1 }
  where
    not_below : (n : ℕ) → nat_lt n 2 ≡ false → 2 ≤ n
    not_below n h = grind (arith, nat_tests)

-- the pixels of an HDU that was found, and is an image which can be read, take all its data
pub all_data : (limits : Limits) (bytes : List ℕ) (n : ℕ) (hdu : Hdu) (head : ℕ) (shape : Shape) → find_of bytes n ≡ found hdu head → checked limits hdu ≡ Ok shape
    → image_bytes hdu shape ≡ hdu.data_bytes
all_data limits bytes n hdu head shape is image =
    let tests : IsReadable hdu = readable limits hdu (shape_without_fault limits hdu shape image) in
    let sides : HasSides shape hdu.width hdu.height = has_sides limits hdu shape image in
    let plane : HasPlane hdu = has_plane hdu tests.pixels in
    let size : hdu.data_bytes ≡ number_bytes hdu.bitpix * (hdu.width * hdu.height) = image_data bytes n hdu head is tests.kind plane.two plane.flat in
    rw (sides.columns, sides.rows) (mul_comm (hdu.width * hdu.height) (number_bytes hdu.bitpix) ∙ sym size)
