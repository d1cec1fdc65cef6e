-- What an HDU without a fault as an image has.
use Rattle.std.proofs.Common.{◌≡◌, ℕ, ◌^◌, ◌/◌, Bool, true, false, ◌||◌, not, [], ◌∷◌, None, Option, Some, ℤ, pos, neg_ℤ, ◌≤ℤ◌, refl, sym, ◌⊎◌, inl, inr}
use Rattle.std.proofs.Common.{⊎_elim, unsigned_abs, ap, ◌∙◌, subst, arith}
use Rattle.std.specs.Prelude.{Result, Ok, Err, IfOk}
use Rattle.std.specs.Result.{result_err}
use Rattle.std.proofs.lemmas.Bool.{and_parts, or_cases, not-false}
use Rattle.std.proofs.lemmas.Bool.Decides.{nat_tests}
use Rattle.std.specs.Ordering.{int_eq}
use Rattle.comp_tree.proofs.Exported.{int_eq-true, int_le-true, shape_if-true}
use Rattle.comp_tree.specs.declared.shape.Shape.{Shape}
use Rattle.fits_card.specs.declared.number.Whole.{Whole}
use Rattle.fits_card.specs.declared.number.Whole.TheVariants.{Is, NotWhole, Beyond, Unreadable}
use Rattle.fits_hdu.specs.declared.answer.Hdu.{Hdu}
use Rattle.pixel_plane.specs.declared.fault.ImageFault.{ImageFault}
use Rattle.pixel_plane.specs.declared.fault.ImageFault.TheVariants.{NotImage, NoImage, ImageTooLarge, Bitpix, Bscale, Bzero, Blank}
use Rattle.fits_hdu.specs.Headers.{is_other}
use Rattle.pixel_plane.specs.declared.limits.Limits.{Limits}
use Rattle.comp_tree.specs.Limits.{IsWithinLimits}
use Rattle.pixel_plane.specs.ImageLimits.{fits_plane, fits_within, plane_shape, plane_sides}
use Rattle.pixel_plane.specs.Images.{checked, image_fault, first_fault, has_no_pixels, is_stored_size, is_one, is_zero_point, is_blank_or_none}
use Rattle.pixel_plane.specs.Stored.{size_of, whole_or_zero}
use Rattle.pixel_plane.specs.Sizes.{is_number_size}

none_passed : (a b c d e f g : Bool)
    → first_fault ((a, NotImage) ∷ (b, NoImage) ∷ (c, ImageTooLarge) ∷ (d, Bitpix) ∷ (e, Bscale) ∷ (f, Bzero) ∷ (g, Blank) ∷ []) ≡ None
    → (a ≡ false) × (b ≡ false) × (d ≡ false) × (f ≡ false)
none_passed true b c d e f g h = absurd (cc)
none_passed false true c d e f g h = absurd (cc)
none_passed false false true d e f g h = absurd (cc)
none_passed false false false true e f g h = absurd (cc)
none_passed false false false false true f g h = absurd (cc)
none_passed false false false false false true g h = absurd (cc)
none_passed false false false false false false g h = (refl, refl, refl, refl)

-- the tests that a readable image passes
pub record IsReadable (hdu : Hdu) : Type 0 where
  pub kind : is_other hdu.kind ≡ false
  pub pixels : has_no_pixels hdu ≡ false
  pub size : is_stored_size hdu.bitpix ≡ true
  pub zero : is_zero_point hdu.bzero ≡ true

pub readable : (limits : Limits) (hdu : Hdu) → image_fault limits hdu ≡ None → IsReadable hdu
unfolding image_fault
readable limits hdu h =
    let tests =
    none_passed (is_other hdu.kind) (has_no_pixels hdu) (not (fits_within limits hdu.width hdu.height)) (not (is_stored_size hdu.bitpix)) (not (is_one hdu.bscale))
    (not (is_zero_point hdu.bzero)) (not (is_blank_or_none hdu.blank)) h in
    record { kind = tests.0; pixels = tests.1; size = not-false _ tests.2; zero = not-false _ tests.3 }

bits_from : (bitpix : ℤ) → is_stored_size bitpix ≡ true → bitpix ≡ pos 8 ⊎ (bitpix ≡ pos 16 ⊎ (bitpix ≡ pos 32 ⊎ bitpix ≡ pos 64))
bits_from bitpix h =
    let is = λ (bits : ℕ) (e : int_eq bitpix (pos bits) ≡ true). int_eq-true bitpix (pos bits) e in
    ⊎_elim
    (λ (three : (int_eq bitpix (pos 8) || int_eq bitpix (pos 16) || int_eq bitpix (pos 32)) ≡ true). ⊎_elim
    (λ (two : (int_eq bitpix (pos 8) || int_eq bitpix (pos 16)) ≡ true). ⊎_elim (λ e. inl (is 8 e)) (λ e. inr (inl (is 16 e))) (or_cases _ _ two))
    (λ (e : int_eq bitpix (pos 32) ≡ true). inr (inr (inl (is 32 e)))) (or_cases _ _ three))
    (λ (e : int_eq bitpix (pos 64) ≡ true). inr (inr (inr (is 64 e))))
    (or_cases _ _ h)

size_from : (bitpix : ℤ) → bitpix ≡ pos 8 ⊎ (bitpix ≡ pos 16 ⊎ (bitpix ≡ pos 32 ⊎ bitpix ≡ pos 64)) → is_number_size (unsigned_abs bitpix / 8) ≡ true
size_from bitpix (inl e) = rw e refl
size_from bitpix (inr (inl e)) = rw e refl
size_from bitpix (inr (inr (inl e))) = rw e refl
size_from bitpix (inr (inr (inr e))) = rw e refl

-- the stored numbers have one, two, four or eight bytes
pub size_fits : (limits : Limits) (hdu : Hdu) → image_fault limits hdu ≡ None → is_number_size (size_of hdu) ≡ true
size_fits limits hdu h = size_from hdu.bitpix (bits_from hdu.bitpix (readable limits hdu h).size)

wide_from : (bitpix : ℤ) → bitpix ≡ pos 8 ⊎ (bitpix ≡ pos 16 ⊎ (bitpix ≡ pos 32 ⊎ bitpix ≡ pos 64)) → unsigned_abs bitpix / 8 ≡ 8 → bitpix ≡ pos 64
wide_from bitpix (inl e) h = let k : 1 ≡ 8 = sym (ap (λ b. unsigned_abs b / 8) e) ∙ h in absurd (omega (arith, k))
wide_from bitpix (inr (inl e)) h = let k : 2 ≡ 8 = sym (ap (λ b. unsigned_abs b / 8) e) ∙ h in absurd (omega (arith, k))
wide_from bitpix (inr (inr (inl e))) h = let k : 4 ≡ 8 = sym (ap (λ b. unsigned_abs b / 8) e) ∙ h in absurd (omega (arith, k))
wide_from bitpix (inr (inr (inr e))) h = e

-- eight bytes are 64 bits
pub wide_bits : (limits : Limits) (hdu : Hdu) → image_fault limits hdu ≡ None → size_of hdu ≡ 8 → hdu.bitpix ≡ pos 64
wide_bits limits hdu h wide = wide_from hdu.bitpix (bits_from hdu.bitpix (readable limits hdu h).size) wide

pub record IsNear (zero : ℤ) : Type 0 where
  pub low : neg_ℤ (pos (2 ^ 32)) ≤ℤ zero
  pub high : zero ≤ℤ pos (2 ^ 32)

near_from : (zero : Whole) → is_zero_point zero ≡ true → IsNear (whole_or_zero zero)
near_from (Is n) h = record { low = int_le-true _ _ (and_parts _ _ h).0; high = int_le-true _ _ (and_parts _ _ h).1 }
near_from NotWhole h = absurd (cc)
near_from Beyond h = absurd (cc)
near_from Unreadable h = absurd (cc)

-- what is added to each stored number is from -2 ^ 32 to 2 ^ 32
pub zero_is_near : (limits : Limits) (hdu : Hdu) → image_fault limits hdu ≡ None → IsNear (whole_or_zero hdu.bzero)
zero_is_near limits hdu h = near_from hdu.bzero (readable limits hdu h).zero

-- ---- the shape

fits_from : (width height : ℕ) → IsWithinLimits width height → fits_plane width height ≡ true
unfolding fits_plane
fits_from width height limits =
    let columns = limits.some_columns in
    let rows = limits.some_rows in
    let few_columns = limits.few_columns in
    let few_rows = limits.few_rows in
    let few_pixels = limits.few_pixels in
    grind (arith, nat_tests)

-- the shape of a shape's sides is that shape
plane_shape_is : (width height : ℕ) (s : Shape) → s.width ≡ width → s.height ≡ height → plane_shape width height ≡ Some s
unfolding plane_shape
plane_shape_is width height s p q =
    let limits : IsWithinLimits width height = subst (λ x. IsWithinLimits x height) p (subst (λ y. IsWithinLimits s.width y) q s.within_limits) in
    shape_if-true width height (fits_plane width height) (plane_sides width height) s (fits_from width height limits) p q

-- an answer with the first fault or with the sides is the right one
pub checked_from : (limits : Limits) (hdu : Hdu) (r : Result Shape ImageFault) → result_err r ≡ image_fault limits hdu
    → IfOk r (λ shape. (shape.width ≡ hdu.width) × (shape.height ≡ hdu.height)) → r ≡ checked limits hdu
unfolding checked
checked_from limits hdu (Err fault) h sides = rw (sym h) refl
checked_from limits hdu (Ok shape) h sides = rw (sym h, plane_shape_is hdu.width hdu.height shape sides.0 sides.1) refl

-- an image with a shape has no fault
pub shape_without_fault : (limits : Limits) (hdu : Hdu) (shape : Shape) → checked limits hdu ≡ Ok shape → image_fault limits hdu ≡ None
unfolding checked
shape_without_fault limits hdu shape h = go (image_fault limits hdu) refl
  where
    go : (fault : Option ImageFault) → image_fault limits hdu ≡ fault → image_fault limits hdu ≡ None
    go None e = e
    go (Some fault) e = let k : checked limits hdu ≡ Err fault = rw e refl in absurd (cc)
