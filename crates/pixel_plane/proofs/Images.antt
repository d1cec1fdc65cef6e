-- The HDU that was found, judged and read is the verdict's.
use Rattle.std.proofs.Common.{◌≡◌, ℕ, ◌+◌, ◌*◌, ◌<◌, ◌≤◌, cond, nat_lt, Bool, true, false, List, drop, length, length-drop, refl, sym, ◌∙◌, ap, subst, arith, Result, Ok, Err, inl}
use Rattle.std.specs.Prelude.{Some, None, MatchResult}
use Rattle.std.specs.declared.option.Option.{Option}
use Rattle.std.specs.List.{range_with_len}
use Rattle.std.proofs.lemmas.Bool.Decides.{nat_tests}
use Rattle.std.proofs.lemmas.List.{length-map}
use Rattle.std.proofs.lemmas.List.FromFn.{length-range_with_len}
use Rattle.dev_io.specs.Streams.{Takes, TakesAtMost}
use Rattle.dev_io.specs.Laws.{Takes-after, TakesAtMost-after}
use Rattle.comp_tree.specs.declared.shape.Shape.{Shape}
use Rattle.comp_tree.specs.Raster.{Raster, IsPlane}
use Rattle.fits_hdu.specs.declared.answer.Hdu.{Hdu}
use Rattle.fits_hdu.specs.declared.fault.HduFault.{HduFault}
use Rattle.fits_hdu.specs.declared.fault.HduStop.{HduStop}
use Rattle.fits_hdu.specs.declared.fault.HduStop.TheVariants.{Fault, ReadFault}
use Rattle.fits_hdu.specs.Headers.{Found, found, refused}
use Rattle.fits_hdu.specs.Finding.{find_of, taken_by as found_taken}
use Rattle.fits_hdu.specs.Streams.{Stopped}
use Rattle.pixel_plane.specs.declared.limits.Limits.{Limits}
use Rattle.pixel_plane.specs.declared.fault.ImageFault.{ImageFault}
use Rattle.pixel_plane.specs.Images.{checked}
use Rattle.pixel_plane.specs.declared.fault.PlaneFault.TheVariants.{TruncatedData, PixelRange}
use Rattle.pixel_plane.specs.declared.fault.PlaneStop.{PlaneStop}
use Rattle.pixel_plane.specs.declared.fault.PlaneStop.TheVariants as at_plane
use Rattle.pixel_plane.specs.Reading.{image_bytes, PlaneRead, PlaneStopped}
use Rattle.pixel_plane.specs.Stored.{first_out_of_range, stored_plane, stored_at}
use Rattle.pixel_plane.specs.Verdicts.{Verdict, image, truncated, image_unless, verdict_on, verdict_on_hdu, verdict_on_found, taken_for}
use Rattle.pixel_plane.specs.declared.image.Stop.{Stop}
use Rattle.pixel_plane.specs.Stops.{stop_at_hdu, stop_at_plane}
use Rattle.pixel_plane.specs.declared.input_fault.Fault.TheVariants as at_fault
use Rattle.pixel_plane.specs.declared.image.Stop.TheVariants.{Refused}
use Rattle.pixel_plane.specs.Streams.{ImageRead, ImageStopped, StoppedBy, TakesOneOf, memory_at_verdict, stop_of}

pub verdict_is : (limits : Limits) (bytes : List ℕ) (number : ℕ) (search : Found) → find_of bytes number ≡ search → verdict_on limits bytes number ≡ verdict_on_found limits bytes search
unfolding verdict_on
verdict_is limits bytes number search is = ap (verdict_on_found limits bytes) is

abbrev Reads : Verdict → List ℕ → Option (List ℕ) → Result Raster Stop → Type 0
Reads v bytes left result = MatchResult result (λ plane. ImageRead v bytes left plane) (λ stop. ImageStopped v bytes left stop)

pub image_told : (limits : Limits) (bytes : List ℕ) (number : ℕ) (hdu : Hdu) (head : ℕ) (left : Option (List ℕ)) (result : Result Raster Stop)
    → find_of bytes number ≡ found hdu head
    → MatchResult result (λ plane. ImageRead (verdict_on_hdu limits bytes hdu head (checked limits hdu)) bytes left plane)
    (λ stop. ImageStopped (verdict_on_hdu limits bytes hdu head (checked limits hdu)) bytes left stop)
    → MatchResult result (λ plane. ImageRead (verdict_on limits bytes number) bytes left plane) (λ stop. ImageStopped (verdict_on limits bytes number) bytes left stop)
image_told limits bytes number hdu head left result is reads = subst (λ v. Reads v bytes left result) (sym (verdict_is limits bytes number (found hdu head) is)) reads

-- a search takes no more than its verdict
end_most : (bytes : List ℕ) (hdu : Hdu) (head n : ℕ) (shape : Shape) (pixel : Option ℕ) → n ≤ head → n ≤ taken_for (image_unless bytes hdu head shape pixel)
end_most bytes hdu head n shape None few = omega arith
end_most bytes hdu head n shape (Some pixel) few = omega arith

cut_most : (bytes : List ℕ) (hdu : Hdu) (head long n : ℕ) (shape : Shape) (pixel : Option ℕ) (cut : Bool) → n ≤ head → n ≤ long
    → n ≤ taken_for (cond cut (truncated head long) (image_unless bytes hdu head shape pixel))
cut_most bytes hdu head long n shape pixel true few within = within
cut_most bytes hdu head long n shape pixel false few within = end_most bytes hdu head n shape pixel few

behind_most : (limits : Limits) (bytes : List ℕ) (hdu : Hdu) (head n : ℕ) (shape : Result Shape ImageFault) → n ≤ head → n ≤ length bytes
    → n ≤ taken_for (verdict_on_hdu limits bytes hdu head shape)
behind_most limits bytes hdu head n (Err fault) few within = few
behind_most limits bytes hdu head n (Ok shape) few within =
    cut_most (drop head bytes) hdu head (length bytes) n shape (first_out_of_range limits hdu shape (drop head bytes))
    (nat_lt (length bytes) (head + image_bytes hdu shape)) few within

search_most : (limits : Limits) (bytes : List ℕ) (n : ℕ) (search : Found) → n ≤ found_taken search → n ≤ length bytes → n ≤ taken_for (verdict_on_found limits bytes search)
search_most limits bytes n (found hdu head) few within = behind_most limits bytes hdu head n (checked limits hdu) few within
search_most limits bytes n (refused fault taken) few within = few

-- a search that stops, by what its verdict shows and how many bytes are taken for it: a refusal is the verdict's, and at a fault of the device no more
-- were taken
pub stopped_as : (bytes : List ℕ) (left : Option (List ℕ)) (search : Found) (stop : HduStop) (shown : Found → Option Stop) (taken : Found → ℕ) (counts : List ℕ)
    → ((fault : HduFault) (n : ℕ) → (shown (refused fault n) ≡ Some (stop_at_hdu (Fault fault))) × (taken (refused fault n) ≡ n))
    → ((n : ℕ) → n ≤ found_taken search → n ≤ length bytes → n ≤ taken search) → Stopped search bytes left stop
    → StoppedBy (shown search) (taken search) counts bytes left (stop_at_hdu stop)
stopped_as bytes left search (Fault fault) shown taken counts refusal most (n, is, takes) =
    (ap shown is ∙ (refusal fault n).0, subst (Takes bytes left) (sym (ap taken is ∙ (refusal fault n).1)) takes)
stopped_as bytes left search ReadFault shown taken counts refusal most lost =
    record { count = lost.count; few = most lost.count lost.few lost.takes.within; takes = lost.takes }

-- where no HDU is found
pub search_stopped : (limits : Limits) (bytes : List ℕ) (number : ℕ) (left : Option (List ℕ)) (stop : HduStop) → Stopped (find_of bytes number) bytes left stop
    → ImageStopped (verdict_on limits bytes number) bytes left (stop_at_hdu stop)
unfolding verdict_on
search_stopped limits bytes number left stop h =
    stopped_as bytes left (find_of bytes number) stop (λ s. stop_of (verdict_on_found limits bytes s)) (λ s. taken_for (verdict_on_found limits bytes s)) _
    (λ fault n. (refl, refl)) (λ n few within. search_most limits bytes n (find_of bytes number) few within) h

-- ---- the pixels behind a header

-- the HDU isn't an image that can be read
pub unreadable_told : (limits : Limits) (bytes : List ℕ) (hdu : Hdu) (head : ℕ) (left : Option (List ℕ)) (fault : ImageFault) → checked limits hdu ≡ Err fault → Takes bytes left head
    → ImageStopped (verdict_on_hdu limits bytes hdu head (checked limits hdu)) bytes left (Refused (at_fault.Image fault))
unreadable_told limits bytes hdu head left fault is takes =
    subst (λ shape. ImageStopped (verdict_on_hdu limits bytes hdu head shape) bytes left (Refused (at_fault.Image fault))) (sym is) (refl, takes)

not_below : (a b : ℕ) → a ≤ b → nat_lt b a ≡ false
not_below a b h = grind (arith, nat_tests)

below : (a b : ℕ) → b < a → nat_lt b a ≡ true
below a b h = grind (arith, nat_tests)

-- the verdict on an image, by whether its bytes are cut and by its least pixel out of range
abbrev image_by : List ℕ → Hdu → ℕ → Shape → Bool → Option ℕ → Verdict
image_by bytes hdu head shape cut pixel = cond cut (truncated head (length bytes)) (image_unless (drop head bytes) hdu head shape pixel)

whole_image : (bytes : List ℕ) (hdu : Hdu) (head : ℕ) (shape : Shape) (plane : Raster) (cut : Bool) (pixel : Option ℕ) → cut ≡ false → pixel ≡ None
    → plane ≡ stored_plane hdu shape (drop head bytes) → image_by bytes hdu head shape cut pixel ≡ image plane head (head + image_bytes hdu shape)
whole_image bytes hdu head shape plane true pixel whole none same = absurd (cc)
whole_image bytes hdu head shape plane false (Some p) whole none same = absurd (cc)
whole_image bytes hdu head shape plane false None whole none same = ap (λ p. image p head (head + image_bytes hdu shape)) (sym same)

pub whole_stored : (hdu : Hdu) (shape : Shape) (bytes : List ℕ) → IsPlane (stored_plane hdu shape bytes)
unfolding stored_plane
whole_stored hdu shape bytes = length-map (range_with_len 0 (shape.width * shape.height)) _ ∙ length-range_with_len 0 _

-- its pixels were read
pub plane_told : (limits : Limits) (bytes : List ℕ) (hdu : Hdu) (head : ℕ) (left left' : Option (List ℕ)) (shape : Shape) (plane : Raster) → checked limits hdu ≡ Ok shape
    → Takes bytes left head → PlaneRead limits hdu shape (drop head bytes) left' plane
    → ImageRead (verdict_on_hdu limits bytes hdu head (checked limits hdu)) bytes left' plane
plane_told limits bytes hdu head left left' shape plane is at read =
    let takes : Takes bytes left' (head + image_bytes hdu shape) = Takes-after bytes left left' head (image_bytes hdu shape) at read.takes in
    subst (λ s. ImageRead (verdict_on_hdu limits bytes hdu head s) bytes left' plane) (sym is) (record {
      head = head;
      end = head + image_bytes hdu shape;
      is_image = whole_image bytes hdu head shape plane (nat_lt (length bytes) (head + image_bytes hdu shape)) (first_out_of_range limits hdu shape (drop head bytes))
          (not_below (head + image_bytes hdu shape) (length bytes) takes.within) read.none_out_of_range read.plane_is;
      whole = subst IsPlane (sym read.plane_is) (whole_stored hdu shape (drop head bytes));
      takes = takes;
    })

-- the bytes end before it does
cut_told : (bytes : List ℕ) (hdu : Hdu) (head : ℕ) (left : Option (List ℕ)) (shape : Shape) (cut : Bool) (pixel : Option ℕ) → cut ≡ true
    → Takes bytes left (length bytes) → ImageStopped (image_by bytes hdu head shape cut pixel) bytes left (Refused (at_fault.Plane TruncatedData))
cut_told bytes hdu head left shape true pixel is takes = (refl, takes)
cut_told bytes hdu head left shape false pixel is takes = absurd (cc)

-- a pixel is out of range
range_told : (bytes : List ℕ) (hdu : Hdu) (head : ℕ) (left : Option (List ℕ)) (shape : Shape) (cut : Bool) (pixel : Option ℕ) (p : ℕ) → cut ≡ false
    → pixel ≡ Some p → Takes bytes left (head + image_bytes hdu shape)
    → ImageStopped (image_by bytes hdu head shape cut pixel) bytes left (Refused (at_fault.Plane (PixelRange p (stored_at hdu (drop head bytes) p))))
range_told bytes hdu head left shape true pixel p whole is takes = absurd (cc)
range_told bytes hdu head left shape false None p whole is takes = absurd (cc)
range_told bytes hdu head left shape false (Some q) p whole is takes =
    let same : q ≡ p = cc in
    (ap (λ n. Some (Refused (at_fault.Plane (PixelRange n (stored_at hdu (drop head bytes) n))))) same, takes)

-- the source failed on the way
lost_told : (bytes : List ℕ) (hdu : Hdu) (head : ℕ) (left : Option (List ℕ)) (shape : Shape) (cut : Bool) (pixel : Option ℕ)
    → TakesAtMost bytes left (head + image_bytes hdu shape) → TakesAtMost bytes left (taken_for (image_by bytes hdu head shape cut pixel))
lost_told bytes hdu head left shape true pixel lost = record { count = lost.count; few = lost.takes.within; takes = lost.takes }
lost_told bytes hdu head left shape false None lost = lost
lost_told bytes hdu head left shape false (Some p) lost = lost

-- memory was wanted before the first byte
memory_told : (bytes : List ℕ) (hdu : Hdu) (head : ℕ) (left : Option (List ℕ)) (shape : Shape) (cut : Bool) (pixel : Option ℕ) → Takes bytes left head
    → TakesOneOf (memory_at_verdict (image_by bytes hdu head shape cut pixel)) bytes left
memory_told bytes hdu head left shape true pixel takes = inl takes
memory_told bytes hdu head left shape false None takes = inl takes
memory_told bytes hdu head left shape false (Some p) takes = inl takes

-- why its pixels weren't read
stopped_behind : (limits : Limits) (bytes : List ℕ) (hdu : Hdu) (head : ℕ) (left left' : Option (List ℕ)) (shape : Shape) (stop : PlaneStop) → Takes bytes left head
    → PlaneStopped limits hdu shape (drop head bytes) left' stop
    → ImageStopped (image_by bytes hdu head shape (nat_lt (length bytes) (head + image_bytes hdu shape)) (first_out_of_range limits hdu shape (drop head bytes))) bytes left'
    (stop_at_plane stop)
stopped_behind limits bytes hdu head left left' shape (at_plane.Fault TruncatedData) at (short, takes) =
    let long : length (drop head bytes) + head ≡ length bytes = omega (arith, at.within, length-drop head bytes) in
    cut_told bytes hdu head left' shape _ _ (below (head + image_bytes hdu shape) (length bytes) (omega arith))
    (subst (Takes bytes left') (omega arith) (Takes-after bytes left left' head (length (drop head bytes)) at takes))
stopped_behind limits bytes hdu head left left' shape (at_plane.Fault (PixelRange p stored)) at out =
    let takes : Takes bytes left' (head + image_bytes hdu shape) = Takes-after bytes left left' head (image_bytes hdu shape) at out.takes in
    subst (λ n. ImageStopped (image_by bytes hdu head shape (nat_lt (length bytes) (head + image_bytes hdu shape)) (first_out_of_range limits hdu shape (drop head bytes)))
    bytes left' (Refused (at_fault.Plane (PixelRange p n)))) (sym out.number)
    (range_told bytes hdu head left' shape _ _ p (not_below (head + image_bytes hdu shape) (length bytes) takes.within) out.least takes)
stopped_behind limits bytes hdu head left left' shape at_plane.ReadFault at lost =
    lost_told bytes hdu head left' shape _ _ (TakesAtMost-after bytes left left' head (image_bytes hdu shape) at lost)
stopped_behind limits bytes hdu head left left' shape at_plane.OutOfMemory at takes =
    memory_told bytes hdu head left' shape _ _ (subst (Takes bytes left') (omega arith) (Takes-after bytes left left' head 0 at takes))

pub plane_stopped_told : (limits : Limits) (bytes : List ℕ) (hdu : Hdu) (head : ℕ) (left left' : Option (List ℕ)) (shape : Shape) (stop : PlaneStop) → checked limits hdu ≡ Ok shape
    → Takes bytes left head → PlaneStopped limits hdu shape (drop head bytes) left' stop
    → ImageStopped (verdict_on_hdu limits bytes hdu head (checked limits hdu)) bytes left' (stop_at_plane stop)
plane_stopped_told limits bytes hdu head left left' shape stop is at stopped =
    subst (λ s. ImageStopped (verdict_on_hdu limits bytes hdu head s) bytes left' (stop_at_plane stop)) (sym is)
    (stopped_behind limits bytes hdu head left left' shape stop at stopped)
