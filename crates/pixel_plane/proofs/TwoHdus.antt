-- Two HDUs: the verdict on both, the image of the earlier one, and the search behind it.
use Rattle.std.proofs.Common.{◌≡◌, ℕ, ◌+◌, ◌≤◌, Bool, true, false, cond, nat_lt, eqb, List, drop, length, refl, sym, ◌∙◌, subst, ap, arith, Result, Ok, Err}
use Rattle.std.proofs.Common.{◌<◌, inl, inr, [], ◌∷◌}
use Rattle.std.specs.Prelude.{Some, None, MatchResult}
use Rattle.std.specs.declared.option.Option.{Option}
use Rattle.std.specs.Result.{result_ok}
use Rattle.std.proofs.lemmas.Bool.Decides.{nat_tests}
use Rattle.dev_io.specs.Streams.{Takes}
use Rattle.comp_tree.specs.declared.shape.Shape.{Shape}
use Rattle.comp_tree.specs.Raster.{Raster}
use Rattle.comp_tree.proofs.Exported.{shape_by_sides}
use Rattle.fits_hdu.specs.declared.answer.Hdu.{Hdu}
use Rattle.fits_hdu.specs.declared.fault.HduStop.{HduStop}
use Rattle.fits_hdu.specs.declared.fault.HduStop.TheVariants.{ReadFault}
use Rattle.fits_hdu.specs.Headers.{Found, found, refused}
use Rattle.fits_hdu.specs.Finding.{find_of, taken_by, find_after_of}
use Rattle.fits_hdu.specs.Streams.{Stopped, Finds}
use Rattle.pixel_plane.specs.declared.limits.Limits.{Limits}
use Rattle.pixel_plane.specs.declared.fault.ImageFault.{ImageFault}
use Rattle.pixel_plane.specs.Images.{checked}
use Rattle.pixel_plane.specs.Reading.{image_bytes}
use Rattle.pixel_plane.specs.Stored.{first_out_of_range}
use Rattle.pixel_plane.specs.Verdicts.{image, truncated, image_unless, verdict_on, verdict_on_hdu, verdict_on_found, Verdict, unfound, unreadable, out_of_range}
use Rattle.pixel_plane.specs.Stops.{stop_at_hdu}
use Rattle.pixel_plane.proofs.Images.{verdict_is, stopped_as}
use Rattle.lemmas.proofs.Exported.{both_true}
use Rattle.pixel_plane.specs.TwoImages.{TwoVerdict, shape_found, header_shape, is_other_shape, verdict_beside, combined_verdict, verdict_on_two, taken_for_two}
use Rattle.pixel_plane.specs.TwoImages.{stop_of_two, memory_at_two}
use Rattle.pixel_plane.specs.TwoReads.{TwoStopped, TwoRead}
use Rattle.fits_hdu.specs.Laws.{HasData}
use Rattle.fits_hdu.proofs.Exported.{search_goes_on, data_taken}
use Rattle.pixel_plane.proofs.Exported.{all_data}
use Rattle.pixel_plane.specs.declared.image.Stop.{Stop}
use Rattle.pixel_plane.specs.declared.image.Stop.TheVariants.{Refused, ReadFault, NoMemory}
use Rattle.pixel_plane.specs.Streams.{ImageRead, ImageStopped, TakesOneOf}
use Rattle.pixel_plane.specs.declared.two_images.FirstImage.{FirstImage}
use Rattle.pixel_plane.specs.declared.two_images.TwoPlanes.{TwoPlanes}
use Rattle.pixel_plane.specs.FirstImages.{FirstImageRead}

-- The shapes are the same.

equal : (n m : ℕ) → eqb n m ≡ true → n ≡ m
equal n m h = grind (arith, nat_tests)

same_shapes : (s t : Shape) → is_other_shape s (Some t) ≡ false → s ≡ t
same_shapes s t h =
    let sides = both_true (eqb s.width t.width) (eqb s.height t.height) h in
    shape_by_sides s t (equal s.width t.width sides.0) (equal s.height t.height sides.1)

pub shape_is_same : (s t : Shape) (check : Result Shape ImageFault) → is_other_shape s (result_ok check) ≡ false → check ≡ Ok t → s ≡ t
shape_is_same s t check h is = same_shapes s t (subst (λ r. is_other_shape s (result_ok r) ≡ false) is h)

-- The later HDU isn't found.

header_shape_is : (limits : Limits) (bytes : List ℕ) (number : ℕ) (search : Found) → find_of bytes number ≡ search → header_shape limits bytes number ≡ shape_found limits search
unfolding header_shape
header_shape_is limits bytes number search is = ap (shape_found limits) is

pub two_is : (limits : Limits) (bytes : List ℕ) (at number : ℕ) (first : Raster) (head end : ℕ) (search : Found) → verdict_on limits bytes at ≡ image first head end
    → find_of bytes number ≡ search
    → verdict_on_two limits bytes at number ≡ verdict_beside first head end (verdict_on_found limits bytes search) (shape_found limits search)
unfolding verdict_on_two
two_is limits bytes at number first head end search earlier is =
    ap (λ v. combined_verdict v (verdict_on limits bytes number) (header_shape limits bytes number)) earlier
    ∙ ap (λ v. verdict_beside first head end v (header_shape limits bytes number)) (verdict_is limits bytes number search is)
    ∙ ap (verdict_beside first head end (verdict_on_found limits bytes search)) (header_shape_is limits bytes number search is)

most_unless : (bytes : List ℕ) (hdu : Hdu) (first : Raster) (head end head' n : ℕ) (shape : Shape) (pixel : Option ℕ) (other : Bool) → n ≤ head'
    → is_other_shape first.shape (Some shape) ≡ other
    → n ≤ taken_for_two (verdict_beside first head end (image_unless bytes hdu head' shape pixel) (Some shape))
most_unless bytes hdu first head end head' n shape None true few e = rw e few
most_unless bytes hdu first head end head' n shape None false few e = rw e (omega arith)
most_unless bytes hdu first head end head' n shape (Some pixel) true few e = rw e few
most_unless bytes hdu first head end head' n shape (Some pixel) false few e = rw e (omega arith)

most_cut : (bytes : List ℕ) (hdu : Hdu) (first : Raster) (head end head' long n : ℕ) (shape : Shape) (pixel : Option ℕ) (cut other : Bool) → n ≤ head'
    → n ≤ long → is_other_shape first.shape (Some shape) ≡ other
    → n ≤ taken_for_two (verdict_beside first head end (cond cut (truncated head' long) (image_unless bytes hdu head' shape pixel)) (Some shape))
most_cut bytes hdu first head end head' long n shape pixel true true few within e = rw e few
most_cut bytes hdu first head end head' long n shape pixel true false few within e = rw e within
most_cut bytes hdu first head end head' long n shape pixel false other few within e = most_unless bytes hdu first head end head' n shape pixel other few e

most_behind : (limits : Limits) (bytes : List ℕ) (hdu : Hdu) (first : Raster) (head end head' n : ℕ) (shape : Result Shape ImageFault) → n ≤ head' → n ≤ length bytes
    → n ≤ taken_for_two (verdict_beside first head end (verdict_on_hdu limits bytes hdu head' shape) (result_ok shape))
most_behind limits bytes hdu first head end head' n (Err fault) few within = few
most_behind limits bytes hdu first head end head' n (Ok shape) few within =
    most_cut (drop head' bytes) hdu first head end head' (length bytes) n shape (first_out_of_range limits hdu shape (drop head' bytes))
    (nat_lt (length bytes) (head' + image_bytes hdu shape)) _ few within refl

-- a search takes no more than the verdict
pub search_most : (limits : Limits) (bytes : List ℕ) (first : Raster) (head end n : ℕ) (search : Found) → n ≤ taken_by search → n ≤ length bytes
    → n ≤ taken_for_two (verdict_beside first head end (verdict_on_found limits bytes search) (shape_found limits search))
search_most limits bytes first head end n (found hdu head') few within = most_behind limits bytes hdu first head end head' n (checked limits hdu) few within
search_most limits bytes first head end n (refused fault taken) few within = few

pub search_beside : (limits : Limits) (bytes : List ℕ) (first : Raster) (head end : ℕ) (left : Option (List ℕ)) (search : Found) (stop : HduStop) → Stopped search bytes left stop
    → TwoStopped (verdict_beside first head end (verdict_on_found limits bytes search) (shape_found limits search)) bytes left (stop_at_hdu stop)
search_beside limits bytes first head end left search stop h =
    stopped_as bytes left search stop (λ s. stop_of_two (verdict_beside first head end (verdict_on_found limits bytes s) (shape_found limits s)))
    (λ s. taken_for_two (verdict_beside first head end (verdict_on_found limits bytes s) (shape_found limits s))) _ (λ fault n. (refl, refl))
    (λ n few within. search_most limits bytes first head end n search few within) h

-- the HDU with this number was found, and its data end at the image's end
record IsAt (bytes : List ℕ) (number : ℕ) (hdu : Hdu) (head end : ℕ) : Type 0 where
  is : find_of bytes number ≡ found hdu head
  end_is : end ≡ head + hdu.data_bytes
  within : end ≤ length bytes

-- an image stands where its header and its shape say
image_at : (limits : Limits) (bytes : List ℕ) (number : ℕ) (hdu : Hdu) (at : ℕ) (plane : Raster) (head end : ℕ) → find_of bytes number ≡ found hdu at
    → verdict_on_hdu limits bytes hdu at (checked limits hdu) ≡ image plane head end → IsAt bytes number hdu head end
image_at limits bytes number hdu at plane head end is v = by (checked limits hdu) refl v
  where
    by_data : (shape : Shape) (pixel : Option ℕ) (cut : Bool) → checked limits hdu ≡ Ok shape → nat_lt (length bytes) (at + image_bytes hdu shape) ≡ cut
        → cond cut (truncated at (length bytes)) (image_unless (drop at bytes) hdu at shape pixel) ≡ image plane head end → IsAt bytes number hdu head end
    by_data shape pixel true c e v = absurd (cc)
    by_data shape (Some pixel) false c e v = absurd (cc)
    by_data shape None false c e v =
        let same : at ≡ head = cc in
        let place : at + image_bytes hdu shape ≡ end = cc in
        let size : image_bytes hdu shape ≡ hdu.data_bytes = all_data limits bytes number hdu at shape is c in
        let within : at + image_bytes hdu shape ≤ length bytes = grind (arith, nat_tests) in
        record { is = subst (λ n. find_of bytes number ≡ found hdu n) same is; end_is = omega arith; within = omega arith }

    by : (check : Result Shape ImageFault) → checked limits hdu ≡ check → verdict_on_hdu limits bytes hdu at check ≡ image plane head end → IsAt bytes number hdu head end
    by (Err fault) c v = absurd (cc)
    by (Ok shape) c v = by_data shape (first_out_of_range limits hdu shape (drop at bytes)) (nat_lt (length bytes) (at + image_bytes hdu shape)) c refl v

pub first_read : (limits : Limits) (bytes : List ℕ) (number : ℕ) (head : ℕ) (left : Option (List ℕ)) (first : FirstImage) → find_of bytes number ≡ found first.hdu head
    → ImageRead (verdict_on_hdu limits bytes first.hdu head (checked limits first.hdu)) bytes left first.plane → FirstImageRead limits bytes number left first
first_read limits bytes number head left first is read =
    let place : IsAt bytes number first.hdu read.head read.end = image_at limits bytes number first.hdu head first.plane read.head read.end is read.is_image in
    record {
      head = read.head;
      is = place.is;
      is_image = verdict_is limits bytes number (found first.hdu head) is ∙ read.is_image ∙ ap (image first.plane read.head) place.end_is;
      whole = read.whole;
      takes = subst (Takes bytes left) place.end_is read.takes;
    }

-- The later HDU stands behind the earlier image.

behind_first : (limits : Limits) (bytes : List ℕ) (at number : ℕ) (plane : Raster) (head end : ℕ) → at < number → verdict_on limits bytes at ≡ image plane head end
    → (end ≤ taken_by (find_of bytes number)) × (end ≤ length bytes)
behind_first limits bytes at number plane head end low v = by (find_of bytes at) refl
  where
    by : (search : Found) → find_of bytes at ≡ search → (end ≤ taken_by (find_of bytes number)) × (end ≤ length bytes)
    by (refused fault taken) is = let none : unfound fault taken ≡ image plane head end = sym (verdict_is limits bytes at (refused fault taken) is) ∙ v in absurd (cc)
    by (found hdu from) is =
        let place : IsAt bytes at hdu head end = image_at limits bytes at hdu from plane head end is (sym (verdict_is limits bytes at (found hdu from) is) ∙ v) in
        let there : HasData bytes at hdu head = record { is = place.is; whole = subst (λ n. n ≤ length bytes) place.end_is place.within } in
        (subst (λ n. n ≤ taken_by (find_of bytes number)) (sym place.end_is) (data_taken bytes at number hdu head there low), place.within)

-- behind the earlier image memory may be wanted as for that image alone, and then as it may further on
beside_counts : (first : Raster) (head end : ℕ) (later : Verdict) (shape : Option Shape) (other : Bool) → is_other_shape first.shape shape ≡ other
    → (more : List ℕ) × (memory_at_two (verdict_beside first head end later shape) ≡ head ∷ end ∷ more)
beside_counts first head end (unfound fault taken) shape other e = (_, refl)
beside_counts first head end (unreadable fault head') shape other e = (_, refl)
beside_counts first head end (truncated head' taken) shape true e = rw e (_, refl)
beside_counts first head end (truncated head' taken) shape false e = rw e (_, refl)
beside_counts first head end (out_of_range head' end' pixel stored) shape true e = rw e (_, refl)
beside_counts first head end (out_of_range head' end' pixel stored) shape false e = rw e (_, refl)
beside_counts first head end (image second head' end') shape true e = rw e (_, refl)
beside_counts first head end (image second head' end') shape false e = rw e (_, refl)

first_wanted : (head end : ℕ) (counts bytes : List ℕ) (left : Option (List ℕ)) → (more : List ℕ) × (counts ≡ head ∷ end ∷ more)
    → TakesOneOf (head ∷ end ∷ []) bytes left → TakesOneOf counts bytes left
first_wanted head end counts bytes left (more, is) (inl takes) = rw is (inl takes)
first_wanted head end counts bytes left (more, is) (inr (inl takes)) = rw is (inr (inl takes))
first_wanted head end counts bytes left (more, is) (inr (inr none)) = absurd none

stopped_by : (v later : Verdict) (shape : Option Shape) (bytes : List ℕ) (left : Option (List ℕ)) (stop : Stop)
    → ((plane : Raster) (head end : ℕ) → v ≡ image plane head end → end ≤ taken_for_two (verdict_beside plane head end later shape))
    → ImageStopped v bytes left stop → TwoStopped (combined_verdict v later shape) bytes left stop
stopped_by (image plane head end) later shape bytes left (Refused fault) most (is, takes) = absurd (cc)
stopped_by (image plane head end) later shape bytes left ReadFault most lost =
    record { count = lost.count; few = omega (arith, lost.few, most plane head end refl); takes = lost.takes }
stopped_by (image plane head end) later shape bytes left NoMemory most wanted =
    first_wanted head end _ bytes left (beside_counts plane head end later shape _ refl) wanted
stopped_by (unfound of taken) later shape bytes left stop most stopped = stopped
stopped_by (unreadable of head) later shape bytes left stop most stopped = stopped
stopped_by (truncated head taken) later shape bytes left stop most stopped = stopped
stopped_by (out_of_range head end pixel stored) later shape bytes left stop most stopped = stopped

-- the reading of the earlier image stops
pub first_stopped : (limits : Limits) (bytes : List ℕ) (at number : ℕ) (left : Option (List ℕ)) (stop : Stop) → at < number → ImageStopped (verdict_on limits bytes at) bytes left stop
    → TwoStopped (verdict_on_two limits bytes at number) bytes left stop
unfolding verdict_on_two
first_stopped limits bytes at number left stop low h = stopped_by (verdict_on limits bytes at) (verdict_on limits bytes number) (header_shape limits bytes number) bytes left stop most h
  where
    most : (plane : Raster) (head end : ℕ) → verdict_on limits bytes at ≡ image plane head end
        → end ≤ taken_for_two (verdict_beside plane head end (verdict_on limits bytes number) (header_shape limits bytes number))
    most plane head end v =
        let place = behind_first limits bytes at number plane head end low v in
        let same = ap (λ v. combined_verdict v (verdict_on limits bytes number) (header_shape limits bytes number)) v in
        let whole = two_is limits bytes at number plane head end (find_of bytes number) v refl in
        subst (λ two. end ≤ taken_for_two two) (sym whole ∙ same) (search_most limits bytes plane head end end (find_of bytes number) place.0 place.1)

-- The search went on behind the earlier image.

on_from_first : (limits : Limits) (bytes : List ℕ) (at number : ℕ) (before : Option (List ℕ)) (first : FirstImage) (read : FirstImageRead limits bytes at before first) → at < number
    → find_after_of bytes at first.hdu.data_bytes (read.head + first.hdu.data_bytes) number ≡ find_of bytes number
on_from_first limits bytes at number before first read low =
    let there : HasData bytes at first.hdu read.head = record { is = read.is; whole = read.takes.within } in
    search_goes_on bytes at number first.hdu read.head there low

pub second_stopped : (limits : Limits) (bytes : List ℕ) (at number : ℕ) (before left : Option (List ℕ)) (first : FirstImage) (stop : HduStop) → at < number
    → ((bytes : List ℕ) (start : ℕ) → Takes bytes before start → Stopped (find_after_of bytes at first.hdu.data_bytes start number) bytes left stop)
    → FirstImageRead limits bytes at before first → TwoStopped (verdict_on_two limits bytes at number) bytes left (stop_at_hdu stop)
second_stopped limits bytes at number before left first stop low says read =
    let end = read.head + first.hdu.data_bytes in
    let search : Stopped (find_of bytes number) bytes left stop =
    subst (λ s. Stopped s bytes left stop) (on_from_first limits bytes at number before first read low) (says bytes end read.takes) in
    let is = two_is limits bytes at number first.plane read.head end (find_of bytes number) read.is_image refl in
    subst (λ two. TwoStopped two bytes left (stop_at_hdu stop)) (sym is) (search_beside limits bytes first.plane read.head end left (find_of bytes number) stop search)

abbrev BothRead : TwoVerdict → List ℕ → Option (List ℕ) → Result TwoPlanes Stop → Type 0
BothRead two bytes left result = MatchResult result (λ planes. TwoRead two bytes left planes) (λ stop. TwoStopped two bytes left stop)

pub second_read : (limits : Limits) (bytes : List ℕ) (at number : ℕ) (before after left : Option (List ℕ)) (first : FirstImage) (hdu : Hdu) (result : Result TwoPlanes Stop)
    → at < number
    → ((bytes : List ℕ) (start : ℕ) → Takes bytes before start → Finds (find_after_of bytes at first.hdu.data_bytes start number) bytes after (Ok hdu))
    → ((bytes : List ℕ) (head end head' : ℕ) → Takes bytes after head' → MatchResult result
    (λ planes. TwoRead (verdict_beside first.plane head end (verdict_on_hdu limits bytes hdu head' (checked limits hdu)) (result_ok (checked limits hdu))) bytes left planes)
    (λ stop. TwoStopped (verdict_beside first.plane head end (verdict_on_hdu limits bytes hdu head' (checked limits hdu)) (result_ok (checked limits hdu))) bytes left stop))
    → FirstImageRead limits bytes at before first
    → MatchResult result (λ planes. TwoRead (verdict_on_two limits bytes at number) bytes left planes)
    (λ stop. TwoStopped (verdict_on_two limits bytes at number) bytes left stop)
second_read limits bytes at number before after left first hdu result low finds says read = by (finds bytes (read.head + first.hdu.data_bytes) read.takes)
  where
    by : Finds (find_after_of bytes at first.hdu.data_bytes (read.head + first.hdu.data_bytes) number) bytes after (Ok hdu)
        → BothRead (verdict_on_two limits bytes at number) bytes left result
    by (head', is, takes) =
        let end = read.head + first.hdu.data_bytes in
        let search : find_of bytes number ≡ found hdu head' = sym (on_from_first limits bytes at number before first read low) ∙ is in
        let same = two_is limits bytes at number first.plane read.head end (found hdu head') read.is_image search in
        subst (λ two. BothRead two bytes left result) (sym same) (says bytes read.head end head' takes)
