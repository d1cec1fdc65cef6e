-- What the words of `detect` answer to an input with an image.
use Rattle.std.proofs.Common.{rules, ◌≡◌, ◌∙◌, ℕ, ◌+◌, ◌*◌, Bool, true, false, cond, List, ◌++◌, length, drop, sym, ap, subst, Option, Some, None}
use Rattle.std.proofs.Common.{Result, Ok, Err, nat_lt, ◌<◌, ◌≤◌, refl, arith}
use Rattle.std.specs.Prelude.{ℤ, pos, neg_ℤ, ◌≤ℤ◌, slice_get}
use Rattle.std.specs.Int.{int_max, int_min}
use Rattle.std.specs.List.{position, position_or_len}
use Rattle.std.proofs.lemmas.Int.{ints, clamps}
use Rattle.std.proofs.lemmas.Bool.{and_parts, not-false}
use Rattle.std.proofs.lemmas.Bool.Decides.{nat_tests}
use Rattle.std.proofs.lemmas.List.Sums.{fails_before_first}
use Rattle.std.proofs.lemmas.Option.{slice_get_within, get_or_from_slice_get}
use Rattle.lemmas.proofs.Exported.{int_le-true}
use Rattle.comp_tree.specs.Limits.{IsWithin, half_bound}
use Rattle.pixel_plane.proofs.Exported.{whole_stored}
use Rattle.pixel_plane.specs.ImageLimits.{narrowed}
use Rattle.comp_tree.specs.declared.shape.Shape.{Shape}
use Rattle.comp_tree.specs.Raster.{Raster, IsPlane, HasValuesInHalfRange, value_at}
use Rattle.fits_hdu.specs.declared.answer.Hdu.{Hdu}
use Rattle.fits_hdu.specs.Headers.{Found, found, refused}
use Rattle.fits_hdu.specs.Finding.{find_of}
use Rattle.pixel_plane.specs.declared.limits.Limits.{Limits}
use Rattle.pixel_plane.specs.declared.fault.ImageFault.{ImageFault}
use Rattle.pixel_plane.specs.Images.{checked}
use Rattle.pixel_plane.specs.Stored.{stored_plane, is_out_of_range, value_limits, first_out_of_range}
use Rattle.pixel_plane.specs.Reading.{image_bytes}
use Rattle.pixel_plane.specs.Verdicts.{Verdict, image, unfound, unreadable, truncated, out_of_range, image_unless, image_behind, verdict_on_hdu, verdict_on_found, verdict_on}
use Rattle.mesh_background.specs.Residuals.{residual_of}
use Rattle.mesh_background.specs.Laws.{ResidualIsPlane, ResidualIsInRange, IsNumberInHalfRange}
use Rattle.source_pick.specs.declared.choice.Choice.{Choice}
use Rattle.orders.specs.declared.words.Order.{Order}
use Rattle.orders.specs.declared.words.Job.TheVariants.{Detect}
use Rattle.orders.specs.Words.{order_within}
use Rattle.tree_products.specs.Products.{output_of_job, output_of}
use Rattle.detect_top.specs.ImageAnswers.{answer_to_verdict}
use Rattle.detect_top.specs.WordAnswers.{asked_for, asked_by, answer_to_words}
use Rattle.run_relation.specs.Answers.{end_status}
use Rattle.run_relation.specs.Headline.{Answer}
use Rattle.tree_products.specs.Catalogues.{detected_hdus, catalogue_cells}
use Rattle.survey_core.specs.Catalogues.{accepted, catalogue_in}
use Rattle.survey_laws.specs.Laws.{IsRunsPlane, DetectionIsAccepted, AnswerIsAccepted, DoneIsOfAnImage}

-- ---- its values are in half of the range, since none is out of the limits

within_cut : (least greatest v : ℤ) (bound : ℕ) → int_max least (neg_ℤ (pos bound)) ≤ℤ v → v ≤ℤ int_min greatest (pos bound) → IsWithin bound v
within_cut least greatest v bound low high = record { low = omega (arith, ints, clamps); high = omega (arith, ints, clamps) }

within_half : (limits : Limits) (count : ℕ) (v : ℤ) → is_out_of_range (narrowed limits count) (Some v) ≡ false → IsWithin (half_bound count) v
unfolding narrowed
within_half limits count v h =
    let both = and_parts _ _ (not-false _ h) in
    within_cut limits.least limits.greatest v (half_bound count) (int_le-true _ _ both.0) (int_le-true _ _ both.1)

none_before : (test : Option ℤ → Bool) (values : List (Option ℤ)) (p : ℕ) → position test values ≡ None → p < length values → test (value_at values p) ≡ false
none_before test values p none within = by (nat_lt (position_or_len test values) (length values)) refl none
  where
    by : (b : Bool) → nat_lt (position_or_len test values) (length values) ≡ b → cond b (Some (position_or_len test values)) None ≡ None
        → test (value_at values p) ≡ false
    by true e n = absurd (cc)
    by false e n = fails_before_first test values p None (let past : length values ≤ position_or_len test values = grind (arith, nat_tests) in omega arith)

-- an image of this shape whose pixels are all in range
stored_in_half : (limits : Limits) (hdu : Hdu) (shape : Shape) (bytes : List ℕ) → first_out_of_range limits hdu shape bytes ≡ None
    → HasValuesInHalfRange (stored_plane hdu shape bytes).values
unfolding first_out_of_range stored_plane
stored_in_half limits hdu shape bytes none = record { each = each }
  where
    each : (p : ℕ) (v : ℤ) → slice_get (stored_plane hdu shape bytes).values p ≡ Some (Some v)
        → IsWithin (half_bound (length (stored_plane hdu shape bytes).values)) v
    each p v is =
        let values : List (Option ℤ) = (stored_plane hdu shape bytes).values in
        let fine : is_out_of_range (value_limits limits shape) (value_at values p) ≡ false =
        none_before (is_out_of_range (value_limits limits shape)) values p none (slice_get_within values p (Some v) is) in
        let there : value_at values p ≡ Some v = get_or_from_slice_get values p (Some v) None is in
        let half : IsWithin (half_bound (shape.width * shape.height)) v =
        within_half limits (shape.width * shape.height) v (subst (λ o. is_out_of_range (value_limits limits shape) o ≡ false) there fine) in
        subst (λ n. IsWithin (half_bound n) v) (sym (whole_stored hdu shape bytes)) half

-- what is known of the plane of an image that is read
record IsReadPlane (plane : Raster) : Type 0 where
  one_each : IsPlane plane
  half : HasValuesInHalfRange plane.values

plane_unless : (limits : Limits) (bytes : List ℕ) (hdu : Hdu) (head : ℕ) (shape : Shape) (far : Option ℕ) (plane : Raster) (h e : ℕ)
    → first_out_of_range limits hdu shape (drop head bytes) ≡ far → image_unless (drop head bytes) hdu head shape far ≡ image plane h e → IsReadPlane plane
plane_unless limits bytes hdu head shape None plane h e none is =
    let same : stored_plane hdu shape (drop head bytes) ≡ plane = cc in
    subst IsReadPlane same (record {
      one_each = whole_stored hdu shape (drop head bytes);
      half = stored_in_half limits hdu shape (drop head bytes) none;
    })
plane_unless limits bytes hdu head shape (Some pixel) plane h e none is = absurd (cc)

plane_behind : (limits : Limits) (bytes : List ℕ) (hdu : Hdu) (head : ℕ) (shape : Shape) (plane : Raster) (h e : ℕ)
    → image_behind limits bytes hdu head shape ≡ image plane h e → IsReadPlane plane
plane_behind limits bytes hdu head shape plane h e is = by (nat_lt (length bytes) (head + image_bytes hdu shape)) is
  where
    by : (b : Bool) → cond b (truncated head (length bytes)) (image_unless (drop head bytes) hdu head shape (first_out_of_range limits hdu shape (drop head bytes)))
        ≡ image plane h e → IsReadPlane plane
    by true same = absurd (cc)
    by false same = plane_unless limits bytes hdu head shape (first_out_of_range limits hdu shape (drop head bytes)) plane h e refl same

plane_on_hdu : (limits : Limits) (bytes : List ℕ) (hdu : Hdu) (head : ℕ) (shape : Result Shape ImageFault) (plane : Raster) (h e : ℕ)
    → verdict_on_hdu limits bytes hdu head shape ≡ image plane h e → IsReadPlane plane
plane_on_hdu limits bytes hdu head (Err fault) plane h e is = absurd (cc)
plane_on_hdu limits bytes hdu head (Ok shape) plane h e is = plane_behind limits bytes hdu head shape plane h e is

plane_on_found : (limits : Limits) (bytes : List ℕ) (f : Found) (plane : Raster) (h e : ℕ) → verdict_on_found limits bytes f ≡ image plane h e
    → IsReadPlane plane
plane_on_found limits bytes (found hdu head) plane h e is = plane_on_hdu limits bytes hdu head (checked limits hdu) plane h e is
plane_on_found limits bytes (refused fault taken) plane h e is = absurd (cc)

plane_is : (limits : Limits) (bytes : List ℕ) (number : ℕ) (plane : Raster) (h e : ℕ) → verdict_on limits bytes number ≡ image plane h e → IsReadPlane plane
unfolding verdict_on
plane_is limits bytes number plane h e is = plane_on_found limits bytes (find_of bytes number) plane h e is

-- ---- the answer

module _ (limits : Limits) (words : List (List ℕ)) (bytes : List ℕ) (order : Order) (choice : Choice) (plane : Raster) (head end : ℕ)
    (order_is : order_within limits.pixels words ≡ Ok order) (job_is : order.job ≡ Detect choice) (image_is : verdict_on limits bytes order.hdu ≡ image plane head end) where
  answer_is : answer_to_words limits words bytes ≡ answer_to_verdict order (image plane head end)
  answer_is =
      ap (λ o. (asked_by limits o).answer bytes) order_is ∙ ap (λ j. (asked_for limits order j).answer bytes) job_is
      ∙ ap (answer_to_verdict order) image_is

  output_is : output_of order plane ≡ detected_hdus (residual_of plane order.mesh order.flat) order.connect choice
  unfolding output_of
  output_is = ap (λ j. output_of_job j order.connect (residual_of plane order.mesh order.flat)) job_is

pub answer_accepted : DetectionIsAccepted → ResidualIsPlane → ResidualIsInRange → AnswerIsAccepted
answer_accepted law planes ranges limits words bytes rest order choice plane head end order_is job_is image_is few =
    let residual = residual_of plane order.mesh order.flat in
    let read : IsReadPlane plane = plane_is limits bytes order.hdu plane head end image_is in
    let own : IsNumberInHalfRange None plane = search rules in
    let there : IsRunsPlane residual = record {
      one_each = planes None plane order.mesh order.flat read.one_each;
      in_range = ranges None plane order.mesh order.flat read.half own;
    } in
    let same = answer_is limits words bytes order choice plane head end order_is job_is image_is in
    let output = ap (λ (a : Answer). a.output) same ∙ output_is limits words bytes order choice plane head end order_is job_is image_is in (
      ap (λ (a : Answer). end_status a.end) same,
      ap (λ l. catalogue_in (l ++ rest)) output ∙ law residual order.connect choice rest there few
          ∙ ap (λ l. accepted (catalogue_cells residual order.connect choice) (length l)) (sym output),
    )

-- ---- an answer with status 0

-- none of a verdict but an image gives it
image_from : (order : Order) (found : Verdict) → end_status (answer_to_verdict order found).end ≡ 0
    → (plane : Raster) × ((head : ℕ) × ((end : ℕ) × (found ≡ image plane head end)))
image_from order (image plane head end) done = (plane, (head, (end, refl)))
image_from order (unfound fault taken) done = absurd (cc)
image_from order (unreadable fault head) done = absurd (cc)
image_from order (truncated head taken) done = absurd (cc)
image_from order (out_of_range head end pixel stored) done = absurd (cc)

pub done_of_image : DoneIsOfAnImage
done_of_image limits words bytes order choice order_is job_is done =
    let same : answer_to_words limits words bytes ≡ answer_to_verdict order (verdict_on limits bytes order.hdu) =
    ap (λ o. (asked_by limits o).answer bytes) order_is ∙ ap (λ j. (asked_for limits order j).answer bytes) job_is in
    let it = image_from order (verdict_on limits bytes order.hdu) (subst (λ (a : Answer). end_status a.end ≡ 0) same done) in
    (it.0, record { head = it.1.0; end = it.1.1.0; is = it.1.1.1 })
