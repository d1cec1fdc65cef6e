-- What is read of the one image, and what is made of it.
use Rattle.std.proofs.Common.{◌≡◌, ◌∙◌, ℕ, List, [], refl, sym, ap, subst, Some, inl, inr}
use Rattle.std.specs.declared.option.Option.{Option}
use Rattle.std.proofs.lemmas.Option.{none-some}
use Rattle.dev_io.specs.Streams.{Takes}
use Rattle.comp_tree.specs.Raster.{Raster}
use Rattle.pixel_plane.specs.Verdicts.{Verdict, image, unfound, unreadable, truncated, out_of_range, verdict_on, taken_for}
use Rattle.pixel_plane.specs.declared.limits.Limits.{Limits}
use Rattle.orders.specs.declared.words.Order.{Order}
use Rattle.pixel_plane.specs.declared.image.Stop.{Stop}
use Rattle.pixel_plane.specs.declared.image.Stop.TheVariants.{NoMemory}
use Rattle.pixel_plane.specs.Streams.{ImageRead, ImageStopped, memory_at_verdict, stop_of, TakesOneOf}
use Rattle.run_relation.specs.Answers.{end_of}
use Rattle.run_relation.specs.RunEnds.{AllRead, HasStopped}
use Rattle.run_relation.proofs.Exported.{all_read, has_stopped}
use Rattle.tree_products.specs.Products.{output_of}
use Rattle.detect_top.specs.ImageAnswers.{output_on, answer_to_verdict}

-- the image was read, and what is made of it is the answer's output
pub image_read : (limits : Limits) (order : Order) (bytes : List ℕ) (left left' : Option (List ℕ)) (plane : Raster) (output : List ℕ) → left ≡ Some bytes
    → ImageRead (verdict_on limits bytes order.hdu) bytes left' plane → output ≡ output_of order plane
    → AllRead (answer_to_verdict order (verdict_on limits bytes order.hdu)) left left' output
image_read limits order bytes left left' plane output told read is =
    all_read (answer_to_verdict order (verdict_on limits bytes order.hdu)) bytes left left' output told
    (ap (λ v. end_of (stop_of v)) read.is_image)
    (is ∙ sym (ap (output_on order) read.is_image))
    (subst (Takes bytes left') (sym (ap taken_for read.is_image)) read.takes)

nothing_written : (order : Order) (found : Verdict) (s : Stop) → stop_of found ≡ Some s → output_on order found ≡ []
nothing_written order (image plane head end) s is = absurd (none-some s is)
nothing_written order (unfound fault taken) s is = refl
nothing_written order (unreadable fault head) s is = refl
nothing_written order (truncated head taken) s is = refl
nothing_written order (out_of_range head end pixel stored) s is = refl

-- the reading stopped
pub image_stopped : (limits : Limits) (order : Order) (bytes : List ℕ) (left left' : Option (List ℕ)) (stop : Stop) → left ≡ Some bytes
    → ImageStopped (verdict_on limits bytes order.hdu) bytes left' stop
    → HasStopped (answer_to_verdict order (verdict_on limits bytes order.hdu)) (memory_at_verdict (verdict_on limits bytes order.hdu)) left left' stop
image_stopped limits order bytes left left' stop told stopped =
    let found = verdict_on limits bytes order.hdu in
    has_stopped (answer_to_verdict order found) (memory_at_verdict found) bytes (stop_of found) left left' stop told refl (nothing_written order found) stopped

-- memory may be wanted after the image was read
pub memory_after : (limits : Limits) (order : Order) (bytes : List ℕ) (left left' : Option (List ℕ)) (plane : Raster) → left ≡ Some bytes
    → ImageRead (verdict_on limits bytes order.hdu) bytes left' plane
    → HasStopped (answer_to_verdict order (verdict_on limits bytes order.hdu)) (memory_at_verdict (verdict_on limits bytes order.hdu)) left left' NoMemory
memory_after limits order bytes left left' plane told read =
    image_stopped limits order bytes left left' NoMemory told
    (subst (λ v. TakesOneOf (memory_at_verdict v) bytes left') (sym read.is_image) (inr (inl read.takes)))
