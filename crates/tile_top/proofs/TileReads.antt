-- What is read of a window's image, and what is made of it.
use Rattle.std.proofs.Common.{◌≡◌, ◌∙◌, ℕ, List, [], ◌∷◌, Bool, true, false, refl, sym, ap, subst, inl, inr, Some, None}
use Rattle.std.specs.declared.option.Option.{Option}
use Rattle.std.proofs.lemmas.Option.{none-some}
use Rattle.comp_tree.specs.Raster.{Raster}
use Rattle.pixel_plane.specs.declared.limits.Limits.{Limits}
use Rattle.pixel_plane.specs.declared.input_fault.Fault.TheVariants.{ShapeDiffers}
use Rattle.pixel_plane.specs.declared.image.Stop.{Stop}
use Rattle.pixel_plane.specs.declared.image.Stop.TheVariants.{Refused, ReadFault, NoMemory}
use Rattle.pixel_plane.specs.Verdicts.{Verdict, image, unfound, unreadable, truncated, out_of_range, verdict_on}
use Rattle.pixel_plane.specs.Streams.{ImageRead, ImageStopped, memory_at_verdict, stop_of, TakesOneOf}
use Rattle.run_relation.specs.declared.ends.End.TheVariants as at_end
use Rattle.run_relation.specs.Headline.{Answer}
use Rattle.run_relation.specs.RunEnds.{AllRead, HasStopped}
use Rattle.run_relation.proofs.Exported.{all_read, has_stopped}
use Rattle.tile_words.specs.declared.words.TileOrder.{TileOrder}
use Rattle.tile_top.specs.TileAnswers.{tile_output, has_window_shape, tile_answer}

-- the answer to an image of the window's shape, and to another one
abbrev done_with : TileOrder → Raster → ℕ → Answer
done_with t plane end = record { end = at_end.Done; output = tile_output t plane; taken = end }

abbrev differs_at : ℕ → Answer
differs_at end = record { end = at_end.Refused ShapeDiffers; output = []; taken = end }

answer_to_window : (t : TileOrder) (plane : Raster) (head end : ℕ) → has_window_shape t plane.shape ≡ true
    → tile_answer t (image plane head end) ≡ done_with t plane end
answer_to_window t plane head end is = rw is refl

answer_to_other : (t : TileOrder) (plane : Raster) (head end : ℕ) → has_window_shape t plane.shape ≡ false
    → tile_answer t (image plane head end) ≡ differs_at end
answer_to_other t plane head end is = rw is refl

-- the image of the window was read, and what is made of it is the answer's output
pub window_read : (limits : Limits) (t : TileOrder) (bytes : List ℕ) (left left' : Option (List ℕ)) (plane : Raster) (output : List ℕ) → left ≡ Some bytes
    → ImageRead (verdict_on limits bytes t.order.hdu) bytes left' plane → has_window_shape t plane.shape ≡ true → output ≡ tile_output t plane
    → AllRead (tile_answer t (verdict_on limits bytes t.order.hdu)) left left' output
window_read limits t bytes left left' plane output told read shape is =
    subst (λ (a : Answer). AllRead a left left' output) (sym (ap (tile_answer t) read.is_image ∙ answer_to_window t plane read.head read.end shape))
    (all_read (done_with t plane read.end) bytes left left' output told refl is read.takes)

-- the image has another shape
pub other_read : (limits : Limits) (t : TileOrder) (bytes : List ℕ) (left left' : Option (List ℕ)) (plane : Raster) → left ≡ Some bytes
    → ImageRead (verdict_on limits bytes t.order.hdu) bytes left' plane → has_window_shape t plane.shape ≡ false
    → HasStopped (tile_answer t (verdict_on limits bytes t.order.hdu)) (memory_at_verdict (verdict_on limits bytes t.order.hdu)) left left'
    (Refused ShapeDiffers)
other_read limits t bytes left left' plane told read shape =
    let counts = memory_at_verdict (verdict_on limits bytes t.order.hdu) in
    subst (λ (a : Answer). HasStopped a counts left left' (Refused ShapeDiffers))
    (sym (ap (tile_answer t) read.is_image ∙ answer_to_other t plane read.head read.end shape))
    (has_stopped (differs_at read.end) counts bytes (Some (Refused ShapeDiffers)) left left' (Refused ShapeDiffers) told refl (λ s e. refl) (refl, read.takes))

module _ (t : TileOrder) (bytes : List ℕ) (left left' : Option (List ℕ)) (told : left ≡ Some bytes) where
  -- where an image is there, reading stops at a fault of the source alone, or where memory is wanted
  stopped_at_image : (plane : Raster) (head end : ℕ) (stop : Stop) → ImageStopped (image plane head end) bytes left' stop
      → HasStopped (tile_answer t (image plane head end)) (head ∷ end ∷ []) left left' stop
  stopped_at_image plane head end (Refused fault) stopped = absurd (none-some (Refused fault) stopped.0)
  stopped_at_image plane head end ReadFault stopped = go (has_window_shape t plane.shape) refl
    where
      go : (b : Bool) → has_window_shape t plane.shape ≡ b → HasStopped (tile_answer t (image plane head end)) (head ∷ end ∷ []) left left' ReadFault
      go true is =
          subst (λ (a : Answer). HasStopped a (head ∷ end ∷ []) left left' ReadFault) (sym (answer_to_window t plane head end is))
          (has_stopped (record { end = at_end.Done; output = []; taken = end }) (head ∷ end ∷ []) bytes None left left' ReadFault told refl (λ s e. refl) stopped)
      go false is =
          subst (λ (a : Answer). HasStopped a (head ∷ end ∷ []) left left' ReadFault) (sym (answer_to_other t plane head end is))
          (has_stopped (record { end = at_end.Done; output = []; taken = end }) (head ∷ end ∷ []) bytes None left left' ReadFault told refl (λ s e. refl) stopped)
  stopped_at_image plane head end NoMemory stopped =
      has_stopped (record { end = at_end.Done; output = []; taken = end }) (head ∷ end ∷ []) bytes None left left' NoMemory told refl (λ s e. refl) stopped

  by_verdict : (found : Verdict) (stop : Stop) → ImageStopped found bytes left' stop
      → HasStopped (tile_answer t found) (memory_at_verdict found) left left' stop
  by_verdict (image plane head end) stop stopped = stopped_at_image plane head end stop stopped
  by_verdict (unfound fault taken) stop stopped =
      has_stopped (tile_answer t (unfound fault taken)) [] bytes (stop_of (unfound fault taken)) left left' stop told refl (λ s e. refl) stopped
  by_verdict (unreadable fault head) stop stopped =
      has_stopped (tile_answer t (unreadable fault head)) [] bytes (stop_of (unreadable fault head)) left left' stop told refl (λ s e. refl) stopped
  by_verdict (truncated head taken) stop stopped =
      has_stopped (tile_answer t (truncated head taken)) (head ∷ []) bytes (stop_of (truncated head taken)) left left' stop told refl (λ s e. refl) stopped
  by_verdict (out_of_range head end pixel stored) stop stopped =
      has_stopped (tile_answer t (out_of_range head end pixel stored)) (head ∷ []) bytes (stop_of (out_of_range head end pixel stored)) left left' stop told
      refl (λ s e. refl) stopped

-- the reading stopped
pub window_stopped : (limits : Limits) (t : TileOrder) (bytes : List ℕ) (left left' : Option (List ℕ)) (stop : Stop) → left ≡ Some bytes
    → ImageStopped (verdict_on limits bytes t.order.hdu) bytes left' stop
    → HasStopped (tile_answer t (verdict_on limits bytes t.order.hdu)) (memory_at_verdict (verdict_on limits bytes t.order.hdu)) left left' stop
window_stopped limits t bytes left left' stop told stopped = by_verdict t bytes left left' told (verdict_on limits bytes t.order.hdu) stop stopped

-- memory may be wanted after the image was read
pub memory_after_window : (limits : Limits) (t : TileOrder) (bytes : List ℕ) (left left' : Option (List ℕ)) (plane : Raster) → left ≡ Some bytes
    → ImageRead (verdict_on limits bytes t.order.hdu) bytes left' plane
    → HasStopped (tile_answer t (verdict_on limits bytes t.order.hdu)) (memory_at_verdict (verdict_on limits bytes t.order.hdu)) left left' NoMemory
memory_after_window limits t bytes left left' plane told read =
    window_stopped limits t bytes left left' NoMemory told
    (subst (λ v. TakesOneOf (memory_at_verdict v) bytes left') (sym read.is_image) (inr (inl read.takes)))
