use Rattle.std.proofs.Common.{◌≡◌, ◌<◌, ℕ, ap, ◌∙◌, false, length, to_z, of_z, w64, arith}
use Rattle.std.specs.Prelude.{slice_index_or}
use Rattle.std.proofs.lemmas.Int.{to_z-of_z}
use Rattle.std.proofs.lemmas.List.{length-replicate}
use Rattle.source_pick.specs.Locality.{is_near_high}
use Rattle.source_pick.proofs.LocalityNearing.{near_list, blank_part, marked_there}
use Rattle.source_pick.proofs.clearing.mark_bands.Goals as goal

pub for_each_chunk_mut-requires-clause-accepts : goal.for_each_chunk_mut-requires-clause-accepts
for_each_chunk_mut-requires-clause-accepts g c = λ κs within start p chunk.
    let size : length c.args.marks.now ≡ length c.args.plane.now.values =
    ap length c.requires.blank ∙ length-replicate (length c.args.plane.now.values) false in (
      chunk.nonempty,
      omega (arith, chunk.in_bounds, size),
      blank_part (length c.args.plane.now.values) c.args.marks.now p.now start c.requires.blank
          (λ k l. chunk.elements k false l),
    )

pub returns : goal.returns
returns g c = near_list c.args.plane.now c.args.connect c.args.threshold c.for_each_chunk_mut.new.s (c.for_each_chunk_mut.auto.s ∙ size) each
  where
    size : length c.args.marks.now ≡ length c.args.plane.now.values
    size = ap length c.requires.blank ∙ length-replicate (length c.args.plane.now.values) false

    each : (i : ℕ) → i < length c.args.plane.now.values
        → slice_index_or c.for_each_chunk_mut.new.s i false ≡ is_near_high c.args.plane.now c.args.connect c.args.threshold i
    each i l =
        let in_chunk = (c.for_each_chunk_mut.ensures.by_index i false (omega (arith, l, size))).1 in
        marked_there c.args.plane.now c.args.connect (to_z w64 (of_z w64 c.args.threshold)) c.args.threshold in_chunk.after_call.now c.for_each_chunk_mut.new.s
        in_chunk.start in_chunk.offset i
        in_chunk.new_element (in_chunk.call in_chunk.offset in_chunk.offset_in_chunk) in_chunk.start_plus_offset
        (to_z-of_z w64 c.args.threshold c.ranges.threshold)
