use Rattle.std.proofs.Common.{◌≡◌, ◌∙◌, ◌+◌, sym, ap, arith, length}
use Rattle.std.specs.Prelude.{slice_index}
use Rattle.std.proofs.lemmas.List.{length-replicate}
use Rattle.node_sums.specs.DisjointNodes.{listed_number_at}
use Rattle.node_sums.proofs.Exported.{zeros_replicate}
use Rattle.source_pick.proofs.PassesMarks.{zeros_part, pixels_all}
use Rattle.source_pick.proofs.segmenting.number_bands.Goals as goal

pub for_each_chunk_mut-requires-clause-accepts : goal.for_each_chunk_mut-requires-clause-accepts
for_each_chunk_mut-requires-clause-accepts g c = λ κs within start p chunk.
    let size : length c.args.map.now ≡ length c.args.tree.now.node_of = ap length c.requires.blank ∙ length-replicate (length c.args.tree.now.node_of) 0 in (
      c.requires.numbers,
      omega (arith, chunk.in_bounds, size),
      zeros_part c.args.map.now p.now start (zeros_replicate c.args.map.now (length c.args.tree.now.node_of) c.requires.blank) (λ k l. chunk.elements k 0 l),
    )

pub returns : goal.returns
returns g c = λ marked plane connect d known same.
    pixels_all plane connect c.args.tree.now marked c.for_each_chunk_mut.new.s same (c.for_each_chunk_mut.auto.s ∙ size)
    (λ i l.
    let in_chunk = (c.for_each_chunk_mut.ensures.by_index i 0 (omega (arith, l, size))).1 in
    let there : slice_index in_chunk.after_call.now in_chunk.offset ≡ listed_number_at plane connect marked (in_chunk.start + in_chunk.offset) =
    in_chunk.call.each marked plane connect d known same in_chunk.offset in_chunk.offset_in_chunk in
    sym in_chunk.new_element ∙ there ∙ ap (listed_number_at plane connect marked) in_chunk.start_plus_offset)
  where
    size : length c.args.map.now ≡ length c.args.tree.now.node_of
    size = ap length c.requires.blank ∙ length-replicate (length c.args.tree.now.node_of) 0
