use Rattle.join_top.proofs.Collecting.{collect_more, part_collected, part_lost, piece_read}
use Rattle.join_top.proofs.reading.read_piece.Goals as goal

pub returns-in-Err-clause-told : goal.returns-in-Err-clause-told
returns-in-Err-clause-told g c = λ bytes so_far.
    part_lost bytes c.args.all.now.items _ _ _ so_far (c.in-Err.ensures.lost _ so_far.takes.rest)

pub returns-in-Ok-extend_from_slice-clause-told : goal.returns-in-Ok-extend_from_slice-clause-told
returns-in-Ok-extend_from_slice-clause-told g c = λ bytes so_far.
    piece_read bytes c.args.all.now.items c.fill.new.buf _ _ _ c.in-Ok.count so_far (c.in-Ok.ensures.moved _ so_far.takes.rest) c.in-Ok-extend_from_slice.ensures.items

pub returns-in-Err-extend_from_slice-clause-told : goal.returns-in-Err-extend_from_slice-clause-told
returns-in-Err-extend_from_slice-clause-told g c = λ bytes so_far.
    part_collected bytes _ _ (collect_more bytes c.args.all.now.items c.fill.new.buf _ _ c.in-Ok.count so_far (c.in-Ok.ensures.moved _ so_far.takes.rest))
