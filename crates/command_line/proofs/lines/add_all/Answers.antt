use Rattle.std.proofs.Common.{rules}
use Rattle.command_line.specs.Lines.{texts}
use Rattle.command_line.proofs.LineLemmas.{waiting, waiting_cut, whole_more, piece_short, text_at, text_in}
use Rattle.command_line.proofs.lines.add_all.Goals as goal

pub add-requires : goal.add-requires
add-requires g c =
    let h = c.loop-piece-test.true in
    piece_short (texts c.args.pieces.now) c.loop-piece.piece-index 2880 _ (text_in _ _ h) (text_at c.args.pieces.now c.loop-piece.piece-index _ h) c.requires

pub returns-in-Err-clause-err : goal.returns-in-Err-clause-err
returns-in-Err-clause-err g c =
    let h = c.loop-piece-test.true in
    waiting_cut _ _ _ c.args.block.now (texts c.args.pieces.now) _ c.loop-piece.piece-index _ (text_in _ _ h)
    (text_at c.args.pieces.now c.loop-piece.piece-index _ h)
    c.loop-piece.invariant.moved c.in-Err.ensures.err

pub loop-piece-preserved : goal.loop-piece-preserved
loop-piece-preserved g c =
    let h = c.loop-piece-test.true in
    record {
      moved =
          waiting _ _ _ c.args.block.now (texts c.args.pieces.now) _ _ c.loop-piece.piece-index _ (text_in _ _ h)
          (text_at c.args.pieces.now c.loop-piece.piece-index _ h)
          c.loop-piece.invariant.moved c.in_default.ensures.ok;
      whole = whole_more _ (texts c.args.pieces.now) _ _ c.loop-piece.piece-index _ (text_in _ _ h)
          (text_at c.args.pieces.now c.loop-piece.piece-index _ h) c.loop-piece.invariant.whole c.in_default.ensures.whole;
      later = search rules;
    }
