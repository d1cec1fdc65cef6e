use Rattle.std.proofs.Common.{sym}
use Rattle.command_line.specs.Lines.{texts}
use Rattle.tile_words.proofs.Faults.{name_at_fault, column_at_fault, row_at_fault, frame_shape_at_fault, frame_read}
use Rattle.tile_words.proofs.places.read_frame.Goals as goal

pub returns-then-not-is_word : goal.returns-then-not-is_word
returns-then-not-is_word c = name_at_fault c.args.name.now (texts c.args.words.now) c.args.first (sym c.if-not-is_word.ensures)

pub returns-in_default : goal.returns-in_default
returns-in_default c =
    column_at_fault c.args.name.now (texts c.args.words.now) c.args.first (sym c.if-not-is_word.ensures) (sym c.in_default.ensures)

pub returns-in_default-offset_in : goal.returns-in_default-offset_in
returns-in_default-offset_in c =
    row_at_fault c.args.name.now (texts c.args.words.now) c.args.first c.in-Some.left (sym c.if-not-is_word.ensures) (sym c.in-Some.ensures)
    (sym c.in_default-offset_in.ensures)

pub returns-in-Ok : goal.returns-in-Ok
returns-in-Ok c =
    frame_read c.args.name.now (texts c.args.words.now) c.args.first c.in-Some.left c.in-Some-offset_in.top c.in-Ok.shape
    (sym c.if-not-is_word.ensures) (sym c.in-Some.ensures) (sym c.in-Some-offset_in.ensures) c.in-Ok.ensures

pub returns-in-Err : goal.returns-in-Err
returns-in-Err c =
    frame_shape_at_fault c.args.name.now (texts c.args.words.now) c.args.first c.in-Some.left c.in-Some-offset_in.top c.in-Err.usage.word
    (sym c.if-not-is_word.ensures) (sym c.in-Some.ensures) (sym c.in-Some-offset_in.ensures) c.in-Err.ensures
