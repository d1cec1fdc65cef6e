use Rattle.std.proofs.Common.{sym}
use Rattle.command_line.specs.Lines.{texts}
use Rattle.tile_words.proofs.Faults.{tile_at_fault, whole_name_at_fault, whole_at_fault, window_at_fault, core_at_fault, places_read}
use Rattle.tile_words.proofs.places.read_places.Goals as goal

pub returns-then-not-is_word : goal.returns-then-not-is_word
returns-then-not-is_word c = tile_at_fault (texts c.args.words.now) (sym c.if-not-is_word.ensures)

pub returns-then-not-is_word-2 : goal.returns-then-not-is_word-2
returns-then-not-is_word-2 c = whole_name_at_fault (texts c.args.words.now) (sym c.if-not-is_word.ensures) (sym c.if-not-is_word-2.ensures)

pub returns-in-Err : goal.returns-in-Err
returns-in-Err c =
    whole_at_fault (texts c.args.words.now) c.in-Err.usage.word
    (record { tile = sym c.if-not-is_word.ensures; whole = sym c.if-not-is_word-2.ensures }) c.in-Err.ensures

pub returns-in-Err-read_frame : goal.returns-in-Err-read_frame
returns-in-Err-read_frame c =
    window_at_fault (texts c.args.words.now) c.in-Ok.whole c.in-Err-read_frame.usage.word
    (record { tile = sym c.if-not-is_word.ensures; whole = sym c.if-not-is_word-2.ensures }) c.in-Ok.ensures c.in-Err-read_frame.ensures

pub returns-in-Ok-read_frame-2 : goal.returns-in-Ok-read_frame-2
returns-in-Ok-read_frame-2 c =
    places_read (texts c.args.words.now) c.in-Ok.whole c.in-Ok-read_frame.window c.in-Ok-read_frame-2.core
    (record { tile = sym c.if-not-is_word.ensures; whole = sym c.if-not-is_word-2.ensures }) c.in-Ok.ensures c.in-Ok-read_frame.ensures
    c.in-Ok-read_frame-2.ensures

pub returns-in-Err-read_frame-2 : goal.returns-in-Err-read_frame-2
returns-in-Err-read_frame-2 c =
    core_at_fault (texts c.args.words.now) c.in-Ok.whole c.in-Ok-read_frame.window c.in-Err-read_frame-2.usage.word
    (record { tile = sym c.if-not-is_word.ensures; whole = sym c.if-not-is_word-2.ensures }) c.in-Ok.ensures c.in-Ok-read_frame.ensures
    c.in-Err-read_frame-2.ensures
