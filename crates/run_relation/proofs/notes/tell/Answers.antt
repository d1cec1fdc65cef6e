use Rattle.run_relation.specs.Answers.{note_of}
use Rattle.command_line.proofs.Exported.{noted_front, noted_line}
use Rattle.run_relation.proofs.notes.tell.Goals as goal

pub returns-in-Err : goal.returns-in-Err
returns-in-Err g c = noted_front _ _ _ _ _ (note_of c.args.end) _ c.in-Err.ensures.bytes c.in-Err.ensures.cause

pub returns : goal.returns
returns g c =
    let put = c.in_default-put_note.ensures.cause in
    noted_line _ _ _ _ _ _ _ (note_of c.args.end) c.done.result c.in_default-put_note.ensures.bytes put.later c.done.ensures.bytes c.done.ensures.settled
    c.done.ensures.cause
