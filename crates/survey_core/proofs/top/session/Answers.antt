use Rattle.std.proofs.Common.{sym, arith, true, None}
use Rattle.command_line.specs.Lines.{texts}
use Rattle.survey_core.proofs.Going.{begins, goes_on, stop_tells, stops_here, cause_since, finished, printed_all, some_width}
use Rattle.survey_core.proofs.top.session.Goals as goal

pub loop-command-init : goal.loop-command-init
loop-command-init g c = record {
  within = omega arith;
  going = λ commands is. begins commands (texts c.args.words.now) _ _ _ _ is;
  read_later = omega arith;
  write_later = omega arith;
  keep_later = omega arith;
}

pub loop-command-preserved : goal.loop-command-preserved
loop-command-preserved g c = record {
  within = omega (arith, c.width-width.ensures, c.in-Ok.ensures.inside);
  going = λ commands is.
      rw c.width-width.ensures (goes_on commands (texts c.args.words.now) c.loop-command.at _ _ _ _ _ _ _
      (c.loop-command.invariant.going commands is) c.in-Ok.command (sym c.in-Ok.ensures.front) _ _ _ _
      c.in_default-carry_out.ensures.told c.in_default-carry_out.ensures.settled);
  read_later = omega (arith, c.loop-command.invariant.read_later, c.in_default-carry_out.ensures.read_later);
  write_later = omega (arith, c.loop-command.invariant.write_later, c.in_default-carry_out.ensures.write_later);
  keep_later = omega (arith, c.loop-command.invariant.keep_later, c.in_default-carry_out.ensures.keep_later);
}

pub loop-command-smaller : goal.loop-command-smaller
loop-command-smaller g c = omega (arith, c.width-width.ensures, some_width c.in-Ok.command, c.in-Ok.ensures.inside)

pub returns-in-Err-clause-told : goal.returns-in-Err-clause-told
returns-in-Err-clause-told g c = λ commands is bytes e ts t.
    stop_tells commands (texts c.args.words.now) c.loop-command.at _ _ _ _ _ _ _ (c.loop-command.invariant.going commands is) c.in-Ok.command
    (sym c.in-Ok.ensures.front) _ _ _ _ c.in-Err.stop bytes e ts t
    c.in-Err.ensures.told c.in-Err.ensures.settled

pub returns-in-Err-clause-cause : goal.returns-in-Err-clause-cause
returns-in-Err-clause-cause g c = λ commands is.
    let before = c.loop-command.invariant in
    stops_here commands (texts c.args.words.now) c.loop-command.at _ _ _ _ _ _ _ (before.going commands is) c.in-Ok.command
    (sym c.in-Ok.ensures.front) None None None true _ _ _ _ _ _ c.in-Err.stop
    (cause_since c.in-Ok.command _ _ _ _ _ _ _ _ _ c.in-Err.stop before.read_later before.write_later before.keep_later c.in-Err.ensures.cause)

pub returns-clause-told : goal.returns-clause-told
returns-clause-told g c = λ commands is bytes e ts t.
    finished commands (texts c.args.words.now) c.loop-command.at _ _ _ _ _ _ _ (c.loop-command.invariant.going commands is) c.in_default.field-0
    (sym c.in_default.ensures.front) bytes e ts t

pub returns-clause-cause : goal.returns-clause-cause
returns-clause-cause g c = λ commands is.
    printed_all commands (texts c.args.words.now) c.loop-command.at _ _ _ _ _ _ _ (c.loop-command.invariant.going commands is) c.in_default.field-0
    (sym c.in_default.ensures.front)
