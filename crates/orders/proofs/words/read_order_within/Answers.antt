use Rattle.std.proofs.Common.{◌∙◌, ap, sym, subst}
use Rattle.std.specs.Prelude.{Ok, Some, None}
use Rattle.command_line.specs.Lines.{texts}
use Rattle.orders.specs.Words.{HasLimits}
use Rattle.orders.proofs.Limits.{given_limits}
use Rattle.orders.proofs.Places.{command_there, refused_at, ordered, no_command}
use Rattle.orders.proofs.words.read_order_within.Goals as goal

pub returns-in_default-clause-order : goal.returns-in_default-clause-order
returns-in_default-clause-order c = sym (no_command c.args.most (texts c.args.words.now) (sym c.in_default.ensures))

pub pairs_read-requires : goal.pairs_read-requires
pairs_read-requires c = command_there c.args.words.now c.in-Some.command (sym c.in-Some.ensures)

pub returns-in-Err-clause-order : goal.returns-in-Err-clause-order
returns-in-Err-clause-order c = sym (refused_at c.args.most c.in-Some.command (texts c.args.words.now) c.in-Err.usage.word (sym c.in-Some.ensures) c.in-Err.ensures.told)

pub returns-in-Some-job_for-clause-order : goal.returns-in-Some-job_for-clause-order
returns-in-Some-job_for-clause-order c =
    ap Ok c.order_of_job.ensures
    ∙ sym (ordered c.args.most c.in-Some.command (texts c.args.words.now) c.in-Ok.pairs (Some c.in-Some-job_for.job) (sym c.in-Some.ensures) c.in-Ok.ensures.told
    (sym c.in-Some-job_for.ensures))

pub returns-in-Some-job_for-clause-limits : goal.returns-in-Some-job_for-clause-limits
returns-in-Some-job_for-clause-limits c =
    subst HasLimits (sym c.order_of_job.ensures) (given_limits c.args.most c.in-Some.command (texts c.args.words.now) c.in-Ok.pairs c.in-Some-job_for.job
    (sym c.in-Some-job_for.ensures))

pub returns-in-None-clause-order : goal.returns-in-None-clause-order
returns-in-None-clause-order c =
    sym (ordered c.args.most c.in-Some.command (texts c.args.words.now) c.in-Ok.pairs None (sym c.in-Some.ensures) c.in-Ok.ensures.told (sym c.in-None.ensures))
