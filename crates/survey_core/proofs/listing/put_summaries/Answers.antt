use Rattle.std.proofs.Common.{rules, ap, ◌∙◌}
use Rattle.survey_core.specs.Listings.{summary_line}
use Rattle.dev_io.proofs.Exported.{front_empty}
use Rattle.command_line.proofs.Exported.{waiting, waiting_cut, line_flushed, line_is, line_in, all_lines}
use Rattle.survey_core.proofs.listing.put_summaries.Goals as goal

pub returns-in-Err-clause-bytes : goal.returns-in-Err-clause-bytes
returns-in-Err-clause-bytes g c =
    let h = c.loop-summary-test.true in
    front_empty _ _ _ _ c.new-block.ensures
    (waiting_cut _ _ _ _ _ _ c.loop-summary.summary-index _ (line_in summary_line c.args.summaries.now _ h)
    (ap summary_line c.summary-item.is
    ∙ line_is summary_line c.args.summaries.now c.loop-summary.summary-index _ h) c.loop-summary.invariant.moved c.in-Err.ensures.err)

pub loop-summary-preserved : goal.loop-summary-preserved
loop-summary-preserved g c =
    let h = c.loop-summary-test.true in
    record {
      moved = waiting _ _ _ _ _ _ _ c.loop-summary.summary-index _ (line_in summary_line c.args.summaries.now _ h)
          (ap summary_line c.summary-item.is
          ∙ line_is summary_line c.args.summaries.now c.loop-summary.summary-index _ h) c.loop-summary.invariant.moved c.in_default.ensures.ok;
      later = search rules;
    }

pub returns-clause-bytes : goal.returns-clause-bytes
returns-clause-bytes g c =
    line_flushed _ _ _ _ _ _ _ _ c.new-block.ensures
    (all_lines _ _ _ summary_line c.args.summaries.now _ c.loop-summary.summary-index c.loop-summary-test.false c.loop-summary.invariant.moved)
    c.flush.ensures.ok c.flush.ensures.empty c.flush.ensures.err
