use Rattle.std.proofs.Common.{rules, ap, ◌∙◌}
use Rattle.survey_core.specs.Ranking.{row_line}
use Rattle.dev_io.proofs.Exported.{front_empty}
use Rattle.command_line.proofs.Exported.{waiting, waiting_cut, line_flushed, line_is, line_in, all_lines}
use Rattle.survey_core.proofs.ranking.put_rows.Goals as goal

pub returns-in-Err-clause-bytes : goal.returns-in-Err-clause-bytes
returns-in-Err-clause-bytes g c =
    let h = c.loop-row-test.true in
    front_empty _ _ _ _ c.new-block.ensures
    (waiting_cut _ _ _ _ _ _ c.loop-row.row-index _ (line_in row_line c.args.rows.now _ h)
    (ap row_line c.row-item.is ∙ line_is row_line c.args.rows.now c.loop-row.row-index _ h) c.loop-row.invariant.moved c.in-Err.ensures.err)

pub loop-row-preserved : goal.loop-row-preserved
loop-row-preserved g c =
    let h = c.loop-row-test.true in
    record {
      moved = waiting _ _ _ _ _ _ _ c.loop-row.row-index _ (line_in row_line c.args.rows.now _ h)
          (ap row_line c.row-item.is ∙ line_is row_line c.args.rows.now c.loop-row.row-index _ h) c.loop-row.invariant.moved c.in_default.ensures.ok;
      later = search rules;
    }

pub returns-clause-bytes : goal.returns-clause-bytes
returns-clause-bytes g c =
    line_flushed _ _ _ _ _ _ _ _ c.new-block.ensures
    (all_lines _ _ _ row_line c.args.rows.now _ c.loop-row.row-index c.loop-row-test.false c.loop-row.invariant.moved)
    c.flush.ensures.ok c.flush.ensures.empty c.flush.ensures.err
