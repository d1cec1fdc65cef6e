use Rattle.std.proofs.Common.{◌∙◌, ◌<◌, ◌++◌, ap, sym, take, take_all, length, arith, append-nil}
use Rattle.survey_core.specs.Ranking.{rows_of}
use Rattle.survey_core.proofs.RankLemmas.{row_at, rows_long}
use Rattle.survey_core.proofs.BestRows.{best_of, one_row_more}
use Rattle.survey_core.proofs.ranking.rank_all.Goals as goal

pub loop-row-init : goal.loop-row-init
loop-row-init c = λ rows are. best_of c.args.most _ (sym (append-nil rows)) are

pub loop-row-preserved : goal.loop-row-preserved
loop-row-preserved c = λ rows are.
    let field = c.args.field.now in
    let cells = c.args.cells.now in
    let i = c.loop-row.row in
    let h : i < length (rows_of (field, cells)) = omega (arith, c.loop-row-test.true, rows_long field cells) in
    let here = c.ranking_row.ensures ∙ row_at field cells i c.ranking_row.result (omega (arith, c.loop-row-test.true)) in
    best_of c.args.most _ (one_row_more rows (rows_of (field, cells)) i c.ranking_row.result h here)
    (c.in_default.ensures (rows ++ take i (rows_of (field, cells))) (c.loop-row.invariant rows are))

pub returns : goal.returns
returns c = λ rows are.
    let field = c.args.field.now in
    let cells = c.args.cells.now in
    best_of c.args.most _ (ap (λ l. rows ++ l) (take_all c.loop-row.row (rows_of (field, cells)) (omega (arith, c.loop-row-test.false, rows_long field cells))))
    (c.loop-row.invariant rows are)
