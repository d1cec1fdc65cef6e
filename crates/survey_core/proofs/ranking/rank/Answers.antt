use Rattle.std.proofs.Common.{◌≤◌, ◌<◌, length, heap_items, arith}
use Rattle.survey_core.proofs.BestRows.{pushed_ok, one_late, replaced_ok}
use Rattle.survey_core.proofs.ranking.rank.Goals as goal

pub returns-then-len-most : goal.returns-then-len-most
returns-then-len-most c = λ rows are.
    let room : length (heap_items c.args.best.now) < c.args.most = omega (arith, c.if-len-most.true, c.len.ensures, c.args.best.now.data.ok.0) in
    pushed_ok _ c.args.most rows _ _ c.args.row are room c.keep.ensures.permutation c.keep.ensures.heap

pub returns-then-is_late : goal.returns-then-is_late
returns-then-is_late c = λ rows are.
    let long : c.args.most ≤ length (heap_items c.args.best.now) = omega (arith, c.if-len-most.false, c.len.ensures, c.args.best.now.data.ok.0) in
    one_late c.args.most rows _ c.args.row are long (c.is_late.ensures.late c.if-is_late.true are.heap)

pub returns : goal.returns
returns c = λ rows are.
    let long : c.args.most ≤ length (heap_items c.args.best.now) = omega (arith, c.if-len-most.false, c.len.ensures, c.args.best.now.data.ok.0) in
    let some = c.pop.ensures.variant.1 (omega (arith, c.if-len-most.false, c.len.ensures, c.requires)) in
    replaced_ok c.pop.result _ c.args.most rows _ _ _ c.args.row are long some c.pop.ensures.top c.pop.ensures.permutation c.pop.ensures.heap_order
    (c.is_late.ensures.early c.if-is_late.false) c.keep-2.ensures.permutation c.keep-2.ensures.heap
