use Rattle.std.proofs.Common.{◌≤◌, ◌<◌, ◌+◌, ◌*◌, ◌⊎◌, inl, inr, ap, ◌∙◌, subst, ℕ, arith}
use Rattle.std.proofs.lemmas.Bool.{cases_lt}
use Rattle.source_pick.specs.Clearing.{columns_beside}
use Rattle.source_pick.proofs.LocalityAround.{IsPartOfRow, part_of_row}
use Rattle.source_pick.proofs.LocalityNearing.{around_none, around_more, around_all}
use Rattle.source_pick.proofs.clearing.mark_around.Goals as goal

pub loop-row-init : goal.loop-row-init
loop-row-init c =
    around_none c.args.connect c.args.shape.width c.args.x c.args.y c.args.start c.saturating_sub-row.result c.args.marks.now c.requires.column
    c.saturating_sub-row.ensures

pub loop-row-preserved : goal.loop-row-preserved
loop-row-preserved c =
    around_more c.args.connect c.args.shape.width c.args.x c.args.y c.args.start c.loop-row.row _ _ c.args.marks.now c.loop-row.marks c.mark_between.new.marks
    c.requires.column
    (omega (arith, c.loop-row.auto.row, c.saturating_sub-row.ensures)) (omega (arith, c.loop-row-test.true, c.min-end.ensures))
    (subst (λ (side : ℕ). IsPartOfRow c.args.shape.width c.args.x side c.loop-row.row (c.loop-row.row * c.args.shape.width + c.saturating_sub.result)
    (c.loop-row.row * c.args.shape.width + c.min.result))
    (c.columns_beside-side.ensures.exact ∙ ap (columns_beside c.args.connect) c.distance.ensures)
    (part_of_row c.args.shape.width c.args.x c.columns_beside-side.result c.loop-row.row c.saturating_sub.result c.min.result c.saturating_sub.ensures
    c.min.ensures))
    c.loop-row.invariant c.mark_between.ensures

pub returns : goal.returns
returns c =
    around_all c.args.connect c.args.shape.width c.args.shape.height c.args.x c.args.y c.args.start c.loop-row.row c.args.marks.now c.loop-row.marks
    c.requires.column
    (go (cases_lt (c.args.y + 2) c.args.shape.height)) c.loop-row.invariant
  where
    go : (c.args.y + 2 < c.args.shape.height) ⊎ (c.args.shape.height ≤ c.args.y + 2) → (c.args.y + 2 ≤ c.loop-row.row) ⊎ (c.args.shape.height ≤ c.loop-row.row)
    go (inl l) = inl (omega (arith, l, c.min-end.ensures, c.loop-row-test.false))
    go (inr l) = inr (omega (arith, l, c.min-end.ensures, c.loop-row-test.false))
