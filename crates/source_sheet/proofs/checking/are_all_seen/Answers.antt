use Rattle.std.proofs.Common.{below_more, arith}
use Rattle.std.specs.Prelude.{IsTrue}
use Rattle.comp_tree.specs.Raster.{is_defined}
use Rattle.source_sheet.specs.Laid.{window_at}
use Rattle.source_sheet.specs.Checks.{IsInWindow}
use Rattle.source_sheet.proofs.Copies.{all_by_place}
use Rattle.source_sheet.proofs.checking.are_all_seen.Goals as goal

pub is_seen_or_undefined-requires : goal.is_seen_or_undefined-requires
is_seen_or_undefined-requires c = c.requires c.loop-a.a-index 0 c.loop-a-test.true

pub loop-a-preserved : goal.loop-a-preserved
loop-a-preserved c = below_more _ _ c.loop-a.invariant (c.is_seen_or_undefined.ensures c.if-not-is_seen_or_undefined.false)

pub returns : goal.returns
returns c = λ _. all_by_place
    (λ a. IsTrue (is_defined c.args.plane.now a) → IsInWindow c.args.plane.now.shape.width (window_at c.args.left c.args.top c.args.shape) a)
    c.args.near.now (λ k l. c.loop-a.invariant k (omega (arith, c.loop-a-test.false)))
