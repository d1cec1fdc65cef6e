use Rattle.std.proofs.Common.{◌≡◌, ◌*◌, ◌+◌, length, refl, ◌∙◌, subst, arith}
use Rattle.node_sums.specs.Merging.{AreOwnTo}
use Rattle.node_sums.specs.OutlinePasses.{AreOutlinesOf}
use Rattle.node_sums.proofs.Passes.{all_rows}
use Rattle.node_sums.proofs.OutlineSteps.{outlines_start, outlines_all, outlines_range}
use Rattle.node_sums.proofs.outline.add_pixels.Goals as goal

pub loop-row-init : goal.loop-row-init
loop-row-init c = record {
  own = outlines_start c.args.plane.now c.args.node_of.now (0 * c.shape-shape.result.width) c.args.outlines.now (omega arith) c.requires.none;
  same_length = refl;
}

pub loop-row-preserved : goal.loop-row-preserved
loop-row-preserved c = record {
  own = subst (λ n. AreOutlinesOf (AreOwnTo c.args.plane.now c.args.node_of.now n) c.add_row.new.outlines)
      (let e : c.loop-row.row * c.shape-shape.result.width + c.shape-shape.result.width ≡ (c.loop-row.row + 1) * c.shape-shape.result.width = omega arith in e)
      c.add_row.ensures;
  same_length = c.add_row.auto.outlines ∙ c.loop-row.invariant.same_length;
}

pub returns-clause-own : goal.returns-clause-own
returns-clause-own c =
    outlines_all c.args.plane.now c.args.node_of.now _ c.loop-row.outlines
    (all_rows c.loop-row.row c.shape-shape.result.height c.shape-shape.result.width (length c.args.plane.now.values) c.loop-row.auto.row-end
    c.loop-row-test.false c.shape-shape.ensures.pixels)
    c.loop-row.invariant.own

pub returns-clause-in_range : goal.returns-clause-in_range
returns-clause-in_range c =
    outlines_range c.args.plane.now c.args.node_of.now _ c.loop-row.outlines
    (all_rows c.loop-row.row c.shape-shape.result.height c.shape-shape.result.width (length c.args.plane.now.values) c.loop-row.auto.row-end
    c.loop-row-test.false c.shape-shape.ensures.pixels)
    c.loop-row.invariant.own
