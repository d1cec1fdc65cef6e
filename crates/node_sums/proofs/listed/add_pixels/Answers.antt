use Rattle.std.proofs.Common.{◌≡◌, ◌+◌, ◌*◌, ◌∙◌, length, refl, subst, arith}
use Rattle.node_sums.specs.Merging.{AreOwnTo, places_of}
use Rattle.node_sums.proofs.Passes
use Rattle.node_sums.proofs.listed.add_pixels.Goals as goal

pub returns-clause-own : goal.returns-clause-own
returns-clause-own c =
    Passes.own_all c.args.plane.now (places_of c.args.numbers.now c.args.node_of.now) _ c.loop-row.sums
    (Passes.all_rows c.loop-row.row c.shape-shape.result.height c.shape-shape.result.width (length c.args.plane.now.values) c.loop-row.auto.row-end
    c.loop-row-test.false c.shape-shape.ensures.pixels)
    c.loop-row.invariant.own.own

pub returns-clause-in_range : goal.returns-clause-in_range
returns-clause-in_range c =
    let all =
    Passes.all_rows c.loop-row.row c.shape-shape.result.height c.shape-shape.result.width (length c.args.plane.now.values) c.loop-row.auto.row-end
    c.loop-row-test.false c.shape-shape.ensures.pixels in
    Passes.range_from_small c.args.plane.now (c.loop-row.row * c.shape-shape.result.width) (omega (arith, all)) c.loop-row.invariant.own.small

pub loop-row-init : goal.loop-row-init
loop-row-init c = record {
  own = subst (λ n. AreOwnTo c.args.plane.now (places_of c.args.numbers.now c.args.node_of.now) n c.args.sums.now)
      (let e : 0 ≡ 0 * c.shape-shape.result.width = omega arith in e)
      (record { own = c.requires.none; small = λ q l. absurd (omega arith) });
  same_length = refl;
}

pub loop-row-preserved : goal.loop-row-preserved
loop-row-preserved c = record {
  own = subst (λ n. AreOwnTo c.args.plane.now (places_of c.args.numbers.now c.args.node_of.now) n c.add_row.new.sums)
      (let e : c.loop-row.row * c.shape-shape.result.width + c.shape-shape.result.width ≡ (c.loop-row.row + 1) * c.shape-shape.result.width = omega arith in e)
      c.add_row.ensures;
  same_length = c.add_row.auto.sums ∙ c.loop-row.invariant.same_length;
}
