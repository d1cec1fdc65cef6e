use Rattle.std.proofs.Common.{arith}
use Rattle.comp_tree.proofs.Runs.{first_farther, least_farther, first_all}
use Rattle.comp_tree.proofs.pixels.Pixels.farthest_of_each.Goals as goal

pub loop-p-preserved : goal.loop-p-preserved
loop-p-preserved c = record {
  within = first_farther c.loop-p.p c.loop-p.distance c.distance.result c.max-distance.result c.args.self.now c.pixel.result c.pixel.ensures
      c.max-distance.ensures c.loop-p.invariant.within c.distance.ensures.within;
  least = least_farther c.loop-p.p c.loop-p.distance c.distance.result c.max-distance.result c.args.self.now c.pixel.result c.pixel.ensures
      c.max-distance.ensures c.loop-p.invariant.least c.distance.ensures.least;
}

pub returns-clause-within : goal.returns-clause-within
returns-clause-within c =
    first_all c.loop-p.p c.loop-p.distance c.args.self.now c.loop-p.invariant.within (omega (arith, c.len-count.ensures, c.loop-p-test.false))
