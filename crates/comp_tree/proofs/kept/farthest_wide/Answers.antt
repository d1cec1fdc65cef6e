use Rattle.std.proofs.Common.{◌≡◌, ◌∙◌, arith}
use Rattle.std.specs.Prelude.{None}
use Rattle.std.proofs.lemmas.List.{get_or_default}
use Rattle.comp_tree.specs.Raster.{value_at}
use Rattle.comp_tree.proofs.Runs.{first_farther, least_farther, first_all}
use Rattle.comp_tree.proofs.kept.farthest_wide.Goals as goal

pub loop-k-preserved : goal.loop-k-preserved
loop-k-preserved c =
    let read : c.index-pixels-k.result ≡ value_at c.args.pixels.now c.loop-k.k = c.index-pixels-k.is ∙ get_or_default c.args.pixels.now c.loop-k.k c.index-pixels-k.result None c.loop-k-test.true in
    record {
      within = first_farther c.loop-k.k c.loop-k.distance c.distance.result c.max-distance.result c.args.pixels.now c.index-pixels-k.result read
          c.max-distance.ensures c.loop-k.invariant.within c.distance.ensures.within;
      least = least_farther c.loop-k.k c.loop-k.distance c.distance.result c.max-distance.result c.args.pixels.now c.index-pixels-k.result read
          c.max-distance.ensures c.loop-k.invariant.least c.distance.ensures.least;
    }

pub returns-clause-within : goal.returns-clause-within
returns-clause-within c =
    first_all c.loop-k.k c.loop-k.distance c.args.pixels.now c.loop-k.invariant.within (omega (arith, c.loop-k-test.false))
