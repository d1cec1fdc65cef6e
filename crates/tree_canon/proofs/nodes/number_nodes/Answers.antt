use Rattle.std.proofs.Common.{sym, subst, arith}
use Rattle.tree_canon.specs.Places.{ArePixelsFrom}
use Rattle.tree_canon.proofs.Sorting.{canonical-pixels}
use Rattle.tree_canon.proofs.Numbering.{found_few}
use Rattle.tree_canon.proofs.nodes.number_nodes.Goals as goal

pub of-span-requires : goal.of-span-requires
of-span-requires g c = subst (ArePixelsFrom c.args.plane.now 0) (sym c.requires.canonical) (canonical-pixels c.args.plane.now c.args.links.now)

pub is_narrow-requires-clause-few : goal.is_narrow-requires-clause-few
is_narrow-requires-clause-few g c =
    omega (arith, found_few c.args.plane.now c.args.links.now c.args.pixels.now c.requires.one_each c.requires.canonical, c.requires.few)
