use Rattle.std.proofs.Common.{rules, ◌∙◌, sym, ap, subst, map}
use Rattle.tree_canon.specs.Canonical.{loose_row}
use Rattle.tree_canon.specs.Places.{ArePixelsFrom}
use Rattle.tree_canon.proofs.Sorting.{canonical-pixels, canonical-in_order}
use Rattle.tree_canon.proofs.nodes.number_by_order.Goals as goal

pub sorted_rows-requires : goal.sorted_rows-requires
sorted_rows-requires g c = (search rules, subst (ArePixelsFrom c.args.plane.now 0) (sym c.requires.canonical) (canonical-pixels c.args.plane.now c.args.links.now))

pub number_pixels-requires-clause-canonical : goal.number_pixels-requires-clause-canonical
number_pixels-requires-clause-canonical g c =
    c.deref.ensures.value ∙ c.in_ok-rows.ensures
    ∙ ap (map (loose_row c.args.plane.now)) (canonical-in_order c.args.plane.now c.args.links.now c.args.pixels.now c.requires.canonical)

pub returns-clause-rows : goal.returns-clause-rows
returns-clause-rows g c =
    c.in_ok-rows.ensures ∙ ap (map (loose_row c.args.plane.now)) (canonical-in_order c.args.plane.now c.args.links.now c.args.pixels.now c.requires.canonical)
