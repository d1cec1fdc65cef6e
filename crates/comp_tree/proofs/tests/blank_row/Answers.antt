use Rattle.std.proofs.Common.{◌*◌, arith}
use Rattle.comp_tree.proofs.Values.{bound_least}
use Rattle.comp_tree.proofs.tests.blank_row.Goals as goal

pub blank_within-requires : goal.blank_within-requires
blank_within-requires c =
    let least : _ = bound_least (c.in_ok-shape.shape.width * c.in_ok-shape.shape.height) in omega (arith, least)

pub returns-in-Ok : goal.returns-in-Ok
returns-in-Ok c =
    let least : _ = bound_least (c.in_ok-shape.shape.width * c.in_ok-shape.shape.height) in omega (arith, least, c.in-Ok.ensures.most)
