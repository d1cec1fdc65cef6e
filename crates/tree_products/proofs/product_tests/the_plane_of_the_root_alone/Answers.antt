use Rattle.std.proofs.Common.{refl}
use Rattle.tree_products.proofs.product_tests.the_plane_of_the_root_alone.Goals as goal

pub make_of-requires-clause-of_ground : goal.make_of-requires-clause-of_ground
make_of-requires-clause-of_ground g c κs = record {
  plane = _;
  connect = _;
  is_ground = record { suits = tt; same = refl };
  tree_is = c.in_ok-tree.ensures;
}
