use Rattle.std.proofs.Common.{◌∙◌, ap}
use Rattle.comp_tree.specs.Raster.{Raster}
use Rattle.comp_tree.specs.Components.{tree_of}
use Rattle.tree_products.proofs.Exported.{made_of_image}
use Rattle.detect_top.proofs.making.make.Goals as goal

pub make_of-requires-clause-of_ground : goal.make_of-requires-clause-of_ground
make_of-requires-clause-of_ground g c κs within = record {
  plane = _;
  connect = c.args.order.connect;
  is_ground = c.in_ok-on.ensures;
  tree_is = c.in_ok-tree.ensures ∙ ap (λ (r : Raster). tree_of r c.args.order.connect) c.plane.ensures;
}

pub returns-clause-bytes : goal.returns-clause-bytes
returns-clause-bytes g c =
    made_of_image c.args.order c.args.image _ _ _ _ c.make_of.result c.in_ok-residual.ensures c.in_ok-on.ensures c.plane.ensures
    c.in_ok-tree.ensures c.make_of.ensures.bytes
