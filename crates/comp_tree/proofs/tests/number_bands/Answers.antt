use Rattle.std.proofs.Common.{◌≡◌, ◌^◌, length, arith}
use Rattle.comp_tree.specs.Limits.{value_bound}
use Rattle.comp_tree.specs.Raster.{HasValuesWithin}
use Rattle.comp_tree.proofs.Values.{usual_bound, within_more}
use Rattle.comp_tree.proofs.Bands.{in_range-band}
use Rattle.comp_tree.proofs.tests.number_bands.Goals as goal

pub change_bands-requires-clause-accepts : goal.change_bands-requires-clause-accepts
change_bands-requires-clause-accepts g c = λ κs within start p chunk. (
  omega (arith, chunk.nonempty, chunk.in_bounds, c.shape.ensures.pixels, c.pixels-count.ensures.product, c.if-count.false),
  in_range-band c.args.most c.args.plane.now.values p.now c.args.size start
      (let all : HasValuesWithin c.args.most c.args.plane.now.values =
      λ q v e. within_more c.most.result c.args.most v c.if-most.false (c.most.ensures.within q v e) in all)
      chunk,
  c.requires.room,
)

pub change_bands-requires-clause-bounded : goal.change_bands-requires-clause-bounded
change_bands-requires-clause-bounded g c κs within =
    let is : value_bound (length c.args.plane.now.values) ≡ 2 ^ 37 =
    usual_bound (length c.args.plane.now.values) (omega (arith, c.shape.ensures.pixels, c.pixels-count.ensures.product, c.if-count.false)) in
    omega (arith, is, c.requires.bounded)
