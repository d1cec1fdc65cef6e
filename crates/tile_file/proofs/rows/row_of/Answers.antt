use Rattle.std.proofs.Common.{◌≡◌, ◌∙◌, sym, length, rules}
use Rattle.tile_file.proofs.CatalogueCells.{same_moved, moved_fits, same_values, values_fit, one_row_each}
use Rattle.tile_file.proofs.rows.row_of.Goals as goal

pub returns-clause-cells : goal.returns-clause-cells
returns-clause-cells c =
    let many : length c.args.numbers.now ≡ 17 = search rules in
    same_values c.args.numbers.now many (same_moved c.value_of.ensures.fits c.value_of.ensures.same) (same_moved c.value_of-2.ensures.fits c.value_of-2.ensures.same) (same_moved c.value_of-3.ensures.fits c.value_of-3.ensures.same) (same_moved c.value_of-4.ensures.fits c.value_of-4.ensures.same) (same_moved c.value_of-5.ensures.fits c.value_of-5.ensures.same) (same_moved c.value_of-6.ensures.fits c.value_of-6.ensures.same) (same_moved c.value_of-7.ensures.fits c.value_of-7.ensures.same) (same_moved c.value_of-8.ensures.fits c.value_of-8.ensures.same) (same_moved c.value_of-9.ensures.fits c.value_of-9.ensures.same) (same_moved c.value_of-10.ensures.fits c.value_of-10.ensures.same) (same_moved c.value_of-11.ensures.fits c.value_of-11.ensures.same) (same_moved c.value_of-12.ensures.fits c.value_of-12.ensures.same) (same_moved c.value_of-13.ensures.fits c.value_of-13.ensures.same) (same_moved c.value_of-14.ensures.fits c.value_of-14.ensures.same) (same_moved c.value_of-15.ensures.fits c.value_of-15.ensures.same) (same_moved c.value_of-16.ensures.fits c.value_of-16.ensures.same) (same_moved c.value_of-17.ensures.fits c.value_of-17.ensures.same)

pub returns-clause-only : goal.returns-clause-only
returns-clause-only c =
    let many : length c.args.numbers.now ≡ 17 = search rules in
    λ row is. one_row_each _ row
    (same_values c.args.numbers.now many (same_moved c.value_of.ensures.fits c.value_of.ensures.same) (same_moved c.value_of-2.ensures.fits c.value_of-2.ensures.same) (same_moved c.value_of-3.ensures.fits c.value_of-3.ensures.same) (same_moved c.value_of-4.ensures.fits c.value_of-4.ensures.same) (same_moved c.value_of-5.ensures.fits c.value_of-5.ensures.same) (same_moved c.value_of-6.ensures.fits c.value_of-6.ensures.same) (same_moved c.value_of-7.ensures.fits c.value_of-7.ensures.same) (same_moved c.value_of-8.ensures.fits c.value_of-8.ensures.same) (same_moved c.value_of-9.ensures.fits c.value_of-9.ensures.same) (same_moved c.value_of-10.ensures.fits c.value_of-10.ensures.same) (same_moved c.value_of-11.ensures.fits c.value_of-11.ensures.same) (same_moved c.value_of-12.ensures.fits c.value_of-12.ensures.same) (same_moved c.value_of-13.ensures.fits c.value_of-13.ensures.same) (same_moved c.value_of-14.ensures.fits c.value_of-14.ensures.same) (same_moved c.value_of-15.ensures.fits c.value_of-15.ensures.same) (same_moved c.value_of-16.ensures.fits c.value_of-16.ensures.same) (same_moved c.value_of-17.ensures.fits c.value_of-17.ensures.same) ∙ sym is)

pub returns-clause-whole : goal.returns-clause-whole
returns-clause-whole c = values_fit (moved_fits c.value_of.ensures.fits) (moved_fits c.value_of-2.ensures.fits) (moved_fits c.value_of-3.ensures.fits) (moved_fits c.value_of-4.ensures.fits) (moved_fits c.value_of-5.ensures.fits) (moved_fits c.value_of-6.ensures.fits) (moved_fits c.value_of-7.ensures.fits) (moved_fits c.value_of-8.ensures.fits) (moved_fits c.value_of-9.ensures.fits) (moved_fits c.value_of-10.ensures.fits) (moved_fits c.value_of-11.ensures.fits) (moved_fits c.value_of-12.ensures.fits) (moved_fits c.value_of-13.ensures.fits) (moved_fits c.value_of-14.ensures.fits) (moved_fits c.value_of-15.ensures.fits) (moved_fits c.value_of-16.ensures.fits) (moved_fits c.value_of-17.ensures.fits)
