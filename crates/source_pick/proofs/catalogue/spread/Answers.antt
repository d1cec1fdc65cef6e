use Rattle.source_pick.proofs.CellsMeans.{spread-result, spread-read, spread-cast, difference_fits}
use Rattle.source_pick.proofs.CellsFitting.{whole_fits, apart_fits, whole_fits_signed, apart_fits_signed, square_fits, square_fits_signed}
use Rattle.source_pick.proofs.CellsFitting.{thousand_differences_fit, square_is_there, square_is_not_minus_one}
use Rattle.source_pick.proofs.catalogue.spread.Goals as goal

pub overflow_mul-whole : goal.overflow_mul-whole
overflow_mul-whole c = whole_fits c.args.area c.args.products c.args.first c.args.second c.requires

pub overflow_mul-apart : goal.overflow_mul-apart
overflow_mul-apart c = apart_fits c.args.area c.args.products c.args.first c.args.second c.requires

pub overflow_cast-above : goal.overflow_cast-above
overflow_cast-above c = whole_fits_signed c.args.area c.args.products c.args.first c.args.second c.requires

pub overflow_cast-above-2 : goal.overflow_cast-above-2
overflow_cast-above-2 c = apart_fits_signed c.args.area c.args.products c.args.first c.args.second c.requires

pub overflow_sub-above : goal.overflow_sub-above
overflow_sub-above c = difference_fits c.args.area c.args.products c.args.first c.args.second c.requires

pub overflow_mul-squared : goal.overflow_mul-squared
overflow_mul-squared c = square_fits c.args.area c.args.products c.args.first c.args.second c.requires

pub overflow_mul-above : goal.overflow_mul-above
overflow_mul-above c = thousand_differences_fit c.args.area c.args.products c.args.first c.args.second c.requires

pub overflow_cast-squared-3 : goal.overflow_cast-squared-3
overflow_cast-squared-3 c = square_fits_signed c.args.area c.args.products c.args.first c.args.second c.requires

pub div_euclid-requires-clause-nonzero : goal.div_euclid-requires-clause-nonzero
div_euclid-requires-clause-nonzero c = square_is_there c.args.area c.args.products c.args.first c.args.second c.requires

pub div_euclid-requires-clause-no_overflow : goal.div_euclid-requires-clause-no_overflow
div_euclid-requires-clause-no_overflow c = λ e f. absurd (square_is_not_minus_one c.args.area c.args.products c.args.first c.args.second c.requires e)

pub overflow_cast-result : goal.overflow_cast-result
overflow_cast-result c =
    spread-cast c.args.area c.args.products c.args.first c.args.second c.div_euclid.result c.requires
    (spread-result c.args.area c.args.products c.args.first c.args.second c.div_euclid.result c.requires c.div_euclid.ensures)

pub returns : goal.returns
returns c =
    spread-read c.args.area c.args.products c.args.first c.args.second c.div_euclid.result c.requires
    (spread-result c.args.area c.args.products c.args.first c.args.second c.div_euclid.result c.requires c.div_euclid.ensures)
