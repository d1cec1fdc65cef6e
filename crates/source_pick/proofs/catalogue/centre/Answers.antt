use Rattle.source_pick.proofs.CellsMeans.{centre-without, centre-with, centre-read, centre-cast}
use Rattle.source_pick.proofs.CellsFitting.{widened, thousand_sums_fit, mean_fits, thousand_moments_read_fit, flux_is_there, flux_is_not_minus_one}
use Rattle.source_pick.proofs.catalogue.centre.Goals as goal

pub overflow_mul-result : goal.overflow_mul-result
overflow_mul-result c = thousand_sums_fit c.args.moment c.args.sum c.args.flux c.args.area c.requires

pub nonzero_div-result : goal.nonzero_div-result
nonzero_div-result c = c.requires.some

pub overflow_cast-result-then-flux-eq0 : goal.overflow_cast-result-then-flux-eq0
overflow_cast-result-then-flux-eq0 c = mean_fits c.args.moment c.args.sum c.args.flux c.args.area c.requires

pub returns-then-flux-eq0 : goal.returns-then-flux-eq0
returns-then-flux-eq0 c = centre-without c.args.moment c.args.sum c.args.flux c.args.area c.requires c.if-flux-eq0.true

pub overflow_mul-moment : goal.overflow_mul-moment
overflow_mul-moment c = thousand_moments_read_fit c.args.moment c.args.sum c.args.flux c.args.area c.requires c.ranges.moment

pub overflow_cast-flux : goal.overflow_cast-flux
overflow_cast-flux c = widened c.args.flux c.ranges.flux

pub div_euclid-requires-clause-nonzero : goal.div_euclid-requires-clause-nonzero
div_euclid-requires-clause-nonzero c =
    flux_is_there c.args.moment c.args.sum c.args.flux c.args.area c.requires c.ranges.flux c.if-flux-eq0.false

pub div_euclid-requires-clause-no_overflow : goal.div_euclid-requires-clause-no_overflow
div_euclid-requires-clause-no_overflow c = λ e f.
    absurd (flux_is_not_minus_one c.args.moment c.args.sum c.args.flux c.args.area c.requires c.ranges.flux e)

pub overflow_cast-result-2 : goal.overflow_cast-result-2
overflow_cast-result-2 c =
    centre-cast c.args.moment c.args.sum c.args.flux c.args.area c.div_euclid.result c.requires
    (centre-with c.args.moment c.args.sum c.args.flux c.args.area c.div_euclid.result c.requires c.if-flux-eq0.false c.ranges.flux c.ranges.moment
    c.div_euclid.ensures)

pub returns : goal.returns
returns c =
    centre-read c.args.moment c.args.sum c.args.flux c.args.area c.div_euclid.result c.requires
    (centre-with c.args.moment c.args.sum c.args.flux c.args.area c.div_euclid.result c.requires c.if-flux-eq0.false c.ranges.flux c.ranges.moment
    c.div_euclid.ensures)
