use Rattle.std.proofs.Common.{sym, subst}
use Rattle.std.specs.Prelude.{FitsSigned}
use mir.Syntax.{w64}
use Rattle.node_sums.proofs.FluxOfSums.{fits_from_sizes, product-read, flux-read, result-read}
use Rattle.node_sums.proofs.measures.above_base.Goals as goal

pub overflow_mul-result : goal.overflow_mul-result
overflow_mul-result c =
    let f = fits_from_sizes c.args.area c.args.r _ c.requires.sizes in
    subst (FitsSigned w64) (sym (product-read _ _ c.base.result _ f c.base.ensures)) f.product_fits

pub overflow_sub-result : goal.overflow_sub-result
overflow_sub-result c =
    let f = fits_from_sizes c.args.area c.args.r _ c.requires.sizes in
    subst (FitsSigned w64) (sym (flux-read _ _ c.base.result _ f c.base.ensures)) f.flux_fits

pub returns : goal.returns
returns c =
    let f = fits_from_sizes c.args.area c.args.r _ c.requires.sizes in
    result-read _ _ c.base.result _ f c.base.ensures
