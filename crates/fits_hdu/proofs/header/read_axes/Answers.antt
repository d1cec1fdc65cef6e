use Rattle.std.proofs.Common.{refl, arith, ◌≡◌, subst}
use Rattle.fits_hdu.proofs.Stages.{AxesTo, axes_step, axes_next, axes_done}
use Rattle.fits_hdu.proofs.header.read_axes.Goals as goal

pub loop-count-preserved : goal.loop-count-preserved
loop-count-preserved g c = record {
  told = λ bytes start first count.
      let before = c.loop-count.invariant.told bytes start first count in
      axes_step bytes _ start _ _ _ _ _ _ _ before refl (c.in-Ok.ensures.told bytes start (axes_next bytes _ start _ _ _ _ before refl) (omega arith))
      c.with-axes.ensures;
  later = omega (arith, c.in-Ok.ensures.later);
}

pub returns-clause-told : goal.returns-clause-told
returns-clause-told g c = λ bytes start first count.
    let all : c.loop-count.count ≡ c.args.naxis = omega arith in
    axes_done bytes _ start _ _ _ (subst (λ k. AxesTo bytes c.args.hdu start (g.S.Source.left c.loop-count.src) k c.loop-count.axes) all
    (c.loop-count.invariant.told bytes start first count)) count
