use Rattle.std.proofs.Common.{◌∙◌, Some, SFits, ap, sym, rules, arith}
use Rattle.std.proofs.lemmas.Int.{to_z-of_z}
use mir.Syntax.{w32}
use Rattle.fits_hdu.proofs.Heads.{caused_more}
use Rattle.fits_hdu.proofs.header.read_mandatory.Goals as goal

pub returns-in-Err-clause-told : goal.returns-in-Err-clause-told
returns-in-Err-clause-told g c = c.in-Err.ensures.told

pub returns-in-Err-clause-cause : goal.returns-in-Err-clause-cause
returns-in-Err-clause-cause g c = c.in-Err.ensures.cause

pub returns-in-Err-read_bitpix-clause-told : goal.returns-in-Err-read_bitpix-clause-told
returns-in-Err-read_bitpix-clause-told g c = λ bytes start takes.
    let first = c.in-Ok.ensures.told bytes start takes in
    c.in-Err-read_bitpix.ensures.told bytes start first.reached

pub returns-in-Err-read_bitpix-clause-cause : goal.returns-in-Err-read_bitpix-clause-cause
returns-in-Err-read_bitpix-clause-cause g c =
    caused_more _ _ _ _ c.in-Err-read_bitpix.stop (λ x. absurd x) (omega (arith, c.read_first.ensures.later)) c.in-Err-read_bitpix.ensures.cause

pub returns-in-Err-read_bitpix-clause-later : goal.returns-in-Err-read_bitpix-clause-later
returns-in-Err-read_bitpix-clause-later g c = omega (arith, c.read_first.ensures.later, c.read_bitpix.ensures.later)

pub returns-in-Err-read_naxis-clause-told : goal.returns-in-Err-read_naxis-clause-told
returns-in-Err-read_naxis-clause-told g c = λ bytes start takes.
    let first = c.in-Ok.ensures.told bytes start takes in
    let second = c.in-Ok-read_bitpix.ensures.told bytes start first.reached in
    c.in-Err-read_naxis.ensures.told bytes start second.reached

pub returns-in-Err-read_naxis-clause-cause : goal.returns-in-Err-read_naxis-clause-cause
returns-in-Err-read_naxis-clause-cause g c =
    caused_more _ _ _ _ c.in-Err-read_naxis.stop (λ x. absurd x)
    (omega (arith, c.read_first.ensures.later, c.read_bitpix.ensures.later)) c.in-Err-read_naxis.ensures.cause

pub returns-in-Err-read_naxis-clause-later : goal.returns-in-Err-read_naxis-clause-later
returns-in-Err-read_naxis-clause-later g c = omega (arith, c.read_first.ensures.later, c.read_bitpix.ensures.later, c.read_naxis.ensures.later)

pub returns-in-Err-read_axes-clause-told : goal.returns-in-Err-read_axes-clause-told
returns-in-Err-read_axes-clause-told g c = λ bytes start takes.
    let first = c.in-Ok.ensures.told bytes start takes in
    let second = c.in-Ok-read_bitpix.ensures.told bytes start first.reached in
    let third = c.in-Ok-read_naxis.ensures.told bytes start second.reached in
    c.in-Err-read_axes.ensures.told bytes start third.reached third.naxis_is

pub returns-in-Err-read_axes-clause-cause : goal.returns-in-Err-read_axes-clause-cause
returns-in-Err-read_axes-clause-cause g c =
    caused_more _ _ _ _ c.in-Err-read_axes.stop (λ x. absurd x)
    (omega (arith, c.read_first.ensures.later, c.read_bitpix.ensures.later, c.read_naxis.ensures.later)) c.in-Err-read_axes.ensures.cause

pub returns-in-Err-read_axes-clause-later : goal.returns-in-Err-read_axes-clause-later
returns-in-Err-read_axes-clause-later g c =
    omega (arith, c.read_first.ensures.later, c.read_bitpix.ensures.later, c.read_naxis.ensures.later, c.read_axes.ensures.later)

pub returns-in-Ok-read_axes-clause-told : goal.returns-in-Ok-read_axes-clause-told
returns-in-Ok-read_axes-clause-told g c = λ bytes start takes.
    let first = c.in-Ok.ensures.told bytes start takes in
    let second = c.in-Ok-read_bitpix.ensures.told bytes start first.reached in
    let third = c.in-Ok-read_naxis.ensures.told bytes start second.reached in
    let last = c.in-Ok-read_axes.ensures.told bytes start third.reached third.naxis_is in
    let bitpix : SFits w32 c.in-Ok-read_bitpix.bitpix = search rules in
    record {
      reached = last.reached;
      image_is = first.image_is;
      bitpix_is = second.bitpix_is ∙ ap Some (sym (to_z-of_z w32 c.in-Ok-read_bitpix.bitpix bitpix));
      naxis_is = third.naxis_is;
      few = third.few;
      axes_are = last.axes_are;
    }

pub returns-in-Ok-read_axes-clause-later : goal.returns-in-Ok-read_axes-clause-later
returns-in-Ok-read_axes-clause-later g c =
    omega (arith, c.read_first.ensures.later, c.read_bitpix.ensures.later, c.read_naxis.ensures.later, c.read_axes.ensures.later)
