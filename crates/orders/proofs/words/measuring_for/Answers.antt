use Rattle.std.proofs.Common.{◌∙◌, ◌≢◌, ap, sym, subst, refl, w64, SFits, rules}
use Rattle.std.specs.Prelude.{Some, None}
use Rattle.std.proofs.lemmas.Int.{to_z-of_z}
use Rattle.source_pick.specs.declared.choice.Choice.{Choice}
use Rattle.orders.specs.declared.options.Setting.TheVariants.{Values}
use Rattle.orders.specs.declared.words.Job.TheVariants.{Measure}
use Rattle.command_line.specs.Lines.{texts}
use Rattle.orders.specs.Options.{u16_in, threshold_in}
use Rattle.orders.specs.Words.{given, choice_given}
use Rattle.orders.proofs.Places.{given_by, measuring_by, one_hdu, two_hdus}
use Rattle.orders.proofs.words.measuring_for.Goals as goal

pub returns-in_default : goal.returns-in_default
returns-in_default c =
    let words = texts c.args.words.now in
    measuring_by c.args.most words c.args.pairs None (given u16_in words c.args.pairs Values) (given_by _ None threshold_in _ c.value.ensures c.in_default.ensures) refl

pub returns-in_default-and_then : goal.returns-in_default-and_then
returns-in_default-and_then c =
    measuring_by c.args.most (texts c.args.words.now) c.args.pairs (Some c.in-Some.threshold) None
    (given_by _ (Some c.in-Some.threshold) threshold_in _ c.value.ensures c.in-Some.ensures)
    (given_by _ None u16_in _ c.value-2.ensures c.in_default-and_then.ensures)

pub returns-then-values-hdu_for : goal.returns-then-values-hdu_for
returns-then-values-hdu_for c =
    sym (one_hdu _ _ c.in-Some-and_then.values (c.if-values-hdu_for.true ∙ c.hdu_for.ensures))
    ∙ measuring_by c.args.most (texts c.args.words.now) c.args.pairs (Some c.in-Some.threshold) (Some c.in-Some-and_then.values)
    (given_by _ (Some c.in-Some.threshold) threshold_in _ c.value.ensures c.in-Some.ensures)
    (given_by _ (Some c.in-Some-and_then.values) u16_in _ c.value-2.ensures c.in-Some-and_then.ensures)

pub returns : goal.returns
returns c =
    let fits : SFits w64 c.in-Some.threshold = search rules in
    let apart = subst (λ h. c.in-Some-and_then.values ≢ h) c.hdu_for.ensures c.if-values-hdu_for.false in
    ap (λ (choice : Choice). Some (Measure choice c.in-Some-and_then.values))
    (c.choice_for-choice.ensures ∙ ap (choice_given c.args.most (texts c.args.words.now) c.args.pairs) (to_z-of_z w64 c.in-Some.threshold fits))
    ∙ sym (two_hdus _ _ c.in-Some-and_then.values apart)
    ∙ measuring_by c.args.most (texts c.args.words.now) c.args.pairs (Some c.in-Some.threshold) (Some c.in-Some-and_then.values)
    (given_by _ (Some c.in-Some.threshold) threshold_in _ c.value.ensures c.in-Some.ensures)
    (given_by _ (Some c.in-Some-and_then.values) u16_in _ c.value-2.ensures c.in-Some-and_then.ensures)
