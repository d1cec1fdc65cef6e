use Rattle.std.proofs.Common.{◌≡◌, All, map, ap, subst, ◌∙◌, refl, Bor, Bool, true, false}
use Rattle.std.specs.Prelude.{Any, IsTrue, MatchBool}
use Rattle.std.proofs.lemmas.List.Elements.{All-get_or}
use Rattle.std.proofs.lemmas.Option.{get_or_from_slice_get}
use Rattle.rayon.proofs.ToStd.{slice-All}
use Rattle.source_pick.specs.Sheets.{IsCopied}
use Rattle.source_sheet.specs.declared.sheet.Place.{Place}
use Rattle.source_sheet.specs.Laid.{windows_of}
use Rattle.source_sheet.proofs.checking.are_copied.Goals as goal

pub returns : goal.returns
returns g c = λ good i d l at.
    let plane = c.args.plane.now in
    let sheet = c.args.sheet.now in
    let done = c.all.ensures in
    let places = c.args.places.now in
    let shown : map (λ (z : Bor Place). z.now) done.0 ≡ places = done.1 ∙ ap (λ it. it.slice.now) c.with_min_len.ensures.base ∙ c.par_iter.ensures in
    let Says : Bool → Place → Type 0 = λ b p. IsTrue b → IsCopied plane sheet c.args.connect c.args.choice.now.threshold (windows_of p) in
    let each : All (λ (z : Bor Place). Says true z.now) done.0 =
    subst (λ b. MatchBool b (All (λ (z : Bor Place). Says true z.now) done.0) (Any (λ (z : Bor Place). Says false z.now) done.0)) good done.2 in
    subst (Says true) (get_or_from_slice_get places i d d at) (All-get_or (Says true) places i d l (slice-All done.0 places shown (Says true) each)) refl
