use Rattle.std.proofs.Common.{ℕ, List, subst}
use Rattle.source_sheet.specs.declared.sheet.Place.{Place}
use Rattle.source_sheet.specs.declared.sheet.Sheet.{Sheet}
use Rattle.source_sheet.specs.Checks.{AreGoodPlaces}
use Rattle.source_sheet.proofs.Laying.{laid_out_from}
use Rattle.source_sheet.proofs.sheet.lay_out.Goals as goal

pub returns : goal.returns
returns g c =
    let sheet : Sheet = record { plane = c.in_ok-copy.copy; whole = c.shape-whole.result; places = c.in-Some-2.layout.places } in
    laid_out_from c.args.plane.now c.args.connect c.args.choice.now sheet c.in-Some.groups.pixels.items c.shape-whole.ensures.same
    (subst (λ (ps : List ℕ). AreGoodPlaces c.args.plane.now c.in_ok-copy.copy c.args.connect c.args.choice.now.threshold c.in-Some-2.layout.places.items ps)
    c.deref-2.ensures.value
    (subst (λ (places : List Place). AreGoodPlaces c.args.plane.now c.in_ok-copy.copy c.args.connect c.args.choice.now.threshold places c.deref-2.result.now)
    c.deref.ensures.value
    (c.in_ok-good.ensures c.if-not-good.false)))
    (rw c.in-Some.is at c.in_ok-groups.ensures.held)
