use Rattle.std.proofs.Common.{sym, ap, subst}
use Rattle.comp_tree.specs.declared.shape.Shape.{Shape}
use Rattle.source_sheet.specs.Checks.{LieInBoth}
use Rattle.source_sheet.proofs.Apart.{apart_from}
use Rattle.source_sheet.proofs.checking.are_apart.Goals as goal

pub mark_windows-apart-requires-clause-placed : goal.mark_windows-apart-requires-clause-placed
mark_windows-apart-requires-clause-placed c =
    subst (λ (x : Shape). LieInBoth x c.shape-onto.result c.args.places.now) (sym c.shape-whole.ensures.same)
    (subst (λ (x : Shape). LieInBoth c.args.plane.now.shape x c.args.places.now) (sym c.shape-onto.ensures.same) c.requires)

pub returns : goal.returns
returns c = λ k.
    apart_from c.args.sheet.now c.shape-onto.result.width c.args.places.now c.mark_windows-apart.new.marks (ap (λ (x : Shape). x.width) c.shape-onto.ensures.same)
    (c.mark_windows-apart.ensures k)
