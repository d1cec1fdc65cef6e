use Rattle.std.proofs.Common.{subst}
use Rattle.comp_tree.specs.declared.shape.Shape.{Shape}
use Rattle.comp_tree.specs.Windows.{IsInside}
use Rattle.source_sheet.specs.Laid.{windows_of}
use Rattle.source_sheet.proofs.Copies.{copied_from}
use Rattle.source_sheet.proofs.checking.is_copied.Goals as goal

pub returns-then-lies_inside : goal.returns-then-lies_inside
returns-then-lies_inside c = λ k.
    let inside : _ = c.lies_inside.ensures c.if-lies_inside.true in
    copied_from c.args.plane.now c.args.sheet.now c.args.connect c.args.choice.now.threshold c.args.place.now
    (subst (λ (x : Shape). IsInside x (windows_of c.args.place.now).from) c.shape.ensures.same inside.from)
    (subst (λ (x : Shape). IsInside x (windows_of c.args.place.now).to) c.shape-2.ensures.same inside.to)
    (c.are_rows_copied.ensures k)
