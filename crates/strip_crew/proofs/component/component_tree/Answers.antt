use Rattle.std.proofs.Common.{ℕ, List, subst, sym, arith}
use Rattle.comp_tree.specs.declared.shape.Shape.{Shape}
use Rattle.strip_crew.specs.Run.{HasShortStrips}
use Rattle.strip_crew.proofs.EvenCuts.{short_cut}
use Rattle.strip_crew.proofs.component.component_tree.Goals as goal

pub flood_all-requires-clause-short : goal.flood_all-requires-clause-short
flood_all-requires-clause-short g c κs within =
    let s : Shape = c.shape-shape.result in
    subst (λ (rows : List ℕ). HasShortStrips c.args.plane.now.shape.width c.args.plane.now.shape.height rows) (sym c.deref.ensures.value)
    (subst (λ (t : Shape). HasShortStrips t.width t.height c.in_ok-cut.cut.items) c.shape-shape.ensures.same
    (short_cut s.width s.height c.least_strips.result c.max.result c.in_ok-cut.cut.items s.within_limits.some_columns s.within_limits.few_columns
    s.within_limits.some_rows c.least_strips.ensures.enough (omega (arith, c.max.ensures)) c.in_ok-cut.ensures.even))
