use Rattle.std.proofs.Common.{◌≡◌, ℕ, ◌*◌, List, length, sym, subst, ◌∙◌, arith, zero-mul}
use Rattle.std.proofs.lemmas.List.{take_rest}
use Rattle.comp_tree.specs.Joined.{Or}
use Rattle.comp_tree.specs.Forest.{IsForest, IsLink, JoinSame}
use Rattle.strip_crew.specs.Run.{plan_of}
use Rattle.strip_crew.specs.Boundaries.{AreRows, AreApart, IsRowsPair}
use Rattle.strip_crew.proofs.Copying.{plan_is, copied_all}
use Rattle.strip_crew.proofs.Apart.{cut_rows, cut_apart, cut_stands}
use Rattle.strip_crew.proofs.cut.join_cut.Goals as goal

pub join_group-requires-clause-rows : goal.join_group-requires-clause-rows
join_group-requires-clause-rows g c κs within =
    let plane = c.args.plane.now in let cut = c.args.cut.now in let links = c.args.links.now in let is =
    plan_is plane c.args.connect cut c.shape-shape.result c.shape-shape.ensures.same c.shape-shape.ensures.pixels c.requires.cut in
    subst (λ (l : List ℕ). AreRows plane.shape.width 0 (length links) l) (sym (take_rest cut 1))
    (cut_rows (plan_of plane c.args.connect cut) is links c.requires.copied)

pub join_group-requires-clause-apart : goal.join_group-requires-clause-apart
join_group-requires-clause-apart g c κs within =
    let plane = c.args.plane.now in let cut = c.args.cut.now in let links = c.args.links.now in let is =
    plan_is plane c.args.connect cut c.shape-shape.result c.shape-shape.ensures.same c.shape-shape.ensures.pixels c.requires.cut in
    subst (λ (l : List ℕ). AreApart plane.shape.width (0 * plane.shape.width) links l) (sym (take_rest cut 1))
    (cut_apart (plan_of plane c.args.connect cut) is links c.requires.copied)

pub returns-clause-stands : goal.returns-clause-stands
returns-clause-stands g c =
    let plane = c.args.plane.now in let cut = c.args.cut.now in let links = c.args.links.now in let is =
    plan_is plane c.args.connect cut c.shape-shape.result c.shape-shape.ensures.same c.shape-shape.ensures.pixels c.requires.cut in
    let new = c.join_group.new.parents in let first : ℕ = 0 * plane.shape.width in
    cut_stands (plan_of plane c.args.connect cut) is links c.requires.copied new c.join_group.auto.parents c.join_group.ensures.forest
    (subst (λ (l : List ℕ). JoinSame plane.values first (length links) (IsLink first new)
    (Or (IsLink first links) (IsRowsPair plane.values plane.shape.width c.args.connect l))) (take_rest cut 1) c.join_group.ensures.joined)

pub join_group-requires-clause-fits : goal.join_group-requires-clause-fits
join_group-requires-clause-fits g c κs within =
    let plane = c.args.plane.now in let cut = c.args.cut.now in let links = c.args.links.now in let is =
    plan_is plane c.args.connect cut c.shape-shape.result c.shape-shape.ensures.same c.shape-shape.ensures.pixels c.requires.cut in
    let all : length links ≡ length plane.values = copied_all (plan_of plane c.args.connect cut) is links c.requires.copied in
    omega (arith, all, zero-mul plane.shape.width)

pub join_group-requires-clause-forest : goal.join_group-requires-clause-forest
join_group-requires-clause-forest g c κs within =
    let plane = c.args.plane.now in
    subst (λ (n : ℕ). IsForest plane.values n c.args.links.now) (sym (zero-mul plane.shape.width)) c.requires.copied.forest

pub returns-clause-count : goal.returns-clause-count
returns-clause-count g c =
    let plane = c.args.plane.now in let cut = c.args.cut.now in let links = c.args.links.now in let is =
    plan_is plane c.args.connect cut c.shape-shape.result c.shape-shape.ensures.same c.shape-shape.ensures.pixels c.requires.cut in
    c.join_group.auto.parents ∙ copied_all (plan_of plane c.args.connect cut) is links c.requires.copied

pub returns-clause-forest : goal.returns-clause-forest
returns-clause-forest g c =
    let plane = c.args.plane.now in
    subst (λ (n : ℕ). IsForest plane.values n c.join_group.new.parents) (zero-mul plane.shape.width) c.join_group.ensures.forest
