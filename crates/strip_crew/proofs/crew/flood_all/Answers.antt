use Rattle.std.proofs.Common.{◌≡◌, List, ℕ, length, ap, ◌∙◌, sym, subst}
use Rattle.comp_tree.specs.Forest.{IsForest, StandsFor}
use Rattle.comp_tree.specs.Grid.{IsAdjacency}
use Rattle.strip_crew.specs.Run.{plan_of}
use Rattle.strip_crew.specs.Copied.{AreCopied}
use Rattle.strip_crew.proofs.Crews.{pasted}
use Rattle.strip_crew.proofs.crew.flood_all.Goals as goal

pub join_cut-requires-clause-copied : goal.join_cut-requires-clause-copied
join_cut-requires-clause-copied g c κs within =
    subst (AreCopied (plan_of c.args.plane.now c.args.connect c.args.cut.now) (length c.args.cut.now))
    (sym c.deref_mut.ensures.value) c.in_ok-links.ensures

pub returns-clause-count : goal.returns-clause-count
returns-clause-count g c =
    let old = c.in_ok-links.links in let are = c.deref_mut.ensures.value in let new =
    c.join_cut.new.links in let same : length new ≡ length c.deref_mut.result.now = c.join_cut.auto.links in
    ap (λ (l : List ℕ). length l) (c.of.ensures ∙ pasted old.items new old.len old.ok.0 (same ∙ ap (λ (l : List ℕ). length l) are)) ∙ c.join_cut.ensures.count

pub returns-clause-stands : goal.returns-clause-stands
returns-clause-stands g c =
    let plane = c.args.plane.now in let old = c.in_ok-links.links in let are = c.deref_mut.ensures.value in let new =
    c.join_cut.new.links in let same : length new ≡ length c.deref_mut.result.now = c.join_cut.auto.links in
    subst (λ (l : List ℕ). StandsFor plane.values 0 l (IsAdjacency plane.values plane.shape.width c.args.connect))
    (sym (c.of.ensures ∙ pasted old.items new old.len old.ok.0 (same ∙ ap (λ (l : List ℕ). length l) are)))
    c.join_cut.ensures.stands

pub returns-clause-forest : goal.returns-clause-forest
returns-clause-forest g c =
    let plane = c.args.plane.now in let old = c.in_ok-links.links in let are = c.deref_mut.ensures.value in let new =
    c.join_cut.new.links in let same : length new ≡ length c.deref_mut.result.now = c.join_cut.auto.links in
    subst (λ (l : List ℕ). IsForest plane.values 0 l)
    (sym (c.of.ensures ∙ pasted old.items new old.len old.ok.0 (same ∙ ap (λ (l : List ℕ). length l) are)))
    c.join_cut.ensures.forest
