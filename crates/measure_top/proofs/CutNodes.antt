-- The nodes of a cut plane: their measures and their backs are those of the whole plane.
use Rattle.std.proofs.Common.{◌≡◌, ℕ, ◌<◌, Bool, true, false, ◌&&◌, not, length, refl, sym, ◌∙◌, ap, subst, ◌⊎◌, inl, inr}
use Rattle.std.specs.Prelude.{IsTrue, ℤ, pos, ◌≤ℤ◌, int_le, int_lt, filter, if◌then◌else◌}
use Rattle.std.proofs.lemmas.Bool.{eq-eqb, ne_eqb}
use Rattle.comp_tree.specs.declared.shape.Connect.{Connect}
use Rattle.comp_tree.specs.Raster.{Raster, IsPlane, level, is_at_least}
use Rattle.comp_tree.specs.ComponentTree.{no_node}
use Rattle.comp_tree.specs.Components.{reaches, nodes, node_of, is_candidate, is_in_node, tree_of}
use Rattle.comp_tree.specs.Nesting.{is_root, level_of_node}
use Rattle.comp_tree.specs.Laws.{top_of, parent_of_node}
use Rattle.comp_tree.proofs.Exported.{int_le-from, int_le_trans, int_le_from_lt, cases_int, top-defined, IsParent}
use Rattle.comp_tree.proofs.Exported.{parent-candidate, parent-of_node, below_no_node, AlikeAbove, IsCounterpart, above_level, above_pixels, above_reached}
use Rattle.comp_tree.proofs.Exported.{above_sym, counterpart, counterpart_pixels, counterpart_sym, counterpart_test, reached_high}
use Rattle.comp_tree.proofs.Exported as Nodes
use Rattle.node_sums.proofs.Exported.{level-of_node}
use Rattle.source_pick.proofs.Exported.{parent_cases}
use Rattle.dual_measure.specs.Measures.{measure_over, measure_of, mean_of, around_node, back_of}
use Rattle.measure_top.specs.Cuts.{cut, node_in_cut}
use Rattle.measure_top.proofs.CutPlanes.{cut_alike, high_in_cut}
pub use Rattle.measure_top.proofs.CutPlanes.{cut_is_a_plane}

-- ---- parents

-- what is below a pixel, and has at least h, is below it in the other plane
candidate_there : (r s : Raster) (connect : Connect) (h : ℤ) (p q : ℕ) → AlikeAbove r s h → IsTrue (is_at_least r h q) → Nodes.IsCandidate r connect p q
    → Nodes.IsCandidate s connect p q
candidate_there r s connect h p q a k c = record {
  lower = subst (λ (z : ℤ). int_lt z (level s p) ≡ true) same_q (subst (λ (z : ℤ). int_lt (level r q) z ≡ true) same_p c.lower);
  reaches_it = subst (λ (z : ℤ). IsTrue (reaches s connect z q p)) same_q (above_reached r s connect h (level r q) q p a low c.reaches_it);
}
  where
    low : int_le h (level r q) ≡ true
    low = Nodes.level_from_at_least r h q k

    same_q : level r q ≡ level s q
    same_q = above_level r s h q a k

    same_p : level r p ≡ level s p
    same_p = above_level r s h p a (reached_high r connect h (level r q) q p low c.reaches_it)

-- a parent of at least h has the counterpart's parent for its counterpart
parent_there : (r s : Raster) (connect : Connect) (h : ℤ) (n m k j : ℕ) → IsPlane r → AlikeAbove r s h → IsCounterpart r s connect h n m
    → IsCounterpart r s connect h k j
    → parent_of_node r connect n ≡ k → parent_of_node s connect m ≡ j
parent_there r s connect h n m k j plane a c d e =
    parent-of_node s connect m c.other
    ∙ Nodes.parent-is s connect (top_of s connect m) (top_of s connect j) (Nodes.candidate-from s connect (top_of s connect m) (top_of s connect j) there)
    highest
    ∙ Nodes.node_of_top s connect j d.other
  where
    p : IsParent r connect k n
    p = parent-candidate r connect k n plane c.one d.one (sym (parent-of_node r connect n c.one) ∙ e)

    level_k : level r (top_of r connect k) ≡ level s (top_of s connect j)
    level_k = above_level r s h (top_of r connect k) a d.high ∙ ap (level s) d.top

    there : Nodes.IsCandidate s connect (top_of s connect m) (top_of s connect j)
    there = subst (λ (x : ℕ). Nodes.IsCandidate s connect x (top_of s connect j)) c.top
        (subst (λ (x : ℕ). Nodes.IsCandidate s connect (top_of r connect n) x) d.top
        (candidate_there r s connect h (top_of r connect n) (top_of r connect k) a d.high p.candidate))

    highest : (t : ℕ) → IsTrue (is_candidate s connect (top_of s connect m) t) → int_le (level s t) (level s (top_of s connect j)) ≡ true
    highest t k_t = go (cases_int (level s t) h)
      where
        below : Nodes.IsCandidate s connect (top_of r connect n) t
        below = subst (λ (x : ℕ). Nodes.IsCandidate s connect x t) (sym c.top) (Nodes.candidate-parts s connect (top_of s connect m) t k_t)

        go : (int_lt (level s t) h ≡ true) ⊎ (int_le h (level s t) ≡ true) → int_le (level s t) (level s (top_of s connect j)) ≡ true
        go (inl l) =
            subst (λ (z : ℤ). int_le (level s t) z ≡ true) level_k
            (int_le_trans (level s t) h (level r (top_of r connect k)) (int_le_from_lt (level s t) h l)
            (Nodes.level_from_at_least r h (top_of r connect k) d.high))
        go (inr l) =
            let high : IsTrue (is_at_least s h t) =
            Nodes.at_least-lower s h (level s t) t l (Nodes.reaches_start s connect (level s t) t (top_of r connect n) below.reaches_it) in
            subst (λ (z : ℤ). int_le (level s t) z ≡ true) level_k
            (subst (λ (z : ℤ). int_le z (level r (top_of r connect k)) ≡ true) (sym (above_level s r h t (above_sym r s h a) high))
            (p.highest t (candidate_there s r connect h (top_of r connect n) t (above_sym r s h a) high below)))

-- a root is a root in the cut plane: each parent there has at least h
root_in_cut : (r : Raster) (connect : Connect) (h : ℤ) (n m : ℕ) → IsPlane r → IsPlane (cut r h) → IsCounterpart r (cut r h) connect h n m
    → parent_of_node r connect n ≡ no_node
    → parent_of_node (cut r h) connect m ≡ no_node
root_in_cut r connect h n m plane plane_cut c e = go (parent_cases (cut r h) connect m plane_cut c.other)
  where
    go : (parent_of_node (cut r h) connect m ≡ no_node) ⊎ (parent_of_node (cut r h) connect m < length (nodes (cut r h) connect))
        → parent_of_node (cut r h) connect m ≡ no_node
    go (inl f) = f
    go (inr l) = absurd (below_no_node r connect (node_of r connect (top_of (cut r h) connect up)) plane d.other (sym named ∙ e))
      where
        up : ℕ
        up = parent_of_node (cut r h) connect m

        back : AlikeAbove (cut r h) r h
        back = above_sym r (cut r h) h (cut_alike r h)

        d : IsCounterpart (cut r h) r connect h up (node_of r connect (top_of (cut r h) connect up))
        d = counterpart (cut r h) r connect h up back l (high_in_cut r h (top_of (cut r h) connect up) (top-defined (cut r h) connect up l))

        named : parent_of_node r connect n ≡ node_of r connect (top_of (cut r h) connect up)
        named =
            parent_there (cut r h) r connect h m n up (node_of r connect (top_of (cut r h) connect up)) plane_cut back
            (counterpart_sym r (cut r h) connect h n m (cut_alike r h) c) d refl

-- ---- the values around a node

back-by : (values r : Raster) (connect : Connect) (n : ℕ) (b : Bool) → is_root (tree_of r connect) n ≡ b
    → back_of values r connect n ≡ (if b then pos 0 else mean_of (measure_over values (around_node r connect n)))
unfolding back_of
back-by values r connect n b e = ap (λ (t : Bool). if t then pos 0 else mean_of (measure_over values (around_node r connect n))) e

not_root : (r : Raster) (connect : Connect) (n : ℕ) → IsPlane r → parent_of_node r connect n < length (nodes r connect) → is_root (tree_of r connect) n ≡ false
not_root r connect n plane l = ne_eqb (parent_of_node r connect n) no_node (below_no_node r connect (parent_of_node r connect n) plane l)

around_same : (r s : Raster) (connect : Connect) (h : ℤ) (n m k j : ℕ) → AlikeAbove r s h → IsCounterpart r s connect h n m → IsCounterpart r s connect h k j
    → parent_of_node r connect n ≡ k → parent_of_node s connect m ≡ j → around_node r connect n ≡ around_node s connect m
unfolding around_node
around_same r s connect h n m k j a c d e f =
    let parents = ap (is_in_node r connect) e ∙ counterpart_test r s connect h k j a d ∙ ap (is_in_node s connect) (sym f) in
    let own = counterpart_test r s connect h n m a c in
    λ i. filter (λ p. parents i p && not (own i p)) (above_pixels r s h a i)

-- ---- a node and the one that the same pixel represents in the cut plane

high_top : (r : Raster) (connect : Connect) (h : ℤ) (n : ℕ) → n < length (nodes r connect) → h ≤ℤ level_of_node r connect n
    → IsTrue (is_at_least r h (top_of r connect n))
high_top r connect h n hn l =
    Nodes.at_least-from r h (top_of r connect n) (top-defined r connect n hn)
    (int_le-from h (level r (top_of r connect n)) (subst (λ (z : ℤ). h ≤ℤ z) (level-of_node r connect n hn) l))

in_cut : (r : Raster) (connect : Connect) (h : ℤ) (n : ℕ) → n < length (nodes r connect) → h ≤ℤ level_of_node r connect n
    → IsCounterpart r (cut r h) connect h n (node_in_cut r connect h (top_of r connect n))
in_cut r connect h n hn l = counterpart r (cut r h) connect h n (cut_alike r h) hn (high_top r connect h n hn l)

-- there is one
pub node_there : (r : Raster) (connect : Connect) (h : ℤ) (n : ℕ) → IsPlane r → n < length (nodes r connect) → h ≤ℤ level_of_node r connect n
    → node_in_cut r connect h (top_of r connect n) < length (nodes (cut r h) connect)
node_there r connect h n plane hn l = (in_cut r connect h n hn l).other

-- it has the same measure
pub same_measure : (r values : Raster) (connect : Connect) (h : ℤ) (n : ℕ) → IsPlane r → n < length (nodes r connect) → h ≤ℤ level_of_node r connect n
    → measure_of values (cut r h) connect (node_in_cut r connect h (top_of r connect n)) ≡ measure_of values r connect n
unfolding measure_of
same_measure r values connect h n plane hn l =
    ap (measure_over values) (sym (counterpart_pixels r (cut r h) connect h n (node_in_cut r connect h (top_of r connect n)) (cut_alike r h)
    (in_cut r connect h n hn l)))

-- and the same back, where its parent is left too
pub same_back : (r values : Raster) (connect : Connect) (h : ℤ) (n : ℕ) → IsPlane r → n < length (nodes r connect) → h ≤ℤ level_of_node r connect n
    → ((is_root (tree_of r connect) n ≡ false) → h ≤ℤ level_of_node r connect (parent_of_node r connect n))
    → back_of values (cut r h) connect (node_in_cut r connect h (top_of r connect n)) ≡ back_of values r connect n
same_back r values connect h n plane hn l left = go (parent_cases r connect n plane hn)
  where
    m : ℕ
    m = node_in_cut r connect h (top_of r connect n)

    c : IsCounterpart r (cut r h) connect h n m
    c = in_cut r connect h n hn l

    plane_cut : IsPlane (cut r h)
    plane_cut = cut_is_a_plane r h plane

    go : (parent_of_node r connect n ≡ no_node) ⊎ (parent_of_node r connect n < length (nodes r connect))
        → back_of values (cut r h) connect m ≡ back_of values r connect n
    go (inl e) =
        back-by values (cut r h) connect m true (eq-eqb (parent_of_node (cut r h) connect m) no_node (root_in_cut r connect h n m plane plane_cut c e))
        ∙ sym (back-by values r connect n true (eq-eqb (parent_of_node r connect n) no_node e))
    go (inr hk) =
        back-by values (cut r h) connect m false (not_root (cut r h) connect m plane_cut
        (subst (λ (x : ℕ). x < length (nodes (cut r h) connect)) (sym there) d.other))
        ∙ ap (λ ps. mean_of (measure_over values ps)) (sym (around_same r (cut r h) connect h n m k j (cut_alike r h) c d refl there))
        ∙ sym (back-by values r connect n false (not_root r connect n plane hk))
      where
        k : ℕ
        k = parent_of_node r connect n

        j : ℕ
        j = node_in_cut r connect h (top_of r connect k)

        d : IsCounterpart r (cut r h) connect h k j
        d = in_cut r connect h k hk (left (not_root r connect n plane hk))

        there : parent_of_node (cut r h) connect m ≡ j
        there = parent_there r (cut r h) connect h n m k j plane (cut_alike r h) c d refl
