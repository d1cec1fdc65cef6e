-- The laws on ancestors: whose component lies within whose.
use Rattle.std.proofs.Common.{◌≡◌, ℕ, ◌<◌, zero, suc, Bool, true, false, List, [], ◌∷◌, length, map, refl, sym, ◌∙◌, ap, subst, arith, ◌⊎◌, inl, inr, get_or}
use Rattle.std.specs.Prelude.{IsTrue, ℤ, int_le, int_lt, slice_index}
use Rattle.std.proofs.lemmas.Bool.{true≢false, cases_order}
use Rattle.std.proofs.lemmas.List.{length-map}
use Rattle.comp_tree.specs.declared.shape.Connect.{Connect}
use Rattle.comp_tree.specs.Raster.{Raster, IsPlane, is_defined, level}
use Rattle.comp_tree.specs.Components.{reaches, representative, nodes, node_of, no_node, is_candidate, parent_of, row_of, tree_of, is_in_node}
use Rattle.comp_tree.specs.Laws.{top_of, IsNestedIn, LiesStrictlyWithin, PixelsBelongToTheirAncestors, parent_in, IsAncestor, parent, above}
use Rattle.comp_tree.specs.Laws.{AncestorsAreTheLargerNodes, ParentIsTheSmallestLargerNode, RootsHaveNoLargerNode, CandidatesOfOneLevelHaveOneNode}
use Rattle.comp_tree.proofs.Reaching.{defined_from_at_least}
use Rattle.lemmas.proofs.Exported.{int_le_antisym, int_le_from_lt, int_lt_irrefl, int_lt_le, cases_int}
use Rattle.comp_tree.proofs.Ordering.{ordered-at, earlier-level}
use Rattle.comp_tree.proofs.Finding.{length-nodes-le}
use Rattle.comp_tree.proofs.Nodes
use Rattle.comp_tree.proofs.Components.{top-representative, top-defined, top-here, node-component}

-- ---- parents in the rows

slice_index-map : (f : ℕ → ℕ) (xs : List ℕ) (n : ℕ) → n < length xs → slice_index (map f xs) n ≡ f (slice_index xs n)
slice_index-map f [] n h = absurd (omega arith)
slice_index-map f (x ∷ xs) zero h = refl
slice_index-map f (x ∷ xs) (suc n) h = slice_index-map f xs n (omega arith)

pub parent_in-rows : (r : Raster) (connect : Connect) (xs : List ℕ) (n : ℕ) → n < length xs
    → parent_in (map (row_of r connect) xs) n ≡ parent_of r connect (slice_index xs n)
unfolding row_of
parent_in-rows r connect [] n h = absurd (omega arith)
parent_in-rows r connect (x ∷ xs) zero h = refl
parent_in-rows r connect (x ∷ xs) (suc n) h = parent_in-rows r connect xs n (omega arith)

pub rows-are : (r : Raster) (connect : Connect) → (tree_of r connect).rows ≡ map (row_of r connect) (nodes r connect)
unfolding tree_of
rows-are r connect = refl

pub length-rows : (r : Raster) (connect : Connect) → length (tree_of r connect).rows ≡ length (nodes r connect)
unfolding tree_of
length-rows r connect = length-map (nodes r connect) (row_of r connect)

pub parent-of_node : (r : Raster) (connect : Connect) (n : ℕ) → n < length (nodes r connect)
    → parent_in (tree_of r connect).rows n ≡ parent_of r connect (top_of r connect n)
unfolding tree_of
parent-of_node r connect n h = parent_in-rows r connect (nodes r connect) n h

-- in a plane no node's number is `no_node`
pub below_no_node : (r : Raster) (connect : Connect) (n : ℕ) → IsPlane r → n < length (nodes r connect) → n ≡ no_node → ⊥
below_no_node r connect n plane h e =
    absurd (omega (arith, length-nodes-le r connect, r.shape.within_limits.few_pixels))

-- the component of a pixel lies strictly within that of a candidate
pub candidate-within : (r : Raster) (connect : Connect) (m n : ℕ) → m < length (nodes r connect) → n < length (nodes r connect)
    → Nodes.IsCandidate r connect (top_of r connect n) (top_of r connect m) → LiesStrictlyWithin r connect n m
unfolding is_in_node
candidate-within r connect m n hm hn k = (
  (λ q l. Nodes.reaches_trans r connect (level r (top_of r connect m)) (top_of r connect m) (top_of r connect n) q k.reaches_it
      (Nodes.reaches_lower r connect (level r (top_of r connect m)) (level r (top_of r connect n)) (top_of r connect n) q
      (int_le_from_lt (level r (top_of r connect m)) (level r (top_of r connect n)) k.lower) l)),
  (top_of r connect m, top-here r connect m hm, outside (reaches r connect (level r (top_of r connect n)) (top_of r connect n) (top_of r connect m)) refl),
)
  where
    outside : (b : Bool) → reaches r connect (level r (top_of r connect n)) (top_of r connect n) (top_of r connect m) ≡ b
        → reaches r connect (level r (top_of r connect n)) (top_of r connect n) (top_of r connect m) ≡ false
    outside false u = u
    outside true u =
        absurd (int_lt_le (level r (top_of r connect m)) (level r (top_of r connect n)) k.lower
        (Nodes.level_from_at_least r (level r (top_of r connect n)) (top_of r connect m)
        (Nodes.reaches_end r connect (level r (top_of r connect n)) (top_of r connect n) (top_of r connect m) u)))

-- and the other way round
pub candidate_from_within : (r : Raster) (connect : Connect) (m n : ℕ) → m < length (nodes r connect) → n < length (nodes r connect)
    → LiesStrictlyWithin r connect n m → Nodes.IsCandidate r connect (top_of r connect n) (top_of r connect m)
unfolding is_in_node
candidate_from_within r connect m n hm hn w =
    record { lower = lower (cases_int (level r (top_of r connect m)) (level r (top_of r connect n))); reaches_it = to_n }
  where
    to_n : IsTrue (reaches r connect (level r (top_of r connect m)) (top_of r connect m) (top_of r connect n))
    to_n = w.0 (top_of r connect n) (top-here r connect n hn)

    lower : (int_lt (level r (top_of r connect m)) (level r (top_of r connect n)) ≡ true)
        ⊎ (int_le (level r (top_of r connect n)) (level r (top_of r connect m)) ≡ true)
        → int_lt (level r (top_of r connect m)) (level r (top_of r connect n)) ≡ true
    lower (inl k) = k
    lower (inr k) =
        absurd (true≢false (sym (Nodes.reaches_trans r connect (level r (top_of r connect n)) (top_of r connect n) (top_of r connect m) w.1.0
        (Nodes.reaches_lower r connect (level r (top_of r connect n)) (level r (top_of r connect m)) (top_of r connect n) (top_of r connect m) k
        (Nodes.reaches_sym r connect (level r (top_of r connect m)) (top_of r connect m) (top_of r connect n) to_n))
        (Nodes.reaches_lower r connect (level r (top_of r connect n)) (level r (top_of r connect m)) (top_of r connect m) w.1.0 k w.1.1))
        ∙ w.1.2))

-- what lies within is transitive
within_trans : (r : Raster) (connect : Connect) (k m n : ℕ) → LiesStrictlyWithin r connect n k → LiesStrictlyWithin r connect k m
    → LiesStrictlyWithin r connect n m
within_trans r connect k m n a b = ((λ q x. b.0 q (a.0 q x)), (b.1.0, b.1.1, outside (is_in_node r connect n b.1.0) refl))
  where
    outside : (t : Bool) → is_in_node r connect n b.1.0 ≡ t → is_in_node r connect n b.1.0 ≡ false
    outside false u = u
    outside true u = absurd (true≢false (sym (a.0 b.1.0 u) ∙ b.1.2))

-- the parent's representative is a candidate, and of all candidates the highest
pub record IsParent (r : Raster) (connect : Connect) (k n : ℕ) : Type 0 where
  pub candidate : Nodes.IsCandidate r connect (top_of r connect n) (top_of r connect k)
  pub highest : (s : ℕ) → Nodes.IsCandidate r connect (top_of r connect n) s → int_le (level r s) (level r (top_of r connect k)) ≡ true

pub parent-candidate : (r : Raster) (connect : Connect) (k n : ℕ) → IsPlane r → n < length (nodes r connect) → k < length (nodes r connect)
    → parent_of r connect (top_of r connect n) ≡ k → IsParent r connect k n
parent-candidate r connect k n plane hn hk e = go (parent_of r connect (top_of r connect n)) (Nodes.parent-case r connect (top_of r connect n)) e
  where
    of_node : (q : ℕ) → IsTrue (is_candidate r connect (top_of r connect n) q)
        → ((s : ℕ) → IsTrue (is_candidate r connect (top_of r connect n) s) → int_le (level r s) (level r q) ≡ true) → node_of r connect q ≡ k
        → IsParent r connect k n
    of_node q c top f = record {
      candidate = record {
        lower = subst (λ (l : ℤ). int_lt l (level r (top_of r connect n)) ≡ true) (sym same_level)
            (Nodes.candidate-parts r connect (top_of r connect n) q c).lower;
        reaches_it = subst (λ (l : ℤ). IsTrue (reaches r connect l (top_of r connect k) (top_of r connect n))) (sym same_level)
            (Nodes.reaches_trans r connect (level r q) (top_of r connect k) q (top_of r connect n)
            (Nodes.reaches_sym r connect (level r q) q (top_of r connect k) to_top) (Nodes.candidate-parts r connect (top_of r connect n) q c).reaches_it);
      };
      highest = λ s l. subst (λ (h : ℤ). int_le (level r s) h ≡ true) (sym same_level) (top s (Nodes.candidate-from r connect (top_of r connect n) s l));
    }
      where
        d : IsTrue (is_defined r q)
        d = defined_from_at_least r (level r q) q
            (Nodes.reaches_start r connect (level r q) q (top_of r connect n) (Nodes.candidate-parts r connect (top_of r connect n) q c).reaches_it)

        top_is : top_of r connect k ≡ representative r connect q
        top_is = ap (λ j. get_or (nodes r connect) j 0) (sym f) ∙ (Nodes.node_of-is r connect q d).it_is

        same_level : level r (top_of r connect k) ≡ level r q
        same_level = ap (level r) top_is ∙ (Nodes.representative-is r connect q d).same_level

        to_top : IsTrue (reaches r connect (level r q) q (top_of r connect k))
        to_top = subst (λ (t : ℕ). IsTrue (reaches r connect (level r q) q t)) (sym top_is) (Nodes.representative-is r connect q d).reached

    go : (j : ℕ) → Nodes.ParentCase r connect (top_of r connect n) j → j ≡ k → IsParent r connect k n
    go j (Nodes.root none) f = absurd (below_no_node r connect k plane hk (sym f))
    go j (Nodes.child q c top) f = of_node q c top f

-- a parent's number is smaller
pub parent_below : (r : Raster) (connect : Connect) (k n : ℕ) → n < length (nodes r connect) → k < length (nodes r connect)
    → int_lt (level r (top_of r connect k)) (level r (top_of r connect n)) ≡ true → k < n
parent_below r connect k n hn hk low = go (cases_order k n)
  where
    go : (k ≡ n) ⊎ ((k < n) ⊎ (n < k)) → k < n
    go (inl e) =
        absurd (int_lt_irrefl (level r (top_of r connect n))
        (subst (λ (j : ℕ). int_lt (level r (top_of r connect j)) (level r (top_of r connect n)) ≡ true) e low))
    go (inr (inl l)) = l
    go (inr (inr l)) =
        absurd (int_lt_le (level r (top_of r connect k)) (level r (top_of r connect n)) low
        (earlier-level r (top_of r connect n) (top_of r connect k) (ordered-at r (nodes r connect) n k (Nodes.nodes-ordered r connect) l hk)))

-- an ancestor's component is larger
larger_from_ancestor : (r : Raster) (connect : Connect) (m n : ℕ) → IsPlane r → n < length (nodes r connect) → IsAncestor (tree_of r connect).rows m n
    → LiesStrictlyWithin r connect n m
larger_from_ancestor r connect m _ plane hn (parent n e h) =
    let hm : m < length (nodes r connect) = omega (arith, length-rows r connect) in
    candidate-within r connect m n hm hn (parent-candidate r connect m n plane hn hm (sym (parent-of_node r connect n hn) ∙ e)).candidate
larger_from_ancestor r connect m _ plane hn (above k n e h rest) =
    let hk : k < length (nodes r connect) = omega (arith, length-rows r connect) in
    within_trans r connect k m n
    (candidate-within r connect k n hk hn (parent-candidate r connect k n plane hn hk (sym (parent-of_node r connect n hn) ∙ e)).candidate)
    (larger_from_ancestor r connect m k plane hk rest)

-- a larger component is an ancestor's: by how many numbers may still be passed on the way
ancestor_by : (r : Raster) (connect : Connect) (fuel m n : ℕ) → IsPlane r → n < fuel → m < length (nodes r connect) → n < length (nodes r connect)
    → Nodes.IsCandidate r connect (top_of r connect n) (top_of r connect m) → IsAncestor (tree_of r connect).rows m n
ancestor_by r connect zero m n plane f hm hn c = absurd (omega arith)
ancestor_by r connect (suc fuel) m n plane f hm hn c =
    go (parent_of r connect (top_of r connect n)) (Nodes.parent-case r connect (top_of r connect n)) refl (λ k. ancestor_by r connect fuel m k plane)
  where
    listed : IsTrue (is_candidate r connect (top_of r connect n) (top_of r connect m))
    listed = Nodes.candidate-from r connect (top_of r connect n) (top_of r connect m) c

    at_parent : (k : ℕ) → k < length (nodes r connect) → parent_of r connect (top_of r connect n) ≡ k → IsParent r connect k n
        → (k < fuel → m < length (nodes r connect) → k < length (nodes r connect) → Nodes.IsCandidate r connect (top_of r connect k) (top_of r connect m)
        → IsAncestor (tree_of r connect).rows m k)
        → IsAncestor (tree_of r connect).rows m n
    at_parent k hk e p ih = split (cases_int (level r (top_of r connect m)) (level r (top_of r connect k)))
      where
        named : parent_in (tree_of r connect).rows n ≡ k
        named = parent-of_node r connect n hn ∙ e

        split : (int_lt (level r (top_of r connect m)) (level r (top_of r connect k)) ≡ true)
            ⊎ (int_le (level r (top_of r connect k)) (level r (top_of r connect m)) ≡ true)
            → IsAncestor (tree_of r connect).rows m n
        split (inl l) =
            above k n named (let x : length (tree_of r connect).rows ≡ length (nodes r connect) = length-rows r connect in omega arith)
            (ih (let x : k < n = parent_below r connect k n hn hk p.candidate.lower in omega arith) hm hk
            (record {
              lower = l;
              reaches_it = Nodes.reaches_trans r connect (level r (top_of r connect m)) (top_of r connect m) (top_of r connect n)
                  (top_of r connect k) c.reaches_it
                  (Nodes.reaches_sym r connect (level r (top_of r connect m)) (top_of r connect k) (top_of r connect n)
                  (Nodes.reaches_lower r connect (level r (top_of r connect m)) (level r (top_of r connect k)) (top_of r connect k) (top_of r connect n)
                  (int_le_from_lt (level r (top_of r connect m)) (level r (top_of r connect k)) l) p.candidate.reaches_it));
            }))
        split (inr l) =
            parent n (named ∙ same) (let x : length (tree_of r connect).rows ≡ length (nodes r connect) = length-rows r connect in omega arith)
          where
            level_same : level r (top_of r connect k) ≡ level r (top_of r connect m)
            level_same = int_le_antisym (level r (top_of r connect k)) (level r (top_of r connect m)) l (p.highest (top_of r connect m) c)

            number : (j : ℕ) → j < length (nodes r connect) → node_of r connect (top_of r connect j) ≡ j
            number j hj =
                Nodes.node-unique r connect (top_of r connect j) j (top-defined r connect j hj)
                (record { below = hj; it_is = sym (Nodes.is_representative-parts r connect (top_of r connect j) (top-representative r connect j hj)).1 })

            same : k ≡ m
            same =
                sym (number k hk)
                ∙ Nodes.candidates-same r connect (top_of r connect n) (top_of r connect k) (top_of r connect m)
                (Nodes.candidate-from r connect (top_of r connect n) (top_of r connect k) p.candidate) listed level_same
                ∙ number m hm

    go : (j : ℕ) → Nodes.ParentCase r connect (top_of r connect n) j → parent_of r connect (top_of r connect n) ≡ j
        → ((k : ℕ) → k < fuel → m < length (nodes r connect) → k < length (nodes r connect)
        → Nodes.IsCandidate r connect (top_of r connect k) (top_of r connect m) → IsAncestor (tree_of r connect).rows m k)
        → IsAncestor (tree_of r connect).rows m n
    go j (Nodes.root none) e ih = absurd (none (top_of r connect m) listed)
    go j (Nodes.child q cq top) e ih =
        let d : IsTrue (is_defined r q) = defined_from_at_least r (level r q) q
        (Nodes.reaches_start r connect (level r q) q (top_of r connect n) (Nodes.candidate-parts r connect (top_of r connect n) q cq).reaches_it) in
        let hk : node_of r connect q < length (nodes r connect) = (Nodes.node_of-is r connect q d).below in
        at_parent (node_of r connect q) hk e (parent-candidate r connect (node_of r connect q) n plane hn hk e) (ih (node_of r connect q))

pub ancestors_are_the_larger_nodes : AncestorsAreTheLargerNodes
ancestors_are_the_larger_nodes r connect m n plane hm hn = (
  (λ w. ancestor_by r connect (suc n) m n plane (omega arith) hm hn (candidate_from_within r connect m n hm hn w)),
  λ a. larger_from_ancestor r connect m n plane hn a,
)

pub parent_is_the_smallest_larger_node : ParentIsTheSmallestLargerNode
parent_is_the_smallest_larger_node r connect k n plane hk hn e = (larger_from_ancestor r connect k n plane hn (parent n e listed), within_each)
  where
    listed : k < length (tree_of r connect).rows
    listed = omega (arith, length-rows r connect)

    -- an ancestor is the parent, or one of the parent's ancestors
    around_parent : (m j : ℕ) → j ≡ n → IsAncestor (tree_of r connect).rows m j → IsNestedIn r connect k m
    around_parent m _ same (parent j f h) =
        subst (λ (x : ℕ). IsNestedIn r connect k x) (sym e ∙ ap (parent_in (tree_of r connect).rows) (sym same) ∙ f) (λ q x. x)
    around_parent m _ same (above i j f h rest) =
        (larger_from_ancestor r connect m k plane hk
        (subst (λ (x : ℕ). IsAncestor (tree_of r connect).rows m x) (sym f ∙ ap (parent_in (tree_of r connect).rows) same ∙ e) rest)).0

    within_each : (m : ℕ) → m < length (nodes r connect) → LiesStrictlyWithin r connect n m → IsNestedIn r connect k m
    within_each m hm w = around_parent m n refl ((ancestors_are_the_larger_nodes r connect m n plane hm hn).0 w)

pub roots_have_no_larger_node : RootsHaveNoLargerNode
roots_have_no_larger_node r connect m n plane hm hn e w = no_ancestor n refl ((ancestors_are_the_larger_nodes r connect m n plane hm hn).0 w)
  where
    beyond : (k : ℕ) → k < length (tree_of r connect).rows → k ≡ no_node → ⊥
    beyond k h f = below_no_node r connect k plane (let x : length (tree_of r connect).rows ≡ length (nodes r connect) = length-rows r connect in omega arith) f

    no_ancestor : (j : ℕ) → j ≡ n → IsAncestor (tree_of r connect).rows m j → ⊥
    no_ancestor _ same (parent j f h) = beyond m h (sym f ∙ ap (parent_in (tree_of r connect).rows) same ∙ e)
    no_ancestor _ same (above i j f h rest) = beyond i h (sym f ∙ ap (parent_in (tree_of r connect).rows) same ∙ e)

pub candidates_of_one_level_have_one_node : CandidatesOfOneLevelHaveOneNode
candidates_of_one_level_have_one_node r connect p q s hq hs e = Nodes.candidates-same r connect p q s hq hs e

pub pixels_belong_to_their_ancestors : PixelsBelongToTheirAncestors
unfolding is_in_node
pixels_belong_to_their_ancestors r connect n q plane hn d = (upwards, downwards)
  where
    m_below : node_of r connect q < length (nodes r connect)
    m_below = (Nodes.node_of-is r connect q d).below

    top_is : top_of r connect (node_of r connect q) ≡ representative r connect q
    top_is = (Nodes.node_of-is r connect q d).it_is

    at_q : Nodes.IsRepresentative r connect q (representative r connect q)
    at_q = Nodes.representative-is r connect q d

    q_here : IsTrue (is_in_node r connect (node_of r connect q) q)
    q_here = (node-component r connect q q d).0 (Nodes.reaches_here r connect (level r q) q (Nodes.at_least-own r q d))

    upwards : IsTrue (reaches r connect (level r (top_of r connect n)) (top_of r connect n) q)
        → (node_of r connect q ≡ n) ⊎ IsAncestor (tree_of r connect).rows n (node_of r connect q)
    upwards k = split (cases_int (level r (top_of r connect n)) (level r q))
      where
        low : int_le (level r (top_of r connect n)) (level r q) ≡ true
        low = Nodes.level_from_at_least r (level r (top_of r connect n)) q (Nodes.reaches_end r connect (level r (top_of r connect n)) (top_of r connect n) q k)

        split : (int_lt (level r (top_of r connect n)) (level r q) ≡ true) ⊎ (int_le (level r q) (level r (top_of r connect n)) ≡ true)
            → (node_of r connect q ≡ n) ⊎ IsAncestor (tree_of r connect).rows n (node_of r connect q)
        split (inl l) =
            inr (ancestor_by r connect (suc (node_of r connect q)) n (node_of r connect q) plane (omega arith) hn m_below
            (record {
              lower = subst (λ (h : ℤ). int_lt (level r (top_of r connect n)) h ≡ true) (sym (ap (level r) top_is ∙ at_q.same_level)) l;
              reaches_it = subst (λ (t : ℕ). IsTrue (reaches r connect (level r (top_of r connect n)) (top_of r connect n) t)) (sym top_is)
                  (Nodes.reaches_trans r connect (level r (top_of r connect n)) (top_of r connect n) q (representative r connect q) k
                  (Nodes.reaches_lower r connect (level r (top_of r connect n)) (level r q) q (representative r connect q) low at_q.reached));
            }))
        split (inr l) =
            inl (Nodes.node-unique r connect q n d (record {
              below = hn;
              it_is = sym (Nodes.is_representative-parts r connect (top_of r connect n) (top-representative r connect n hn)).1
                  ∙ sym (Nodes.representative-same r connect (top_of r connect n) q k (int_le_antisym (level r q) (level r (top_of r connect n)) l low));
            }))

    downwards : (node_of r connect q ≡ n) ⊎ IsAncestor (tree_of r connect).rows n (node_of r connect q) → IsTrue (is_in_node r connect n q)
    downwards (inl e) = subst (λ (j : ℕ). IsTrue (is_in_node r connect j q)) e q_here
    downwards (inr a) = (larger_from_ancestor r connect n (node_of r connect q) plane m_below a).0 q q_here
