-- In two planes that are alike along pairs of pixels of at least the threshold, counterparts are entries, strong, splits and sources together.
use Rattle.std.proofs.Common.{◌≡◌, ℕ, ◌<◌, Bool, true, false, ◌&&◌, length, refl, sym, ◌∙◌, ap, subst, arith, ◌⊎◌, inl, inr}
use Rattle.std.specs.Prelude.{IsTrue, ℤ, ◌≤ℤ◌, int_le, int_lt, nat_le, pos, ◌*ℤ◌, Some}
use Rattle.std.proofs.lemmas.Bool.{true≢false, false_from_ne_true}
use Rattle.lemmas.proofs.Exported.{int_le-from, int_le-true}
use Rattle.comp_tree.specs.declared.shape.Connect.{Connect}
use Rattle.comp_tree.specs.Raster.{Raster, IsPlane, level}
use Rattle.comp_tree.specs.ComponentTree.{no_node}
use Rattle.comp_tree.specs.Components.{reaches, nodes, node_of, tree_of, is_in_node}
use Rattle.comp_tree.specs.Laws.{top_of, parent_of_node, IsNestedIn}
use Rattle.comp_tree.specs.Nesting.{level_of_node}
use Rattle.comp_tree.proofs.Exported.{length-rows, top_inside, below_no_node, AlikeAlong, AreCounterparts, IsReachedThere, along_sym}
use Rattle.comp_tree.proofs.Exported.{along_low, along_reached, along_counterpart, counterparts_sym, counterparts_unique, counterparts_in_node, turned}
use Rattle.comp_tree.proofs.Exported as Nodes
use Rattle.node_sums.specs.Sums.{sums_of}
use Rattle.node_sums.specs.Flux.{flux_of}
use Rattle.node_sums.proofs.Exported.{level-of_node}
use Rattle.source_pick.specs.declared.choice.Choice.{Choice}
use Rattle.source_pick.specs.Sources.{is_large, is_lowest, is_entry, entry_of, has_contrast, is_strong, is_split, has_strong_sibling, contains_split, is_source}
use Rattle.node_sums.specs.NodeNumbers.{IsOnWay}
use Rattle.node_sums.proofs.Exported.{within_from_way, way_from_within, way_of_child}
use Rattle.source_pick.proofs.NodesEntries.{entry_parts, IsEntryOf, entry_of-parts, entry_of-found}
use Rattle.source_pick.proofs.PassesStrong.{lowest_at_root, lowest_at_child}
use Rattle.source_pick.proofs.NodesSplits.{HasEntry, strong_entry, strong-in, AreTwins, IsSplitNode, split_parts, split_from, HasSibling, sibling_parts}
use Rattle.source_pick.proofs.NodesSplits.{sibling_from, ContainsSplit, contains_parts, contains_from}
use Rattle.source_pick.proofs.NodesSourcing.{SourceParts, source_parts, source_from}
use Rattle.source_pick.proofs.LocalityHighNodes.{up_from_way, strong_up, split_up}
use Rattle.source_pick.proofs.LocalityAlongBorders.{ParentsAgree, roots, children, along_parents_agree, along_parent_there}
use Rattle.source_pick.proofs.LocalityAlongSums.{along_area, along_node_level, along_flux, reached_in_node}

-- ---- nodes of at least the threshold

-- node n of r has a counterpart in s
pub record HasCounterpartAlong (r s : Raster) (connect : Connect) (R : ℕ → ℕ → Type 0) (n : ℕ) : Type 0 where
  pub it : ℕ
  pub is : AreCounterparts r s connect R n it

-- a node with a counterpart has at least the threshold
along_counterpart_up : (r s : Raster) (connect : Connect) (choice : Choice) (R : ℕ → ℕ → Type 0) (n m : ℕ) → AlikeAlong r s connect choice.threshold R
    → AreCounterparts r s connect R n m
    → choice.threshold ≤ℤ level_of_node r connect n
along_counterpart_up r s connect choice R n m a c =
    subst (λ (z : ℤ). choice.threshold ≤ℤ z) (sym (level-of_node r connect n c.one))
    (int_le-true choice.threshold (level r (top_of r connect n))
    (along_low r s connect choice.threshold R a.above (top_of r connect n) (top_of s connect m) c.top))

-- pixel t of r has a partner in s
record HasPartner (r s : Raster) (connect : Connect) (R : ℕ → ℕ → Type 0) (t : ℕ) : Type 0 where
  pub it : ℕ
  pub pair : R t it

-- a pixel of a node is reached from the pixel that represents it, at its level
in_node_reach : (r : Raster) (connect : Connect) (n q : ℕ) → is_in_node r connect n q ≡ true
    → IsTrue (reaches r connect (level r (top_of r connect n)) (top_of r connect n) q)
unfolding is_in_node
in_node_reach r connect n q k = k

-- a node of at least the threshold, on the way from one that has a counterpart or below it, has one too
pub along_nearby : (r s : Raster) (connect : Connect) (choice : Choice) (R : ℕ → ℕ → Type 0) (n m k : ℕ) → IsPlane r → AlikeAlong r s connect choice.threshold R
    → AreCounterparts r s connect R n m
    → k < length (nodes r connect) → choice.threshold ≤ℤ level_of_node r connect k → IsOnWay (tree_of r connect).rows k n ⊎ IsOnWay (tree_of r connect).rows n k
    → HasCounterpartAlong r s connect R k
along_nearby r s connect choice R n m k plane a c hk up w = record {
  it = node_of s connect t.it;
  is = along_counterpart r s connect choice.threshold R a.above k t.it hk t.pair;
}
  where
    low : int_le choice.threshold (level r (top_of r connect k)) ≡ true
    low = subst (λ (z : ℤ). int_le choice.threshold z ≡ true) (level-of_node r connect k hk) (int_le-from choice.threshold (level_of_node r connect k) up)

    reached_from : (x y : ℕ) → x < length (nodes r connect) → y < length (nodes r connect) → IsOnWay (tree_of r connect).rows x y
        → IsTrue (reaches r connect (level r (top_of r connect x)) (top_of r connect x) (top_of r connect y))
    reached_from x y hx hy v =
        in_node_reach r connect x (top_of r connect y) (within_from_way r connect x y plane hx hy v (top_of r connect y) (top_inside r connect y hy))

    go : IsOnWay (tree_of r connect).rows k n ⊎ IsOnWay (tree_of r connect).rows n k → HasPartner r s connect R (top_of r connect k)
    go (inl v) =
        let b : IsReachedThere s connect (level r (top_of r connect k)) R (top_of s connect m) (top_of r connect k) =
        along_reached r s connect choice.threshold R a.above (level r (top_of r connect k)) (top_of r connect n) (top_of s connect m) (top_of r connect k) low
        c.top
        (Nodes.reaches_sym r connect (level r (top_of r connect k)) (top_of r connect k) (top_of r connect n) (reached_from k n hk c.one v)) in
        record { it = b.it; pair = b.pair }
    go (inr v) =
        let b : IsReachedThere s connect (level r (top_of r connect n)) R (top_of s connect m) (top_of r connect k) =
        along_reached r s connect choice.threshold R a.above (level r (top_of r connect n)) (top_of r connect n) (top_of s connect m) (top_of r connect k)
        (along_low r s connect choice.threshold R a.above (top_of r connect n) (top_of s connect m) c.top) c.top (reached_from n k c.one hk v) in
        record { it = b.it; pair = b.pair }

    t : HasPartner r s connect R (top_of r connect k)
    t = go w

-- a node is on the way from its child
on_way_of_child : (r : Raster) (connect : Connect) (x n : ℕ) → parent_of_node r connect n ≡ x → x < length (nodes r connect)
    → IsOnWay (tree_of r connect).rows x n
on_way_of_child r connect x n e l =
    inr (way_of_child (tree_of r connect).rows x n x e
    (let k : length (tree_of r connect).rows ≡ length (nodes r connect) = length-rows r connect in omega arith) (inl refl))

-- ---- ways

-- a node that lies within another does so in the other plane
along_way_there : (r s : Raster) (connect : Connect) (h : ℤ) (R : ℕ → ℕ → Type 0) (n m e d : ℕ) → IsPlane r → IsPlane s → AlikeAlong r s connect h R
    → AreCounterparts r s connect R n m → AreCounterparts r s connect R e d
    → IsOnWay (tree_of r connect).rows e n → IsOnWay (tree_of s connect).rows d m
along_way_there r s connect h R n m e d plane_r plane_s a c k w = way_from_within s connect d m plane_s k.other c.other moved
  where
    within : IsNestedIn r connect n e
    within = within_from_way r connect e n plane_r k.one c.one w

    moved : IsNestedIn s connect m d
    moved q i =
        let t : IsReachedThere r connect (level s (top_of s connect m)) (turned R) (top_of r connect n) q =
        reached_in_node s r connect h (turned R) (along_sym r s connect h R a) m n q (counterparts_sym r s connect h R a.above n m c) i in
        sym (counterparts_in_node r s connect h R a.above e d t.it q k t.pair)
        ∙ within t.it (counterparts_in_node r s connect h R a.above n m t.it q c t.pair ∙ i)

-- ---- entries

-- counterparts are large enough together
pub along_large_same : (r s : Raster) (connect : Connect) (choice : Choice) (R : ℕ → ℕ → Type 0) (n m : ℕ) → IsPlane r → IsPlane s
    → AlikeAlong r s connect choice.threshold R → AreCounterparts r s connect R n m
    → is_large r connect choice n ≡ is_large s connect choice m
unfolding is_large
along_large_same r s connect choice R n m plane_r plane_s a c =
    ap (λ (x : ℕ). nat_le choice.min_area x && int_le choice.min_flux (flux_of r connect n)) (along_area r s connect choice.threshold R a n m c)
    ∙ ap (λ (z : ℤ). nat_le choice.min_area (sums_of s connect m).area && int_le choice.min_flux z)
    (along_flux r s connect choice.threshold R a n m plane_r plane_s c)

-- and lowest of at least the threshold together
along_lowest_same : (r s : Raster) (connect : Connect) (choice : Choice) (R : ℕ → ℕ → Type 0) (n m : ℕ) → IsPlane r → IsPlane s
    → AlikeAlong r s connect choice.threshold R → AreCounterparts r s connect R n m
    → is_lowest r connect choice n ≡ is_lowest s connect choice m
along_lowest_same r s connect choice R n m plane_r plane_s a c = go (along_parents_agree r s connect choice.threshold R a n m plane_r plane_s c)
  where
    go : ParentsAgree r s connect n m → is_lowest r connect choice n ≡ is_lowest s connect choice m
    go (roots e f) = sym (lowest_at_root r connect choice n no_node (sym e) refl) ∙ lowest_at_root s connect choice m no_node (sym f) refl
    go (children k j e hk f hj l) =
        let levels : level_of_node r connect k ≡ level_of_node s connect j = level-of_node r connect k hk ∙ l ∙ sym (level-of_node s connect j hj) in
        sym (lowest_at_child r connect choice n k (int_lt (level_of_node r connect k) choice.threshold) (sym e) (below_no_node r connect k plane_r hk) refl)
        ∙ ap (λ (z : ℤ). int_lt z choice.threshold) levels
        ∙ lowest_at_child s connect choice m j (int_lt (level_of_node s connect j) choice.threshold) (sym f) (below_no_node s connect j plane_s hj) refl

-- and so entries together
pub along_entry_same : (r s : Raster) (connect : Connect) (choice : Choice) (R : ℕ → ℕ → Type 0) (n m : ℕ) → IsPlane r → IsPlane s
    → AlikeAlong r s connect choice.threshold R → AreCounterparts r s connect R n m
    → is_entry r connect choice n ≡ is_entry s connect choice m
unfolding is_entry
along_entry_same r s connect choice R n m plane_r plane_s a c =
    ap (λ (z : ℤ). int_le choice.threshold z && is_lowest r connect choice n && is_large r connect choice n)
    (along_node_level r s connect choice.threshold R a n m c)
    ∙ ap (λ (b : Bool). int_le choice.threshold (level_of_node s connect m) && b && is_large r connect choice n)
    (along_lowest_same r s connect choice R n m plane_r plane_s a c)
    ∙ ap (λ (b : Bool). int_le choice.threshold (level_of_node s connect m) && is_lowest s connect choice m && b)
    (along_large_same r s connect choice R n m plane_r plane_s a c)

-- the entry of a node has its counterpart for the entry of the node's counterpart
pub record HasEntryThere (r s : Raster) (connect : Connect) (choice : Choice) (R : ℕ → ℕ → Type 0) (e m : ℕ) : Type 0 where
  pub it : ℕ
  pub counterpart : AreCounterparts r s connect R e it
  pub is : entry_of s connect choice m ≡ Some it

-- the entry of a node has a counterpart, which is the entry of the node's counterpart
pub along_entry_there : (r s : Raster) (connect : Connect) (choice : Choice) (R : ℕ → ℕ → Type 0) (n m e : ℕ) → IsPlane r → IsPlane s
    → AlikeAlong r s connect choice.threshold R → AreCounterparts r s connect R n m
    → entry_of r connect choice n ≡ Some e → HasEntryThere r s connect choice R e m
along_entry_there r s connect choice R n m e plane_r plane_s a c h = record {
  it = d.it;
  counterpart = d.is;
  is = entry_of-found s connect choice m d.it plane_s c.other (record {
    node = d.is.other;
    entry = sym (along_entry_same r s connect choice R e d.it plane_r plane_s a d.is) ∙ k.entry;
    way = along_way_there r s connect choice.threshold R n m e d.it plane_r plane_s a c d.is k.way;
  });
}
  where
    k : IsEntryOf r connect choice n e
    k = entry_of-parts r connect choice n e plane_r c.one h

    d : HasCounterpartAlong r s connect R e
    d = along_nearby r s connect choice R n m e plane_r a c k.node (entry_parts r connect choice e k.entry).high (inl k.way)

-- ---- strong nodes

-- counterparts have contrast together
along_contrast_same : (r s : Raster) (connect : Connect) (choice : Choice) (R : ℕ → ℕ → Type 0) (n m e d : ℕ) → IsPlane r → IsPlane s
    → AlikeAlong r s connect choice.threshold R
    → AreCounterparts r s connect R n m → AreCounterparts r s connect R e d → has_contrast r connect choice n e ≡ has_contrast s connect choice m d
unfolding has_contrast
along_contrast_same r s connect choice R n m e d plane_r plane_s a c k =
    ap (λ (z : ℤ). int_le (pos choice.contrast *ℤ z) (pos 1000 *ℤ flux_of r connect n)) (along_flux r s connect choice.threshold R a e d plane_r plane_s k)
    ∙ ap (λ (z : ℤ). int_le (pos choice.contrast *ℤ flux_of s connect d) (pos 1000 *ℤ z)) (along_flux r s connect choice.threshold R a n m plane_r plane_s c)

-- a counterpart of a strong node is strong
pub along_strong_there : (r s : Raster) (connect : Connect) (choice : Choice) (R : ℕ → ℕ → Type 0) (n m : ℕ) → IsPlane r → IsPlane s
    → AlikeAlong r s connect choice.threshold R → AreCounterparts r s connect R n m
    → is_strong r connect choice n ≡ true → is_strong s connect choice m ≡ true
along_strong_there r s connect choice R n m plane_r plane_s a c h =
    strong-in s connect choice m d.it d.is
    ∙ sym (ap (λ (b : Bool). b && has_contrast s connect choice m d.it) (along_large_same r s connect choice R n m plane_r plane_s a c))
    ∙ sym (ap (λ (b : Bool). is_large r connect choice n && b) (along_contrast_same r s connect choice R n m k.it d.it plane_r plane_s a c d.counterpart))
    ∙ sym (strong-in r connect choice n k.it k.is)
    ∙ h
  where
    k : HasEntry r connect choice n
    k = strong_entry r connect choice n h

    d : HasEntryThere r s connect choice R k.it m
    d = along_entry_there r s connect choice R n m k.it plane_r plane_s a c k.is

-- ---- splits

-- two strong children are so in the other plane
along_twins_there : (r s : Raster) (connect : Connect) (choice : Choice) (R : ℕ → ℕ → Type 0) (x y p q u v : ℕ) → IsPlane r → IsPlane s
    → AlikeAlong r s connect choice.threshold R
    → AreCounterparts r s connect R x y → AreCounterparts r s connect R p u → AreCounterparts r s connect R q v
    → AreTwins r connect choice x p q → AreTwins s connect choice y u v
along_twins_there r s connect choice R x y p q u v plane_r plane_s a cx cp cq k = record {
  apart = λ e. k.apart
      (counterparts_unique s r connect choice.threshold (turned R) (along_sym r s connect choice.threshold R a).above u p q
      (counterparts_sym r s connect choice.threshold R a.above p u cp)
      (subst (λ (z : ℕ). AreCounterparts s r connect (turned R) z q) (sym e) (counterparts_sym r s connect choice.threshold R a.above q v cq)));
  one_child = along_parent_there r s connect choice.threshold R a p u x y plane_r cp cx k.one_child;
  other_child = along_parent_there r s connect choice.threshold R a q v x y plane_r cq cx k.other_child;
  one_strong = along_strong_there r s connect choice R p u plane_r plane_s a cp k.one_strong;
  other_strong = along_strong_there r s connect choice R q v plane_r plane_s a cq k.other_strong;
  entry = d.it;
  one_entry = d.is;
  other_entry = f.is ∙ ap Some (counterparts_unique r s connect choice.threshold R a.above k.entry f.it d.it f.counterpart d.counterpart);
}
  where
    d : HasEntryThere r s connect choice R k.entry u
    d = along_entry_there r s connect choice R p u k.entry plane_r plane_s a cp k.one_entry

    f : HasEntryThere r s connect choice R k.entry v
    f = along_entry_there r s connect choice R q v k.entry plane_r plane_s a cq k.other_entry

-- so a counterpart of a split is a split
pub along_split_there : (r s : Raster) (connect : Connect) (choice : Choice) (R : ℕ → ℕ → Type 0) (x y : ℕ) → IsPlane r → IsPlane s
    → AlikeAlong r s connect choice.threshold R → AreCounterparts r s connect R x y
    → is_split r connect choice x ≡ true → is_split s connect choice y ≡ true
along_split_there r s connect choice R x y plane_r plane_s a c h =
    split_from s connect choice y u.it v.it u.is.other v.is.other
    (along_twins_there r s connect choice R x y k.first k.second u.it v.it plane_r plane_s a c u.is v.is k.twins)
  where
    k : IsSplitNode r connect choice x
    k = split_parts r connect choice x h

    u : HasCounterpartAlong r s connect R k.first
    u = along_nearby r s connect choice R x y k.first plane_r a c k.first_node (strong_up r connect choice k.first plane_r k.first_node k.twins.one_strong)
        (inr (on_way_of_child r connect x k.first k.twins.one_child c.one))

    v : HasCounterpartAlong r s connect R k.second
    v = along_nearby r s connect choice R x y k.second plane_r a c k.second_node
        (strong_up r connect choice k.second plane_r k.second_node k.twins.other_strong)
        (inr (on_way_of_child r connect x k.second k.twins.other_child c.one))

-- one of a node that contains a split contains one
pub along_contains_there : (r s : Raster) (connect : Connect) (choice : Choice) (R : ℕ → ℕ → Type 0) (n m : ℕ) → IsPlane r → IsPlane s
    → AlikeAlong r s connect choice.threshold R → AreCounterparts r s connect R n m
    → contains_split r connect choice n ≡ true → contains_split s connect choice m ≡ true
along_contains_there r s connect choice R n m plane_r plane_s a c h = contains_from s connect choice m plane_s c.other (record {
  split = d.it;
  node = d.is.other;
  way = along_way_there r s connect choice.threshold R k.split d.it n m plane_r plane_s a d.is c k.way;
  is_split = along_split_there r s connect choice R k.split d.it plane_r plane_s a d.is k.is_split;
})
  where
    k : ContainsSplit r connect choice n
    k = contains_parts r connect choice n plane_r c.one h

    d : HasCounterpartAlong r s connect R k.split
    d = along_nearby r s connect choice R n m k.split plane_r a c k.node
        (up_from_way r connect choice n k.split plane_r c.one k.node k.way (along_counterpart_up r s connect choice R n m a c)) (inr k.way)

-- and one of a node with a strong sibling has one
pub along_sibling_there : (r s : Raster) (connect : Connect) (choice : Choice) (R : ℕ → ℕ → Type 0) (n m : ℕ) → IsPlane r → IsPlane s
    → AlikeAlong r s connect choice.threshold R → AreCounterparts r s connect R n m
    → has_strong_sibling r connect choice n ≡ true → has_strong_sibling s connect choice m ≡ true
along_sibling_there r s connect choice R n m plane_r plane_s a c h = sibling_from s connect choice m plane_s c.other (record {
  node = subst (λ (x : ℕ). x < length (nodes s connect)) (sym up) d.is.other;
  strong = along_strong_there r s connect choice R n m plane_r plane_s a c k.strong;
  split = subst (λ (x : ℕ). is_split s connect choice x ≡ true) (sym up)
      (along_split_there r s connect choice R (parent_of_node r connect n) d.it plane_r plane_s a d.is k.split);
})
  where
    k : HasSibling r connect choice n
    k = sibling_parts r connect choice n plane_r c.one h

    d : HasCounterpartAlong r s connect R (parent_of_node r connect n)
    d = along_nearby r s connect choice R n m (parent_of_node r connect n) plane_r a c k.node
        (split_up r connect choice (parent_of_node r connect n) plane_r k.node k.split)
        (inl (on_way_of_child r connect (parent_of_node r connect n) n refl k.node))

    up : parent_of_node s connect m ≡ d.it
    up = along_parent_there r s connect choice.threshold R a n m (parent_of_node r connect n) d.it plane_r c d.is refl

-- ---- sources

-- so a counterpart of a source is a source
pub along_source_there : (r s : Raster) (connect : Connect) (choice : Choice) (R : ℕ → ℕ → Type 0) (n m : ℕ) → IsPlane r → IsPlane s
    → AlikeAlong r s connect choice.threshold R → AreCounterparts r s connect R n m
    → is_source r connect choice n ≡ true → is_source s connect choice m ≡ true
along_source_there r s connect choice R n m plane_r plane_s a c h = source_from s connect choice m (record { stands = go parts.stands; whole = whole })
  where
    parts : SourceParts r connect choice n
    parts = source_parts r connect choice n h

    go : (is_entry r connect choice n ≡ true) ⊎ (has_strong_sibling r connect choice n ≡ true)
        → (is_entry s connect choice m ≡ true) ⊎ (has_strong_sibling s connect choice m ≡ true)
    go (inl e) = inl (sym (along_entry_same r s connect choice R n m plane_r plane_s a c) ∙ e)
    go (inr k) = inr (along_sibling_there r s connect choice R n m plane_r plane_s a c k)

    whole : contains_split s connect choice m ≡ false
    whole = false_from_ne_true (contains_split s connect choice m) (λ k.
        true≢false (sym (along_contains_there s r connect choice (turned R) m n plane_s plane_r (along_sym r s connect choice.threshold R a)
        (counterparts_sym r s connect choice.threshold R a.above n m c) k) ∙ parts.whole))
