-- In two planes that are alike along pairs of pixels the parents of counterparts have one level.
use Rattle.std.proofs.Common.{◌≡◌, ℕ, ◌<◌, true, length, sym, ◌∙◌, ap, subst}
use Rattle.std.specs.Prelude.{IsTrue, ℤ, int_le, int_lt, Option, unwrap_or, pos}
use Rattle.lemmas.proofs.Exported.{int_le_antisym, int_le_trans}
use Rattle.comp_tree.specs.declared.shape.Connect.{Connect}
use Rattle.comp_tree.specs.Raster.{Raster, IsPlane, value_at, level}
use Rattle.comp_tree.specs.ComponentTree.{no_node}
use Rattle.comp_tree.specs.Components.{reaches, nodes, is_candidate}
use Rattle.comp_tree.specs.Laws.{top_of, parent_of_node}
use Rattle.comp_tree.proofs.Exported.{node_of_top, IsParent, parent-candidate, parent-of_node, turned}
use Rattle.comp_tree.proofs.Exported.{AlikeAlong, AreCounterparts, HasLikeBeside, IsReachedThere, along_sym, along_low, along_level, along_reached}
use Rattle.comp_tree.proofs.Exported.{along_reaches}
use Rattle.comp_tree.proofs.Exported.{counterparts_sym, counterparts_level}
use Rattle.comp_tree.proofs.Exported as Nodes
use Rattle.source_pick.proofs.LocalityBordering.{IsBorder, HasBorder, border_from_candidate, candidate_from_border, HasCandidate, ParentIs, is_root, is_child}
use Rattle.source_pick.proofs.LocalityBordering.{parent_is}

-- the parents of a node and of its counterpart
pub data ParentsAgree (r s : Raster) (connect : Connect) (n m : ℕ) : Type 0 where
  roots : parent_of_node r connect n ≡ no_node → parent_of_node s connect m ≡ no_node → ParentsAgree r s connect n m
  children : (k j : ℕ) → parent_of_node r connect n ≡ k → k < length (nodes r connect) → parent_of_node s connect m ≡ j → j < length (nodes s connect)
      → level r (top_of r connect k) ≡ level s (top_of s connect j) → ParentsAgree r s connect n m

-- a border of p's partner, with the value of x
record HasBorderThere (r s : Raster) (connect : Connect) (q x : ℕ) : Type 0 where
  pub it : ℕ
  pub is : IsBorder s connect q it
  pub same : level r x ≡ level s it

-- equal values have one level
level_of_value : (r s : Raster) (y z : ℕ) → value_at r.values y ≡ value_at s.values z → level r y ≡ level s z
unfolding level
level_of_value r s y z e = ap (λ (v : Option ℤ). unwrap_or v (pos 0)) e

module _ (r s : Raster) (connect : Connect) (h : ℤ) (R : ℕ → ℕ → Type 0) (a : AlikeAlong r s connect h R) where
  -- a border of p, in the other plane
  along_border : (p q x : ℕ) → R p q → IsBorder r connect p x → HasBorderThere r s connect q x
  along_border p q x c b = record {
    it = g.it;
    is = record {
      member = t.it;
      inside = subst (λ (z : ℤ). IsTrue (reaches s connect z q t.it)) same t.reached;
      adjacent = g.adjacent;
      lower = subst (λ (z : ℤ). int_lt (level s g.it) z ≡ true) same (subst (λ (z : ℤ). int_lt z (level r p) ≡ true) level_near_moved b.lower);
    };
    same = level_near_moved;
  }
    where
      same : level r p ≡ level s q
      same = along_level r s connect h R a.above p q c

      t : IsReachedThere s connect (level r p) R q b.member
      t = along_reached r s connect h R a.above (level r p) p q b.member (along_low r s connect h R a.above p q c) c b.inside

      g : HasLikeBeside r s connect x t.it
      g = a.there b.member t.it x t.pair b.adjacent

      level_near_moved : level r x ≡ level s g.it
      level_near_moved = level_of_value r s x g.it g.same

  -- what is below p, as something below p's partner of at least its value
  along_candidate : (p q x : ℕ) → R p q → Nodes.IsCandidate r connect p x → HasCandidate s connect q (level r x)
  along_candidate p q x c k =
      let b : HasBorder r connect p (level r x) = border_from_candidate r connect p x k in
      let d : HasBorderThere r s connect q b.it = along_border p q b.it c b.is in
      record { it = d.it; is = candidate_from_border s connect q d.it d.is; enough = subst (λ (z : ℤ). int_le (level r x) z ≡ true) d.same b.enough }

  -- the greatest value below a node is at most the greatest below its counterpart
  along_parent_le : (n m k j : ℕ) → AreCounterparts r s connect R n m → IsParent r connect k n → IsParent s connect j m
      → int_le (level r (top_of r connect k)) (level s (top_of s connect j)) ≡ true
  along_parent_le n m k j c p q =
      let b : HasCandidate s connect (top_of s connect m) (level r (top_of r connect k)) =
      along_candidate (top_of r connect n) (top_of s connect m) (top_of r connect k) c.top p.candidate in
      int_le_trans (level r (top_of r connect k)) (level s b.it) (level s (top_of s connect j)) b.enough (q.highest b.it b.is)

module _ (r s : Raster) (connect : Connect) (h : ℤ) (R : ℕ → ℕ → Type 0) (a : AlikeAlong r s connect h R) where
  along_back : AlikeAlong s r connect h (turned R)
  along_back = along_sym r s connect h R a

  -- a node and its counterpart are both roots, or their parents have one level
  pub along_parents_agree : (n m : ℕ) → IsPlane r → IsPlane s → AreCounterparts r s connect R n m → ParentsAgree r s connect n m
  along_parents_agree n m plane_r plane_s c = go (parent_is r connect n plane_r c.one) (parent_is s connect m plane_s c.other)
    where
      back : AreCounterparts s r connect (turned R) m n
      back = counterparts_sym r s connect h R a.above n m c

      go : ParentIs r connect n → ParentIs s connect m → ParentsAgree r s connect n m
      go (is_root e none) (is_root f empty) = roots e f
      go (is_root e none) (is_child j f hj q) =
          let b : HasCandidate r connect (top_of r connect n) (level s (top_of s connect j)) =
          along_candidate s r connect h (turned R) along_back (top_of s connect m) (top_of r connect n) (top_of s connect j) back.top q.candidate in
          absurd (none b.it b.is)
      go (is_child k e hk p) (is_root f empty) =
          let b : HasCandidate s connect (top_of s connect m) (level r (top_of r connect k)) =
          along_candidate r s connect h R a (top_of r connect n) (top_of s connect m) (top_of r connect k) c.top p.candidate in
          absurd (empty b.it b.is)
      go (is_child k e hk p) (is_child j f hj q) = children k j e hk f hj
          (int_le_antisym (level r (top_of r connect k)) (level s (top_of s connect j)) (along_parent_le r s connect h R a n m k j c p q)
          (along_parent_le s r connect h (turned R) along_back m n j k back q p))

  -- a parent of at least h has the counterpart's parent for its counterpart
  pub along_parent_there : (n m k j : ℕ) → IsPlane r → AreCounterparts r s connect R n m → AreCounterparts r s connect R k j
      → parent_of_node r connect n ≡ k → parent_of_node s connect m ≡ j
  along_parent_there n m k j plane c d e =
      parent-of_node s connect m c.other
      ∙ Nodes.parent-is s connect (top_of s connect m) (top_of s connect j) (Nodes.candidate-from s connect (top_of s connect m) (top_of s connect j) there)
      highest
      ∙ node_of_top s connect j d.other
    where
      p : IsParent r connect k n
      p = parent-candidate r connect k n plane c.one d.one (sym (parent-of_node r connect n c.one) ∙ e)

      level_n : level r (top_of r connect n) ≡ level s (top_of s connect m)
      level_n = counterparts_level r s connect h R a.above n m c

      level_k : level r (top_of r connect k) ≡ level s (top_of s connect j)
      level_k = counterparts_level r s connect h R a.above k j d

      there : Nodes.IsCandidate s connect (top_of s connect m) (top_of s connect j)
      there = record {
        lower = subst (λ (z : ℤ). int_lt z (level s (top_of s connect m)) ≡ true) level_k
            (subst (λ (z : ℤ). int_lt (level r (top_of r connect k)) z ≡ true) level_n p.candidate.lower);
        reaches_it = subst (λ (z : ℤ). IsTrue (reaches s connect z (top_of s connect j) (top_of s connect m))) level_k
            (sym (along_reaches r s connect h R a.above (level r (top_of r connect k)) (top_of r connect k) (top_of s connect j) (top_of r connect n)
            (top_of s connect m)
            (along_low r s connect h R a.above (top_of r connect k) (top_of s connect j) d.top) d.top c.top) ∙ p.candidate.reaches_it);
      }

      highest : (t : ℕ) → IsTrue (is_candidate s connect (top_of s connect m) t) → int_le (level s t) (level s (top_of s connect j)) ≡ true
      highest t k_t =
          let b : HasCandidate r connect (top_of r connect n) (level s t) =
          along_candidate s r connect h (turned R) along_back (top_of s connect m) (top_of r connect n) t c.top
          (Nodes.candidate-parts s connect (top_of s connect m) t k_t) in
          subst (λ (z : ℤ). int_le (level s t) z ≡ true) level_k
          (int_le_trans (level s t) (level r b.it) (level r (top_of r connect k)) b.enough (p.highest b.it b.is))
