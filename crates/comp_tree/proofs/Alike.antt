-- Two planes with the same pixels of at least one level: each such pixel is paired with itself, so at this level and above their
-- components are the same.
use Rattle.std.proofs.Common.{◌≡◌, ℕ, ◌<◌, Bool, true, length, refl, sym, ◌∙◌, ap, subst, arith}
use Rattle.std.specs.Prelude.{IsTrue, ℤ, int_le, Option, pos, unwrap_or, filter}
use Rattle.std.specs.List.{range_with_len}
use Rattle.comp_tree.specs.declared.shape.Connect.{Connect}
use Rattle.comp_tree.specs.Raster.{Raster, pixels, value_at, at_least, level, is_at_least}
use Rattle.comp_tree.specs.Grid.{are_neighbours, IsAdjacency}
use Rattle.comp_tree.specs.Components.{reaches, nodes, node_of, is_in_node}
use Rattle.comp_tree.specs.Laws.{top_of}
use Rattle.comp_tree.specs.Nesting.{pixels_of}
use Rattle.lemmas.proofs.Exported.{same_bool}
use Rattle.comp_tree.proofs.Adjacent.{adjacent_ends, adjacent_from}
use Rattle.comp_tree.proofs.Reaching.{defined_from_at_least}
use Rattle.comp_tree.proofs.Nodes.{at_least-lower, level_from_at_least, reaches_end, reaches_start}
use Rattle.comp_tree.proofs.Along.{turned, HasPartnerBeside, ArePairedAbove, IsReachedThere, AreCounterparts, along_reached, along_counterpart}
use Rattle.comp_tree.proofs.Along.{counterparts_in_node}

-- what two such planes share
pub record AlikeAbove (r s : Raster) (h : ℤ) : Type 0 where
  pub width : r.shape.width ≡ s.shape.width
  pub size : length r.values ≡ length s.values
  pub one : (p : ℕ) → IsTrue (is_at_least r h p) → value_at r.values p ≡ value_at s.values p
  pub other : (p : ℕ) → IsTrue (is_at_least s h p) → value_at r.values p ≡ value_at s.values p

-- a pixel of at least h with itself
abbrev pub InPlace : Raster → ℤ → ℕ → ℕ → Type 0
InPlace r h p q = (p ≡ q) × IsTrue (is_at_least r h p)

-- ---- threshold sets

-- this holds both ways
pub above_sym : (r s : Raster) (h : ℤ) → AlikeAbove r s h → AlikeAbove s r h
above_sym r s h a = record { width = sym a.width; size = sym a.size; one = λ p k. sym (a.other p k); other = λ p k. sym (a.one p k) }

-- what has at least h in one plane has it in the other
above_high : (r s : Raster) (h : ℤ) (p : ℕ) → AlikeAbove r s h → IsTrue (is_at_least r h p) → IsTrue (is_at_least s h p)
above_high r s h p a k = subst (λ (v : Option ℤ). at_least h v ≡ true) (a.one p k) k

-- a pixel of at least h has one level
pub above_level : (r s : Raster) (h : ℤ) (p : ℕ) → AlikeAbove r s h → IsTrue (is_at_least r h p) → level r p ≡ level s p
unfolding level
above_level r s h p a k = ap (λ (v : Option ℤ). unwrap_or v (pos 0)) (a.one p k)

-- what is reached at a level of at least h has at least h
pub reached_high : (r : Raster) (connect : Connect) (h k : ℤ) (p q : ℕ) → int_le h k ≡ true → IsTrue (reaches r connect k p q) → IsTrue (is_at_least r h q)
reached_high r connect h k p q l m = at_least-lower r h k q l (reaches_end r connect k p q m)

-- both planes have the same number of pixels
pub above_pixels : (r s : Raster) (h : ℤ) → AlikeAbove r s h → pixels r ≡ pixels s
unfolding pixels
above_pixels r s h a = ap (range_with_len 0) a.size

-- ---- the pairs

-- adjacent pixels of at least h are adjacent in the other plane
step_above : (r s : Raster) (connect : Connect) (h : ℤ) (p x : ℕ) → AlikeAbove r s h → IsTrue (is_at_least r h p) → IsTrue (is_at_least r h x)
    → IsAdjacency r.values r.shape.width connect p x → IsAdjacency s.values s.shape.width connect p x
step_above r s connect h p x a k l e = adjacent_from s.values s.shape.width connect p x
    (defined_from_at_least s h p (above_high r s h p a k)) (defined_from_at_least s h x (above_high r s h x a l))
    (subst (λ (w : ℕ). IsTrue (are_neighbours connect w p x)) a.width (adjacent_ends r.values r.shape.width connect p x e).2)

-- the pixels of at least h are paired in place
pub in_place_above : (r s : Raster) (connect : Connect) (h : ℤ) → AlikeAbove r s h → ArePairedAbove r s connect h (InPlace r h)
in_place_above r s connect h a = record {
  high = λ p q c. c.1;
  same = λ p q c. subst (λ (x : ℕ). value_at r.values p ≡ value_at s.values x) c.0 (a.one p c.1);
  order = λ p q x b c d. let u : p ≡ q = c.0 in let v : x ≡ b = d.0 in (λ l. omega (arith, u, v, l), λ l. omega (arith, u, v, l));
  there = there;
  back = back;
}
  where
    there : (p q x : ℕ) → InPlace r h p q → IsAdjacency r.values r.shape.width connect p x → IsTrue (is_at_least r h x)
        → HasPartnerBeside s connect (InPlace r h) x q
    there p q x c e k =
        let g : IsAdjacency s.values s.shape.width connect p x = step_above r s connect h p x a c.1 k e in
        record { it = x; adjacent = subst (λ (y : ℕ). IsAdjacency s.values s.shape.width connect y x) c.0 g; pair = (refl, k) }

    back : (p q b : ℕ) → InPlace r h p q → IsAdjacency s.values s.shape.width connect q b → IsTrue (is_at_least s h b)
        → HasPartnerBeside r connect (turned (InPlace r h)) b p
    back p q b c e k = record {
      it = b;
      adjacent = step_above s r connect h p b (above_sym r s h a) (above_high r s h p a c.1) k
          (subst (λ (y : ℕ). IsAdjacency s.values s.shape.width connect y b) (sym c.0) e);
      pair = (refl, above_high s r h b (above_sym r s h a) k);
    }

-- what is reached at a level of at least h is reached in the other plane
pub above_reached : (r s : Raster) (connect : Connect) (h k : ℤ) (p q : ℕ) → AlikeAbove r s h → int_le h k ≡ true → IsTrue (reaches r connect k p q)
    → IsTrue (reaches s connect k p q)
above_reached r s connect h k p q a l m = subst (λ (x : ℕ). IsTrue (reaches s connect k p x)) (sym g.pair.0) g.reached
  where
    g : IsReachedThere s connect k (InPlace r h) p q
    g = along_reached r s connect h (InPlace r h) (in_place_above r s connect h a) k p p q l
        (refl, at_least-lower r h k p l (reaches_start r connect k p q m)) m

-- ---- nodes

-- node m of s is the counterpart of node n of r: the same pixel represents both, and has at least h
pub record IsCounterpart (r s : Raster) (connect : Connect) (h : ℤ) (n m : ℕ) : Type 0 where
  pub one : n < length (nodes r connect)
  pub other : m < length (nodes s connect)
  pub top : top_of r connect n ≡ top_of s connect m
  pub high : IsTrue (is_at_least r h (top_of r connect n))

-- so the two are counterparts along the pairs
pub pair_in_place : (r s : Raster) (connect : Connect) (h : ℤ) (n m : ℕ) → IsCounterpart r s connect h n m → AreCounterparts r s connect (InPlace r h) n m
pair_in_place r s connect h n m c = record { one = c.one; other = c.other; top = (c.top, c.high) }

-- and the other way round
pub counterpart_in_place : (r s : Raster) (connect : Connect) (h : ℤ) (n m : ℕ) → AreCounterparts r s connect (InPlace r h) n m
    → IsCounterpart r s connect h n m
counterpart_in_place r s connect h n m c = record { one = c.one; other = c.other; top = c.top.0; high = c.top.1 }

-- each node of at least h has a counterpart
pub counterpart : (r s : Raster) (connect : Connect) (h : ℤ) (n : ℕ) → AlikeAbove r s h → n < length (nodes r connect)
    → IsTrue (is_at_least r h (top_of r connect n))
    → IsCounterpart r s connect h n (node_of s connect (top_of r connect n))
counterpart r s connect h n a hn k =
    counterpart_in_place r s connect h n (node_of s connect (top_of r connect n))
    (along_counterpart r s connect h (InPlace r h) (in_place_above r s connect h a) n (top_of r connect n) hn (refl, k))

-- the other way round too
pub counterpart_sym : (r s : Raster) (connect : Connect) (h : ℤ) (n m : ℕ) → AlikeAbove r s h → IsCounterpart r s connect h n m
    → IsCounterpart s r connect h m n
counterpart_sym r s connect h n m a c = record {
  one = c.other;
  other = c.one;
  top = sym c.top;
  high = subst (λ (p : ℕ). IsTrue (is_at_least s h p)) c.top (above_high r s h (top_of r connect n) a c.high);
}

-- each pixel of a node whose representative has at least h has at least h
inside_high : (r : Raster) (connect : Connect) (h : ℤ) (n q : ℕ) → IsTrue (is_at_least r h (top_of r connect n)) → is_in_node r connect n q ≡ true
    → IsTrue (is_at_least r h q)
unfolding is_in_node
inside_high r connect h n q k m =
    reached_high r connect h (level r (top_of r connect n)) (top_of r connect n) q (level_from_at_least r h (top_of r connect n) k) m

-- the components of counterparts are the same
pub counterpart_test : (r s : Raster) (connect : Connect) (h : ℤ) (n m : ℕ) → AlikeAbove r s h → IsCounterpart r s connect h n m
    → is_in_node r connect n ≡ is_in_node s connect m
counterpart_test r s connect h n m a c = λ i q. at q i
  where
    same : (q : ℕ) → IsTrue (is_at_least r h q) → is_in_node r connect n q ≡ is_in_node s connect m q
    same q k = counterparts_in_node r s connect h (InPlace r h) (in_place_above r s connect h a) n m q q (pair_in_place r s connect h n m c) (refl, k)

    back : IsCounterpart s r connect h m n
    back = counterpart_sym r s connect h n m a c

    at : (q : ℕ) → is_in_node r connect n q ≡ is_in_node s connect m q
    at q =
        same_bool (is_in_node r connect n q) (is_in_node s connect m q) (λ k. sym (same q (inside_high r connect h n q c.high k)) ∙ k)
        (λ k. same q (above_high s r h q (above_sym r s h a) (inside_high s connect h m q back.high k)) ∙ k)

-- and so are the lists of their pixels
pub counterpart_pixels : (r s : Raster) (connect : Connect) (h : ℤ) (n m : ℕ) → AlikeAbove r s h → IsCounterpart r s connect h n m
    → pixels_of r connect n ≡ pixels_of s connect m
unfolding pixels_of
counterpart_pixels r s connect h n m a c =
    ap (λ (f : ℕ → Bool). filter f (pixels r)) (counterpart_test r s connect h n m a c) ∙ ap (filter (is_in_node s connect m)) (above_pixels r s h a)
