-- Pairs of pixels of two planes, one of each: where they keep values and order, and with a pixel those of at least one level beside it are
-- paired too, the components of paired pixels are paired at this level and above, and so are their nodes. Planes that have the same pixels
-- of at least a level are so in place, and a plane and its window for the components that the window shows.
use Rattle.std.proofs.Common.{◌≡◌, ℕ, ◌<◌, ◌≤◌, true, length, sym, ◌∙◌, ap, subst, arith, ◌⊎◌, inl, inr}
use Rattle.std.specs.Prelude.{IsTrue, ℤ, int_le, Option, pos, unwrap_or, ◌↔◌}
use Rattle.std.proofs.lemmas.Bool.{cases_lt}
use Rattle.comp_tree.specs.declared.shape.Connect.{Connect}
use Rattle.comp_tree.specs.Raster.{Raster, value_at, at_least, is_defined, level, is_at_least}
use Rattle.comp_tree.specs.Grid.{IsAdjacency}
use Rattle.comp_tree.specs.Joined.{IsPairOf}
use Rattle.comp_tree.specs.Components.{reaches, representative, nodes, node_of, is_in_node}
use Rattle.comp_tree.specs.Laws.{top_of}
use Rattle.comp_tree.specs.Nesting.{pixels_of}
use Rattle.lemmas.proofs.Exported.{same_bool}
use Rattle.lemmas.proofs.Exported.{IsAmong}
use Rattle.comp_tree.proofs.Adjacent.{adjacent_turned}
use Rattle.comp_tree.proofs.Joining.{joined_pair, along_joined}
use Rattle.comp_tree.proofs.Reaching.{defined_from_at_least, reaches-is_IsReached}
use Rattle.comp_tree.proofs.Ordering.{ordered-same_place}
use Rattle.comp_tree.proofs.Components.{top-representative}
use Rattle.comp_tree.proofs.Nesting.{among_pixels, in_node_from_among, rising_pixels_of}
use Rattle.comp_tree.proofs.Nodes.{IsPlace, IsRepresentative, at_least-lower, is_representative-parts, level_from_at_least, node_of-is, nodes-ordered}
use Rattle.comp_tree.proofs.Nodes.{reaches_end, reaches_here, reaches_start, reaches_trans, representative-is, representative-unique}
use Rattle.lemmas.proofs.Exported.{ArePaired, HasPartnerIn, paired_from_rising}

-- the pairs in their other order
abbrev pub turned : (ℕ → ℕ → Type 0) → ℕ → ℕ → Type 0
turned R q p = R p q

-- a pixel of s that is adjacent to q and the partner of a
pub record HasPartnerBeside (s : Raster) (connect : Connect) (R : ℕ → ℕ → Type 0) (a q : ℕ) : Type 0 where
  pub it : ℕ
  pub adjacent : IsAdjacency s.values s.shape.width connect q it
  pub pair : R a it

-- a pixel of s that is adjacent to q and has the value of a in r
pub record HasLikeBeside (r s : Raster) (connect : Connect) (a q : ℕ) : Type 0 where
  pub it : ℕ
  pub adjacent : IsAdjacency s.values s.shape.width connect q it
  pub same : value_at r.values a ≡ value_at s.values it

-- pairs of pixels of at least h, of the same value, in the same order, and with them the pixels of at least h beside them: so whole
-- components of the threshold set of h are paired
pub record ArePairedAbove (r s : Raster) (connect : Connect) (h : ℤ) (R : ℕ → ℕ → Type 0) : Type 0 where
  pub high : (p q : ℕ) → R p q → IsTrue (is_at_least r h p)
  pub same : (p q : ℕ) → R p q → value_at r.values p ≡ value_at s.values q
  pub order : (p q a b : ℕ) → R p q → R a b → (p < a) ↔ (q < b)
  pub there : (p q a : ℕ) → R p q → IsAdjacency r.values r.shape.width connect p a → IsTrue (is_at_least r h a) → HasPartnerBeside s connect R a q
  pub back : (p q b : ℕ) → R p q → IsAdjacency s.values s.shape.width connect q b → IsTrue (is_at_least s h b) → HasPartnerBeside r connect (turned R) b p

-- and beside paired pixels the values below h are the same too
pub record AlikeAlong (r s : Raster) (connect : Connect) (h : ℤ) (R : ℕ → ℕ → Type 0) : Type 0 where
  pub above : ArePairedAbove r s connect h R
  pub there : (p q a : ℕ) → R p q → IsAdjacency r.values r.shape.width connect p a → HasLikeBeside r s connect a q
  pub back : (p q b : ℕ) → R p q → IsAdjacency s.values s.shape.width connect q b → HasLikeBeside s r connect b p

-- an adjacency goes both ways
pub one_way : (r : Raster) (connect : Connect) (a b : ℕ) → IsPairOf (IsAdjacency r.values r.shape.width connect) a b
    → IsAdjacency r.values r.shape.width connect a b
one_way r connect a b (inl e) = e
one_way r connect a b (inr e) = adjacent_turned r.values r.shape.width connect b a e

-- a pixel that p's partner reaches, as p's partner's partner
pub record IsReachedThere (s : Raster) (connect : Connect) (k : ℤ) (R : ℕ → ℕ → Type 0) (q a : ℕ) : Type 0 where
  pub it : ℕ
  pub pair : R a it
  pub reached : IsTrue (reaches s connect k q it)

-- node m of s is the counterpart of node n of r: the pixels that represent them are a pair
pub record AreCounterparts (r s : Raster) (connect : Connect) (R : ℕ → ℕ → Type 0) (n m : ℕ) : Type 0 where
  pub one : n < length (nodes r connect)
  pub other : m < length (nodes s connect)
  pub top : R (top_of r connect n) (top_of s connect m)

-- both relations can be turned
pub paired_sym : (r s : Raster) (connect : Connect) (h : ℤ) (R : ℕ → ℕ → Type 0) → ArePairedAbove r s connect h R → ArePairedAbove s r connect h (turned R)
paired_sym r s connect h R a = record {
  high = λ q p c. subst (λ (v : Option ℤ). at_least h v ≡ true) (a.same p q c) (a.high p q c);
  same = λ q p c. sym (a.same p q c);
  order = λ q p b x c d. ((a.order p q x b c d).1, (a.order p q x b c d).0);
  there = λ q p b c e k. a.back p q b c e k;
  back = λ q p x c e k. a.there p q x c e k;
}

pub along_sym : (r s : Raster) (connect : Connect) (h : ℤ) (R : ℕ → ℕ → Type 0) → AlikeAlong r s connect h R → AlikeAlong s r connect h (turned R)
along_sym r s connect h R a = record {
  above = paired_sym r s connect h R a.above;
  there = λ q p b c e. a.back p q b c e;
  back = λ q p x c e. a.there p q x c e;
}

module _ (r s : Raster) (connect : Connect) (h : ℤ) (R : ℕ → ℕ → Type 0) (a : ArePairedAbove r s connect h R) where
  -- ---- pairs

  -- a pixel has one partner at most
  pub along_one : (p q b : ℕ) → R p q → R p b → q ≡ b
  along_one p q b c d = go (cases_lt q b) (cases_lt b q)
    where
      go : (q < b) ⊎ (b ≤ q) → (b < q) ⊎ (q ≤ b) → q ≡ b
      go (inl l) m = let k : p < p = (a.order p q p b c d).1 l in absurd (omega arith)
      go (inr l) (inl m) = let k : p < p = (a.order p b p q d c).1 m in absurd (omega arith)
      go (inr l) (inr m) = omega arith

  -- partners have one level
  pub along_level : (p q : ℕ) → R p q → level r p ≡ level s q
  unfolding level
  along_level p q c = ap (λ (v : Option ℤ). unwrap_or v (pos 0)) (a.same p q c)

  -- and belong to the same threshold sets
  pub along_high : (k : ℤ) (p q : ℕ) → R p q → IsTrue (is_at_least r k p) → IsTrue (is_at_least s k q)
  along_high k p q c i = subst (λ (v : Option ℤ). at_least k v ≡ true) (a.same p q c) i

  -- ---- reach

  -- what p reaches, at h or above, has a partner that the partner of p reaches
  pub along_reached : (k : ℤ) (p q t : ℕ) → int_le h k ≡ true → R p q → IsTrue (reaches r connect k p t) → IsReachedThere s connect k R q t
  along_reached k p q t l c m = along_joined (IsReachedThere s connect k R q) step ((reaches-is_IsReached r connect k p t).0 m) start
    where
      start : IsReachedThere s connect k R q p
      start = record { it = q; pair = c; reached = reaches_here s connect k q (along_high k p q c (reaches_start r connect k p t m)) }

      step : (x y : ℕ) → IsReachedThere s connect k R q x → IsTrue (is_at_least r k x) → IsPairOf (IsAdjacency r.values r.shape.width connect) x y
          → IsTrue (is_at_least r k y)
          → IsReachedThere s connect k R q y
      step x y b ix e iy = record { it = n.it; pair = n.pair; reached = reaches_trans s connect k q b.it n.it b.reached next }
        where
          n : HasPartnerBeside s connect R y b.it
          n = a.there x b.it y b.pair (one_way r connect x y e) (at_least-lower r h k y l iy)

          next : IsTrue (reaches s connect k b.it n.it)
          next = (reaches-is_IsReached s connect k b.it n.it).1
              (joined_pair b.it n.it (reaches_end s connect k q b.it b.reached) (along_high k y n.it n.pair iy) (inl n.adjacent))

  along_reaches_up : (k : ℤ) (p q t u : ℕ) → int_le h k ≡ true → R p q → R t u → IsTrue (reaches r connect k p t) → IsTrue (reaches s connect k q u)
  along_reaches_up k p q t u l c d m =
      let b : IsReachedThere s connect k R q t = along_reached k p q t l c m in
      subst (λ (x : ℕ). IsTrue (reaches s connect k q x)) (along_one t b.it u b.pair d) b.reached

  -- the level of a pair is at least h
  pub along_low : (p q : ℕ) → R p q → int_le h (level r p) ≡ true
  along_low p q c = level_from_at_least r h p (a.high p q c)

module _ (r s : Raster) (connect : Connect) (h : ℤ) (R : ℕ → ℕ → Type 0) (a : ArePairedAbove r s connect h R) where
  back_paired : ArePairedAbove s r connect h (turned R)
  back_paired = paired_sym r s connect h R a

  -- partners reach the same partners
  pub along_reaches : (k : ℤ) (p q t u : ℕ) → int_le h k ≡ true → R p q → R t u → reaches r connect k p t ≡ reaches s connect k q u
  along_reaches k p q t u l c d =
      same_bool (reaches r connect k p t) (reaches s connect k q u)
      (along_reaches_up r s connect h R a k p q t u l c d) (along_reaches_up s r connect h (turned R) back_paired k q p u t l c d)

  -- ---- representatives

  -- the representatives of partners are partners
  pub along_representative : (p q : ℕ) → R p q → R (representative r connect p) (representative s connect q)
  along_representative p q c =
      subst (λ (x : ℕ). R (representative r connect p) x) (representative-unique s connect q t.it (representative s connect q) there at_q) t.pair
    where
      low : int_le h (level r p) ≡ true
      low = along_low r s connect h R a p q c

      same : level r p ≡ level s q
      same = along_level r s connect h R a p q c

      at_p : IsRepresentative r connect p (representative r connect p)
      at_p = representative-is r connect p (defined_from_at_least r h p (a.high p q c))

      at_q : IsRepresentative s connect q (representative s connect q)
      at_q = representative-is s connect q (defined_from_at_least s h q (along_high r s connect h R a h p q c (a.high p q c)))

      t : IsReachedThere s connect (level r p) R q (representative r connect p)
      t = along_reached r s connect h R a (level r p) p q (representative r connect p) low c at_p.reached

      least : (u : ℕ) → IsTrue (reaches s connect (level s q) q u) → level s u ≡ level s q → t.it ≤ u
      least u m e = go (cases_lt u t.it)
        where
          b : IsReachedThere r connect (level r p) (turned R) p u
          b = along_reached s r connect h (turned R) back_paired (level r p) q p u low c (subst (λ (z : ℤ). IsTrue (reaches s connect z q u)) (sym same) m)

          le : representative r connect p ≤ b.it
          le = at_p.least b.it b.reached (along_level r s connect h R a b.it u b.pair ∙ e ∙ sym same)

          go : (u < t.it) ⊎ (t.it ≤ u) → t.it ≤ u
          go (inr l) = l
          go (inl l) =
              let k : b.it < representative r connect p = (a.order b.it u (representative r connect p) t.it b.pair t.pair).1 l in
              absurd (omega (arith, le))

      there : IsRepresentative s connect q t.it
      there = record {
        reached = subst (λ (z : ℤ). IsTrue (reaches s connect z q t.it)) same t.reached;
        same_level = sym (along_level r s connect h R a (representative r connect p) t.it t.pair) ∙ at_p.same_level ∙ same;
        least = least;
      }

  -- ---- nodes

  -- a node whose pixel has a partner has a counterpart
  pub along_counterpart : (n q : ℕ) → n < length (nodes r connect) → R (top_of r connect n) q → AreCounterparts r s connect R n (node_of s connect q)
  along_counterpart n q hn c = record {
    one = hn;
    other = place.below;
    top = subst (λ (x : ℕ). R (top_of r connect n) x) (sym place.it_is)
        (subst (λ (x : ℕ). R x (representative s connect q)) own.1 (along_representative (top_of r connect n) q c));
  }
    where
      own : IsTrue (is_defined r (top_of r connect n)) × (representative r connect (top_of r connect n) ≡ top_of r connect n)
      own = is_representative-parts r connect (top_of r connect n) (top-representative r connect n hn)

      place : IsPlace (nodes s connect) (representative s connect q) (node_of s connect q)
      place = node_of-is s connect q (defined_from_at_least s h q (along_high r s connect h R a h (top_of r connect n) q c (a.high (top_of r connect n) q c)))

  -- the other way round too
  pub counterparts_sym : (n m : ℕ) → AreCounterparts r s connect R n m → AreCounterparts s r connect (turned R) m n
  counterparts_sym n m c = record { one = c.other; other = c.one; top = c.top }

  -- and only one
  pub counterparts_unique : (n m k : ℕ) → AreCounterparts r s connect R n m → AreCounterparts r s connect R n k → m ≡ k
  counterparts_unique n m k c d =
      ordered-same_place s (nodes s connect) m k (nodes-ordered s connect) c.other d.other
      (along_one r s connect h R a (top_of r connect n) (top_of s connect m) (top_of s connect k) c.top d.top)

  -- their levels are the same
  pub counterparts_level : (n m : ℕ) → AreCounterparts r s connect R n m → level r (top_of r connect n) ≡ level s (top_of s connect m)
  counterparts_level n m c = along_level r s connect h R a (top_of r connect n) (top_of s connect m) c.top

  -- their components are paired
  pub counterparts_in_node : (n m t u : ℕ) → AreCounterparts r s connect R n m → R t u → is_in_node r connect n t ≡ is_in_node s connect m u
  unfolding is_in_node
  counterparts_in_node n m t u c d =
      along_reaches (level r (top_of r connect n)) (top_of r connect n) (top_of s connect m) t u
      (along_low r s connect h R a (top_of r connect n) (top_of s connect m) c.top) c.top d
      ∙ ap (λ (z : ℤ). reaches s connect z (top_of s connect m) u) (counterparts_level n m c)

module _ (r s : Raster) (connect : Connect) (h : ℤ) (R : ℕ → ℕ → Type 0) (a : ArePairedAbove r s connect h R) where
  -- a pixel of a node has a partner in the counterpart
  partner_in_node : (n m t : ℕ) → AreCounterparts r s connect R n m → IsAmong t (pixels_of r connect n) → HasPartnerIn R t (pixels_of s connect m)
  unfolding is_in_node
  partner_in_node n m t c k = record {
    it = b.it;
    among = among_pixels s connect m b.it (sym (counterparts_in_node r s connect h R a n m t b.it c b.pair) ∙ inside);
    pair = b.pair;
  }
    where
      inside : is_in_node r connect n t ≡ true
      inside = in_node_from_among r connect n t k

      b : IsReachedThere s connect (level r (top_of r connect n)) R (top_of s connect m) t
      b = along_reached r s connect h R a (level r (top_of r connect n)) (top_of r connect n) (top_of s connect m) t
          (along_low r s connect h R a (top_of r connect n) (top_of s connect m) c.top) c.top inside

-- the lists of their pixels too
pub counterparts_pixels : (r s : Raster) (connect : Connect) (h : ℤ) (R : ℕ → ℕ → Type 0) (n m : ℕ) → ArePairedAbove r s connect h R
    → AreCounterparts r s connect R n m
    → ArePaired R (pixels_of r connect n) (pixels_of s connect m)
counterparts_pixels r s connect h R n m a c =
    paired_from_rising R (λ p. p) (λ q. q) (pixels_of r connect n) (pixels_of s connect m) a.order (rising_pixels_of r connect n)
    (rising_pixels_of s connect m)
    (λ t k. partner_in_node r s connect h R a n m t c k)
    (λ u k. partner_in_node s r connect h (turned R) (paired_sym r s connect h R a) m n u (counterparts_sym r s connect h R a n m c) k)
