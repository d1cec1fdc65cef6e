-- What canonical numbering reads off a forest that stands for the adjacencies of its plane: representatives and parents.
use Rattle.std.proofs.Common.{◌≡◌, ℕ, ◌+◌, ◌<◌, ◌≤◌, Bool, true, false, List, length, Option, Some, None, is_some, refl, sym, ◌∙◌, ap, subst, arith, inl, inr}
use Rattle.std.specs.Prelude.{IsTrue, IsFalse, ℤ, int_le, int_lt, unwrap_or, pos}
use Rattle.std.proofs.lemmas.Bool.{true≢false}
use Rattle.comp_tree.specs.declared.shape.Connect.{Connect}
use Rattle.comp_tree.specs.Raster.{Raster, IsPlane, value_at, is_defined, level, is_at_least}
use Rattle.comp_tree.specs.Grid.{IsAdjacency}
use Rattle.comp_tree.specs.Joined.{Joined}
use Rattle.comp_tree.specs.Forest.{no_node, IsHigh, link_of, IsForest, WayEndsAt, stop, go, HaveSameLast, StandsFor}
use Rattle.comp_tree.specs.Components.{reaches, representative, is_candidate, parent_of, node_of}
use Rattle.comp_tree.specs.Laws.{EachWalkHasOneLast, LastAtOwnLevelIsRepresentative}
use Rattle.comp_tree.proofs.Joining.{joined_wider}
use Rattle.lemmas.proofs.Exported.{int_le_refl, int_lt_le, int_le_from_lt, cases_int}
use Rattle.comp_tree.proofs.Ordering.{earlier-level}
use Rattle.comp_tree.proofs.Reaching.{reaches-is_IsReached, below_from_defined, defined_from_at_least}
use Rattle.comp_tree.proofs.Walks.{last_same, last_there, link_earlier}
use Rattle.comp_tree.proofs.Representatives.{IsRepresentative, before_level, last_down, last_earlier, last_representative}
use Rattle.comp_tree.proofs.Nodes

-- the value of a defined pixel is its level
pub value-level : (r : Raster) (p : ℕ) → IsTrue (is_defined r p) → value_at r.values p ≡ Some (level r p)
unfolding level
value-level r p d = on (value_at r.values p) d
  where
    on : (v : Option ℤ) → is_some v ≡ true → v ≡ Some (unwrap_or v (pos 0))
    on (Some v) d = refl
    on None d = absurd (true≢false (sym d))

pub level-value : (r : Raster) (p : ℕ) (h : ℤ) → value_at r.values p ≡ Some h → level r p ≡ h
unfolding level
level-value r p h e = ap (λ v. unwrap_or v (pos 0)) e

module _ (r : Raster) (connect : Connect) (links : List ℕ) (plane : IsPlane r) (whole : length links ≡ length r.values)
    (forest : IsForest r.values 0 links) (stands : StandsFor r.values 0 links (IsAdjacency r.values r.shape.width connect)) where
  small : 0 + length links ≤ no_node
  small = omega (arith, whole, plane, r.shape.within_limits.few_pixels)

  high_from : (h : ℤ) (p : ℕ) → IsTrue (is_at_least r h p) → IsHigh r.values 0 (length links) h p
  high_from h p k = record {
    within = record { low = omega arith; high = omega (arith, whole, below_from_defined r p (defined_from_at_least r h p k)) };
    value = k;
  }

  reaches_from : (h : ℤ) (p q : ℕ) → Joined (IsHigh r.values 0 (length links) h) (IsAdjacency r.values r.shape.width connect) p q
      → IsTrue (reaches r connect h p q)
  reaches_from h p q j = (reaches-is_IsReached r connect h p q).1 (joined_wider (λ x g. g.value) j)

  joined_from : (h : ℤ) (p q : ℕ) → IsTrue (reaches r connect h p q)
      → Joined (IsHigh r.values 0 (length links) h) (IsAdjacency r.values r.shape.width connect) p q
  joined_from h p q k = joined_wider (high_from h) ((reaches-is_IsReached r connect h p q).0 k)

  own : (p : ℕ) → IsTrue (is_defined r p) → IsHigh r.values 0 (length links) (level r p) p
  own p d = high_from (level r p) p (Nodes.at_least-own r p d)

  -- the last pixel of a walk at the level of its start is the representative of its start
  pub last_is : (p z : ℕ) → IsTrue (is_defined r p) → WayEndsAt r.values 0 links (level r p) p z → z ≡ representative r connect p
  last_is p z d l = Nodes.representative-unique r connect p z (representative r connect p)
      (record {
        reached = reaches_from (level r p) p z k.joined;
        same_level = level-value r z (level r p) k.level;
        least = λ s m e. k.least s (joined_from (level r p) p s m)
            (subst (λ (h : ℤ). value_at r.values s ≡ Some h) e (value-level r s (Nodes.defined_from_reached r connect (level r p) p s m)));
      })
      (Nodes.representative-is r connect p d) where
        k : IsRepresentative r.values 0 (length links) (IsAdjacency r.values r.shape.width connect) (level r p) p z
        k = last_representative r.values 0 links (level r p) forest small (IsAdjacency r.values r.shape.width connect) p z stands (value-level r p d) l

  pub last_own : (p : ℕ) → IsTrue (is_defined r p) → WayEndsAt r.values 0 links (level r p) p (representative r connect p)
  last_own p d = let l : (z : ℕ) × WayEndsAt r.values 0 links (level r p) p z = last_there r.values 0 links (level r p) forest small p (own p d) in
      subst (λ (z : ℕ). WayEndsAt r.values 0 links (level r p) p z) (last_is p l.0 d l.1) l.1

  -- a pixel represents its component exactly where its link is none or lower
  pub representative_from_link : (p : ℕ) → IsTrue (is_defined r p) → IsFalse (is_at_least r (level r p) (link_of 0 links p)) → representative r connect p ≡ p
  representative_from_link p d low = sym (last_is p p d (stop (own p d) (λ g. true≢false (sym g.value ∙ low))))

  pub link_from_representative : (p : ℕ) → IsTrue (is_defined r p) → representative r connect p ≡ p → IsFalse (is_at_least r (level r p) (link_of 0 links p))
  link_from_representative p d e = on (is_at_least r (level r p) (link_of 0 links p)) refl
    where
      circle : (q : ℕ) → q ≡ p → WayEndsAt r.values 0 links (level r p) p q → IsTrue (is_at_least r (level r p) (link_of 0 links p)) → ⊥
      circle q s (stop g n) u = n (high_from (level r p) (link_of 0 links p) u)
      circle q s (go g l) u =
          let next : IsHigh r.values 0 (length links) (level r p) (link_of 0 links p) = high_from (level r p) (link_of 0 links p) u in
          let lower : (value_at r.values (link_of 0 links p) ≡ Some (level r p)) × (link_of 0 links p < p)
          = before_level (value_at r.values (link_of 0 links p)) (value_at r.values p) (level r p) (link_of 0 links p) p (value-level r p d) next.value
          (link_earlier r.values 0 links (level r p) forest small p g.within next) in
          let le : q ≤ link_of 0 links p = (last_down r.values 0 links (level r p) forest small (link_of 0 links p) q lower.0 l).1 in
          omega (arith, lower.1)

      on : (b : Bool) → is_at_least r (level r p) (link_of 0 links p) ≡ b → is_at_least r (level r p) (link_of 0 links p) ≡ false
      on false u = u
      on true u = absurd (circle (representative r connect p) e (last_own p d) u)

  -- the link of a representative is a candidate of the greatest value, so its node is the parent
  pub parent_from_link : (p : ℕ) → IsTrue (is_defined r p) → representative r connect p ≡ p → IsTrue (is_defined r (link_of 0 links p))
      → parent_of r connect p ≡ node_of r connect (link_of 0 links p)
  parent_from_link p d e dl =
      Nodes.parent-is r connect p (link_of 0 links p)
      (Nodes.candidate-from r connect p (link_of 0 links p) (record { lower = lower; reaches_it = joined })) highest
    where
      low : IsFalse (is_at_least r (level r p) (link_of 0 links p))
      low = link_from_representative p d e

      lower : int_lt (level r (link_of 0 links p)) (level r p) ≡ true
      lower = elim (cases_int (level r (link_of 0 links p)) (level r p)) [
        | inl k ↦ k
        | inr k ↦ absurd (true≢false (sym (Nodes.at_least-from r (level r p) (link_of 0 links p) dl k) ∙ low))
      ]

      at_link : IsHigh r.values 0 (length links) (level r (link_of 0 links p)) (link_of 0 links p)
      at_link = own (link_of 0 links p) dl

      p_in : IsHigh r.values 0 (length links) (level r (link_of 0 links p)) p
      p_in = high_from (level r (link_of 0 links p)) p
          (Nodes.at_least-from r (level r (link_of 0 links p)) p d (int_le_from_lt (level r (link_of 0 links p)) (level r p) lower))

      joined : IsTrue (reaches r connect (level r (link_of 0 links p)) (link_of 0 links p) p)
      joined = let l : WayEndsAt r.values 0 links (level r (link_of 0 links p)) (link_of 0 links p) (representative r connect (link_of 0 links p)) =
          last_own (link_of 0 links p) dl in
          reaches_from (level r (link_of 0 links p)) (link_of 0 links p) p
          ((stands.joins (level r (link_of 0 links p)) (link_of 0 links p) p at_link p_in).0 (representative r connect (link_of 0 links p), (l, go p_in l)))

      -- a candidate between would have p as its last pixel, which is not lower than it
      highest : (s : ℕ) → IsTrue (is_candidate r connect p s) → int_le (level r s) (level r (link_of 0 links p)) ≡ true
      highest s k = elim (cases_int (level r (link_of 0 links p)) (level r s)) [ inl h ↦ absurd (between h) | inr h ↦ h ]
        where
          m : Nodes.IsCandidate r connect p s
          m = Nodes.candidate-parts r connect p s k

          between : int_lt (level r (link_of 0 links p)) (level r s) ≡ true → ⊥
          between h = int_lt_le (level r s) (level r p) m.lower above
            where
              s_in : IsHigh r.values 0 (length links) (level r s) s
              s_in = high_from (level r s) s (Nodes.reaches_start r connect (level r s) s p m.reaches_it)

              p_at : IsHigh r.values 0 (length links) (level r s) p
              p_at = high_from (level r s) p (Nodes.reaches_end r connect (level r s) s p m.reaches_it)

              link_out : IsHigh r.values 0 (length links) (level r s) (link_of 0 links p) → ⊥
              link_out g = int_lt_le (level r (link_of 0 links p)) (level r s) h (Nodes.level_from_at_least r (level r s) (link_of 0 links p) g.value)

              same : HaveSameLast r.values 0 links (level r s) s p
              same = (stands.joins (level r s) s p s_in p_at).1 (joined_from (level r s) s p m.reaches_it)

              s_last : WayEndsAt r.values 0 links (level r s) s p
              s_last = subst (λ (x : ℕ). WayEndsAt r.values 0 links (level r s) s x)
                  (last_same r.values 0 links (level r s) p same.0 p same.1.1 (stop p_at link_out)) same.1.0

              above : int_le (level r p) (level r s) ≡ true
              above = elim (last_earlier r.values 0 links (level r s) forest small s p s_last) [
                | inl x ↦ subst (λ (y : ℕ). int_le (level r p) (level r y) ≡ true) x (int_le_refl (level r p))
                | inr x ↦ earlier-level r p s x
              ]

pub each_walk_has_one_last : EachWalkHasOneLast
each_walk_has_one_last values first links h p small forest high =
    let last : (z : ℕ) × WayEndsAt values first links h p z = last_there values first links h forest small p high in
    (last.0, last.1, λ y k. last_same values first links h p y last.0 k last.1)

pub last_at_own_level : LastAtOwnLevelIsRepresentative
last_at_own_level r connect links plane whole forest stands p d = last_own r connect links plane whole forest stands p d
