-- In two planes that are alike along pairs of pixels, counterparts have the same level, base, area and flux, and their least pixels are a pair.
use Rattle.std.proofs.Common.{◌≡◌, ℕ, ◌<◌, ◌≤◌, true, List, length, refl, sym, ◌∙◌, ap, subst, arith, ◌⊎◌, inl, inr}
use Rattle.std.specs.Prelude.{ℤ, ◌+ℤ◌, ◌-ℤ◌}
use Rattle.std.specs.Int.{int_max}
use Rattle.std.proofs.lemmas.Bool.{cases_lt}
use Rattle.lemmas.proofs.Exported.{ArePaired, at_end, at_more}
use Rattle.comp_tree.specs.declared.shape.Connect.{Connect}
use Rattle.comp_tree.specs.Raster.{Raster, IsPlane, level}
use Rattle.comp_tree.specs.Components.{is_in_node, tree_of}
use Rattle.comp_tree.specs.Laws.{top_of}
use Rattle.comp_tree.specs.Nesting.{pixels_of, level_in, level_of_node}
use Rattle.comp_tree.proofs.Exported.{below_no_node, among_pixels, AlikeAlong, AreCounterparts, IsReachedThere, along_sym}
use Rattle.comp_tree.proofs.Exported.{along_low, along_level, along_reached, counterparts_sym, counterparts_level, counterparts_in_node, counterparts_pixels}
use Rattle.comp_tree.proofs.Exported.{turned}
use Rattle.node_sums.specs.Sums.{total, highest, sums_over, sums_of}
use Rattle.node_sums.specs.Flux.{base_of, flux_of}
use Rattle.node_sums.proofs.Exported.{base-child, base-root, level-of_node, sums-area}
use Rattle.source_pick.proofs.OrderListing.{first_inside}
use Rattle.source_pick.proofs.CellsMeans.{least_low}
use Rattle.source_pick.proofs.LocalityAlongBorders.{ParentsAgree, roots, children, along_parents_agree}

-- ---- sums over paired pixels

-- what is the same for partners has one sum over paired pixels
pub total_paired : (R : ℕ → ℕ → Type 0) (f g : ℕ → ℤ) (ps qs : List ℕ) → ((p q : ℕ) → R p q → f p ≡ g q) → ArePaired R ps qs → total f ps ≡ total g qs
total_paired R f g _ _ e at_end = refl
total_paired R f g _ _ e (at_more {x} {y} {xs} {ys} c rest) =
    ap (λ (z : ℤ). z +ℤ total f xs) (e x y c) ∙ ap (λ (z : ℤ). g y +ℤ z) (total_paired R f g xs ys e rest)

-- paired lists have one length
pub length_paired : (R : ℕ → ℕ → Type 0) (ps qs : List ℕ) → ArePaired R ps qs → length ps ≡ length qs
length_paired R _ _ at_end = refl
length_paired R _ _ (at_more {x} {y} {xs} {ys} c rest) = let e : length xs ≡ length ys = length_paired R xs ys rest in omega arith

-- and what is the same for partners has one greatest value over them
pub highest_paired : (R : ℕ → ℕ → Type 0) (f g : ℕ → ℤ) (ps qs : List ℕ) → ((p q : ℕ) → R p q → f p ≡ g q) → ArePaired R ps qs → highest f ps ≡ highest g qs
highest_paired R f g _ _ e at_end = refl
highest_paired R f g _ _ e (at_more {x} {y} {xs} {ys} c rest) =
    ap (λ (z : ℤ). int_max z (highest f xs)) (e x y c) ∙ ap (int_max (g y)) (highest_paired R f g xs ys e rest)

-- no pixel of a node comes before its first
first_low : (r : Raster) (connect : Connect) (n p : ℕ) → is_in_node r connect n p ≡ true → (sums_of r connect n).first ≤ p
unfolding sums_of sums_over
first_low r connect n p k = least_low (λ q. q) (pixels_of r connect n) p (among_pixels r connect n p k)

-- ---- of counterparts

module _ (r s : Raster) (connect : Connect) (h : ℤ) (R : ℕ → ℕ → Type 0) (a : AlikeAlong r s connect h R) where
  -- their pixels are paired
  pub along_pixels : (n m : ℕ) → AreCounterparts r s connect R n m → ArePaired R (pixels_of r connect n) (pixels_of s connect m)
  along_pixels n m c = counterparts_pixels r s connect h R n m a.above c

  -- so they have one area
  pub along_area : (n m : ℕ) → AreCounterparts r s connect R n m → (sums_of r connect n).area ≡ (sums_of s connect m).area
  along_area n m c = sums-area r connect n ∙ length_paired R (pixels_of r connect n) (pixels_of s connect m) (along_pixels n m c) ∙ sym (sums-area s connect m)

  -- one level
  pub along_node_level : (n m : ℕ) → AreCounterparts r s connect R n m → level_of_node r connect n ≡ level_of_node s connect m
  along_node_level n m c = level-of_node r connect n c.one ∙ counterparts_level r s connect h R a.above n m c ∙ sym (level-of_node s connect m c.other)

  -- one base, since their parents have one level
  pub along_base : (n m : ℕ) → IsPlane r → IsPlane s → AreCounterparts r s connect R n m → base_of (tree_of r connect) n ≡ base_of (tree_of s connect) m
  along_base n m plane_r plane_s c = go (along_parents_agree r s connect h R a n m plane_r plane_s c)
    where
      go : ParentsAgree r s connect n m → base_of (tree_of r connect) n ≡ base_of (tree_of s connect) m
      go (roots e f) = base-root (tree_of r connect) n e ∙ along_node_level n m c ∙ sym (base-root (tree_of s connect) m f)
      go (children k j e hk f hj l) =
          base-child (tree_of r connect) n (λ x. below_no_node r connect k plane_r hk (sym e ∙ x))
          ∙ ap (level_in (tree_of r connect).rows) e
          ∙ level-of_node r connect k hk
          ∙ l
          ∙ sym (level-of_node s connect j hj)
          ∙ sym (ap (level_in (tree_of s connect).rows) f)
          ∙ sym (base-child (tree_of s connect) m (λ x. below_no_node s connect j plane_s hj (sym f ∙ x)))

  -- and one flux
  pub along_flux : (n m : ℕ) → IsPlane r → IsPlane s → AreCounterparts r s connect R n m → flux_of r connect n ≡ flux_of s connect m
  unfolding flux_of
  along_flux n m plane_r plane_s c =
      total_paired R (λ p. level r p -ℤ base_of (tree_of r connect) n) (λ q. level s q -ℤ base_of (tree_of s connect) m) (pixels_of r connect n)
      (pixels_of s connect m)
      (λ p q k. ap (λ (z : ℤ). z -ℤ base_of (tree_of r connect) n) (along_level r s connect h R a.above p q k)
      ∙ ap (λ (z : ℤ). level s q -ℤ z) (along_base n m plane_r plane_s c)) (along_pixels n m c)

  -- ---- the least pixels

  -- a pixel of a node has a partner in the counterpart
  pub reached_in_node : (n m t : ℕ) → AreCounterparts r s connect R n m → is_in_node r connect n t ≡ true
      → IsReachedThere s connect (level r (top_of r connect n)) R (top_of s connect m) t
  unfolding is_in_node
  reached_in_node n m t c k =
      along_reached r s connect h R a.above (level r (top_of r connect n)) (top_of r connect n) (top_of s connect m) t
      (along_low r s connect h R a.above (top_of r connect n) (top_of s connect m) c.top) c.top k

module _ (r s : Raster) (connect : Connect) (h : ℤ) (R : ℕ → ℕ → Type 0) (a : AlikeAlong r s connect h R) where
  -- the least pixels of counterparts are partners, since partners keep their order
  pub along_first : (n m : ℕ) → IsPlane r → IsPlane s → AreCounterparts r s connect R n m → R (sums_of r connect n).first (sums_of s connect m).first
  along_first n m plane_r plane_s c = go (cases_lt (sums_of s connect m).first t.it)
    where
      t : IsReachedThere s connect (level r (top_of r connect n)) R (top_of s connect m) (sums_of r connect n).first
      t = reached_in_node r s connect h R a n m (sums_of r connect n).first c (first_inside r connect n plane_r c.one)

      u : IsReachedThere r connect (level s (top_of s connect m)) (turned R) (top_of r connect n) (sums_of s connect m).first
      u = reached_in_node s r connect h (turned R) (along_sym r s connect h R a) m n (sums_of s connect m).first
          (counterparts_sym r s connect h R a.above n m c) (first_inside s connect m plane_s c.other)

      low_t : (sums_of s connect m).first ≤ t.it
      low_t = first_low s connect m t.it
          (sym (counterparts_in_node r s connect h R a.above n m (sums_of r connect n).first t.it c t.pair) ∙ first_inside r connect n plane_r c.one)

      low_u : (sums_of r connect n).first ≤ u.it
      low_u = first_low r connect n u.it
          (counterparts_in_node r s connect h R a.above n m u.it (sums_of s connect m).first c u.pair ∙ first_inside s connect m plane_s c.other)

      go : ((sums_of s connect m).first < t.it) ⊎ (t.it ≤ (sums_of s connect m).first) → R (sums_of r connect n).first (sums_of s connect m).first
      go (inl l) =
          let k : u.it < (sums_of r connect n).first = (a.above.order u.it (sums_of s connect m).first (sums_of r connect n).first t.it u.pair t.pair).1 l in
          absurd (omega (arith, low_u))
      go (inr l) = let e : t.it ≡ (sums_of s connect m).first = omega (arith, low_t) in subst (λ (x : ℕ). R (sums_of r connect n).first x) e t.pair
