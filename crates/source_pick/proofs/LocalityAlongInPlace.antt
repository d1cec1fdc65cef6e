-- Planes that agree near their pixels of at least one level are alike along the pairs of each such pixel with itself. So the law of locality is
-- one more case of what holds along pairs.
use Rattle.std.proofs.Common.{◌≡◌, ℕ, ◌<◌, ◌≤◌, zero, suc, true, List, [], ◌∷◌, length, refl, sym, ◌∙◌, ap, subst, arith, ◌⊎◌, inl, inr}
use Rattle.std.specs.Prelude.{IsTrue, ℤ, Option, None, is_some, ◌*◌}
use Rattle.std.proofs.lemmas.Bool.{cases_lt}
use Rattle.comp_tree.specs.declared.shape.Connect.{Connect}
use Rattle.comp_tree.specs.declared.shape.Shape.{Shape}
use Rattle.comp_tree.specs.Raster.{Raster, IsPlane, value_at, is_defined, is_at_least}
use Rattle.comp_tree.specs.Grid.{are_neighbours, IsAdjacency}
use Rattle.comp_tree.proofs.Exported.{AlikeAbove, AlikeAlong, HasLikeBeside, InPlace, in_place_above, adjacent_ends, adjacent_from}
use Rattle.source_pick.specs.Locality.{IsNearHighOfEither, AgreeNearHigh}

-- a pixel that a plane doesn't have has no value
value_beyond : (xs : List (Option ℤ)) (p : ℕ) → length xs ≤ p → value_at xs p ≡ None
value_beyond [] p l = refl
value_beyond (x ∷ xs) zero l = absurd (omega arith)
value_beyond (x ∷ xs) (suc p) l = value_beyond xs p (omega arith)

module _ (r s : Raster) (connect : Connect) (h : ℤ) (plane_r : IsPlane r) (plane_s : IsPlane s) (agree : AgreeNearHigh r s connect h) where
  same_size : length r.values ≡ length s.values
  same_size = plane_r ∙ ap (λ (x : Shape). x.width * x.height) agree.same_shape ∙ sym plane_s

  same_width : r.shape.width ≡ s.shape.width
  same_width = ap (λ (x : Shape). x.width) agree.same_shape

  -- such planes have the same values near these pixels, also beyond their last pixel
  near_same : (p : ℕ) → IsNearHighOfEither r s connect h p → value_at r.values p ≡ value_at s.values p
  near_same p k = go (cases_lt p (length r.values))
    where
      go : (p < length r.values) ⊎ (length r.values ≤ p) → value_at r.values p ≡ value_at s.values p
      go (inl l) = agree.same p l k
      go (inr l) = value_beyond r.values p l ∙ sym (value_beyond s.values p (omega (arith, same_size)))

  -- and the same pixels of at least the level
  pub in_place_alike : AlikeAbove r s h
  in_place_alike = record {
    width = same_width;
    size = same_size;
    one = λ p k. near_same p (inl (inl k));
    other = λ p k. near_same p (inl (inr k));
  }

  -- a neighbour of such a pixel is defined in both planes, or in neither
  like_beside : (p x : ℕ) → IsTrue (is_at_least r h p) → IsTrue (are_neighbours connect r.shape.width p x) → value_at r.values x ≡ value_at s.values x
  like_beside p x k n = near_same x (inr (p, inl k, n))

  pub in_place_along : AlikeAlong r s connect h (InPlace r h)
  in_place_along = record { above = in_place_above r s connect h in_place_alike; there = there; back = back }
    where
      there : (p q x : ℕ) → InPlace r h p q → IsAdjacency r.values r.shape.width connect p x → HasLikeBeside r s connect x q
      there p q x c e = record {
        it = x;
        adjacent = subst (λ (y : ℕ). IsAdjacency s.values s.shape.width connect y x) c.0
            (adjacent_from s.values s.shape.width connect p x (subst (λ (v : Option ℤ). is_some v ≡ true) (in_place_alike.one p c.1) ends.0)
            (subst (λ (v : Option ℤ). is_some v ≡ true) same ends.1) (subst (λ (w : ℕ). IsTrue (are_neighbours connect w p x)) same_width ends.2));
        same = same;
      }
        where
          ends : IsTrue (is_defined r p) × IsTrue (is_defined r x) × IsTrue (are_neighbours connect r.shape.width p x)
          ends = adjacent_ends r.values r.shape.width connect p x e

          same : value_at r.values x ≡ value_at s.values x
          same = like_beside p x c.1 ends.2

      back : (p q b : ℕ) → InPlace r h p q → IsAdjacency s.values s.shape.width connect q b → HasLikeBeside s r connect b p
      back p q b c e = record {
        it = b;
        adjacent = adjacent_from r.values r.shape.width connect p b (subst (λ (v : Option ℤ). is_some v ≡ true) (sym (in_place_alike.one p c.1)) ends.0)
            (subst (λ (v : Option ℤ). is_some v ≡ true) (sym same) ends.1) linked;
        same = sym same;
      }
        where
          ends : IsTrue (is_defined s p) × IsTrue (is_defined s b) × IsTrue (are_neighbours connect s.shape.width p b)
          ends = adjacent_ends s.values s.shape.width connect p b (subst (λ (y : ℕ). IsAdjacency s.values s.shape.width connect y b) (sym c.0) e)

          linked : IsTrue (are_neighbours connect r.shape.width p b)
          linked = subst (λ (w : ℕ). IsTrue (are_neighbours connect w p b)) (sym same_width) ends.2

          same : value_at r.values b ≡ value_at s.values b
          same = like_beside p b c.1 linked
