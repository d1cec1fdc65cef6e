-- Planes of given values, which are in half of the range where each of the values is small.
use Rattle.std.proofs.Common.{◌≡◌, ℕ, ◌^◌, ◌≤◌, zero, suc, Bool, true, false, cond, List, [], ◌∷◌, ◌++◌, length, subst, arith}
use Rattle.std.specs.Prelude.{if◌then◌else◌, ℤ, nat_le, Option, Some, None, IfSome, slice_get}
use Rattle.comp_tree.specs.declared.shape.Shape.{Shape}
use Rattle.comp_tree.specs.Limits.{IsWithin, half_bound}
use Rattle.comp_tree.specs.Raster.{Raster, HasValuesWithin, HasValuesInHalfRange, raster_of}
use Rattle.comp_tree.proofs.Exported.{within_more}

-- one value more
pub half_range-push : (b : ℕ) (xs : List (Option ℤ)) (pixel : Option ℤ) → HasValuesWithin b xs → IfSome pixel (λ v. IsWithin b v)
    → HasValuesWithin b (xs ++ pixel ∷ [])
half_range-push b xs pixel h small = pushed xs h
  where
    last : (v : ℤ) → (o : Option ℤ) → IfSome o (λ w. IsWithin b w) → (let a : Option (Option ℤ) = Some o in a) ≡ Some (Some v) → IsWithin b v
    last v None k e = absurd (cc)
    last v (Some w) k e = let f : w ≡ v = cc in subst (λ (z : ℤ). IsWithin b z) f k

    pushed : (ys : List (Option ℤ)) → ((p : ℕ) (v : ℤ) → slice_get ys p ≡ Some (Some v) → IsWithin b v)
        → (p : ℕ) (v : ℤ) → slice_get (ys ++ pixel ∷ []) p ≡ Some (Some v) → IsWithin b v
    pushed [] each zero v e = last v pixel small e
    pushed [] each (suc p) v e = absurd (cc)
    pushed (y ∷ ys) each zero v e = each zero v e
    pushed (y ∷ ys) each (suc p) v e = pushed ys (λ q w k. each (suc q) w k) p v e

-- half of the range is at least this
half_least : (count : ℕ) → 2 ^ 29 ≤ half_bound count
unfolding half_bound
half_least count = go (nat_le count (2 ^ 24))
  where
    go : (b : Bool) → 2 ^ 29 ≤ cond b (2 ^ 36) (2 ^ 29)
    go true = omega arith
    go false = omega arith

-- so each number that is so small is within it
pub half_range-small : (count : ℕ) (v : ℤ) → IsWithin (2 ^ 29) v → IsWithin (half_bound count) v
half_range-small count v h = within_more (2 ^ 29) (half_bound count) v (half_least count) h

pub half_range-given : (count : ℕ) (given : Option ℤ) → IfSome given (λ v. IsWithin (2 ^ 29) v) → IfSome given (λ v. IsWithin (half_bound count) v)
half_range-given count None h = tt
half_range-given count (Some v) h = half_range-small count v h

-- the plane has these values
pub half_range-of : (shape : Shape) (values : List (Option ℤ)) (r : Raster) → raster_of shape values ≡ Some r → HasValuesWithin (2 ^ 29) values
    → HasValuesInHalfRange r.values
unfolding raster_of
half_range-of shape values r e h = go _ e
  where
    half : HasValuesInHalfRange values
    half = record { each = λ p v is. within_more (2 ^ 29) (half_bound (length values)) v (half_least (length values)) (h p v is) }

    go : (b : Bool) → (if b then Some (record { shape = shape; values = values }) else None) ≡ Some r → HasValuesInHalfRange r.values
    go true f = let g : values ≡ r.values = cc in subst HasValuesInHalfRange g half
    go false f = absurd (cc)
