-- Bookkeeping: short pixels while they are changed, one band after the other.
use Rattle.std.specs.Prelude.{◌≡◌, ℕ, ◌+◌, ◌<◌, ◌≤◌, ◌⊎◌, ℤ, List, Option, length, take, drop}
use Rattle.std.specs.Fork.{IsInChunk, ChangesAt}
use denote.Ref.{MutBor}
use denote.Param.Members.{Shared}
use Rattle.comp_tree.specs.Raster.{HasValuesWithin, value_at}

module _ {F : Type 0} (g : Shared F (ℕ × (MutBor (List (Option ℤ)) × Unit {0})) (Unit {0} × (MutBor (List (Option ℤ)) × Unit {0}))) (f : F)
    (start count : ℕ) where
  -- what it may leave of so many values from the first one on is from -most to most
  abbrev pub LeavesBandWithin : ℕ → List (Option ℤ) → Type 0
  LeavesBandWithin most values = (left : List (Option ℤ)) → ChangesAt g f start (take count (drop start values)) left → HasValuesWithin most left

  -- the new values are what it left of them, and all others are the old ones
  pub record IsBandChanged (old new : List (Option ℤ)) : Type 0 where
    pub one_each : length new ≡ length old
    pub left : List (Option ℤ)
    pub whole : length left ≡ count
    pub changes : ChangesAt g f start (take count (drop start old)) left
    pub inside : (k : ℕ) → k < count → value_at new (start + k) ≡ value_at left k
    pub beside : (p : ℕ) → (p < start) ⊎ (start + count ≤ p) → value_at new p ≡ value_at old p

-- each place before the end lies in the chunk of a call that f was given, and all others have the old values
pub record AreChangedUpTo {F : Type 0} (g : Shared F (ℕ × (MutBor (List (Option ℤ)) × Unit {0})) (Unit {0} × (MutBor (List (Option ℤ)) × Unit {0})))
    (f : F) (size end : ℕ) (old new : List (Option ℤ)) : Type 0 where
  pub one_each : length new ≡ length old
  pub changed : (p : ℕ) (d : Option ℤ) → p < end → p < length old → IsInChunk g f size old new p d
  pub rest : (p : ℕ) → end ≤ p → value_at new p ≡ value_at old p
