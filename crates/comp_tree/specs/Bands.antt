-- Model: what is done to the pixels of a plane in bands.
use Rattle.std.specs.Prelude.{ℕ, ℤ, List, Option}
use Rattle.std.specs.Fork.{IsChunk}
use denote.Ref.{MutBor}
use denote.Param.Members.{Shared}
use Rattle.comp_tree.specs.Raster.{HasValuesWithin}

-- whatever a call of f with a band of these values may leave is from -most to most
abbrev pub LeavesWithin : {F : Type 0} → ℕ → Shared F (ℕ × (MutBor (List (Option ℤ)) × Unit {0})) (Unit {0} × (MutBor (List (Option ℤ)) × Unit {0}))
    → F → ℕ → List (Option ℤ) → Type 0
LeavesWithin most g f size values = (start : ℕ) (band after : MutBor (List (Option ℤ))) → IsChunk values size start band.now
    → g.post f (start, (band, tt)) (tt, (after, tt)) → HasValuesWithin most after.now
