-- Model: the law of locality: the sources depend on the pixels at and beside those with values of at least the threshold alone.
use Rattle.std.specs.Prelude.{◌≡◌, ℕ, ◌<◌, ◌⊎◌, Bool, IsTrue, ◌||◌, cond, ℤ, length, map, filter, None}
use Rattle.std.specs.List.{list_any}
use Rattle.comp_tree.specs.declared.shape.Connect.{Connect}
use Rattle.comp_tree.specs.Raster.{Raster, IsPlane, pixels, value_at, is_at_least}
use Rattle.comp_tree.specs.Grid.{are_neighbours}
use Rattle.comp_tree.specs.Laws.{top_of}
use Rattle.node_sums.specs.Sums.{sums_of}
use Rattle.source_pick.specs.declared.choice.Choice.{Choice}
use Rattle.source_pick.specs.Sources.{sources}
use Rattle.source_pick.specs.Segmentation.{segmentation}
use Rattle.source_pick.specs.Catalogue.{catalogue}

-- pixel p has a value of at least h in one of two planes
abbrev pub IsHighInEither : Raster → Raster → ℤ → ℕ → Type 0
IsHighInEither r s h p = IsTrue (is_at_least r h p) ⊎ IsTrue (is_at_least s h p)

-- pixel p has, or is a neighbour of a pixel that has
abbrev pub IsNearHighOfEither : Raster → Raster → Connect → ℤ → ℕ → Type 0
IsNearHighOfEither r s connect h p =
    IsHighInEither r s h p ⊎ ((q : ℕ) × IsHighInEither r s h q × IsTrue (are_neighbours connect r.shape.width q p))

-- two planes of one shape have the same values at these pixels. So all others are undefined or below h, in each of them
pub record AgreeNearHigh (r s : Raster) (connect : Connect) (h : ℤ) : Type 0 where
  pub same_shape : r.shape ≡ s.shape
  pub same : (p : ℕ) → p < length r.values → IsNearHighOfEither r s connect h p → value_at r.values p ≡ value_at s.values p

-- the sources of two planes have the same least pixels in the same order, the same map and the same catalogue
pub record HaveSameSources (r s : Raster) (connect : Connect) (choice : Choice) : Type 0 where
  pub least : map (λ n. (sums_of r connect n).first) (sources r connect choice) ≡ map (λ n. (sums_of s connect n).first) (sources s connect choice)
  pub representatives : map (top_of r connect) (sources r connect choice) ≡ map (top_of s connect) (sources s connect choice)
  pub numbers : segmentation r connect choice ≡ segmentation s connect choice
  pub rows : catalogue r connect choice ≡ catalogue s connect choice

-- planes that agree near the pixels of at least the threshold have the same sources
abbrev pub SourcesAreLocal : Type 0
SourcesAreLocal = (r s : Raster) (connect : Connect) (choice : Choice) → IsPlane r → IsPlane s → AgreeNearHigh r s connect choice.threshold
    → HaveSameSources r s connect choice

-- ---- the pixels that matter

-- a neighbour of pixel p has a value of at least h
unfoldable pub is_beside_high : Raster → Connect → ℤ → ℕ → Bool
is_beside_high r connect h p = list_any (is_at_least r h) (filter (are_neighbours connect r.shape.width p) (pixels r))

-- pixel p or a neighbour has
unfoldable pub is_near_high : Raster → Connect → ℤ → ℕ → Bool
is_near_high r connect h p = is_at_least r h p || is_beside_high r connect h p

-- the plane with these pixels alone: all others are undefined
unfoldable pub kept : Raster → Connect → ℤ → Raster
kept r connect h = record {
  shape = r.shape;
  values = map (λ p. cond (is_near_high r connect h p) (value_at r.values p) None) (pixels r);
}

-- it is a plane, and has the same sources
abbrev pub KeptIsAPlane : Type 0
KeptIsAPlane = (r : Raster) (connect : Connect) (h : ℤ) → IsPlane r → IsPlane (kept r connect h)

abbrev pub KeptHasTheSameSources : Type 0
KeptHasTheSameSources = (r : Raster) (connect : Connect) (choice : Choice) → IsPlane r → HaveSameSources r (kept r connect choice.threshold) connect choice
