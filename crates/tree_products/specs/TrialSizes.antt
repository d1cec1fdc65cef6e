-- Bookkeeping: how large the values and the fluxes of a trial are.
use Rattle.std.specs.Prelude.{◌≡◌, ℕ, ◌*◌, ◌^◌, List, pos, ◌-ℤ◌, ◌*ℤ◌, ◌≤ℤ◌, Some, slice_get}
use Rattle.comp_tree.specs.ComponentTree.{ComponentTree}
use Rattle.node_sums.specs.declared.outline.Outline.{Outline}
use Rattle.node_sums.specs.Flux.{base_of}

-- where the values of a trial's plane are small, no flux is above 255 + 255 for each pixel
abbrev pub flux_bound : ℕ
flux_bound = 510 * 2 ^ 24

pub record HasSmallFluxes (tree : ComponentTree) (outlines : List Outline) : Type 0 where
  pub each : (n : ℕ) (entry : Outline) → slice_get outlines n ≡ Some entry → (entry.r -ℤ base_of tree n *ℤ pos entry.area) ≤ℤ pos flux_bound
