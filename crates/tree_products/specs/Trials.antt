-- Model: the trial: an image that is made from a number, and the line that tells of its tree and its sources.
use Rattle.std.specs.Prelude.{ℕ, zero, suc, ◌+◌, ◌*◌, ◌/◌, ◌%◌, ◌^◌, ◌==◌, Bool, not, List, [], ◌∷◌, length}
use Rattle.std.specs.Prelude.{map, sum_by, count_by, codes, decimal, ℤ, pos, unsigned_abs, Option, Some}
use Rattle.std.specs.List.{concat, range_with_len}
use Rattle.comp_tree.specs.declared.shape.Shape.{Shape}
use Rattle.comp_tree.specs.declared.shape.Connect.{Connect}
use Rattle.comp_tree.specs.declared.tree.NodeRow.{NodeRow}
use Rattle.comp_tree.specs.ComponentTree.{no_node}
use Rattle.comp_tree.specs.Raster.{Raster}
use Rattle.comp_tree.specs.Components.{tree_of}
use Rattle.node_sums.specs.Sums.{sums_in}
use Rattle.node_sums.specs.Flux.{flux_of}
use Rattle.source_pick.specs.declared.choice.Choice.{Choice}
use Rattle.source_pick.specs.Sources.{sources}
use Rattle.source_pick.specs.Segmentation.{segmentation}
use Rattle.tree_products.specs.declared.trial.Summary.{Summary}

-- ---- the image

-- the state behind a state
abbrev pub next_state : ℕ → ℕ
next_state state = (1664525 * state + 1013904223) % 2 ^ 32

-- the n states behind a state
unfoldable pub states_behind : ℕ → ℕ → List ℕ
states_behind state zero = []
states_behind state (suc n) = next_state state ∷ states_behind (next_state state) n

-- a pixel has the eight most significant bits of its state
abbrev pub value_of_state : ℕ → Option ℤ
value_of_state state = Some (pos (state / 2 ^ 24))

-- the seed is the state before the first pixel, and each pixel in rising order has the next state
unfoldable pub trial_image : ℕ → Shape → Raster
trial_image seed shape = record { shape = shape; values = map value_of_state (states_behind seed (shape.width * shape.height)) }

-- ---- what is told of it

-- which nodes of its tree are sources
abbrev pub trial_choice : Choice
trial_choice = record { threshold = pos 128; min_area = 1; min_flux = pos 0; contrast = 5 }

abbrev pub is_root_row : NodeRow → Bool
is_root_row row = row.parent == no_node

-- a pixel's number in the map says that a source holds it
abbrev pub is_mapped : ℕ → Bool
is_mapped number = not (number == 0)

-- the sum of the areas of all nodes
unfoldable pub total_area : Raster → Connect → ℕ
total_area r connect = sum_by (λ s. s.area) (sums_in r connect)

-- the sum of their fluxes, none of which is negative
unfoldable pub total_flux : Raster → Connect → ℕ
total_flux r connect = sum_by (λ n. unsigned_abs (flux_of r connect n)) (range_with_len 0 (length (tree_of r connect).rows))

unfoldable pub summary_of : Raster → Connect → Summary
summary_of r connect = record {
  pixels = length r.values;
  nodes = length (tree_of r connect).rows;
  roots = count_by is_root_row (tree_of r connect).rows;
  areas = total_area r connect;
  fluxes = total_flux r connect;
  sources = length (sources r connect trial_choice);
  mapped = count_by is_mapped (segmentation r connect trial_choice);
}

abbrev pub trial_line : Summary → List ℕ
trial_line s =
    concat (codes "pixels " ∷ decimal s.pixels ∷ codes " nodes " ∷ decimal s.nodes ∷ codes " roots " ∷ decimal s.roots ∷ codes " areas " ∷ decimal s.areas
    ∷ codes " fluxes " ∷ decimal s.fluxes ∷ codes " sources " ∷ decimal s.sources ∷ codes " mapped " ∷ decimal s.mapped ∷ codes "\n" ∷ [])

-- ---- how large its numbers are
