-- Model: which nodes of a plane's component tree are sources, and in which order they are numbered.
use Rattle.std.specs.Prelude.{◌≡◌, ℕ, Bool, false, ◌&&◌, ◌||◌, ◌==◌, not, nat_le, pos, ◌*ℤ◌, int_le, int_lt, List, map, filter, Option}
use Rattle.std.specs.List.{list_any, find, flat_map}
use Rattle.std.specs.Option.{option_map_or}
use Rattle.comp_tree.specs.declared.shape.Connect.{Connect}
use Rattle.comp_tree.specs.Raster.{Raster, pixels}
use Rattle.comp_tree.specs.Components.{tree_of}
use Rattle.comp_tree.specs.Nesting.{node_numbers, is_root, level_of_node, lies_within}
use Rattle.comp_tree.specs.Laws.{parent_of_node}
use Rattle.node_sums.specs.declared.entry.Sums.{Sums}
use Rattle.node_sums.specs.Sums.{sums_of}
use Rattle.node_sums.specs.Flux.{flux_of}
use Rattle.source_pick.specs.declared.choice.Choice.{Choice}

-- ---- entries

-- node n has the area and the flux that are asked for
unfoldable pub is_large : Raster → Connect → Choice → ℕ → Bool
is_large r connect choice n = nat_le choice.min_area (sums_of r connect n).area && int_le choice.min_flux (flux_of r connect n)

-- node n is a root, or its parent lies below the threshold
unfoldable pub is_lowest : Raster → Connect → Choice → ℕ → Bool
is_lowest r connect choice n =
    is_root (tree_of r connect) n || int_lt (level_of_node r connect (parent_of_node r connect n)) choice.threshold

-- an entry: a whole component of the threshold set of the threshold, if it is large
unfoldable pub is_entry : Raster → Connect → Choice → ℕ → Bool
is_entry r connect choice n =
    int_le choice.threshold (level_of_node r connect n) && is_lowest r connect choice n && is_large r connect choice n

-- the entry in which node n lies. Entries are disjoint, so there is one at most
unfoldable pub entry_of : Raster → Connect → Choice → ℕ → Option ℕ
entry_of r connect choice n = find (λ e. is_entry r connect choice e && lies_within r connect n e) (node_numbers r connect)

-- ---- splits

-- node n has its part of the flux of node e, in thousandths
unfoldable pub has_contrast : Raster → Connect → Choice → ℕ → ℕ → Bool
has_contrast r connect choice n e = int_le (pos choice.contrast *ℤ flux_of r connect e) (pos 1000 *ℤ flux_of r connect n)

-- a strong node: it lies in an entry, is large, and has its part of the entry's flux
unfoldable pub is_strong : Raster → Connect → Choice → ℕ → Bool
is_strong r connect choice n = option_map_or (λ e. is_large r connect choice n && has_contrast r connect choice n e) (entry_of r connect choice n) false

-- nodes a and b lie in one entry
unfoldable pub share_entry : Raster → Connect → Choice → ℕ → ℕ → Bool
share_entry r connect choice a b =
    option_map_or (λ d. option_map_or (λ e. d == e) (entry_of r connect choice b) false) (entry_of r connect choice a) false

-- nodes a and b are two strong children of node m, and lie in one entry
unfoldable pub are_strong_children : Raster → Connect → Choice → ℕ → ℕ → ℕ → Bool
are_strong_children r connect choice m a b =
    not (a == b) && (parent_of_node r connect a == m) && (parent_of_node r connect b == m)
    && is_strong r connect choice a && is_strong r connect choice b && share_entry r connect choice a b

-- a split: a node with two or more strong children in one entry
unfoldable pub is_split : Raster → Connect → Choice → ℕ → Bool
is_split r connect choice m =
    list_any (λ a. list_any (are_strong_children r connect choice m a) (node_numbers r connect)) (node_numbers r connect)

-- node n is strong, and has a strong sibling in the same entry: another child of its parent
unfoldable pub has_strong_sibling : Raster → Connect → Choice → ℕ → Bool
has_strong_sibling r connect choice n =
    not (is_root (tree_of r connect) n)
    && list_any (are_strong_children r connect choice (parent_of_node r connect n) n) (node_numbers r connect)

-- a node whose component lies within that of node n, n included, is a split
unfoldable pub contains_split : Raster → Connect → Choice → ℕ → Bool
contains_split r connect choice n = list_any (λ m. lies_within r connect m n && is_split r connect choice m) (node_numbers r connect)

-- ---- sources

-- a source: a node without a split inside it, which is an entry or has a strong sibling
unfoldable pub is_source : Raster → Connect → Choice → ℕ → Bool
is_source r connect choice n =
    (is_entry r connect choice n || has_strong_sibling r connect choice n) && not (contains_split r connect choice n)

-- the sources whose least pixel is p. Sources are disjoint, so there is one at most
unfoldable pub sources_at : Raster → Connect → Choice → ℕ → List ℕ
sources_at r connect choice p = filter (λ n. is_source r connect choice n && ((sums_of r connect n).first == p)) (node_numbers r connect)

-- the sources in the order of their least pixels: the number of a source is its place here, from 1
unfoldable pub sources : Raster → Connect → Choice → List ℕ
sources r connect choice = flat_map (sources_at r connect choice) (pixels r)

-- these nodes and sums are the sources, and the sums of each
pub record ArePickedFrom (r : Raster) (connect : Connect) (choice : Choice) (picked : List ℕ) (sums : List Sums) : Type 0 where
  pub nodes_are : picked ≡ sources r connect choice
  pub sums_are : sums ≡ map (sums_of r connect) picked
