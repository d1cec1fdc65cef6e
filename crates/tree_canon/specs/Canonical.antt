-- Bookkeeping: what canonical numbering reads off the links of a forest, which has one link for each pixel of a plane r.
use Rattle.std.specs.Prelude.{◌≡◌, ℕ, ℤ, ◌+◌, ◌-◌, ◌*◌, min, Bool, ◌&&◌, ◌||◌, ◌==◌, not, IsFalse, List, length, filter, slice_index_or, slice_get, Some}
use Rattle.std.specs.List.{range_with_len}
use Rattle.std.specs.Ordering.{int_cmp, nat_cmp, ordering_then}
use Rattle.std.specs.declared.cmp.Ordering.{Ordering}
use Rattle.comp_tree.specs.declared.tree.NodeRow.{NodeRow}
use Rattle.comp_tree.specs.Raster.{Raster, pixels, is_defined, is_at_least, level}
use Rattle.comp_tree.specs.Components.{in_order, no_node}
use Rattle.comp_tree.specs.Forest.{link_of}

-- p is canonical: it is defined, and its link is none or has a smaller value
unfoldable pub is_canonical : Raster → List ℕ → ℕ → Bool
is_canonical r links p =
    is_defined r p && (link_of 0 links p == no_node || not (is_at_least r (level r p) (link_of 0 links p)))

-- the canonical pixels from first up to and without end
abbrev pub canonical_between : Raster → List ℕ → ℕ → ℕ → List ℕ
canonical_between r links first end = filter (is_canonical r links) (range_with_len first (end - first))

-- the canonical pixels of a band, where each band has size pixels, or fewer at the end
abbrev pub canonical_in_band : Raster → List ℕ → ℕ → ℕ → List ℕ
canonical_in_band r links size band = canonical_between r links (band * size) (min (band * size + size) (length r.values))

-- the canonical pixels, in the order of pixels: the place of one in this list is the number of its node
unfoldable pub canonical_pixels : Raster → List ℕ → List ℕ
canonical_pixels r links = in_order r (filter (is_canonical r links) (pixels r))

-- the number that a list has for pixel p, and none for no pixel
abbrev pub node_number_at : List ℕ → ℕ → ℕ
node_number_at numbers p = slice_index_or numbers p no_node

-- a canonical pixel has the number of its node, and any other pixel the number of its link
pub record IsNumbering (r : Raster) (links numbers : List ℕ) : Type 0 where
  pub one_each : length numbers ≡ length links
  pub canonical : (n p : ℕ) → slice_get (canonical_pixels r links) n ≡ Some p → node_number_at numbers p ≡ n
  pub others : (p : ℕ) → IsFalse (is_canonical r links p) → node_number_at numbers p ≡ node_number_at numbers (link_of 0 links p)

-- the row of a canonical pixel, before the nodes have numbers
abbrev pub loose_row : Raster → ℕ → NodeRow
loose_row r p = record { level = level r p; rep = p; parent = no_node }

-- a row with its parent: the node that has the number of the link
abbrev pub with_parent : List ℕ → List ℕ → NodeRow → NodeRow
with_parent links numbers row = record { level = row.level; rep = row.rep; parent = node_number_at numbers (link_of 0 links row.rep) }

-- what rows are sorted by: the level, and the pixel where levels are the same
abbrev pub level_and_pixel : NodeRow → ℤ × ℕ
level_and_pixel row = (row.level, row.rep)

abbrev pub level_then_pixel : ℤ × ℕ → ℤ × ℕ → Ordering
level_then_pixel x y = ordering_then (int_cmp x.0 y.0) (nat_cmp x.1 y.1)
