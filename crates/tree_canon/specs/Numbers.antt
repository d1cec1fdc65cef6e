-- Bookkeeping: the two steps of numbering: the pixels of the rows, then all others along the links.
use Rattle.std.specs.Prelude.{◌≡◌, ◌≢◌, ℕ, ◌<◌, ◌⊎◌, List, length, slice_get, Some}
use Rattle.comp_tree.specs.declared.tree.NodeRow.{NodeRow}
use Rattle.comp_tree.specs.Forest.{link_of, no_node}
use Rattle.tree_canon.specs.Canonical.{node_number_at}

-- no two rows have one pixel
abbrev pub HaveOwnPixels : List NodeRow → Type 0
HaveOwnPixels rows = (m n : ℕ) (first second : NodeRow) → slice_get rows m ≡ Some first → slice_get rows n ≡ Some second → first.rep ≡ second.rep → m ≡ n

-- the pixel of each row has the number of the row, and all other pixels have what they had
pub record HasRowNumbers (rows : List NodeRow) (old new : List ℕ) : Type 0 where
  pub one_each : length new ≡ length old
  pub of_rows : (n : ℕ) (row : NodeRow) → slice_get rows n ≡ Some row → node_number_at new row.rep ≡ n
  pub others : (p : ℕ) → ((n : ℕ) (row : NodeRow) → slice_get rows n ≡ Some row → row.rep ≢ p) → node_number_at new p ≡ node_number_at old p

-- the link of each pixel without a number is none, or a smaller pixel
abbrev pub LeadBack : List ℕ → List ℕ → Type 0
LeadBack links numbers = (p : ℕ) → p < length links → node_number_at numbers p ≡ no_node → (link_of 0 links p ≡ no_node) ⊎ (link_of 0 links p < p)

-- each pixel without a number has that of its link, and all other pixels have what they had
pub record HasLinkNumbers (links old new : List ℕ) : Type 0 where
  pub one_each : length new ≡ length old
  pub kept : (p : ℕ) → node_number_at old p ≢ no_node → node_number_at new p ≡ node_number_at old p
  pub followed : (p : ℕ) → node_number_at old p ≡ no_node → node_number_at new p ≡ node_number_at new (link_of 0 links p)
