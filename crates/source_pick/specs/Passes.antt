-- Bookkeeping: what the passes over the nodes have found so far, and the map over the pixels.
use Rattle.std.specs.Prelude.{◌≡◌, ℕ, ◌<◌, ◌+◌, ◌≤◌, Bool, true, false, List, length, map, filter, slice_get, slice_index, slice_index_or, Some, unwrap_or}
use Rattle.std.specs.List.{range_with_len}
use Rattle.comp_tree.specs.declared.shape.Connect.{Connect}
use Rattle.comp_tree.specs.declared.tree.NodeRow.{NodeRow}
use Rattle.comp_tree.specs.Raster.{Raster, IsPlane}
use Rattle.comp_tree.specs.ComponentTree.{ComponentTree, parent_in, no_node}
use Rattle.comp_tree.specs.Components.{tree_of}
use Rattle.node_sums.specs.declared.entry.Sums.{Sums}
use Rattle.node_sums.specs.declared.outline.Outline.{Outline}
use Rattle.node_sums.specs.Sums.{sums_of}
use Rattle.node_sums.specs.Outlines.{ForEachPlaneOutlined}
use Rattle.node_sums.specs.DisjointNodes.{listed_number_at, AreDisjointNodes, AreNumbered}
use Rattle.node_sums.specs.NodeNumbers.{IsOnWay}
use Rattle.source_pick.specs.declared.choice.Choice.{Choice}
use Rattle.source_pick.specs.declared.picking.PlacedSource.{PlacedSource}
use Rattle.source_pick.specs.declared.splitting.StrongChildren.{StrongChildren}
use Rattle.source_pick.specs.declared.splitting.StrongChildren.TheVariants.{Zero, One, Several}
use Rattle.source_pick.specs.Sources.{entry_of, is_strong, is_source}

-- ---- entries and strong nodes

-- the number of the entry in which node n lies, or none
unfoldable pub entry_number : Raster → Connect → Choice → ℕ → ℕ
entry_number r connect choice n = unwrap_or (entry_of r connect choice n) no_node

-- the first count numbers are those of the nodes' entries
pub record AreEntries (choice : Choice) (tree : ComponentTree) (outlines : List Outline) (count : ℕ) (entries : List ℕ) : Type 0 where
  pub one_each : length entries ≡ length tree.rows
  pub each : ForEachPlaneOutlined tree outlines (λ r connect. IsPlane r → (n : ℕ) → n < count → slice_index entries n ≡ entry_number r connect choice n)

-- the first count flags say which nodes are strong
pub record AreStrong (choice : Choice) (tree : ComponentTree) (outlines : List Outline) (count : ℕ) (strong : List Bool) : Type 0 where
  pub one_each : length strong ≡ length tree.rows
  pub each : ForEachPlaneOutlined tree outlines (λ r connect. IsPlane r → (n : ℕ) → n < count → slice_index_or strong n false ≡ is_strong r connect choice n)

-- ---- splits

-- n is a child of m with a flag, and m has an entry
pub record IsStrongChild (rows : List NodeRow) (entries : List ℕ) (strong : List Bool) (m n : ℕ) : Type 0 where
  pub is_child : parent_in rows n ≡ m
  pub is_strong : slice_index_or strong n false ≡ true
  pub has_entry : slice_index entries m ≡ no_node → ⊥

-- two such children have numbers below count
pub record HasTwoStrongChildren (rows : List NodeRow) (entries : List ℕ) (strong : List Bool) (count m : ℕ) : Type 0 where
  pub first : ℕ
  pub second : ℕ
  pub apart : first < second
  pub below : second < count
  pub one : IsStrongChild rows entries strong m first
  pub other : IsStrongChild rows entries strong m second

-- of the children with numbers below count one alone is so
pub record HasOneStrongChild (rows : List NodeRow) (entries : List ℕ) (strong : List Bool) (count m : ℕ) : Type 0 where
  pub first : ℕ
  pub below : first < count
  pub one : IsStrongChild rows entries strong m first
  pub only : (n : ℕ) → n < count → IsStrongChild rows entries strong m n → n ≡ first

-- none is
pub record HasNoStrongChild (rows : List NodeRow) (entries : List ℕ) (strong : List Bool) (count m : ℕ) : Type 0 where
  pub none : (n : ℕ) → n < count → IsStrongChild rows entries strong m n → ⊥

-- so many are
abbrev pub HasStrongChildren : List NodeRow → List ℕ → List Bool → ℕ → ℕ → StrongChildren → Type 0
HasStrongChildren rows entries strong count m Zero = HasNoStrongChild rows entries strong count m
HasStrongChildren rows entries strong count m One = HasOneStrongChild rows entries strong count m
HasStrongChildren rows entries strong count m Several = HasTwoStrongChildren rows entries strong count m

-- what is counted of the children with numbers below count
pub record AreStrongChildCounts (rows : List NodeRow) (entries : List ℕ) (strong : List Bool) (count : ℕ) (children : List StrongChildren) : Type 0 where
  pub one_each : length children ≡ length rows
  pub each : (m : ℕ) (c : StrongChildren) → slice_get children m ≡ Some c → HasStrongChildren rows entries strong count m c

-- with one strong child more
abbrev pub with_one_more : StrongChildren → StrongChildren
with_one_more Zero = One
with_one_more One = Several
with_one_more Several = Several

abbrev pub are_several : StrongChildren → Bool
are_several Zero = false
are_several One = false
are_several Several = true

-- m is on the way from a split
pub record IsAboveSplit (rows : List NodeRow) (splits : List Bool) (m : ℕ) : Type 0 where
  pub split : ℕ
  pub inside : split < length rows
  pub on_way : IsOnWay rows m split
  pub is_split : slice_index_or splits split false ≡ true

-- the flags of the splits were handed to the parents from the nodes numbered from count on
pub record ArePassed (rows : List NodeRow) (splits : List Bool) (count : ℕ) (flags : List Bool) : Type 0 where
  pub one_each : length flags ≡ length rows
  pub sound : (m : ℕ) → m < length rows → slice_index_or flags m false ≡ true → IsAboveSplit rows splits m
  pub kept : (m : ℕ) → slice_index_or splits m false ≡ true → slice_index_or flags m false ≡ true
  pub handed : (m n : ℕ) → count ≤ n → n < length rows → parent_in rows n ≡ m → m < length rows → slice_index_or flags n false ≡ true
      → slice_index_or flags m false ≡ true

-- the flags are those of the nodes that are on the way from a split
pub record AreAboveSplits (rows : List NodeRow) (splits flags : List Bool) : Type 0 where
  pub one_each : length flags ≡ length rows
  pub sound : (m : ℕ) → m < length rows → slice_index_or flags m false ≡ true → IsAboveSplit rows splits m
  pub complete : (m : ℕ) → IsAboveSplit rows splits m → slice_index_or flags m false ≡ true

-- ---- sources

-- the first count flags say which nodes are sources
pub record AreSources (choice : Choice) (tree : ComponentTree) (outlines : List Outline) (count : ℕ) (flags : List Bool) : Type 0 where
  pub one_each : length flags ≡ length tree.rows
  pub each : ForEachPlaneOutlined tree outlines (λ r connect. IsPlane r → (n : ℕ) → n < count → slice_index_or flags n false ≡ is_source r connect choice n)

-- the list has the sources below count, in the order of nodes
pub record AreListedSources (choice : Choice) (tree : ComponentTree) (outlines : List Outline) (count : ℕ) (listed : List ℕ) : Type 0 where
  pub are : ForEachPlaneOutlined tree outlines (λ r connect. IsPlane r → listed ≡ filter (is_source r connect choice) (range_with_len 0 count))

-- source n with its sums
abbrev pub with_sums : Raster → Connect → ℕ → PlacedSource
with_sums r connect n = record { node = n; sums = sums_of r connect n }

-- the nodes of some sources, and their sums
abbrev pub placed_nodes : List PlacedSource → List ℕ
placed_nodes placed = map (λ (source : PlacedSource). source.node) placed

abbrev pub placed_sums : List PlacedSource → List Sums
placed_sums placed = map (λ (source : PlacedSource). source.sums) placed

-- ---- the map

-- the map of the pixels from start on has the numbers of the first count of them, if `numbers` has those of the nodes
pub record HavePixelNumbers (tree : ComponentTree) (numbers : List ℕ) (start count : ℕ) (map : List ℕ) : Type 0 where
  pub each : (marked : List ℕ) (r : Raster) (connect : Connect) → AreDisjointNodes tree marked → AreNumbered tree marked (length tree.rows) numbers
      → tree ≡ tree_of r connect → (k : ℕ) → k < count → slice_index map k ≡ listed_number_at r connect marked (start + k)
