-- Nodes of at least the threshold: the entry below a node has it, and so do strong nodes, splits and sources.
use Rattle.std.proofs.Common.{◌≡◌, ℕ, ◌<◌, true, length, subst, arith, ◌⊎◌, inl, inr}
use Rattle.std.specs.Prelude.{IsTrue, ℤ, ◌≤ℤ◌, int_le}
use Rattle.std.proofs.lemmas.Int.{ints}
use Rattle.lemmas.proofs.Exported.{int_le-from}
use Rattle.comp_tree.specs.declared.shape.Connect.{Connect}
use Rattle.comp_tree.specs.Raster.{Raster, IsPlane, is_at_least}
use Rattle.comp_tree.specs.Components.{nodes, tree_of}
use Rattle.comp_tree.specs.Laws.{top_of}
use Rattle.comp_tree.specs.Nesting.{level_of_node}
use Rattle.comp_tree.proofs.Exported.{top-defined}
use Rattle.comp_tree.proofs.Exported as Nodes
use Rattle.node_sums.proofs.Exported.{level-of_node}
use Rattle.source_pick.specs.declared.choice.Choice.{Choice}
use Rattle.source_pick.specs.Sources.{is_entry, is_strong, is_split, has_strong_sibling, is_source}
use Rattle.node_sums.specs.NodeNumbers.{IsOnWay}
use Rattle.node_sums.proofs.Exported.{level_on_way}
use Rattle.source_pick.proofs.NodesEntries.{entry_parts, IsEntryOf, entry_of-parts}
use Rattle.source_pick.proofs.NodesSplits.{HasEntry, strong_entry, IsSplitNode, split_parts, split_entry, sibling_parts}
use Rattle.source_pick.proofs.NodesSourcing.{source_parts}

-- a node that lies within a node of at least the threshold has it too
pub up_from_way : (r : Raster) (connect : Connect) (choice : Choice) (m n : ℕ) → IsPlane r → m < length (nodes r connect) → n < length (nodes r connect)
    → IsOnWay (tree_of r connect).rows m n → choice.threshold ≤ℤ level_of_node r connect m → choice.threshold ≤ℤ level_of_node r connect n
up_from_way r connect choice m n plane hm hn w up = let l : level_of_node r connect m ≤ℤ level_of_node r connect n =
    level_on_way r connect m n plane hm hn w in omega (arith, ints)

-- and so does a node with an entry
entry_up : (r : Raster) (connect : Connect) (choice : Choice) (n e : ℕ) → IsPlane r → n < length (nodes r connect) → IsEntryOf r connect choice n e
    → choice.threshold ≤ℤ level_of_node r connect n
entry_up r connect choice n e plane hn k = up_from_way r connect choice e n plane k.node hn k.way (entry_parts r connect choice e k.entry).high

-- a strong node
pub strong_up : (r : Raster) (connect : Connect) (choice : Choice) (n : ℕ) → IsPlane r → n < length (nodes r connect) → is_strong r connect choice n ≡ true
    → choice.threshold ≤ℤ level_of_node r connect n
strong_up r connect choice n plane hn h =
    let k : HasEntry r connect choice n = strong_entry r connect choice n h in
    entry_up r connect choice n k.it plane hn (entry_of-parts r connect choice n k.it plane hn k.is)

-- a split
pub split_up : (r : Raster) (connect : Connect) (choice : Choice) (x : ℕ) → IsPlane r → x < length (nodes r connect) → is_split r connect choice x ≡ true
    → choice.threshold ≤ℤ level_of_node r connect x
split_up r connect choice x plane hx h =
    entry_up r connect choice x k.twins.entry plane hx
    (entry_of-parts r connect choice x k.twins.entry plane hx (split_entry r connect choice x k.first k.second plane hx k.first_node k.second_node k.twins))
  where
    k : IsSplitNode r connect choice x
    k = split_parts r connect choice x h

-- and a source
pub source_up : (r : Raster) (connect : Connect) (choice : Choice) (n : ℕ) → IsPlane r → n < length (nodes r connect) → is_source r connect choice n ≡ true
    → choice.threshold ≤ℤ level_of_node r connect n
source_up r connect choice n plane hn h = go (source_parts r connect choice n h).stands
  where
    go : (is_entry r connect choice n ≡ true) ⊎ (has_strong_sibling r connect choice n ≡ true) → choice.threshold ≤ℤ level_of_node r connect n
    go (inl e) = (entry_parts r connect choice n e).high
    go (inr k) = strong_up r connect choice n plane hn (sibling_parts r connect choice n plane hn k).strong

-- the pixel that represents a source has at least the threshold
pub top_high : (r : Raster) (connect : Connect) (choice : Choice) (n : ℕ) → IsPlane r → n < length (nodes r connect) → is_source r connect choice n ≡ true
    → IsTrue (is_at_least r choice.threshold (top_of r connect n))
top_high r connect choice n plane hn k =
    Nodes.at_least-from r choice.threshold (top_of r connect n) (top-defined r connect n hn)
    (subst (λ (z : ℤ). int_le choice.threshold z ≡ true) (level-of_node r connect n hn)
    (int_le-from choice.threshold (level_of_node r connect n) (source_up r connect choice n plane hn k)))
