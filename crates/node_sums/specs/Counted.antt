-- Bookkeeping: which pixels have come to the entry of a node, while entries are added to those of the parents, the last node first.
use Rattle.std.specs.Prelude.{ℕ, Bool, true, ◌&&◌, not, nat_lt, zero, suc}
use Rattle.comp_tree.specs.declared.shape.Connect.{Connect}
use Rattle.comp_tree.specs.Raster.{Raster}
use Rattle.comp_tree.specs.Components.{is_in_node}

-- no node numbered above m and below k holds pixel q
unfoldable pub none_between : Raster → Connect → ℕ → ℕ → ℕ → Bool
none_between r connect q m zero = true
none_between r connect q m (suc k) = none_between r connect q m k && not (nat_lt m k && is_in_node r connect k q)

-- when the nodes numbered from k on have been added to their parents, the entry of node m has the pixels of m
-- that belong to no node with a number above m and below k
unfoldable pub is_counted : Raster → Connect → ℕ → ℕ → ℕ → Bool
is_counted r connect k m q = is_in_node r connect m q && none_between r connect q m k
