-- Bookkeeping: what a walk needs and keeps, and its steps.
use Rattle.std.specs.Prelude.{◌≡◌, ℕ, ◌+◌, ◌<◌, ◌≤◌, List, length, Option, ℤ, slice_index}
use Rattle.comp_tree.specs.Limits.{most_pixels}
use Rattle.comp_tree.specs.Joined.{Or, Only}
use Rattle.comp_tree.specs.Forest.{no_node, ComesEarlier, IsForest, IsLink, JoinSame}
use Rattle.tree_join.specs.Skips.{IsPixel, IsSkip, AreTrueSkips}

-- the links of some pixels of a plane, in the order of a forest
pub record AreLinks (values : List (Option ℤ)) (first : ℕ) (links : List ℕ) : Type 0 where
  pub inside : first + length links ≤ length values
  pub small : length values ≤ most_pixels
  pub forest : IsForest values first links

-- other links in this order that join the same
pub record AreLike (values : List (Option ℤ)) (first : ℕ) (old new : List ℕ) : Type 0 where
  pub forest : IsForest values first new
  pub same : JoinSame values first (length old) (IsLink first new) (IsLink first old)

-- before and after a walk: each skip is true of the links
pub record HaveTrueSkips (values : List (Option ℤ)) (first : ℕ) (links skips : List ℕ) : Type 0 where
  pub kept : AreLinks values first links
  pub hold : AreTrueSkips values first (length links) (IsLink first links) skips

-- a list of skips holds this one at this place
pub record IsSkipAt (skips : List ℕ) (place there : ℕ) : Type 0 where
  pub inside : place < length skips
  pub at : slice_index skips place ≡ there
  pub some : there ≡ no_node → ⊥

-- two pixels, the first of which is not the earlier
pub record IsLaterPair (values : List (Option ℤ)) (first count a b : ℕ) : Type 0 where
  pub one : IsPixel values first count a
  pub other : IsPixel values first count b
  pub late : ComesEarlier values a b → ⊥

-- within a walk: a and b are still to be joined, and each skip is true of the links together with this pair
pub record IsWalk (values : List (Option ℤ)) (first : ℕ) (links skips : List ℕ) (a b : ℕ) : Type 0 where
  pub kept : AreLinks values first links
  pub pair : IsLaterPair values first (length links) a b
  pub hold : AreTrueSkips values first (length links) (Or (IsLink first links) (Only a b)) skips

-- a step up from at, to a pixel that is not earlier than b
pub record IsUp (values : List (Option ℤ)) (first : ℕ) (links : List ℕ) (at b next : ℕ) : Type 0 where
  pub skip : IsSkip values first (length links) (IsLink first links) at next
  pub earlier : ComesEarlier values next at
  pub late : ComesEarlier values next b → ⊥
