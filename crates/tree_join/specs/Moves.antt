-- Bookkeeping: the moves of the walk that joins two pixels, and the pairs that a row of pixels is joined by.
use Rattle.std.specs.Prelude.{◌≡◌, ℕ, max, cond, is_some, ◌-◌, ◌+◌, ◌*◌, ◌<◌, ◌≤◌, ◌⊎◌, List, length, Option, Some, None, ℤ}
use Rattle.comp_tree.specs.Joined.{Or, Only}
use Rattle.comp_tree.specs.Forest.{no_node, value_at, link_of, ComesEarlier, IsLink, JoinSame}
use Rattle.comp_tree.specs.Defined.{HasValue}
use Rattle.comp_tree.specs.Counts.{count_defined}
use Rattle.comp_tree.specs.EarlierCounts.{earlier_count}

-- the greater number of earlier pixels that one of two has
abbrev pub furthest : List (Option ℤ) → ℕ → ℕ → ℕ → ℕ → ℕ
furthest values first count a b = max (earlier_count values first count a) (earlier_count values first count b)

-- What one move does with the links and the two pixels at hand: it ends the walk, or gives the two pixels that are left
-- to join. Either way it joins what was joined before, and the pair.
pub record IsEnded (values : List (Option ℤ)) (first : ℕ) (old new : List ℕ) (a b : ℕ) : Type 0 where
  pub joins : JoinSame values first (length old) (IsLink first new) (Or (IsLink first old) (Only a b))

pub record IsMoved (values : List (Option ℤ)) (first : ℕ) (old new : List ℕ) (a b : ℕ) (rest : ℕ × ℕ) : Type 0 where
  pub joins : JoinSame values first (length old) (Or (IsLink first new) (Only rest.0 rest.1)) (Or (IsLink first old) (Only a b))
  pub less : furthest values first (length old) rest.0 rest.1 < furthest values first (length old) a b

-- the link of a is none, or earlier than b
abbrev pub IsLastAbove : List (Option ℤ) → ℕ → List ℕ → ℕ → ℕ → Type 0
IsLastAbove values first links a b = (link_of first links a ≡ no_node) ⊎ ComesEarlier values (link_of first links a) b

-- What a turn from a and b counts: at most `most` for each earlier pixel that it leaves behind, and where it is the last one, as many again.
abbrev pub IsSpent : List (Option ℤ) → ℕ → ℕ → ℕ → ℕ → ℕ → ℕ → ℕ → Option (ℕ × ℕ) → Type 0
IsSpent values first count a b most old new None = new ≤ old + most * furthest values first count a b + most
IsSpent values first count a b most old new (Some rest) = new + most * furthest values first count rest.0 rest.1 ≤ old + most * furthest values first count a b

-- u is one of the pixels from low up to high, v is p, and both are defined
pub record IsSpan (values : List (Option ℤ)) (low high p u v : ℕ) : Type 0 where
  pub above : low ≤ u
  pub below : u < high
  pub same : v ≡ p
  pub one : HasValue (value_at values u)
  pub other : HasValue (value_at values v)

-- how many such pairs there are
abbrev pub span_size : List (Option ℤ) → ℕ → ℕ → ℕ → ℕ
span_size values low high p = cond (is_some (value_at values p)) (count_defined values low (high - low)) 0
