-- Bookkeeping: a strip and its flooding as the code keeps them.
use Rattle.std.specs.Prelude.{◌≡◌, ℕ, ◌+◌, ◌-◌, ◌%◌, ◌<◌, ◌≤◌, ◌++◌, List, length, map, replicate, slice_get, slice_set, Option, None, ℤ}
use Rattle.comp_tree.specs.Limits.{most_pixels}
use Rattle.comp_tree.specs.Counts.{count_defined}
use Rattle.comp_tree.specs.Forest.{no_node, StandsFor}
use Rattle.comp_tree.specs.Grid.{IsInner}
use Rattle.strip_flood.specs.declared.strip.Strip.{Strip}
use Rattle.strip_flood.specs.declared.flood.Flood.{Flood}
use Rattle.strip_flood.specs.Jobs.{inner_count, IsAll}
use Rattle.level_queue.specs.Queue.{IsEmpty}
use Rattle.strip_flood.specs.Flood.{Ground, FloodState, as_ground, state_with, direction_count, cursor_of, work, HasOffsets, IsRanked, IsTurning, IsAtFront}
use Rattle.strip_flood.specs.Flood.{IsStep}

-- the values of pixels by their ranks
abbrev pub ranked_values : List ℤ → List ℕ → List (Option ℤ)
ranked_values levels ranks = map (λ r. slice_get levels r) ranks

-- the values of a plane that has these from the pixel `first` on, and none before
unfoldable pub plane_values : ℕ → List ℤ → List ℕ → List (Option ℤ)
plane_values first levels ranks = replicate first None ++ ranked_values levels ranks

-- the strip's values, in such a plane
abbrev pub values_of : Strip → List (Option ℤ)
values_of s = plane_values s.first s.levels.items s.ranks.items

-- what flooding reads of a strip
abbrev pub ground_of : Strip → Ground
ground_of s = as_ground (values_of s) s.width s.connect s.first s.ranks.items (length s.levels.items)

-- what flooding changes
abbrev pub state_of : Flood → FloodState
state_of f = state_with f.queue.lists f.cursors.items f.earliest.items f.links.items

pub record IsStrip (s : Strip) : Type 0 where
  pub ranked : IsRanked (ground_of s)
  pub narrow : s.width ≤ 65535
  pub few : s.first + length s.ranks.items ≤ most_pixels
  pub starts : s.first % s.width ≡ 0
  pub ends : (s.first + length s.ranks.items) % s.width ≡ 0
  pub offsets : HasOffsets s.connect s.width s.offsets

-- what holds between two turns of the flooding
pub record IsBetweenTurns (s : Strip) (f : Flood) : Type 0 where
  pub items : f.queue.items ≡ length s.ranks.items
  pub turning : IsTurning (ground_of s) (state_of f)

-- the cursor of a pixel
abbrev pub cursor_at : Strip → Flood → ℕ → ℕ
cursor_at s f p = cursor_of (ground_of s) f.cursors.items p

-- the pixel is the front of this rank, and no open pixel is higher
abbrev pub IsCurrent : Strip → Flood → ℕ → ℕ → Type 0
IsCurrent s f rank pixel = IsAtFront (ground_of s) (state_of f) rank pixel

-- what some steps did with the cursors and the two counters
abbrev pub IsStepOf : Strip → Flood → Flood → ℕ → ℕ → ℕ → ℕ → Type 0
IsStepOf s old new queued_old queued_new looked_old looked_new =
    IsStep (ground_of s) old.cursors.items new.cursors.items queued_old queued_new looked_old looked_new

-- the current pixel has no direction left
pub record IsTurned (s : Strip) (f : Flood) (rank pixel : ℕ) : Type 0 where
  pub current : IsCurrent s f rank pixel
  pub turned : cursor_at s f pixel ≡ direction_count s.connect + 1

-- the state with this cursor of p, which looks around and writes its cursor back when the flooding leaves it
abbrev pub looking : Strip → Flood → ℕ → ℕ → FloodState
looking s f p cursor = state_with f.queue.lists (slice_set f.cursors.items (p - s.first) cursor) f.earliest.items f.links.items

-- p looks around, and its cursor is this one
pub record IsLooking (s : Strip) (f : Flood) (p cursor : ℕ) : Type 0 where
  pub items : f.queue.items ≡ length s.ranks.items
  pub queued : 0 < cursor_at s f p
  pub turning : IsTurning (ground_of s) (looking s f p cursor)

-- while p looks around, this pixel is the front of this rank, and no open pixel is higher
abbrev pub IsCurrentWhile : Strip → Flood → ℕ → ℕ → ℕ → ℕ → Type 0
IsCurrentWhile s f p cursor rank pixel = IsAtFront (ground_of s) (looking s f p cursor) rank pixel

-- what one look of p, whose cursor was this one, did with the cursors and the two counters
pub record IsLook (s : Strip) (old new : Flood) (p cursor queued_old queued_new looked_old looked_new : ℕ) : Type 0 where
  pub after : IsLooking s new p (cursor + 1)
  pub step : IsStep (ground_of s) (looking s old p cursor).cursors (looking s new p (cursor + 1)).cursors queued_old queued_new looked_old looked_new
  pub less : work (looking s new p (cursor + 1)).cursors < work (looking s old p cursor).cursors

-- the links stand for the strip's adjacencies
abbrev pub StandsForStrip : Strip → List ℕ → Type 0
StandsForStrip s links = StandsFor (values_of s) s.first links (IsInner (values_of s) s.width s.connect s.first (length links))

-- how many of the strip's pixels are defined
abbrev pub defined_in : Strip → ℕ
defined_in s = count_defined (values_of s) s.first (length s.ranks.items)

-- how many ordered adjacencies the strip has
abbrev pub adjacencies_in : Strip → ℕ
adjacencies_in s = inner_count (values_of s) s.width s.connect s.first (length s.ranks.items)

-- what a flooding is like before its first turn
pub record IsFresh (count size : ℕ) (f : Flood) : Type 0 where
  pub items : f.queue.items ≡ count
  pub lists : length f.queue.lists ≡ size
  pub empty : IsEmpty f.queue.lists
  pub cursors_length : length f.cursors.items ≡ count
  pub earliest_length : length f.earliest.items ≡ size
  pub links_length : length f.links.items ≡ count
  pub unseen : IsAll f.cursors.items 0
  pub unkept : IsAll f.earliest.items no_node
  pub unlinked : IsAll f.links.items no_node
