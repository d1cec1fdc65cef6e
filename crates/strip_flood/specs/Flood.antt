-- Bookkeeping: the flooding of one strip: what does not change, the state, and what holds between two turns.
use Rattle.std.specs.Prelude.{◌≡◌, ℕ, ◌+◌, ◌-◌, ◌*◌, ◌/◌, ◌%◌, ◌<◌, ◌≤◌, nat_lt, cond}
use Rattle.std.specs.Prelude.{Bool, ◌&&◌, IsTrue, List, [], length, slice_index, Contains, Option, ℤ, ◌⊎◌}
use Rattle.std.specs.Int.{bit_at}
use Rattle.comp_tree.specs.declared.shape.Connect.{Connect}
use Rattle.comp_tree.specs.declared.shape.Connect.TheVariants.{Four, Eight}
use Rattle.comp_tree.specs.Forest.{no_node, value_at, ReachesLevel, ComesEarlier, LiesInStretch, IsHigh, link_of, IsLink, IsForest}
use Rattle.comp_tree.specs.Defined.{HasValue}
use Rattle.comp_tree.specs.Counts.{count_below, sum_below}
use Rattle.comp_tree.specs.Grid.{are_neighbours, are_adjacent, IsInner}
use Rattle.strip_flood.specs.Joining.{IsSound, IsComplete}
pub use Rattle.level_queue.specs.Queue.{list_at}
use Rattle.level_queue.specs.Queue.{IsFront}

-- what flooding reads: the plane's values, the grid, the strip's first pixel, the rank of each of its pixels, and how many ranks there are
pub record Ground : Type 0 where
  pub values : List (Option ℤ)
  pub width : ℕ
  pub connect : Connect
  pub first : ℕ
  pub ranks : List ℕ
  pub size : ℕ

-- what flooding changes: the queue's lists, each pixel's cursor, the earliest finished pixel of each rank, the links
pub record FloodState : Type 0 where
  pub lists : List (List ℕ)
  pub cursors : List ℕ
  pub earliest : List ℕ
  pub links : List ℕ

abbrev pub as_ground : List (Option ℤ) → ℕ → Connect → ℕ → List ℕ → ℕ → Ground
as_ground values width connect first ranks size = record { values = values; width = width; connect = connect; first = first; ranks = ranks; size = size }

abbrev pub state_with : List (List ℕ) → List ℕ → List ℕ → List ℕ → FloodState
state_with lists cursors earliest links = record { lists = lists; cursors = cursors; earliest = earliest; links = links }

-- how many directions there are
abbrev pub direction_count : Connect → ℕ
direction_count Four = 4
direction_count Eight = 8

-- the cell, of the nine around a pixel, that a direction leads to
abbrev pub cell : Connect → ℕ → ℕ
cell Four k = 2 * k + 1
cell Eight k = cond (nat_lt k 4) k (k + 1)

-- the cell around p that q is in
abbrev pub cell_of : ℕ → ℕ → ℕ → ℕ
cell_of width p q = 3 * (q / width + 1 - p / width) + (q % width + 1 - p % width)

-- the direction from p to q
abbrev pub direction : Connect → ℕ → ℕ → ℕ → ℕ
direction Four width p q = cell_of width p q / 2
direction Eight width p q = cond (nat_lt (cell_of width p q) 4) (cell_of width p q) (cell_of width p q - 1)

abbrev pub IsOf : Ground → ℕ → Type 0
IsOf g p = LiesInStretch g.first (length g.ranks) p

abbrev pub rank_of : Ground → ℕ → ℕ
rank_of g p = slice_index g.ranks (p - g.first)

-- 0: not seen; k + 1: queued, and the next look is in direction k; 10: finished
abbrev pub cursor_of : Ground → List ℕ → ℕ → ℕ
cursor_of g cursors p = slice_index cursors (p - g.first)

pub record IsInQueue (g : Ground) (cursors : List ℕ) (p : ℕ) : Type 0 where
  pub inside : IsOf g p
  pub low : 0 < cursor_of g cursors p
  pub high : cursor_of g cursors p < 10

-- p is kept as the earliest finished pixel of its rank
pub record IsEarliestKept (g : Ground) (earliest : List ℕ) (p : ℕ) : Type 0 where
  pub inside : IsOf g p
  pub ranked : rank_of g p < g.size
  pub kept : slice_index earliest (rank_of g p) ≡ p

abbrev pub IsOpen : Ground → List ℕ → List ℕ → ℕ → Type 0
IsOpen g cursors earliest p = IsInQueue g cursors p ⊎ IsEarliestKept g earliest p

-- an adjacency of the strip that was looked at from x
pub record WasLookedAt (g : Ground) (cursors : List ℕ) (x y : ℕ) : Type 0 where
  pub inner : IsInner g.values g.width g.connect g.first (length g.ranks) x y
  pub turned : direction g.connect g.width x y + 1 < cursor_of g cursors x

-- the ranks tell the order of the strip's values, and an undefined pixel has no_node
pub record IsRanked (g : Ground) : Type 0 where
  pub wide : 0 < g.width
  pub small : g.first + length g.ranks ≤ no_node
  pub there : (p : ℕ) → IsOf g p → HasValue (value_at g.values p) → rank_of g p < g.size
  pub value : (p : ℕ) → IsOf g p → rank_of g p < g.size → HasValue (value_at g.values p)
  pub up : (h : ℤ) (p q : ℕ) → IsOf g p → IsOf g q → rank_of g p ≤ rank_of g q → rank_of g q < g.size
      → ReachesLevel h (value_at g.values p) → ReachesLevel h (value_at g.values q)
  pub less : (p q : ℕ) → IsOf g p → IsOf g q → rank_of g p < rank_of g q → rank_of g q < g.size → ComesEarlier g.values p q
  pub same : (p q : ℕ) → IsOf g p → IsOf g q → rank_of g p ≡ rank_of g q → rank_of g q < g.size → p < q → ComesEarlier g.values p q

-- the lists have the queued pixels, each by its place in the list of its rank
pub record IsListed (g : Ground) (lists : List (List ℕ)) (cursors : List ℕ) : Type 0 where
  pub to : (r i : ℕ) → Contains (list_at lists r) i → (rank_of g (g.first + i) ≡ r) × IsInQueue g cursors (g.first + i)
  pub from : (p : ℕ) → IsInQueue g cursors p → Contains (list_at lists (rank_of g p)) (p - g.first)

pub record IsKeptAt (g : Ground) (cursors : List ℕ) (r e : ℕ) : Type 0 where
  pub inside : IsOf g e
  pub rank : rank_of g e ≡ r
  pub finished : cursor_of g cursors e ≡ 10

-- at each level, links and open pixels are joined, and join what was looked at
pub record IsJoining (g : Ground) (s : FloodState) : Type 0 where
  pub sound : (h : ℤ) → IsSound (IsHigh g.values g.first (length g.ranks) h) (IsInner g.values g.width g.connect g.first (length g.ranks))
      (IsLink g.first s.links) (IsOpen g s.cursors s.earliest)
  pub complete : (h : ℤ) → IsComplete (IsHigh g.values g.first (length g.ranks) h) (WasLookedAt g s.cursors) (IsLink g.first s.links)
      (IsOpen g s.cursors s.earliest)

-- what holds between two turns, and while a pixel is finished
pub record IsFair (g : Ground) (s : FloodState) : Type 0 where
  pub cursors_length : length s.cursors ≡ length g.ranks
  pub links_length : length s.links ≡ length g.ranks
  pub earliest_length : length s.earliest ≡ g.size
  pub lists_length : length s.lists ≡ g.size
  pub listed : IsListed g s.lists s.cursors
  pub bound : (p : ℕ) → IsOf g p → cursor_of g s.cursors p ≤ 10
  pub turning : (p : ℕ) → IsOf g p → cursor_of g s.cursors p < 10 → cursor_of g s.cursors p ≤ direction_count g.connect + 1
  pub seen : (p : ℕ) → IsOf g p → 0 < cursor_of g s.cursors p → rank_of g p < g.size
  pub kept : (r : ℕ) → r < g.size → (slice_index s.earliest r ≡ no_node → ⊥) → IsKeptAt g s.cursors r (slice_index s.earliest r)
  pub free : (p : ℕ) → IsOf g p → (cursor_of g s.cursors p < 10) ⊎ IsEarliestKept g s.earliest p → link_of g.first s.links p ≡ no_node
  pub forest : IsForest g.values g.first s.links
  pub joining : IsJoining g s

-- a kept pixel's rank has queued ones, but maybe for the rank that is left out
pub record IsBusyBut (g : Ground) (s : FloodState) (out : ℕ) : Type 0 where
  pub busy : (r : ℕ) → r < g.size → (r ≡ out → ⊥) → (slice_index s.earliest r ≡ no_node → ⊥) → list_at s.lists r ≡ [] → ⊥

-- what holds between two turns
pub record IsTurning (g : Ground) (s : FloodState) : Type 0 where
  pub fair : IsFair g s
  pub busy : (r : ℕ) → r < g.size → (slice_index s.earliest r ≡ no_node → ⊥) → list_at s.lists r ≡ [] → ⊥

-- q is in cell m around p, of the nine, and the grid has it
pub record IsAt (width p m q : ℕ) : Type 0 where
  pub place : q + width + 1 ≡ p + m / 3 * width + m % 3
  pub low : 0 < p % width + m % 3
  pub high : p % width + m % 3 ≤ width

-- n is the neighbour of p in direction k
pub record IsNeighbour (connect : Connect) (width first count p k n : ℕ) : Type 0 where
  pub inside : LiesInStretch first count n
  pub near : IsTrue (are_neighbours connect width p n)
  pub turned : direction connect width p n ≡ k
  pub only : (y : ℕ) → LiesInStretch first count y → IsTrue (are_neighbours connect width p y) → direction connect width p y ≡ k → y ≡ n

-- how far the pixel in each direction lies behind the first of the nine around and at a pixel
pub record HasOffsets (connect : Connect) (width : ℕ) (offsets : List ℕ) : Type 0 where
  pub count : length offsets ≡ 8
  pub offset : (k : ℕ) → k < direction_count connect → slice_index offsets k ≡ cell connect k / 3 * width + cell connect k % 3

-- all nine pixels around and at p are of the count pixels from first on
pub record IsInterior (width first count p : ℕ) : Type 0 where
  pub up : first + width < p
  pub down : p + width + 1 < first + count
  pub left : 0 < p % width
  pub right : p % width + 1 < width

-- the grid has a pixel in cell m around p, of the nine, and it is of the count pixels from first on
pub record HasCell (width first count p m : ℕ) : Type 0 where
  pub up : first + width + 1 ≤ p + m / 3 * width + m % 3
  pub down : p + m / 3 * width + m % 3 < first + count + width + 1
  pub left : 0 < p % width + m % 3
  pub right : p % width + m % 3 ≤ width

-- the bits of a mask are the directions in which p has a pixel among the count from first on
pub record HasDirections (connect : Connect) (width first count p mask : ℕ) : Type 0 where
  pub there : (k : ℕ) → k < direction_count connect → bit_at mask k ≡ 1 → HasCell width first count p (cell connect k)
  pub all : (k : ℕ) → k < direction_count connect → HasCell width first count p (cell connect k) → bit_at mask k ≡ 1

-- the bits of four masks are the directions to the row above, the column to the left, the one to the right, and the row below
pub record AreSides (connect : Connect) (above left right below : ℕ) : Type 0 where
  pub up : (k : ℕ) → k < direction_count connect → bit_at above k ≡ 1 - cell connect k / 3
  pub west : (k : ℕ) → k < direction_count connect → bit_at left k ≡ 1 - cell connect k % 3
  pub east : (k : ℕ) → k < direction_count connect → bit_at right k ≡ cell connect k % 3 - 1
  pub down : (k : ℕ) → k < direction_count connect → bit_at below k ≡ cell connect k / 3 - 1

-- all that the cursors have to go
abbrev pub work : List ℕ → ℕ
work cursors = sum_below (λ i. 10 - slice_index cursors i) (length cursors)

-- how many pixels were seen
abbrev pub seen_count : List ℕ → ℕ
seen_count cursors = count_below (λ i. nat_lt 0 (slice_index cursors i)) (length cursors)

-- the pixels at the places i and j are adjacent, and i looked at j
abbrev pub looks_from : Ground → List ℕ → ℕ → ℕ → Bool
looks_from g cursors i j = are_adjacent g.values g.width g.connect (g.first + i) (g.first + j)
    && nat_lt (direction g.connect g.width (g.first + i) (g.first + j) + 1) (slice_index cursors i)

-- how many ordered adjacencies of the strip were looked at
abbrev pub looks : Ground → List ℕ → ℕ
looks g cursors = sum_below (λ i. count_below (looks_from g cursors i) (length g.ranks)) (length g.ranks)

-- What some steps did with the cursors and the two counters: what was seen still is, and each count rose as the cursors did.
pub record IsStep (g : Ground) (old new : List ℕ) (queued_old queued_new looked_old looked_new : ℕ) : Type 0 where
  pub seen : (p : ℕ) → IsOf g p → 0 < cursor_of g old p → 0 < cursor_of g new p
  pub work : work new ≤ work old
  pub queued : queued_new + seen_count old ≡ queued_old + seen_count new
  pub looked : looked_new + looks g old ≡ looked_old + looks g new

-- p is queued, and no open pixel is higher
pub record IsTop (g : Ground) (s : FloodState) (p : ℕ) : Type 0 where
  pub queued : IsInQueue g s.cursors p
  pub above : (r : ℕ) → rank_of g p < r → list_at s.lists r ≡ []

-- p is the front of rank r, and no open pixel is higher
pub record IsAtFront (g : Ground) (s : FloodState) (r p : ℕ) : Type 0 where
  pub top : IsTop g s p
  pub rank : rank_of g p ≡ r
  pub front : IsFront s.lists r (p - g.first)
