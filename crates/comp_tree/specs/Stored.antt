-- Bookkeeping: how a plane keeps its pixels. Where few of them are defined, they are cut into blocks of 32, and of each block those from
-- the first defined pixel to the last are kept, its run.
use Rattle.std.specs.Prelude.{◌≡◌, ℕ, ◌+◌, ◌-◌, ◌*◌, ◌/◌, ◌%◌, ◌<◌, ◌≤◌, ℤ, List, length, map, slice_index_or, Option, Some, None}
use Rattle.std.specs.Prelude.{Bool, false, cond, if◌then◌else◌, ◌&&◌, nat_le, nat_lt}
use Rattle.std.specs.List.{range_with_len}
use denote.Ref.{Bor}
use Rattle.comp_tree.specs.declared.pixels.Run.{Run}
use Rattle.comp_tree.specs.Raster.{Raster, value_at}

-- a block without kept pixels
abbrev pub empty_run : Run
empty_run = record { start = 0; first = 0; end = 0 }

-- the run of block b
abbrev pub run_of_block : List Run → ℕ → Run
run_of_block runs b = slice_index_or runs b empty_run

-- the place of a block's pixel with this number in the block, if it is one of the run's
unfoldable pub place_in_run : Run → ℕ → Option ℕ
place_in_run run k = if nat_le run.first k && nat_lt k run.end then Some (run.start + (k - run.first)) else None

-- which of the kept pixels is pixel p, if one is: the p-th where each is kept, else one of its block's
unfoldable pub kept_place : Option (List Run) → ℕ → Option ℕ
kept_place None p = Some p
kept_place (Some runs) p = place_in_run (run_of_block runs (p / 32)) (p % 32)

-- the value at a place
abbrev pub kept_value : List (Option ℤ) → Option ℕ → Option ℤ
kept_value kept None = None
kept_value kept (Some place) = value_at kept place

-- so many pixels, of which these are kept
unfoldable pub kept_pixels : ℕ → Option (List Run) → List (Option ℤ) → List (Option ℤ)
kept_pixels count runs kept = map (λ p. kept_value kept (kept_place runs p)) (range_with_len 0 count)

-- the runs have pixels of their own, in the order of blocks
pub record AreRunsApart (runs : List Run) (kept : List (Option ℤ)) : Type 0 where
  pub inside : (b : ℕ) → b < length runs → (run_of_block runs b).start + ((run_of_block runs b).end - (run_of_block runs b).first) ≤ length kept
  pub apart : (a b : ℕ) → a < b → b < length runs
      → (run_of_block runs a).start + ((run_of_block runs a).end - (run_of_block runs a).first) ≤ (run_of_block runs b).start

-- all pixels are kept, or those of runs apart, one for each block
abbrev pub AreKept : ℕ → Option (List Run) → List (Option ℤ) → Type 0
AreKept count None kept = length kept ≡ count
AreKept count (Some runs) kept = (count ≤ length runs * 32) × AreRunsApart runs kept

-- the first k blocks of these pixels
pub record AreBlocksOf (k : ℕ) (runs : List Run) (kept values : List (Option ℤ)) : Type 0 where
  pub count : length runs ≡ k
  pub few : length kept ≤ k * 32
  pub apart : AreRunsApart runs kept
  pub same : (p : ℕ) → p < k * 32 → kept_value kept (kept_place (Some runs) p) ≡ value_at values p

-- all of these pixels, in blocks
pub record AreAllInBlocks (runs : List Run) (kept values : List (Option ℤ)) : Type 0 where
  pub apart : AreKept (length values) (Some runs) kept
  pub same : kept_pixels (length values) (Some runs) kept ≡ values

-- the first count pixels of a plane are those of another one where they are marked, and else undefined
pub record IsClearedUpTo (r : Raster) (marks : List Bool) (count : ℕ) (plane : Raster) : Type 0 where
  pub same_shape : plane.shape ≡ r.shape
  pub one_each : length plane.values ≡ length r.values
  pub done : (p : ℕ) → p < count → value_at plane.values p ≡ cond (slice_index_or marks p false) (value_at r.values p) None
  pub rest : (p : ℕ) → count ≤ p → value_at plane.values p ≡ value_at r.values p

-- the values of the pixels that are marked, and none for the others
unfoldable pub marked_values : List (Option ℤ) → List Bool → List (Option ℤ)
marked_values values marks = map (λ p. cond (slice_index_or marks p false) (value_at values p) None) (range_with_len 0 (length values))

-- the same, where there are marks, and else the values of all pixels
unfoldable pub shown_values : List (Option ℤ) → Option (Bor (List Bool)) → List (Option ℤ)
shown_values values None = values
shown_values values (Some marks) = marked_values values marks.now
