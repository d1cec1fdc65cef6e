-- A pixel that looks around: what holds before each look, over the directions that lead out of the strip.
use Rattle.std.proofs.Common.{◌≡◌, ℕ, ◌+◌, ◌-◌, ◌<◌, ◌≤◌, length, refl, inl, arith}
use Rattle.strip_flood.specs.declared.strip.Strip.{Strip}
use Rattle.strip_flood.specs.declared.flood.Flood.{Flood}
use Rattle.strip_flood.specs.Flood.{direction_count, direction, cell, IsStep, HasCell}
use Rattle.strip_flood.specs.Strips.{ground_of, looking, IsStrip, IsLooking, IsCurrentWhile}
use Rattle.strip_flood.proofs.Stepping.{Adj}
use Rattle.strip_flood.proofs.Seeing.{seen_none, none_there}
use Rattle.strip_flood.proofs.Looking.{IsAfter, look_still, still_front}
use Rattle.strip_flood.proofs.Counting.{step_trans}

-- the current pixel looks around, and its cursor is this one
pub record IsOn (strip : Strip) (old now : Flood) (rank pixel cursor queued_old queued_now looked_old looked_now : ℕ) : Type 0 where
  pub around : IsLooking strip now pixel cursor
  pub front : IsCurrentWhile strip now pixel cursor rank pixel
  pub step : IsStep (ground_of strip) old.cursors.items (looking strip now pixel cursor).cursors queued_old queued_now looked_old looked_now
  pub first : 0 < cursor
  pub last : cursor ≤ direction_count strip.connect + 1

module _ (strip : Strip) (known : IsStrip strip) (old now : Flood) (rank pixel q u l m : ℕ) where
  abbrev On : ℕ → Type 0
  On c = IsOn strip old now rank pixel c q u l m

  -- the strip has no pixel in this direction
  abbrev Out : ℕ → Type 0
  Out k = HasCell strip.width strip.first (length strip.ranks.items) pixel (cell strip.connect k) → ⊥

  -- the cursor goes on over such a direction
  pub skip : (c : ℕ) → On c → c ≤ direction_count strip.connect → Out (c - 1) → On (c + 1)
  skip c on more out = record {
    around = record { items = on.around.items; queued = on.around.queued; turning = after.turning };
    front = still_front (ground_of strip) known.ranked now.queue.lists now.cursors.items now.earliest.items now.links.items rank pixel c on.first more
        on.around.turning on.front;
    step = step_trans (ground_of strip) old.cursors.items (looking strip now pixel c).cursors (looking strip now pixel (c + 1)).cursors q u u l m m on.step
        after.step;
    first = omega arith;
    last = omega arith;
  } where
    none : (y : ℕ) → Adj (ground_of strip) pixel y → direction strip.connect strip.width pixel y ≡ c - 1 → ⊥
    none = none_there (ground_of strip) (looking strip now pixel c) known.ranked on.around.turning pixel on.front.top (c - 1) out

    after : IsAfter (ground_of strip) (looking strip now pixel c) (looking strip now pixel (c + 1)) u u m m
    after = look_still (ground_of strip) known.ranked now.queue.lists now.cursors.items now.earliest.items now.links.items rank pixel c on.first more
        on.around.turning on.front u m m
        (seen_none (ground_of strip) (looking strip now pixel c) known.ranked on.around.turning pixel on.front.top (c - 1) none)
        (record { is = inl (refl, none) })
