use Rattle.std.proofs.Common.{◌≡◌, ◌≤◌, ℕ, ◌<◌, false, get_or, length, vec_capacity}
use Rattle.std.specs.Mem.Slots.{slots_items, slots_filled, slots_len}
use Rattle.std.specs.Mem.Slots.Ownership.{Filled}
use Rattle.strip_crew.specs.Run.{plan_of}
use Rattle.strip_crew.specs.Copied.{AreCopied}
use Rattle.strip_crew.proofs.crew.copy_links.Given as goal

abbrev pub invariant-loop-i : goal.invariant-loop-i
invariant-loop-i l =
    (slots_items l.closed.slots ≡ slots_items l.fn.closed.slots)
    × (slots_len l.closed.slots ≡ slots_len l.fn.closed.slots)
    × Filled (slots_filled l.closed.slots) l.i (slots_len l.closed.slots)
    × ((k : ℕ) → k < l.i → get_or (slots_filled l.closed.slots) k false ≡ false)
    × AreCopied (plan_of l.plane l.fn.connect l.cut) l.i l.links.items
    × (length l.plane.values ≤ vec_capacity l.links)
