-- Bookkeeping: pixels as they are kept one after the other, in eight bytes each or in four.
use Rattle.std.specs.Prelude.{ℕ, ◌^◌, ℤ, List, Option}
use Rattle.comp_tree.specs.declared.kept.Kept.{Kept}
use Rattle.comp_tree.specs.declared.kept.Kept.TheVariants.{Wide, Short}
use Rattle.comp_tree.specs.Numbers.{most_short}

-- the values of the pixels
abbrev pub kept_items : Kept → List (Option ℤ)
kept_items (Wide pixels) = pixels.items
kept_items (Short pixels) = pixels.items

-- the largest value that one of them may be given
abbrev pub room_of : Kept → ℕ
room_of (Wide pixels) = 2 ^ 37
room_of (Short pixels) = most_short
