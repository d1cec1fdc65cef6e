-- Model: the names of fields of the sky.
use Rattle.std.specs.Prelude.{ℕ, Bool, ◌&&◌, ◌||◌, ◌==◌, nat_le, List, length}
use Rattle.std.specs.declared.cmp.Ordering.{Ordering}
use Rattle.std.specs.Ordering.{nat_cmp}
use Rattle.std.specs.List.{list_all}
use Rattle.std.specs.Cmp.Lexicographic.{slice_cmp}

abbrev pub is_from_to : ℕ → ℕ → ℕ → Bool
is_from_to low high b = nat_le low b && nat_le b high

-- a letter, a digit, `_` or `-`
abbrev pub is_letter : ℕ → Bool
is_letter b = is_from_to 0x41 0x5a b || is_from_to 0x61 0x7a b || is_from_to 0x30 0x39 b || (b == 0x5f) || (b == 0x2d)

-- one to 16 of these
abbrev pub is_name : List ℕ → Bool
is_name text = is_from_to 1 16 (length text) && list_all is_letter text

-- byte by byte, and a name before what extends it
abbrev pub name_cmp : List ℕ → List ℕ → Ordering
name_cmp = slice_cmp nat_cmp
