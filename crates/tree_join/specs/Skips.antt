-- Model: skips over ways that were joined before, and lists that hold them.
use Rattle.std.specs.Prelude.{◌≡◌, ℕ, ◌+◌, ◌<◌, ◌⊎◌, List, length, Option, ℤ, IsTrue, is_some, slice_index}
use Rattle.comp_tree.specs.Joined.{Joined}
use Rattle.comp_tree.specs.Forest.{no_node, value_at, LiesInStretch, IsHigh}

-- p is one of the count pixels from first on, and defined
pub record IsPixel (values : List (Option ℤ)) (first count p : ℕ) : Type 0 where
  pub within : LiesInStretch first count p
  pub value : IsTrue (is_some (value_at values p))

-- E joins x with the pixel y at each level up to the value of y
pub record IsSkip (values : List (Option ℤ)) (first count : ℕ) (E : ℕ → ℕ → Type 0) (x y : ℕ) : Type 0 where
  pub pixel : IsPixel values first count y
  pub joins : (h : ℤ) → IsHigh values first count h y → Joined (IsHigh values first count h) E x y

-- A list of skips has a place for each pixel from first on, as far as it is long. Each place holds none, or the end of such a
-- skip from its pixel.
abbrev pub AreTrueSkips : List (Option ℤ) → ℕ → ℕ → (ℕ → ℕ → Type 0) → List ℕ → Type 0
AreTrueSkips values first count E skips =
    (i : ℕ) → i < length skips → (slice_index skips i ≡ no_node) ⊎ IsSkip values first count E (first + i) (slice_index skips i)
