-- Bookkeeping: marks and lists of pixels, while groups are flooded.
use Rattle.std.specs.Prelude.{◌≡◌, ℕ, ◌<◌, ◌⊎◌, ◌++◌, Bool, IsTrue, ℤ, List, length, All, Contains, slice_get, Some}
use Rattle.comp_tree.specs.declared.shape.Connect.{Connect}
use Rattle.comp_tree.specs.Raster.{Raster, is_at_least}
use Rattle.comp_tree.specs.Grid.{IsAdjacency}
use Rattle.comp_tree.specs.Marks.{is_marked}
use Rattle.source_pick.specs.declared.choice.Choice.{Choice}
use Rattle.source_sheet.specs.Laid.{HasFewAround}

-- each pixel of at least the threshold is in the list, or has too few around it
abbrev pub HoldsGroups : Raster → Connect → Choice → List ℕ → Type 0
HoldsGroups r connect choice ps = (p : ℕ) → IsTrue (is_at_least r choice.threshold p)
    → Contains ps p ⊎ HasFewAround r connect choice.threshold choice.min_area p

-- each pixel of at least h beside a is marked
abbrev pub IsSurrounded : Raster → Connect → ℤ → List Bool → ℕ → Type 0
IsSurrounded r connect h marks a =
    (b : ℕ) → IsTrue (is_at_least r h b) → IsAdjacency r.values r.shape.width connect a b → IsTrue (is_marked marks b)

-- from marks `old` to marks `new`, pixels were marked and put behind the list `front`, which became `items`
pub record HasListed (r : Raster) (old : List Bool) (front : List ℕ) (new : List Bool) (items : List ℕ) : Type 0 where
  pub one_each : length new ≡ length old
  pub added : List ℕ
  pub items_are : items ≡ front ++ added
  pub below : All (λ a. a < length r.values) added
  pub kept : (a : ℕ) → IsTrue (is_marked old a) → IsTrue (is_marked new a)
  pub listed : (a : ℕ) → IsTrue (is_marked new a) → IsTrue (is_marked old a) ⊎ Contains added a

-- pixel b was looked at
pub record HasLookedAt (r : Raster) (h : ℤ) (b : ℕ) (old : List Bool) (front : List ℕ) (new : List Bool) (items : List ℕ) : Type 0 where
  pub more : HasListed r old front new items
  pub marked : IsTrue (is_at_least r h b) → IsTrue (is_marked new b)

-- the first ones of these pixels were
pub record HasLookedAtFirst (r : Raster) (h : ℤ) (near : List ℕ) (count : ℕ) (old : List Bool) (front : List ℕ) (new : List Bool) (items : List ℕ)
    : Type 0 where
  pub more : HasListed r old front new items
  pub marked : (k b : ℕ) → k < count → slice_get near k ≡ Some b → IsTrue (is_at_least r h b) → IsTrue (is_marked new b)

-- the marks spread from a to the pixels beside it
pub record HasSpread (r : Raster) (connect : Connect) (h : ℤ) (a : ℕ) (old : List Bool) (front : List ℕ) (new : List Bool) (items : List ℕ)
    : Type 0 where
  pub more : HasListed r old front new items
  pub surrounded : IsSurrounded r connect h new a

-- they spread from p on, as far as the pixels before the cursor lead: each marked pixel is surrounded, or waits in the list
pub record IsFlooding (r : Raster) (connect : Connect) (h : ℤ) (p : ℕ) (old : List Bool) (front : List ℕ) (cursor : ℕ) (new : List Bool)
    (items : List ℕ) : Type 0 where
  pub more : HasListed r old front new items
  pub begun : IsTrue (is_marked new p)
  pub seen : List ℕ
  pub rest : List ℕ
  pub cut : items ≡ seen ++ rest
  pub at : length seen ≡ cursor
  pub all_below : All (λ a. a < length r.values) items
  pub surrounded : (a : ℕ) → IsTrue (is_marked new a) → IsTrue (is_marked old a) ⊎ (IsSurrounded r connect h new a ⊎ Contains rest a)

-- they spread from p on, until none waited
pub record IsFlooded (r : Raster) (connect : Connect) (h : ℤ) (p : ℕ) (old : List Bool) (front : List ℕ) (new : List Bool) (items : List ℕ)
    : Type 0 where
  pub more : HasListed r old front new items
  pub begun : IsTrue (is_marked new p)
  pub surrounded : (a : ℕ) → IsTrue (is_marked new a) → IsTrue (is_marked old a) ⊎ IsSurrounded r connect h new a

-- the marked pixels are whole groups, which are listed or small
pub record AreGrouped (r : Raster) (connect : Connect) (h : ℤ) (min_area : ℕ) (marks : List Bool) (items : List ℕ) : Type 0 where
  pub one_each : length marks ≡ length r.values
  pub below : All (λ a. a < length r.values) items
  pub closed : (a : ℕ) → IsTrue (is_marked marks a) → IsSurrounded r connect h marks a
  pub held : (a : ℕ) → IsTrue (is_marked marks a) → Contains items a ⊎ HasFewAround r connect h min_area a

-- a group was marked, the one of p among them
pub record HasGrouped (r : Raster) (connect : Connect) (h : ℤ) (min_area p : ℕ) (old new : List Bool) (items : List ℕ) : Type 0 where
  pub grouped : AreGrouped r connect h min_area new items
  pub kept : (a : ℕ) → IsTrue (is_marked old a) → IsTrue (is_marked new a)
  pub begun : IsTrue (is_marked new p)

-- the pixels before p that have at least h are marked
pub record AreGroupedBefore (r : Raster) (connect : Connect) (h : ℤ) (min_area p : ℕ) (marks : List Bool) (items : List ℕ) : Type 0 where
  pub grouped : AreGrouped r connect h min_area marks items
  pub marked : (a : ℕ) → a < p → IsTrue (is_at_least r h a) → IsTrue (is_marked marks a)
