-- Model: links of the pixels of some whole rows, and what they stand for.
use Rattle.std.specs.Prelude.{◌≡◌, ℕ, ◌-◌, List, length, Option, ℤ, ◌⊎◌, ◌↔◌, slice_index_or}
pub use Rattle.comp_tree.specs.Limits.{no_node}
pub use Rattle.comp_tree.specs.Raster.{value_at, ReachesLevel, is_before, ComesBefore}
pub use Rattle.comp_tree.specs.Grid.{LiesInStretch}
use Rattle.comp_tree.specs.declared.shape.Connect.{Connect}
use Rattle.comp_tree.specs.Raster.{Raster}
use Rattle.comp_tree.specs.Grid.{IsAdjacency}
use Rattle.comp_tree.specs.Joined.{Joined}

-- a is earlier than b
abbrev pub ComesEarlier : List (Option ℤ) → ℕ → ℕ → Type 0
ComesEarlier values a b = ComesBefore (value_at values a) a (value_at values b) b

-- p is one of these pixels, and its value is at least h
pub record IsHigh (values : List (Option ℤ)) (first count : ℕ) (h : ℤ) (p : ℕ) : Type 0 where
  pub within : LiesInStretch first count p
  pub value : ReachesLevel h (value_at values p)

-- ---- links

-- the link of pixel p; the links are those of the pixels from first on
abbrev pub link_of : ℕ → List ℕ → ℕ → ℕ
link_of first links p = slice_index_or links (p - first) no_node

-- p is one of these pixels, and its link is q
pub record IsLink (first : ℕ) (links : List ℕ) (p q : ℕ) : Type 0 where
  pub within : LiesInStretch first (length links) p
  pub link : link_of first links p ≡ q

-- the link of p is none, or one of these pixels and earlier
abbrev pub LinksToEarlier : List (Option ℤ) → ℕ → List ℕ → ℕ → Type 0
LinksToEarlier values first links p =
    (link_of first links p ≡ no_node)
    ⊎ (LiesInStretch first (length links) (link_of first links p) × ComesEarlier values (link_of first links p) p)

-- the links of all these pixels are so. So an undefined pixel links to none, and nothing links to it
pub record IsForest (values : List (Option ℤ)) (first : ℕ) (links : List ℕ) : Type 0 where
  pub earlier : (p : ℕ) → LiesInStretch first (length links) p → LinksToEarlier values first links p

-- z is the last pixel that is high on the walk from p along the links, p included
pub data WayEndsAt (values : List (Option ℤ)) (first : ℕ) (links : List ℕ) (h : ℤ) : ℕ → ℕ → Type 0 where
  stop : {p : ℕ} → IsHigh values first (length links) h p → (IsHigh values first (length links) h (link_of first links p) → ⊥)
      → WayEndsAt values first links h p p
  go : {p z : ℕ} → IsHigh values first (length links) h p → WayEndsAt values first links h (link_of first links p) z
      → WayEndsAt values first links h p z

-- the walks from p and from q have the same last pixel of value at least h
abbrev pub HaveSameLast : List (Option ℤ) → ℕ → List ℕ → ℤ → ℕ → ℕ → Type 0
HaveSameLast values first links h p q = (z : ℕ) × (WayEndsAt values first links h p z × WayEndsAt values first links h q z)

-- ---- what links stand for

-- at each level, two pixels have the same last pixel exactly where E joins them
pub record StandsFor (values : List (Option ℤ)) (first : ℕ) (links : List ℕ) (E : ℕ → ℕ → Type 0) : Type 0 where
  pub joins : (h : ℤ) (p q : ℕ) → IsHigh values first (length links) h p → IsHigh values first (length links) h q →
      HaveSameLast values first links h p q ↔ Joined (IsHigh values first (length links) h) E p q

-- the links, one for each pixel of the plane, stand for all its adjacencies
abbrev pub StandsForAll : Raster → Connect → List ℕ → Type 0
StandsForAll r connect links = StandsFor r.values 0 links (IsAdjacency r.values r.shape.width connect)

-- E and F join the same pixels at each level
pub record JoinSame (values : List (Option ℤ)) (first count : ℕ) (E F : ℕ → ℕ → Type 0) : Type 0 where
  pub same : (h : ℤ) (p q : ℕ) → Joined (IsHigh values first count h) E p q ↔ Joined (IsHigh values first count h) F p q
