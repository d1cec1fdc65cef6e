-- The directions from a pixel that stay in the strip.
use Rattle.std.proofs.Common.{◌≡◌, ℕ, zero, suc, ◌+◌, ◌-◌, ◌*◌, ◌/◌, ◌%◌, ◌^◌, ◌<◌, ◌≤◌, min, max, bit_and, bit_or, w32, refl, subst, ap, ◌∙◌, ⊎_elim, arith}
use Rattle.std.proofs.Common.{mul-le-mul_right}
use Rattle.std.specs.Int.{bit_at, bit_not}
use Rattle.std.proofs.lemmas.Bool.{cases_lt}
use Rattle.std.proofs.lemmas.Nat.{mod_below, div-add-mod'}
use Rattle.std.proofs.lemmas.Nat.Bits.{bit_at-zero, bit_at_and, bit_at_or, bit_at_not, bit_at_ones}
use Rattle.comp_tree.specs.declared.shape.Connect.{Connect}
use Rattle.comp_tree.specs.declared.shape.Connect.TheVariants.{Four, Eight}
use Rattle.comp_tree.specs.Forest.{LiesInStretch}
use Rattle.strip_flood.specs.Flood.{direction_count, cell, IsInterior, HasCell, HasDirections, AreSides}
use Rattle.strip_flood.proofs.Directions.{cell_nine}
use Rattle.strip_flood.proofs.Flow.{ends_small}

-- ---- the four sides

each_four : (P : ℕ → Type 0) → P 0 → P 1 → P 2 → P 3 → (k : ℕ) → k < 4 → P k
each_four P a b c d zero l = a
each_four P a b c d (suc zero) l = b
each_four P a b c d (suc (suc zero)) l = c
each_four P a b c d (suc (suc (suc zero))) l = d
each_four P a b c d (suc (suc (suc (suc k)))) l = absurd (omega arith)

each_eight : (P : ℕ → Type 0) → P 0 → P 1 → P 2 → P 3 → P 4 → P 5 → P 6 → P 7 → (k : ℕ) → k < 8 → P k
each_eight P a b c d e f g h zero l = a
each_eight P a b c d e f g h (suc k) l = by k (omega arith) where
  by : (j : ℕ) → j < 7 → P (suc j)
  by zero l = b
  by (suc zero) l = c
  by (suc (suc zero)) l = d
  by (suc (suc (suc j))) l = each_four (λ i. P (suc (suc (suc (suc i))))) e f g h j (omega arith)

pub sides_four : AreSides Four 1 2 4 8
sides_four = record {
  up = each_four (λ k. bit_at 1 k ≡ 1 - cell Four k / 3) refl refl refl refl;
  west = each_four (λ k. bit_at 2 k ≡ 1 - cell Four k % 3) refl refl refl refl;
  east = each_four (λ k. bit_at 4 k ≡ cell Four k % 3 - 1) refl refl refl refl;
  down = each_four (λ k. bit_at 8 k ≡ cell Four k / 3 - 1) refl refl refl refl;
}

pub sides_eight : AreSides Eight 7 41 148 224
sides_eight = record {
  up = each_eight (λ k. bit_at 7 k ≡ 1 - cell Eight k / 3) refl refl refl refl refl refl refl refl;
  west = each_eight (λ k. bit_at 41 k ≡ 1 - cell Eight k % 3) refl refl refl refl refl refl refl refl;
  east = each_eight (λ k. bit_at 148 k ≡ cell Eight k % 3 - 1) refl refl refl refl refl refl refl refl;
  down = each_eight (λ k. bit_at 224 k ≡ cell Eight k / 3 - 1) refl refl refl refl refl refl refl refl;
}

-- ---- where the cells of a pixel are, in whole rows

-- how far the pixel p, in this column, is from the first and the last row of the count pixels from first on
pub record IsInRows (width first count p column : ℕ) : Type 0 where
  pub from : first + column ≤ p
  pub top : p - first < width → p ≡ first + column
  pub lower : width ≤ p - first → first + width + column ≤ p
  pub to : p + width ≤ first + count + column
  pub bottom : first + count ≤ p + width → p + width ≡ first + count + column
  pub higher : p + width < first + count → p + 2 * width ≤ first + count + column

rows_by : (width first count p r c a b : ℕ) → first ≤ p → p < first + count → c < width → r * width + c ≡ p → a * width ≡ first → b * width ≡ first + count
    → IsInRows width first count p c
rows_by width first count p r c a b low high less at start end = record {
  from = from;
  top = λ l. ⊎_elim
      (λ (m : a < r). absurd (let t : (a + 1) * width ≤ r * width = mul-le-mul_right width (omega arith) in omega arith))
      (λ (m : r ≤ a). let e : r * width ≡ a * width = ap (λ n. n * width) (same m) in omega arith)
      (cases_lt a r);
  lower = λ l. ⊎_elim
      (λ (m : a < r). let t : (a + 1) * width ≤ r * width = mul-le-mul_right width (omega arith) in omega arith)
      (λ (m : r ≤ a). absurd (let e : r * width ≡ a * width = ap (λ n. n * width) (same m) in omega arith))
      (cases_lt a r);
  to = to;
  bottom = λ l. ⊎_elim
      (λ (m : r + 1 < b). absurd (let t : (r + 2) * width ≤ b * width = mul-le-mul_right width (omega arith) in omega arith))
      (λ (m : b ≤ r + 1). let t : b * width ≤ (r + 1) * width = mul-le-mul_right width m in omega (arith, to))
      (cases_lt (r + 1) b);
  higher = λ l. ⊎_elim
      (λ (m : r + 1 < b). let t : (r + 2) * width ≤ b * width = mul-le-mul_right width (omega arith) in omega arith)
      (λ (m : b ≤ r + 1). absurd (let t : b * width ≤ (r + 1) * width = mul-le-mul_right width m in omega arith))
      (cases_lt (r + 1) b);
} where
  begun : a ≤ r
  begun = ⊎_elim
      (λ (m : r < a). absurd (let t : (r + 1) * width ≤ a * width = mul-le-mul_right width (omega arith) in omega arith))
      (λ (m : a ≤ r). m)
      (cases_lt r a)

  same : r ≤ a → r ≡ a
  same m = omega (arith, begun, m)

  from : first + c ≤ p
  from = let t : a * width ≤ r * width = mul-le-mul_right width begun in omega arith

  ended : r < b
  ended = ⊎_elim
      (λ (m : r < b). m)
      (λ (m : b ≤ r). absurd (let t : b * width ≤ r * width = mul-le-mul_right width m in omega arith))
      (cases_lt r b)

  to : p + width ≤ first + count + c
  to = let t : (r + 1) * width ≤ b * width = mul-le-mul_right width (omega (arith, ended)) in omega arith

pub in_rows : (width first count p : ℕ) → 0 < width → first % width ≡ 0 → (first + count) % width ≡ 0 → LiesInStretch first count p
    → IsInRows width first count p (p % width)
in_rows width first count p pos starts ends inside = rows_by width first count p (p / width) (p % width) (first / width) ((first + count) / width)
    inside.low inside.high (mod_below p width pos) (div-add-mod' p width)
    (let d : first / width * width + first % width ≡ first = div-add-mod' first width in omega arith)
    (let d : (first + count) / width * width + (first + count) % width ≡ first + count = div-add-mod' (first + count) width in omega arith)

module _ (width first count p : ℕ) (pos : 0 < width) (rows : IsInRows width first count p (p % width)) (high : p < first + count)
    (narrow : p % width < width) where
  -- the cell in row i and column j of the nine
  cell_by : (i j : ℕ) → i < 3 → j < 3 → (i ≡ 0 → width ≤ p - first) → (i ≡ 2 → p + width < first + count) → (j ≡ 0 → 0 < p % width)
      → (j ≡ 2 → p % width + 1 < width)
      → (first + width + 1 ≤ p + i * width + j) × (p + i * width + j < first + count + width + 1) × (0 < p % width + j) × (p % width + j ≤ width)
  cell_by i j li lj up down left right = ((by i li up down).0, (by i li up down).1, west, east) where
    west : 0 < p % width + j
    west = ⊎_elim (λ (l : 0 < j). omega arith) (λ (z : j ≤ 0). let l : 0 < p % width = left (omega arith) in omega arith) (cases_lt 0 j)

    east : p % width + j ≤ width
    east = ⊎_elim (λ (l : 1 < j). let m : p % width + 1 < width = right (omega arith) in omega arith) (λ (z : j ≤ 1). omega arith) (cases_lt 1 j)

    by : (n : ℕ) → n < 3 → (n ≡ 0 → width ≤ p - first) → (n ≡ 2 → p + width < first + count)
        → (first + width + 1 ≤ p + n * width + j) × (p + n * width + j < first + count + width + 1)
    by zero l u d = let a : first + width + p % width ≤ p = rows.lower (u refl) in (omega (arith, west), omega arith)
    by (suc zero) l u d = let a : first + p % width ≤ p = rows.from in let b : p + width ≤ first + count + p % width = rows.to in
        (omega (arith, west), omega (arith, east))
    by (suc (suc zero)) l u d = let a : first + p % width ≤ p = rows.from in
        let b : p + 2 * width ≤ first + count + p % width = rows.higher (d refl) in (omega arith, omega (arith, east))
    by (suc (suc (suc n))) l u d = absurd (omega arith)

  pub has_cell : (m : ℕ) → m < 9 → (m / 3 ≡ 0 → width ≤ p - first) → (m / 3 ≡ 2 → p + width < first + count) → (m % 3 ≡ 0 → 0 < p % width)
      → (m % 3 ≡ 2 → p % width + 1 < width) → HasCell width first count p m
  has_cell m nine up down left right =
      let c : (first + width + 1 ≤ p + m / 3 * width + m % 3) × (p + m / 3 * width + m % 3 < first + count + width + 1) × (0 < p % width + m % 3)
      × (p % width + m % 3 ≤ width) = cell_by (m / 3) (m % 3) (omega arith) (omega arith) up down left right in
      record { up = c.0; down = c.1; left = c.2; right = c.3 }

  -- a cell that is there is not over an edge
  pub not_above : (m : ℕ) → HasCell width first count p m → m / 3 ≡ 0 → p - first < width → ⊥
  not_above m there e top = let at : p ≡ first + p % width = rows.top top in let right : p % width + m % 3 ≤ width = there.right in
      let up : first + width + 1 ≤ p + 0 * width + m % 3 = subst (λ i. first + width + 1 ≤ p + i * width + m % 3) e there.up in omega arith

  pub not_below : (m : ℕ) → HasCell width first count p m → m / 3 ≡ 2 → first + count ≤ p + width → ⊥
  not_below m there e bottom = let at : p + width ≡ first + count + p % width = rows.bottom bottom in let left : 0 < p % width + m % 3 = there.left in
      let down : p + 2 * width + m % 3 < first + count + width + 1 =
      subst (λ i. p + i * width + m % 3 < first + count + width + 1) e there.down in omega arith

-- ---- the masks

-- the directions of a side, if the pixel is at the edge there
pub record IsOver (Edge Inner : Type 0) (side over : ℕ) : Type 0 where
  pub edge : Edge → over ≡ side
  pub inner : Inner → over ≡ 0

module _ (connect : Connect) (width first count p : ℕ) (pos : 0 < width) (starts : first % width ≡ 0) (ends : (first + count) % width ≡ 0)
    (inside : LiesInStretch first count p) (above left right below a l r b : ℕ) (sides : AreSides connect above left right below)
    (oa : IsOver (p - first < width) (width ≤ p - first) above a) (ol : IsOver (p % width ≡ 0) (0 < p % width) left l)
    (or : IsOver (width ≤ p % width + 1) (p % width + 1 < width) right r) (ob : IsOver (first + count ≤ p + width) (p + width < first + count) below b)
    (fits : bit_or (bit_or (bit_or a l) r) b < 2 ^ 32) where
  abbrev out : ℕ
  out = bit_or (bit_or (bit_or a l) r) b

  abbrev mask : ℕ
  mask = bit_and (2 ^ direction_count connect - 1) (bit_not w32 out)

  small : p % width < width
  small = mod_below p width pos

  rows : IsInRows width first count p (p % width)
  rows = in_rows width first count p pos starts ends inside

  both : (k : ℕ) → bit_at mask k ≡ min (bit_at (2 ^ direction_count connect - 1) k) (bit_at (bit_not w32 out) k)
  both k = bit_at_and (2 ^ direction_count connect - 1) (bit_not w32 out) k

  out_bit : (k : ℕ) → bit_at out k ≡ max (max (max (bit_at a k) (bit_at l k)) (bit_at r k)) (bit_at b k)
  out_bit k = bit_at_or (bit_or (bit_or a l) r) b k ∙ ap (λ n. max n (bit_at b k)) (bit_at_or (bit_or a l) r k
      ∙ ap (λ n. max n (bit_at r k)) (bit_at_or a l k))

  -- a bit of the mask is none of those over an edge
  in_mask : (k : ℕ) → k < direction_count connect → bit_at mask k ≡ 1 - bit_at out k
  in_mask k more = let d : direction_count connect ≤ 8 = ends_small connect in
      let w : bit_at mask k ≡ min (bit_at (2 ^ direction_count connect - 1) k) (bit_at (bit_not w32 out) k) = both k in
      let o : bit_at (2 ^ direction_count connect - 1) k ≡ 1 = bit_at_ones (direction_count connect) k more in
      let n : bit_at (bit_not w32 out) k ≡ 1 - bit_at out k = bit_at_not w32 out k fits (omega arith) in omega arith

  there : (k : ℕ) → k < direction_count connect → bit_at mask k ≡ 1 → HasCell width first count p (cell connect k)
  there k more e = has_cell width first count p pos rows inside.high small (cell connect k) (cell_nine connect k more)
      (λ up. ⊎_elim
      (λ (t : p - first < width). absurd (let s : bit_at above k ≡ 1 - cell connect k / 3 = sides.up k more in
      let f : bit_at a k ≡ bit_at above k = ap (λ n. bit_at n k) (oa.edge t) in omega (arith, none)))
      (λ (t : width ≤ p - first). t) (cases_lt (p - first) width))
      (λ down. ⊎_elim
      (λ (t : p + width < first + count). t)
      (λ (t : first + count ≤ p + width). absurd (let s : bit_at below k ≡ cell connect k / 3 - 1 = sides.down k more in
      let f : bit_at b k ≡ bit_at below k = ap (λ n. bit_at n k) (ob.edge t) in omega (arith, none)))
      (cases_lt (p + width) (first + count)))
      (λ west. ⊎_elim
      (λ (t : 0 < p % width). t)
      (λ (t : p % width ≤ 0). absurd (let s : bit_at left k ≡ 1 - cell connect k % 3 = sides.west k more in
      let f : bit_at l k ≡ bit_at left k = ap (λ n. bit_at n k) (ol.edge (omega arith)) in omega (arith, none)))
      (cases_lt 0 (p % width)))
      (λ east. ⊎_elim
      (λ (t : p % width + 1 < width). t)
      (λ (t : width ≤ p % width + 1). absurd (let s : bit_at right k ≡ cell connect k % 3 - 1 = sides.east k more in
      let f : bit_at r k ≡ bit_at right k = ap (λ n. bit_at n k) (or.edge t) in omega (arith, none)))
      (cases_lt (p % width + 1) width)) where
        none : max (max (max (bit_at a k) (bit_at l k)) (bit_at r k)) (bit_at b k) ≡ 0
        none = let w : bit_at mask k ≡ 1 - bit_at out k = in_mask k more in
            let o : bit_at out k ≡ max (max (max (bit_at a k) (bit_at l k)) (bit_at r k)) (bit_at b k) = out_bit k in omega arith

  all : (k : ℕ) → k < direction_count connect → HasCell width first count p (cell connect k) → bit_at mask k ≡ 1
  all k more c = let w : bit_at mask k ≡ 1 - bit_at out k = in_mask k more in
      let o : bit_at out k ≡ max (max (max (bit_at a k) (bit_at l k)) (bit_at r k)) (bit_at b k) = out_bit k in
      omega (arith, w, o, no_a, no_l, no_r, no_b) where
        no_a : bit_at a k ≡ 0
        no_a = ⊎_elim
            (λ (t : p - first < width). ap (λ n. bit_at n k) (oa.edge t) ∙ (let s : bit_at above k ≡ 1 - cell connect k / 3 = sides.up k more in
            ⊎_elim (λ (z : 0 < cell connect k / 3). omega arith)
            (λ (z : cell connect k / 3 ≤ 0). absurd (not_above width first count p pos rows inside.high small (cell connect k) c (omega arith) t))
            (cases_lt 0 (cell connect k / 3))))
            (λ (t : width ≤ p - first). ap (λ n. bit_at n k) (oa.inner t) ∙ bit_at-zero k) (cases_lt (p - first) width)

        no_b : bit_at b k ≡ 0
        no_b = ⊎_elim
            (λ (t : p + width < first + count). ap (λ n. bit_at n k) (ob.inner t) ∙ bit_at-zero k)
            (λ (t : first + count ≤ p + width). ap (λ n. bit_at n k) (ob.edge t) ∙ (let s : bit_at below k ≡ cell connect k / 3 - 1 = sides.down k more in
            let nine : cell connect k < 9 = cell_nine connect k more in
            ⊎_elim (λ (z : cell connect k / 3 < 2). omega arith)
            (λ (z : 2 ≤ cell connect k / 3). absurd (not_below width first count p pos rows inside.high small (cell connect k) c (omega arith) t))
            (cases_lt (cell connect k / 3) 2)))
            (cases_lt (p + width) (first + count))

        no_l : bit_at l k ≡ 0
        no_l = ⊎_elim
            (λ (t : 0 < p % width). ap (λ n. bit_at n k) (ol.inner t) ∙ bit_at-zero k)
            (λ (t : p % width ≤ 0). ap (λ n. bit_at n k) (ol.edge (omega arith)) ∙ (let s : bit_at left k ≡ 1 - cell connect k % 3 = sides.west k more in
            let i : 0 < p % width + cell connect k % 3 = c.left in omega arith))
            (cases_lt 0 (p % width))

        no_r : bit_at r k ≡ 0
        no_r = ⊎_elim
            (λ (t : p % width + 1 < width). ap (λ n. bit_at n k) (or.inner t) ∙ bit_at-zero k)
            (λ (t : width ≤ p % width + 1). ap (λ n. bit_at n k) (or.edge t) ∙ (let s : bit_at right k ≡ cell connect k % 3 - 1 = sides.east k more in
            let i : p % width + cell connect k % 3 ≤ width = c.right in omega arith))
            (cases_lt (p % width + 1) width)

  -- all directions but those over an edge
  pub edge_directions : HasDirections connect width first count p (bit_and (2 ^ direction_count connect - 1)
      (bit_not w32 (bit_or (bit_or (bit_or a l) r) b)))
  edge_directions = record { there = there; all = all }

-- a pixel with all nine around it has all directions
pub inner_directions : (connect : Connect) (width first count p : ℕ) → 0 < width → first % width ≡ 0 → (first + count) % width ≡ 0 → LiesInStretch first count p
    → IsInterior width first count p → HasDirections connect width first count p (2 ^ direction_count connect - 1)
inner_directions connect width first count p pos starts ends inside inner = record {
  there = λ k more e. has_cell width first count p pos (in_rows width first count p pos starts ends inside) inside.high (mod_below p width pos)
      (cell connect k) (cell_nine connect k more)
      (λ i. let up : first + width < p = inner.up in omega arith)
      (λ i. let down : p + width + 1 < first + count = inner.down in omega arith)
      (λ i. inner.left)
      (λ i. inner.right);
  all = λ k more c. bit_at_ones (direction_count connect) k more;
}
