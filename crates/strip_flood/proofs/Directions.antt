-- The directions from a pixel to its neighbours.
use Rattle.std.proofs.Common.{◌≡◌, ℕ, zero, suc, ◌+◌, ◌-◌, ◌*◌, ◌/◌, ◌%◌, ◌<◌, ◌≤◌, max, cond, ◌&&◌, true, is_some, List, Option, ℤ, ◌⊎◌, inl, inr, refl, sym}
use Rattle.std.proofs.Common.{◌∙◌, ap, subst, ⊎_elim, arith}
use Rattle.std.specs.Prelude.{nat_lt}
use Rattle.std.proofs.lemmas.Bool.{cases_lt, and_parts}
use Rattle.std.proofs.lemmas.Bool.Decides.{nat_tests}
use Rattle.std.proofs.lemmas.Nat.{div-mul-add, mod-mul-add, mod_below, div-add-mod'}
use Rattle.comp_tree.specs.declared.shape.Connect.{Connect}
use Rattle.comp_tree.specs.declared.shape.Connect.TheVariants.{Four, Eight}
use Rattle.comp_tree.specs.Forest.{value_at, LiesInStretch}
use Rattle.comp_tree.specs.Grid.{distance, are_neighbours, IsInner}
use Rattle.strip_flood.specs.Flood.{direction_count, cell, cell_of, direction, IsAt, IsNeighbour, HasCell}
use Rattle.comp_tree.proofs.Exported.{adjacent_turned, neighbours_four, neighbours_eight}

pub inner_sym : (values : List (Option ℤ)) (width : ℕ) (connect : Connect) (first count x y : ℕ) → IsInner values width connect first count x y
    → IsInner values width connect first count y x
inner_sym values width connect first count x y i = record { adjacent = adjacent_turned values width connect x y i.adjacent; one = i.other; other = i.one }

pub inner_near : (values : List (Option ℤ)) (width : ℕ) (connect : Connect) (first count x y : ℕ) → IsInner values width connect first count x y
    → are_neighbours connect width x y ≡ true
inner_near values width connect first count x y i =
    (and_parts (is_some (value_at values x) && is_some (value_at values y)) (are_neighbours connect width x y) i.adjacent).1

cond_cases : (a b x y : ℕ) → ((a < b) × (cond (nat_lt a b) x y ≡ x)) ⊎ ((b ≤ a) × (cond (nat_lt a b) x y ≡ y))
cond_cases a b x y = ⊎_elim
    (λ (l : a < b). inl (l, grind (arith, nat_tests)))
    (λ (g : b ≤ a). inr (g, grind (arith, nat_tests)))
    (cases_lt a b)

-- the rows a and c and the columns b and d are near
pub record IsNear (a c b d : ℕ) : Type 0 where
  pub row_low : a ≤ c + 1
  pub row_high : c ≤ a + 1
  pub column_low : b ≤ d + 1
  pub column_high : d ≤ b + 1

near_rows : (connect : Connect) (width p q : ℕ) → are_neighbours connect width p q ≡ true → IsNear (p / width) (q / width) (p % width) (q % width)
unfolding distance
near_rows Four width p q e = let n : distance (p / width) (q / width) + distance (p % width) (q % width) ≡ 1 = (neighbours_four width p q).0 e in
    record { row_low = omega arith; row_high = omega arith; column_low = omega arith; column_high = omega arith }
near_rows Eight width p q e = let n : max (distance (p / width) (q / width)) (distance (p % width) (q % width)) ≡ 1 = (neighbours_eight width p q).0 e in
    record { row_low = omega arith; row_high = omega arith; column_low = omega arith; column_high = omega arith }

-- the cell of near rows and columns
cell_by : (a c b d : ℕ) → IsNear a c b d → (a + (3 * (c + 1 - a) + (d + 1 - b)) / 3 ≡ c + 1) × (b + (3 * (c + 1 - a) + (d + 1 - b)) % 3 ≡ d + 1)
cell_by a c b d n = let r1 : a ≤ c + 1 = n.row_low in let r2 : c ≤ a + 1 = n.row_high in let c1 : b ≤ d + 1 = n.column_low in let c2 : d ≤ b + 1 =
    n.column_high in (omega arith, omega arith)

direction_small : (connect : Connect) (width p q : ℕ) → are_neighbours connect width p q ≡ true → direction connect width p q < direction_count connect
unfolding distance
direction_small Four width p q e = let n : IsNear (p / width) (q / width) (p % width) (q % width) = near_rows Four width p q e in
    let m : distance (p / width) (q / width) + distance (p % width) (q % width) ≡ 1 = (neighbours_four width p q).0 e in
    let l : cell_of width p q ≤ 7 = omega arith in omega arith
direction_small Eight width p q e = let n : IsNear (p / width) (q / width) (p % width) (q % width) = near_rows Eight width p q e in
    let l : cell_of width p q ≤ 8 = omega arith in
    ⊎_elim
    (λ (c : (cell_of width p q < 4) × (direction Eight width p q ≡ cell_of width p q)). let c0 : cell_of width p q < 4 = c.0 in rw c.1 (omega arith))
    (λ (c : (4 ≤ cell_of width p q) × (direction Eight width p q ≡ cell_of width p q - 1)). let c0 : 4 ≤ cell_of width p q = c.0 in rw c.1 (omega arith))
    (cond_cases (cell_of width p q) 4 (cell_of width p q) (cell_of width p q - 1))

pub inner_direction : (values : List (Option ℤ)) (width : ℕ) (connect : Connect) (first count x y : ℕ) → 0 < width
    → IsInner values width connect first count x y → direction connect width x y < direction_count connect
inner_direction values width connect first count x y pos i = direction_small connect width x y (inner_near values width connect first count x y i)

-- a direction leads back to its cell
direction_cell : (connect : Connect) (width p q : ℕ) → are_neighbours connect width p q ≡ true → cell connect (direction connect width p q) ≡ cell_of width p q
unfolding distance
direction_cell Four width p q e =
    let m : distance (p / width) (q / width) + distance (p % width) (q % width) ≡ 1 = (neighbours_four width p q).0 e in
    let n : IsNear (p / width) (q / width) (p % width) (q % width) = near_rows Four width p q e in
    let odd : cell_of width p q % 2 ≡ 1 = omega arith in omega arith
direction_cell Eight width p q e =
    let m : max (distance (p / width) (q / width)) (distance (p % width) (q % width)) ≡ 1 = (neighbours_eight width p q).0 e in
    let four : cell_of width p q ≡ 4 → ⊥ = (λ (z : cell_of width p q ≡ 4). omega arith) in
    ⊎_elim
    (λ (c : (cell_of width p q < 4) × (direction Eight width p q ≡ cell_of width p q)). let c0 : cell_of width p q < 4 = c.0 in rw c.1 (⊎_elim
    (λ (d : (cell_of width p q < 4) × (cell Eight (cell_of width p q) ≡ cell_of width p q)). d.1)
    (λ (d : (4 ≤ cell_of width p q) × (cell Eight (cell_of width p q) ≡ cell_of width p q + 1)). absurd (let d0 : 4 ≤ cell_of width p q = d.0 in omega arith))
    (cond_cases (cell_of width p q) 4 (cell_of width p q) (cell_of width p q + 1))))
    (λ (c : (4 ≤ cell_of width p q) × (direction Eight width p q ≡ cell_of width p q - 1)). let c0 : 4 ≤ cell_of width p q = c.0 in rw c.1 (⊎_elim
    (λ (d : (cell_of width p q - 1 < 4) × (cell Eight (cell_of width p q - 1) ≡ cell_of width p q - 1)). absurd (let d0 : cell_of width p q - 1 < 4 =
    d.0 in four (omega arith)))
    (λ (d : (4 ≤ cell_of width p q - 1) × (cell Eight (cell_of width p q - 1) ≡ cell_of width p q - 1 + 1)). d.1 ∙ omega arith)
    (cond_cases (cell_of width p q - 1) 4 (cell_of width p q - 1) (cell_of width p q - 1 + 1))))
    (cond_cases (cell_of width p q) 4 (cell_of width p q) (cell_of width p q - 1))

-- the row and the column of the pixel in a cell
at_rows : (width p m q : ℕ) → 0 < width → m < 9 → IsAt width p m q → (q / width + 1 ≡ p / width + m / 3) × (q % width + 1 ≡ p % width + m % 3)
at_rows width p m q pos small at = by (p / width + m / 3 - 1) (let s : 0 < p / width + m / 3 = some_row in omega arith) where
  place : q + width + 1 ≡ p + m / 3 * width + m % 3
  place = at.place

  whole : p / width * width + p % width ≡ p
  whole = div-add-mod' p width

  some_row : 0 < p / width + m / 3
  some_row = ⊎_elim (λ (l : 0 < p / width + m / 3). l)
      (λ (z : p / width + m / 3 ≤ 0). absurd (
      let a : p / width ≡ 0 = omega arith in let b : m / 3 ≡ 0 = omega arith in
      let whole0 : 0 * width + p % width ≡ p = subst (λ d. d * width + p % width ≡ p) a (div-add-mod' p width) in
      let place0 : q + width + 1 ≡ p + 0 * width + m % 3 = subst (λ d. q + width + 1 ≡ p + d * width + m % 3) b at.place in
      let high : p % width + m % 3 ≤ width = at.high in omega arith))
      (cases_lt 0 (p / width + m / 3))

  by : (k : ℕ) → k + 1 ≡ p / width + m / 3 → (q / width + 1 ≡ p / width + m / 3) × (q % width + 1 ≡ p % width + m % 3)
  by k e = let low : 0 < p % width + m % 3 = at.low in let high : p % width + m % 3 ≤ width = at.high in
      let grown : (k + 1) * width ≡ (p / width + m / 3) * width = ap (λ t. t * width) e in
      let place1 : q + width + 1 ≡ p + m / 3 * width + m % 3 = at.place in
      let whole1 : p / width * width + p % width ≡ p = div-add-mod' p width in
      let c : ℕ = p % width + m % 3 - 1 in
      let c_less : p % width + m % 3 - 1 < width = omega arith in
      let q_is : q ≡ k * width + (p % width + m % 3 - 1) = omega arith in
      let row : q / width ≡ k = ap (λ x. x / width) q_is ∙ div-mul-add k width (p % width + m % 3 - 1) c_less in
      let column : q % width ≡ p % width + m % 3 - 1 = ap (λ x. x % width) q_is ∙ mod-mul-add k width (p % width + m % 3 - 1) c_less in
      (omega arith, omega arith)

at_back : (width p m q : ℕ) → 0 < width → p / width + m / 3 ≡ q / width + 1 → p % width + m % 3 ≡ q % width + 1 → IsAt width p m q
at_back width p m q pos row column =
    let grown : (p / width + m / 3) * width ≡ (q / width + 1) * width = ap (λ t. t * width) row in
    let whole_p : p / width * width + p % width ≡ p = div-add-mod' p width in
    let whole_q : q / width * width + q % width ≡ q = div-add-mod' q width in
    let less : q % width < width = mod_below q width pos in
    record { place = omega arith; low = omega arith; high = omega arith }

-- a neighbour is in the cell of its direction
pub near_at : (connect : Connect) (width p q : ℕ) → 0 < width → are_neighbours connect width p q ≡ true
    → IsAt width p (cell connect (direction connect width p q)) q
near_at connect width p q pos e = subst (λ m. IsAt width p m q) (sym (direction_cell connect width p q e))
    (let c : (p / width + cell_of width p q / 3 ≡ q / width + 1) × (p % width + cell_of width p q % 3 ≡ q % width + 1)
    = cell_by (p / width) (q / width) (p % width) (q % width) (near_rows connect width p q e) in at_back width p (cell_of width p q) q pos c.0 c.1)

-- what is in the cell of a direction is a neighbour in that direction
gaps_four : (k a c b d : ℕ) → k < 4 → c + 1 ≡ a + (2 * k + 1) / 3 → d + 1 ≡ b + (2 * k + 1) % 3
    → (distance a c + distance b d ≡ 1) × ((3 * (c + 1 - a) + (d + 1 - b)) / 2 ≡ k)
unfolding distance
gaps_four zero a c b d l r e = (omega arith, omega arith)
gaps_four (suc zero) a c b d l r e = (omega arith, omega arith)
gaps_four (suc (suc zero)) a c b d l r e = (omega arith, omega arith)
gaps_four (suc (suc (suc zero))) a c b d l r e = (omega arith, omega arith)
gaps_four (suc (suc (suc (suc k)))) a c b d l r e = absurd (omega arith)

gaps_eight : (m a c b d : ℕ) → m < 9 → (m ≡ 4 → ⊥) → c + 1 ≡ a + m / 3 → d + 1 ≡ b + m % 3
    → (max (distance a c) (distance b d) ≡ 1) × (3 * (c + 1 - a) + (d + 1 - b) ≡ m)
unfolding distance
gaps_eight m a c b d l ne r e = (omega arith, omega arith)

cell_eight : (k : ℕ) → k < 8 → (cell Eight k < 9) × ((cell Eight k ≡ 4 → ⊥) × (cond (nat_lt (cell Eight k) 4) (cell Eight k) (cell Eight k - 1) ≡ k))
cell_eight zero l = (omega arith, ((λ z. absurd (omega arith)), refl))
cell_eight (suc zero) l = (omega arith, ((λ z. absurd (omega arith)), refl))
cell_eight (suc (suc zero)) l = (omega arith, ((λ z. absurd (omega arith)), refl))
cell_eight (suc (suc (suc zero))) l = (omega arith, ((λ z. absurd (omega arith)), refl))
cell_eight (suc (suc (suc (suc zero)))) l = (omega arith, ((λ z. absurd (omega arith)), refl))
cell_eight (suc (suc (suc (suc (suc zero))))) l = (omega arith, ((λ z. absurd (omega arith)), refl))
cell_eight (suc (suc (suc (suc (suc (suc zero)))))) l = (omega arith, ((λ z. absurd (omega arith)), refl))
cell_eight (suc (suc (suc (suc (suc (suc (suc zero))))))) l = (omega arith, ((λ z. absurd (omega arith)), refl))
cell_eight (suc (suc (suc (suc (suc (suc (suc (suc k)))))))) l = absurd (omega arith)

pub at_near : (connect : Connect) (width p k q : ℕ) → 0 < width → k < direction_count connect → IsAt width p (cell connect k) q
    → (are_neighbours connect width p q ≡ true) × (direction connect width p q ≡ k)
at_near Four width p k q pos l at =
    let rows : (q / width + 1 ≡ p / width + (2 * k + 1) / 3) × (q % width + 1 ≡ p % width + (2 * k + 1) % 3) =
    at_rows width p (2 * k + 1) q pos (omega arith) at in
    let g : (distance (p / width) (q / width) + distance (p % width) (q % width) ≡ 1) × (cell_of width p q / 2 ≡ k) =
    gaps_four k (p / width) (q / width) (p % width) (q % width) l rows.0 rows.1 in
    ((neighbours_four width p q).1 g.0, g.1)
at_near Eight width p k q pos l at =
    let ce : (cell Eight k < 9) × ((cell Eight k ≡ 4 → ⊥) × (cond (nat_lt (cell Eight k) 4) (cell Eight k) (cell Eight k - 1) ≡ k)) = cell_eight k l in
    let rows : (q / width + 1 ≡ p / width + cell Eight k / 3) × (q % width + 1 ≡ p % width + cell Eight k % 3) = at_rows width p (cell Eight k) q pos ce.0 at in
    let g : (max (distance (p / width) (q / width)) (distance (p % width) (q % width)) ≡ 1) × (cell_of width p q ≡ cell Eight k) =
    gaps_eight (cell Eight k) (p / width) (q / width) (p % width) (q % width) ce.0 ce.1.0 rows.0 rows.1 in
    ((neighbours_eight width p q).1 g.0, ap (λ m. cond (nat_lt m 4) m (m - 1)) g.1 ∙ ce.1.1)

-- the neighbour that was found
pub found : (connect : Connect) (width first count p k q : ℕ) → 0 < width → k < direction_count connect → LiesInStretch first count q
    → IsAt width p (cell connect k) q → IsNeighbour connect width first count p k q
found connect width first count p k q pos l w at = record {
  inside = w;
  near = (at_near connect width p k q pos l at).0;
  turned = (at_near connect width p k q pos l at).1;
  only = λ y wy near d. let b : IsAt width p (cell connect k) y = subst (λ j. IsAt width p (cell connect j) y) d (near_at connect width p y pos near) in
      let by : y + width + 1 ≡ p + cell connect k / 3 * width + cell connect k % 3 = b.place in
      let bq : q + width + 1 ≡ p + cell connect k / 3 * width + cell connect k % 3 = at.place in omega arith;
}

-- the neighbour in a cell that is there
pub cell_found : (connect : Connect) (width first count p k q : ℕ) → 0 < width → k < direction_count connect → HasCell width first count p (cell connect k)
    → q + width + 1 ≡ p + cell connect k / 3 * width + cell connect k % 3 → IsNeighbour connect width first count p k q
cell_found connect width first count p k q pos l there e =
    let up : first + width + 1 ≤ p + cell connect k / 3 * width + cell connect k % 3 = there.up in
    let down : p + cell connect k / 3 * width + cell connect k % 3 < first + count + width + 1 = there.down in
    found connect width first count p k q pos l (record { low = omega arith; high = omega arith })
    (record { place = e; low = there.left; high = there.right })

-- a neighbour's cell is there
pub near_cell : (connect : Connect) (width first count p q : ℕ) → 0 < width → LiesInStretch first count q → are_neighbours connect width p q ≡ true
    → HasCell width first count p (cell connect (direction connect width p q))
near_cell connect width first count p q pos w e = by (cell connect (direction connect width p q)) (near_at connect width p q pos e) where
  by : (m : ℕ) → IsAt width p m q → HasCell width first count p m
  by m at = let place : q + width + 1 ≡ p + m / 3 * width + m % 3 = at.place in
      let low : first ≤ q = w.low in let high : q < first + count = w.high in
      record { up = omega arith; down = omega arith; left = at.low; right = at.high }

-- a direction leads to one neighbour
pub direction_once : (connect : Connect) (width p y n : ℕ) → 0 < width → are_neighbours connect width p y ≡ true → are_neighbours connect width p n ≡ true
    → direction connect width p y ≡ direction connect width p n → y ≡ n
direction_once connect width p y n pos near_y near_n same =
    let a : IsAt width p (cell connect (direction connect width p n)) y =
    subst (λ j. IsAt width p (cell connect j) y) same (near_at connect width p y pos near_y) in
    let b : IsAt width p (cell connect (direction connect width p n)) n = near_at connect width p n pos near_n in
    let place_y : y + width + 1 ≡ p + cell connect (direction connect width p n) / 3 * width + cell connect (direction connect width p n) % 3 = a.place in
    let place_n : n + width + 1 ≡ p + cell connect (direction connect width p n) / 3 * width + cell connect (direction connect width p n) % 3 =
    b.place in omega arith

pub cell_nine : (connect : Connect) (k : ℕ) → k < direction_count connect → cell connect k < 9
cell_nine Four k l = omega arith
cell_nine Eight k l = (cell_eight k l).0
