-- Where the neighbours of a pixel stand, and what is found about them row by row.
use Rattle.std.proofs.Common.{◌≡◌, ℕ, ◌+◌, ◌-◌, ◌*◌, ◌/◌, ◌%◌, ◌<◌, ◌≤◌, max, eqb-true, sym, subst, arith, ◌⊎◌, inl, inr}
use Rattle.std.specs.Prelude.{IsTrue}
use Rattle.std.proofs.lemmas.Bool.{cases_lt}
use Rattle.std.proofs.lemmas.Nat.{div-add-mod', div-mul-add, mod-mul-add, mod_below, div_below}
use Rattle.comp_tree.specs.declared.shape.Connect.{Connect}
use Rattle.comp_tree.specs.declared.shape.Connect.TheVariants.{Four, Eight}
use Rattle.comp_tree.specs.Raster.{Raster}
use Rattle.comp_tree.specs.Grid.{distance, are_linked, are_neighbours}
use Rattle.comp_tree.proofs.Exported.{some_columns}
use Rattle.source_pick.specs.Sheets.{WindowPair, window_size}
use Rattle.source_sheet.specs.Checks.{IsSameAt, IsRowSame, AreSameAround}

-- ---- the grid

-- pixels that are linked lie at most one column and one row apart
pub linked_near : (connect : Connect) (a b y z : ℕ) → IsTrue (are_linked connect (distance a b) (distance y z))
    → (a ≤ b + 1) × (b ≤ a + 1) × (y ≤ z + 1) × (z ≤ y + 1)
unfolding are_linked distance
linked_near Four a b y z e =
    let n : distance a b + distance y z ≡ 1 = eqb-true (distance a b + distance y z) 1 e in (omega arith, omega arith, omega arith, omega arith)
linked_near Eight a b y z e =
    let n : max (distance a b) (distance y z) ≡ 1 = eqb-true (max (distance a b) (distance y z)) 1 e in (omega arith, omega arith, omega arith, omega arith)

-- with `Four`, those in another row stand in the same column
pub linked_above : (a b y z : ℕ) → (y ≡ z → ⊥) → IsTrue (are_linked Four (distance a b) (distance y z)) → (a ≤ b) × (b ≤ a)
unfolding are_linked distance
linked_above a b y z other e = go (cases_lt y z) (cases_lt z y)
  where
    n : (a - b) + (b - a) + ((y - z) + (z - y)) ≡ 1
    n = eqb-true (distance a b + distance y z) 1 e

    go : (y < z) ⊎ (z ≤ y) → (z < y) ⊎ (y ≤ z) → (a ≤ b) × (b ≤ a)
    go (inl l) k = (omega (arith, n, l), omega (arith, n, l))
    go (inr l) (inl k) = (omega (arith, n, k), omega (arith, n, k))
    go (inr l) (inr k) = absurd (other (omega (arith, l, k)))

-- ---- row by row

module _ (r s : Raster) (connect : Connect) (c : WindowPair) (column row : ℕ) where
  -- nothing is found before the row above
  pub around_none : (end : ℕ) → end ≤ row - 1 → AreSameAround r s connect c column row end
  around_none end first = record {
    own = λ l. absurd (omega (arith, first, l));
    beside = λ x y few l k.
        let near : (column ≤ x + 1) × (x ≤ column + 1) × (row ≤ y + 1) × (y ≤ row + 1) = linked_near connect column x row y k in
        absurd (omega (arith, near.2, first, l));
  }

  -- a row more, as far as its neighbours reach
  pub around_more : (y reach first end : ℕ) → column < c.to.shape.width → first ≤ column - reach → column < end
      → ((x : ℕ) → x < c.to.shape.width → x ≤ column + reach → x < end)
      → ((a b : ℕ) → IsTrue (are_linked connect (distance a b) (distance row y)) → (a ≤ b + reach) × (b ≤ a + reach))
      → IsRowSame r s c y first end → AreSameAround r s connect c column row y → AreSameAround r s connect c column row (y + 1)
  around_more y reach first end inside low high behind near same before = record {
    own = λ l. own (cases_lt row y) l;
    beside = λ x z few l k. beside x z (cases_lt z y) few l k;
  }
    where
      own : (row < y) ⊎ (y ≤ row) → row < y + 1 → IsSameAt r s c (row * c.to.shape.width + column)
      own (inl k) l = before.own k
      own (inr k) l =
          let e : y ≡ row = omega (arith, k, l) in
          subst (λ (z : ℕ). IsSameAt r s c (z * c.to.shape.width + column)) e (same.each column (omega (arith, low)) high)

      beside : (x z : ℕ) → (z < y) ⊎ (y ≤ z) → x < c.to.shape.width → z < y + 1 → IsTrue (are_linked connect (distance column x) (distance row z))
          → IsSameAt r s c (z * c.to.shape.width + x)
      beside x z (inl m) few l k = before.beside x z few m k
      beside x z (inr m) few l k =
          let e : z ≡ y = omega (arith, m, l) in
          let n : (column ≤ x + reach) × (x ≤ column + reach) =
          near column x (subst (λ (w : ℕ). IsTrue (are_linked connect (distance column x) (distance row w))) e k) in
          subst (λ (w : ℕ). IsSameAt r s c (w * c.to.shape.width + x)) (sym e)
          (same.each x (omega (arith, low, n.0)) (behind x few n.1))

  -- below the row beneath there are none
  pub around_all : (height end : ℕ) → row < end → ((y : ℕ) → y < height → y ≤ row + 1 → y < end) → AreSameAround r s connect c column row end
      → AreSameAround r s connect c column row height
  around_all height end own behind before = record {
    own = λ l. before.own own;
    beside = λ x y few l k.
        let near : (column ≤ x + 1) × (x ≤ column + 1) × (row ≤ y + 1) × (y ≤ row + 1) = linked_near connect column x row y k in
        before.beside x y few (behind y l near.3) k;
  }

  -- so each neighbour in the windows is the same
  pub around_beside : (b : ℕ) → column < c.to.shape.width → AreSameAround r s connect c column row c.to.shape.height → b < window_size c.to
      → IsTrue (are_neighbours connect c.to.shape.width (row * c.to.shape.width + column) b) → IsSameAt r s c b
  unfolding are_neighbours
  around_beside b inside around few linked =
      subst (λ (q : ℕ). IsSameAt r s c q) (div-add-mod' b c.to.shape.width)
      (around.beside (b % c.to.shape.width) (b / c.to.shape.width) (mod_below b c.to.shape.width (some_columns c.to.shape))
      (div_below b c.to.shape.width c.to.shape.height (some_columns c.to.shape) (omega (arith, few)))
      (subst (λ (y : ℕ). IsTrue (are_linked connect (distance column (b % c.to.shape.width)) (distance y (b / c.to.shape.width))))
      (div-mul-add row c.to.shape.width column inside)
      (subst (λ (x : ℕ). IsTrue (are_linked connect (distance x (b % c.to.shape.width))
      (distance ((row * c.to.shape.width + column) / c.to.shape.width) (b / c.to.shape.width))))
      (mod-mul-add row c.to.shape.width column inside) linked)))

-- ---- one row

module _ (r s : Raster) (c : WindowPair) (row first : ℕ) where
  pub row_none : (end : ℕ) → end ≤ first → IsRowSame r s c row first end
  row_none end l = record { each = λ x low high. absurd (omega (arith, l, low, high)) }

  pub row_more : (end : ℕ) → IsRowSame r s c row first end → IsSameAt r s c (row * c.to.shape.width + end) → IsRowSame r s c row first (end + 1)
  row_more end before here = record { each = λ x low high. go x (cases_lt x end) low high }
    where
      go : (x : ℕ) → (x < end) ⊎ (end ≤ x) → first ≤ x → x < end + 1 → IsSameAt r s c (row * c.to.shape.width + x)
      go x (inl l) low high = before.each x low l
      go x (inr l) low high =
          let e : end ≡ x = omega (arith, l, high) in subst (λ (z : ℕ). IsSameAt r s c (row * c.to.shape.width + z)) e here

  pub row_up_to : (end last : ℕ) → last ≤ end → IsRowSame r s c row first end → IsRowSame r s c row first last
  row_up_to end last l before = record { each = λ x low high. before.each x low (omega (arith, l, high)) }
