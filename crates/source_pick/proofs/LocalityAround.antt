-- The pixels around a pixel, row by row.
use Rattle.std.proofs.Common.{◌≡◌, ℕ, ◌+◌, ◌-◌, ◌*◌, ◌/◌, ◌%◌, ◌<◌, ◌≤◌, min, max, true, sym, ◌∙◌, ap, subst, arith, ◌⊎◌, inl, inr, eqb-true, eq-eqb}
use Rattle.std.proofs.lemmas.Bool.{true≢false, cases_eq, cases_lt}
use Rattle.std.proofs.lemmas.Nat.{mod_below, div-add-mod', le-div}
use Rattle.std.proofs.Math.Nat.{mul-le-mul_right}
use Rattle.comp_tree.specs.declared.shape.Connect.{Connect}
use Rattle.comp_tree.specs.declared.shape.Connect.TheVariants.{Four, Eight}
use Rattle.comp_tree.specs.Grid.{distance, are_linked, are_neighbours}
use Rattle.comp_tree.proofs.Exported.{row-from, neighbours-at, far_rows_above, far_rows_below}
use Rattle.source_pick.specs.Clearing.{IsAround, columns_beside}

-- ---- columns and rows

pub row_place : (width u v : ℕ) → u < width → ((v * width + u) / width ≡ v) × ((v * width + u) % width ≡ u)
row_place width u v inside =
    let next : (v + 1) * width ≡ v * width + width = omega arith in
    let place : ((v * width + u) / width ≡ v) × ((v * width + u) % width ≡ v * width + u - v * width) =
    row-from width v (v * width + u) (omega arith) (omega arith) (omega arith) in
    (place.0, omega (arith, place.1))

-- ---- who is around whom

linked_sides : (connect : Connect) (x y u v : ℕ) → are_linked connect (distance x u) (distance y v) ≡ true
    → (x ≤ u + columns_beside connect (distance y v)) × (u ≤ x + columns_beside connect (distance y v)) × (y ≤ v + 1) × (v ≤ y + 1)
unfolding are_linked distance
linked_sides Four x y u v k =
    let n : distance x u + distance y v ≡ 1 = eqb-true (distance x u + distance y v) 1 k in (omega arith, omega arith, omega arith, omega arith)
linked_sides Eight x y u v k =
    let n : max (distance x u) (distance y v) ≡ 1 = eqb-true (max (distance x u) (distance y v)) 1 k in (omega arith, omega arith, omega arith, omega arith)

linked_from_sides : (connect : Connect) (x y u v : ℕ) → (x ≡ u → y ≡ v → ⊥) → x ≤ u + columns_beside connect (distance y v)
    → u ≤ x + columns_beside connect (distance y v) → y ≤ v + 1 → v ≤ y + 1
    → are_linked connect (distance x u) (distance y v) ≡ true
unfolding are_linked distance
linked_from_sides Four x y u v apart a b c d = eq-eqb (distance x u + distance y v) 1 (one (cases_eq x u) (cases_eq y v))
  where
    one : (x ≡ u) ⊎ (x ≡ u → ⊥) → (y ≡ v) ⊎ (y ≡ v → ⊥) → distance x u + distance y v ≡ 1
    one (inl e) (inl f) = absurd (apart e f)
    one (inl e) (inr f) = omega arith
    one (inr e) f = omega arith
linked_from_sides Eight x y u v apart a b c d = eq-eqb (max (distance x u) (distance y v)) 1 (one (cases_eq x u) (cases_eq y v))
  where
    one : (x ≡ u) ⊎ (x ≡ u → ⊥) → (y ≡ v) ⊎ (y ≡ v → ⊥) → max (distance x u) (distance y v) ≡ 1
    one (inl e) (inl f) = absurd (apart e f)
    one (inl e) (inr f) = omega arith
    one (inr e) f = omega arith

neighbours_linked : (connect : Connect) (width x y u v : ℕ) → x < width → u < width
    → are_neighbours connect width (y * width + x) (v * width + u) ≡ are_linked connect (distance x u) (distance y v)
neighbours_linked connect width x y u v one other =
    let place : ((y * width + x) / width ≡ y) × ((y * width + x) % width ≡ x) = row_place width x y one in
    neighbours-at connect width (y * width + x) v u other
    ∙ ap (λ n. are_linked connect (distance n u) (distance ((y * width + x) / width) v)) place.1
    ∙ ap (λ n. are_linked connect (distance x u) (distance n v)) place.0

around_sides : (connect : Connect) (width x y u v : ℕ) → x < width → u < width → IsAround connect width (y * width + x) (v * width + u)
    → (x ≤ u + columns_beside connect (distance y v)) × (u ≤ x + columns_beside connect (distance y v)) × (y ≤ v + 1) × (v ≤ y + 1)
around_sides connect width x y u v one other (inl e) =
    let p : ((y * width + x) / width ≡ y) × ((y * width + x) % width ≡ x) = row_place width x y one in
    let q : ((v * width + u) / width ≡ v) × ((v * width + u) % width ≡ u) = row_place width u v other in
    let rows : v ≡ y = sym q.0 ∙ ap (λ n. n / width) e ∙ p.0 in
    let columns : u ≡ x = sym q.1 ∙ ap (λ n. n % width) e ∙ p.1 in
    (omega arith, omega arith, omega arith, omega arith)
around_sides connect width x y u v one other (inr n) = linked_sides connect x y u v (sym (neighbours_linked connect width x y u v one other) ∙ n)

around_from_sides : (connect : Connect) (width x y u v : ℕ) → x < width → u < width
    → x ≤ u + columns_beside connect (distance y v) → u ≤ x + columns_beside connect (distance y v) → y ≤ v + 1 → v ≤ y + 1
    → IsAround connect width (y * width + x) (v * width + u)
around_from_sides connect width x y u v one other a b c d = go (cases_eq x u) (cases_eq y v)
  where
    linked : (x ≡ u → y ≡ v → ⊥) → IsAround connect width (y * width + x) (v * width + u)
    linked apart = inr (neighbours_linked connect width x y u v one other ∙ linked_from_sides connect x y u v apart a b c d)

    go : (x ≡ u) ⊎ (x ≡ u → ⊥) → (y ≡ v) ⊎ (y ≡ v → ⊥) → IsAround connect width (y * width + x) (v * width + u)
    go (inl e) (inl f) = inl (ap (λ n. n * width + u) (sym f) ∙ ap (λ n. y * width + n) (sym e))
    go (inl e) (inr f) = linked (λ _ g. f g)
    go (inr e) f = linked (λ g _. e g)

-- ---- whole rows

-- what is around pixel p lies in its row or in one beside it
around_rows : (connect : Connect) (width p q : ℕ) → IsAround connect width p q → (p / width ≤ q / width + 1) × (q / width ≤ p / width + 1)
around_rows connect width p q (inl e) = let same : q / width ≡ p / width = ap (λ n. n / width) e in (omega arith, omega arith)
around_rows connect width p q (inr n) = (go (cases_lt (q / width + 1) (p / width)), up (cases_lt (p / width + 1) (q / width)))
  where
    go : (q / width + 1 < p / width) ⊎ (p / width ≤ q / width + 1) → p / width ≤ q / width + 1
    go (inl l) = absurd (true≢false (sym n ∙ far_rows_below connect width p q (omega arith)))
    go (inr l) = l

    up : (p / width + 1 < q / width) ⊎ (q / width ≤ p / width + 1) → q / width ≤ p / width + 1
    up (inl l) = absurd (true≢false (sym n ∙ far_rows_above connect width p q (omega arith)))
    up (inr l) = l

div_below : (width q m : ℕ) → q < m * width → q / width < m
div_below width q m l = go (cases_lt (q / width) m)
  where
    go : (q / width < m) ⊎ (m ≤ q / width) → q / width < m
    go (inl k) = k
    go (inr k) =
        let e : q / width * width + q % width ≡ q =
        div-add-mod' q width in let f : m * width ≤ q / width * width = mul-le-mul_right width k in absurd (omega arith)

div_mono : (width p q : ℕ) → 0 < width → p ≤ q → p / width ≤ q / width
div_mono width p q some l = let e : p / width * width + p % width ≡ p = div-add-mod' p width in le-div (p / width) q width some (omega arith)

-- so a run of pixels needs no rows but its own, the one before and the one after
pub first_row : (connect : Connect) (width start first p q : ℕ) → 0 < width → first ≡ start / width - 1 → start ≤ q → IsAround connect width p q
    → first * width ≤ p
first_row connect width start first p q some e l a =
    let rows : (p / width ≤ q / width + 1) × (q / width ≤ p / width + 1) = around_rows connect width p q a in
    let low : start / width ≤ q / width = div_mono width start q some l in
    let up : first * width ≤ p / width * width = mul-le-mul_right width (omega arith) in
    let whole : p / width * width + p % width ≡ p = div-add-mod' p width in
    omega arith

pub last_row : (connect : Connect) (width height last row p q : ℕ) → 0 < width → (last / width + 2 ≤ row) ⊎ (height ≤ row) → q ≤ last → p < height * width
    → IsAround connect width p q
    → p < row * width
last_row connect width height last row p q some end l inside a =
    let whole : p / width * width + p % width ≡ p = div-add-mod' p width in
    let rest : p % width < width = mod_below p width some in
    let next : (p / width + 1) * width ≡ p / width * width + width = omega arith in
    let up : (p / width + 1) * width ≤ row * width = mul-le-mul_right width below in
    omega arith
  where
    below : p / width + 1 ≤ row
    below = go end
      where
        go : (last / width + 2 ≤ row) ⊎ (height ≤ row) → p / width + 1 ≤ row
        go (inl k) =
            let rows : (p / width ≤ q / width + 1) × (q / width ≤ p / width + 1) = around_rows connect width p q a in
            let high : q / width ≤ last / width = div_mono width q last some l in
            omega arith
        go (inr k) = let m : p / width < height = div_below width p height inside in omega arith

-- ---- the part of a row that is around a pixel

-- the pixels from first up to end are those of row v that are around the pixel in column x of row y
pub record IsPartOfRow (width x side v first end : ℕ) : Type 0 where
  pub first_is : first ≡ v * width + (x - side)
  pub end_high : end ≤ v * width + (x + side + 1)
  pub end_in : end ≤ v * width + width
  pub end_low : (end ≡ v * width + (x + side + 1)) ⊎ (end ≡ v * width + width)

pub part_of_row : (width x side v low high : ℕ) → low ≡ x - side → high ≡ min (x + side + 1) width
    → IsPartOfRow width x side v (v * width + low) (v * width + high)
part_of_row width x side v low high l h = record {
  first_is = ap (λ n. v * width + n) l;
  end_high = omega (arith, h);
  end_in = omega (arith, h);
  end_low = go (cases_lt (x + side + 1) width);
}
  where
    go : (x + side + 1 < width) ⊎ (width ≤ x + side + 1) → (v * width + high ≡ v * width + (x + side + 1)) ⊎ (v * width + high ≡ v * width + width)
    go (inl k) = inl (omega (arith, h))
    go (inr k) = inr (omega (arith, h))

pub part_around : (connect : Connect) (width x y v first end q : ℕ) → x < width → y ≤ v + 1 → v ≤ y + 1
    → IsPartOfRow width x (columns_beside connect (distance y v)) v first end
    → first ≤ q → q < end → IsAround connect width (y * width + x) q
part_around connect width x y v first end q inside low high part a b =
    subst (IsAround connect width (y * width + x)) here
    (around_from_sides connect width x y (q - v * width) v inside (omega (arith, part.end_in, b, l)) (omega (arith, part.first_is, a))
    (omega (arith, part.end_high, b, l)) low high)
  where
    l : v * width ≤ q
    l = omega (arith, part.first_is, a)

    here : v * width + (q - v * width) ≡ q
    here = omega (arith, l)

pub around_part : (connect : Connect) (width x y v first end q : ℕ) → x < width → IsPartOfRow width x (columns_beside connect (distance y v)) v first end
    → v * width ≤ q → q < (v + 1) * width → IsAround connect width (y * width + x) q → (first ≤ q) × (q < end)
around_part connect width x y v first end q inside part low high a =
    let next : (v + 1) * width ≡ v * width + width = omega arith in
    let here : v * width + (q - v * width) ≡ q = omega arith in
    let in_row : q - v * width < width = omega arith in
    let sides : (x ≤ q - v * width + columns_beside connect (distance y v)) × (q - v * width ≤ x + columns_beside connect
    (distance y v)) × (y ≤ v + 1) × (v ≤ y + 1) =
    around_sides connect width x y (q - v * width) v inside in_row (subst (IsAround connect width (y * width + x)) (sym here) a) in
    (omega (arith, part.first_is, sides.0), go part.end_low sides.1)
  where
    go : (end ≡ v * width + (x + columns_beside connect (distance y v) + 1)) ⊎ (end ≡ v * width + width)
        → q - v * width ≤ x + columns_beside connect (distance y v) → q < end
    go (inl e) s = omega (arith, low)
    go (inr e) s = let next : (v + 1) * width ≡ v * width + width = omega arith in omega arith

-- rows before the one above the pixel have none, nor has one after the row below it
pub around_after : (connect : Connect) (width x y first q : ℕ) → x < width → first ≡ y - 1 → q < first * width → IsAround connect width (y * width + x) q → ⊥
around_after connect width x y first q inside e l a =
    let rows : ((y * width + x) / width ≤ q / width + 1) × (q / width ≤ (y * width + x) / width + 1) = around_rows connect width (y * width + x) q a in
    let place : ((y * width + x) / width ≡ y) × ((y * width + x) % width ≡ x) = row_place width x y inside in
    let m : q / width < first = div_below width q first l in
    absurd (omega (arith, rows.0, place.0))

pub around_before : (connect : Connect) (width height x y row q : ℕ) → x < width → (y + 2 ≤ row) ⊎ (height ≤ row) → q < height * width
    → IsAround connect width (y * width + x) q → q < row * width
around_before connect width height x y row q inside end l a =
    let whole : q / width * width + q % width ≡ q = div-add-mod' q width in
    let rest : q % width < width = mod_below q width (omega arith) in
    let next : (q / width + 1) * width ≡ q / width * width + width = omega arith in
    let up : (q / width + 1) * width ≤ row * width = mul-le-mul_right width below in
    omega arith
  where
    below : q / width + 1 ≤ row
    below = go end
      where
        go : (y + 2 ≤ row) ⊎ (height ≤ row) → q / width + 1 ≤ row
        go (inl k) =
            let rows : ((y * width + x) / width ≤ q / width + 1) × (q / width ≤ (y * width + x) / width + 1) = around_rows connect width (y * width + x) q a in
            let place : ((y * width + x) / width ≡ y) × ((y * width + x) % width ≡ x) = row_place width x y inside in
            omega (arith, rows.1, place.0)
        go (inr k) = let m : q / width < height = div_below width q height l in omega arith
