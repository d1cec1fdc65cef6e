-- Skips of the halves of a group, one list behind the other.
use Rattle.std.proofs.Common.{◌≡◌, ℕ, ◌+◌, ◌-◌, ◌*◌, ◌<◌, ◌≤◌, min, List, ◌++◌, length, get_or, replicate, Option, ℤ, ◌⊎◌, inl, inr, sym, ap, ◌∙◌, subst, ⊎_elim}
use Rattle.std.proofs.Common.{arith, length-append}
use Rattle.std.proofs.Math.ListN.{get_or-append}
use Rattle.std.proofs.Math.Seq.{get_or-append_right}
use Rattle.std.proofs.lemmas.Bool.{cases_lt}
use Rattle.std.proofs.lemmas.List.{get_or-replicate, length-replicate}
use Rattle.comp_tree.specs.Raster.{Raster}
use Rattle.comp_tree.specs.Forest.{no_node, LiesInStretch, IsHigh, IsLink}
use Rattle.comp_tree.proofs.Exported.{joined_pairs, joined_wider}
use Rattle.tree_join.specs.Skips.{IsSkip, AreTrueSkips}
use Rattle.tree_join.proofs.Exported.{link_left, link_right, part_left, part_right}
use Rattle.strip_crew.specs.Halves.{AreGroupSkips}

-- where no place holds a skip, none is wrong
pub cleared_are_true : (values : List (Option ℤ)) (first count : ℕ) (E : ℕ → ℕ → Type 0) (skips : List ℕ) (n : ℕ) → skips ≡ replicate n no_node
    → AreTrueSkips values first count E skips
cleared_are_true values first count E skips n is i l = let long : length skips ≡ n = ap (λ (s : List ℕ). length s) is ∙ length-replicate n no_node in
    inl (ap (λ (s : List ℕ). get_or s i 0) is ∙ get_or-replicate n i no_node 0 (omega arith))

-- a skip among some pixels is one among more of them, and by more pairs
pub skip_wider : (values : List (Option ℤ)) (first count low size : ℕ) (E F : ℕ → ℕ → Type 0)
    → ((p : ℕ) → LiesInStretch low size p → LiesInStretch first count p) → ((p q : ℕ) → E p q → F p q)
    → (x y : ℕ) → IsSkip values low size E x y → IsSkip values first count F x y
skip_wider values first count low size E F wide pairs x y k = record {
  pixel = record { within = wide y k.pixel.within; value = k.pixel.value };
  joins = λ h g. joined_pairs pairs (joined_wider (wider h) (k.joins h (record { within = k.pixel.within; value = g.value })));
} where
  wider : (h : ℤ) (p : ℕ) → IsHigh values low size h p → IsHigh values first count h p
  wider h p g = record { within = wide p g.within; value = g.value }

-- each half has a place for each pixel, but where the other half has none
pub halves_have_places : (pixels count : ℕ) (above front back : List ℕ) → length above ≡ pixels → length front ≡ min pixels count
    → length back + min pixels count ≡ count → (length front ≡ length above) ⊎ (length back ≡ 0)
halves_have_places pixels count above front back a f b = ⊎_elim
    (λ (h : pixels < count). inl (omega arith))
    (λ (h : count ≤ pixels). inr (omega arith))
    (cases_lt pixels count)

module _ (values : List (Option ℤ)) (first : ℕ) (above below : List ℕ) where
  -- the skips of both halves are true of the whole group
  pub skips_of_halves : (front back : List ℕ) → (length front ≡ length above) ⊎ (length back ≡ 0)
      → AreTrueSkips values first (length above) (IsLink first above) front
      → AreTrueSkips values (first + length above) (length below) (IsLink (first + length above) below) back
      → AreTrueSkips values first (length (above ++ below)) (IsLink first (above ++ below)) (front ++ back)
  skips_of_halves front back fits f b i l = ⊎_elim in_front in_back (cases_lt i (length front)) where
    Whole : ℕ → ℕ → Type 0
    Whole = IsLink first (above ++ below)

    IsTrue_at : ℕ → ℕ → Type 0
    IsTrue_at x s = (s ≡ no_node) ⊎ IsSkip values first (length (above ++ below)) Whole x s

    of_above : (x s : ℕ) → IsSkip values first (length above) (IsLink first above) x s → IsTrue_at x s
    of_above x s k = inr (skip_wider values first (length (above ++ below)) first (length above) (IsLink first above) Whole
        (part_left first above below)
        (λ p q e. record { within = part_left first above below p e.within; link = link_left first above below p e.within ∙ e.link }) x s k)

    of_below : (x s : ℕ) → IsSkip values (first + length above) (length below) (IsLink (first + length above) below) x s → IsTrue_at x s
    of_below x s k = inr (skip_wider values first (length (above ++ below)) (first + length above) (length below) (IsLink (first + length above) below) Whole
        (part_right first above below)
        (λ p q e. record { within = part_right first above below p e.within; link = link_right first above below p e.within ∙ e.link }) x s k)

    in_front : i < length front → IsTrue_at (first + i) (get_or (front ++ back) i 0)
    in_front h = subst (IsTrue_at (first + i)) (sym (get_or-append front back 0 i h))
        (⊎_elim (λ (e : get_or front i 0 ≡ no_node). inl e) (of_above (first + i) (get_or front i 0)) (f i h))

    long : length (front ++ back) ≡ length front + length back
    long = length-append front back

    in_back : length front ≤ i → IsTrue_at (first + i) (get_or (front ++ back) i 0)
    in_back h = ⊎_elim
        (λ (all : length front ≡ length above). let j : ℕ = i - length front in let near : j < length back = omega (arith, long) in
        let same : first + length above + j ≡ first + i = omega arith in
        subst (IsTrue_at (first + i)) (sym (get_or-append_right front back i 0 h))
        (⊎_elim (λ (e : get_or back j 0 ≡ no_node). inl e)
        (λ (k : IsSkip values (first + length above) (length below) (IsLink (first + length above) below) (first + length above + j) (get_or back j 0)).
        of_below (first + i) (get_or back j 0)
        (subst (λ (x : ℕ). IsSkip values (first + length above) (length below) (IsLink (first + length above) below) x (get_or back j 0)) same k))
        (b j near)))
        (λ (none : length back ≡ 0). absurd (omega (arith, long)))
        fits

-- the same of a group that begins at this row, whose lower half begins at that one
pub group_skips : (plane : Raster) (first_row row : ℕ) (above below front back : List ℕ)
    → first_row * plane.shape.width + length above ≡ row * plane.shape.width → (length front ≡ length above) ⊎ (length back ≡ 0)
    → AreGroupSkips plane first_row above front → AreGroupSkips plane row below back → AreGroupSkips plane first_row (above ++ below) (front ++ back)
group_skips plane first_row row above below front back at fits f b = let first : ℕ = first_row * plane.shape.width in
    skips_of_halves plane.values first above below front back fits f
    (subst (λ (n : ℕ). AreTrueSkips plane.values n (length below) (IsLink n below) back) (sym at) b)
