-- What is found about the pixels of a place, one after the other, and around each.
use Rattle.std.proofs.Common.{◌≡◌, ℕ, ◌+◌, ◌-◌, ◌*◌, ◌/◌, ◌%◌, ◌<◌, ◌≤◌, List, length, get_or, refl, sym, ◌∙◌, ap, subst, arith, ◌⊎◌, inl, inr}
use Rattle.std.specs.Prelude.{IsTrue, ℤ, All, filter, nat_lt, slice_get, Some}
use Rattle.std.specs.List.{range_with_len}
use Rattle.std.proofs.lemmas.Bool.{and_parts, ltb-true, cases_lt}
use Rattle.std.proofs.lemmas.Nat.{div-add-mod', div-mul-add, mod-mul-add, mul-add-lt}
use Rattle.std.proofs.lemmas.Grind.{get_or_default_zero}
use Rattle.std.proofs.lemmas.Option.{get_or_from_slice_get, slice_get_within}
use Rattle.lemmas.proofs.Exported.{IsAmong, all_from_among, among-filter, among-range, among_from_filter, among_from_range, among_get}
use Rattle.comp_tree.specs.declared.shape.Connect.{Connect}
use Rattle.comp_tree.specs.declared.shape.Shape.{Shape}
use Rattle.comp_tree.specs.Raster.{Raster, is_defined, is_at_least}
use Rattle.comp_tree.specs.Grid.{are_neighbours}
use Rattle.comp_tree.specs.Windows.{Window, IsInside, in_whole}
use Rattle.comp_tree.proofs.Exported.{adjacent_ends, below_from_defined, IsAt, in_whole-at}
use Rattle.source_pick.specs.Sheets.{WindowPair, IsCopied, window_size, is_high_there}
use Rattle.source_sheet.specs.declared.sheet.Place.{Place}
use Rattle.source_sheet.specs.Laid.{windows_of}
use Rattle.source_sheet.proofs.Apart.{row_inside}
use Rattle.source_sheet.proofs.Around.{linked_near}
use Rattle.source_sheet.specs.Checks.{LiesInside, IsInWindow, StaysWithin, IsPixelCopied, ArePixelsCopied, AreLowThere, AreWithin}

-- ---- lists of neighbours

-- what holds of each place of a list holds of its members
pub at_member : (P : ℕ → Type 0) (xs : List ℕ) (x : ℕ) → All P xs → IsAmong x xs → P x
at_member P xs x each among =
    let g : (j : ℕ) × (slice_get xs j ≡ Some x) = among_get x xs among in
    subst P (get_or_from_slice_get xs g.0 x x g.1) (each g.0 x (slice_get_within xs g.0 x g.1))

-- a list of neighbours has pixels alone
pub near_below : (connect : Connect) (width count p : ℕ) (near : List ℕ) → near ≡ filter (are_neighbours connect width p) (range_with_len 0 count)
    → All (λ a. a < count) near
near_below connect width count p near e =
    all_from_among (λ a. a < count) near
    (λ a m. let k : (0 ≤ a) × (a < 0 + count) =
    among_from_range 0 count a (among_from_filter (are_neighbours connect width p) a (range_with_len 0 count)
    (subst (λ (xs : List ℕ). IsAmong a xs) e m)).0 in
    omega (arith, k.1))

-- and each neighbour
pub near_has : (connect : Connect) (width count p a : ℕ) (near : List ℕ) → near ≡ filter (are_neighbours connect width p) (range_with_len 0 count)
    → a < count → IsTrue (are_neighbours connect width p a) → IsAmong a near
near_has connect width count p a near e l k =
    subst (λ (xs : List ℕ). IsAmong a xs) (sym e)
    (among-filter (are_neighbours connect width p) a (range_with_len 0 count) (among-range 0 count a (omega arith) (omega arith)) k)

-- so what is adjacent to a pixel lies in the window where each defined neighbour does
pub stays_from : (r : Raster) (connect : Connect) (w : Window) (count p : ℕ) (near : List ℕ)
    → near ≡ filter (are_neighbours connect r.shape.width p) (range_with_len 0 count) → length r.values ≡ count
    → All (λ a. IsTrue (is_defined r a) → IsInWindow r.shape.width w a) near → StaysWithin r connect w p
stays_from r connect w count p near e one_each seen a adjacent =
    let ends : _ = adjacent_ends r.values r.shape.width connect p a adjacent in
    let below : a < length r.values = below_from_defined r a ends.1 in
    at_member (λ b. IsTrue (is_defined r b) → IsInWindow r.shape.width w b) near a seen
    (near_has connect r.shape.width count p a near e (omega arith) ends.2) ends.1

-- what holds at each place
pub all_by_place : (P : ℕ → Type 0) (xs : List ℕ) → ((k : ℕ) → k < length xs → P (get_or xs k 0)) → All P xs
all_by_place P xs each k d l = subst P (sym (get_or_default_zero xs k d l)) (each k l)

-- ---- places in a window

-- a pixel whose column and row are the window's lies in it
pub seen_from : (width : ℕ) (w : Window) (p : ℕ) → w.left ≤ p % width → w.top ≤ p / width → p % width - w.left < w.shape.width
    → p / width - w.top < w.shape.height → IsInWindow width w p
unfolding in_whole
seen_from width w p left top columns rows = record { it = q; below = mul-add-lt y w.shape.width x w.shape.height rows columns; place = place }
  where
    x : ℕ
    x = p % width - w.left

    y : ℕ
    y = p / width - w.top

    q : ℕ
    q = y * w.shape.width + x

    row : q / w.shape.width + w.top ≡ p / width
    row = let e : q / w.shape.width ≡ y = div-mul-add y w.shape.width x columns in omega (arith, e, top)

    column : q % w.shape.width + w.left ≡ p % width
    column = let e : q % w.shape.width ≡ x = mod-mul-add y w.shape.width x columns in omega (arith, e, left)

    place : (q / w.shape.width + w.top) * width + (q % w.shape.width + w.left) ≡ p
    place =
        ap (λ (z : ℕ). z * width + (q % w.shape.width + w.left)) row
        ∙ ap (λ (z : ℕ). p / width * width + z) column
        ∙ div-add-mod' p width

-- what is adjacent to a pixel that isn't at the window's edge lies in the window
pub inside_stays : (r : Raster) (connect : Connect) (w : Window) (column row : ℕ) → IsInside r.shape w → LiesInside w.shape column row
    → StaysWithin r connect w (in_whole r.shape.width w (row * w.shape.width + column))
unfolding are_neighbours
inside_stays r connect w column row inside within a adjacent = seen_from r.shape.width w a
    (omega (arith, x, near.0, near.1, left)) (omega (arith, y, near.2, near.3, top))
    (omega (arith, x, near.0, near.1, left, right)) (omega (arith, y, near.2, near.3, top, bottom))
  where
    left : 0 < column
    left = within.left

    right : column + 1 < w.shape.width
    right = within.right

    top : 0 < row
    top = within.top

    bottom : row + 1 < w.shape.height
    bottom = within.bottom

    q : ℕ
    q = row * w.shape.width + column

    p : ℕ
    p = in_whole r.shape.width w q

    at : IsAt r.shape.width w.shape.width w.left w.top p q
    at = in_whole-at r.shape w q inside

    x : p % r.shape.width ≡ column + w.left
    x = at.column ∙ ap (λ (z : ℕ). z + w.left) (mod-mul-add row w.shape.width column (omega (arith, right)))

    y : p / r.shape.width ≡ row + w.top
    y = at.row ∙ ap (λ (z : ℕ). z + w.top) (div-mul-add row w.shape.width column (omega (arith, right)))

    near : (p % r.shape.width ≤ a % r.shape.width + 1) × (a % r.shape.width ≤ p % r.shape.width + 1)
        × (p / r.shape.width ≤ a / r.shape.width + 1) × (a / r.shape.width ≤ p / r.shape.width + 1)
    near = linked_near connect (p % r.shape.width) (a % r.shape.width) (p / r.shape.width) (a / r.shape.width)
        (adjacent_ends r.values r.shape.width connect p a adjacent).2

-- where a window's pixel stands, by its column and row
pub in_whole-row : (width : ℕ) (w : Window) (row column : ℕ) → column < w.shape.width
    → in_whole width w (row * w.shape.width + column) ≡ (row + w.top) * width + (column + w.left)
unfolding in_whole
in_whole-row width w row column l =
    rw (div-mul-add row w.shape.width column l, mod-mul-add row w.shape.width column l) refl

-- where its row begins in a plane, the column alone is added
pub row_pixel : (r : Raster) (whole : Shape) (w : Window) (row column first : ℕ) → whole ≡ r.shape → length r.values ≡ whole.width * whole.height
    → IsInside r.shape w → row < w.shape.height → column < w.shape.width → first ≡ (row + w.top) * whole.width + w.left
    → (first + column < length r.values) × (first + column ≡ in_whole r.shape.width w (row * w.shape.width + column))
row_pixel r whole w row column first same one_each inside k l e =
    let size : length r.values ≡ r.shape.width * r.shape.height = one_each ∙ ap (λ (x : Shape). x.width * x.height) same in
    let begins : first ≡ (row + w.top) * r.shape.width + w.left = e ∙ ap (λ (x : Shape). (row + w.top) * x.width + w.left) same in
    let end : first + w.shape.width ≤ r.shape.width * r.shape.height = row_inside r.shape w row first (first + w.shape.width) inside k begins refl in
    let at : in_whole r.shape.width w (row * w.shape.width + column) ≡ (row + w.top) * r.shape.width + (column + w.left) =
    in_whole-row r.shape.width w row column l in
    (omega (arith, size, end, l), omega (arith, begins, at))

-- ---- pixel by pixel

module _ (r s : Raster) (connect : Connect) (h : ℤ) (c : WindowPair) where
  pub copied_none : (first end : ℕ) → end ≤ first → ArePixelsCopied r s connect h c first end
  copied_none first end l = record { each = λ q low high k. absurd (omega arith) }

  pub copied_more : (first p : ℕ) → ArePixelsCopied r s connect h c first p
      → (IsTrue (is_high_there s h c.to p) → IsPixelCopied r s connect c p) → ArePixelsCopied r s connect h c first (p + 1)
  copied_more first p before here = record { each = λ q low high k. go q (cases_lt q p) low high k }
    where
      go : (q : ℕ) → (q < p) ⊎ (p ≤ q) → first ≤ q → q < p + 1 → IsTrue (is_high_there s h c.to q) → IsPixelCopied r s connect c q
      go q (inl l) low high k = before.each q low l k
      go q (inr l) low high k =
          let e : p ≡ q = omega arith in
          subst (λ (n : ℕ). IsTrue (is_high_there s h c.to n) → IsPixelCopied r s connect c n) e here k

  pub copied_joined : (first middle end : ℕ) → ArePixelsCopied r s connect h c first middle → ArePixelsCopied r s connect h c middle end
      → ArePixelsCopied r s connect h c first end
  copied_joined first middle end before behind = record { each = λ q low high k. go q (cases_lt q middle) low high k }
    where
      go : (q : ℕ) → (q < middle) ⊎ (middle ≤ q) → first ≤ q → q < end → IsTrue (is_high_there s h c.to q) → IsPixelCopied r s connect c q
      go q (inl l) low high k = before.each q low l k
      go q (inr l) low high k = behind.each q l high k

  pub copied_at : (first end last : ℕ) → ArePixelsCopied r s connect h c first end → end ≡ last → ArePixelsCopied r s connect h c first last
  copied_at first end last copied e = subst (λ (n : ℕ). ArePixelsCopied r s connect h c first n) e copied

  -- pixels that are low needn't be copies
  pub copied_low : (first end : ℕ) → AreLowThere s h c.to first end → ArePixelsCopied r s connect h c first end
  copied_low first end low = record { each = λ q from to high. absurd (low q from to high) }

  -- those of a run are
  pub copied_run : (row first end : ℕ) → ((x : ℕ) → first ≤ x → x < end → IsPixelCopied r s connect c (row * c.to.shape.width + x))
      → ArePixelsCopied r s connect h c (row * c.to.shape.width + first) (row * c.to.shape.width + end)
  copied_run row first end run = record {
    each = λ q low high k.
        let e : row * c.to.shape.width + (q - row * c.to.shape.width) ≡ q = omega (arith, low) in
        subst (IsPixelCopied r s connect c) e (run (q - row * c.to.shape.width) (omega (arith, low)) (omega (arith, low, high)));
  }

  -- so the pixels of a row before its first high one needn't
  pub copied_before : (row width first : ℕ) → AreLowThere s h c.to (row * width + 0) (row * width + first)
      → ArePixelsCopied r s connect h c (row * width) (row * width + first)
  copied_before row width first low = copied_low (row * width) (row * width + first) (λ q from to high. low q (omega (arith, from)) to high)

  -- and with a run, and the low ones behind it, more of them are
  pub copied_behind : (row first end next : ℕ) → ArePixelsCopied r s connect h c (row * c.to.shape.width) (row * c.to.shape.width + first)
      → ((x : ℕ) → first ≤ x → x < end → IsPixelCopied r s connect c (row * c.to.shape.width + x))
      → AreLowThere s h c.to (row * c.to.shape.width + end) (row * c.to.shape.width + next)
      → ArePixelsCopied r s connect h c (row * c.to.shape.width) (row * c.to.shape.width + next)
  copied_behind row first end next before run low =
      copied_joined (row * c.to.shape.width) (row * c.to.shape.width + first) (row * c.to.shape.width + next) before
      (copied_joined (row * c.to.shape.width + first) (row * c.to.shape.width + end) (row * c.to.shape.width + next) (copied_run row first end run)
      (copied_low (row * c.to.shape.width + end) (row * c.to.shape.width + next) low))

-- ---- a run at the edge of a window

module _ (r s : Raster) (connect : Connect) (c : WindowPair) (row first : ℕ) where
  pub within_none : AreWithin r s connect c row first first
  within_none = record { beyond = λ x low high. absurd (omega (arith, low, high)); beyond_sheet = λ x low high. absurd (omega (arith, low, high)) }

  pub within_more : (end : ℕ) → AreWithin r s connect c row first end
      → StaysWithin r connect c.from (in_whole r.shape.width c.from (row * c.to.shape.width + end))
      → StaysWithin s connect c.to (in_whole s.shape.width c.to (row * c.to.shape.width + end)) → AreWithin r s connect c row first (end + 1)
  within_more end before here there = record {
    beyond = λ x low high. elim (cases_lt x end) [
      | inl l ↦ before.beyond x low l
      | inr l ↦ subst (λ (z : ℕ). StaysWithin r connect c.from (in_whole r.shape.width c.from (row * c.to.shape.width + z))) (omega (arith, l, high)) here
    ];
    beyond_sheet = λ x low high. elim (cases_lt x end) [
      | inl l ↦ before.beyond_sheet x low l
      | inr l ↦ subst (λ (z : ℕ). StaysWithin s connect c.to (in_whole s.shape.width c.to (row * c.to.shape.width + z))) (omega (arith, l, high)) there
    ];
  }

  pub within_up_to : (end last : ℕ) → last ≤ end → AreWithin r s connect c row first end → AreWithin r s connect c row first last
  within_up_to end last l before = record {
    beyond = λ x low high. before.beyond x low (omega (arith, l, high));
    beyond_sheet = λ x low high. before.beyond_sheet x low (omega (arith, l, high));
  }

-- what is high in the window has at least h
pub high_there : (s : Raster) (h : ℤ) (w : Window) (q there : ℕ) → in_whole s.shape.width w q ≡ there → IsTrue (is_high_there s h w q)
    → IsTrue (is_at_least s h there)
unfolding is_high_there
high_there s h w q there e k =
    sym (ap (is_at_least s h) e) ∙ (and_parts (nat_lt q (window_size w)) (is_at_least s h (in_whole s.shape.width w q)) k).1

low_none : (s : Raster) (h : ℤ) (w : Window) (first end : ℕ) → end ≤ first → AreLowThere s h w first end
low_none s h w first end l q low high k = absurd (omega (arith, l, low, high))

pub low_start : (s : Raster) (h : ℤ) (w : Window) (first : ℕ) → AreLowThere s h w first first
low_start s h w first = low_none s h w first first (omega arith)

pub low_more : (s : Raster) (h : ℤ) (w : Window) (first end : ℕ) → AreLowThere s h w first end → (IsTrue (is_high_there s h w end) → ⊥)
    → AreLowThere s h w first (end + 1)
low_more s h w first end before here q low high k = go (cases_lt q end)
  where
    go : (q < end) ⊎ (end ≤ q) → ⊥
    go (inl l) = before q low l k
    go (inr l) =
        let e : q ≡ end = omega (arith, l, high) in
        here (subst (λ (n : ℕ). IsTrue (is_high_there s h w n)) e k)

-- the place is a copy where each of its pixels is one
pub copied_from : (r s : Raster) (connect : Connect) (h : ℤ) (c : Place) → IsInside r.shape (windows_of c).from → IsInside s.shape (windows_of c).to
    → ArePixelsCopied r s connect h (windows_of c) 0 (c.shape.height * c.shape.width) → IsCopied r s connect h (windows_of c)
unfolding is_high_there
copied_from r s connect h c inside inside_sheet copied = record {
  same_shape = refl;
  inside = inside;
  inside_sheet = inside_sheet;
  same = λ q k. (at q k).same;
  beside = λ q b k. (at q k).beside b;
  beyond = λ q a k adjacent. let w : IsInWindow r.shape.width (windows_of c).from a = (at q k).beyond a adjacent in (w.it, w.below, w.place);
  beyond_sheet = λ q a k adjacent.
      let w : IsInWindow s.shape.width (windows_of c).to a = (at q k).beyond_sheet a adjacent in (w.it, w.below, w.place);
}
  where
    at : (q : ℕ) → IsTrue (is_high_there s h (windows_of c).to q) → IsPixelCopied r s connect (windows_of c) q
    at q k =
        let few : q < c.shape.width * c.shape.height =
        ltb-true q (window_size (windows_of c).to)
        (and_parts (nat_lt q (window_size (windows_of c).to)) (is_at_least s h (in_whole s.shape.width (windows_of c).to q)) k).0 in
        copied.each q (omega arith) (omega arith) k
