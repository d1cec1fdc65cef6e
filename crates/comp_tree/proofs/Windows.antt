-- A plane and its window: the window's pixels keep their order and their neighbours, and the components among the sure pixels are paired.
use Rattle.std.proofs.Common.{◌≡◌, ℕ, ◌+◌, ◌*◌, ◌/◌, ◌%◌, ◌<◌, ◌≤◌, Bool, true, length, refl, sym, ◌∙◌, ap, subst, arith, ◌⊎◌, inl, inr, max, ◌&&◌}
use Rattle.std.specs.Prelude.{IsTrue, ℤ, Option, None, is_some, ◌↔◌, nat_le, nat_lt}
use Rattle.std.proofs.lemmas.Bool.{cases_lt, and_from, le-leb, lt-ltb}
use Rattle.std.proofs.lemmas.Nat.{div-add-mod', div-mul-add, mod-mul-add, mod_below, div_below, mul-add-lt}
use Rattle.std.proofs.lemmas.List.FromFn.{get_or-map-range_with_len, length-map-range_with_len}
use Rattle.std.proofs.Math.Nat.{mul-le-mul_right}
use Rattle.comp_tree.specs.declared.shape.Connect.{Connect}
use Rattle.comp_tree.specs.declared.shape.Connect.TheVariants.{Four, Eight}
use Rattle.comp_tree.specs.declared.shape.Shape.{Shape}
use Rattle.comp_tree.specs.Raster.{Raster, IsPlane, value_at, at_least, is_defined, is_at_least}
use Rattle.comp_tree.specs.Grid.{distance, are_neighbours, IsAdjacency}
use Rattle.comp_tree.specs.Joined.{here, IsPairOf}
use Rattle.comp_tree.specs.Components.{IsReached}
use Rattle.comp_tree.specs.Windows.{Window, IsInside, in_whole, seen_through, IsShown, Shows, IsSureAround, LiesSure, LiesSureIn, ReachesTheSame}
use Rattle.comp_tree.specs.Windows.{WindowShowsItsPixels, SureComponentsAreSeen, SureComponentsAreTheSame, Box, is_in_box, IsDeep, IsDeepIn}
use Rattle.comp_tree.specs.Windows.{DeepComponentsLieSure}
use Rattle.lemmas.proofs.Exported.{int_le_refl}
use Rattle.comp_tree.proofs.Adjacent.{adjacent_ends, adjacent_from, neighbours_four, neighbours_eight}
use Rattle.comp_tree.proofs.Joining.{joined_left, joined_right, joined_trans, joined_pair, along_joined}
use Rattle.comp_tree.proofs.Reaching.{below_from_defined, defined_from_at_least, reaches-is_IsReached}
use Rattle.comp_tree.proofs.Along.{turned, HasPartnerBeside, HasLikeBeside, AlikeAlong, IsReachedThere, one_way, paired_sym, along_reached}

-- ---- the order of pixels

-- p is less than a where its row is, or its column in the same row
less_from_place : (width p a : ℕ) → 0 < width → (p / width < a / width) ⊎ ((p / width ≡ a / width) × (p % width < a % width)) → p < a
less_from_place width p a some (inl l) =
    let one : p / width * width + p % width ≡ p = div-add-mod' p width in
    let other : a / width * width + a % width ≡ a = div-add-mod' a width in
    let rest : p % width < width = mod_below p width some in
    let more : (p / width + 1) * width ≤ a / width * width = mul-le-mul_right width (omega arith) in
    let next : (p / width + 1) * width ≡ p / width * width + width = omega arith in
    omega arith
less_from_place width p a some (inr e) =
    let one : p / width * width + p % width ≡ p = div-add-mod' p width in
    let other : a / width * width + a % width ≡ a = div-add-mod' a width in
    let rows : p / width * width ≡ a / width * width = ap (λ (n : ℕ). n * width) e.0 in
    let l : p % width < a % width = e.1 in
    omega arith

-- a row and a column have one pixel
same_from_places : (width p a : ℕ) → p / width ≡ a / width → p % width ≡ a % width → p ≡ a
same_from_places width p a u v =
    let one : p / width * width + p % width ≡ p = div-add-mod' p width in
    let other : a / width * width + a % width ≡ a = div-add-mod' a width in
    let rows : p / width * width ≡ a / width * width = ap (λ (n : ℕ). n * width) u in
    omega arith

-- and the other way round
less_to_place : (width p a : ℕ) → 0 < width → p < a → (p / width < a / width) ⊎ ((p / width ≡ a / width) × (p % width < a % width))
less_to_place width p a some l =
    go (cases_lt (p / width) (a / width)) (cases_lt (a / width) (p / width)) (cases_lt (p % width) (a % width)) (cases_lt (a % width) (p % width))
  where
    go : (p / width < a / width) ⊎ (a / width ≤ p / width) → (a / width < p / width) ⊎ (p / width ≤ a / width)
        → (p % width < a % width) ⊎ (a % width ≤ p % width)
        → (a % width < p % width) ⊎ (p % width ≤ a % width) → (p / width < a / width) ⊎ ((p / width ≡ a / width) × (p % width < a % width))
    go (inl u) v x y = inl u
    go (inr u) (inl v) x y = let k : a < p = less_from_place width a p some (inl v) in absurd (omega arith)
    go (inr u) (inr v) (inl x) y = inr (omega arith, x)
    go (inr u) (inr v) (inr x) (inl y) =
        let e : a / width ≡ p / width = omega arith in
        let k : a < p = less_from_place width a p some (inr (e, y)) in
        absurd (omega arith)
    go (inr u) (inr v) (inr x) (inr y) = let k : p ≡ a = same_from_places width p a (omega arith) (omega arith) in absurd (omega arith)

-- ---- places

-- pixel p of the wide grid and pixel q of the narrow one stand at one place
pub record IsAt (wide narrow left top p q : ℕ) : Type 0 where
  pub column : p % wide ≡ q % narrow + left
  pub row : p / wide ≡ q / narrow + top

-- numbers that are moved together keep their distance
distance_moved : (a b c : ℕ) → distance (a + c) (b + c) ≡ distance a b
unfolding distance
distance_moved a b c = omega arith

-- pixels at one place have the same neighbours
pub at_neighbours : (connect : Connect) (wide narrow left top p q a b : ℕ) → IsAt wide narrow left top p q → IsAt wide narrow left top a b
    → are_neighbours connect wide p a ≡ are_neighbours connect narrow q b
unfolding are_neighbours
at_neighbours connect wide narrow left top p q a b u v =
    rw (u.column, v.column, u.row, v.row, distance_moved (q % narrow) (b % narrow) left, distance_moved (q / narrow) (b / narrow) top) refl

-- and the same order
at_less : (wide narrow left top p q a b : ℕ) → 0 < wide → 0 < narrow → IsAt wide narrow left top p q → IsAt wide narrow left top a b → p < a → q < b
at_less wide narrow left top p q a b some many u v l = less_from_place narrow q b many (go (less_to_place wide p a some l))
  where
    go : (p / wide < a / wide) ⊎ ((p / wide ≡ a / wide) × (p % wide < a % wide))
        → (q / narrow < b / narrow) ⊎ ((q / narrow ≡ b / narrow) × (q % narrow < b % narrow))
    go (inl k) = let x : p / wide ≡ q / narrow + top = u.row in let y : a / wide ≡ b / narrow + top = v.row in inl (omega arith)
    go (inr k) =
        let x : p / wide ≡ q / narrow + top = u.row in
        let y : a / wide ≡ b / narrow + top = v.row in
        let z : p % wide ≡ q % narrow + left = u.column in
        let w : a % wide ≡ b % narrow + left = v.column in
        let e : p / wide ≡ a / wide = k.0 in
        let m : p % wide < a % wide = k.1 in
        inr (omega arith, omega arith)

at_less_back : (wide narrow left top p q a b : ℕ) → 0 < wide → 0 < narrow → IsAt wide narrow left top p q → IsAt wide narrow left top a b → q < b → p < a
at_less_back wide narrow left top p q a b some many u v l = less_from_place wide p a some (go (less_to_place narrow q b many l))
  where
    go : (q / narrow < b / narrow) ⊎ ((q / narrow ≡ b / narrow) × (q % narrow < b % narrow))
        → (p / wide < a / wide) ⊎ ((p / wide ≡ a / wide) × (p % wide < a % wide))
    go (inl k) = let x : p / wide ≡ q / narrow + top = u.row in let y : a / wide ≡ b / narrow + top = v.row in inl (omega arith)
    go (inr k) =
        let x : p / wide ≡ q / narrow + top = u.row in
        let y : a / wide ≡ b / narrow + top = v.row in
        let z : p % wide ≡ q % narrow + left = u.column in
        let w : a % wide ≡ b % narrow + left = v.column in
        let e : q / narrow ≡ b / narrow = k.0 in
        let m : q % narrow < b % narrow = k.1 in
        inr (omega arith, omega arith)

pub at_order : (wide narrow left top p q a b : ℕ) → 0 < wide → 0 < narrow → IsAt wide narrow left top p q → IsAt wide narrow left top a b → (p < a) ↔ (q < b)
at_order wide narrow left top p q a b some many u v =
    (at_less wide narrow left top p q a b some many u v, at_less_back wide narrow left top p q a b some many u v)

-- a shape has a column
pub some_columns : (x : Shape) → 0 < x.width
some_columns x = x.within_limits.some_columns

-- a window's pixel stands where it stands in the whole
pub in_whole-at : (whole : Shape) (w : Window) (q : ℕ) → IsInside whole w → IsAt whole.width w.shape.width w.left w.top (in_whole whole.width w q) q
unfolding in_whole
in_whole-at whole w q i = record {
  column = mod-mul-add (q / w.shape.width + w.top) whole.width (q % w.shape.width + w.left) inside;
  row = div-mul-add (q / w.shape.width + w.top) whole.width (q % w.shape.width + w.left) inside;
}
  where
    inside : q % w.shape.width + w.left < whole.width
    inside =
        let k : q % w.shape.width < w.shape.width = mod_below q w.shape.width (some_columns w.shape) in
        let l : w.left + w.shape.width ≤ whole.width = i.columns in
        omega arith

-- that is a pixel of the whole
pub in_whole-below : (whole : Shape) (w : Window) (q : ℕ) → IsInside whole w → q < w.shape.width * w.shape.height
    → in_whole whole.width w q < whole.width * whole.height
unfolding in_whole
in_whole-below whole w q i l = mul-add-lt (q / w.shape.width + w.top) whole.width (q % w.shape.width + w.left) whole.height rows columns
  where
    columns : q % w.shape.width + w.left < whole.width
    columns =
        let k : q % w.shape.width < w.shape.width = mod_below q w.shape.width (some_columns w.shape) in
        let m : w.left + w.shape.width ≤ whole.width = i.columns in
        omega arith

    rows : q / w.shape.width + w.top < whole.height
    rows =
        let k : q / w.shape.width < w.shape.height = div_below q w.shape.width w.shape.height (some_columns w.shape) (omega arith) in
        let m : w.top + w.shape.height ≤ whole.height = i.rows in
        omega arith

-- and no two pixels have one place
pub in_whole-one : (whole : Shape) (w : Window) (q b : ℕ) → IsInside whole w → in_whole whole.width w q ≡ in_whole whole.width w b → q ≡ b
in_whole-one whole w q b i e =
    same_from_places w.shape.width q b
    (let x : in_whole whole.width w q / whole.width ≡ q / w.shape.width + w.top = (in_whole-at whole w q i).row in
    let y : in_whole whole.width w b / whole.width ≡ b / w.shape.width + w.top = (in_whole-at whole w b i).row in
    let z : in_whole whole.width w q / whole.width ≡ in_whole whole.width w b / whole.width = ap (λ (n : ℕ). n / whole.width) e in omega arith)
    (let x : in_whole whole.width w q % whole.width ≡ q % w.shape.width + w.left = (in_whole-at whole w q i).column in
    let y : in_whole whole.width w b % whole.width ≡ b % w.shape.width + w.left = (in_whole-at whole w b i).column in
    let z : in_whole whole.width w q % whole.width ≡ in_whole whole.width w b % whole.width = ap (λ (n : ℕ). n % whole.width) e in omega arith)

-- ---- a plane and its window

-- pixel p of r is pixel q of the window, has at least h, and its component lies among the sure pixels
pub record AreSurePair (r s : Raster) (w : Window) (connect : Connect) (h : ℤ) (sure : ℕ → Bool) (p q : ℕ) : Type 0 where
  pub place : in_whole r.shape.width w q ≡ p
  pub below : q < length s.values
  pub high : IsTrue (is_at_least r h p)
  pub lies : LiesSure r connect h sure p

module _ (r s : Raster) (w : Window) (connect : Connect) (h : ℤ) (sure : ℕ → Bool) (plane_r : IsPlane r) (plane_s : IsPlane s) (shows : Shows r s w sure) where
  -- each pixel of the window's plane stands at its place
  pub pair_at : (q : ℕ) → IsAt r.shape.width s.shape.width w.left w.top (in_whole r.shape.width w q) q
  pair_at q =
      subst (λ (x : Shape). IsAt r.shape.width x.width w.left w.top (in_whole r.shape.width w q) q) (sym shows.shape_is)
      (in_whole-at r.shape w q shows.inside)

  -- which the whole has
  pub window_whole_below : (q : ℕ) → q < length s.values → in_whole r.shape.width w q < length r.values
  window_whole_below q l =
      let k : in_whole r.shape.width w q < r.shape.width * r.shape.height = in_whole-below r.shape w q shows.inside
      (let e : length s.values ≡ w.shape.width * w.shape.height = plane_s ∙ ap (λ (x : Shape). x.width * x.height) shows.shape_is in omega arith) in
      let e : length r.values ≡ r.shape.width * r.shape.height = plane_r in
      omega arith

  -- a sure pixel has one value
  pub sure_same : (q : ℕ) → q < length s.values → IsTrue (sure (in_whole r.shape.width w q))
      → value_at r.values (in_whole r.shape.width w q) ≡ value_at s.values q
  sure_same q l k =
      let g : IsShown r s w (in_whole r.shape.width w q) = shows.shown (in_whole r.shape.width w q) (window_whole_below q l) k in
      g.same ∙ ap (value_at s.values) (in_whole-one r.shape w g.it q shows.inside g.place)

  -- the window's pixels have the whole's neighbours
  neighbours_same : (q b : ℕ)
      → are_neighbours connect r.shape.width (in_whole r.shape.width w q) (in_whole r.shape.width w b) ≡ are_neighbours connect s.shape.width q b
  neighbours_same q b =
      at_neighbours connect r.shape.width s.shape.width w.left w.top (in_whole r.shape.width w q) q (in_whole r.shape.width w b) b (pair_at q) (pair_at b)

  -- ---- one step

  -- what is adjacent to a pixel around which all are sure is shown, and is adjacent there
  step_there : (q a : ℕ) → q < length s.values → IsSureAround r connect sure (in_whole r.shape.width w q)
      → IsAdjacency r.values r.shape.width connect (in_whole r.shape.width w q) a
      → (g : IsShown r s w a) × IsAdjacency s.values s.shape.width connect q g.it
  step_there q a l k e = (
    g,
    adjacent_from s.values s.shape.width connect q g.it (subst (λ (v : Option ℤ). is_some v ≡ true) same ends.0)
        (subst (λ (v : Option ℤ). is_some v ≡ true) g.same ends.1)
        (sym (neighbours_same q g.it) ∙ subst (λ (x : ℕ). IsTrue (are_neighbours connect r.shape.width (in_whole r.shape.width w q) x)) (sym g.place) ends.2),
  )
    where
      ends : IsTrue (is_defined r (in_whole r.shape.width w q)) × IsTrue (is_defined r a)
          × IsTrue (are_neighbours connect r.shape.width (in_whole r.shape.width w q) a)
      ends = adjacent_ends r.values r.shape.width connect (in_whole r.shape.width w q) a e

      same : value_at r.values (in_whole r.shape.width w q) ≡ value_at s.values q
      same = sure_same q l (k (in_whole r.shape.width w q) (window_whole_below q l) (inl refl))

      g : IsShown r s w a
      g = shows.shown a (below_from_defined r a ends.1) (k a (below_from_defined r a ends.1) (inr ends.2))

  -- and the other way round
  step_back : (q b : ℕ) → q < length s.values → IsSureAround r connect sure (in_whole r.shape.width w q) → IsAdjacency s.values s.shape.width connect q b
      → (b < length s.values) × (value_at r.values (in_whole r.shape.width w b) ≡ value_at s.values b)
      × IsAdjacency r.values r.shape.width connect (in_whole r.shape.width w q) (in_whole r.shape.width w b)
  step_back q b l k e = (
    below,
    same_b,
    adjacent_from r.values r.shape.width connect (in_whole r.shape.width w q) (in_whole r.shape.width w b)
        (subst (λ (v : Option ℤ). is_some v ≡ true) (sym same_q) ends.0) (subst (λ (v : Option ℤ). is_some v ≡ true) (sym same_b) ends.1) linked,
  )
    where
      ends : IsTrue (is_defined s q) × IsTrue (is_defined s b) × IsTrue (are_neighbours connect s.shape.width q b)
      ends = adjacent_ends s.values s.shape.width connect q b e

      below : b < length s.values
      below = below_from_defined s b ends.1

      linked : IsTrue (are_neighbours connect r.shape.width (in_whole r.shape.width w q) (in_whole r.shape.width w b))
      linked = neighbours_same q b ∙ ends.2

      same_q : value_at r.values (in_whole r.shape.width w q) ≡ value_at s.values q
      same_q = sure_same q l (k (in_whole r.shape.width w q) (window_whole_below q l) (inl refl))

      same_b : value_at r.values (in_whole r.shape.width w b) ≡ value_at s.values b
      same_b = sure_same b below (k (in_whole r.shape.width w b) (window_whole_below b below) (inr linked))

  -- ---- the pairs

  -- what is adjacent and has at least h too belongs to the same component
  lies_on : (p a : ℕ) → IsTrue (is_at_least r h p) → IsTrue (is_at_least r h a) → IsAdjacency r.values r.shape.width connect p a → LiesSure r connect h sure p
      → LiesSure r connect h sure a
  lies_on p a hp ha e lies x k = lies x (joined_trans (joined_pair p a hp ha (inl e)) k)

  -- the pixels of a pair have one value
  pub pair_same : (p q : ℕ) → AreSurePair r s w connect h sure p q → value_at r.values p ≡ value_at s.values q
  pair_same p q c =
      subst (λ (x : ℕ). value_at r.values x ≡ value_at s.values q) c.place
      (sure_same q c.below (subst (λ (x : ℕ). IsTrue (sure x)) (sym c.place)
      (c.lies p (here c.high) p (below_from_defined r p (defined_from_at_least r h p c.high)) (inl refl))))

  -- and all around them is sure
  around : (p q : ℕ) → AreSurePair r s w connect h sure p q → IsSureAround r connect sure (in_whole r.shape.width w q)
  around p q c = subst (λ (x : ℕ). IsSureAround r connect sure x) (sym c.place) (c.lies p (here c.high))

  -- what is adjacent to a pixel of a pair has the same value in the window
  pairs_like : (p q a : ℕ) → AreSurePair r s w connect h sure p q → IsAdjacency r.values r.shape.width connect p a → HasLikeBeside r s connect a q
  pairs_like p q a c e =
      let g : (g : IsShown r s w a) × IsAdjacency s.values s.shape.width connect q g.it =
      step_there q a c.below (around p q c) (subst (λ (x : ℕ). IsAdjacency r.values r.shape.width connect x a) (sym c.place) e) in
      record { it = g.0.it; adjacent = g.1; same = g.0.same }

  -- and makes a pair, where it has at least h
  pairs_there : (p q a : ℕ) → AreSurePair r s w connect h sure p q → IsAdjacency r.values r.shape.width connect p a → IsTrue (is_at_least r h a)
      → HasPartnerBeside s connect (AreSurePair r s w connect h sure) a q
  pairs_there p q a c e k =
      let g : (g : IsShown r s w a) × IsAdjacency s.values s.shape.width connect q g.it =
      step_there q a c.below (around p q c) (subst (λ (x : ℕ). IsAdjacency r.values r.shape.width connect x a) (sym c.place) e) in
      record { it = g.0.it; adjacent = g.1; pair = record { place = g.0.place; below = g.0.below; high = k; lies = lies_on p a c.high k e c.lies } }

  -- and the other way round
  pairs_from : (p q b : ℕ) → AreSurePair r s w connect h sure p q → IsAdjacency s.values s.shape.width connect q b
      → (b < length s.values) × (value_at r.values (in_whole r.shape.width w b) ≡ value_at s.values b)
      × IsAdjacency r.values r.shape.width connect p (in_whole r.shape.width w b)
  pairs_from p q b c e =
      let g : (b < length s.values) × (value_at r.values (in_whole r.shape.width w b) ≡ value_at s.values b)
      × IsAdjacency r.values r.shape.width connect (in_whole r.shape.width w q) (in_whole r.shape.width w b) = step_back q b c.below (around p q c) e in
      (g.0, g.1, subst (λ (x : ℕ). IsAdjacency r.values r.shape.width connect x (in_whole r.shape.width w b)) c.place g.2)

  pairs_like_back : (p q b : ℕ) → AreSurePair r s w connect h sure p q → IsAdjacency s.values s.shape.width connect q b → HasLikeBeside s r connect b p
  pairs_like_back p q b c e =
      let g : (b < length s.values) × (value_at r.values (in_whole r.shape.width w b) ≡ value_at s.values b)
      × IsAdjacency r.values r.shape.width connect p (in_whole r.shape.width w b) = pairs_from p q b c e in
      record { it = in_whole r.shape.width w b; adjacent = g.2; same = sym g.1 }

  pairs_back : (p q b : ℕ) → AreSurePair r s w connect h sure p q → IsAdjacency s.values s.shape.width connect q b → IsTrue (is_at_least s h b)
      → HasPartnerBeside r connect (turned (AreSurePair r s w connect h sure)) b p
  pairs_back p q b c e k =
      let g : (b < length s.values) × (value_at r.values (in_whole r.shape.width w b) ≡ value_at s.values b)
      × IsAdjacency r.values r.shape.width connect p (in_whole r.shape.width w b) = pairs_from p q b c e in
      let high : IsTrue (is_at_least r h (in_whole r.shape.width w b)) = subst (λ (v : Option ℤ). at_least h v ≡ true) (sym g.1) k in
      record {
        it = in_whole r.shape.width w b;
        adjacent = g.2;
        pair = record { place = refl; below = g.0; high = high; lies = lies_on p (in_whole r.shape.width w b) c.high high g.2 c.lies };
      }

  -- so a plane and its window are alike along these pairs
  pub window_along : AlikeAlong r s connect h (AreSurePair r s w connect h sure)
  window_along = record {
    above = record {
      high = λ p q c. c.high;
      same = pair_same;
      order = λ p q a b c d.
          at_order r.shape.width s.shape.width w.left w.top p q a b (some_columns r.shape) (some_columns s.shape) (at_of p q c) (at_of a b d);
      there = pairs_there;
      back = pairs_back;
    };
    there = pairs_like;
    back = pairs_like_back;
  }
    where
      at_of : (p q : ℕ) → AreSurePair r s w connect h sure p q → IsAt r.shape.width s.shape.width w.left w.top p q
      at_of p q c = subst (λ (x : ℕ). IsAt r.shape.width s.shape.width w.left w.top x q) c.place (pair_at q)

-- ---- the laws

-- a pixel that the window's pixel q reaches, as the whole numbers it
pub record IsSeenReached (r s : Raster) (w : Window) (connect : Connect) (h : ℤ) (q a : ℕ) : Type 0 where
  pub it : ℕ
  pub below : it < length s.values
  pub place : in_whole r.shape.width w it ≡ a
  pub reached : IsReached s connect h q it

module _ (r s : Raster) (w : Window) (connect : Connect) (h : ℤ) (sure : ℕ → Bool) (plane_r : IsPlane r) (plane_s : IsPlane s) (shows : Shows r s w sure) where
  -- what the whole reaches is seen
  pub seen_reached : (q a : ℕ) → q < length s.values → IsTrue (sure (in_whole r.shape.width w q)) → LiesSureIn r s w connect h sure q
      → IsReached r connect h (in_whole r.shape.width w q) a → IsSeenReached r s w connect h q a
  seen_reached q a l k lies path = along_joined (IsSeenReached r s w connect h q) step path start
    where
      start : IsSeenReached r s w connect h q (in_whole r.shape.width w q)
      start = record {
        it = q;
        below = l;
        place = refl;
        reached = here (subst (λ (v : Option ℤ). at_least h v ≡ true) (sure_same r s w connect h sure plane_r plane_s shows q l k) (joined_left path));
      }

      step : (x y : ℕ) → IsSeenReached r s w connect h q x → IsTrue (is_at_least r h x) → IsPairOf (IsAdjacency r.values r.shape.width connect) x y
          → IsTrue (is_at_least r h y)
          → IsSeenReached r s w connect h q y
      step x y b ix e iy =
          let g : (g : IsShown r s w y) × IsAdjacency s.values s.shape.width connect b.it g.it =
          step_there r s w connect h sure plane_r plane_s shows b.it y b.below (lies b.it b.reached)
          (subst (λ (z : ℕ). IsAdjacency r.values r.shape.width connect z y) (sym b.place) (one_way r connect x y e)) in
          record {
            it = g.0.it;
            below = g.0.below;
            place = g.0.place;
            reached = joined_trans b.reached
                (joined_pair b.it g.0.it (joined_right b.reached) (subst (λ (v : Option ℤ). at_least h v ≡ true) g.0.same iy) (inl g.1));
          }

  -- a component that lies sure in the window does so in the whole
  lies_from_seen : (q : ℕ) → q < length s.values → IsTrue (sure (in_whole r.shape.width w q)) → LiesSureIn r s w connect h sure q
      → LiesSure r connect h sure (in_whole r.shape.width w q)
  lies_from_seen q l k lies a path =
      let b : IsSeenReached r s w connect h q a = seen_reached q a l k lies path in
      subst (λ (x : ℕ). IsSureAround r connect sure x) b.place (lies b.it b.reached)

  -- what the window's pixel reaches is reached in the whole
  whole_reached : (q b : ℕ) → q < length s.values → IsTrue (sure (in_whole r.shape.width w q)) → LiesSure r connect h sure (in_whole r.shape.width w q)
      → IsReached s connect h q b
      → IsReachedThere r connect h (turned (AreSurePair r s w connect h sure)) (in_whole r.shape.width w q) b
  whole_reached q b l k lies path =
      along_reached s r connect h (turned (AreSurePair r s w connect h sure))
      (paired_sym r s connect h (AreSurePair r s w connect h sure) (window_along r s w connect h sure plane_r plane_s shows).above)
      h q (in_whole r.shape.width w q) b (int_le_refl h)
      (record {
        place = refl;
        below = l;
        high = subst (λ (v : Option ℤ). at_least h v ≡ true) (sym (sure_same r s w connect h sure plane_r plane_s shows q l k)) (joined_left path);
        lies = lies;
      })
      ((reaches-is_IsReached s connect h q b).1 path)

  -- and the other way round
  seen_from_lies : (q : ℕ) → q < length s.values → IsTrue (sure (in_whole r.shape.width w q)) → LiesSure r connect h sure (in_whole r.shape.width w q)
      → LiesSureIn r s w connect h sure q
  seen_from_lies q l k lies b path =
      let g : IsReachedThere r connect h (turned (AreSurePair r s w connect h sure)) (in_whole r.shape.width w q) b = whole_reached q b l k lies path in
      around r s w connect h sure plane_r plane_s shows g.it b g.pair

  -- so both planes reach the same
  same_reach : (q : ℕ) → q < length s.values → IsTrue (sure (in_whole r.shape.width w q)) → LiesSureIn r s w connect h sure q → ReachesTheSame r s w connect h q
  same_reach q l k lies b = (there, back)
    where
      there : IsReached s connect h q b → IsReached r connect h (in_whole r.shape.width w q) (in_whole r.shape.width w b)
      there path =
          let g : IsReachedThere r connect h (turned (AreSurePair r s w connect h sure)) (in_whole r.shape.width w q) b =
          whole_reached q b l k (lies_from_seen q l k lies) path in
          subst (λ (x : ℕ). IsReached r connect h (in_whole r.shape.width w q) x) (sym g.pair.place)
          ((reaches-is_IsReached r connect h (in_whole r.shape.width w q) g.it).0 g.reached)

      back : IsReached r connect h (in_whole r.shape.width w q) (in_whole r.shape.width w b) → IsReached s connect h q b
      back path =
          let g : IsSeenReached r s w connect h q (in_whole r.shape.width w b) = seen_reached q (in_whole r.shape.width w b) l k lies path in
          subst (λ (x : ℕ). IsReached s connect h q x) (in_whole-one r.shape w g.it b shows.inside g.place) g.reached

  -- and the window shows all that is reached
  shown_reached : (q a : ℕ) → q < length s.values → IsTrue (sure (in_whole r.shape.width w q)) → LiesSureIn r s w connect h sure q
      → IsReached r connect h (in_whole r.shape.width w q) a → IsShown r s w a
  shown_reached q a l k lies path =
      let below : a < length r.values = below_from_defined r a (defined_from_at_least r h a (joined_right path)) in
      shows.shown a below (lies_from_seen q l k lies a path a below (inl refl))

-- the laws, from these parts
pub sure_components_are_seen : SureComponentsAreSeen
sure_components_are_seen r s w connect h sure q plane_r plane_s shows l k =
    (seen_from_lies r s w connect h sure plane_r plane_s shows q l k, lies_from_seen r s w connect h sure plane_r plane_s shows q l k)

pub sure_components_are_the_same : SureComponentsAreTheSame
sure_components_are_the_same r s w connect h sure q plane_r plane_s shows l k lies =
    (same_reach r s w connect h sure plane_r plane_s shows q l k lies, λ a path. shown_reached r s w connect h sure plane_r plane_s shows q a l k lies path)

-- the plane that is seen through a window
pub seen-length : (w : Window) (r : Raster) → length (seen_through w r).values ≡ w.shape.width * w.shape.height
unfolding seen_through
seen-length w r = length-map-range_with_len (λ q. value_at r.values (in_whole r.shape.width w q)) 0 (w.shape.width * w.shape.height)

pub seen-shape : (w : Window) (r : Raster) → (seen_through w r).shape ≡ w.shape
unfolding seen_through
seen-shape w r = refl

pub seen-value : (w : Window) (r : Raster) (q : ℕ) → q < w.shape.width * w.shape.height
    → value_at (seen_through w r).values q ≡ value_at r.values (in_whole r.shape.width w q)
unfolding seen_through
seen-value w r q l =
    get_or-map-range_with_len (λ b. value_at r.values (in_whole r.shape.width w b)) 0 (w.shape.width * w.shape.height) q q None l (omega arith)

pub window_shows_its_pixels : WindowShowsItsPixels
window_shows_its_pixels r w plane inside sure within = (
  seen-length w r ∙ sym (ap (λ (x : Shape). x.width * x.height) (seen-shape w r)),
  record {
    shape_is = seen-shape w r;
    inside = inside;
    shown = λ p l k. let g = within p k in record {
      it = g.0;
      below =
          let e : length (seen_through w r).values ≡ w.shape.width * w.shape.height = seen-length w r in
          let m : g.0 < w.shape.width * w.shape.height = g.1 in
          omega arith;
      place = g.2;
      same = ap (value_at r.values) (sym g.2) ∙ sym (seen-value w r g.0 g.1);
    };
  },
)

-- ---- boxes

-- neighbours lie at most one column and one row apart
beside : (connect : Connect) (width p q : ℕ) → are_neighbours connect width p q ≡ true
    → (p % width ≤ q % width + 1) × (q % width ≤ p % width + 1) × (p / width ≤ q / width + 1) × (q / width ≤ p / width + 1)
unfolding distance
beside Four width p q e =
    let n : distance (p / width) (q / width) + distance (p % width) (q % width) ≡ 1 = (neighbours_four width p q).0 e in
    (omega arith, omega arith, omega arith, omega arith)
beside Eight width p q e =
    let n : max (distance (p / width) (q / width)) (distance (p % width) (q % width)) ≡ 1 = (neighbours_eight width p q).0 e in
    (omega arith, omega arith, omega arith, omega arith)

-- what lies beside a column or row that lies deep lies within the bounds
deep_beside : (low high side x y : ℕ) → IsDeep low high side x → y < side → x ≤ y + 1 → y ≤ x + 1 → (low ≤ y) × (y < high)
deep_beside low high side x y d l a b = (from d.from, to d.to)
  where
    from : (low < x) ⊎ (low ≡ 0) → low ≤ y
    from (inl k) = omega (arith, a, k)
    from (inr k) = omega (arith, k)

    to : (x + 1 < high) ⊎ (high ≡ side) → y < high
    to (inl k) = omega (arith, b, k)
    to (inr k) = omega (arith, l, k)

-- a pixel whose column and row lie within the bounds is in the box
pub box_from : (width : ℕ) (box : Box) (p : ℕ) → (box.left ≤ p % width) × (p % width < box.right) → (box.top ≤ p / width) × (p / width < box.bottom)
    → IsTrue (is_in_box width box p)
unfolding is_in_box
box_from width box p u v =
    and_from (nat_le box.left (p % width) && nat_lt (p % width) box.right) (nat_le box.top (p / width) && nat_lt (p / width) box.bottom)
    (and_from (nat_le box.left (p % width)) (nat_lt (p % width) box.right) (le-leb box.left (p % width) u.0) (lt-ltb (p % width) box.right u.1))
    (and_from (nat_le box.top (p / width)) (nat_lt (p / width) box.bottom) (le-leb box.top (p / width) v.0) (lt-ltb (p / width) box.bottom v.1))

-- a component whose pixels lie deep in a box that is sure lies sure
pub deep_components_lie_sure : DeepComponentsLieSure
deep_components_lie_sure r s w connect h box sure q plane known deep b path a l k = known a (in_box k)
  where
    p : ℕ
    p = in_whole r.shape.width w b

    d : IsDeepIn r.shape box p
    d = deep b path

    row_few : a / r.shape.width < r.shape.height
    row_few = div_below a r.shape.width r.shape.height (some_columns r.shape)
        (let e : length r.values ≡ r.shape.width * r.shape.height = plane in omega (arith, l))

    in_box : (p ≡ a) ⊎ IsTrue (are_neighbours connect r.shape.width p a) → IsTrue (is_in_box r.shape.width box a)
    in_box (inl e) =
        subst (λ (x : ℕ). IsTrue (is_in_box r.shape.width box x)) e
        (box_from r.shape.width box p (d.across.low_at, d.across.high_at) (d.along.low_at, d.along.high_at))
    in_box (inr n) =
        let g : (p % r.shape.width ≤ a % r.shape.width + 1) × (a % r.shape.width ≤ p % r.shape.width + 1)
        × (p / r.shape.width ≤ a / r.shape.width + 1) × (a / r.shape.width ≤ p / r.shape.width + 1) =
        beside connect r.shape.width p a n in
        box_from r.shape.width box a
        (deep_beside box.left box.right r.shape.width (p % r.shape.width) (a % r.shape.width) d.across
        (mod_below a r.shape.width (some_columns r.shape)) g.0 g.1)
        (deep_beside box.top box.bottom r.shape.height (p / r.shape.width) (a / r.shape.width) d.along row_few g.2 g.3)
