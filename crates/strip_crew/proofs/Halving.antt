-- A group of strips, divided at one of its boundaries, and joined again.
use Rattle.std.proofs.Common.{◌≡◌, ℕ, zero, suc, Bool, false, ◌==◌, ◌+◌, ◌-◌, ◌*◌, ◌/◌, ◌<◌}
use Rattle.std.proofs.Common.{◌≤◌, List, ◌++◌, length, get_or, take, drop, Option, ℤ, refl, sym, ap, ◌∙◌, subst, inl, inr}
use Rattle.std.proofs.Common.{⊎_elim, arith, length-append, mul-le-mul_right}
use Rattle.std.proofs.Math.Nat.{div-lt_iff_lt-mul, le-div_iff_mul-le}
use Rattle.std.proofs.lemmas.Bool.{cases_eq, cases_lt}
use Rattle.std.proofs.lemmas.List.{get_or-take, get_or-drop, length-take, length-drop}
use Rattle.comp_tree.specs.declared.shape.Connect.{Connect}
use Rattle.comp_tree.specs.Raster.{Raster}
use Rattle.comp_tree.specs.Joined.{Or}
use Rattle.comp_tree.specs.Forest.{no_node, link_of, LiesInStretch, IsLink, ComesEarlier, IsForest, LinksToEarlier, JoinSame}
use Rattle.tree_join.specs.Boundary.{IsBoundary}
use Rattle.strip_crew.specs.Boundaries.{IsAcross, AreRows, AreApart, IsRowsPair}
use Rattle.strip_crew.specs.Halves.{IsGroup, IsGroupJoined}
use Rattle.comp_tree.proofs.Exported.{same_sym, same_trans, same_or, same_pairs}
use Rattle.tree_join.proofs.Exported.{link_left, link_right, part_left, part_right, forest_groups, links_groups, link_inside, groups_same}

-- a group of one strip stays as it is
pub group_none : (plane : Raster) (connect : Connect) (first_row : ℕ) (links rows : List ℕ) → IsGroup plane first_row links rows → length rows ≡ 0
    → IsGroupJoined plane connect first_row rows links links
group_none plane connect first_row links rows group none = record {
  same_length = refl;
  forest = group.forest;
  joins = same_pairs plane.values first (length links) (IsLink first links)
      (Or (IsLink first links) (IsRowsPair plane.values plane.shape.width connect rows)) (λ x y e. inl e) back;
} where
  first : ℕ
  first = first_row * plane.shape.width

  back : (x y : ℕ) → Or (IsLink first links) (IsRowsPair plane.values plane.shape.width connect rows) x y → IsLink first links x y
  back x y (inl e) = e
  back x y (inr p) = absurd (let l = p.inside in omega arith)

-- the pixels of the boundaries of a group are the group's
pair_within : (values : List (Option ℤ)) (width : ℕ) (connect : Connect) (first_row count : ℕ) (rows : List ℕ) → 0 < width → AreRows width first_row count rows
    → (x y : ℕ) → IsRowsPair values width connect rows x y → LiesInStretch (first_row * width) count x × LiesInStretch (first_row * width) count y
pair_within values width connect first_row count rows pos are x y pair =
    let row : ℕ = get_or rows pair.place 0 in
    let low : first_row < row = are.low pair.place pair.inside in
    let inside : (row + 1) * width ≤ first_row * width + count = are.inside pair.place pair.inside in
    let above : x / width + 1 ≡ row = pair.boundary.above in
    let below : y / width ≡ row = pair.boundary.below in
    let x_low : first_row * width ≤ x = (le-div_iff_mul-le pos).0 (omega arith) in
    let y_low : first_row * width ≤ y = (le-div_iff_mul-le pos).0 (omega arith) in
    let x_high : x < (row + 1) * width = (div-lt_iff_lt-mul pos).0 (omega arith) in
    let y_high : y < (row + 1) * width = (div-lt_iff_lt-mul pos).0 (omega arith) in
    (record { low = x_low; high = omega arith }, record { low = y_low; high = omega arith })

-- the middle of some rows
pub half_inside : (n : ℕ) (none : Bool) → none ≡ (n == 0) → none ≡ false → n / 2 < n
half_inside zero none is some = absurd (cc)
half_inside (suc n) none is some = omega arith

-- one of the rows of a group lies below the group's first row, and inside the plane
pub row_below : (plane : Raster) (first_row : ℕ) (links rows : List ℕ) → IsGroup plane first_row links rows → (k : ℕ) → k < length rows
    → first_row < get_or rows k 0
row_below plane first_row links rows group k near = group.cut.low k near

pub row_inside : (plane : Raster) (first_row : ℕ) (links rows : List ℕ) → IsGroup plane first_row links rows → (k : ℕ) → k < length rows
    → get_or rows k 0 * plane.shape.width ≤ length plane.values
row_inside plane first_row links rows group k near =
    let row : ℕ = get_or rows k 0 in let width : ℕ = plane.shape.width in
    let end : (row + 1) * width ≤ first_row * width + length links = group.cut.inside k near in
    let start : row * width ≤ (row + 1) * width = mul-le-mul_right width (let h : row ≤ row + 1 = omega arith in h) in
    omega (arith, end, start, group.fits)

module _ (plane : Raster) (connect : Connect) (first_row : ℕ) (links rows : List ℕ) (group : IsGroup plane first_row links rows)
    (k : ℕ) (near : k < length rows)
    (left right : List ℕ) (is : links ≡ left ++ right) (at : first_row * plane.shape.width + length left ≡ get_or rows k 0 * plane.shape.width) where
  abbrev values : List (Option ℤ)
  values = plane.values

  abbrev width : ℕ
  width = plane.shape.width

  abbrev first : ℕ
  first = first_row * width

  abbrev row : ℕ
  row = get_or rows k 0

  abbrev front : List ℕ
  front = take k rows

  abbrev back : List ℕ
  back = drop (k + 1) rows

  counts : length links ≡ length left + length right
  counts = ap (λ (l : List ℕ). length l) is ∙ length-append left right

  front_at : (i : ℕ) → i < length front → (i < k) × (get_or front i 0 ≡ get_or rows i 0)
  front_at i h = let n = length-take k rows in let l : i < k = omega arith in (l, get_or-take k rows i 0 l)

  back_at : (i : ℕ) → i < length back → (k + 1 + i < length rows) × (get_or back i 0 ≡ get_or rows (k + 1 + i) 0)
  back_at i h = let n = length-drop (k + 1) rows in (omega arith, get_or-drop (k + 1) rows i 0)

  whole : IsForest values first (left ++ right)
  whole = subst (λ (l : List ℕ). IsForest values first l) is group.forest

  whole_apart : AreApart width first (left ++ right) rows
  whole_apart = subst (λ (l : List ℕ). AreApart width first l rows) is group.apart

  left_kept : (p : ℕ) → LiesInStretch first (length left) p → LinksToEarlier values first left p
  left_kept p w = let e = link_left first left right p w in let q : ℕ = link_of first (left ++ right) p in let high : p < first + length left = w.high in ⊎_elim
      (λ (n : q ≡ no_node). inl (sym e ∙ n))
      (λ (s : LiesInStretch first (length (left ++ right)) q × ComesEarlier values q p). let low : first ≤ q =
      s.0.low in let top : q < first + (length left + length right) = rw length-append at s.0.high in
      let fits = group.fits in let small = group.small in let c = counts in ⊎_elim
      (λ (stays : q < first + length left). inr
      (subst (λ (x : ℕ). LiesInStretch first (length left) x × ComesEarlier values x p) e (record { low = low; high = stays }, s.1)))
      (λ (leaves : first + length left ≤ q). absurd
      (whole_apart.apart k p q near (record { within = part_left first left right p w; link = refl }) (λ n. omega arith)
      (inl (omega (arith, at), omega (arith, at)))))
      (cases_lt q (first + length left)))
      (whole.earlier p (part_left first left right p w))

  right_kept : (p : ℕ) → LiesInStretch (first + length left) (length right) p → LinksToEarlier values (first + length left) right p
  right_kept p w = let e = link_right first left right p w in let q : ℕ = link_of first (left ++ right) p in let low : first + length left ≤ p = w.low in ⊎_elim
      (λ (n : q ≡ no_node). inl (sym e ∙ n))
      (λ (s : LiesInStretch first (length (left ++ right)) q × ComesEarlier values q p). let top : q < first + (length left + length right) =
      rw length-append at s.0.high in
      let fits = group.fits in let small = group.small in let c = counts in ⊎_elim
      (λ (leaves : q < first + length left). absurd
      (whole_apart.apart k p q near (record { within = part_right first left right p w; link = refl }) (λ n. omega arith)
      (inr (omega (arith, at), omega (arith, at)))))
      (λ (stays : first + length left ≤ q). inr
      (subst (λ (x : ℕ). LiesInStretch (first + length left) (length right) x × ComesEarlier values x p) e (record { low = stays; high = omega arith }, s.1)))
      (cases_lt q (first + length left)))
      (whole.earlier p (part_right first left right p w))

  front_rows : AreRows width first_row (length left) front
  front_rows = record {
    rises = λ i j h l. (let a = (front_at i (omega arith)).1 in let b = (front_at j l).1 in let n = (front_at j l).0 in let c =
        group.cut.rises i j h (omega arith) in omega arith);
    low = λ i l. (let a = (front_at i l).1 in let n = (front_at i l).0 in let c = group.cut.low i (omega arith) in omega arith);
    inside = λ i l. (
        let a = (front_at i l).1 in let n = (front_at i l).0 in
        let c : get_or rows i 0 < row = group.cut.rises i k n near in
        let m : (get_or rows i 0 + 1) * width ≤ row * width = mul-le-mul_right width (let h : get_or rows i 0 + 1 ≤ row = omega arith in h) in
        subst (λ (x : ℕ). (x + 1) * width ≤ first + length left) (sym a) (omega (arith, at, m)));
  }

  back_rows : AreRows width row (length right) back
  back_rows = record {
    rises = λ i j h l. (let a = (back_at i (omega arith)).1 in let b = (back_at j l).1 in let n = (back_at j l).0 in let c =
        group.cut.rises (k + 1 + i) (k + 1 + j) (omega arith) n in omega arith);
    low = λ i l. (let a = (back_at i l).1 in let n = (back_at i l).0 in let c = group.cut.rises k (k + 1 + i) (omega arith) n in omega arith);
    inside = λ i l. (
        let a = (back_at i l).1 in let n = (back_at i l).0 in
        let m : (get_or rows (k + 1 + i) 0 + 1) * width ≤ first + length links = group.cut.inside (k + 1 + i) n in
        subst (λ (x : ℕ). (x + 1) * width ≤ row * width + length right) (sym a) (omega (arith, at, m, counts)));
  }

  pub front_group : IsGroup plane first_row left front
  front_group = record {
    fits = omega (arith, group.fits, counts);
    small = group.small;
    cut = front_rows;
    forest = record { earlier = left_kept };
    apart = record {
      apart = λ i p q l link some across. whole_apart.apart i p q (let n = (front_at i l).0 in omega arith)
          (record { within = part_left first left right p link.within; link = link_left first left right p link.within ∙ link.link }) some
          (subst (λ (x : ℕ). IsAcross width x p q) (front_at i l).1 across);
    };
  }

  pub back_group : IsGroup plane row right back
  back_group = record {
    fits = omega (arith, group.fits, counts, at);
    small = group.small;
    cut = back_rows;
    forest = subst (λ (n : ℕ). IsForest values n right) at (record { earlier = right_kept });
    apart = subst (λ (n : ℕ). AreApart width n right back) at (record {
      apart = λ i p q l link some across. whole_apart.apart (k + 1 + i) p q (back_at i l).0
          (record { within = part_right first left right p link.within; link = link_right first left right p link.within ∙ link.link }) some
          (subst (λ (x : ℕ). IsAcross width x p q) (back_at i l).1 across);
    });
  }

  module _ (above below : List ℕ) (above_is : IsGroupJoined plane connect first_row front left above)
      (below_is : IsGroupJoined plane connect row back right below) where
    base : first + length above ≡ row * width
    base = let e = above_is.same_length in omega (arith, at)

    below_forest : IsForest values (first + length above) below
    below_forest = subst (λ (n : ℕ). IsForest values n below) (sym base) below_is.forest

    right_forest : IsForest values (first + length left) right
    right_forest = record { earlier = right_kept }

    old_small : first + (length left + length right) ≤ no_node
    old_small = omega (arith, group.fits, group.small, counts)

    new_small : first + (length above + length below) ≤ no_node
    new_small = let a = above_is.same_length in let b = below_is.same_length in omega (arith, old_small)

    -- the two halves side by side
    pub halves_forest : IsForest values first (above ++ below)
    halves_forest = forest_groups values first above below new_small above_is.forest below_forest

    pub halves_length : length (above ++ below) ≡ length links
    halves_length = let a = above_is.same_length in let b = below_is.same_length in omega (arith, counts, length-append above below)

    pub halves_fit : first_row * width + length (above ++ below) ≤ length values
    halves_fit = omega (arith, halves_length, group.fits)

    pub halves_reach : (row + 1) * width ≤ first_row * width + length (above ++ below)
    halves_reach = omega (arith, halves_length, group.cut.inside k near)

    abbrev Left : ℕ → ℕ → Type 0
    Left = IsLink first left

    abbrev Right : ℕ → ℕ → Type 0
    Right = IsLink (row * width) right

    abbrev Front : ℕ → ℕ → Type 0
    Front = IsRowsPair values width connect front

    abbrev Back : ℕ → ℕ → Type 0
    Back = IsRowsPair values width connect back

    abbrev All : ℕ → ℕ → Type 0
    All = IsRowsPair values width connect rows

    pos : 0 < width
    pos = plane.shape.within_limits.some_columns

    front_within : (x y : ℕ) → LiesInStretch first (length (above ++ below)) x → LiesInStretch first (length (above ++ below)) y → Or Left Front x y
        → LiesInStretch first (length above) x × LiesInStretch first (length above) y
    front_within x y wx wy (inl l) = subst (λ (n : ℕ). LiesInStretch first n x × LiesInStretch first n y) (sym above_is.same_length)
        (link_inside values first above below new_small above_is.forest below_forest first left front_group.forest x y wy l)
    front_within x y wx wy (inr p) = subst (λ (n : ℕ). LiesInStretch first n x × LiesInStretch first n y) (sym above_is.same_length)
        (pair_within values width connect first_row (length left) front pos front_rows x y p)

    back_within : (x y : ℕ) → LiesInStretch first (length (above ++ below)) x → LiesInStretch first (length (above ++ below)) y → Or Right Back x y
        → LiesInStretch (row * width) (length below) x × LiesInStretch (row * width) (length below) y
    back_within x y wx wy (inl l) = subst (λ (n : ℕ). LiesInStretch (row * width) n x × LiesInStretch (row * width) n y) (sym below_is.same_length)
        (link_inside values first above below new_small above_is.forest below_forest (row * width) right back_group.forest x y wy l)
    back_within x y wx wy (inr p) = subst (λ (n : ℕ). LiesInStretch (row * width) n x × LiesInStretch (row * width) n y) (sym below_is.same_length)
        (pair_within values width connect row (length right) back pos back_rows x y p)

    above_same : JoinSame values first (length above) (IsLink first above) (Or Left Front)
    above_same = subst (λ (n : ℕ). JoinSame values first n (IsLink first above) (Or Left Front)) (sym above_is.same_length) above_is.joins

    below_same : JoinSame values (first + length above) (length below) (IsLink (first + length above) below) (Or Right Back)
    below_same = subst (λ (n : ℕ). JoinSame values n (length below) (IsLink n below) (Or Right Back)) (sym base)
        (subst (λ (n : ℕ). JoinSame values (row * width) n (IsLink (row * width) below) (Or Right Back)) (sym below_is.same_length) below_is.joins)

    halves_same : JoinSame values first (length links) (IsLink first (above ++ below)) (Or (Or Left Front) (Or Right Back))
    halves_same = subst (λ (n : ℕ). JoinSame values first n (IsLink first (above ++ below)) (Or (Or Left Front) (Or Right Back))) halves_length
        (groups_same values first above below new_small above_is.forest below_forest (Or Left Front) (Or Right Back) front_within
        (λ x y wx wy e. subst (λ (n : ℕ). LiesInStretch n (length below) x × LiesInStretch n (length below) y) (sym base) (back_within x y wx wy e))
        above_same below_same)

    links_same : JoinSame values first (length links) (IsLink first links) (Or Left Right)
    links_same = subst (λ (n : ℕ). JoinSame values first (length links) (IsLink first links) (Or Left (IsLink n right))) at
        (subst (λ (l : List ℕ). JoinSame values first (length l) (IsLink first l) (Or Left (IsLink (first + length left) right))) (sym is)
        (links_groups values first left right old_small front_group.forest right_forest))

    to_all : (x y : ℕ) → Or (Or (Or Left Front) (Or Right Back)) (IsBoundary values width connect row) x y → Or (Or Left Right) All x y
    to_all x y (inl (inl (inl l))) = inl (inl l)
    to_all x y (inl (inl (inr p))) = let i =
        front_at p.place p.inside in
        inr (record {
          place = p.place;
          inside = (let n = i.0 in omega arith);
          boundary =
              subst (λ (r : ℕ). IsBoundary values width connect r x y) i.1 p.boundary;
        })
    to_all x y (inl (inr (inl l))) = inl (inr l)
    to_all x y (inl (inr (inr p))) = let i =
        back_at p.place p.inside in
        inr (record { place = k + 1 + p.place; inside = i.0; boundary = subst (λ (r : ℕ). IsBoundary values width connect r x y) i.1 p.boundary })
    to_all x y (inr b) = inr (record { place = k; inside = near; boundary = b })

    from_all : (x y : ℕ) → Or (Or Left Right) All x y → Or (Or (Or Left Front) (Or Right Back)) (IsBoundary values width connect row) x y
    from_all x y (inl (inl l)) = inl (inl (inl l))
    from_all x y (inl (inr l)) = inl (inr (inl l))
    from_all x y (inr p) = let inside = p.inside in ⊎_elim
        (λ (l : p.place < k). let n = length-take k rows in let h : p.place < length front = omega arith in
        inl (inl (inr (record {
          place = p.place;
          inside = h;
          boundary =
              subst (λ (r : ℕ). IsBoundary values width connect r x y) (sym (front_at p.place h).1) p.boundary;
        }))))
        (λ (high : k ≤ p.place). ⊎_elim
        (λ (e : p.place ≡ k). inr (subst (λ (i : ℕ). IsBoundary values width connect (get_or rows i 0) x y) e p.boundary))
        (λ (ne : p.place ≡ k → ⊥). let i : ℕ = p.place - (k + 1) in let n = length-drop (k + 1) rows in let h : i < length back =
        omega arith in let e : k + 1 + i ≡ p.place = omega arith in
        inl (inr (inr (record {
          place = i;
          inside = h;
          boundary =
              subst (λ (r : ℕ). IsBoundary values width connect r x y) (sym ((back_at i h).1 ∙ ap (λ (j : ℕ). get_or rows j 0) e)) p.boundary;
        }))))
        (cases_eq p.place k))
        (cases_lt p.place k)

    -- and the middle boundary joined
    pub all_joined : (new : List ℕ) → length new ≡ length (above ++ below) → IsForest values first new
        → JoinSame values first (length (above ++ below)) (IsLink first new) (Or (IsLink first (above ++ below)) (IsBoundary values width connect row))
        → IsGroupJoined plane connect first_row rows links new
    all_joined new long forest joined = let n : ℕ = length links in let Both : ℕ → ℕ → Type 0 = IsLink first (above ++ below) in let Middle : ℕ → ℕ → Type 0 =
        IsBoundary values width connect row in
        let Halves : ℕ → ℕ → Type 0 = Or (Or Left Front) (Or Right Back) in record {
          same_length = long ∙ halves_length;
          forest = forest;
          joins = same_trans values first n (IsLink first new) (Or Both Middle) (Or (IsLink first links) All)
              (subst (λ (m : ℕ). JoinSame values first m (IsLink first new) (Or Both Middle)) halves_length joined)
              (same_trans values first n (Or Both Middle) (Or Halves Middle) (Or (IsLink first links) All)
              (same_or values first n Both Halves Middle halves_same)
              (same_trans values first n (Or Halves Middle) (Or (Or Left Right) All) (Or (IsLink first links) All)
              (same_pairs values first n (Or Halves Middle) (Or (Or Left Right) All) to_all from_all)
              (same_or values first n (Or Left Right) (IsLink first links) All (same_sym values first n (IsLink first links) (Or Left Right) links_same))));
        }
