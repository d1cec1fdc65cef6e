-- The links of strips, one after the other, stand for the adjacencies within the strips.
use Rattle.std.proofs.Common.{◌≡◌, ℕ, zero, suc, ◌+◌, ◌-◌, ◌*◌, ◌/◌, ◌<◌, ◌≤◌, ◌≢◌, ◌⊎◌, List, [], ◌∷◌, ◌++◌, length, get_or, Option, ℤ, true}
use Rattle.std.proofs.Common.{sym, refl, ap, ◌∙◌, subst, inl, inr, ⊎_elim, arith, length-append, zero-mul, add-mul, mul_comm, mul-le-mul_right, is_some, None}
use Rattle.std.proofs.Math.Nat.{div-lt_iff_lt-mul, le-div_iff_mul-le}
use Rattle.std.proofs.lemmas.Bool.{cases_eq, cases_lt, and_parts}
use Rattle.comp_tree.specs.Limits.{most_pixels}
use Rattle.comp_tree.specs.declared.shape.Connect.{Connect}
use Rattle.comp_tree.specs.declared.shape.Shape.{Shape}
use Rattle.comp_tree.specs.Joined.{Or}
use Rattle.comp_tree.specs.Forest.{no_node, value_at, LiesInStretch, IsLink, IsForest, StandsFor, JoinSame}
use Rattle.comp_tree.specs.Grid.{are_adjacent, IsAdjacency, IsInner}
use Rattle.tree_join.specs.Groups.{HasPairsWithin}
use Rattle.tree_join.specs.Cuts.{IsCut}
use Rattle.tree_join.specs.Strips.{IsRowOf, IsStripPair, IsCutBoundary}
use Rattle.comp_tree.proofs.Exported.{same_trans, same_or, same_pairs, stands_from, stands_gives}
use Rattle.tree_join.proofs.Exported.{forest_groups, groups_stand, cut_all}
use Rattle.strip_flood.specs.Jobs.{JobView, IsStanding, IsStandingWhereFlooded}
use Rattle.comp_tree.specs.Raster.{Raster, IsPlane}
use Rattle.strip_crew.specs.Run.{Plan, IsJobOf, row_at, plan_of}
use Rattle.strip_crew.specs.Copied.{AreCopied, IsPlan}
use Rattle.lemmas.proofs.Exported.{or_same}

past_or : {A : Type 0} (l : List A) (j : ℕ) (d : A) → length l ≤ j → get_or l j d ≡ d
past_or [] j d h = refl
past_or (x ∷ xs) zero d h = absurd (omega arith)
past_or (x ∷ xs) (suc j) d h = past_or xs j d (omega arith)

-- rows rise along a cut
rises_to : (height : ℕ) (cut : List ℕ) → IsCut height cut → (a d : ℕ) → a + d < length cut → get_or cut a 0 ≤ get_or cut (a + d) 0
rises_to height cut c a zero h = let e : a ≡ a + 0 = omega arith in let s : get_or cut a 0 ≡ get_or cut (a + 0) 0 =
    ap (λ (x : ℕ). get_or cut x 0) e in omega arith
rises_to height cut c a (suc d) h = let less = rises_to height cut c a d (omega arith) in let r = c.rises (a + d) (omega arith) in
    let e : a + d + 1 ≡ a + suc d = omega arith in let s : get_or cut (a + d + 1) 0 ≡ get_or cut (a + suc d) 0 = ap (λ (x : ℕ). get_or cut x 0) e in omega arith

-- what stands for E stands for F, where they have the same pairs
stands_pairs : (values : List (Option ℤ)) (first : ℕ) (links : List ℕ) (E F : ℕ → ℕ → Type 0) → IsForest values first links → first + length links ≤ no_node
    → ((x y : ℕ) → E x y → F x y) → ((x y : ℕ) → F x y → E x y) → StandsFor values first links E → StandsFor values first links F
stands_pairs values first links E F forest small there back s =
    stands_from values first links forest small F
    (same_trans values first (length links) (IsLink first links) E F (stands_gives values first links forest small E s)
    (same_pairs values first (length links) E F there back))

-- what a plane tells of its shape
pub plane_is : (plane : Raster) (shape : Shape) → shape ≡ plane.shape → length plane.values ≡ shape.width * shape.height → IsPlane plane
plane_is plane shape same pixels = subst (λ (s : Shape). length plane.values ≡ s.width * s.height) same pixels

pub plan_is : (plane : Raster) (connect : Connect) (cut : List ℕ) (shape : Shape) → shape ≡ plane.shape → length plane.values ≡ shape.width * shape.height
    → IsCut plane.shape.height cut → IsPlan (plan_of plane connect cut)
plan_is plane connect cut shape same pixels is_cut = record { plane = plane_is plane shape same pixels; cut = is_cut }

module _ (plan : Plan) (is_plan : IsPlan plan) where
  abbrev values : List (Option ℤ)
  values = plan.plane.values

  abbrev width : ℕ
  width = plan.plane.shape.width

  abbrev connect : Connect
  connect = plan.connect

  abbrev cut : List ℕ
  cut = plan.cut

  row_is : (i : ℕ) → i < length cut → row_at plan i ≡ get_or cut i 0
  row_is i h = or_same cut i plan.plane.shape.height 0 h

  row_top : (i : ℕ) → row_at plan i ≤ plan.plane.shape.height
  row_top i = ⊎_elim (λ (l : i < length cut). let b = is_plan.cut.below i l in let e = row_is i l in omega arith) (λ (l : length cut ≤ i). let e =
      past_or cut i plan.plane.shape.height l in omega arith) (cases_lt i (length cut))

  row_next : (i : ℕ) → i < length cut → row_at plan i < row_at plan (i + 1)
  row_next i h = ⊎_elim (λ (l : i + 1 < length cut). let r = is_plan.cut.rises i l in let e = row_is i h in let f = row_is (i + 1) l in omega arith)
      (λ (l : length cut ≤ i + 1). let e = past_or cut (i + 1) plan.plane.shape.height l in let b = is_plan.cut.below i h in let f =
      row_is i h in omega arith) (cases_lt (i + 1) (length cut))

  pub copied_none : AreCopied plan 0 []
  copied_none = record {
    count = (let e = row_is 0 is_plan.cut.some in let z : row_at plan 0 ≡ 0 = e ∙ is_plan.cut.first in sym (ap (λ (x : ℕ). x * width) z ∙ zero-mul width));
    forest = record { earlier = λ p w. absurd (let l = w.high in omega arith) };
    stands = record { joins = λ h p q hp hq. absurd (let l = hp.within.high in omega arith) };
  }

  -- a pixel's row and its place
  above : (p r : ℕ) → r * width ≤ p → r ≤ p / width
  above p r h = (le-div_iff_mul-le plan.plane.shape.within_limits.some_columns).1 h

  above_back : (p r : ℕ) → r ≤ p / width → r * width ≤ p
  above_back p r h = (le-div_iff_mul-le plan.plane.shape.within_limits.some_columns).0 h

  beneath : (p r : ℕ) → p < r * width → p / width < r
  beneath p r h = (div-lt_iff_lt-mul plan.plane.shape.within_limits.some_columns).1 h

  beneath_back : (p r : ℕ) → p / width < r → p < r * width
  beneath_back p r h = (div-lt_iff_lt-mul plan.plane.shape.within_limits.some_columns).0 h

  row_mono : (a b : ℕ) → a ≤ b → a * width ≤ b * width
  row_mono a b h = mul-le-mul_right width h

  top_small : (r : ℕ) → r ≤ plan.plane.shape.height → r * width ≤ most_pixels
  top_small r h = let a = row_mono r plan.plane.shape.height h in let b = mul_comm plan.plane.shape.height width in let e =
      plan.plane.shape.within_limits.few_pixels in omega arith

  -- an adjacent pixel lies in the plane
  defined_inside : (p : ℕ) → is_some (value_at values p) ≡ true → p < plan.plane.shape.height * width
  defined_inside p d = ⊎_elim (λ (l : p < length values). let e = is_plan.plane in let m = mul_comm plan.plane.shape.height width in omega arith)
      (λ (l : length values ≤ p). absurd (true_is_not (sym (ap is_some (past_or values p None l)) ∙ d))) (cases_lt p (length values))
    where
      true_is_not : is_some {T = ℤ} None ≡ true → ⊥
      true_is_not e = Rattle.std.proofs.Common.true≢false (sym e)

  -- strip i begins at or below the first row of a later one
  pub row_under : (s i : ℕ) → s < i → i < length cut → get_or cut (s + 1) 0 ≤ get_or cut i 0
  row_under s i h l = let d : ℕ = i - (s + 1) in let e : s + 1 + d ≡ i = omega arith in let r =
      rises_to plan.plane.shape.height cut is_plan.cut (s + 1) d (omega arith) in
      let f : get_or cut (s + 1 + d) 0 ≡ get_or cut i 0 = ap (λ (x : ℕ). get_or cut x 0) e in omega arith

  module _ (i : ℕ) (near : i < length cut) where
    abbrev from : ℕ
    from = row_at plan i

    abbrev to : ℕ
    to = row_at plan (i + 1)

    -- pixels of the strips below i
    pair_low : (p s : ℕ) → s < i → IsRowOf cut s (p / width) → LiesInStretch 0 (from * width) p
    pair_low p s h r = record {
      low = omega arith;
      high = (let e = row_is i near in let u = row_under s i h near in let b = r.high (omega arith) in let l : p / width < from = omega arith in let g =
          beneath_back p from l in omega arith);
    }

    -- pixels of strip i
    to_row : (p : ℕ) → from * width ≤ p → p < to * width → IsRowOf cut i (p / width)
    to_row p low high = record {
      inside = near;
      low = (let e = row_is i near in let a = above p from low in omega arith);
      high = λ l. (let e = row_is (i + 1) l in let b = beneath p to high in omega arith);
    }

    row_low : (p : ℕ) → IsRowOf cut i (p / width) → from * width ≤ p
    row_low p r = above_back p from (let e = row_is i near in let a = r.low in omega arith)

    row_high : (p : ℕ) → is_some (value_at values p) ≡ true → IsRowOf cut i (p / width) → p < to * width
    row_high p d r = ⊎_elim (λ (l : i + 1 < length cut). beneath_back p to (let e = row_is (i + 1) l in let b = r.high l in omega arith))
        (λ (l : length cut ≤ i + 1). let e = past_or cut (i + 1) plan.plane.shape.height l in let h =
        defined_inside p d in let f : to * width ≡ plan.plane.shape.height * width = ap (λ (x : ℕ). x * width) e in omega arith)
        (cases_lt (i + 1) (length cut))

    abbrev New : ℕ → ℕ → Type 0
    New = IsInner values width connect (from * width) ((to - from) * width)

    span : from * width + (to - from) * width ≡ to * width
    span = let h = row_next i near in let e : from + (to - from) ≡ to = omega arith in sym (add-mul from (to - from) width) ∙ ap (λ (x : ℕ). x * width) e

    one_defined : (p q : ℕ) → are_adjacent values width connect p q ≡ true → is_some (value_at values p) ≡ true
    one_defined p q a = (and_parts _ _ (and_parts _ _ a).0).0

    other_defined : (p q : ℕ) → are_adjacent values width connect p q ≡ true → is_some (value_at values q) ≡ true
    other_defined p q a = (and_parts _ _ (and_parts _ _ a).0).1

    there : (p q : ℕ) → Or (IsStripPair values width connect cut i) New p q → IsStripPair values width connect cut (i + 1) p q
    there p q (inl e) = record { adjacent = e.adjacent; strip = e.strip; low = (let l = e.low in omega arith); one = e.one; other = e.other }
    there p q (inr e) = record {
      adjacent = e.adjacent;
      strip = i;
      low = omega arith;
      one = to_row p e.one.low (let l = e.one.high in let s = span in omega arith);
      other = to_row q e.other.low (let l = e.other.high in let s = span in omega arith);
    }

    back : (p q : ℕ) → IsStripPair values width connect cut (i + 1) p q → Or (IsStripPair values width connect cut i) New p q
    back p q e = ⊎_elim
        (λ (same : e.strip ≡ i). inr (let one = subst (λ (x : ℕ). IsRowOf cut x (p / width)) same e.one in let other =
        subst (λ (x : ℕ). IsRowOf cut x (q / width)) same e.other in record {
          adjacent = e.adjacent;
          one = record { low = row_low p one; high = (let h = row_high p (one_defined p q e.adjacent) one in let s = span in omega arith) };
          other = record { low = row_low q other; high = (let h = row_high q (other_defined p q e.adjacent) other in let s = span in omega arith) };
        }))
        (λ (ne : e.strip ≡ i → ⊥). inl (record { adjacent = e.adjacent; strip = e.strip; low = (let l = e.low in omega arith); one = e.one; other = e.other }))
        (cases_eq e.strip i)

    joins_strip : (links more : List ℕ) → AreCopied plan i links → length more ≡ (to - from) * width → IsForest values (from * width) more
        → StandsFor values (from * width) more New → AreCopied plan (i + 1) (links ++ more)
    joins_strip links more copied count forest stands =
        let at : 0 + length links ≡ from * width = (let c = copied.count in omega arith) in
        let small : 0 + (length links + length more) ≤ no_node =
        (let c = copied.count in let s = span in let b = top_small to (row_top (i + 1)) in omega arith) in
        let forest' : IsForest values (0 + length links) more = subst (λ (x : ℕ). IsForest values x more) (sym at) forest in
        let stands' : StandsFor values (0 + length links) more New = subst (λ (x : ℕ). StandsFor values x more New) (sym at) stands in
        let both = forest_groups values 0 links more small copied.forest forest' in
        let old_inside : HasPairsWithin 0 (length links) (IsStripPair values width connect cut i) = record {
          one = λ p q e. subst (λ (x : ℕ). LiesInStretch 0 x p) (sym copied.count) (pair_low p e.strip e.low e.one);
          other = λ p q e. subst (λ (x : ℕ). LiesInStretch 0 x q) (sym copied.count) (pair_low q e.strip e.low e.other);
        } in
        let new_inside : HasPairsWithin (0 + length links) (length more) New = record {
          one = λ p q e. record { low = (let l = e.one.low in omega arith); high = (let l = e.one.high in omega arith) };
          other = λ p q e. record { low = (let l = e.other.low in omega arith); high = (let l = e.other.high in omega arith) };
        } in
        let all = groups_stand values 0 links more small copied.forest forest'
        (IsStripPair values width connect cut i) New old_inside new_inside copied.stands stands' in
        record {
          count = omega (arith, length-append links more, copied.count, span);
          forest = both;
          stands = stands_pairs values 0 (links ++ more) (Or (IsStripPair values width connect cut i) New) (IsStripPair values width connect cut (i + 1)) both
              (omega (arith, length-append links more)) there back all;
        }

    -- what a flooded job says, at the plan's own words
    rows_are : (job : JobView) → IsJobOf plan i job → length job.links ≡ length job.values → length job.links ≡ (to - from) * width
    rows_are job its count =
        let first : job.first_row ≡ from = its.first_row ∙ sym (row_is i near) in
        count ∙ (its.fit.count ∙ (ap (λ (x : ℕ). (x - job.first_row) * job.width) its.end_row
        ∙ (ap (λ (x : ℕ). (to - x) * job.width) first ∙ ap (λ (x : ℕ). (to - from) * x) (sym its.fit.width))))

    pub copied_more : (links : List ℕ) (job : JobView) → AreCopied plan i links → IsJobOf plan i job → job.flooded ≡ true
        → length job.links ≡ length job.values → IsStandingWhereFlooded job
        → AreCopied plan (i + 1) (links ++ job.links)
    copied_more links job copied its flooded count standing =
        let first : job.first_row ≡ from = its.first_row ∙ sym (row_is i near) in
        let w : job.width ≡ width = sym its.fit.width in
        let G : ℕ → Connect → ℕ → Type 0 = λ x d f. IsForest values (f * x) job.links
        × StandsFor values (f * x) job.links (IsInner values x d (f * x) (length job.links)) in
        let stands : IsStanding job plan.plane = standing.standing flooded plan.plane its.fit in
        let g : G job.width job.connect job.first_row = (stands.forest, stands.stands) in
        let g' : G width connect from =
        subst (λ (x : ℕ). G x connect from) w (subst (λ (d : Connect). G job.width d from) its.connect
        (subst (λ (f : ℕ). G job.width job.connect f) first g)) in
        let n = rows_are job its count in
        joins_strip links job.links copied n g'.0
        (subst (λ (x : ℕ). StandsFor values (from * width) job.links (IsInner values width connect (from * width) x)) n g'.1)

    pub copied_room : (links : List ℕ) (job : JobView) → AreCopied plan i links → IsJobOf plan i job → length job.links ≡ length job.values
        → length links + length job.links ≤ length values
    copied_room links job copied its count =
        let n = rows_are job its count in
        let c = copied.count in let s = span in let b = row_mono to plan.plane.shape.height (row_top (i + 1)) in let m =
        mul_comm plan.plane.shape.height width in let e = is_plan.plane in omega arith

  -- the links of all strips are those of all pixels
  pub copied_all : (links : List ℕ) → AreCopied plan (length cut) links → length links ≡ length values
  copied_all links copied =
      let top : row_at plan (length cut) ≡ plan.plane.shape.height = past_or cut (length cut) plan.plane.shape.height (omega arith) in
      copied.count ∙ (ap (λ (x : ℕ). x * width) top ∙ (mul_comm plan.plane.shape.height width ∙ sym is_plan.plane))

  -- the links of all strips, whose boundaries are then joined, stand for all adjacencies
  pub all_stand : (links new : List ℕ) → AreCopied plan (length cut) links → IsForest values 0 new → length new ≡ length links
      → JoinSame values 0 (length links) (IsLink 0 new) (Or (IsLink 0 links) (IsCutBoundary values width connect cut (length cut)))
      → StandsFor values 0 new (IsAdjacency values width connect)
  all_stand links new copied forest long joined =
      let top : row_at plan (length cut) ≡ plan.plane.shape.height = past_or cut (length cut) plan.plane.shape.height (omega arith) in
      let small : length links ≤ most_pixels = (let c = copied.count in let b = top_small (row_at plan (length cut)) (row_top (length cut)) in omega arith) in
      let n : ℕ = length links in
      let B : ℕ → ℕ → Type 0 = IsCutBoundary values width connect cut (length cut) in
      let S : ℕ → ℕ → Type 0 = IsStripPair values width connect cut (length cut) in
      let strips : JoinSame values 0 n (IsLink 0 links) S = stands_gives values 0 links copied.forest (omega arith) S copied.stands in
      let all : JoinSame values 0 n (IsLink 0 new) (IsAdjacency values width connect) =
      same_trans values 0 n (IsLink 0 new) (Or (IsLink 0 links) B) (IsAdjacency values width connect) joined
      (same_trans values 0 n (Or (IsLink 0 links) B) (Or S B) (IsAdjacency values width connect) (same_or values 0 n (IsLink 0 links) S B strips)
      (cut_all values width connect plan.plane.shape.height cut is_plan.cut n)) in
      stands_from values 0 new forest (omega arith) (IsAdjacency values width connect)
      (subst (λ (x : ℕ). JoinSame values 0 x (IsLink 0 new) (IsAdjacency values width connect)) (sym long) all)
