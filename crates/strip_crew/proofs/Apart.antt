-- The strips of a cut before they are joined: no link leads from one to another.
use Rattle.std.proofs.Common.{◌≡◌, ◌≢◌, ℕ, ◌+◌, ◌-◌, ◌*◌, ◌/◌, ◌<◌, ◌≤◌, List, length, get_or, drop, Option, Some, None, ℤ, true≢false, sym, ap, ◌∙◌, subst}
use Rattle.std.proofs.Common.{inl, inr, ⊎_elim, arith, zero-mul}
use Rattle.std.proofs.Math.Nat.{div-lt_iff_lt-mul}
use Rattle.std.proofs.lemmas.Bool.{cases_eq, cases_lt}
use Rattle.std.proofs.lemmas.Grind.{get_or_after_one}
use Rattle.std.proofs.lemmas.Int.{ints}
use Rattle.std.proofs.lemmas.List.{length-drop}
use Rattle.comp_tree.specs.Raster.{ReachesLevel, ComesBefore, value_at}
use Rattle.comp_tree.specs.Joined.{IsPairOf, Joined, Or}
use Rattle.comp_tree.specs.Forest.{no_node, link_of, LiesInStretch, IsHigh, IsLink, ComesEarlier, IsForest, StandsFor, JoinSame}
use Rattle.comp_tree.specs.Grid.{IsAdjacency}
use Rattle.tree_join.specs.Boundary.{IsBoundary}
use Rattle.tree_join.specs.Strips.{IsRowOf, IsStripPair, IsCutBoundary}
use Rattle.strip_crew.specs.Run.{Plan}
use Rattle.strip_crew.specs.Copied.{AreCopied, IsPlan}
use Rattle.strip_crew.specs.Boundaries.{IsAcross, AreRows, AreApart, IsRowsPair}
use Rattle.comp_tree.proofs.Exported.{along_joined, joined_pair, joined_sym, int_le-from, at_least_up, same_trans, same_pairs, stands_gives}
use Rattle.tree_join.proofs.Exported.{strip_inside, strip_low}
use Rattle.strip_crew.proofs.Copying.{row_under, copied_all, all_stand}

-- a level that both pixels of a link reach
common_level : (v w : Option ℤ) (a b : ℕ) → ComesBefore v a w b → (h : ℤ) × (ReachesLevel h v × ReachesLevel h w)
common_level (Some h) w a b e = let itself : ReachesLevel h (Some h) = int_le-from h h (omega (arith, ints)) in
    (h, (itself, at_least_up h (Some h) w a b e itself))
common_level None w a b e = absurd (true≢false (sym e))

module _ (plan : Plan) (is_plan : IsPlan plan) where
  abbrev values : List (Option ℤ)
  values = plan.plane.values

  abbrev width : ℕ
  width = plan.plane.shape.width

  abbrev cut : List ℕ
  cut = plan.cut

  -- the first rows of all strips but the first
  abbrev later : List ℕ
  later = drop 1 cut

  later_at : (i : ℕ) → i < length later → (1 + i < length cut) × (get_or later i 0 ≡ get_or cut (1 + i) 0)
  later_at i h = let n : length later ≡ length cut - 1 = length-drop 1 cut in (omega arith, get_or_after_one cut i 0)

  climbs : (i j : ℕ) → i < j → j < length cut → get_or cut i 0 < get_or cut j 0
  climbs i j h l = let a = is_plan.cut.rises i (omega arith) in let b = row_under plan is_plan i j h l in omega arith

  -- two pixels of one strip lie on one side of each first row
  beside : (s i p q : ℕ) → i < length cut → IsRowOf cut s (p / width) → IsRowOf cut s (q / width) → p < get_or cut i 0 * width → q < get_or cut i 0 * width
  beside s i p q l one other low = let pos : 0 < width = plan.plane.shape.within_limits.some_columns in ⊎_elim
      (λ (e : s < i). let u = row_under plan is_plan s i e l in let top = other.high (omega arith) in (div-lt_iff_lt-mul pos).0 (omega arith))
      (λ (e : i ≤ s). absurd (
      let inside = one.inside in let bottom = one.low in
      let high : p / width < get_or cut i 0 = (div-lt_iff_lt-mul pos).1 low in
      ⊎_elim
      (λ (same : i ≡ s). let r : get_or cut i 0 ≡ get_or cut s 0 = ap (λ (x : ℕ). get_or cut x 0) same in omega arith)
      (λ (ne : i ≡ s → ⊥). let r = climbs i s (omega arith) inside in omega arith)
      (cases_eq i s)))
      (cases_lt s i)

  module _ (links : List ℕ) (copied : AreCopied plan (length cut) links) where
    abbrev Pairs : ℕ → ℕ → Type 0
    Pairs = IsStripPair values width plan.connect cut (length cut)

    small : 0 + length links ≤ no_node
    small = let n = copied_all plan is_plan links copied in let m = is_plan.plane in let few = plan.plane.shape.within_limits.few_pixels in omega arith

    stays : (h : ℤ) (i p q : ℕ) → i < length cut → Joined (IsHigh values 0 (length links) h) Pairs p q → p < get_or cut i 0 * width → q < get_or cut i 0 * width
    stays h i p q l joined low = along_joined (λ (x : ℕ). x < get_or cut i 0 * width) step joined low where
      step : (a b : ℕ) → a < get_or cut i 0 * width → IsHigh values 0 (length links) h a → IsPairOf Pairs a b → IsHigh values 0 (length links) h b
          → b < get_or cut i 0 * width
      step a b under ha (inl e) hb = beside e.strip i a b l e.one e.other under
      step a b under ha (inr e) hb = beside e.strip i a b l e.other e.one under

    linked : (p q : ℕ) → IsLink 0 links p q → q ≢ no_node → (h : ℤ) × Joined (IsHigh values 0 (length links) h) Pairs p q
    linked p q link some = ⊎_elim
        (λ (none : link_of 0 links p ≡ no_node). absurd (some (sym link.link ∙ none)))
        (λ (kept : LiesInStretch 0 (length links) (link_of 0 links p) × ComesEarlier values (link_of 0 links p) p).
        let s : LiesInStretch 0 (length links) q × ComesEarlier values q p =
        subst (λ (x : ℕ). LiesInStretch 0 (length links) x × ComesEarlier values x p) link.link kept in
        let level = common_level (value_at values q) (value_at values p) q p s.1 in (
          level.0,
          ((stands_gives values 0 links copied.forest small Pairs copied.stands).same level.0 p q).0
              (joined_pair p q (record { within = link.within; value = level.1.1 }) (record { within = s.0; value = level.1.0 }) (inl link)),
        ))
        (copied.forest.earlier p link.within)

    apart : (i p q : ℕ) → i < length cut → IsLink 0 links p q → q ≢ no_node → IsAcross width (get_or cut i 0) p q → ⊥
    apart i p q l link some (inl across) = let path = linked p q link some in let under = stays path.0 i p q l path.1 across.0 in let over =
        across.1 in omega arith
    apart i p q l link some (inr across) = let path = linked p q link some in let under = stays path.0 i q p l (joined_sym path.1) across.0 in let over =
        across.1 in omega arith

    pub cut_apart : AreApart width (0 * width) links later
    cut_apart = subst (λ (n : ℕ). AreApart width n links later) (sym (zero-mul width)) (record {
      apart = λ i p q l link some across. apart (1 + i) p q (later_at i l).0 link some (subst (λ (r : ℕ). IsAcross width r p q) (later_at i l).1 across);
    })

    pub cut_rows : AreRows width 0 (length links) later
    cut_rows = record {
      rises = λ i j h l. (let a = (later_at i (omega arith)).1 in let b = later_at j l in let c = climbs (1 + i) (1 + j) (omega arith) b.0 in let d =
          b.1 in omega arith);
      low = λ i l. (let a = later_at i l in let c = strip_low plan.plane.shape.height cut (1 + i) is_plan.cut (omega arith) a.0 in let d = a.1 in omega arith);
      inside = λ i l. (let a = later_at i l in subst (λ (r : ℕ). (r + 1) * width ≤ 0 * width + length links) (sym a.1)
          (strip_inside plan.plane.shape.height width (get_or cut (1 + i) 0) (length links) (length values) (is_plan.cut.below (1 + i) a.0) is_plan.plane
          (copied_all plan is_plan links copied)));
    }

    -- once they are joined at all these rows
    pub cut_stands : (new : List ℕ) → length new ≡ length links → IsForest values (0 * width) new
        → JoinSame values (0 * width) (length links) (IsLink (0 * width) new) (Or (IsLink (0 * width) links) (IsRowsPair values width plan.connect later))
        → StandsFor values 0 new (IsAdjacency values width plan.connect)
    cut_stands new long forest joined = all_stand plan is_plan links new copied (subst (λ (n : ℕ). IsForest values n new) (zero-mul width) forest) long
        (same_trans values 0 (length links) (IsLink 0 new) (Or (IsLink 0 links) Later) (Or (IsLink 0 links) Bounds)
        (subst (λ (n : ℕ). JoinSame values n (length links) (IsLink n new) (Or (IsLink n links) Later)) (zero-mul width) joined)
        (same_pairs values 0 (length links) (Or (IsLink 0 links) Later) (Or (IsLink 0 links) Bounds) there back)) where
          Later : ℕ → ℕ → Type 0
          Later = IsRowsPair values width plan.connect later

          Bounds : ℕ → ℕ → Type 0
          Bounds = IsCutBoundary values width plan.connect cut (length cut)

          there : (x y : ℕ) → Or (IsLink 0 links) Later x y → Or (IsLink 0 links) Bounds x y
          there x y (inl l) = inl l
          there x y (inr b) = let at = later_at b.place b.inside in
              inr (record {
                strip = 1 + b.place;
                low = omega arith;
                high = at.0;
                boundary =
                    subst (λ (r : ℕ). IsBoundary values width plan.connect r x y) at.1 b.boundary;
              })

          back : (x y : ℕ) → Or (IsLink 0 links) Bounds x y → Or (IsLink 0 links) Later x y
          back x y (inl l) = inl l
          back x y (inr b) = let low = b.low in let high = b.high in let n : length later ≡ length cut - 1 = length-drop 1 cut in let i : ℕ =
              b.strip - 1 in let l : i < length later = omega arith in let e : b.strip ≡ 1 + i = omega arith in
              inr (record {
                place = i;
                inside = l;
                boundary =
                    subst (λ (r : ℕ). IsBoundary values width plan.connect r x y) (ap (λ (s : ℕ). get_or cut s 0) e ∙ sym (later_at i l).1) b.boundary;
              })
