-- A strip's job, before and after it is flooded.
use Rattle.std.proofs.Common.{◌≡◌, ℕ, zero, suc, ◌+◌, ◌-◌, ◌*◌, ◌%◌, ◌<◌, ◌≤◌, Bool, true, false, is_some, List, [], ◌∷◌, length, replicate, get_or}
use Rattle.std.proofs.Common.{slice_index, Option, Some, None, ℤ, pos, ◌≤ℤ◌, ◌<ℤ◌, inl, inr, refl, sym, subst, subst₂, ap, ◌∙◌, ⊎_elim, arith}
use Rattle.std.proofs.Common.{mul-le-mul_right}
use Rattle.std.specs.Prelude.{nat_lt, ◌&&◌}
use Rattle.std.specs.List.{slice_get}
use Rattle.std.proofs.lemmas.Int.{ints}
use Rattle.std.proofs.lemmas.Nat.{mod-mul-add}
use Rattle.std.proofs.lemmas.Bool.{cases_eq, cases_lt, and_parts, false_from_ne_true, true≢false}
use Rattle.std.proofs.lemmas.List.{get_or-map, length-map, length-replicate, get_or-append_right}
use Rattle.std.proofs.lemmas.Option.{slice_get_past, slice_get-get_or}
use Rattle.std.specs.declared.alloc.Global.{Global}
use Rattle.std.specs.declared.vec.Vec.{Vec}
use Rattle.comp_tree.specs.declared.shape.Connect.{Connect}
use Rattle.comp_tree.specs.Forest.{no_node, value_at, ReachesLevel, ComesBefore, LiesInStretch, link_of, IsForest, StandsFor}
use Rattle.comp_tree.specs.Defined.{HasValue}
use Rattle.comp_tree.specs.Limits.{most_pixels, IsWithinLimits}
use Rattle.comp_tree.specs.Raster.{Raster}
use Rattle.comp_tree.specs.Counts.{count_below, sum_below, count_defined}
use Rattle.comp_tree.specs.Grid.{are_adjacent, are_neighbours, IsInner}
use Rattle.comp_tree.proofs.Exported.{Agree, before_is, int_le-true, int_le-from, stands_inner_agree, forest_agree}
use Rattle.strip_flood.specs.declared.strip.Strip.{Strip}
use Rattle.strip_flood.specs.declared.flood.Flood.{Flood}
use Rattle.strip_flood.specs.Flood.{Ground, as_ground, list_at, direction, IsOf, rank_of, cursor_of, IsInQueue, IsEarliestKept, IsOpen, IsRanked, IsFair}
use Rattle.strip_flood.specs.Flood.{IsTurning, HasOffsets, seen_count, looks_from, looks}
use Rattle.strip_flood.specs.Jobs.{inner_count}
use Rattle.strip_flood.specs.Jobs.{SuitsStrip, IsStanding}
use Rattle.strip_flood.specs.JobFields.{view_of, HasJobFields}
use Rattle.strip_flood.specs.Ranking.{IsRising, AreRanks}
use Rattle.strip_flood.specs.Strips.{ranked_values, plane_values, values_of, ground_of, state_of, IsStrip, IsBetweenTurns, IsFresh}
use Rattle.strip_flood.proofs.Stepping.{not_none}
use Rattle.strip_flood.proofs.Retiring.{contains_some}
use Rattle.strip_flood.proofs.Counting.{le_false, true_lt, count_same, sum_same}

module _ (levels : List ℤ) (rising : IsRising levels) where
  level : ℕ → ℤ
  level r = get_or levels r (pos 0)

  level_there : (r : ℕ) → r < length levels → slice_get levels r ≡ Some (get_or levels r (pos 0))
  level_there r l = slice_get-get_or levels r (pos 0) l

  pub level_defined : (r : ℕ) → r < length levels → HasValue (slice_get levels r)
  level_defined r l = subst HasValue (sym (level_there r l)) refl

  pub defined_level : (r : ℕ) → HasValue (slice_get levels r) → r < length levels
  defined_level r d =
      ⊎_elim (λ (l : r < length levels). l) (λ (m : length levels ≤ r). absurd (true≢false (sym (subst HasValue (slice_get_past levels r m) d))))
      (cases_lt r (length levels))

  pub level_less : (r t p q : ℕ) → r < t → t < length levels → ComesBefore (slice_get levels r) p (slice_get levels t) q
  level_less r t p q l h = subst₂ (λ v w. ComesBefore v p w q) (sym (level_there r (omega arith))) (sym (level_there t h))
      (before_is (Some (get_or levels r (pos 0))) (Some (get_or levels t (pos 0))) p q (inl (rising.less r t l h)))

  pub level_same : (r t p q : ℕ) → r ≡ t → t < length levels → p < q → ComesBefore (slice_get levels r) p (slice_get levels t) q
  level_same r t p q e h l = subst (λ x. ComesBefore (slice_get levels x) p (slice_get levels t) q) (sym e)
      (subst (λ v. ComesBefore v p v q) (sym (level_there t h))
      (before_is (Some (get_or levels t (pos 0))) (Some (get_or levels t (pos 0))) p q (inr (refl, l))))

  at_least_less : (h a b : ℤ) → a <ℤ b → ReachesLevel h (Some a) → ReachesLevel h (Some b)
  at_least_less h a b l m = let k : h ≤ℤ a = int_le-true h a m in int_le-from h b (omega (arith, ints))

  pub level_up : (h : ℤ) (r t : ℕ) → r ≤ t → t < length levels → ReachesLevel h (slice_get levels r) → ReachesLevel h (slice_get levels t)
  level_up h r t l m a = ⊎_elim
      (λ (e : r ≡ t). subst (λ x. ReachesLevel h (slice_get levels x)) e a)
      (λ (ne : r ≡ t → ⊥). let lt : r < t = omega arith in let lr : r < length levels = omega arith in
      subst (ReachesLevel h) (sym (level_there t m))
      (at_least_less h (get_or levels r (pos 0)) (get_or levels t (pos 0)) (rising.less r t lt m) (subst (ReachesLevel h) (level_there r lr) a)))
      (cases_eq r t)

-- the job's ranks tell the order of the plane's values in the strip
module _ (values : List (Option ℤ)) (width : ℕ) (connect : Connect) (first : ℕ) (ranks : List ℕ) (levels : List ℤ) (pos_width : 0 < width)
    (small : first + length ranks ≤ no_node) (rising : IsRising levels)
    (same : (i : ℕ) → i < length (ranked_values levels ranks) → value_at values (first + i) ≡ get_or (ranked_values levels ranks) i None) where
  value_is : (p : ℕ) → LiesInStretch first (length ranks) p → value_at values p ≡ slice_get levels (get_or ranks (p - first) 0)
  value_is p w = let a : first ≤ p = w.low in let b : p < first + length ranks = w.high in let at : first + (p - first) ≡ p = omega arith in
      let l : p - first < length ranks = omega arith in
      let m : p - first < length (ranked_values levels ranks) = rw length-map l in
      subst (λ x. value_at values x ≡ get_or (ranked_values levels ranks) (p - first) None) at (same (p - first) m)
      ∙ get_or-map (λ r. slice_get levels r) ranks (p - first) 0 None l

  pub job_ranked : IsRanked (as_ground values width connect first ranks (length levels))
  job_ranked = record {
    wide = pos_width;
    small = small;
    there = λ p w d. defined_level levels rising (get_or ranks (p - first) 0) (subst HasValue (value_is p w) d);
    value = λ p w l. subst HasValue (sym (value_is p w)) (level_defined levels rising (get_or ranks (p - first) 0) l);
    up = λ h p q wp wq l m a. subst (ReachesLevel h) (sym (value_is q wq))
        (level_up levels rising h (get_or ranks (p - first) 0) (get_or ranks (q - first) 0) l m (subst (ReachesLevel h) (value_is p wp) a));
    less = λ p q wp wq l m. subst₂ (λ v w. ComesBefore v p w q) (sym (value_is p wp)) (sym (value_is q wq))
        (level_less levels rising (get_or ranks (p - first) 0) (get_or ranks (q - first) 0) p q l m);
    same = λ p q wp wq e m l. subst₂ (λ v w. ComesBefore v p w q) (sym (value_is p wp)) (sym (value_is q wq))
        (level_same levels rising (get_or ranks (p - first) 0) (get_or ranks (q - first) 0) p q e m l);
  }

-- before the first turn
module _ (strip : Strip) (known : IsStrip strip) (flood : Flood) (fresh : IsFresh (length strip.ranks.items) (length strip.levels.items) flood) where
  abbrev g : Ground
  g = ground_of strip

  abbrev ok : IsRanked g
  ok = known.ranked

  abbrev cursors : List ℕ
  cursors = flood.cursors.items

  abbrev earliest : List ℕ
  earliest = flood.earliest.items

  abbrev links : List ℕ
  links = flood.links.items

  unseen : (p : ℕ) → IsOf g p → cursor_of g cursors p ≡ 0
  unseen p w = fresh.unseen.each (p - g.first) (let a : g.first ≤ p = w.low in let b : p < g.first + length g.ranks =
      w.high in let l : length cursors ≡ length g.ranks = fresh.cursors_length in omega arith)

  unkept : (r : ℕ) → r < g.size → slice_index earliest r ≡ no_node
  unkept r l = fresh.unkept.each r (let e : length earliest ≡ g.size = fresh.earliest_length in omega arith)

  not_queued : (p : ℕ) → IsInQueue g cursors p → ⊥
  not_queued p q = let z : cursor_of g cursors p ≡ 0 = unseen p q.inside in let l : 0 < cursor_of g cursors p = q.low in omega arith

  not_kept : (p : ℕ) → IsEarliestKept g earliest p → ⊥
  not_kept p k = not_none g ok p k.inside (sym k.kept ∙ unkept (rank_of g p) k.ranked)

  not_open : (p : ℕ) → IsOpen g cursors earliest p → ⊥
  not_open p (inl q) = not_queued p q
  not_open p (inr k) = not_kept p k

  -- the link read with the default no_node
  get_or_all : (xs : List ℕ) (i x : ℕ) → ((k : ℕ) → k < length xs → get_or xs k 0 ≡ x) → get_or xs i x ≡ x
  get_or_all [] i x f = refl
  get_or_all (y ∷ ys) zero x f = f 0 (omega arith)
  get_or_all (y ∷ ys) (suc i) x f = get_or_all ys i x (λ k l. f (suc k) (omega arith))

  unlinked : (p : ℕ) → link_of g.first links p ≡ no_node
  unlinked p = get_or_all links (p - g.first) no_node fresh.unlinked.each

  fresh_turning : IsTurning (ground_of strip) (state_of flood)
  fresh_turning = record { fair = fair; busy = λ r l some. absurd (some (unkept r l)) } where
    fair : IsFair (ground_of strip) (state_of flood)
    fair = record {
      cursors_length = fresh.cursors_length;
      links_length = fresh.links_length;
      earliest_length = fresh.earliest_length;
      lists_length = fresh.lists;
      listed = record { to = λ r i c. absurd (contains_some (list_at flood.queue.lists r) i c (fresh.empty.empty r)); from = λ p q. absurd (not_queued p q) };
      bound = λ p w. let z : cursor_of g cursors p ≡ 0 = unseen p w in omega arith;
      turning = λ p w l. let z : cursor_of g cursors p ≡ 0 = unseen p w in omega arith;
      seen = λ p w l. absurd (let z : cursor_of g cursors p ≡ 0 = unseen p w in omega arith);
      kept = λ r l some. absurd (some (unkept r l));
      free = λ p w o. unlinked p;
      forest = record { earlier = λ p w. inl (unlinked p) };
      joining = record {
        sound = λ h. record {
          links = λ x y hx hy l. absurd (not_none g ok y hy.within (sym l.link ∙ unlinked x));
          opens = λ x y hx hy ox oy. absurd (not_open x ox);
        };
        complete = λ h. record {
          looked = λ x y hx hy l. absurd (let z : cursor_of g cursors x ≡ 0 =
              unseen x hx.within in let t : direction g.connect g.width x y + 1 < cursor_of g cursors x = l.turned in omega arith);
        };
      };
    }

  pub fresh_between : IsBetweenTurns strip flood
  fresh_between = record { items = fresh.items; turning = fresh_turning }

  count_none : (t : ℕ → Bool) (n : ℕ) → ((i : ℕ) → i < n → t i ≡ false) → count_below t n ≡ 0
  count_none t zero f = refl
  count_none t (suc n) f = let a : count_below t n ≡ 0 = count_none t n (λ i l. f i (omega arith)) in let b : t n ≡ false = f n (omega arith) in rw (a, b)

  sum_none : (f : ℕ → ℕ) (n : ℕ) → ((i : ℕ) → i < n → f i ≡ 0) → sum_below f n ≡ 0
  sum_none f zero z = refl
  sum_none f (suc n) z = let a : sum_below f n ≡ 0 = sum_none f n (λ i l. z i (omega arith)) in let b : f n ≡ 0 = z n (omega arith) in rw (a, b)

  pub fresh_unseen : seen_count flood.cursors.items ≡ 0
  fresh_unseen = count_none (λ i. nat_lt 0 (slice_index cursors i)) (length cursors)
      (λ i l. le_false 0 (slice_index cursors i) (let z : slice_index cursors i ≡ 0 = fresh.unseen.each i l in omega arith))

  pub fresh_unlooked : looks (ground_of strip) flood.cursors.items ≡ 0
  fresh_unlooked = sum_none (λ i. count_below (looks_from g cursors i) (length g.ranks)) (length g.ranks)
      (λ i l. count_none (looks_from g cursors i) (length g.ranks) (λ j m. false_from_ne_true (looks_from g cursors i j) (λ t.
      let lt : direction g.connect g.width (g.first + i) (g.first + j) + 1 < slice_index cursors i =
      true_lt (direction g.connect g.width (g.first + i) (g.first + j) + 1) (slice_index cursors i)
      (and_parts (are_adjacent g.values g.width g.connect (g.first + i) (g.first + j))
      (nat_lt (direction g.connect g.width (g.first + i) (g.first + j) + 1) (slice_index cursors i)) t).1 in
      let z : slice_index cursors i ≡ 0 = fresh.unseen.each i (let e : length cursors ≡ length g.ranks = fresh.cursors_length in omega arith) in omega arith)))

-- ---- the strip's own values and the plane's

pub plane_at : (first : ℕ) (levels : List ℤ) (ranks : List ℕ) (i : ℕ)
    → value_at (plane_values first levels ranks) (first + i) ≡ get_or (ranked_values levels ranks) i None
unfolding plane_values
plane_at first levels ranks i = get_or-append_right (replicate first None) (ranked_values levels ranks) first (first + i) None
    (length-replicate first None) (omega arith)
    ∙ ap (λ k. get_or (ranked_values levels ranks) k None) (let e : first + i - first ≡ i = omega arith in e)

pub defined_agree : (v w : List (Option ℤ)) (first count : ℕ) → Agree v w first count → count_defined v first count ≡ count_defined w first count
defined_agree v w first count a = count_same (λ k. is_some (value_at v (first + k))) (λ k. is_some (value_at w (first + k))) count
    (λ i l. ap is_some (a.same (first + i) (record { low = omega arith; high = omega arith })))

pub inner_agree : (v w : List (Option ℤ)) (width : ℕ) (connect : Connect) (first count : ℕ) → Agree v w first count
    → inner_count v width connect first count ≡ inner_count w width connect first count
inner_agree v w width connect first count a =
    sum_same (λ i. count_below (λ j. are_adjacent v width connect (first + i) (first + j)) count)
    (λ i. count_below (λ j. are_adjacent w width connect (first + i) (first + j)) count) count
    (λ i l. count_same (λ j. are_adjacent v width connect (first + i) (first + j)) (λ j. are_adjacent w width connect (first + i) (first + j)) count
    (λ j m. same i j l m)) where
      same : (i j : ℕ) → i < count → j < count → are_adjacent v width connect (first + i) (first + j) ≡ are_adjacent w width connect (first + i) (first + j)
      same i j l m = let x : value_at v (first + i) ≡ value_at w (first + i) = a.same (first + i) (record { low = omega arith; high = omega arith }) in
          let y : value_at v (first + j) ≡ value_at w (first + j) = a.same (first + j) (record { low = omega arith; high = omega arith }) in
          ap (λ o. is_some o && is_some (value_at v (first + j)) && are_neighbours connect width (first + i) (first + j)) x
          ∙ ap (λ o. is_some (value_at w (first + i)) && is_some o && are_neighbours connect width (first + i) (first + j)) y

-- the strip lies in the plane
pub strip_small : (width height first_row end_row count : ℕ) → IsWithinLimits width height → first_row < end_row → end_row ≤ height
    → count ≡ (end_row - first_row) * width → first_row * width + count ≤ most_pixels
strip_small width height first_row end_row count limits l h e = by (end_row - first_row) (omega arith) e where
  by : (n : ℕ) → first_row + n ≡ end_row → count ≡ n * width → first_row * width + count ≤ most_pixels
  by n at c = let whole : (first_row + n) * width ≤ height * width = mul-le-mul_right width (omega arith) in
      let limit : width * height ≤ most_pixels = limits.few_pixels in omega arith

-- whole rows end where a row does
whole_rows : (width n : ℕ) → 0 < width → n * width % width ≡ 0
whole_rows width n wide = let e : n * width ≡ n * width + 0 = omega arith in ap (λ x. x % width) e ∙ mod-mul-add n width 0 wide

strip_ends : (width first_row end_row count : ℕ) → 0 < width → first_row < end_row → count ≡ (end_row - first_row) * width
    → (first_row * width + count) % width ≡ 0
strip_ends width first_row end_row count wide l e = by (end_row - first_row) e where
  by : (n : ℕ) → count ≡ n * width → (first_row * width + count) % width ≡ 0
  by n c = let s : first_row * width + count ≡ (first_row + n) * width = omega arith in ap (λ x. x % width) s ∙ whole_rows width (first_row + n) wide

-- the strip of a job that is prepared
pub strip_known : (connect : Connect) (width height first_row end_row : ℕ) (ranks : Vec ℕ Global) (levels : Vec ℤ Global) (offsets : List ℕ)
    → IsWithinLimits width height → first_row < end_row → end_row ≤ height
    → length ranks.items ≡ (end_row - first_row) * width → IsRising levels.items → HasOffsets connect width offsets
    → IsStrip (record { connect = connect; width = width; first = first_row * width; ranks = ranks; levels = levels; offsets = offsets })
strip_known connect width height first_row end_row ranks levels offsets limits rows inside count rising far =
    let small : first_row * width + length ranks.items ≤ most_pixels = strip_small width height first_row end_row (length ranks.items) limits rows inside count in
    record {
      ranked = job_ranked (plane_values (first_row * width) levels.items ranks.items) width connect
          (first_row * width) ranks.items levels.items limits.some_columns (omega arith) rising
          (λ i l. plane_at (first_row * width) levels.items ranks.items i);
      narrow = limits.few_columns;
      few = small;
      starts = whole_rows width first_row limits.some_columns;
      ends = strip_ends width first_row end_row (length ranks.items) limits.some_columns rows count;
      offsets = far;
    }

pub fit_after : (width height first_row end_row : ℕ) (strip : Strip) (flood after : Flood) (b d : Bool) (p : Raster)
    → SuitsStrip (view_of width height first_row end_row strip flood b) p → SuitsStrip (view_of width height first_row end_row strip after d) p
fit_after width height first_row end_row strip flood after b d p fit = record { width = fit.width; height = fit.height; count = fit.count; same = fit.same }

-- a strip that was flooded stands for each plane that it fits
module _ (width height first_row end_row : ℕ) (strip : Strip) (sides : strip.width ≡ width) (start : strip.first ≡ first_row * width) (after : Flood)
    (long : length after.links.items ≡ length strip.ranks.items) (b : Bool) where
  pub fit_agree : (p : Raster) → SuitsStrip (view_of width height first_row end_row strip after b) p
      → Agree (values_of strip) p.values strip.first (length strip.ranks.items)
  fit_agree p fit = record {
    same = λ x w. let a : strip.first ≤ x = w.low in let c : x < strip.first + length strip.ranks.items = w.high in
        let at : strip.first + (x - strip.first) ≡ x = omega arith in let at2 : first_row * width + (x - strip.first) ≡ x = omega arith in
        let l : x - strip.first < length strip.ranks.items = omega arith in
        let m : x - strip.first < length (ranked_values strip.levels.items strip.ranks.items) = rw length-map l in
        subst (λ y. value_at (values_of strip) y ≡ get_or (ranked_values strip.levels.items strip.ranks.items) (x - strip.first) None) at
        (plane_at strip.first strip.levels.items strip.ranks.items (x - strip.first))
        ∙ sym (subst (λ y. value_at p.values y ≡ get_or (ranked_values strip.levels.items strip.ranks.items) (x - strip.first) None) at2
        (fit.same (x - strip.first) m));
  }

  ranked_long : length (ranked_values strip.levels.items strip.ranks.items) ≡ length strip.ranks.items
  ranked_long = length-map strip.ranks.items (λ r. slice_get strip.levels.items r)

  pub fit_defined : (p : Raster) → SuitsStrip (view_of width height first_row end_row strip after b) p
      → count_defined (values_of strip) strip.first (length strip.ranks.items)
      ≡ count_defined p.values (first_row * width) (length (ranked_values strip.levels.items strip.ranks.items))
  fit_defined p fit = defined_agree (values_of strip) p.values strip.first (length strip.ranks.items) (fit_agree p fit)
      ∙ ap (λ f. count_defined p.values f (length strip.ranks.items)) start ∙ ap (λ n. count_defined p.values (first_row * width) n) (sym ranked_long)

  pub fit_inner : (p : Raster) → SuitsStrip (view_of width height first_row end_row strip after b) p
      → inner_count (values_of strip) strip.width strip.connect strip.first (length strip.ranks.items)
      ≡ inner_count p.values width strip.connect (first_row * width) (length (ranked_values strip.levels.items strip.ranks.items))
  fit_inner p fit =
      subst (λ n. inner_count (values_of strip) strip.width strip.connect strip.first (length strip.ranks.items)
      ≡ inner_count p.values width strip.connect (first_row * width) n) (sym ranked_long)
      (subst₂ (λ f w. inner_count (values_of strip) strip.width strip.connect strip.first (length strip.ranks.items)
      ≡ inner_count p.values w strip.connect f (length strip.ranks.items)) start sides
      (inner_agree (values_of strip) p.values strip.width strip.connect strip.first (length strip.ranks.items) (fit_agree p fit)))

  module _ (forest : IsForest (values_of strip) strip.first after.links.items)
      (stands : StandsFor (values_of strip) strip.first after.links.items
      (IsInner (values_of strip) strip.width strip.connect strip.first (length after.links.items))) where
    agree : (p : Raster) → SuitsStrip (view_of width height first_row end_row strip after b) p
        → Agree (values_of strip) p.values strip.first (length after.links.items)
    agree p fit = subst (λ n. Agree (values_of strip) p.values strip.first n) (sym long) (fit_agree p fit)

    pub fit_standing : (p : Raster) → SuitsStrip (view_of width height first_row end_row strip after b) p
        → IsStanding (view_of width height first_row end_row strip after b) p
    fit_standing p fit = record {
      forest = subst (λ f. IsForest p.values f after.links.items) start
          (forest_agree (values_of strip) p.values strip.first after.links.items (agree p fit) forest);
      stands = subst₂ (λ f w. StandsFor p.values f after.links.items (IsInner p.values w strip.connect f (length after.links.items))) start sides
          (stands_inner_agree (values_of strip) p.values strip.width strip.connect strip.first after.links.items (agree p fit) stands);
    }

pub job_flooded : (width height first_row end_row : ℕ) (strip : Strip) (flood after : Flood) → HasJobFields width height first_row end_row strip flood false
    → length after.links.items ≡ length strip.ranks.items
    → IsForest (values_of strip) strip.first after.links.items
    → StandsFor (values_of strip) strip.first after.links.items (IsInner (values_of strip) strip.width strip.connect strip.first (length after.links.items))
    → HasJobFields width height first_row end_row strip after true
job_flooded width height first_row end_row strip flood after job long forest stands = record {
  known = job.known;
  sides = job.sides;
  start = job.start;
  links_length = long;
  fresh = λ e. cc;
  standing = record { standing = λ e. fit_standing width height first_row end_row strip job.sides job.start after long true forest stands };
}

-- ---- a job is prepared

pub rows_times : (width first_row end_row : ℕ) → first_row < end_row → end_row * width - first_row * width ≡ (end_row - first_row) * width
rows_times width first_row end_row l = by (end_row - first_row) (omega arith) where
  by : (n : ℕ) → first_row + n ≡ end_row → end_row * width - first_row * width ≡ n * width
  by n e = let m : (first_row + n) * width ≡ end_row * width = ap (λ t. t * width) e in omega arith

-- the values by their ranks are the plane's
pub ranks_fit : (values : List (Option ℤ)) (first : ℕ) (levels : List ℤ) (ranks : List ℕ) → AreRanks values first levels ranks
    → (i : ℕ) → i < length (ranked_values levels ranks) → value_at values (first + i) ≡ get_or (ranked_values levels ranks) i None
ranks_fit values first levels ranks are i l = let m : i < length ranks = rw length-map at l in
    sym (are.same i m) ∙ sym (get_or-map (λ r. slice_get levels r) ranks i 0 None m)
