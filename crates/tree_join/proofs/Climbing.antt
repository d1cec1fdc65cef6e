-- Skips over ways that were joined before, and the climb by them.
use Rattle.std.proofs.Common.{◌≡◌, ℕ, ◌+◌, ◌-◌, ◌<◌, ◌≤◌, List, length, set, get_or, Option, Some, None, ℤ, inl, inr, refl, sym, ◌∙◌, subst}
use Rattle.std.proofs.Common.{⊎_elim, arith}
use Rattle.std.specs.Prelude.{unwrap_or, pos}
use Rattle.std.proofs.lemmas.Bool.{cases_eq, true≢false}
use Rattle.std.proofs.lemmas.List.{get_or-set_same, get_or-set_other, length-set}
use Rattle.std.proofs.lemmas.Grind.{get_or_default_zero}
use Rattle.comp_tree.specs.Joined.{Joined, Or, Only}
use Rattle.comp_tree.specs.EarlierCounts.{earlier_count}
use Rattle.comp_tree.specs.Forest.{no_node, value_at, ReachesLevel, LiesInStretch, IsHigh, ComesEarlier, link_of, IsLink, IsForest, JoinSame}
use Rattle.comp_tree.specs.Defined.{HasValue}
use Rattle.tree_join.specs.Skips.{IsPixel, IsSkip, AreTrueSkips}
use Rattle.tree_join.specs.Walks.{AreLike, IsSkipAt, IsWalk, IsUp}
use Rattle.tree_join.proofs.Shorter.{at_least_value}
use Rattle.comp_tree.proofs.Exported.{int_le_refl, joined_wider, joined_trans, joined_sym, joined_left, joined_pair, joined_pairs, joined_within}
use Rattle.comp_tree.proofs.Exported.{joined_first, joined_second, at_only, at_least_not_before, before_defined, before_other}
use Rattle.comp_tree.proofs.Exported.{same_itself, same_trans, same_sym, same_or, same_turned, high_up, earlier_count_less}

own_value : (v : Option ℤ) → HasValue v → ReachesLevel (unwrap_or v (pos 0)) v
own_value (Some v) d = int_le_refl v
own_value None d = absurd (true≢false (sym d))

module _ (values : List (Option ℤ)) (first count : ℕ) where
  -- what E joins, a relation does that joins the same as E and more
  pub joined_more : (E F G : ℕ → ℕ → Type 0) → JoinSame values first count F (Or E G) → (h : ℤ) (x y : ℕ)
      → Joined (IsHigh values first count h) E x y → Joined (IsHigh values first count h) F x y
  joined_more E F G s h x y j = (s.same h x y).1 (joined_pairs (λ u v e. inl e) j)

  pub skip_more : (E F G : ℕ → ℕ → Type 0) (x y : ℕ) → JoinSame values first count F (Or E G) → IsSkip values first count E x y
      → IsSkip values first count F x y
  skip_more E F G x y s k = record { pixel = k.pixel; joins = λ h g. joined_more E F G s h x y (k.joins h g) }

  pub skip_same : (E F : ℕ → ℕ → Type 0) (x y : ℕ) → JoinSame values first count F E → IsSkip values first count E x y → IsSkip values first count F x y
  skip_same E F x y s k = record { pixel = k.pixel; joins = λ h g. (s.same h x y).1 (k.joins h g) }

  pub skip_none : (E : ℕ → ℕ → Type 0) (x : ℕ) → IsPixel values first count x → IsSkip values first count E x x
  skip_none E x p = record { pixel = p; joins = λ h g. Joined.here g }

  -- two skips, one after the other
  pub skip_on : (E : ℕ → ℕ → Type 0) (x y z : ℕ) → ComesEarlier values z y → IsSkip values first count E x y → IsSkip values first count E y z
      → IsSkip values first count E x z
  skip_on E x y z e k l = record {
    pixel = l.pixel;
    joins =
        λ h g. joined_trans (k.joins h (high_up values first count h z y e k.pixel.within g)) (l.joins h g);
  }

  -- a pixel is high at its own value
  own_high : (y : ℕ) → IsPixel values first count y → IsHigh values first count (unwrap_or (value_at values y) (pos 0)) y
  own_high y p = record { within = p.within; value = own_value (value_at values y) p.value }

  -- ---- lists of skips

  pub true_skips_more : (E F G : ℕ → ℕ → Type 0) (skips : List ℕ) → JoinSame values first count F (Or E G) → AreTrueSkips values first count E skips
      → AreTrueSkips values first count F skips
  true_skips_more E F G skips s t = λ i l. ⊎_elim (λ (e : get_or skips i 0 ≡ no_node). inl e)
      (λ (k : IsSkip values first count E (first + i) (get_or skips i 0)). inr (skip_more E F G (first + i) (get_or skips i 0) s k)) (t i l)

  pub true_skips_same : (E F : ℕ → ℕ → Type 0) (skips : List ℕ) → JoinSame values first count F E → AreTrueSkips values first count E skips
      → AreTrueSkips values first count F skips
  true_skips_same E F skips s t = λ i l. ⊎_elim (λ (e : get_or skips i 0 ≡ no_node). inl e)
      (λ (k : IsSkip values first count E (first + i) (get_or skips i 0)). inr (skip_same E F (first + i) (get_or skips i 0) s k)) (t i l)

  -- one more skip is noted, if its pixel has a place
  pub true_skips_set : (E : ℕ → ℕ → Type 0) (skips : List ℕ) (x y : ℕ) → first ≤ x → IsSkip values first count E x y
      → AreTrueSkips values first count E skips → AreTrueSkips values first count E (set skips (x - first) y)
  true_skips_set E skips x y low k t = λ i m.
      let l : i < length skips = subst (λ n. i < n) (length-set skips (x - first) y) m in
      ⊎_elim
      (λ (e : i ≡ x - first).
      let at : get_or (set skips (x - first) y) i 0 ≡ y = subst (λ j. get_or (set skips (x - first) y) j 0 ≡ y) (sym e)
      (get_or-set_same skips (x - first) y 0 (subst (λ j. j < length skips) e l)) in
      let from : first + i ≡ x = omega arith in
      inr (subst (λ v. IsSkip values first count E (first + i) v) (sym at) (subst (λ u. IsSkip values first count E u y) (sym from) k)))
      (λ (ne : i ≡ x - first → ⊥).
      let at : get_or (set skips (x - first) y) i 0 ≡ get_or skips i 0 = get_or-set_other skips (x - first) i y 0 ne in
      ⊎_elim
      (λ (e : get_or skips i 0 ≡ no_node). inl (at ∙ e))
      (λ (o : IsSkip values first count E (first + i) (get_or skips i 0)). inr (subst (λ v. IsSkip values first count E (first + i) v) (sym at) o))
      (t i l))
      (cases_eq i (x - first))

  -- a skip that is told at a pixel's place
  pub skip_told : (E : ℕ → ℕ → Type 0) (skips : List ℕ) (x y : ℕ) → first ≤ x → AreTrueSkips values first count E skips → IsSkipAt skips (x - first) y
      → IsSkip values first count E x y
  skip_told E skips x y low t d =
      let from : first + (x - first) ≡ x = omega arith in
      subst (λ u. IsSkip values first count E u y) from (subst (λ v. IsSkip values first count E (first + (x - first)) v) d.at (⊎_elim
      (λ (n : get_or skips (x - first) 0 ≡ no_node). absurd (d.some (sym d.at ∙ n)))
      (λ (k : IsSkip values first count E (first + (x - first)) (get_or skips (x - first) 0)). k)
      (t (x - first) d.inside)))

  -- A skip that stands on a pair too is true without it, where it leads higher than the pair's earlier pixel: there this pixel
  -- isn't high, so the pair adds nothing, and at lower levels no less is joined.
  pub skip_alone : (E : ℕ → ℕ → Type 0) (a b x y : ℕ) → (ReachesLevel (unwrap_or (value_at values y) (pos 0)) (value_at values b) → ⊥)
      → IsSkip values first count (Or E (Only a b)) x y → IsSkip values first count E x y
  skip_alone E a b x y low k = record {
    pixel = k.pixel;
    joins = λ h g. joined_wider
        (λ z q. record { within = q.within; value = at_least_value h (value_at values y) (value_at values z) q.value g.value })
        (joined_within alone (k.joins own (own_high y k.pixel)));
  } where
    own : ℤ
    own = unwrap_or (value_at values y) (pos 0)

    alone : (u v : ℕ) → IsHigh values first count own u → IsHigh values first count own v → Or E (Only a b) u v → Joined (IsHigh values first count own) E u v
    alone u v hu hv (inl e) = joined_pair u v hu hv (inl e)
    alone u v hu hv (inr o) = absurd (low (subst (IsHigh values first count own) o.1 hv).value)

  -- nor is its end earlier than that pixel
  pub above_late : (b y : ℕ) → IsPixel values first count b → IsPixel values first count y
      → (ReachesLevel (unwrap_or (value_at values y) (pos 0)) (value_at values b) → ⊥) → ComesEarlier values y b → ⊥
  above_late b y pb py low e = low (high_up values first count (unwrap_or (value_at values y) (pos 0)) y b e pb.within (own_high y py)).value

  -- ---- a pair, where its first pixel is replaced by one that the other is not later than

  late_high : (b c : ℕ) → IsPixel values first count c → (ComesEarlier values c b → ⊥) → (h : ℤ) → IsHigh values first count h b → IsHigh values first count h c
  late_high b c pc late h g = record { within = pc.within; value = at_least_not_before h (value_at values c) (value_at values b) c b pc.value late g.value }

  pub pair_up : (E : ℕ → ℕ → Type 0) (a b c : ℕ) → IsSkip values first count E a c → (ComesEarlier values c b → ⊥)
      → JoinSame values first count (Or E (Only c b)) (Or E (Only a b))
  pair_up E a b c k late = record { same = λ h p q. (joined_within (there h), joined_within (back h)) } where
    there : (h : ℤ) (x y : ℕ) → IsHigh values first count h x → IsHigh values first count h y → Or E (Only c b) x y
        → Joined (IsHigh values first count h) (Or E (Only a b)) x y
    there h x y hx hy (inl e) = joined_first E (Only a b) x y hx hy e
    there h x y hx hy (inr o) = at_only (Joined (IsHigh values first count h) (Or E (Only a b))) c b x y o
        (let hc : IsHigh values first count h c = subst (IsHigh values first count h) o.0 hx in let hb : IsHigh values first count h b =
        subst (IsHigh values first count h) o.1 hy in
        joined_trans (joined_sym (joined_pairs (λ u v e. inl e) (k.joins h hc))) (joined_second E (Only a b) a b (joined_left (k.joins h hc)) hb (refl, refl)))

    back : (h : ℤ) (x y : ℕ) → IsHigh values first count h x → IsHigh values first count h y → Or E (Only a b) x y
        → Joined (IsHigh values first count h) (Or E (Only c b)) x y
    back h x y hx hy (inl e) = joined_first E (Only c b) x y hx hy e
    back h x y hx hy (inr o) = at_only (Joined (IsHigh values first count h) (Or E (Only c b))) a b x y o
        (let hb : IsHigh values first count h b = subst (IsHigh values first count h) o.1 hy in let hc : IsHigh values first count h c =
        late_high b c k.pixel late h hb in
        joined_trans (joined_pairs (λ u v e. inl e) (k.joins h hc)) (joined_second E (Only c b) c b hc hb (refl, refl)))

  -- a pixel that is not earlier than b has no fewer earlier ones
  pub late_not_less : (b c : ℕ) → IsPixel values first count b → IsPixel values first count c → (ComesEarlier values c b → ⊥)
      → earlier_count values first count b ≤ earlier_count values first count c
  late_not_less b c pb pc late = ⊎_elim
      (λ (e : c ≡ b). subst (λ x. earlier_count values first count b ≤ earlier_count values first count x) (sym e) (omega arith))
      (λ (ne : c ≡ b → ⊥). let l : earlier_count values first count b < earlier_count values first count c
      = earlier_count_less values first count c b pb.within (before_other (value_at values c) (value_at values b) c b pc.value pb.value ne late) in omega arith)
      (cases_eq c b)

-- The link of a pixel, read with the default 0, is a skip.
module _ (values : List (Option ℤ)) (first : ℕ) (start links : List ℕ) (forest : IsForest values first links) (small : first + length links ≤ no_node)
    (same_length : length links ≡ length start)
    (same : JoinSame values first (length start) (IsLink first links) (IsLink first start))
    (a : ℕ) (pa : IsPixel values first (length start) a) (ne : get_or links (a - first) 0 ≡ no_node → ⊥) where
  wa : LiesInStretch first (length links) a
  wa = subst (λ n. LiesInStretch first n a) (sym same_length) pa.within

  link_read : link_of first links a ≡ get_or links (a - first) 0
  link_read = get_or_default_zero links (a - first) no_node (let low : first ≤ a = wa.low in let high : a < first + length links = wa.high in omega arith)

  fits : LiesInStretch first (length links) (get_or links (a - first) 0) × ComesEarlier values (get_or links (a - first) 0) a
  fits = subst (λ q. LiesInStretch first (length links) q × ComesEarlier values q a) link_read (⊎_elim
      (λ (e : link_of first links a ≡ no_node). absurd (ne (sym link_read ∙ e)))
      (λ (e : LiesInStretch first (length links) (link_of first links a) × ComesEarlier values (link_of first links a) a). e) (forest.earlier a wa))

  pub link_earlier : ComesEarlier values (get_or links (a - first) 0) a
  link_earlier = fits.1

  pub link_skip : IsSkip values first (length start) (IsLink first start) a (get_or links (a - first) 0)
  link_skip = record {
    pixel = record {
      within = subst (λ n. LiesInStretch first n (get_or links (a - first) 0)) same_length fits.0;
      value = (before_defined (value_at values (get_or links (a - first) 0)) (value_at values a) (get_or links (a - first) 0) a fits.1).0;
    };
    joins = λ h g. (same.same h a (get_or links (a - first) 0)).0
        (joined_pair a (get_or links (a - first) 0) (high_up values first (length start) h (get_or links (a - first) 0) a fits.1 pa.within g) g
        (inl (record { within = wa; link = link_read })));
  }

-- The link of a, and where that is linked on, d, are skips.
module _ (values : List (Option ℤ)) (first : ℕ) (links : List ℕ) (forest : IsForest values first links) (small : first + length links ≤ no_node)
    (a c : ℕ) (pa : IsPixel values first (length links) a) (link : get_or links (a - first) 0 ≡ c) (linked : c ≡ no_node → ⊥) where
  same : JoinSame values first (length links) (IsLink first links) (IsLink first links)
  same = same_itself values first (length links) (IsLink first links)

  pub own_skip : IsSkip values first (length links) (IsLink first links) a c
  own_skip = subst (IsSkip values first (length links) (IsLink first links) a) link
      (link_skip values first links links forest small refl same a pa (λ e. linked (sym link ∙ e)))

  pub past_skip : (d : ℕ) → get_or links (c - first) 0 ≡ d → (d ≡ no_node → ⊥) → IsSkip values first (length links) (IsLink first links) a d
  past_skip d next more =
      let ne : get_or links (c - first) 0 ≡ no_node → ⊥ = λ e. more (sym next ∙ e) in
      let on : IsSkip values first (length links) (IsLink first links) c d
      = subst (IsSkip values first (length links) (IsLink first links) c) next
      (link_skip values first links links forest small refl same c own_skip.pixel ne) in
      let early : ComesEarlier values d c = subst (λ y. ComesEarlier values y c) next
      (link_earlier values first links links forest small refl same c own_skip.pixel ne) in
      skip_on values first (length links) (IsLink first links) a c d early own_skip on

-- What a climb from p keeps: start are the links at its start, and p and b are still to be joined. The pixel before at is p, or the one passed last.
pub record IsClimbing (values : List (Option ℤ)) (first : ℕ) (start links skips : List ℕ) (p b before at : ℕ) : Type 0 where
  pub same_length : length links ≡ length start
  pub like : AreLike values first start links
  pub here : IsSkip values first (length start) (IsLink first start) p at
  pub passed : IsPixel values first (length start) before
  pub step : IsSkip values first (length start) (IsLink first start) before at
  pub walk : IsWalk values first start skips p b
  pub late : ComesEarlier values at b → ⊥

module _ (values : List (Option ℤ)) (first : ℕ) (start : List ℕ) (p b : ℕ) where
  pub climb_none : (skips : List ℕ) → IsWalk values first start skips p b → IsClimbing values first start start skips p b p p
  climb_none skips w = record {
    same_length = refl;
    like = record { forest = w.kept.forest; same = same_itself values first (length start) (IsLink first start) };
    here = skip_none values first (length start) (IsLink first start) p w.pair.one;
    passed = w.pair.one;
    step = skip_none values first (length start) (IsLink first start) p w.pair.one;
    walk = w;
    late = w.pair.late;
  }

  -- the walk of the pixel at hand and b
  pub climb_on : (links skips : List ℕ) (at : ℕ) → length links ≡ length start → AreLike values first start links
      → IsSkip values first (length start) (IsLink first start) p at
      → (ComesEarlier values at b → ⊥) → IsWalk values first start skips p b → IsWalk values first links skips at b
  climb_on links skips at e l k late w = record {
    kept = record {
      inside = subst (λ n. first + n ≤ length values) (sym e) w.kept.inside;
      small = w.kept.small;
      forest = l.forest;
    };
    pair = record {
      one = subst (λ n. IsPixel values first n at) (sym e) k.pixel;
      other = subst (λ n. IsPixel values first n b) (sym e) w.pair.other;
      late = late;
    };
    hold = subst (λ n. AreTrueSkips values first n (Or (IsLink first links) (Only at b)) skips) (sym e)
        (true_skips_same values first (length start) (Or (IsLink first start) (Only p b)) (Or (IsLink first links) (Only at b)) skips
        (same_trans values first (length start) (Or (IsLink first links) (Only at b)) (Or (IsLink first start) (Only at b)) (Or (IsLink first start) (Only p b))
        (same_or values first (length start) (IsLink first links) (IsLink first start) (Only at b) l.same)
        (pair_up values first (length start) (IsLink first start) p b at k late))
        w.hold);
  }

  module _ (links skips : List ℕ) (before at : ℕ) (w : IsClimbing values first start links skips p b before at) where
    -- what holds of the links at hand
    pub climb_walk : IsWalk values first links skips at b
    climb_walk = climb_on links skips at w.same_length w.like w.here w.late w.walk

    pub climb_nearer : (new : List ℕ) (next : ℕ) → length new ≡ length links → IsUp values first links at b next
        → earlier_count values first (length new) next < earlier_count values first (length links) at
    climb_nearer new next e u = subst (λ n. earlier_count values first n next < earlier_count values first (length links) at) (sym e)
        (earlier_count_less values first (length links) at next u.skip.pixel.within u.earlier)

    module _ (new : List ℕ) (e : length new ≡ length links) (l : AreLike values first links new) where
      pub climb_like : AreLike values first start new
      climb_like = record {
        forest = l.forest;
        same = same_trans values first (length start) (IsLink first new) (IsLink first links) (IsLink first start)
            (subst (λ n. JoinSame values first n (IsLink first new) (IsLink first links)) w.same_length l.same) w.like.same;
      }

      -- the climb has come to its end
      pub climb_ended : IsWalk values first new skips at b
      climb_ended = climb_on new skips at (e ∙ w.same_length) climb_like w.here w.late w.walk

      module _ (next : ℕ) (u : IsUp values first links at b next) where
        up : IsSkip values first (length start) (IsLink first start) at next
        up = skip_same values first (length start) (IsLink first links) (IsLink first start) at next
            (same_sym values first (length start) (IsLink first links) (IsLink first start) w.like.same)
            (subst (λ n. IsSkip values first n (IsLink first links) at next) w.same_length u.skip)

        up_from : (x : ℕ) → IsSkip values first (length start) (IsLink first start) x at → IsSkip values first (length start) (IsLink first start) x next
        up_from x o = skip_on values first (length start) (IsLink first start) x at next u.earlier o up

        -- one step more, with skips that are true of the links and the pair
        more_by : (more : List ℕ) → AreTrueSkips values first (length start) (Or (IsLink first start) (Only p b)) more
            → IsClimbing values first start new more p b at next
        more_by more t = record {
          same_length = e ∙ w.same_length;
          like = climb_like;
          here = up_from p w.here;
          passed = w.here.pixel;
          step = up;
          walk = record { kept = w.walk.kept; pair = w.walk.pair; hold = t };
          late = u.late;
        }

        -- nothing is noted
        pub climb_first : IsClimbing values first start new skips p b at next
        climb_first = more_by skips w.walk.hold

        -- the skip from the pixel before to the next one is noted: what the links join, they do with a pair more
        pub climb_more : (more : List ℕ) → more ≡ set skips (before - first) next → IsClimbing values first start new more p b at next
        climb_more more n = more_by more (subst (AreTrueSkips values first (length start) (Or (IsLink first start) (Only p b))) (sym n)
            (true_skips_set values first (length start) (Or (IsLink first start) (Only p b)) skips before next w.passed.within.low
            (skip_more values first (length start) (IsLink first start) (Or (IsLink first start) (Only p b)) (Only p b) before next
            (same_itself values first (length start) (Or (IsLink first start) (Only p b))) (up_from before w.step))
            w.walk.hold))

        pub climb_less : earlier_count values first (length start) next < earlier_count values first (length start) at
        climb_less = earlier_count_less values first (length start) at next up.pixel.within u.earlier

-- the pair is the same one turned
pub joined_turned : (values : List (Option ℤ)) (first : ℕ) (start new : List ℕ) (p q : ℕ)
    → JoinSame values first (length start) (IsLink first new) (Or (IsLink first start) (Only q p))
    → JoinSame values first (length start) (IsLink first new) (Or (IsLink first start) (Only p q))
joined_turned values first start new p q j =
    same_trans values first (length start) (IsLink first new) (Or (IsLink first start) (Only q p)) (Or (IsLink first start) (Only p q)) j
    (same_turned values first (length start) (IsLink first start) q p)
