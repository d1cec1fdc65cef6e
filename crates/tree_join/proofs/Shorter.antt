-- A way through pixels of one value, shortened: a pixel is linked past its link, to the link of that.
use Rattle.std.proofs.Common.{◌≡◌, ℕ, ◌-◌, ◌<◌, ◌≤◌, ◌+◌, List, length, set, get_or, Option, Some, None, ℤ, ◌≤ℤ◌, ◌⊎◌, ◌↔◌, inl, sym, ◌∙◌, subst, ⊎_elim, arith}
use Rattle.std.specs.Prelude.{unwrap_or, pos}
use Rattle.std.proofs.lemmas.Int.{ints}
use Rattle.std.proofs.lemmas.Bool.{true≢false}
use Rattle.std.proofs.lemmas.Grind.{get_or_default_zero}
use Rattle.comp_tree.specs.Joined.{Joined, Only}
use Rattle.comp_tree.specs.Raster.{Raster, level}
use Rattle.comp_tree.specs.Forest.{no_node, value_at, ReachesLevel, LiesInStretch, IsHigh, ComesEarlier, link_of, IsLink, IsForest, JoinSame}
use Rattle.tree_join.specs.Skips.{IsPixel}
use Rattle.comp_tree.proofs.Exported.{links_before, links_after, link_hung, forest_hung, joined_trans, joined_sym, joined_pair, joined_within, at_only}
use Rattle.comp_tree.proofs.Exported.{int_le-true, int_le-from, before_irrefl, before_trans, high_up}

-- At one level: c is the link of a, and d that of c. L holds before a is linked to d, and M after it.
module _ (High : ℕ → Type 0) (L M : ℕ → ℕ → Type 0) (a c d : ℕ) where
  move_past : ((x y : ℕ) → L x y → Only a c x y ⊎ M x y) → ((x y : ℕ) → M x y → Only a d x y ⊎ L x y) → L a c → L c d → M a d → M c d
      → (High c → High d) → (High d → High c) → (p q : ℕ) → Joined High M p q ↔ Joined High L p q
  move_past old new lac lcd mad mcd up down p q = (joined_within there, joined_within back) where
    there : (x y : ℕ) → High x → High y → M x y → Joined High L x y
    there x y hx hy m = ⊎_elim
        (λ (o : Only a d x y). at_only (Joined High L) a d x y o
        (let hd : High d = subst High o.1 hy in
        joined_trans (joined_pair a c (subst High o.0 hx) (down hd) (inl lac)) (joined_pair c d (down hd) hd (inl lcd))))
        (λ l. joined_pair x y hx hy (inl l))
        (new x y m)

    back : (x y : ℕ) → High x → High y → L x y → Joined High M x y
    back x y hx hy l = ⊎_elim
        (λ (o : Only a c x y). at_only (Joined High M) a c x y o
        (let hc : High c = subst High o.1 hy in
        joined_trans (joined_pair a d (subst High o.0 hx) (up hc) (inl mad)) (joined_sym (joined_pair c d hc (up hc) (inl mcd)))))
        (λ m. joined_pair x y hx hy (inl m))
        (old x y l)

-- what is at least the value of a defined pixel is at least all that this pixel is
pub at_least_value : (h : ℤ) (v w : Option ℤ) → ReachesLevel (unwrap_or v (pos 0)) w → ReachesLevel h v → ReachesLevel h w
at_least_value h (Some v) (Some w) e l = let a : v ≤ℤ w = int_le-true v w e in let b : h ≤ℤ v = int_le-true h v l in int_le-from h w (omega (arith, ints))
at_least_value h (Some v) None e l = absurd (true≢false (sym e))
at_least_value h None w e l = absurd (true≢false (sym l))

-- the test of the code says so of the values of c and w
pub high_read : (r : Raster) (c : ℕ) (h : ℤ) (w : Option ℤ) → h ≡ level r c → ReachesLevel h w → ReachesLevel (unwrap_or (value_at r.values c) (pos 0)) w
unfolding level
high_read r c h w e a = subst (λ z. ReachesLevel z w) e a

pub low_read : (r : Raster) (c : ℕ) (h : ℤ) (w : Option ℤ) → h ≡ level r c → ReachesLevel (unwrap_or (value_at r.values c) (pos 0)) w → ReachesLevel h w
unfolding level
low_read r c h w e a = subst (λ z. ReachesLevel z w) (sym e) a

-- What is read of a pixel's link, and where that leads.
module _ (values : List (Option ℤ)) (first : ℕ) (links : List ℕ) (forest : IsForest values first links) (p link : ℕ) (inside : LiesInStretch first (length links) p)
    (read : get_or links (p - first) 0 ≡ link) where
  pub link_told : link_of first links p ≡ link
  link_told = get_or_default_zero links (p - first) no_node
      (let low : first ≤ p = inside.low in let high : p < first + length links = inside.high in omega arith) ∙ read

  pub link_leads : (link ≡ no_node → ⊥) → LiesInStretch first (length links) link × ComesEarlier values link p
  link_leads some = subst (λ z. LiesInStretch first (length links) z × ComesEarlier values z p) link_told (⊎_elim
      (λ (n : link_of first links p ≡ no_node). absurd (some (sym link_told ∙ n)))
      (λ (f : LiesInStretch first (length links) (link_of first links p) × ComesEarlier values (link_of first links p) p). f)
      (forest.earlier p inside))

-- The code reads the links with the default 0.
module _ (values : List (Option ℤ)) (first : ℕ) (links : List ℕ) (forest : IsForest values first links) (small : first + length links ≤ no_node)
    (a c d : ℕ) (pa : IsPixel values first (length links) a) (link : get_or links (a - first) 0 ≡ c) (linked : c ≡ no_node → ⊥)
    (next : get_or links (c - first) 0 ≡ d) (more : d ≡ no_node → ⊥) where
  read_link : (x : ℕ) → LiesInStretch first (length links) x → link_of first links x ≡ get_or links (x - first) 0
  read_link x w = get_or_default_zero links (x - first) no_node (let low : first ≤ x = w.low in let high : x < first + length links = w.high in omega arith)

  link_fits : (x q : ℕ) → LiesInStretch first (length links) x → get_or links (x - first) 0 ≡ q → (q ≡ no_node → ⊥)
      → LiesInStretch first (length links) q × ComesEarlier values q x
  link_fits x q w e ne = subst (λ z. LiesInStretch first (length links) z × ComesEarlier values z x) (read_link x w ∙ e) (⊎_elim
      (λ (n : link_of first links x ≡ no_node). absurd (ne (sym e ∙ (sym (read_link x w) ∙ n))))
      (λ (f : LiesInStretch first (length links) (link_of first links x) × ComesEarlier values (link_of first links x) x). f)
      (forest.earlier x w))

  c_fits : LiesInStretch first (length links) c × ComesEarlier values c a
  c_fits = link_fits a c pa.within link linked

  d_fits : LiesInStretch first (length links) d × ComesEarlier values d c
  d_fits = link_fits c d c_fits.0 next more

  pub past_earlier : ComesEarlier values d a
  past_earlier = before_trans (value_at values d) (value_at values c) (value_at values a) d c a d_fits.1 c_fits.1

  pub past_forest : IsForest values first (set links (a - first) d)
  past_forest = forest_hung first links a d pa.within values forest d_fits.0 past_earlier

  pub past_same : ReachesLevel (unwrap_or (value_at values c) (pos 0)) (value_at values d)
      → JoinSame values first (length links) (IsLink first (set links (a - first) d)) (IsLink first links)
  past_same high = record {
    same = λ h p q. move_past (IsHigh values first (length links) h) (IsLink first links) (IsLink first (set links (a - first) d)) a c d
        (links_before first links a d pa.within c (read_link a pa.within ∙ link)) (links_after first links a d pa.within)
        (record { within = pa.within; link = read_link a pa.within ∙ link }) c_to_d (link_hung first links a d pa.within) still_c_to_d
        (λ g. record { within = d_fits.0; value = at_least_value h (value_at values c) (value_at values d) high g.value })
        (high_up values first (length links) h d c d_fits.1 c_fits.0) p q;
  } where
    c_to_d : IsLink first links c d
    c_to_d = record { within = c_fits.0; link = read_link c c_fits.0 ∙ next }

    still_c_to_d : IsLink first (set links (a - first) d) c d
    still_c_to_d = ⊎_elim
        (λ (o : Only a c c d). absurd (before_irrefl (value_at values a) a (subst (λ x. ComesEarlier values x a) o.0 c_fits.1)))
        (λ (m : IsLink first (set links (a - first) d) c d). m)
        (links_before first links a d pa.within c (read_link a pa.within ∙ link) c d c_to_d)
