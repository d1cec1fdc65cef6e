-- A window has fewer open boxes than pixels: of two pixels side by side not both represent whole components at the threshold. So three of the pixels of a
-- large image represent none.
use Rattle.std.proofs.Common.{◌≡◌, ℕ, ◌+◌, ◌-◌, ◌*◌, ◌/◌, ◌%◌, ◌<◌, ◌≤◌, Bool, true, false, cond, ◌&&◌, not, List, [], ◌∷◌, length, map, refl, sym, ◌∙◌, ap, subst, arith, ◌⊎◌, inl, inr}
use Rattle.std.specs.Prelude.{IsTrue, ℤ, ◌≤ℤ◌, ◌<ℤ◌, int_le, int_lt, filter, nat_lt, ◌==◌}
use Rattle.std.specs.List.{enumerate_from, list_any, IsDistinct, AllByRecursion}
use Rattle.std.proofs.lemmas.Bool.{and_parts, or_cases, cases_lt, eqb-true, ne_eqb, cond_both, ltb-true, ltb-false, true≢false}
use Rattle.std.proofs.lemmas.List.{length-map}
use Rattle.std.proofs.lemmas.List.FromFn.{length-enumerate_from}
use Rattle.std.proofs.lemmas.Map.Steps.{length-le_from_distinct_below}
use Rattle.std.proofs.lemmas.Nat.{div-mul-add, mod-mul-add, mul-le}
use Rattle.lemmas.proofs.Exported.{IsAmong, among_from_filter, cases_int, int_le-from, int_le-true, int_le_antisym, int_le_refl, int_le_trans, int_lt-from, int_lt_le}
use Rattle.lemmas.proofs.Exported.{int_le_from_lt}
use Rattle.comp_tree.specs.declared.shape.Connect.{Connect}
use Rattle.comp_tree.specs.declared.shape.Connect.TheVariants.{Four, Eight}
use Rattle.comp_tree.specs.declared.shape.Shape.{Shape}
use Rattle.comp_tree.specs.Raster.{Raster, IsPlane, is_at_least, is_defined, level}
use Rattle.comp_tree.specs.Grid.{distance, are_neighbours}
use Rattle.comp_tree.specs.ComponentTree.{ComponentTree, no_node, parent_in}
use Rattle.comp_tree.specs.Components.{is_candidate, nodes, node_of, parent_of, reaches, representative, tree_of}
use Rattle.comp_tree.specs.Laws.{IsNode, top_of}
use Rattle.comp_tree.specs.Nesting.{level_in}
use Rattle.comp_tree.specs.Windows.{Box}
use Rattle.comp_tree.proofs.Exported.{ParentCase, IsPlace, adjacent_from, at_least-from, below_from_defined, below_no_node, candidate-from, candidate-parts}
use Rattle.comp_tree.proofs.Exported.{child, defined_from_at_least, joined_pair, length-nodes-le, neighbours_eight, neighbours_four, node-unique}
use Rattle.comp_tree.proofs.Exported.{node_of-is, node_of_top, parent-case, parent-of_node, reaches-is_IsReached, reaches_start, reaches_sym, representative-is}
use Rattle.comp_tree.proofs.Exported.{representative-same, root, top-defined}
use Rattle.node_sums.specs.declared.outline.Outline.{Outline}
use Rattle.node_sums.specs.Sums.{sums_in}
use Rattle.node_sums.specs.Outlines.{outline_of, outlines_in, AreOutlinesOfTree}
use Rattle.node_sums.proofs.Exported.{length-sums_in, level-of_node}
use Rattle.tile_laws.specs.declared.extents.Extent.{Extent}
use Rattle.tile_laws.specs.Extents.{box_extent}
use Rattle.tile_laws.specs.Knowing.{node_box, IsWholeAt}
use Rattle.tile_laws.specs.Opening.{is_whole_node, is_box_settled, open_among, open_extents}
use Rattle.tile_laws.proofs.Testing.{whole_test_is_exact}

-- ---- pixels side by side

-- where a pixel of the first row stands
first_row : (width p : ℕ) → p < width → (p / width ≡ 0) × (p % width ≡ p)
first_row width p l =
    let f : 0 * width + p ≡ p = omega arith in
    (ap (λ (n : ℕ). n / width) (sym f) ∙ div-mul-add 0 width p l, ap (λ (n : ℕ). n % width) (sym f) ∙ mod-mul-add 0 width p l)

beside : (connect : Connect) (width p : ℕ) → p + 1 < width → are_neighbours connect width p (p + 1) ≡ true
unfolding distance
beside Four width p l =
    let a = first_row width p (omega (arith, l)) in
    let b = first_row width (p + 1) l in
    (neighbours_four width p (p + 1)).1 (omega (arith, a.0, a.1, b.0, b.1))
beside Eight width p l =
    let a = first_row width p (omega (arith, l)) in
    let b = first_row width (p + 1) l in
    (neighbours_eight width p (p + 1)).1 (omega (arith, a.0, a.1, b.0, b.1))

module _ (r : Raster) (connect : Connect) where
  -- they reach each other at each level that both have
  reached : (p : ℕ) (k : ℤ) → p + 1 < r.shape.width → IsTrue (is_at_least r k p) → IsTrue (is_at_least r k (p + 1))
      → IsTrue (reaches r connect k p (p + 1))
  reached p k row a b =
      (reaches-is_IsReached r connect k p (p + 1)).1
      (joined_pair p (p + 1) a b (inl (adjacent_from r.values r.shape.width connect p (p + 1) (defined_from_at_least r k p a)
      (defined_from_at_least r k (p + 1) b) (beside connect r.shape.width p row))))

  -- a pixel that could stand for the parent of a whole component lies below the threshold
  pub low_candidate : (h : ℤ) (m p : ℕ) → IsPlane r → IsNode r connect m → IsWholeAt h (tree_of r connect).rows m
      → IsTrue (is_candidate r connect (top_of r connect m) p) → int_le h (level r p) ≡ true → ⊥
  low_candidate h m p plane node is_whole candidate high =
      go (parent_of r connect (top_of r connect m)) (parent-of_node r connect m node) (parent-case r connect (top_of r connect m))
    where
      go : (k : ℕ) → parent_in (tree_of r connect).rows m ≡ k → ParentCase r connect (top_of r connect m) k → ⊥
      go _ is (root none) = none p candidate
      go _ is (child s c most) = by is_whole.lowest
        where
          defined : IsTrue (is_defined r s)
          defined = defined_from_at_least r (level r s) s (reaches_start r connect (level r s) s (top_of r connect m)
              (candidate-parts r connect (top_of r connect m) s c).reaches_it)

          place : IsPlace (nodes r connect) (representative r connect s) (node_of r connect s)
          place = node_of-is r connect s defined

          level_is : level_in (tree_of r connect).rows (parent_in (tree_of r connect).rows m) ≡ level r s
          level_is =
              ap (level_in (tree_of r connect).rows) is ∙ level-of_node r connect (node_of r connect s) place.below ∙ ap (level r) place.it_is
              ∙ (representative-is r connect s defined).same_level

          by : (parent_in (tree_of r connect).rows m ≡ no_node)
              ⊎ (level_in (tree_of r connect).rows (parent_in (tree_of r connect).rows m) <ℤ h) → ⊥
          by (inl none) = below_no_node r connect (node_of r connect s) plane place.below (sym is ∙ none)
          by (inr low) =
              int_lt_le (level r s) h (int_lt-from (level r s) h (subst (λ (z : ℤ). z <ℤ h) level_is low))
              (int_le_trans h (level r p) (level r s) high (most p candidate))

  abbrev pub top : ℕ → ℕ
  top n = top_of r connect n

  pub high_top : (h : ℤ) (n : ℕ) → IsNode r connect n → IsWholeAt h (tree_of r connect).rows n → int_le h (level r (top n)) ≡ true
  high_top h n node is_whole = int_le-from h (level r (top n)) (subst (λ (z : ℤ). h ≤ℤ z) (level-of_node r connect n node) is_whole.high)

  -- whole components whose representatives stand side by side are the same
  side_by_side : (h : ℤ) (n m : ℕ) → IsPlane r → IsNode r connect n → IsNode r connect m → IsWholeAt h (tree_of r connect).rows n
      → IsWholeAt h (tree_of r connect).rows m → top m ≡ top n + 1 → top n + 1 < r.shape.width → n ≡ m
  side_by_side h n m plane node other whole_n whole_m next row = go (cases_int (level r p) (level r q))
    where
      p : ℕ
      p = top n

      q : ℕ
      q = top m

      defined_p : IsTrue (is_defined r p)
      defined_p = top-defined r connect n node

      defined_q : IsTrue (is_defined r q)
      defined_q = top-defined r connect m other

      reach : (k : ℤ) → int_le k (level r p) ≡ true → int_le k (level r q) ≡ true → IsTrue (reaches r connect k p q)
      reach k a b =
          subst (λ (x : ℕ). IsTrue (reaches r connect k p x)) (sym next)
          (reached p k row (at_least-from r k p defined_p a)
          (subst (λ (x : ℕ). IsTrue (is_at_least r k x)) next (at_least-from r k q defined_q b)))

      same : level r p ≡ level r q → n ≡ m
      same e = sym (node_of_top r connect n node) ∙ sym one ∙ node_of_top r connect m other
        where
          path : IsTrue (reaches r connect (level r p) p q)
          path = reach (level r p) (int_le_refl (level r p)) (subst (λ (z : ℤ). int_le (level r p) z ≡ true) e (int_le_refl (level r p)))

          one : node_of r connect q ≡ node_of r connect p
          one =
              node-unique r connect q (node_of r connect p) defined_q
              (subst (λ (x : ℕ). IsPlace (nodes r connect) x (node_of r connect p)) (sym (representative-same r connect p q path (sym e)))
              (node_of-is r connect p defined_p))

      more : (int_lt (level r q) (level r p) ≡ true) ⊎ (int_le (level r p) (level r q) ≡ true) → int_le (level r q) (level r p) ≡ true → n ≡ m
      more (inl l) g =
          absurd (low_candidate h n q plane node whole_n
          (candidate-from r connect p q (record {
            lower = l;
            reaches_it = reaches_sym r connect (level r q) p q (reach (level r q) g (int_le_refl (level r q)));
          }))
          (high_top h m other whole_m))
      more (inr l) g = same (int_le_antisym (level r p) (level r q) l g)

      go : (int_lt (level r p) (level r q) ≡ true) ⊎ (int_le (level r q) (level r p) ≡ true) → n ≡ m
      go (inl l) =
          absurd (low_candidate h m p plane other whole_m
          (candidate-from r connect q p (record {
            lower = l;
            reaches_it = reach (level r p) (int_le_refl (level r p)) (int_le-from (level r p) (level r q) (lower l));
          }))
          (high_top h n node whole_n))
        where
          lower : int_lt (level r p) (level r q) ≡ true → level r p ≤ℤ level r q
          lower k = int_le-true (level r p) (level r q) (int_le_from_lt (level r p) (level r q) k)
      go (inr g) = more (cases_int (level r q) (level r p)) g

-- ---- numbers of which few are below

-- the first six numbers in pairs, and the others three less
squeeze : ℕ → ℕ
squeeze p = cond (nat_lt p 6) (p / 2) (p - 3)

squeezed-below : (p n : ℕ) → p < n → 6 ≤ n → squeeze p < n - 3
unfolding squeeze
squeezed-below p n l some = cond_both (nat_lt p 6) (p / 2) (p - 3) (λ (x : ℕ). x < n - 3) (λ e. let k : p < 6 = ltb-true p 6 e in omega (arith, l, some, k))
    (λ e. let k : 6 ≤ p = ltb-false p 6 e in omega (arith, l, some, k))

squeezed-is : (p : ℕ) → ((p < 6) × (squeeze p ≡ p / 2)) ⊎ ((6 ≤ p) × (squeeze p ≡ p - 3))
unfolding squeeze
squeezed-is p = go (nat_lt p 6) refl
  where
    go : (b : Bool) → nat_lt p 6 ≡ b → ((p < 6) × (cond b (p / 2) (p - 3) ≡ p / 2)) ⊎ ((6 ≤ p) × (cond b (p / 2) (p - 3) ≡ p - 3))
    go true e = inl (ltb-true p 6 e, refl)
    go false e = inr (ltb-false p 6 e, refl)

squeezed-same : (p q : ℕ) → squeeze p ≡ squeeze q → (p ≡ q) ⊎ (((q ≡ p + 1) × (q < 6)) ⊎ ((p ≡ q + 1) × (p < 6)))
squeezed-same p q e = go (squeezed-is p) (squeezed-is q)
  where
    near : p < 6 → q < 6 → p / 2 ≡ q / 2 → (p < q) ⊎ (q ≤ p) → (q < p) ⊎ (p ≤ q) → (p ≡ q) ⊎ (((q ≡ p + 1) × (q < 6)) ⊎ ((p ≡ q + 1) × (p < 6)))
    near a b f (inl l) c = inr (inl (omega (arith, a, b, f, l), b))
    near a b f (inr g) (inl l) = inr (inr (omega (arith, a, b, f, l), a))
    near a b f (inr g) (inr l) = inl (omega (arith, g, l))

    go : ((p < 6) × (squeeze p ≡ p / 2)) ⊎ ((6 ≤ p) × (squeeze p ≡ p - 3)) → ((q < 6) × (squeeze q ≡ q / 2)) ⊎ ((6 ≤ q) × (squeeze q ≡ q - 3))
        → (p ≡ q) ⊎ (((q ≡ p + 1) × (q < 6)) ⊎ ((p ≡ q + 1) × (p < 6)))
    go (inl a) (inl b) = near a.0 b.0 (sym a.1 ∙ e ∙ b.1) (cases_lt p q) (cases_lt q p)
    go (inl a) (inr b) = absurd (omega (arith, a.0, a.1, b.0, b.1, e))
    go (inr a) (inl b) = absurd (omega (arith, a.0, a.1, b.0, b.1, e))
    go (inr a) (inr b) = inl (omega (arith, a.0, a.1, b.0, b.1, e))

-- ---- entries with their numbers

among_numbered : (a : ℕ) (ss : List Outline) (e : ℕ × Outline) → IsAmong e (enumerate_from a ss) → (a ≤ e.0) × (e.0 < a + length ss)
among_numbered a [] e h = absurd h
among_numbered a (s ∷ ss) e (inl h) = let k : a ≡ e.0 = ap (λ (x : ℕ × Outline). x.0) h in (omega (arith, k), omega (arith, k))
among_numbered a (s ∷ ss) e (inr h) = let k = among_numbered (a + 1) ss e h in (omega (arith, k.0), omega (arith, k.1))

module _ (test : ℕ × Outline → Bool) (g : ℕ × Outline → ℕ) where
  none_same : (k : ℕ) (zs : List (ℕ × Outline)) → ((e : ℕ × Outline) → IsAmong e zs → g e ≡ k → ⊥) → AllByRecursion (λ y. k == y ≡ false) (map g zs)
  none_same k [] h = tt
  none_same k (z ∷ zs) h = (ne_eqb k (g z) (λ e. h z (inl refl) (sym e)), none_same k zs (λ e m. h e (inr m)))

  all_distinct : (bound : ℕ) → ((e f : ℕ × Outline) → e.0 < f.0 → f.0 < bound → test e ≡ true → test f ≡ true → g f ≡ g e → ⊥)
      → (a : ℕ) (ss : List Outline) → a + length ss ≤ bound → IsDistinct (λ x y. x == y) (map g (filter test (enumerate_from a ss)))
  unfolding IsDistinct
  all_distinct bound apart a [] few = tt
  all_distinct bound apart a (s ∷ ss) few = go (test (a, s)) refl (all_distinct bound apart (a + 1) ss (omega (arith, few)))
    where
      go : (b : Bool) → test (a, s) ≡ b → IsDistinct (λ x y. x == y) (map g (filter test (enumerate_from (a + 1) ss)))
          → IsDistinct (λ x y. x == y) (map g (cond b ((a, s) ∷ filter test (enumerate_from (a + 1) ss)) (filter test (enumerate_from (a + 1) ss))))
      go false passes rest = rest
      go true passes rest = (
        none_same (g (a, s)) (filter test (enumerate_from (a + 1) ss)) (λ e m same.
            let parts = among_from_filter test e (enumerate_from (a + 1) ss) m in
            let place = among_numbered (a + 1) ss e parts.0 in
            apart (a, s) e (omega (arith, place.0)) (omega (arith, place.1, few)) passes parts.1 same),
        rest,
      )

  all_below : (n : ℕ) (zs : List (ℕ × Outline)) → ((e : ℕ × Outline) → IsAmong e zs → g e < n) → (q : ℕ) → list_any (λ x. q == x) (map g zs) ≡ true → q < n
  all_below n [] h q k = absurd (true≢false (sym k))
  all_below n (z ∷ zs) h q k = go (or_cases (q == g z) (list_any (λ x. q == x) (map g zs)) k) (all_below n zs (λ e i. h e (inr i)) q)
    where
      below : (q == g z) ≡ true → q < n
      below e = let same : q ≡ g z = eqb-true q (g z) e in let l : g z < n = h z (inl refl) in omega (arith, same, l)

      go : ((q == g z) ≡ true) ⊎ (list_any (λ x. q == x) (map g zs) ≡ true) → (list_any (λ x. q == x) (map g zs) ≡ true → q < n) → q < n
      go (inl e) rest = below e
      go (inr m) rest = rest m

length_filtered : (test : ℕ × Outline → Bool) (zs : List (ℕ × Outline)) → length (filter test zs) ≤ length zs
length_filtered test [] = omega arith
length_filtered test (z ∷ zs) = go (test z) (length_filtered test zs)
  where
    go : (b : Bool) → length (filter test zs) ≤ length zs → length (cond b (z ∷ filter test zs) (filter test zs)) ≤ length (z ∷ zs)
    go true k = omega (arith, k)
    go false k = omega (arith, k)

-- ---- the open boxes of a window

module _ (r : Raster) (connect : Connect) (plane : IsPlane r) (threshold : ℤ) (left top : ℕ) (whole : Shape) (core sure : Box) where
  abbrev is_open : ℕ × Outline → Bool
  is_open e = is_whole_node threshold (tree_of r connect).rows e.0 && not (is_box_settled whole core sure (node_box left top e.1))

  abbrev place_of : ℕ × Outline → ℕ
  place_of e = squeeze (top_of r connect e.0)

  opened : List (ℕ × Outline)
  opened = filter is_open (enumerate_from 0 (outlines_in r connect))

  whole_from : (e : ℕ × Outline) → is_open e ≡ true → IsWholeAt threshold (tree_of r connect).rows e.0
  whole_from e k =
      (whole_test_is_exact threshold (tree_of r connect).rows e.0).0
      (and_parts (is_whole_node threshold (tree_of r connect).rows e.0) (not (is_box_settled whole core sure (node_box left top e.1))) k).0

  apart : 6 ≤ r.shape.width → (e f : ℕ × Outline) → e.0 < f.0 → f.0 < length (nodes r connect) → is_open e ≡ true → is_open f ≡ true
      → place_of f ≡ place_of e → ⊥
  apart wide e f l node k m same = go (squeezed-same (top_of r connect f.0) (top_of r connect e.0) same)
    where
      node_e : IsNode r connect e.0
      node_e = omega (arith, l, node)

      go : (top_of r connect f.0 ≡ top_of r connect e.0)
          ⊎ (((top_of r connect e.0 ≡ top_of r connect f.0 + 1) × (top_of r connect e.0 < 6))
          ⊎ ((top_of r connect f.0 ≡ top_of r connect e.0 + 1) × (top_of r connect f.0 < 6))) → ⊥
      go (inl one) =
          let is : f.0 ≡ e.0 = sym (node_of_top r connect f.0 node) ∙ ap (node_of r connect) one ∙ node_of_top r connect e.0 node_e in
          absurd (omega (arith, l, is))
      go (inr (inl next)) =
          let is : f.0 ≡ e.0 = side_by_side r connect threshold f.0 e.0 plane node node_e (whole_from f m) (whole_from e k) next.0
          (omega (arith, next.0, next.1, wide)) in
          absurd (omega (arith, l, is))
      go (inr (inr next)) =
          let is : e.0 ≡ f.0 = side_by_side r connect threshold e.0 f.0 plane node_e node (whole_from e k) (whole_from f m) next.0
          (omega (arith, next.0, next.1, wide)) in
          absurd (omega (arith, l, is))

  few_opened : length opened ≤ 2147483644
  unfolding opened
  few_opened = go (cases_lt 2147483644 (length r.values))
    where
      counted : length (outlines_in r connect) ≡ length (nodes r connect)
      counted = length-map (sums_in r connect) outline_of ∙ length-sums_in r connect

      go : (2147483644 < length r.values) ⊎ (length r.values ≤ 2147483644) → length (filter is_open (enumerate_from 0 (outlines_in r connect))) ≤ 2147483644
      go (inr small) =
          omega (
            arith,
            small,
            length_filtered is_open (enumerate_from 0 (outlines_in r connect)),
            length-enumerate_from 0 (outlines_in r connect),
            counted,
            length-nodes-le r connect,
          )
      go (inl large) =
          omega (arith, large, few, length-map (filter is_open (enumerate_from 0 (outlines_in r connect))) place_of, fewer)
        where
          few : length r.values ≤ 2147483647
          few = let a : r.shape.width * r.shape.height ≤ 2147483647 = r.shape.within_limits.few_pixels in omega (arith, a, plane)

          by_width : (r.shape.width < 6) ⊎ (6 ≤ r.shape.width) → 6 ≤ r.shape.width
          by_width (inr w) = w
          by_width (inl w) =
              let a : r.shape.width * r.shape.height ≤ 5 * 65535 =
              mul-le r.shape.width r.shape.height 5 65535 (omega (arith, w)) r.shape.within_limits.few_rows in
              absurd (omega (arith, a, plane, large))

          wide : 6 ≤ r.shape.width
          wide = by_width (cases_lt r.shape.width 6)

          below : (e : ℕ × Outline) → IsAmong e (filter is_open (enumerate_from 0 (outlines_in r connect))) → place_of e < length r.values - 3
          below e m =
              let place = among_numbered 0 (outlines_in r connect) e (among_from_filter is_open e (enumerate_from 0 (outlines_in r connect)) m).0 in
              squeezed-below (top_of r connect e.0) (length r.values)
              (below_from_defined r (top_of r connect e.0) (top-defined r connect e.0 (omega (arith, place.1, counted)))) (omega (arith, large))

          fewer : length (map place_of (filter is_open (enumerate_from 0 (outlines_in r connect)))) ≤ length r.values - 3
          fewer =
              length-le_from_distinct_below (map place_of (filter is_open (enumerate_from 0 (outlines_in r connect)))) (length r.values - 3)
              (all_distinct is_open place_of (length (nodes r connect)) (apart wide) 0 (outlines_in r connect) (omega (arith, counted)))
              (all_below is_open place_of (length r.values - 3) (filter is_open (enumerate_from 0 (outlines_in r connect))) below)

  few_extents : length (open_extents threshold (tree_of r connect).rows (outlines_in r connect) left top whole core sure) ≤ 2147483644
  unfolding open_among opened
  few_extents =
      omega (arith, few_opened, length-map (filter is_open (enumerate_from 0 (outlines_in r connect))) (λ (e : ℕ × Outline). box_extent (node_box left top e.1)))

-- there are few of any tree
pub few_of_tree : (tree : ComponentTree) (outlines : List Outline) (threshold : ℤ) (left top : ℕ) (whole : Shape) (core sure : Box) → AreOutlinesOfTree tree outlines
    → length (open_extents threshold tree.rows outlines left top whole core sure) ≤ 2147483644
few_of_tree tree outlines threshold left top whole core sure t =
    subst (λ (x : ComponentTree). length (open_extents threshold x.rows outlines left top whole core sure) ≤ 2147483644) (sym t.of_plane.tree_is)
    (subst (λ (ss : List Outline). length (open_extents threshold (tree_of t.plane t.of_plane.connect).rows ss left top whole core sure) ≤ 2147483644)
    (sym t.of_plane.outlines_are)
    (few_extents t.plane t.of_plane.connect t.one_each threshold left top whole core sure))

-- so there are of boxes that are these
pub few_is : (boxes found : List Extent) → boxes ≡ found → length found ≤ 2147483644 → length boxes ≤ 2147483644
few_is boxes found same few = omega (arith, few, ap length same)
