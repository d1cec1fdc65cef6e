-- Sources are disjoint, and each entry holds one.
use Rattle.std.proofs.Common.{◌≡◌, ℕ, ◌<◌, ◌≤◌, zero, suc, Bool, true, false, ◌&&◌, ◌||◌, not, length, refl, sym, ◌∙◌, ap, subst, arith, ◌⊎◌, inl, inr}
use Rattle.std.specs.Prelude.{IsTrue}
use Rattle.std.proofs.lemmas.Bool.{true≢false, and_parts, and_from, not-true, not_from_false, false_from_ne_true, or_cases, or_left, or_right, cases_lt}
use Rattle.comp_tree.specs.declared.shape.Connect.{Connect}
use Rattle.comp_tree.specs.Raster.{Raster, IsPlane}
use Rattle.comp_tree.specs.Components.{nodes, is_in_node, tree_of}
use Rattle.comp_tree.specs.Laws.{IsAncestor, parent, parent_of_node, IsNode, IsNestedIn}
use Rattle.source_pick.specs.declared.choice.Choice.{Choice}
use Rattle.source_pick.specs.Sources.{is_entry, is_split, has_strong_sibling, contains_split, is_source}
use Rattle.comp_tree.specs.Nesting.{lies_within}
use Rattle.node_sums.specs.NodeNumbers.{IsOnWay}
use Rattle.source_pick.specs.Laws.{SourcesAreDisjoint, EachEntryHoldsASource}
use Rattle.node_sums.proofs.Exported.{within_from_way, way_from_shared, way_from_within, way_trans, way_smaller, HasParent, way_up}
use Rattle.comp_tree.proofs.Exported.{within_from_test, test_from_within}
use Rattle.node_sums.proofs.Exported.{row_from_node}
use Rattle.source_pick.proofs.NodesEntries.{IsEntryOf, entry_of-parts, entry_same}
use Rattle.source_pick.proofs.NodesSplits.{AreTwins, IsSplitNode, split_parts, HasEntry, strong_entry, HasSibling, sibling_parts, sibling_from_twins}
use Rattle.source_pick.proofs.NodesSplits.{ContainsSplit, contains_parts, contains_from}

-- the parts of the definition
pub record SourceParts (r : Raster) (connect : Connect) (choice : Choice) (n : ℕ) : Type 0 where
  pub stands : (is_entry r connect choice n ≡ true) ⊎ (has_strong_sibling r connect choice n ≡ true)
  pub whole : contains_split r connect choice n ≡ false

pub source_parts : (r : Raster) (connect : Connect) (choice : Choice) (n : ℕ) → is_source r connect choice n ≡ true → SourceParts r connect choice n
unfolding is_source
source_parts r connect choice n h =
    let parts = and_parts (is_entry r connect choice n || has_strong_sibling r connect choice n) (not (contains_split r connect choice n)) h in
    record {
      stands = or_cases (is_entry r connect choice n) (has_strong_sibling r connect choice n) parts.0;
      whole = not-true (contains_split r connect choice n) parts.1;
    }

pub source_from : (r : Raster) (connect : Connect) (choice : Choice) (n : ℕ) → SourceParts r connect choice n → is_source r connect choice n ≡ true
unfolding is_source
source_from r connect choice n k =
    and_from (is_entry r connect choice n || has_strong_sibling r connect choice n) (not (contains_split r connect choice n)) (go k.stands)
    (not_from_false (contains_split r connect choice n) k.whole)
  where
    go : (is_entry r connect choice n ≡ true) ⊎ (has_strong_sibling r connect choice n ≡ true)
        → (is_entry r connect choice n || has_strong_sibling r connect choice n) ≡ true
    go (inl e) = or_left (is_entry r connect choice n) (has_strong_sibling r connect choice n) e
    go (inr s) = or_right (is_entry r connect choice n) (has_strong_sibling r connect choice n) s

-- ---- disjoint

source_entry : (r : Raster) (connect : Connect) (choice : Choice) (n : ℕ) → IsPlane r → n < length (nodes r connect) → is_source r connect choice n ≡ true
    → (e : ℕ) × IsEntryOf r connect choice n e
source_entry r connect choice n plane hn h = go (source_parts r connect choice n h).stands
  where
    go : (is_entry r connect choice n ≡ true) ⊎ (has_strong_sibling r connect choice n ≡ true) → (e : ℕ) × IsEntryOf r connect choice n e
    go (inl e) = (n, record { node = hn; entry = e; way = inl refl })
    go (inr s) =
        let k : HasEntry r connect choice n = strong_entry r connect choice n (sibling_parts r connect choice n plane hn s).strong in
        (k.it, entry_of-parts r connect choice n k.it plane hn k.is)

sources_not_nested : (r : Raster) (connect : Connect) (choice : Choice) (n m : ℕ) → IsPlane r → n < length (nodes r connect) → m < length (nodes r connect)
    → is_source r connect choice n ≡ true → is_source r connect choice m ≡ true → IsAncestor (tree_of r connect).rows n m → ⊥
sources_not_nested r connect choice n m plane hn hm is_n is_m a = go (source_parts r connect choice m is_m).stands
  where
    go : (is_entry r connect choice m ≡ true) ⊎ (has_strong_sibling r connect choice m ≡ true) → ⊥
    go (inl e) = beyond (source_entry r connect choice n plane hn is_n)
      where
        beyond : (d : ℕ) × IsEntryOf r connect choice n d → ⊥
        beyond (d, k) = apart k.way
          where
            same : d ≡ m
            same = entry_same r connect choice m d m plane hm
                (record { node = k.node; entry = k.entry; way = way_trans (tree_of r connect).rows d n m k.way (inr a) })
                (record { node = hm; entry = e; way = inl refl })

            less : n < m
            less = way_smaller r connect n m plane hm a

            apart : IsOnWay (tree_of r connect).rows d n → ⊥
            apart (inl f) = absurd (omega (arith, same, less))
            apart (inr b) = let l : d < n = way_smaller r connect d n plane hn b in absurd (omega (arith, same, less))
    go (inr s) =
        let k : HasSibling r connect choice m = sibling_parts r connect choice m plane hm s in
        let p : HasParent (tree_of r connect).rows n m = way_up (tree_of r connect).rows n m a in
        true≢false (sym (contains_from r connect choice n plane hn (record {
          split = parent_of_node r connect m;
          node = k.node;
          way = subst (λ (x : ℕ). IsOnWay (tree_of r connect).rows n x) (sym p.is_parent) p.way;
          is_split = k.split;
        })) ∙ (source_parts r connect choice n is_n).whole)

pub sources_that_share : (r : Raster) (connect : Connect) (choice : Choice) (m n q : ℕ) → IsPlane r → m < length (nodes r connect)
    → n < length (nodes r connect)
    → is_source r connect choice m ≡ true → is_source r connect choice n ≡ true → is_in_node r connect m q ≡ true → is_in_node r connect n q ≡ true → m ≡ n
sources_that_share r connect choice m n q plane hm hn is_m is_n in_m in_n = go (way_from_shared r connect m n q plane hm hn in_m in_n)
  where
    go : IsOnWay (tree_of r connect).rows m n ⊎ IsOnWay (tree_of r connect).rows n m → m ≡ n
    go (inl (inl f)) = sym f
    go (inl (inr a)) = absurd (sources_not_nested r connect choice m n plane hm hn is_m is_n a)
    go (inr (inl f)) = f
    go (inr (inr a)) = absurd (sources_not_nested r connect choice n m plane hn hm is_n is_m a)

pub sources_are_disjoint : SourcesAreDisjoint
sources_are_disjoint r connect choice m n plane hm hn is_m is_n apart =
    λ q in_m in_n. apart (sources_that_share r connect choice m n q plane hm hn is_m is_n in_m in_n)

-- ---- one in each entry

-- the last number below a bound that passes a test
record IsLastPassing (test : ℕ → Bool) (count : ℕ) : Type 0 where
  pub it : ℕ
  pub below : it < count
  pub passes : test it ≡ true
  pub last : (x : ℕ) → it < x → x < count → test x ≡ false

last_passing : (test : ℕ → Bool) (count : ℕ) → IsLastPassing test count ⊎ ((x : ℕ) → x < count → test x ≡ false)
last_passing test zero = inr (λ x l. absurd (omega arith))
last_passing test (suc k) = go (test k) refl (last_passing test k)
  where
    go : (b : Bool) → test k ≡ b → IsLastPassing test k ⊎ ((x : ℕ) → x < k → test x ≡ false)
        → IsLastPassing test (suc k) ⊎ ((x : ℕ) → x < suc k → test x ≡ false)
    go true u ih = inl (record { it = k; below = omega arith; passes = u; last = λ x l m. absurd (omega arith) })
    go false u (inl s) = inl (record { it = s.it; below = omega (arith, s.below); passes = s.passes; last = λ x l m. at x l (cases_lt x k) m })
      where
        at : (x : ℕ) → s.it < x → (x < k) ⊎ (k ≤ x) → x < suc k → test x ≡ false
        at x l (inl y) m = s.last x l y
        at x l (inr y) m = let e : x ≡ k = omega arith in ap test e ∙ u
    go false u (inr none) = inr (λ x m. at x (cases_lt x k) m)
      where
        at : (x : ℕ) → (x < k) ⊎ (k ≤ x) → x < suc k → test x ≡ false
        at x (inl y) m = none x y
        at x (inr y) m = let e : x ≡ k = omega arith in ap test e ∙ u

pub each_entry_holds_a_source : EachEntryHoldsASource
each_entry_holds_a_source r connect choice e plane he is_e =
    go (last_passing (λ x. lies_within r connect x e && is_split r connect choice x) (length (nodes r connect)))
  where
    inside : (x : ℕ) → x < length (nodes r connect) → IsOnWay (tree_of r connect).rows e x → is_split r connect choice x ≡ true
        → lies_within r connect x e && is_split r connect choice x ≡ true
    inside x hx w s =
        and_from (lies_within r connect x e) (is_split r connect choice x) (test_from_within r connect x e (within_from_way r connect e x plane he hx w)) s

    go : IsLastPassing (λ x. lies_within r connect x e && is_split r connect choice x) (length (nodes r connect))
        ⊎ ((x : ℕ) → x < length (nodes r connect) → lies_within r connect x e && is_split r connect choice x ≡ false)
        → (n : ℕ) × IsNode r connect n × IsTrue (is_source r connect choice n) × IsNestedIn r connect n e
    go (inr none) = (e, he, source_from r connect choice e (record { stands = inl is_e; whole = whole }), λ q k. k)
      where
        whole : contains_split r connect choice e ≡ false
        whole = false_from_ne_true (contains_split r connect choice e) (λ h.
            let k : ContainsSplit r connect choice e = contains_parts r connect choice e plane he h in
            true≢false (sym (inside k.split k.node k.way k.is_split) ∙ none k.split k.node))
    go (inl s) = (
      k.first,
      k.first_node,
      source_from r connect choice k.first (record { stands = inr stands; whole = whole }),
      within_from_way r connect e k.first plane he k.first_node around_first,
    )
      where
        parts : (lies_within r connect s.it e ≡ true) × (is_split r connect choice s.it ≡ true)
        parts = and_parts (lies_within r connect s.it e) (is_split r connect choice s.it) s.passes

        k : IsSplitNode r connect choice s.it
        k = split_parts r connect choice s.it parts.1

        up : IsAncestor (tree_of r connect).rows s.it k.first
        up = parent k.first k.twins.one_child (row_from_node r connect s.it s.below)

        around_first : IsOnWay (tree_of r connect).rows e k.first
        around_first =
            way_trans (tree_of r connect).rows e s.it k.first (way_from_within r connect e s.it plane he s.below (within_from_test r connect s.it e parts.0))
            (inr up)

        parent_node : parent_of_node r connect k.first < length (nodes r connect)
        parent_node = subst (λ (x : ℕ). x < length (nodes r connect)) (sym k.twins.one_child) s.below

        stands : has_strong_sibling r connect choice k.first ≡ true
        stands = sibling_from_twins r connect choice k.first k.second plane parent_node k.second_node
            (subst (λ (x : ℕ). AreTwins r connect choice x k.first k.second) (sym k.twins.one_child) k.twins)

        less : s.it < k.first
        less = way_smaller r connect s.it k.first plane k.first_node up

        at_least : (x : ℕ) → x < length (nodes r connect) → IsOnWay (tree_of r connect).rows k.first x → s.it < x
        at_least x hx (inl f) = omega (arith, less)
        at_least x hx (inr a) = let l : k.first < x = way_smaller r connect k.first x plane hx a in omega (arith, less)

        whole : contains_split r connect choice k.first ≡ false
        whole = false_from_ne_true (contains_split r connect choice k.first) (λ h.
            let c : ContainsSplit r connect choice k.first = contains_parts r connect choice k.first plane k.first_node h in
            true≢false (sym (inside c.split c.node (way_trans (tree_of r connect).rows e k.first c.split around_first c.way) c.is_split)
            ∙ s.last c.split (at_least c.split c.node c.way) c.node))
