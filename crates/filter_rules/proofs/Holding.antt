-- What a pixel gets, by its smallest node: from one node to its parent.
use Rattle.std.proofs.Common.{◌≡◌, ℕ, ◌<◌, Bool, true, false, ◌&&◌, length, refl, sym, ◌∙◌, ap, subst, arith, ◌⊎◌, inl, inr}
use Rattle.std.specs.Prelude.{IsTrue, ◌==◌, ℤ, ◌+ℤ◌, filter, find, Option, Some, None}
use Rattle.std.specs.List.{list_all}
use Rattle.std.proofs.lemmas.Bool.{and_parts, and_from, and_left, eq-eqb, eqb-true, ne_eqb, true≢false, false_from_ne_true}
use Rattle.lemmas.proofs.Exported.{IsAmong, among-filter, among-range, among_from_filter, filter_same_among, find_none, find_some, same_bool}
use Rattle.comp_tree.specs.declared.shape.Connect.{Connect}
use Rattle.comp_tree.specs.Raster.{Raster, IsPlane, is_defined}
use Rattle.comp_tree.specs.ComponentTree.{parent_in, no_node}
use Rattle.comp_tree.specs.Components.{nodes, node_of, is_in_node, tree_of}
use Rattle.comp_tree.specs.Laws.{IsAncestor, parent, above, top_of}
use Rattle.comp_tree.proofs.Exported.{top-defined, length-rows, below_no_node, all_gives, all_from}
use Rattle.comp_tree.proofs.Exported as Nodes
use Rattle.node_sums.specs.Sums.{total}
use Rattle.node_sums.proofs.Exported.{ancestor_smaller, goes_down, node_from_among, parent_smaller}
use Rattle.filter_rules.specs.declared.rule.Rule.{Rule}
use Rattle.filter_rules.specs.declared.rule.Criterion.{Criterion}
use Rattle.filter_rules.specs.Filtered.{is_kept, holders, smallest, value_from, filtered_value}
use Rattle.comp_tree.specs.Nesting.{node_numbers, lies_within}
use Rattle.filter_rules.proofs.Lists.{total_split, total_one}
use Rattle.filter_rules.proofs.Around.{IsAbove, above_from_in, in_from_above, above_from_within, within_from_above, above_both}
use Rattle.comp_tree.proofs.Exported.{node_of_top}

-- node m is kept and holds p
abbrev holds : Raster → Connect → Rule → Criterion → ℕ → ℕ → Bool
holds r connect rule criterion p m = is_kept r connect rule criterion m && is_in_node r connect m p

-- pixels of one node have the same holders
pub same_holders : (r : Raster) (connect : Connect) (rule : Rule) (criterion : Criterion) (p q : ℕ) → IsPlane r → IsTrue (is_defined r p)
    → IsTrue (is_defined r q)
    → node_of r connect p ≡ node_of r connect q → holders r connect rule criterion p ≡ holders r connect rule criterion q
unfolding holders
same_holders r connect rule criterion p q plane dp dq e =
    filter_same_among (holds r connect rule criterion p) (holds r connect rule criterion q) (node_numbers r connect)
    (λ m k. ap (λ (b : Bool). is_kept r connect rule criterion m && b) (same m (node_from_among r connect m k)))
  where
    same : (m : ℕ) → m < length (nodes r connect) → is_in_node r connect m p ≡ is_in_node r connect m q
    same m hm =
        same_bool (is_in_node r connect m p) (is_in_node r connect m q)
        (λ h. in_from_above r connect m q plane hm dq (subst (λ (k : ℕ). IsAbove (tree_of r connect).rows m k) e (above_from_in r connect m p plane hm h)))
        (λ h. in_from_above r connect m p plane hm dp
        (subst (λ (k : ℕ). IsAbove (tree_of r connect).rows m k) (sym e) (above_from_in r connect m q plane hm h)))

pub same_value : (r : Raster) (connect : Connect) (rule : Rule) (criterion : Criterion) (p : ℕ) → IsPlane r → IsTrue (is_defined r p)
    → filtered_value r connect rule criterion p ≡ filtered_value r connect rule criterion (top_of r connect (node_of r connect p))
unfolding filtered_value
same_value r connect rule criterion p plane d =
    let hn : node_of r connect p < length (nodes r connect) = (Nodes.node_of-is r connect p d).below in
    ap (value_from r connect rule)
    (same_holders r connect rule criterion p (top_of r connect (node_of r connect p)) plane d (top-defined r connect (node_of r connect p) hn)
    (sym (node_of_top r connect (node_of r connect p) hn)))

-- ---- from a node to its parent

-- node a is the parent of n
pub record IsChild (r : Raster) (connect : Connect) (n a : ℕ) : Type 0 where
  pub node : n < length (nodes r connect)
  pub parent_is : parent_in (tree_of r connect).rows n ≡ a
  pub parent_listed : a < length (nodes r connect)

module _ (r : Raster) (connect : Connect) (plane : IsPlane r) where
  -- a node is above n where it is n or above n's parent
  above_child : (n a m : ℕ) → IsChild r connect n a → IsAbove (tree_of r connect).rows m n → (m ≡ n) ⊎ IsAbove (tree_of r connect).rows m a
  above_child n a m c (inl e) = inl e
  above_child n a m c (inr x) = go n refl x
    where
      go : (j : ℕ) → j ≡ n → IsAncestor (tree_of r connect).rows m j → (m ≡ n) ⊎ IsAbove (tree_of r connect).rows m a
      go _ f (parent j e l) = inr (inl (sym e ∙ ap (parent_in (tree_of r connect).rows) f ∙ c.parent_is))
      go _ f (above k j e l rest) =
          inr (inr (subst (λ (x : ℕ). IsAncestor (tree_of r connect).rows m x) (sym e ∙ ap (parent_in (tree_of r connect).rows) f ∙ c.parent_is) rest))

  child_above : (n a m : ℕ) → IsChild r connect n a → IsAbove (tree_of r connect).rows m a → IsAncestor (tree_of r connect).rows m n
  child_above n a m c (inl e) = parent n (c.parent_is ∙ sym e) (omega (arith, length-rows r connect, c.parent_listed))
  child_above n a m c (inr x) = above a n c.parent_is (omega (arith, length-rows r connect, c.parent_listed)) x

  -- nothing is above a root but itself
  above_root : (n m : ℕ) → parent_in (tree_of r connect).rows n ≡ no_node → IsAbove (tree_of r connect).rows m n → m ≡ n
  above_root n m e (inl f) = f
  above_root n m e (inr x) = go n refl x
    where
      beyond : (k : ℕ) → k < length (tree_of r connect).rows → k ≡ no_node → ⊥
      beyond k l f = below_no_node r connect k plane (omega (arith, length-rows r connect)) f

      go : (j : ℕ) → j ≡ n → IsAncestor (tree_of r connect).rows m j → m ≡ n
      go _ f (parent j g l) = absurd (beyond m l (sym g ∙ ap (parent_in (tree_of r connect).rows) f ∙ e))
      go _ f (above k j g l rest) = absurd (beyond k l (sym g ∙ ap (parent_in (tree_of r connect).rows) f ∙ e))

  parent_less : (n a : ℕ) → IsChild r connect n a → a < n
  parent_less n a c =
      parent_smaller (tree_of r connect).rows a n (goes_down r connect plane) (omega (arith, length-rows r connect, c.node)) c.parent_is
      (omega (arith, length-rows r connect, c.parent_listed))

  -- whether m holds the pixel that represents n
  in_top : (n m : ℕ) → n < length (nodes r connect) → m < length (nodes r connect) → IsAbove (tree_of r connect).rows m n
      → is_in_node r connect m (top_of r connect n) ≡ true
  in_top n m hn hm a =
      in_from_above r connect m (top_of r connect n) plane hm (top-defined r connect n hn)
      (subst (λ (k : ℕ). IsAbove (tree_of r connect).rows m k) (sym (node_of_top r connect n hn)) a)

  top_inside : (n m : ℕ) → n < length (nodes r connect) → m < length (nodes r connect) → is_in_node r connect m (top_of r connect n) ≡ true
      → IsAbove (tree_of r connect).rows m n
  top_inside n m hn hm h =
      subst (λ (k : ℕ). IsAbove (tree_of r connect).rows m k) (node_of_top r connect n hn) (above_from_in r connect m (top_of r connect n) plane hm h)

  in_child : (n a m : ℕ) → IsChild r connect n a → m < length (nodes r connect) → (m ≡ n → ⊥)
      → is_in_node r connect m (top_of r connect n) ≡ is_in_node r connect m (top_of r connect a)
  in_child n a m c hm ne =
      same_bool (is_in_node r connect m (top_of r connect n)) (is_in_node r connect m (top_of r connect a))
      (λ h. go (above_child n a m c (top_inside n m c.node hm h)))
      (λ h. in_top n m c.node hm (inr (child_above n a m c (top_inside a m c.parent_listed hm h))))
    where
      go : (m ≡ n) ⊎ IsAbove (tree_of r connect).rows m a → is_in_node r connect m (top_of r connect a) ≡ true
      go (inl e) = absurd (ne e)
      go (inr x) = in_top a m c.parent_listed hm x

  not_in_parent : (n a : ℕ) → IsChild r connect n a → is_in_node r connect n (top_of r connect a) ≡ false
  not_in_parent n a c = false_from_ne_true (is_in_node r connect n (top_of r connect a)) (λ h. go (top_inside a n c.parent_listed c.node h))
    where
      less : a < n
      less = parent_less n a c

      go : IsAbove (tree_of r connect).rows n a → ⊥
      go (inl e) = absurd (omega (arith, e, less))
      go (inr x) =
          let y : n < a = ancestor_smaller (tree_of r connect).rows n a (goes_down r connect plane) (omega (arith, length-rows r connect, c.parent_listed)) x in
          absurd (omega (arith, less))

  module _ (rule : Rule) (criterion : Criterion) where
    -- where a child isn't kept, it has its parent's holders
    pub holders_of_dropped : (n a : ℕ) → IsChild r connect n a → is_kept r connect rule criterion n ≡ false
        → holders r connect rule criterion (top_of r connect n) ≡ holders r connect rule criterion (top_of r connect a)
    unfolding holders
    holders_of_dropped n a c dropped =
        filter_same_among (holds r connect rule criterion (top_of r connect n)) (holds r connect rule criterion (top_of r connect a)) (node_numbers r connect)
        (λ m k. go m (node_from_among r connect m k) (m == n) refl)
      where
        go : (m : ℕ) → m < length (nodes r connect) → (b : Bool) → m == n ≡ b
            → holds r connect rule criterion (top_of r connect n) m ≡ holds r connect rule criterion (top_of r connect a) m
        go m hm true u =
            let no : is_kept r connect rule criterion m ≡ false = ap (is_kept r connect rule criterion) (eqb-true m n u) ∙ dropped in
            and_left (is_kept r connect rule criterion m) (is_in_node r connect m (top_of r connect n)) no
            ∙ sym (and_left (is_kept r connect rule criterion m) (is_in_node r connect m (top_of r connect a)) no)
        go m hm false u =
            ap (λ (b : Bool). is_kept r connect rule criterion m && b)
            (in_child n a m c hm (λ e. true≢false (sym (eq-eqb m n e) ∙ u)))

    among_holders : (n m : ℕ) → n < length (nodes r connect) → m < length (nodes r connect) → is_kept r connect rule criterion m ≡ true
        → IsAbove (tree_of r connect).rows m n → IsAmong m (holders r connect rule criterion (top_of r connect n))
    unfolding holders
    among_holders n m hn hm k a =
        among-filter (holds r connect rule criterion (top_of r connect n)) m (node_numbers r connect)
        (among-range 0 (length (nodes r connect)) m (omega arith) (omega arith))
        (and_from (is_kept r connect rule criterion m) (is_in_node r connect m (top_of r connect n)) k (in_top n m hn hm a))

    -- what is known of a holder
    pub record IsHolder (p m : ℕ) : Type 0 where
      pub node : m < length (nodes r connect)
      pub kept : is_kept r connect rule criterion m ≡ true
      pub holds_it : is_in_node r connect m p ≡ true

    pub holder_is : (p m : ℕ) → IsAmong m (holders r connect rule criterion p) → IsHolder p m
    unfolding holders
    holder_is p m k =
        let parts : IsAmong m (node_numbers r connect) × IsTrue (holds r connect rule criterion p m) =
        among_from_filter (holds r connect rule criterion p) m (node_numbers r connect) k in
        let both : (is_kept r connect rule criterion m ≡ true) × (is_in_node r connect m p ≡ true) =
        and_parts (is_kept r connect rule criterion m) (is_in_node r connect m p) parts.1 in
        record { node = node_from_among r connect m parts.0; kept = both.0; holds_it = both.1 }

    -- a kept node is the smallest that holds the pixel that represents it
    pub smallest_of_kept : (n : ℕ) → n < length (nodes r connect) → is_kept r connect rule criterion n ≡ true
        → smallest r connect (holders r connect rule criterion (top_of r connect n)) ≡ Some n
    unfolding smallest
    smallest_of_kept n hn k =
        go (find (λ m. list_all (lies_within r connect m) (holders r connect rule criterion (top_of r connect n)))
        (holders r connect rule criterion (top_of r connect n))) refl
      where
        there : IsAmong n (holders r connect rule criterion (top_of r connect n))
        there = among_holders n n hn hn k (inl refl)

        passes : list_all (lies_within r connect n) (holders r connect rule criterion (top_of r connect n)) ≡ true
        passes =
            all_from (lies_within r connect n) (holders r connect rule criterion (top_of r connect n))
            (λ m x. let h : IsHolder (top_of r connect n) m = holder_is (top_of r connect n) m x in
            within_from_above r connect n m plane hn h.node (top_inside n m hn h.node h.holds_it))

        go : (o : Option ℕ)
            → find (λ m. list_all (lies_within r connect m) (holders r connect rule criterion (top_of r connect n)))
            (holders r connect rule criterion (top_of r connect n)) ≡ o
            → find (λ m. list_all (lies_within r connect m) (holders r connect rule criterion (top_of r connect n)))
            (holders r connect rule criterion (top_of r connect n)) ≡ Some n
        go None e =
            absurd (true≢false (sym passes
            ∙ find_none (λ m. list_all (lies_within r connect m) (holders r connect rule criterion (top_of r connect n)))
            (holders r connect rule criterion (top_of r connect n)) n e there))
        go (Some m) e = e ∙ ap Some is_n
          where
            found : IsAmong m (holders r connect rule criterion (top_of r connect n))
                × IsTrue (list_all (lies_within r connect m) (holders r connect rule criterion (top_of r connect n)))
            found =
                find_some (λ m. list_all (lies_within r connect m) (holders r connect rule criterion (top_of r connect n)))
                (holders r connect rule criterion (top_of r connect n)) m e

            h : IsHolder (top_of r connect n) m
            h = holder_is (top_of r connect n) m found.0

            is_n : m ≡ n
            is_n =
                above_both r connect m n plane h.node hn (top_inside n m hn h.node h.holds_it)
                (above_from_within r connect m n plane h.node hn
                (all_gives (lies_within r connect m) (holders r connect rule criterion (top_of r connect n)) n found.1 there))

    -- the sum of the rises: of a root, and of a child that is kept
    pub rises_of_root : (n : ℕ) → n < length (nodes r connect) → parent_in (tree_of r connect).rows n ≡ no_node → is_kept r connect rule criterion n ≡ true
        → (f : ℕ → ℤ) → total f (holders r connect rule criterion (top_of r connect n)) ≡ f n
    unfolding holders
    rises_of_root n hn e k f =
        ap (total f) (filter_same_among (holds r connect rule criterion (top_of r connect n)) (λ m. m == n) (node_numbers r connect)
        (λ m x. same m (node_from_among r connect m x)))
        ∙ total_one f 0 (length (nodes r connect)) n (omega arith) (omega arith)
      where
        same : (m : ℕ) → m < length (nodes r connect) → holds r connect rule criterion (top_of r connect n) m ≡ (m == n)
        same m hm =
            same_bool (holds r connect rule criterion (top_of r connect n) m) (m == n)
            (λ h. eq-eqb m n (above_root n m e (top_inside n m hn hm
            (and_parts (is_kept r connect rule criterion m) (is_in_node r connect m (top_of r connect n)) h).1)))
            (λ h. let u : m ≡ n = eqb-true m n h in
            and_from (is_kept r connect rule criterion m) (is_in_node r connect m (top_of r connect n)) (ap (is_kept r connect rule criterion) u ∙ k)
            (in_top n m hn hm (inl u)))

    pub rises_of_kept : (n a : ℕ) → IsChild r connect n a → is_kept r connect rule criterion n ≡ true
        → (f : ℕ → ℤ) → total f (holders r connect rule criterion (top_of r connect n)) ≡ total f (holders r connect rule criterion (top_of r connect a)) +ℤ f n
    unfolding holders
    rises_of_kept n a c k f =
        let split : total f (filter (holds r connect rule criterion (top_of r connect n)) (node_numbers r connect))
        ≡ total f (filter (holds r connect rule criterion (top_of r connect a)) (node_numbers r connect)) +ℤ total f
        (filter (λ m. m == n) (node_numbers r connect)) =
        total_split f (holds r connect rule criterion (top_of r connect n)) (holds r connect rule criterion (top_of r connect a)) (λ m. m == n)
        (node_numbers r connect)
        (λ m x. of_parent m (node_from_among r connect m x)) (λ m x. of_child m (node_from_among r connect m x) (m == n) refl) in
        let one : total f (filter (λ m. m == n) (node_numbers r connect)) ≡ f n =
        total_one f 0 (length (nodes r connect)) n (omega arith) (omega (arith, c.node)) in
        split ∙ ap (λ (z : ℤ). total f (filter (holds r connect rule criterion (top_of r connect a)) (node_numbers r connect)) +ℤ z) one
      where
        apart : (m : ℕ) → is_in_node r connect m (top_of r connect a) ≡ true → m ≡ n → ⊥
        apart m h e = true≢false (sym h ∙ ap (λ (j : ℕ). is_in_node r connect j (top_of r connect a)) e ∙ not_in_parent n a c)

        of_parent : (m : ℕ) → m < length (nodes r connect) → holds r connect rule criterion (top_of r connect a) m ≡ true
            → (holds r connect rule criterion (top_of r connect n) m ≡ true) × ((m == n) ≡ false)
        of_parent m hm h =
            let both : (is_kept r connect rule criterion m ≡ true) × (is_in_node r connect m (top_of r connect a) ≡ true) =
            and_parts (is_kept r connect rule criterion m) (is_in_node r connect m (top_of r connect a)) h in (
              and_from (is_kept r connect rule criterion m) (is_in_node r connect m (top_of r connect n)) both.0
                  (in_child n a m c hm (apart m both.1) ∙ both.1),
              ne_eqb m n (apart m both.1),
            )

        of_child : (m : ℕ) → m < length (nodes r connect) → (b : Bool) → m == n ≡ b → holds r connect rule criterion (top_of r connect a) m ≡ false
            → holds r connect rule criterion (top_of r connect n) m ≡ (m == n)
        of_child m hm true u h =
            let e : m ≡ n = eqb-true m n u in
            and_from (is_kept r connect rule criterion m) (is_in_node r connect m (top_of r connect n)) (ap (is_kept r connect rule criterion) e ∙ k)
            (in_top n m c.node hm (inl e)) ∙ sym u
        of_child m hm false u h =
            ap (λ (b : Bool). is_kept r connect rule criterion m && b) (in_child n a m c hm (λ e. true≢false (sym (eq-eqb m n e) ∙ u))) ∙ h ∙ sym u
