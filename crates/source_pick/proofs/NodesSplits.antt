-- Strong nodes, splits and what contains them, from node to parent.
use Rattle.std.proofs.Common.{◌≡◌, ℕ, ◌<◌, Bool, true, false, ◌&&◌, not, length, refl, sym, ◌∙◌, ap, subst, arith, ◌⊎◌, inl, inr}
use Rattle.std.specs.Prelude.{◌==◌, Option, Some, None}
use Rattle.std.specs.List.{list_any}
use Rattle.std.specs.Option.{option_map_or}
use Rattle.std.proofs.lemmas.Bool.{true≢false, eqb-true, eq-eqb, ne_eqb, and_parts, and_from, not-true, not_from_false, cases_eq}
use Rattle.lemmas.proofs.Exported.{IsWitness, any_from_among, witness_from_any}
use Rattle.comp_tree.specs.declared.shape.Connect.{Connect}
use Rattle.comp_tree.specs.Raster.{Raster, IsPlane}
use Rattle.comp_tree.specs.ComponentTree.{no_node}
use Rattle.comp_tree.specs.Components.{nodes, tree_of}
use Rattle.comp_tree.specs.Laws.{IsAncestor, parent_of_node}
use Rattle.comp_tree.proofs.Exported.{below_no_node, within_from_test, test_from_within}
use Rattle.node_sums.proofs.Exported.{among_nodes, goes_down, node_from_among}
use Rattle.source_pick.specs.declared.choice.Choice.{Choice}
use Rattle.source_pick.specs.Sources.{is_large, entry_of, has_contrast, is_strong, share_entry, are_strong_children, is_split, has_strong_sibling}
use Rattle.source_pick.specs.Sources.{contains_split}
use Rattle.comp_tree.specs.Nesting.{node_numbers, lies_within}
use Rattle.node_sums.specs.NodeNumbers.{IsOnWay}
use Rattle.node_sums.proofs.Exported.{within_from_way, way_from_within, HasParent, way_up}
use Rattle.node_sums.proofs.Exported.{row_from_node}
use Rattle.source_pick.proofs.NodesEntries.{IsEntryOf, entry_of-parts, entry_of-found, entry_of_child}

-- ---- tests over all nodes

-- a node that passes
pub record Passing (r : Raster) (connect : Connect) (test : ℕ → Bool) : Type 0 where
  pub it : ℕ
  pub node : it < length (nodes r connect)
  pub passes : test it ≡ true

pub passing : (r : Raster) (connect : Connect) (test : ℕ → Bool) → list_any test (node_numbers r connect) ≡ true → Passing r connect test
passing r connect test h =
    let w : IsWitness test (node_numbers r connect) = witness_from_any test (node_numbers r connect) h in
    record { it = w.it; node = node_from_among r connect w.it w.among; passes = w.passes }

pub any_node : (r : Raster) (connect : Connect) (test : ℕ → Bool) (n : ℕ) → n < length (nodes r connect) → test n ≡ true
    → list_any test (node_numbers r connect) ≡ true
any_node r connect test n hn h = any_from_among test n (node_numbers r connect) (among_nodes r connect n hn) h

-- ---- strong nodes

-- the entry of a strong node
pub record HasEntry (r : Raster) (connect : Connect) (choice : Choice) (n : ℕ) : Type 0 where
  pub it : ℕ
  pub is : entry_of r connect choice n ≡ Some it

pub strong_entry : (r : Raster) (connect : Connect) (choice : Choice) (n : ℕ) → is_strong r connect choice n ≡ true → HasEntry r connect choice n
unfolding is_strong
strong_entry r connect choice n h = go (entry_of r connect choice n) refl h
  where
    go : (o : Option ℕ) → entry_of r connect choice n ≡ o → option_map_or (λ e. is_large r connect choice n && has_contrast r connect choice n e) o false ≡ true
        → HasEntry r connect choice n
    go None u k = absurd (true≢false (sym k))
    go (Some e) u k = record { it = e; is = u }

pub strong-in : (r : Raster) (connect : Connect) (choice : Choice) (n e : ℕ) → entry_of r connect choice n ≡ Some e
    → is_strong r connect choice n ≡ (is_large r connect choice n && has_contrast r connect choice n e)
unfolding is_strong
strong-in r connect choice n e h = ap (λ (o : Option ℕ). option_map_or (λ x. is_large r connect choice n && has_contrast r connect choice n x) o false) h

pub strong-none : (r : Raster) (connect : Connect) (choice : Choice) (n : ℕ) → entry_of r connect choice n ≡ None → is_strong r connect choice n ≡ false
unfolding is_strong
strong-none r connect choice n h = ap (λ (o : Option ℕ). option_map_or (λ x. is_large r connect choice n && has_contrast r connect choice n x) o false) h

-- ---- two strong children

-- their entry
record Shared (r : Raster) (connect : Connect) (choice : Choice) (a b : ℕ) : Type 0 where
  pub it : ℕ
  pub one : entry_of r connect choice a ≡ Some it
  pub other : entry_of r connect choice b ≡ Some it

shared : (r : Raster) (connect : Connect) (choice : Choice) (a b : ℕ) → share_entry r connect choice a b ≡ true → Shared r connect choice a b
unfolding share_entry
shared r connect choice a b h = go (entry_of r connect choice a) (entry_of r connect choice b) refl refl h
  where
    go : (o p : Option ℕ) → entry_of r connect choice a ≡ o → entry_of r connect choice b ≡ p
        → option_map_or (λ d. option_map_or (λ e. d == e) p false) o false ≡ true → Shared r connect choice a b
    go None p u v k = absurd (true≢false (sym k))
    go (Some d) None u v k = absurd (true≢false (sym k))
    go (Some d) (Some e) u v k = record { it = d; one = u; other = v ∙ ap Some (sym (eqb-true d e k)) }

share : (r : Raster) (connect : Connect) (choice : Choice) (a b e : ℕ) → entry_of r connect choice a ≡ Some e → entry_of r connect choice b ≡ Some e
    → share_entry r connect choice a b ≡ true
unfolding share_entry
share r connect choice a b e u v = rw (u, v) (eq-eqb e e refl)

pub record AreTwins (r : Raster) (connect : Connect) (choice : Choice) (m a b : ℕ) : Type 0 where
  pub apart : a ≡ b → ⊥
  pub one_child : parent_of_node r connect a ≡ m
  pub other_child : parent_of_node r connect b ≡ m
  pub one_strong : is_strong r connect choice a ≡ true
  pub other_strong : is_strong r connect choice b ≡ true
  pub entry : ℕ
  pub one_entry : entry_of r connect choice a ≡ Some entry
  pub other_entry : entry_of r connect choice b ≡ Some entry

record Six (a b c d e f : Bool) : Type 0 where
  pub one : a ≡ true
  pub two : b ≡ true
  pub three : c ≡ true
  pub four : d ≡ true
  pub five : e ≡ true
  pub six : f ≡ true

six_parts : (a b c d e f : Bool) → a && b && c && d && e && f ≡ true → Six a b c d e f
six_parts a b c d e f h =
    let p5 = and_parts (a && b && c && d && e) f h in
    let p4 = and_parts (a && b && c && d) e p5.0 in
    let p3 = and_parts (a && b && c) d p4.0 in
    let p2 = and_parts (a && b) c p3.0 in
    let p1 = and_parts a b p2.0 in
    record { one = p1.0; two = p1.1; three = p2.1; four = p3.1; five = p4.1; six = p5.1 }

six_from : (a b c d e f : Bool) → Six a b c d e f → a && b && c && d && e && f ≡ true
six_from a b c d e f k =
    and_from (a && b && c && d && e) f
    (and_from (a && b && c && d) e (and_from (a && b && c) d (and_from (a && b) c (and_from a b k.one k.two) k.three) k.four) k.five) k.six

not_same : (a b : ℕ) → not (a == b) ≡ true → a ≡ b → ⊥
not_same a b h e = true≢false (sym (eq-eqb a b e) ∙ not-true (a == b) h)

pub twins : (r : Raster) (connect : Connect) (choice : Choice) (m a b : ℕ) → are_strong_children r connect choice m a b ≡ true → AreTwins r connect choice m a b
unfolding are_strong_children
twins r connect choice m a b h =
    let k =
    six_parts (not (a == b)) (parent_of_node r connect a == m) (parent_of_node r connect b == m) (is_strong r connect choice a) (is_strong r connect choice b)
    (share_entry r connect choice a b) h in
    let s : Shared r connect choice a b = shared r connect choice a b k.six in
    record {
      apart = not_same a b k.one;
      one_child = eqb-true (parent_of_node r connect a) m k.two;
      other_child = eqb-true (parent_of_node r connect b) m k.three;
      one_strong = k.four;
      other_strong = k.five;
      entry = s.it;
      one_entry = s.one;
      other_entry = s.other;
    }

pub from_twins : (r : Raster) (connect : Connect) (choice : Choice) (m a b : ℕ) → AreTwins r connect choice m a b
    → are_strong_children r connect choice m a b ≡ true
unfolding are_strong_children
from_twins r connect choice m a b k =
    six_from (not (a == b)) (parent_of_node r connect a == m) (parent_of_node r connect b == m) (is_strong r connect choice a) (is_strong r connect choice b)
    (share_entry r connect choice a b)
    (record {
      one = not_from_false (a == b) (ne_eqb a b k.apart);
      two = eq-eqb (parent_of_node r connect a) m k.one_child;
      three = eq-eqb (parent_of_node r connect b) m k.other_child;
      four = k.one_strong;
      five = k.other_strong;
      six = share r connect choice a b k.entry k.one_entry k.other_entry;
    })

pub other_way : (r : Raster) (connect : Connect) (choice : Choice) (m a b : ℕ) → AreTwins r connect choice m a b → AreTwins r connect choice m b a
other_way r connect choice m a b k = record {
  apart = λ e. k.apart (sym e);
  one_child = k.other_child;
  other_child = k.one_child;
  one_strong = k.other_strong;
  other_strong = k.one_strong;
  entry = k.entry;
  one_entry = k.other_entry;
  other_entry = k.one_entry;
}

-- ---- splits

pub record IsSplitNode (r : Raster) (connect : Connect) (choice : Choice) (m : ℕ) : Type 0 where
  pub first : ℕ
  pub second : ℕ
  pub first_node : first < length (nodes r connect)
  pub second_node : second < length (nodes r connect)
  pub twins : AreTwins r connect choice m first second

pub split_parts : (r : Raster) (connect : Connect) (choice : Choice) (m : ℕ) → is_split r connect choice m ≡ true → IsSplitNode r connect choice m
unfolding is_split
split_parts r connect choice m h =
    let a : Passing r connect (λ x. list_any (are_strong_children r connect choice m x) (node_numbers r connect)) =
    passing r connect (λ x. list_any (are_strong_children r connect choice m x) (node_numbers r connect)) h in
    let b : Passing r connect (are_strong_children r connect choice m a.it) = passing r connect (are_strong_children r connect choice m a.it) a.passes in
    record { first = a.it; second = b.it; first_node = a.node; second_node = b.node; twins = twins r connect choice m a.it b.it b.passes }

pub split_from : (r : Raster) (connect : Connect) (choice : Choice) (m a b : ℕ) → a < length (nodes r connect) → b < length (nodes r connect)
    → AreTwins r connect choice m a b → is_split r connect choice m ≡ true
unfolding is_split
split_from r connect choice m a b ha hb k =
    any_node r connect (λ x. list_any (are_strong_children r connect choice m x) (node_numbers r connect)) a ha
    (any_node r connect (are_strong_children r connect choice m a) b hb (from_twins r connect choice m a b k))

-- a split lies in the entry of its children
pub split_entry : (r : Raster) (connect : Connect) (choice : Choice) (m a b : ℕ) → IsPlane r → m < length (nodes r connect) → a < length (nodes r connect)
    → b < length (nodes r connect)
    → (k : AreTwins r connect choice m a b) → entry_of r connect choice m ≡ Some k.entry
split_entry r connect choice m a b plane hm ha hb k =
    entry_of-found r connect choice m k.entry plane hm (record { node = at_a.node; entry = at_a.entry; way = up at_a.way at_b.way })
  where
    at_a : IsEntryOf r connect choice a k.entry
    at_a = entry_of-parts r connect choice a k.entry plane ha k.one_entry

    at_b : IsEntryOf r connect choice b k.entry
    at_b = entry_of-parts r connect choice b k.entry plane hb k.other_entry

    -- from an ancestor of a child to the parent
    through : (x : ℕ) → parent_of_node r connect x ≡ m → IsAncestor (tree_of r connect).rows k.entry x → IsOnWay (tree_of r connect).rows k.entry m
    through x e u =
        let p : HasParent (tree_of r connect).rows k.entry x = way_up (tree_of r connect).rows k.entry x u in
        subst (λ (y : ℕ). IsOnWay (tree_of r connect).rows k.entry y) (sym p.is_parent ∙ e) p.way

    up : IsOnWay (tree_of r connect).rows k.entry a → IsOnWay (tree_of r connect).rows k.entry b → IsOnWay (tree_of r connect).rows k.entry m
    up (inl e) (inl f) = absurd (k.apart (e ∙ sym f))
    up (inl e) (inr v) = through b k.other_child v
    up (inr u) w = through a k.one_child u

-- ---- siblings

-- a parent is none, or a node
pub parent_cases : (r : Raster) (connect : Connect) (n : ℕ) → IsPlane r → n < length (nodes r connect)
    → (parent_of_node r connect n ≡ no_node) ⊎ (parent_of_node r connect n < length (nodes r connect))
parent_cases r connect n plane hn = go ((goes_down r connect plane).parents n (row_from_node r connect n hn))
  where
    go : (parent_of_node r connect n ≡ no_node) ⊎ (parent_of_node r connect n < n)
        → (parent_of_node r connect n ≡ no_node) ⊎ (parent_of_node r connect n < length (nodes r connect))
    go (inl e) = inl e
    go (inr l) = inr (omega arith)

pub record HasSibling (r : Raster) (connect : Connect) (choice : Choice) (n : ℕ) : Type 0 where
  pub node : parent_of_node r connect n < length (nodes r connect)
  pub strong : is_strong r connect choice n ≡ true
  pub split : is_split r connect choice (parent_of_node r connect n) ≡ true

pub sibling_parts : (r : Raster) (connect : Connect) (choice : Choice) (n : ℕ) → IsPlane r → n < length (nodes r connect)
    → has_strong_sibling r connect choice n ≡ true → HasSibling r connect choice n
unfolding has_strong_sibling
sibling_parts r connect choice n plane hn h = record {
  node = inside (parent_cases r connect n plane hn);
  strong = k.one_strong;
  split = split_from r connect choice (parent_of_node r connect n) n b.it hn b.node k;
}
  where
    parts : (not (parent_of_node r connect n == no_node) ≡ true)
        × (list_any (are_strong_children r connect choice (parent_of_node r connect n) n) (node_numbers r connect) ≡ true)
    parts =
        and_parts (not (parent_of_node r connect n == no_node))
        (list_any (are_strong_children r connect choice (parent_of_node r connect n) n) (node_numbers r connect)) h

    b : Passing r connect (are_strong_children r connect choice (parent_of_node r connect n) n)
    b = passing r connect (are_strong_children r connect choice (parent_of_node r connect n) n) parts.1

    k : AreTwins r connect choice (parent_of_node r connect n) n b.it
    k = twins r connect choice (parent_of_node r connect n) n b.it b.passes

    inside : (parent_of_node r connect n ≡ no_node) ⊎ (parent_of_node r connect n < length (nodes r connect))
        → parent_of_node r connect n < length (nodes r connect)
    inside (inl e) = absurd (not_same (parent_of_node r connect n) no_node parts.0 e)
    inside (inr l) = l

pub sibling_from_twins : (r : Raster) (connect : Connect) (choice : Choice) (n b : ℕ) → IsPlane r → parent_of_node r connect n < length (nodes r connect)
    → b < length (nodes r connect)
    → AreTwins r connect choice (parent_of_node r connect n) n b → has_strong_sibling r connect choice n ≡ true
unfolding has_strong_sibling
sibling_from_twins r connect choice n b plane hp hb k =
    and_from (not (parent_of_node r connect n == no_node))
    (list_any (are_strong_children r connect choice (parent_of_node r connect n) n) (node_numbers r connect))
    (not_from_false (parent_of_node r connect n == no_node)
    (ne_eqb (parent_of_node r connect n) no_node (λ e. below_no_node r connect (parent_of_node r connect n) plane hp e)))
    (any_node r connect (are_strong_children r connect choice (parent_of_node r connect n) n) b hb
    (from_twins r connect choice (parent_of_node r connect n) n b k))

pub sibling_from : (r : Raster) (connect : Connect) (choice : Choice) (n : ℕ) → IsPlane r → n < length (nodes r connect)
    → HasSibling r connect choice n → has_strong_sibling r connect choice n ≡ true
sibling_from r connect choice n plane hn h = go (cases_eq s.first n)
  where
    s : IsSplitNode r connect choice (parent_of_node r connect n)
    s = split_parts r connect choice (parent_of_node r connect n) h.split

    own_entry : entry_of r connect choice n ≡ Some s.twins.entry
    own_entry =
        entry_of-found r connect choice n s.twins.entry plane hn
        (entry_of_child r connect choice n (parent_of_node r connect n) s.twins.entry refl h.node
        (entry_of-parts r connect choice (parent_of_node r connect n) s.twins.entry plane h.node
        (split_entry r connect choice (parent_of_node r connect n) s.first s.second plane h.node s.first_node s.second_node s.twins)))

    go : (s.first ≡ n) ⊎ (s.first ≡ n → ⊥) → has_strong_sibling r connect choice n ≡ true
    go (inl e) = sibling_from_twins r connect choice n s.second plane h.node s.second_node
        (subst (λ (x : ℕ). AreTwins r connect choice (parent_of_node r connect n) x s.second) e s.twins)
    go (inr d) = sibling_from_twins r connect choice n s.first plane h.node s.first_node (record {
      apart = λ e. d (sym e);
      one_child = refl;
      other_child = s.twins.one_child;
      one_strong = h.strong;
      other_strong = s.twins.one_strong;
      entry = s.twins.entry;
      one_entry = own_entry;
      other_entry = s.twins.one_entry;
    })

-- ---- what contains a split

pub record ContainsSplit (r : Raster) (connect : Connect) (choice : Choice) (n : ℕ) : Type 0 where
  pub split : ℕ
  pub node : split < length (nodes r connect)
  pub way : IsOnWay (tree_of r connect).rows n split
  pub is_split : is_split r connect choice split ≡ true

pub contains_parts : (r : Raster) (connect : Connect) (choice : Choice) (n : ℕ) → IsPlane r → n < length (nodes r connect)
    → contains_split r connect choice n ≡ true → ContainsSplit r connect choice n
unfolding contains_split
contains_parts r connect choice n plane hn h =
    let m : Passing r connect (λ x. lies_within r connect x n && is_split r connect choice x) =
    passing r connect (λ x. lies_within r connect x n && is_split r connect choice x) h in
    let parts = and_parts (lies_within r connect m.it n) (is_split r connect choice m.it) m.passes in
    record {
      split = m.it;
      node = m.node;
      way = way_from_within r connect n m.it plane hn m.node (within_from_test r connect m.it n parts.0);
      is_split = parts.1;
    }

pub contains_from : (r : Raster) (connect : Connect) (choice : Choice) (n : ℕ) → IsPlane r → n < length (nodes r connect)
    → ContainsSplit r connect choice n → contains_split r connect choice n ≡ true
unfolding contains_split
contains_from r connect choice n plane hn k =
    any_node r connect (λ x. lies_within r connect x n && is_split r connect choice x) k.split k.node
    (and_from (lies_within r connect k.split n) (is_split r connect choice k.split)
    (test_from_within r connect k.split n (within_from_way r connect n k.split plane hn k.node k.way)) k.is_split)
