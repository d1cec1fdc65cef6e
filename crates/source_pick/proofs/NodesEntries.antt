-- Entries are disjoint, and a node lies in the entry of its parent.
use Rattle.std.proofs.Common.{◌≡◌, ℕ, ◌+◌, ◌<◌, ◌≤◌, Bool, true, false, ◌&&◌, ◌||◌, length, refl, sym, ◌∙◌, ap, subst, arith, ◌⊎◌, inl, inr}
use Rattle.std.specs.Prelude.{◌≤ℤ◌, ◌<ℤ◌, int_le, int_lt, ◌==◌, Option, Some, None}
use Rattle.std.proofs.lemmas.Int.{ints}
use Rattle.std.proofs.lemmas.Bool.{true≢false, eqb-true, and_parts, and_from, or_cases}
use Rattle.lemmas.proofs.Exported.{IsAmong, among-range, among_from_range, find_none, find_some, int_le-true, int_lt-true}
use Rattle.comp_tree.specs.declared.shape.Connect.{Connect}
use Rattle.comp_tree.specs.Raster.{Raster, IsPlane}
use Rattle.comp_tree.specs.ComponentTree.{no_node}
use Rattle.comp_tree.specs.Components.{nodes, is_in_node, tree_of}
use Rattle.comp_tree.specs.Laws.{IsAncestor, top_of, parent_of_node}
use Rattle.comp_tree.proofs.Exported.{below_no_node, within_from_test, test_from_within, top_inside}
use Rattle.source_pick.specs.declared.choice.Choice.{Choice}
use Rattle.source_pick.specs.Sources.{is_large, is_lowest, is_entry, entry_of}
use Rattle.comp_tree.specs.Nesting.{node_numbers, level_of_node, lies_within}
use Rattle.node_sums.specs.NodeNumbers.{IsOnWay}
use Rattle.source_pick.specs.Laws.{EntriesAreDisjoint}
use Rattle.node_sums.proofs.Exported.{within_from_way, way_from_shared, way_from_within, HasParent, way_up, way_of_child, level_on_way, node_from_row, row_from_node}

-- the parts of the definition
pub record EntryParts (r : Raster) (connect : Connect) (choice : Choice) (n : ℕ) : Type 0 where
  pub high : choice.threshold ≤ℤ level_of_node r connect n
  pub lowest : (parent_of_node r connect n ≡ no_node) ⊎ (level_of_node r connect (parent_of_node r connect n) <ℤ choice.threshold)
  pub large : is_large r connect choice n ≡ true

pub entry_parts : (r : Raster) (connect : Connect) (choice : Choice) (n : ℕ) → is_entry r connect choice n ≡ true → EntryParts r connect choice n
unfolding is_entry is_lowest
entry_parts r connect choice n h = record {
  high = int_le-true choice.threshold (level_of_node r connect n) front.0;
  lowest = split (or_cases (parent_of_node r connect n == no_node) (int_lt (level_of_node r connect (parent_of_node r connect n)) choice.threshold) front.1);
  large = whole.1;
}
  where
    low : Bool
    low = (parent_of_node r connect n == no_node) || int_lt (level_of_node r connect (parent_of_node r connect n)) choice.threshold

    whole : (int_le choice.threshold
        (level_of_node r connect n) && ((parent_of_node r connect n == no_node) || int_lt (level_of_node r connect (parent_of_node r connect n))
        choice.threshold) ≡ true)
        × (is_large r connect choice n ≡ true)
    whole =
        and_parts (int_le choice.threshold (level_of_node r connect n) && ((parent_of_node r connect n == no_node) || int_lt
        (level_of_node r connect (parent_of_node r connect n)) choice.threshold))
        (is_large r connect choice n) h

    front : (int_le choice.threshold (level_of_node r connect n) ≡ true)
        × (((parent_of_node r connect n == no_node) || int_lt (level_of_node r connect (parent_of_node r connect n)) choice.threshold) ≡ true)
    front =
        and_parts (int_le choice.threshold (level_of_node r connect n))
        ((parent_of_node r connect n == no_node) || int_lt (level_of_node r connect (parent_of_node r connect n)) choice.threshold) whole.0

    split : (parent_of_node r connect n == no_node ≡ true) ⊎ (int_lt (level_of_node r connect (parent_of_node r connect n)) choice.threshold ≡ true)
        → (parent_of_node r connect n ≡ no_node) ⊎ (level_of_node r connect (parent_of_node r connect n) <ℤ choice.threshold)
    split (inl e) = inl (eqb-true (parent_of_node r connect n) no_node e)
    split (inr l) = inr (int_lt-true (level_of_node r connect (parent_of_node r connect n)) choice.threshold l)

-- no entry lies strictly within another: the levels on the way to its parent are at least the threshold
entries_not_nested : (r : Raster) (connect : Connect) (choice : Choice) (d e : ℕ) → IsPlane r → d < length (nodes r connect) → e < length (nodes r connect)
    → is_entry r connect choice d ≡ true → is_entry r connect choice e ≡ true → IsAncestor (tree_of r connect).rows d e → ⊥
entries_not_nested r connect choice d e plane hd he is_d is_e a = go (entry_parts r connect choice e is_e).lowest
  where
    p : HasParent (tree_of r connect).rows d e
    p = way_up (tree_of r connect).rows d e a

    hp : p.up < length (nodes r connect)
    hp = node_from_row r connect p.up p.inside

    go : (parent_of_node r connect e ≡ no_node) ⊎ (level_of_node r connect (parent_of_node r connect e) <ℤ choice.threshold) → ⊥
    go (inl none) = below_no_node r connect p.up plane hp (sym p.is_parent ∙ none)
    go (inr low) =
        let here : level_of_node r connect p.up <ℤ choice.threshold = subst (λ (x : ℕ). level_of_node r connect x <ℤ choice.threshold) p.is_parent low in
        let high : choice.threshold ≤ℤ level_of_node r connect d = (entry_parts r connect choice d is_d).high in
        let rise : level_of_node r connect d ≤ℤ level_of_node r connect p.up = level_on_way r connect d p.up plane hd hp p.way in
        absurd (omega (arith, ints))

-- node n lies in the entry e
pub record IsEntryOf (r : Raster) (connect : Connect) (choice : Choice) (n e : ℕ) : Type 0 where
  pub node : e < length (nodes r connect)
  pub entry : is_entry r connect choice e ≡ true
  pub way : IsOnWay (tree_of r connect).rows e n

pub entries_that_share : (r : Raster) (connect : Connect) (choice : Choice) (d e q : ℕ) → IsPlane r → d < length (nodes r connect)
    → e < length (nodes r connect)
    → is_entry r connect choice d ≡ true → is_entry r connect choice e ≡ true → is_in_node r connect d q ≡ true → is_in_node r connect e q ≡ true → d ≡ e
entries_that_share r connect choice d e q plane hd he is_d is_e in_d in_e = go (way_from_shared r connect d e q plane hd he in_d in_e)
  where
    go : IsOnWay (tree_of r connect).rows d e ⊎ IsOnWay (tree_of r connect).rows e d → d ≡ e
    go (inl (inl f)) = sym f
    go (inl (inr a)) = absurd (entries_not_nested r connect choice d e plane hd he is_d is_e a)
    go (inr (inl f)) = f
    go (inr (inr a)) = absurd (entries_not_nested r connect choice e d plane he hd is_e is_d a)

pub entries_are_disjoint : EntriesAreDisjoint
entries_are_disjoint r connect choice m n plane hm hn is_m is_n apart =
    λ q in_m in_n. apart (entries_that_share r connect choice m n q plane hm hn is_m is_n in_m in_n)

-- a node lies in one entry at most
pub entry_same : (r : Raster) (connect : Connect) (choice : Choice) (n d e : ℕ) → IsPlane r → n < length (nodes r connect)
    → IsEntryOf r connect choice n d → IsEntryOf r connect choice n e → d ≡ e
entry_same r connect choice n d e plane hn a b =
    entries_that_share r connect choice d e (top_of r connect n) plane a.node b.node a.entry b.entry
    (within_from_way r connect d n plane a.node hn a.way (top_of r connect n) (top_inside r connect n hn))
    (within_from_way r connect e n plane b.node hn b.way (top_of r connect n) (top_inside r connect n hn))

-- ---- the entry of a node

pub entry_of-parts : (r : Raster) (connect : Connect) (choice : Choice) (n e : ℕ) → IsPlane r → n < length (nodes r connect)
    → entry_of r connect choice n ≡ Some e → IsEntryOf r connect choice n e
unfolding entry_of
entry_of-parts r connect choice n e plane hn h = record {
  node = node;
  entry = parts.0;
  way = way_from_within r connect e n plane node hn (within_from_test r connect n e parts.1);
}
  where
    found : IsAmong e (node_numbers r connect) × (is_entry r connect choice e && lies_within r connect n e ≡ true)
    found = find_some (λ x. is_entry r connect choice x && lies_within r connect n x) (node_numbers r connect) e h

    parts : (is_entry r connect choice e ≡ true) × (lies_within r connect n e ≡ true)
    parts = and_parts (is_entry r connect choice e) (lies_within r connect n e) found.1

    node : e < length (nodes r connect)
    node = let k : (0 ≤ e) × (e < 0 + length (nodes r connect)) = among_from_range 0 (length (nodes r connect)) e found.0 in omega arith

pub entry_of-none : (r : Raster) (connect : Connect) (choice : Choice) (n e : ℕ) → IsPlane r → n < length (nodes r connect)
    → entry_of r connect choice n ≡ None → IsEntryOf r connect choice n e → ⊥
unfolding entry_of
entry_of-none r connect choice n e plane hn h k =
    true≢false (sym (and_from (is_entry r connect choice e) (lies_within r connect n e) k.entry
    (test_from_within r connect n e (within_from_way r connect e n plane k.node hn k.way)))
    ∙ find_none (λ x. is_entry r connect choice x && lies_within r connect n x) (node_numbers r connect) e h
    (among-range 0 (length (nodes r connect)) e (omega arith) (let l : e < length (nodes r connect) = k.node in omega arith)))

pub entry_of-found : (r : Raster) (connect : Connect) (choice : Choice) (n e : ℕ) → IsPlane r → n < length (nodes r connect)
    → IsEntryOf r connect choice n e → entry_of r connect choice n ≡ Some e
entry_of-found r connect choice n e plane hn k = go (entry_of r connect choice n) refl
  where
    go : (o : Option ℕ) → entry_of r connect choice n ≡ o → entry_of r connect choice n ≡ Some e
    go None u = absurd (entry_of-none r connect choice n e plane hn u k)
    go (Some d) u = u ∙ ap Some (entry_same r connect choice n d e plane hn (entry_of-parts r connect choice n d plane hn u) k)

pub entry_of-no : (r : Raster) (connect : Connect) (choice : Choice) (n : ℕ) → IsPlane r → n < length (nodes r connect)
    → ((e : ℕ) → IsEntryOf r connect choice n e → ⊥) → entry_of r connect choice n ≡ None
entry_of-no r connect choice n plane hn none = go (entry_of r connect choice n) refl
  where
    go : (o : Option ℕ) → entry_of r connect choice n ≡ o → entry_of r connect choice n ≡ None
    go None u = u
    go (Some d) u = absurd (none d (entry_of-parts r connect choice n d plane hn u))

-- ---- from the parent

pub entry_of-self : (r : Raster) (connect : Connect) (choice : Choice) (n : ℕ) → IsPlane r → n < length (nodes r connect)
    → is_entry r connect choice n ≡ true → entry_of r connect choice n ≡ Some n
entry_of-self r connect choice n plane hn h = entry_of-found r connect choice n n plane hn (record { node = hn; entry = h; way = inl refl })

-- a node that is no entry, and lies in one, has a parent that lies in it
pub entry_above : (r : Raster) (connect : Connect) (choice : Choice) (n e : ℕ) → is_entry r connect choice n ≡ false
    → IsEntryOf r connect choice n e → HasParent (tree_of r connect).rows e n
entry_above r connect choice n e isnt k = go k.way
  where
    go : IsOnWay (tree_of r connect).rows e n → HasParent (tree_of r connect).rows e n
    go (inl f) = absurd (true≢false (sym k.entry ∙ ap (is_entry r connect choice) (sym f) ∙ isnt))
    go (inr a) = way_up (tree_of r connect).rows e n a

pub entry_of-root : (r : Raster) (connect : Connect) (choice : Choice) (n : ℕ) → IsPlane r → n < length (nodes r connect)
    → is_entry r connect choice n ≡ false → parent_of_node r connect n ≡ no_node → entry_of r connect choice n ≡ None
entry_of-root r connect choice n plane hn isnt root = entry_of-no r connect choice n plane hn none
  where
    none : (e : ℕ) → IsEntryOf r connect choice n e → ⊥
    none e k =
        let p : HasParent (tree_of r connect).rows e n = entry_above r connect choice n e isnt k in
        below_no_node r connect p.up plane (node_from_row r connect p.up p.inside) (sym p.is_parent ∙ root)

pub entry_of_child : (r : Raster) (connect : Connect) (choice : Choice) (n p e : ℕ) → parent_of_node r connect n ≡ p → p < length (nodes r connect)
    → IsEntryOf r connect choice p e → IsEntryOf r connect choice n e
entry_of_child r connect choice n p e is_parent hp k = record {
  node = k.node;
  entry = k.entry;
  way = inr (way_of_child (tree_of r connect).rows e n p is_parent (row_from_node r connect p hp) k.way);
}

pub entry_of_parent : (r : Raster) (connect : Connect) (choice : Choice) (n p e : ℕ) → is_entry r connect choice n ≡ false → parent_of_node r connect n ≡ p
    → IsEntryOf r connect choice n e → IsEntryOf r connect choice p e
entry_of_parent r connect choice n p e isnt is_parent k =
    let h : HasParent (tree_of r connect).rows e n = entry_above r connect choice n e isnt k in
    record { node = k.node; entry = k.entry; way = subst (λ (x : ℕ). IsOnWay (tree_of r connect).rows e x) (sym h.is_parent ∙ is_parent) h.way }

pub entry_of-child : (r : Raster) (connect : Connect) (choice : Choice) (n p : ℕ) → IsPlane r → n < length (nodes r connect)
    → is_entry r connect choice n ≡ false → parent_of_node r connect n ≡ p → p < length (nodes r connect)
    → entry_of r connect choice n ≡ entry_of r connect choice p
entry_of-child r connect choice n p plane hn isnt is_parent hp = go (entry_of r connect choice p) refl
  where
    go : (o : Option ℕ) → entry_of r connect choice p ≡ o → entry_of r connect choice n ≡ entry_of r connect choice p
    go None u =
        entry_of-no r connect choice n plane hn
        (λ e k. entry_of-none r connect choice p e plane hp u (entry_of_parent r connect choice n p e isnt is_parent k)) ∙ sym u
    go (Some e) u =
        entry_of-found r connect choice n e plane hn (entry_of_child r connect choice n p e is_parent hp (entry_of-parts r connect choice p e plane hp u))
        ∙ sym u
