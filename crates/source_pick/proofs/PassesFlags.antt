-- Which nodes the arrays show as sources.
use Rattle.std.proofs.Common.{◌≡◌, ℕ, ◌+◌, ◌*◌, ◌<◌, ◌≤◌, zero, suc, Bool, true, false, ◌&&◌, ◌||◌, not, List, [], ◌∷◌, length, map, refl, sym, ◌∙◌}
use Rattle.std.proofs.Common.{ap, subst, arith, ◌⊎◌, inl, inr, set, Result, Ok, Err, Vec, Global}
use Rattle.std.specs.Prelude.{unwrap_or, IfOk, Option, Some, slice_index, slice_index_or}
use Rattle.std.proofs.lemmas.Bool.{true≢false, and_right, not_from_true, false_from_ne_true, cases_order}
use Rattle.std.proofs.lemmas.List.{length-set}
use Rattle.std.proofs.lemmas.Option.{slice_get-get_or}
use Rattle.lemmas.proofs.Exported.{same_bool}
use Rattle.comp_tree.specs.declared.shape.Shape.{Shape}
use Rattle.comp_tree.specs.declared.shape.Connect.{Connect}
use Rattle.comp_tree.specs.declared.tree.NodeRow.{NodeRow}
use Rattle.comp_tree.specs.Raster.{Raster, IsPlane}
use Rattle.comp_tree.specs.ComponentTree.{ComponentTree, parent_in, no_node}
use Rattle.comp_tree.specs.Components.{nodes, tree_of}
use Rattle.comp_tree.specs.Laws.{parent_of_node}
use Rattle.comp_tree.proofs.Exported.{below_no_node}
use Rattle.node_sums.specs.declared.outline.Outline.{Outline}
use Rattle.node_sums.specs.Outlines.{outlines_in, AreOutlinesOfTree, ForEachPlaneOutlined}
use Rattle.node_sums.proofs.Exported.{rows_are, node_inside, filled}
use Rattle.source_pick.specs.declared.choice.Choice.{Choice}
use Rattle.source_pick.specs.declared.splitting.StrongChildren.{StrongChildren}
use Rattle.source_pick.specs.declared.splitting.StrongChildren.TheVariants.{Zero, One, Several}
use Rattle.source_pick.specs.Sources.{is_entry, entry_of, is_split, has_strong_sibling, contains_split, is_source}
use Rattle.source_pick.specs.Passes.{entry_number, AreEntries, AreStrong, IsStrongChild, HasTwoStrongChildren, HasStrongChildren, AreStrongChildCounts}
use Rattle.node_sums.specs.NodeNumbers.{IsOnWay}
use Rattle.source_pick.specs.Passes.{are_several, IsAboveSplit, AreAboveSplits, AreSources}
use Rattle.source_pick.proofs.NodesEntries.{IsEntryOf, entry_of-parts, entry_of-self, entry_of-found, entry_of_child}
use Rattle.source_pick.proofs.NodesSplits.{AreTwins, other_way, IsSplitNode, split_parts, split_from, split_entry, sibling_parts, sibling_from, ContainsSplit}
use Rattle.source_pick.proofs.NodesSplits.{contains_parts, contains_from}
use Rattle.source_pick.proofs.NodesSourcing.{source_from}
use Rattle.source_pick.proofs.PassesReadings.{HasTreeAndOutlines, numbers-length, tree-shape}
use Rattle.source_pick.proofs.PassesStrong.{entry_from_number}

-- ---- what the arrays say

-- the arrays are those of the nodes
pub record IsKnown (r : Raster) (connect : Connect) (choice : Choice) (tree : ComponentTree) (outlines : List Outline) (entries : List ℕ) (strong : List Bool)
    (children : List StrongChildren) (above : List Bool) : Type 0 where
  pub of : HasTreeAndOutlines r connect tree outlines
  pub entries_are : AreEntries choice tree outlines (length tree.rows) entries
  pub strong_are : AreStrong choice tree outlines (length tree.rows) strong
  pub children_are : AreStrongChildCounts tree.rows entries strong (length tree.rows) children
  pub above_are : AreAboveSplits tree.rows (map are_several children) above

two_from_several : (rows : List NodeRow) (entries : List ℕ) (strong : List Bool) (count m : ℕ) (c : StrongChildren)
    → HasStrongChildren rows entries strong count m c → are_several c ≡ true
    → HasTwoStrongChildren rows entries strong count m
two_from_several rows entries strong count m Zero h e = absurd (true≢false (sym e))
two_from_several rows entries strong count m One h e = absurd (true≢false (sym e))
two_from_several rows entries strong count m Several h e = h

several_from_two : (rows : List NodeRow) (entries : List ℕ) (strong : List Bool) (count m a b : ℕ) (c : StrongChildren)
    → HasStrongChildren rows entries strong count m c → a < b → b < count
    → IsStrongChild rows entries strong m a → IsStrongChild rows entries strong m b → are_several c ≡ true
several_from_two rows entries strong count m a b Zero h l u i j = absurd (h.none b u j)
several_from_two rows entries strong count m a b One h l u i j =
    let e : a ≡ h.first = h.only a (omega arith) i in
    let f : b ≡ h.first = h.only b u j in
    absurd (omega arith)
several_from_two rows entries strong count m a b Several h l u i j = refl

flag-is : (children : List StrongChildren) (m : ℕ) (d : StrongChildren) → m < length children
    → slice_index_or (map are_several children) m false ≡ are_several (slice_index_or children m d)
flag-is [] m d h = absurd (omega arith)
flag-is (x ∷ xs) zero d h = refl
flag-is (x ∷ xs) (suc m) d h = flag-is xs m d (omega arith)

module _ (r : Raster) (connect : Connect) (choice : Choice) (tree : ComponentTree) (outlines : List Outline) (entries : List ℕ) (strong : List Bool)
    (children : List StrongChildren) (above : List Bool)
    (k : IsKnown r connect choice tree outlines entries strong children above) where
  plane : IsPlane r
  plane = k.of.plane

  node : (n : ℕ) → n < length tree.rows → n < length (nodes r connect)
  node n h = node_inside r connect tree n k.of.tree_is h

  row : (n : ℕ) → n < length (nodes r connect) → n < length tree.rows
  row n h = let l : length tree.rows ≡ length (nodes r connect) = rows_are r connect tree k.of.tree_is in omega arith

  child_of : (n : ℕ) → parent_in tree.rows n ≡ parent_of_node r connect n
  child_of n = ap (λ (t : ComponentTree). parent_in t.rows n) k.of.tree_is

  entry_at : (m : ℕ) → m < length tree.rows → (slice_index entries m ≡ no_node → ⊥) → entry_of r connect choice m ≡ Some (slice_index entries m)
  entry_at m h some =
      entry_from_number r connect choice m (slice_index entries m) plane (node m h) (k.entries_are.each r connect k.of.tree_is k.of.outlines_are k.of.plane m h)
      some

  inner_entry : (m a : ℕ) → m < length tree.rows → a < length tree.rows → IsStrongChild tree.rows entries strong m a
      → entry_of r connect choice a ≡ Some (slice_index entries m)
  inner_entry m a hm ha i =
      entry_of-found r connect choice a (slice_index entries m) plane (node a ha)
      (entry_of_child r connect choice a m (slice_index entries m) (sym (child_of a) ∙ i.is_child) (node m hm)
      (entry_of-parts r connect choice m (slice_index entries m) plane (node m hm) (entry_at m hm i.has_entry)))

  twins_from_inner : (m a b : ℕ) → m < length tree.rows → a < length tree.rows → b < length tree.rows → a < b
      → IsStrongChild tree.rows entries strong m a → IsStrongChild tree.rows entries strong m b → AreTwins r connect choice m a b
  twins_from_inner m a b hm ha hb l i j = record {
    apart = λ e. absurd (omega arith);
    one_child = sym (child_of a) ∙ i.is_child;
    other_child = sym (child_of b) ∙ j.is_child;
    one_strong = sym (k.strong_are.each r connect k.of.tree_is k.of.outlines_are k.of.plane a ha) ∙ i.is_strong;
    other_strong = sym (k.strong_are.each r connect k.of.tree_is k.of.outlines_are k.of.plane b hb) ∙ j.is_strong;
    entry = slice_index entries m;
    one_entry = inner_entry m a hm ha i;
    other_entry = inner_entry m b hm hb j;
  }

  inner_from_twins : (m a b : ℕ) → m < length tree.rows → a < length (nodes r connect) → b < length (nodes r connect) → AreTwins r connect choice m a b
      → IsStrongChild tree.rows entries strong m a
  unfolding entry_number
  inner_from_twins m a b hm ha hb t = record {
    is_child = child_of a ∙ t.one_child;
    is_strong = k.strong_are.each r connect k.of.tree_is k.of.outlines_are k.of.plane a (row a ha) ∙ t.one_strong;
    has_entry = λ e. below_no_node r connect t.entry plane
        (entry_of-parts r connect choice m t.entry plane (node m hm) (split_entry r connect choice m a b plane (node m hm) ha hb t)).node
        (sym (k.entries_are.each r connect k.of.tree_is k.of.outlines_are k.of.plane m hm ∙ ap (λ (o : Option ℕ). unwrap_or o no_node)
        (split_entry r connect choice m a b plane (node m hm) ha hb t)) ∙ e);
  }

  child_state : (m : ℕ) → m < length tree.rows → HasStrongChildren tree.rows entries strong (length tree.rows) m (slice_index_or children m Zero)
  child_state m h =
      k.children_are.each m (slice_index_or children m Zero)
      (slice_get-get_or children m Zero (let l : length children ≡ length tree.rows = k.children_are.one_each in omega arith))

  several-is : (m : ℕ) → m < length tree.rows → are_several (slice_index_or children m Zero) ≡ is_split r connect choice m
  several-is m h = same_bool (are_several (slice_index_or children m Zero)) (is_split r connect choice m) there back
    where
      there : are_several (slice_index_or children m Zero) ≡ true → is_split r connect choice m ≡ true
      there e =
          let t : HasTwoStrongChildren tree.rows entries strong (length tree.rows) m =
          two_from_several tree.rows entries strong (length tree.rows) m (slice_index_or children m Zero) (child_state m h) e in
          let u : t.second < length tree.rows = t.below in
          let v : t.first < length tree.rows = omega (arith, t.apart) in
          split_from r connect choice m t.first t.second (node t.first v) (node t.second u) (twins_from_inner m t.first t.second h v u t.apart t.one t.other)

      back : is_split r connect choice m ≡ true → are_several (slice_index_or children m Zero) ≡ true
      back e = order (cases_order s.first s.second)
        where
          s : IsSplitNode r connect choice m
          s = split_parts r connect choice m e

          one : IsStrongChild tree.rows entries strong m s.first
          one = inner_from_twins m s.first s.second h s.first_node s.second_node s.twins

          other : IsStrongChild tree.rows entries strong m s.second
          other = inner_from_twins m s.second s.first h s.second_node s.first_node (other_way r connect choice m s.first s.second s.twins)

          order : (s.first ≡ s.second) ⊎ ((s.first < s.second) ⊎ (s.second < s.first)) → are_several (slice_index_or children m Zero) ≡ true
          order (inl f) = absurd (s.twins.apart f)
          order (inr (inl l)) =
              several_from_two tree.rows entries strong (length tree.rows) m s.first s.second (slice_index_or children m Zero) (child_state m h) l
              (row s.second s.second_node) one other
          order (inr (inr l)) =
              several_from_two tree.rows entries strong (length tree.rows) m s.second s.first (slice_index_or children m Zero) (child_state m h) l
              (row s.first s.first_node) other one

  split_flag : (m : ℕ) → m < length tree.rows → slice_index_or (map are_several children) m false ≡ is_split r connect choice m
  split_flag m h = flag-is children m Zero (let l : length children ≡ length tree.rows = k.children_are.one_each in omega arith) ∙ several-is m h

  pub several_read : (m : ℕ) (d : StrongChildren) → m < length tree.rows → are_several (slice_index_or children m d) ≡ is_split r connect choice m
  several_read m d h = sym (flag-is children m d (let l : length children ≡ length tree.rows = k.children_are.one_each in omega arith)) ∙ split_flag m h

  way_same : (m n : ℕ) → IsOnWay tree.rows m n → IsOnWay (tree_of r connect).rows m n
  way_same m n w = subst (λ (t : ComponentTree). IsOnWay t.rows m n) k.of.tree_is w

  way_back : (m n : ℕ) → IsOnWay (tree_of r connect).rows m n → IsOnWay tree.rows m n
  way_back m n w = subst (λ (t : ComponentTree). IsOnWay t.rows m n) (sym k.of.tree_is) w

  pub above-is : (n : ℕ) → n < length tree.rows → slice_index_or above n false ≡ contains_split r connect choice n
  above-is n h = same_bool (slice_index_or above n false) (contains_split r connect choice n) there back
    where
      there : slice_index_or above n false ≡ true → contains_split r connect choice n ≡ true
      there e =
          let s : IsAboveSplit tree.rows (map are_several children) n = k.above_are.sound n h e in
          contains_from r connect choice n plane (node n h)
          (record {
            split = s.split;
            node = node s.split s.inside;
            way = way_same n s.split s.on_way;
            is_split = sym (split_flag s.split s.inside) ∙ s.is_split;
          })

      back : contains_split r connect choice n ≡ true → slice_index_or above n false ≡ true
      back e =
          let s : ContainsSplit r connect choice n = contains_parts r connect choice n plane (node n h) e in
          k.above_are.complete n
          (record {
            split = s.split;
            inside = row s.split s.node;
            on_way = way_back n s.split s.way;
            is_split = split_flag s.split (row s.split s.node) ∙ s.is_split;
          })

  -- ---- each exit of the test

  pub exit_above : (n : ℕ) → n < length tree.rows → slice_index_or above n false ≡ true → false ≡ is_source r connect choice n
  unfolding is_source
  exit_above n h e =
      sym (and_right (is_entry r connect choice n || has_strong_sibling r connect choice n) (not (contains_split r connect choice n))
      (not_from_true (contains_split r connect choice n) (sym (above-is n h) ∙ e)))

  pub exit_entry : (n : ℕ) → n < length tree.rows → slice_index_or above n false ≡ false → slice_index entries n ≡ n → true ≡ is_source r connect choice n
  exit_entry n h e f =
      let own : entry_of r connect choice n ≡ Some (slice_index entries n) = entry_at n h (λ g. below_no_node r connect n plane (node n h) (sym f ∙ g)) in
      let parts : IsEntryOf r connect choice n (slice_index entries n) = entry_of-parts r connect choice n (slice_index entries n) plane (node n h) own in
      sym (source_from r connect choice n (record {
        stands = inl (subst (λ (x : ℕ). is_entry r connect choice x ≡ true) f parts.entry);
        whole = sym (above-is n h) ∙ e;
      }))

  no_entry : (n : ℕ) → n < length tree.rows → (slice_index entries n ≡ n → ⊥) → is_entry r connect choice n ≡ false
  unfolding entry_number
  no_entry n h other =
      false_from_ne_true (is_entry r connect choice n)
      (λ e. other (k.entries_are.each r connect k.of.tree_is k.of.outlines_are k.of.plane n h ∙ ap (λ (o : Option ℕ). unwrap_or o no_node)
      (entry_of-self r connect choice n plane (node n h) e)))

  by_sibling : (n : ℕ) (b : Bool) → n < length tree.rows → slice_index_or above n false ≡ false → (slice_index entries n ≡ n → ⊥)
      → b ≡ has_strong_sibling r connect choice n
      → b ≡ is_source r connect choice n
  unfolding is_source
  by_sibling n b h e other f = rw (no_entry n h other, sym (above-is n h) ∙ e) (f ∙ last (has_strong_sibling r connect choice n))
    where
      last : (t : Bool) → t ≡ (t && true)
      last true = refl
      last false = refl

  pub exit_weak : (n : ℕ) → n < length tree.rows → slice_index_or above n false ≡ false → (slice_index entries n ≡ n → ⊥)
      → slice_index_or strong n false ≡ false → false ≡ is_source r connect choice n
  exit_weak n h e other weak =
      by_sibling n false h e other
      (sym (false_from_ne_true (has_strong_sibling r connect choice n)
      (λ s. true≢false (sym (sibling_parts r connect choice n plane (node n h) s).strong ∙ sym
      (k.strong_are.each r connect k.of.tree_is k.of.outlines_are k.of.plane n h) ∙ weak))))

  pub exit_root : (n p : ℕ) → n < length tree.rows → slice_index_or above n false ≡ false → (slice_index entries n ≡ n → ⊥) → p ≡ parent_of_node r connect n
      → p ≡ no_node
      → false ≡ is_source r connect choice n
  exit_root n p h e other is_parent none =
      by_sibling n false h e other
      (sym (false_from_ne_true (has_strong_sibling r connect choice n)
      (λ s. below_no_node r connect (parent_of_node r connect n) plane (sibling_parts r connect choice n plane (node n h) s).node (sym is_parent ∙ none))))

  pub exit_child : (n p : ℕ) (b : Bool) → n < length tree.rows → slice_index_or above n false ≡ false → (slice_index entries n ≡ n → ⊥)
      → slice_index_or strong n false ≡ true
      → p ≡ parent_of_node r connect n → p < n → b ≡ is_split r connect choice p → b ≡ is_source r connect choice n
  exit_child n p b h e other on is_parent l f =
      by_sibling n b h e other (f ∙ same_bool (is_split r connect choice p) (has_strong_sibling r connect choice n) there back)
    where
      there : is_split r connect choice p ≡ true → has_strong_sibling r connect choice n ≡ true
      there s = sibling_from r connect choice n plane (node n h) (record {
        node = subst (λ (x : ℕ). x < length (nodes r connect)) is_parent (node p (omega arith));
        strong = sym (k.strong_are.each r connect k.of.tree_is k.of.outlines_are k.of.plane n h) ∙ on;
        split = subst (λ (x : ℕ). is_split r connect choice x ≡ true) is_parent s;
      })

      back : has_strong_sibling r connect choice n ≡ true → is_split r connect choice p ≡ true
      back s = subst (λ (x : ℕ). is_split r connect choice x ≡ true) (sym is_parent) (sibling_parts r connect choice n plane (node n h) s).split

-- ---- the flags

pub sources_none : (choice : Choice) (tree : ComponentTree) (outlines : List Outline) (flags : List Bool) → length flags ≡ length tree.rows
    → AreSources choice tree outlines 0 flags
sources_none choice tree outlines flags l = record { one_each = l; each = λ r connect of_tree of_outlines is_plane n h. absurd (omega arith) }

pub sources_more : (choice : Choice) (tree : ComponentTree) (outlines : List Outline) (k : ℕ) (x : Bool) (flags : List Bool) → AreSources choice tree outlines k flags
    → k < length tree.rows
    → ForEachPlaneOutlined tree outlines (λ r connect. IsPlane r → x ≡ is_source r connect choice k) → AreSources choice tree outlines (k + 1) (set flags k x)
sources_more choice tree outlines k x flags h inside here = record {
  one_each = length-set flags k x ∙ h.one_each;
  each = λ r connect of_tree of_outlines is_plane. filled flags k x false (is_source r connect choice)
      (let l : length flags ≡ length tree.rows = h.one_each in omega arith) (h.each r connect of_tree of_outlines is_plane)
      (here r connect of_tree of_outlines is_plane);
}

pub sources_up_to : (choice : Choice) (tree : ComponentTree) (outlines : List Outline) (j k : ℕ) (flags : List Bool) → AreSources choice tree outlines k flags → j ≤ k
    → AreSources choice tree outlines j flags
sources_up_to choice tree outlines j k flags h l =
    record { one_each = h.one_each; each = λ r connect of_tree of_outlines is_plane n m. h.each r connect of_tree of_outlines is_plane n (omega arith) }

-- ---- the plane

-- any plane with this tree and these outlines
pub of_same : (r : Raster) (connect : Connect) (tree : ComponentTree) (outlines : List Outline) → AreOutlinesOfTree tree outlines → tree ≡ tree_of r connect
    → outlines ≡ outlines_in r connect → HasTreeAndOutlines r connect tree outlines
of_same r connect tree outlines t e f = record { plane = plane; tree_is = e; outlines_are = f }
  where
    plane : IsPlane r
    plane =
        sym (numbers-length r connect tree e) ∙ numbers-length t.plane t.of_plane.connect tree t.of_plane.tree_is ∙ t.one_each
        ∙ ap (λ (s : Shape). s.width * s.height) (sym (tree-shape t.plane t.of_plane.connect tree t.of_plane.tree_is) ∙ tree-shape r connect tree e)

-- ---- as the code answers

pub flags_exact : {E : Type 0} (result : Result (Vec Bool Global) E) (choice : Choice) (tree : ComponentTree) (outlines : List Outline) (entries : List ℕ)
    (strong : List Bool)
    → AreEntries choice tree outlines (length tree.rows) entries → AreStrong choice tree outlines (length tree.rows) strong
    → IfOk result (λ flags. (c : Choice) (s : List Outline) → AreEntries c tree s (length tree.rows) entries → AreStrong c tree s (length tree.rows) strong
    → AreSources c tree s (length tree.rows) flags.items)
    → IfOk result (λ flags. AreSources choice tree outlines (length tree.rows) flags.items)
flags_exact (Ok v) choice tree outlines entries strong a b h = h choice outlines a b
flags_exact (Err d) choice tree outlines entries strong a b h = tt
