-- The steps of the passes that find the entries of nodes, and the strong nodes.
use Rattle.std.proofs.Common.{◌≡◌, ℕ, ◌+◌, ◌^◌, ◌<◌, ◌≤◌, Bool, true, false, ◌&&◌, List, length, refl, sym, ◌∙◌, ap, arith, set, lit<}
use Rattle.std.specs.Prelude.{ℤ, pos, negsuc, ◌*ℤ◌, int_le, int_lt, nat_le, Option, Some, None, unwrap_or, unsigned_abs}
use Rattle.std.proofs.lemmas.Bool.{true≢false, eq-eqb, ne_eqb, lt-leb, le-leb, and_left, and_right}
use Rattle.std.proofs.lemmas.Int.{to_z-of_z, to_z_pos, fits_signed_mul}
use Rattle.std.proofs.lemmas.List.{length-set}
use mir.Syntax.{w64, w128}
use mir.Val.{SFits, of_z, to_z}
use lib.Signed.{le_z}
use Rattle.lemmas.proofs.Exported.{int_le-false, int_lt-from_not_le, int_lt-true}
use Rattle.comp_tree.specs.declared.shape.Connect.{Connect}
use Rattle.comp_tree.specs.Raster.{Raster, IsPlane}
use Rattle.comp_tree.specs.ComponentTree.{ComponentTree, no_node}
use Rattle.comp_tree.specs.Components.{nodes}
use Rattle.comp_tree.specs.Laws.{parent_of_node}
use Rattle.comp_tree.proofs.Exported.{below_no_node}
use Rattle.node_sums.specs.declared.outline.Outline.{Outline}
use Rattle.node_sums.specs.Sums.{sums_of}
use Rattle.node_sums.specs.Outlines.{outline_of, ForEachPlaneOutlined}
use Rattle.node_sums.specs.Flux.{flux_of}
use Rattle.source_pick.specs.declared.choice.Choice.{Choice}
use Rattle.source_pick.specs.Sources.{is_large, is_lowest, is_entry, entry_of, has_contrast, is_strong}
use Rattle.comp_tree.specs.Nesting.{level_of_node}
use Rattle.source_pick.specs.Passes.{entry_number, AreEntries, AreStrong}
use Rattle.source_pick.proofs.NodesEntries.{entry_of-parts, entry_of-self, entry_of-root, entry_of-child}
use Rattle.source_pick.proofs.NodesSplits.{strong-in, strong-none}
use Rattle.node_sums.proofs.Exported.{filled}
use Rattle.source_pick.proofs.PassesReadings.{wide}

-- ---- size

pub small_area : (r : Raster) (connect : Connect) (choice : Choice) (n : ℕ) (s : Outline) → s ≡ outline_of (sums_of r connect n) → s.area < choice.min_area
    → false ≡ is_large r connect choice n
unfolding is_large
small_area r connect choice n s e h =
    let k : nat_le choice.min_area (sums_of r connect n).area ≡ false =
    ap (λ (x : Outline). nat_le choice.min_area x.area) (sym e) ∙ lt-leb choice.min_area s.area h in
    sym (and_left (nat_le choice.min_area (sums_of r connect n).area) (int_le choice.min_flux (flux_of r connect n)) k)

pub large_area : (r : Raster) (connect : Connect) (choice : Choice) (n : ℕ) (s : Outline) (b : Bool) → s ≡ outline_of (sums_of r connect n) → choice.min_area ≤ s.area
    → b ≡ int_le choice.min_flux (flux_of r connect n) → b ≡ is_large r connect choice n
unfolding is_large
large_area r connect choice n s b e h f =
    let k : nat_le choice.min_area (sums_of r connect n).area ≡ true =
    ap (λ (x : Outline). nat_le choice.min_area x.area) (sym e) ∙ le-leb choice.min_area s.area h in
    rw k f

-- ---- entries

pub lowest_at_root : (r : Raster) (connect : Connect) (choice : Choice) (n p : ℕ) → p ≡ parent_of_node r connect n → p ≡ no_node
    → true ≡ is_lowest r connect choice n
unfolding is_lowest
lowest_at_root r connect choice n p e f = rw (eq-eqb (parent_of_node r connect n) no_node (sym e ∙ f)) refl

pub lowest_at_child : (r : Raster) (connect : Connect) (choice : Choice) (n p : ℕ) (b : Bool) → p ≡ parent_of_node r connect n → (p ≡ no_node → ⊥)
    → b ≡ int_lt (level_of_node r connect p) choice.threshold → b ≡ is_lowest r connect choice n
unfolding is_lowest
lowest_at_child r connect choice n p b e some f =
    rw (ne_eqb (parent_of_node r connect n) no_node (λ h. some (e ∙ h))) (f ∙ ap (λ (x : ℕ). int_lt (level_of_node r connect x) choice.threshold) e)

pub entry_below : (r : Raster) (connect : Connect) (choice : Choice) (n : ℕ) → int_lt (level_of_node r connect n) choice.threshold ≡ true
    → false ≡ is_entry r connect choice n
unfolding is_entry
entry_below r connect choice n h =
    let k : int_le choice.threshold (level_of_node r connect n) ≡ false =
    int_le-false choice.threshold (level_of_node r connect n) (int_lt-true (level_of_node r connect n) choice.threshold h) in
    rw k refl

pub entry_not_lowest : (r : Raster) (connect : Connect) (choice : Choice) (n : ℕ) → false ≡ is_lowest r connect choice n → false ≡ is_entry r connect choice n
unfolding is_entry
entry_not_lowest r connect choice n h =
    sym (and_left (int_le choice.threshold (level_of_node r connect n) && is_lowest r connect choice n) (is_large r connect choice n)
    (and_right (int_le choice.threshold (level_of_node r connect n)) (is_lowest r connect choice n) (sym h)))

not_less : (a b : ℤ) → int_lt a b ≡ false → int_le b a ≡ true
not_less a b h = go (int_le b a) refl
  where
    go : (t : Bool) → int_le b a ≡ t → int_le b a ≡ true
    go true u = u
    go false u = absurd (true≢false (sym (int_lt-from_not_le b a u) ∙ h))

pub entry_if_large : (r : Raster) (connect : Connect) (choice : Choice) (n : ℕ) (b : Bool) → int_lt (level_of_node r connect n) choice.threshold ≡ false
    → true ≡ is_lowest r connect choice n
    → b ≡ is_large r connect choice n → b ≡ is_entry r connect choice n
unfolding is_entry
entry_if_large r connect choice n b h l e =
    rw (not_less (level_of_node r connect n) choice.threshold h, sym l) e

-- ---- the numbers of entries

pub number_of_self : (r : Raster) (connect : Connect) (choice : Choice) (n : ℕ) → IsPlane r → n < length (nodes r connect) → true ≡ is_entry r connect choice n
    → n ≡ entry_number r connect choice n
unfolding entry_number
number_of_self r connect choice n plane hn h = ap (λ (o : Option ℕ). unwrap_or o no_node) (sym (entry_of-self r connect choice n plane hn (sym h)))

pub number_of_root : (r : Raster) (connect : Connect) (choice : Choice) (n p : ℕ) → IsPlane r → n < length (nodes r connect)
    → false ≡ is_entry r connect choice n
    → p ≡ parent_of_node r connect n → p ≡ no_node → no_node ≡ entry_number r connect choice n
unfolding entry_number
number_of_root r connect choice n p plane hn h e f =
    ap (λ (o : Option ℕ). unwrap_or o no_node) (sym (entry_of-root r connect choice n plane hn (sym h) (sym e ∙ f)))

pub number_of_child : (r : Raster) (connect : Connect) (choice : Choice) (n p x : ℕ) → IsPlane r → n < length (nodes r connect)
    → false ≡ is_entry r connect choice n
    → p ≡ parent_of_node r connect n → p < n → x ≡ entry_number r connect choice p → x ≡ entry_number r connect choice n
unfolding entry_number
number_of_child r connect choice n p x plane hn h e l f =
    f ∙ ap (λ (o : Option ℕ). unwrap_or o no_node) (sym (entry_of-child r connect choice n p plane hn (sym h) (sym e) (omega arith)))

pub entry_from_number : (r : Raster) (connect : Connect) (choice : Choice) (n x : ℕ) → IsPlane r → n < length (nodes r connect)
    → x ≡ entry_number r connect choice n
    → (x ≡ no_node → ⊥) → entry_of r connect choice n ≡ Some x
unfolding entry_number
entry_from_number r connect choice n x plane hn e some = go (entry_of r connect choice n) refl
  where
    go : (o : Option ℕ) → entry_of r connect choice n ≡ o → entry_of r connect choice n ≡ Some x
    go None u = absurd (some (e ∙ ap (λ (o : Option ℕ). unwrap_or o no_node) u))
    go (Some d) u = u ∙ ap Some (sym (e ∙ ap (λ (o : Option ℕ). unwrap_or o no_node) u))

pub none_from_number : (r : Raster) (connect : Connect) (choice : Choice) (n x : ℕ) → IsPlane r → n < length (nodes r connect)
    → x ≡ entry_number r connect choice n
    → x ≡ no_node → entry_of r connect choice n ≡ None
unfolding entry_number
none_from_number r connect choice n x plane hn e f = go (entry_of r connect choice n) refl
  where
    go : (o : Option ℕ) → entry_of r connect choice n ≡ o → entry_of r connect choice n ≡ None
    go None u = u
    go (Some d) u =
        absurd (below_no_node r connect d plane (entry_of-parts r connect choice n d plane hn u).node
        (sym (e ∙ ap (λ (o : Option ℕ). unwrap_or o no_node) u) ∙ f))

pub entries_none : (choice : Choice) (tree : ComponentTree) (outlines : List Outline) (entries : List ℕ) → length entries ≡ length tree.rows
    → AreEntries choice tree outlines 0 entries
entries_none choice tree outlines entries l = record { one_each = l; each = λ r connect of_tree of_outlines is_plane n h. absurd (omega arith) }

pub entries_more : (choice : Choice) (tree : ComponentTree) (outlines : List Outline) (k x : ℕ) (entries : List ℕ) → AreEntries choice tree outlines k entries
    → k < length tree.rows
    → ForEachPlaneOutlined tree outlines (λ r connect. IsPlane r → x ≡ entry_number r connect choice k) → AreEntries choice tree outlines (k + 1) (set entries k x)
entries_more choice tree outlines k x entries h inside here = record {
  one_each = length-set entries k x ∙ h.one_each;
  each = λ r connect of_tree of_outlines is_plane. filled entries k x 0 (entry_number r connect choice)
      (let l : length entries ≡ length tree.rows = h.one_each in omega arith) (h.each r connect of_tree of_outlines is_plane)
      (here r connect of_tree of_outlines is_plane);
}

pub entries_up_to : (choice : Choice) (tree : ComponentTree) (outlines : List Outline) (j k : ℕ) (entries : List ℕ) → AreEntries choice tree outlines k entries → j ≤ k
    → AreEntries choice tree outlines j entries
entries_up_to choice tree outlines j k entries h l =
    record { one_each = h.one_each; each = λ r connect of_tree of_outlines is_plane n m. h.each r connect of_tree of_outlines is_plane n (omega arith) }

-- ---- strong nodes

pub weak_outside : (r : Raster) (connect : Connect) (choice : Choice) (n : ℕ) → entry_of r connect choice n ≡ None → false ≡ is_strong r connect choice n
weak_outside r connect choice n h = sym (strong-none r connect choice n h)

pub weak_small : (r : Raster) (connect : Connect) (choice : Choice) (n e : ℕ) → entry_of r connect choice n ≡ Some e → false ≡ is_large r connect choice n
    → false ≡ is_strong r connect choice n
weak_small r connect choice n e h k =
    sym (strong-in r connect choice n e h ∙ and_left (is_large r connect choice n) (has_contrast r connect choice n e) (sym k))

pub strong_if : (r : Raster) (connect : Connect) (choice : Choice) (n e : ℕ) (b : Bool) → entry_of r connect choice n ≡ Some e
    → true ≡ is_large r connect choice n
    → b ≡ has_contrast r connect choice n e → b ≡ is_strong r connect choice n
strong_if r connect choice n e b h k f = f ∙ ap (λ (x : Bool). x && has_contrast r connect choice n e) k ∙ sym (strong-in r connect choice n e h)

pub strong_nodes_none : (choice : Choice) (tree : ComponentTree) (outlines : List Outline) (strong : List Bool) → length strong ≡ length tree.rows
    → AreStrong choice tree outlines 0 strong
strong_nodes_none choice tree outlines strong l = record { one_each = l; each = λ r connect of_tree of_outlines is_plane n h. absurd (omega arith) }

pub strong_nodes_more : (choice : Choice) (tree : ComponentTree) (outlines : List Outline) (k : ℕ) (x : Bool) (strong : List Bool)
    → AreStrong choice tree outlines k strong → k < length tree.rows
    → ForEachPlaneOutlined tree outlines (λ r connect. IsPlane r → x ≡ is_strong r connect choice k) → AreStrong choice tree outlines (k + 1) (set strong k x)
strong_nodes_more choice tree outlines k x strong h inside here = record {
  one_each = length-set strong k x ∙ h.one_each;
  each = λ r connect of_tree of_outlines is_plane. filled strong k x false (is_strong r connect choice)
      (let l : length strong ≡ length tree.rows = h.one_each in omega arith) (h.each r connect of_tree of_outlines is_plane)
      (here r connect of_tree of_outlines is_plane);
}

pub strong_nodes_up_to : (choice : Choice) (tree : ComponentTree) (outlines : List Outline) (j k : ℕ) (strong : List Bool) → AreStrong choice tree outlines k strong
    → j ≤ k → AreStrong choice tree outlines j strong
strong_nodes_up_to choice tree outlines j k strong h l =
    record { one_each = h.one_each; each = λ r connect of_tree of_outlines is_plane n m. h.each r connect of_tree of_outlines is_plane n (omega arith) }

-- ---- the contrast, as the code computes it

abs_at_most : (z : ℤ) → SFits w64 z → unsigned_abs z ≤ 2 ^ 63
abs_at_most (pos n) f = let k : n < 2 ^ 63 = f.sfits in omega arith
abs_at_most (negsuc n) f = let k : n < 2 ^ 63 = f.sfits in omega arith

pub part_fits : (contrast : ℕ) (flux : ℤ) → contrast < 2 ^ 32 → SFits w64 flux → SFits w128 (pos contrast *ℤ flux)
part_fits contrast flux l f =
    fits_signed_mul w128 (pos contrast) flux (2 ^ 32) (2 ^ 63) (omega arith) (abs_at_most flux f) (lit< tt)

pub product-read : (contrast : ℕ) (flux : ℤ) → contrast < 2 ^ 32 → SFits w64 flux
    → to_z w128 contrast *ℤ to_z w128 (of_z w128 (to_z w64 (of_z w64 flux))) ≡ pos contrast *ℤ flux
product-read contrast flux l f = rw (wide flux f, to_z_pos w128 contrast (omega arith)) refl

pub contrast-read : (r : Raster) (connect : Connect) (choice : Choice) (n e : ℕ) (whole part : ℤ) → choice.contrast < 2 ^ 32 → SFits w64 whole → SFits w64 part
    → whole ≡ flux_of r connect e → part ≡ flux_of r connect n
    → le_z (to_z w128 (of_z w128 (to_z w128 choice.contrast *ℤ to_z w128 (of_z w128 (to_z w64 (of_z w64 whole))))))
    (to_z w128 (of_z w128 (pos 1000 *ℤ to_z w128 (of_z w128 (to_z w64 (of_z w64 part))))))
    ≡ has_contrast r connect choice n e
unfolding has_contrast
contrast-read r connect choice n e whole part l f g u v =
    let a : to_z w128 (of_z w128 (to_z w128 choice.contrast *ℤ to_z w128 (of_z w128 (to_z w64 (of_z w64 whole))))) ≡ pos choice.contrast *ℤ whole =
    ap (λ (z : ℤ). to_z w128 (of_z w128 z)) (product-read choice.contrast whole l f)
    ∙ to_z-of_z w128 (pos choice.contrast *ℤ whole) (part_fits choice.contrast whole l f) in
    let b : to_z w128 (of_z w128 (pos 1000 *ℤ to_z w128 (of_z w128 (to_z w64 (of_z w64 part))))) ≡ pos 1000 *ℤ part =
    ap (λ (z : ℤ). to_z w128 (of_z w128 (pos 1000 *ℤ z))) (wide part g) ∙ to_z-of_z w128 (pos 1000 *ℤ part) (part_fits 1000 part (lit< tt) g) in
    ap (λ (z : ℤ). int_le z (to_z w128 (of_z w128 (pos 1000 *ℤ to_z w128 (of_z w128 (to_z w64 (of_z w64 part))))))) a
    ∙ ap (int_le (pos choice.contrast *ℤ whole)) b
    ∙ ap (λ (z : ℤ). int_le (pos choice.contrast *ℤ z) (pos 1000 *ℤ part)) u
    ∙ ap (λ (z : ℤ). int_le (pos choice.contrast *ℤ flux_of r connect e) (pos 1000 *ℤ z)) v
