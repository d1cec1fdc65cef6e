-- The boxes that the loop over a tree's nodes has named so far.
use Rattle.std.proofs.Common.{◌≡◌, ℕ, ◌+◌, ◌<◌, ◌≤◌, ◌↔◌, Bool, true, false, cond, ◌&&◌, not, List, [], ◌∷◌, ◌++◌, length, get_or, map, take, take_all, refl, sym, ◌∙◌, ap, subst, arith}
use Rattle.std.specs.Prelude.{IsTrue, ℤ, filter}
use Rattle.std.specs.List.{All, enumerate_from}
use Rattle.std.proofs.lemmas.Bool.{and_left}
use Rattle.std.proofs.lemmas.List.{take_more, map-append}
use Rattle.std.proofs.lemmas.List.Elements.{filter-append, All-nil, All-same, All-push}
use Rattle.std.proofs.lemmas.List.FromFn.{length-enumerate_from, get_or-enumerate_from}
use Rattle.lemmas.proofs.Exported.{same_bool}
use Rattle.comp_tree.specs.declared.shape.Shape.{Shape}
use Rattle.comp_tree.specs.declared.tree.NodeRow.{NodeRow}
use Rattle.comp_tree.specs.Windows.{Box}
use Rattle.node_sums.specs.declared.outline.Outline.{Outline}
use Rattle.tile_laws.specs.declared.extents.Extent.{Extent}
use Rattle.tile_laws.specs.Extents.{extent_box, box_extent}
use Rattle.tile_laws.specs.Knowing.{node_box, IsSettled, IsWholeAt}
use Rattle.tile_laws.specs.Opening.{is_whole_node, is_box_settled, open_among, open_extents, IsBoxOf}
use Rattle.tile_laws.proofs.NodeBoxes.{AreOpenBoxes}
use Rattle.tile_laws.proofs.Testing.{whole_test_is_exact, settled_test_is_exact}

-- the boxes that were named of the first n nodes
pub record AreOpened (threshold : ℤ) (rows : List NodeRow) (outlines : List Outline) (left top : ℕ) (whole : Shape) (core sure : Box) (n : ℕ) (boxes : List Extent)
    : Type 0 where
  pub told : AreOpenBoxes threshold rows outlines left top whole core sure n boxes
  pub exact : boxes ≡ open_among threshold rows left top whole core sure (take n (enumerate_from 0 outlines))
  pub inside : All (λ found. IsBoxOf whole (extent_box found)) boxes

-- a test of the code that answers for the same statement as one of the definitions
pub whole_told : (threshold : ℤ) (rows : List NodeRow) (n : ℕ) (result answer : Bool) → IsTrue result ↔ IsWholeAt threshold rows n → result ≡ answer
    → is_whole_node threshold rows n ≡ answer
whole_told threshold rows n result answer says is =
    sym (same_bool result (is_whole_node threshold rows n) (λ k. (whole_test_is_exact threshold rows n).1 (says.0 k))
    (λ k. says.1 ((whole_test_is_exact threshold rows n).0 k)))
    ∙ is

pub settled_told : (whole : Shape) (core sure part box : Box) (result answer : Bool) → part ≡ box → IsBoxOf whole part
    → IsTrue result ↔ IsSettled whole core sure part → result ≡ answer → is_box_settled whole core sure box ≡ answer
settled_told whole core sure part box result answer same of says is =
    subst (λ (b : Box). is_box_settled whole core sure b ≡ answer) same
    (sym (same_bool result (is_box_settled whole core sure part) (λ k. (settled_test_is_exact whole core sure part of).1 (says.0 k))
    (λ k. says.1 ((settled_test_is_exact whole core sure part of).0 k)))
    ∙ is)

module _ (threshold : ℤ) (rows : List NodeRow) (outlines : List Outline) (left top : ℕ) (whole : Shape) (core sure : Box) where
  among_append : (xs : List (ℕ × Outline)) (x : ℕ × Outline)
      → open_among threshold rows left top whole core sure (xs ++ x ∷ [])
      ≡ open_among threshold rows left top whole core sure xs ++ open_among threshold rows left top whole core sure (x ∷ [])
  unfolding open_among
  among_append xs x =
      ap (map (λ e. box_extent (node_box left top e.1)))
      (filter-append (λ e. is_whole_node threshold rows e.0 && not (is_box_settled whole core sure (node_box left top e.1))) xs (x ∷ []))
      ∙ map-append (λ e. box_extent (node_box left top e.1))
      (filter (λ e. is_whole_node threshold rows e.0 && not (is_box_settled whole core sure (node_box left top e.1))) xs)
      (filter (λ e. is_whole_node threshold rows e.0 && not (is_box_settled whole core sure (node_box left top e.1))) (x ∷ []))

  taken : (n : ℕ) (e : Outline) → n < length outlines
      → open_among threshold rows left top whole core sure (take (n + 1) (enumerate_from 0 outlines))
      ≡ open_among threshold rows left top whole core sure (take n (enumerate_from 0 outlines))
      ++ open_among threshold rows left top whole core sure ((n, get_or outlines n e) ∷ [])
  taken n e within =
      ap (open_among threshold rows left top whole core sure)
      (take_more (enumerate_from 0 outlines) n (0, e) (omega (arith, within, length-enumerate_from 0 outlines))
      ∙ ap (λ (x : ℕ × Outline). take n (enumerate_from 0 outlines) ++ x ∷ [])
      (get_or-enumerate_from 0 outlines n (0, e) within ∙ ap (λ (m : ℕ). (m, get_or outlines n e)) (omega arith)))
      ∙ among_append (take n (enumerate_from 0 outlines)) (n, get_or outlines n e)

  -- one node, whose box is named, or isn't
  one_named : (n : ℕ) (s : Outline) → is_whole_node threshold rows n ≡ true → is_box_settled whole core sure (node_box left top s) ≡ false
      → open_among threshold rows left top whole core sure ((n, s) ∷ []) ≡ box_extent (node_box left top s) ∷ []
  unfolding open_among
  one_named n s is_whole free =
      subst (λ (a : Bool). map (λ (e : ℕ × Outline). box_extent (node_box left top e.1))
      (cond (a && not (is_box_settled whole core sure (node_box left top s))) ((n, s) ∷ []) []) ≡ box_extent (node_box left top s) ∷ []) (sym is_whole)
      (subst (λ (b : Bool). map (λ (e : ℕ × Outline). box_extent (node_box left top e.1)) (cond (true && not b) ((n, s) ∷ []) [])
      ≡ box_extent (node_box left top s) ∷ []) (sym free) refl)

  none_named : (n : ℕ) (s : Outline) → (is_whole_node threshold rows n && not (is_box_settled whole core sure (node_box left top s))) ≡ false
      → open_among threshold rows left top whole core sure ((n, s) ∷ []) ≡ []
  unfolding open_among
  none_named n s no_box =
      subst (λ (a : Bool). map (λ (e : ℕ × Outline). box_extent (node_box left top e.1)) (cond a ((n, s) ∷ []) []) ≡ []) (sym no_box) refl

  pub none_opened_yet : (now : List Extent) → AreOpenBoxes threshold rows outlines left top whole core sure 0 now → now ≡ []
      → AreOpened threshold rows outlines left top whole core sure 0 now
  unfolding open_among
  none_opened_yet now told none = record {
    told = told;
    exact = none;
    inside = All-same (λ found. IsBoxOf whole (extent_box found)) now [] none (All-nil (λ found. IsBoxOf whole (extent_box found)));
  }

  pub one_more : (n : ℕ) (e : Outline) (boxes now : List Extent) (part : Extent) → AreOpened threshold rows outlines left top whole core sure n boxes
      → AreOpenBoxes threshold rows outlines left top whole core sure (n + 1) now → n < length outlines → now ≡ boxes ++ part ∷ []
      → is_whole_node threshold rows n ≡ true → is_box_settled whole core sure (node_box left top (get_or outlines n e)) ≡ false
      → extent_box part ≡ node_box left top (get_or outlines n e) → IsBoxOf whole (extent_box part)
      → AreOpened threshold rows outlines left top whole core sure (n + 1) now
  one_more n e boxes now part before told within pushed is_whole free box of = record {
    told = told;
    exact =
        pushed
        ∙ ap (λ (x : Extent). boxes ++ x ∷ []) (ap box_extent box)
        ∙ ap (λ (xs : List Extent). xs ++ box_extent (node_box left top (get_or outlines n e)) ∷ []) before.exact
        ∙ ap (λ (xs : List Extent). open_among threshold rows left top whole core sure (take n (enumerate_from 0 outlines)) ++ xs)
        (sym (one_named n (get_or outlines n e) is_whole free))
        ∙ sym (taken n e within);
    inside =
        All-same (λ found. IsBoxOf whole (extent_box found)) now (boxes ++ part ∷ []) pushed
        (All-push (λ found. IsBoxOf whole (extent_box found)) boxes part before.inside of);
  }

  pub no_more : (n : ℕ) (e : Outline) (boxes now : List Extent) → AreOpened threshold rows outlines left top whole core sure n boxes
      → AreOpenBoxes threshold rows outlines left top whole core sure (n + 1) now → n < length outlines → now ≡ boxes
      → (is_whole_node threshold rows n && not (is_box_settled whole core sure (node_box left top (get_or outlines n e)))) ≡ false
      → AreOpened threshold rows outlines left top whole core sure (n + 1) now
  no_more n e boxes now before told within same no_box = record {
    told = told;
    exact =
        same ∙ before.exact ∙ sym (nothing (open_among threshold rows left top whole core sure (take n (enumerate_from 0 outlines))))
        ∙ ap (λ (xs : List Extent). open_among threshold rows left top whole core sure (take n (enumerate_from 0 outlines)) ++ xs)
        (sym (none_named n (get_or outlines n e) no_box))
        ∙ sym (taken n e within);
    inside = All-same (λ found. IsBoxOf whole (extent_box found)) now boxes same before.inside;
  }
    where
      nothing : (xs : List Extent) → xs ++ [] ≡ xs
      nothing [] = refl
      nothing (x ∷ xs) = ap (λ (ys : List Extent). x ∷ ys) (nothing xs)

  -- a node that is no whole component
  pub none_more : (n : ℕ) (boxes now : List Extent) → AreOpened threshold rows outlines left top whole core sure n boxes
      → AreOpenBoxes threshold rows outlines left top whole core sure (n + 1) now → n < length outlines → now ≡ boxes → is_whole_node threshold rows n ≡ false
      → AreOpened threshold rows outlines left top whole core sure (n + 1) now
  none_more n boxes now before told within same low =
      no_more n (some outlines within) boxes now before told within same
      (and_left (is_whole_node threshold rows n) (not (is_box_settled whole core sure (node_box left top (get_or outlines n (some outlines within))))) low)
    where
      some : (xs : List Outline) → n < length xs → Outline
      some [] l = absurd (omega (arith, l))
      some (x ∷ xs) l = x

  pub all_opened : (n : ℕ) (boxes : List Extent) → length outlines ≤ n → AreOpened threshold rows outlines left top whole core sure n boxes
      → boxes ≡ open_extents threshold rows outlines left top whole core sure
  all_opened n boxes enough told =
      told.exact
      ∙ ap (open_among threshold rows left top whole core sure) (take_all n (enumerate_from 0 outlines) (omega (arith, enough, length-enumerate_from 0 outlines)))
