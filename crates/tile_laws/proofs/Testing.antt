-- The tests of boxes say what they are named for.
use Rattle.std.proofs.Common.{◌≡◌, ℕ, ◌+◌, ◌-◌, ◌<◌, ◌≤◌, Bool, true, false, ◌&&◌, ◌||◌, ◌==◌, not, sym, ◌∙◌, arith, ◌⊎◌, inl, inr}
use Rattle.std.specs.Prelude.{nat_le, nat_lt, ◌<ℤ◌, int_le, int_lt}
use Rattle.std.proofs.lemmas.Bool.{and_parts, and_from, or_cases, or_left, or_right, eqb-true, eq-eqb, ltb-true, lt-ltb, leb-true, le-leb, cases_lt, cases_Bool}
use Rattle.std.proofs.lemmas.Bool.{not-true, not_from_false, true≢false}
use Rattle.lemmas.proofs.Exported.{int_le-true, int_le-from, int_lt-true, int_lt-from}
use Rattle.comp_tree.specs.ComponentTree.{no_node, parent_in}
use Rattle.comp_tree.specs.Nesting.{level_in}
use Rattle.comp_tree.specs.Windows.{IsDeep}
use Rattle.tile_laws.specs.Knowing.{IsSettled, IsBoxDeep, IsWholeAt}
use Rattle.tile_laws.specs.Opening.{is_whole_node, share_pixels, holds_box, lie_deep_along, is_box_settled}
use Rattle.tile_laws.specs.Opening.{WholeTestIsExact, MeetingTestIsExact, WithinTestIsExact, SettledTestIsExact}
use Rattle.tile_laws.proofs.Depth.{deep_box, deep_columns, deep_rows}

-- ---- whole components

pub whole_test_is_exact : WholeTestIsExact
unfolding is_whole_node
whole_test_is_exact threshold rows n = (there, back)
  where
    parent : ℕ
    parent = parent_in rows n

    low_at : ((parent == no_node) ≡ true) ⊎ (int_lt (level_in rows parent) threshold ≡ true) → (parent ≡ no_node) ⊎ (level_in rows parent <ℤ threshold)
    low_at (inl e) = inl (eqb-true parent no_node e)
    low_at (inr l) = inr (int_lt-true (level_in rows parent) threshold l)

    there : (int_le threshold (level_in rows n) && ((parent == no_node) || int_lt (level_in rows parent) threshold)) ≡ true → IsWholeAt threshold rows n
    there k =
        let p = and_parts (int_le threshold (level_in rows n)) ((parent == no_node) || int_lt (level_in rows parent) threshold) k in
        record {
          high = int_le-true threshold (level_in rows n) p.0;
          lowest = low_at (or_cases (parent == no_node) (int_lt (level_in rows parent) threshold) p.1);
        }

    low_from : (parent ≡ no_node) ⊎ (level_in rows parent <ℤ threshold) → ((parent == no_node) || int_lt (level_in rows parent) threshold) ≡ true
    low_from (inl e) = or_left (parent == no_node) (int_lt (level_in rows parent) threshold) (eq-eqb parent no_node e)
    low_from (inr l) = or_right (parent == no_node) (int_lt (level_in rows parent) threshold) (int_lt-from (level_in rows parent) threshold l)

    back : IsWholeAt threshold rows n → (int_le threshold (level_in rows n) && ((parent == no_node) || int_lt (level_in rows parent) threshold)) ≡ true
    back w =
        and_from (int_le threshold (level_in rows n)) ((parent == no_node) || int_lt (level_in rows parent) threshold)
        (int_le-from threshold (level_in rows n) w.high) (low_from w.lowest)

-- ---- boxes

four_parts : (p q r s : Bool) → (p && q && (r && s)) ≡ true → (p ≡ true) × (q ≡ true) × (r ≡ true) × (s ≡ true)
four_parts p q r s k =
    let a = and_parts (p && q) (r && s) k in
    let b = and_parts p q a.0 in
    let c = and_parts r s a.1 in
    (b.0, b.1, c.0, c.1)

four_from : (p q r s : Bool) → p ≡ true → q ≡ true → r ≡ true → s ≡ true → (p && q && (r && s)) ≡ true
four_from p q r s a b c d = and_from (p && q) (r && s) (and_from p q a b) (and_from r s c d)

pub meeting_test_is_exact : MeetingTestIsExact
unfolding share_pixels
meeting_test_is_exact a b = (
  (λ k. let p = four_parts (nat_lt a.left b.right) (nat_lt b.left a.right) (nat_lt a.top b.bottom) (nat_lt b.top a.bottom) k in
      record {
        left = ltb-true a.left b.right p.0;
        right = ltb-true b.left a.right p.1;
        top = ltb-true a.top b.bottom p.2;
        bottom = ltb-true b.top a.bottom p.3;
      }),
  (λ m. four_from (nat_lt a.left b.right) (nat_lt b.left a.right) (nat_lt a.top b.bottom) (nat_lt b.top a.bottom) (lt-ltb a.left b.right m.left)
      (lt-ltb b.left a.right m.right) (lt-ltb a.top b.bottom m.top) (lt-ltb b.top a.bottom m.bottom)),
)

pub within_test_is_exact : WithinTestIsExact
unfolding holds_box
within_test_is_exact outer inner = (
  (λ k. let p =
      four_parts (nat_le outer.left inner.left) (nat_le inner.right outer.right) (nat_le outer.top inner.top) (nat_le inner.bottom outer.bottom) k in
      record {
        left = leb-true outer.left inner.left p.0;
        right = leb-true inner.right outer.right p.1;
        top = leb-true outer.top inner.top p.2;
        bottom = leb-true inner.bottom outer.bottom p.3;
      }),
  (λ m. four_from (nat_le outer.left inner.left) (nat_le inner.right outer.right) (nat_le outer.top inner.top) (nat_le inner.bottom outer.bottom)
      (le-leb outer.left inner.left m.left) (le-leb inner.right outer.right m.right) (le-leb outer.top inner.top m.top)
      (le-leb inner.bottom outer.bottom m.bottom)),
)

-- ---- places that lie deep

module _ (from to low high side : ℕ) (some : from < to) where
  deep_begins : (low < from) ⊎ (low ≡ 0) → (x : ℕ) → from ≤ x → ((low < x) ⊎ (low ≡ 0)) × (low ≤ x)
  deep_begins (inl l) x k = (inl (omega (arith, l, k)), omega (arith, l, k))
  deep_begins (inr z) x k = (inr z, omega (arith, z))

  deep_ends : (to < high) ⊎ ((to ≡ high) × (high ≡ side)) → (x : ℕ) → x < to → ((x + 1 < high) ⊎ (high ≡ side)) × (x < high)
  deep_ends (inl l) x k = (inl (omega (arith, l, k)), omega (arith, l, k))
  deep_ends (inr (e, s)) x k = (inr s, omega (arith, e, k))

  pub deep_from_test : lie_deep_along from to low high side ≡ true → (x : ℕ) → from ≤ x → x < to → IsDeep low high side x
  unfolding lie_deep_along
  deep_from_test k x a b = record { from = begins.0; to = ends.0; low_at = begins.1; high_at = ends.1 }
    where
      parts : ((nat_lt low from || (low == 0)) ≡ true) × ((nat_lt to high || ((to == high) && (high == side))) ≡ true)
      parts = and_parts (nat_lt low from || (low == 0)) (nat_lt to high || ((to == high) && (high == side))) k

      low_is : (nat_lt low from ≡ true) ⊎ ((low == 0) ≡ true) → (low < from) ⊎ (low ≡ 0)
      low_is (inl l) = inl (ltb-true low from l)
      low_is (inr z) = inr (eqb-true low 0 z)

      high_is : (nat_lt to high ≡ true) ⊎ (((to == high) && (high == side)) ≡ true) → (to < high) ⊎ ((to ≡ high) × (high ≡ side))
      high_is (inl l) = inl (ltb-true to high l)
      high_is (inr z) = let p = and_parts (to == high) (high == side) z in inr (eqb-true to high p.0, eqb-true high side p.1)

      begins : ((low < x) ⊎ (low ≡ 0)) × (low ≤ x)
      begins = deep_begins (low_is (or_cases (nat_lt low from) (low == 0) parts.0)) x a

      ends : ((x + 1 < high) ⊎ (high ≡ side)) × (x < high)
      ends = deep_ends (high_is (or_cases (nat_lt to high) ((to == high) && (high == side)) parts.1)) x b

  pub test_from_deep : ((x : ℕ) → from ≤ x → x < to → IsDeep low high side x) → lie_deep_along from to low high side ≡ true
  unfolding lie_deep_along
  test_from_deep all =
      and_from (nat_lt low from || (low == 0)) (nat_lt to high || ((to == high) && (high == side))) (begins first.from) (ends last.to (cases_lt to high))
    where
      first : IsDeep low high side from
      first = all from (omega arith) some

      last : IsDeep low high side (to - 1)
      last = all (to - 1) (omega (arith, some)) (omega (arith, some))

      begins : (low < from) ⊎ (low ≡ 0) → (nat_lt low from || (low == 0)) ≡ true
      begins (inl l) = or_left (nat_lt low from) (low == 0) (lt-ltb low from l)
      begins (inr z) = or_right (nat_lt low from) (low == 0) (eq-eqb low 0 z)

      ends : (to - 1 + 1 < high) ⊎ (high ≡ side) → (to < high) ⊎ (high ≤ to) → (nat_lt to high || ((to == high) && (high == side))) ≡ true
      ends e (inl l) = or_left (nat_lt to high) ((to == high) && (high == side)) (lt-ltb to high l)
      ends (inl m) (inr g) = absurd (omega (arith, some, m, g))
      ends (inr s) (inr g) =
          or_right (nat_lt to high) ((to == high) && (high == side))
          (and_from (to == high) (high == side) (eq-eqb to high (let l : to - 1 < high = last.high_at in omega (arith, some, g, l))) (eq-eqb high side s))

-- ---- boxes that are settled

pub settled_test_is_exact : SettledTestIsExact
unfolding is_box_settled
settled_test_is_exact whole core sure box of = (there, back (cases_Bool (share_pixels core box)))
  where
    across : Bool
    across = lie_deep_along box.left box.right sure.left sure.right whole.width

    along : Bool
    along = lie_deep_along box.top box.bottom sure.top sure.bottom whole.height

    there : (not (share_pixels core box) || (lie_deep_along box.left box.right sure.left sure.right whole.width
        && lie_deep_along box.top box.bottom sure.top sure.bottom whole.height)) ≡ true → IsSettled whole core sure box
    there k meets = go (or_cases (not (share_pixels core box)) (across && along) k)
      where
        go : (not (share_pixels core box) ≡ true) ⊎ ((across && along) ≡ true) → IsBoxDeep whole sure box
        go (inl apart) = absurd (true≢false (sym ((meeting_test_is_exact core box).1 meets) ∙ not-true (share_pixels core box) apart))
        go (inr both) =
            let p = and_parts across along both in
            deep_box whole box sure (deep_from_test box.left box.right sure.left sure.right whole.width of.columns p.0)
            (deep_from_test box.top box.bottom sure.top sure.bottom whole.height of.rows p.1)

    back : (share_pixels core box ≡ true) ⊎ (share_pixels core box ≡ false) → IsSettled whole core sure box → (not (share_pixels core box) || (across && along)) ≡ true
    back (inl meet) settled =
        let deep : IsBoxDeep whole sure box = settled ((meeting_test_is_exact core box).0 meet) in
        or_right (not (share_pixels core box)) (across && along)
        (and_from across along
        (test_from_deep box.left box.right sure.left sure.right whole.width of.columns (deep_columns whole box sure of.rows of.right deep))
        (test_from_deep box.top box.bottom sure.top sure.bottom whole.height of.rows (deep_rows whole box sure of.columns of.right deep)))
    back (inr apart) settled = or_left (not (share_pixels core box)) (across && along) (not_from_false (share_pixels core box) apart)
