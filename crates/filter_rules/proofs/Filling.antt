-- The values of nodes and pixels as the code reads and writes them.
use Rattle.std.proofs.Common.{◌≡◌, ℕ, ◌+◌, ◌<◌, ◌≤◌, zero, suc, Bool, true, false, cond, List, [], ◌∷◌, ◌++◌, length, map, refl, sym, ◌∙◌, ap, subst, arith, ◌⊎◌}
use Rattle.std.proofs.Common.{inl, inr, lit<}
use Rattle.std.specs.Prelude.{◌==◌, ℤ, pos, ◌≤ℤ◌, ◌+ℤ◌, ◌-ℤ◌, Option, None, Some, IfSome, slice_index, slice_index_or}
use Rattle.std.proofs.lemmas.Int.{ints, to_z-of_z}
use Rattle.std.proofs.lemmas.Bool.{ne_eqb, cases_lt, eq-eqb, true≢false}
use Rattle.std.proofs.lemmas.List.{length-append}
use Rattle.std.proofs.Math.ListN.{get_or-append}
use Rattle.std.proofs.Math.Seq.{get_or-append_seam}
use mir.Syntax.{w64}
use mir.Val.{SFits, of_z, to_z}
use Rattle.comp_tree.specs.declared.tree.NodeRow.{NodeRow}
use Rattle.comp_tree.specs.Limits.{IsWithin, IsWithinRange}
use Rattle.comp_tree.specs.ComponentTree.{parent_in, no_node}
use Rattle.comp_tree.specs.Nesting.{level_in}
use Rattle.node_sums.specs.Sizes.{IsUpTo, level_bound}
use Rattle.node_sums.proofs.Exported.{up_to-minus, fits, row-parent, row_level}
use Rattle.filter_rules.specs.declared.rule.Rule.{Rule}
use Rattle.filter_rules.specs.declared.rule.Rule.TheVariants.{Min, Max, Direct, Subtractive}
use Rattle.filter_rules.specs.Passes.{HasRisingLevels, flag, filled_pixel, value_in, value_of_kept, value_of_node, AreValues}

-- ---- pixels

-- the first p pixels have their values, and the others are undefined
pub record IsFilled (node_of : List ℕ) (values : List ℤ) (pixels : List (Option ℤ)) (p : ℕ) : Type 0 where
  pub one_each : length pixels ≡ length node_of
  pub done : (q : ℕ) → q < p → q < length node_of → slice_index_or pixels q None ≡ filled_pixel values (slice_index node_of q)
  pub rest : (q : ℕ) → p ≤ q → slice_index_or pixels q None ≡ None

from_places : (values : List ℤ) (node_of : List ℕ) (pixels : List (Option ℤ)) → length pixels ≡ length node_of
    → ((q : ℕ) → q < length node_of → slice_index_or pixels q None ≡ filled_pixel values (slice_index node_of q)) → pixels ≡ map (filled_pixel values) node_of
from_places values [] [] l h = refl
from_places values [] (x ∷ pixels) l h = absurd (omega arith)
from_places values (n ∷ node_of) [] l h = absurd (omega arith)
from_places values (n ∷ node_of) (x ∷ pixels) l h =
    let first : x ≡ filled_pixel values n = h 0 (omega arith) in
    let others : pixels ≡ map (filled_pixel values) node_of = from_places values node_of pixels (omega arith) (λ q k. h (suc q) (omega arith)) in
    ap (λ (y : Option ℤ). y ∷ pixels) first ∙ ap (λ (ys : List (Option ℤ)). filled_pixel values n ∷ ys) others

pub filled_all : (node_of : List ℕ) (values : List ℤ) (pixels : List (Option ℤ)) (p : ℕ) → length node_of ≤ p → IsFilled node_of values pixels p
    → pixels ≡ map (filled_pixel values) node_of
filled_all node_of values pixels p l h = from_places values node_of pixels h.one_each (λ q k. h.done q (omega arith) k)

-- ---- reading rows and values

fits_range : (z : ℤ) → IsWithinRange z → SFits w64 z
fits_range z h = fits w64 level_bound z (record { low = h.low; high = h.high }) (lit< tt)

pub level_read : (rows : List NodeRow) (n : ℕ) (d : NodeRow) → HasRisingLevels rows → n < length rows
    → to_z w64 (of_z w64 (slice_index_or rows n d).level) ≡ level_in rows n
level_read rows n d rising h =
    ap (λ (z : ℤ). to_z w64 (of_z w64 z)) (row_level rows n d h) ∙ to_z-of_z w64 (level_in rows n) (fits_range (level_in rows n) (rising.levels n h))

-- ---- the value of one node

module _ (rows : List NodeRow) (rule : Rule) (kept : List Bool) (values : List ℤ) (n : ℕ) (d : NodeRow)
    (rising : HasRisingLevels rows) (node : n < length rows) (before : n ≡ length values) (made : AreValues rows rule kept values) where
  pub own_level : to_z w64 (of_z w64 (slice_index_or rows n d).level) ≡ level_in rows n
  own_level = level_read rows n d rising node

  pub own_range : IsWithinRange (to_z w64 (of_z w64 (slice_index_or rows n d).level))
  own_range = subst IsWithinRange (sym own_level) (rising.levels n node)

  module _ (some : (slice_index_or rows n d).parent ≡ no_node → ⊥) where
    some_parent : parent_in rows n ≡ no_node → ⊥
    some_parent e = some (row-parent rows n d node ∙ e)

    parent_less : parent_in rows n < n
    parent_less = go (rising.parents n node)
      where
        go : (parent_in rows n ≡ no_node) ⊎ (parent_in rows n < n) → parent_in rows n < n
        go (inl e) = absurd (some_parent e)
        go (inr l) = l

    pub parent_before : (slice_index_or rows n d).parent < n
    parent_before = subst (λ (m : ℕ). m < n) (sym (row-parent rows n d node)) parent_less

    above_range : IsWithinRange (value_in values (parent_in rows n))
    above_range = made.in_range (parent_in rows n) (omega (arith, parent_less))

    above_most : value_in values (parent_in rows n) ≤ℤ level_in rows (parent_in rows n)
    above_most = made.at_most (parent_in rows n) (omega (arith, parent_less))

    base_most : level_in rows (parent_in rows n) ≤ℤ level_in rows n
    base_most = rising.rising n node (omega (arith, parent_less))

    pub above_read : to_z w64 (of_z w64 (slice_index_or values (slice_index_or rows n d).parent (pos 0))) ≡ value_in values (parent_in rows n)
    above_read =
        ap (λ (m : ℕ). to_z w64 (of_z w64 (slice_index_or values m (pos 0)))) (row-parent rows n d node)
        ∙ to_z-of_z w64 (value_in values (parent_in rows n)) (fits_range (value_in values (parent_in rows n)) above_range)

    base_read : to_z w64 (of_z w64 (slice_index_or rows (slice_index_or rows n d).parent d).level) ≡ level_in rows (parent_in rows n)
    base_read =
        ap (λ (m : ℕ). to_z w64 (of_z w64 (slice_index_or rows m d).level)) (row-parent rows n d node)
        ∙ level_read rows (parent_in rows n) d rising (omega (arith, parent_less))

    -- a node that isn't kept
    pub dropped_exact : flag kept n ≡ false
        → to_z w64 (of_z w64 (slice_index_or values (slice_index_or rows n d).parent (pos 0))) ≡ value_of_node rows rule kept values n
    dropped_exact f = above_read ∙ rw (ne_eqb (parent_in rows n) no_node some_parent, f) refl

    pub dropped_range : IsWithinRange (to_z w64 (of_z w64 (slice_index_or values (slice_index_or rows n d).parent (pos 0))))
    dropped_range = subst IsWithinRange (sym above_read) above_range

    pub dropped_most : to_z w64 (of_z w64 (slice_index_or values (slice_index_or rows n d).parent (pos 0))) ≤ℤ level_in rows n
    dropped_most = subst (λ (z : ℤ). z ≤ℤ level_in rows n) (sym above_read) (omega (arith, ints, above_most, base_most))

    -- a kept node
    of_kept : flag kept n ≡ true
        → value_of_kept rule (level_in rows n) (level_in rows (parent_in rows n)) (value_in values (parent_in rows n)) ≡ value_of_node rows rule kept values n
    of_kept f = rw (ne_eqb (parent_in rows n) no_node some_parent, f) refl

    pub level_exact : (s : Rule) → rule ≡ s → ((level base above : ℤ) → value_of_kept s level base above ≡ level) → flag kept n ≡ true
        → to_z w64 (of_z w64 (slice_index_or rows n d).level) ≡ value_of_node rows rule kept values n
    level_exact s is at f =
        own_level ∙ sym (at (level_in rows n) (level_in rows (parent_in rows n)) (value_in values (parent_in rows n)))
        ∙ ap (λ (t : Rule). value_of_kept t (level_in rows n) (level_in rows (parent_in rows n)) (value_in values (parent_in rows n))) (sym is) ∙ of_kept f

    up_to : (z : ℤ) → IsWithinRange z → IsUpTo level_bound z
    up_to z h = record { low = h.low; high = h.high }

    -- the rise, and the sum, as they are computed
    rise : ℤ
    rise = level_in rows n -ℤ level_in rows (parent_in rows n)

    rise_is : to_z w64 (of_z w64 (slice_index_or rows n d).level) -ℤ to_z w64 (of_z w64 (slice_index_or rows (slice_index_or rows n d).parent d).level)
        ≡ level_in rows n -ℤ level_in rows (parent_in rows n)
    rise_is =
        ap (λ (z : ℤ). z -ℤ to_z w64 (of_z w64 (slice_index_or rows (slice_index_or rows n d).parent d).level)) own_level
        ∙ ap (λ (z : ℤ). level_in rows n -ℤ z) base_read

    rise_fits : SFits w64 (level_in rows n -ℤ level_in rows (parent_in rows n))
    rise_fits =
        fits w64 (level_bound + level_bound) (level_in rows n -ℤ level_in rows (parent_in rows n))
        (up_to-minus level_bound level_bound (level_in rows n) (level_in rows (parent_in rows n)) (up_to (level_in rows n) (rising.levels n node))
        (up_to (level_in rows (parent_in rows n)) (rising.levels (parent_in rows n) (omega (arith, parent_less))))) (lit< tt)

    pub sub_fits : SFits w64 (to_z w64 (of_z w64 (slice_index_or rows n d).level) -ℤ to_z w64
        (of_z w64 (slice_index_or rows (slice_index_or rows n d).parent d).level))
    sub_fits = subst (SFits w64) (sym rise_is) rise_fits

    sum_range : IsWithinRange (value_in values (parent_in rows n) +ℤ (level_in rows n -ℤ level_in rows (parent_in rows n)))
    sum_range =
        let a : IsWithinRange (value_in values (parent_in rows n)) = above_range in
        let l : IsWithinRange (level_in rows n) = rising.levels n node in
        record { low = omega (arith, ints, above_most, base_most, a.low); high = omega (arith, ints, above_most, base_most, l.high) }

    sum_is : to_z w64 (of_z w64 (slice_index_or values (slice_index_or rows n d).parent (pos 0)))
        +ℤ to_z w64 (of_z w64 (to_z w64 (of_z w64 (slice_index_or rows n d).level) -ℤ to_z w64
        (of_z w64 (slice_index_or rows (slice_index_or rows n d).parent d).level)))
        ≡ value_in values (parent_in rows n) +ℤ (level_in rows n -ℤ level_in rows (parent_in rows n))
    sum_is =
        ap (λ (z : ℤ). z +ℤ to_z w64 (of_z w64 (to_z w64 (of_z w64 (slice_index_or rows n d).level) -ℤ to_z w64
        (of_z w64 (slice_index_or rows (slice_index_or rows n d).parent d).level)))) above_read
        ∙ ap (λ (z : ℤ). value_in values (parent_in rows n) +ℤ to_z w64 (of_z w64 z)) rise_is
        ∙ ap (λ (z : ℤ). value_in values (parent_in rows n) +ℤ z) (to_z-of_z w64 (level_in rows n -ℤ level_in rows (parent_in rows n)) rise_fits)

    pub add_fits : SFits w64 (to_z w64 (of_z w64 (slice_index_or values (slice_index_or rows n d).parent (pos 0)))
        +ℤ to_z w64 (of_z w64 (to_z w64 (of_z w64 (slice_index_or rows n d).level) -ℤ to_z w64
        (of_z w64 (slice_index_or rows (slice_index_or rows n d).parent d).level))))
    add_fits =
        subst (SFits w64) (sym sum_is) (fits_range (value_in values (parent_in rows n) +ℤ (level_in rows n -ℤ level_in rows (parent_in rows n))) sum_range)

    pub sum_read : to_z w64 (of_z w64 (to_z w64 (of_z w64 (slice_index_or values (slice_index_or rows n d).parent (pos 0)))
        +ℤ to_z w64 (of_z w64 (to_z w64 (of_z w64 (slice_index_or rows n d).level) -ℤ to_z w64
        (of_z w64 (slice_index_or rows (slice_index_or rows n d).parent d).level)))))
        ≡ value_in values (parent_in rows n) +ℤ (level_in rows n -ℤ level_in rows (parent_in rows n))
    sum_read =
        ap (λ (z : ℤ). to_z w64 (of_z w64 z)) sum_is
        ∙ to_z-of_z w64 (value_in values (parent_in rows n) +ℤ (level_in rows n -ℤ level_in rows (parent_in rows n)))
        (fits_range (value_in values (parent_in rows n) +ℤ (level_in rows n -ℤ level_in rows (parent_in rows n))) sum_range)

    pub sum_exact : rule ≡ Subtractive → flag kept n ≡ true
        → to_z w64 (of_z w64 (to_z w64 (of_z w64 (slice_index_or values (slice_index_or rows n d).parent (pos 0)))
        +ℤ to_z w64 (of_z w64 (to_z w64 (of_z w64 (slice_index_or rows n d).level) -ℤ to_z w64
        (of_z w64 (slice_index_or rows (slice_index_or rows n d).parent d).level)))))
        ≡ value_of_node rows rule kept values n
    sum_exact is f =
        sum_read ∙ ap (λ (t : Rule). value_of_kept t (level_in rows n) (level_in rows (parent_in rows n)) (value_in values (parent_in rows n))) (sym is)
        ∙ of_kept f

    pub sum_in_range : IsWithinRange (to_z w64 (of_z w64 (to_z w64 (of_z w64 (slice_index_or values (slice_index_or rows n d).parent (pos 0)))
        +ℤ to_z w64 (of_z w64 (to_z w64 (of_z w64 (slice_index_or rows n d).level) -ℤ to_z w64
        (of_z w64 (slice_index_or rows (slice_index_or rows n d).parent d).level))))))
    sum_in_range = subst IsWithinRange (sym sum_read) sum_range

    pub sum_at_most : to_z w64 (of_z w64 (to_z w64 (of_z w64 (slice_index_or values (slice_index_or rows n d).parent (pos 0)))
        +ℤ to_z w64 (of_z w64 (to_z w64 (of_z w64 (slice_index_or rows n d).level) -ℤ to_z w64
        (of_z w64 (slice_index_or rows (slice_index_or rows n d).parent d).level)))))
        ≤ℤ level_in rows n
    sum_at_most = subst (λ (z : ℤ). z ≤ℤ level_in rows n) (sym sum_read) (omega (arith, ints, above_most))

    pub level_most : to_z w64 (of_z w64 (slice_index_or rows n d).level) ≤ℤ level_in rows n
    level_most = subst (λ (z : ℤ). z ≤ℤ level_in rows n) (sym own_level) (omega (arith, ints))

-- ---- one value more

choose : {P : Type 0} {n m : ℕ} → (n < m) ⊎ (m ≤ n) → (n < m → P) → (m ≤ n → P) → P
choose (inl k) before after = before k
choose (inr k) before after = after k

module _ (rows : List NodeRow) (rule : Rule) (kept : List Bool) (values : List ℤ) (v : ℤ) where
  same_value : (m : ℕ) → m < length values → value_in (values ++ v ∷ []) m ≡ value_in values m
  same_value m l = get_or-append values (v ∷ []) (pos 0) m l

  same_node : (n : ℕ) → HasRisingLevels rows → n < length rows → n ≤ length values
      → value_of_node rows rule kept (values ++ v ∷ []) n ≡ value_of_node rows rule kept values n
  same_node n rising h l = go (rising.parents n h)
    where
      go : (parent_in rows n ≡ no_node) ⊎ (parent_in rows n < n) → value_of_node rows rule kept (values ++ v ∷ []) n ≡ value_of_node rows rule kept values n
      go (inl e) = rw (eq-eqb (parent_in rows n) no_node e) refl
      go (inr k) =
          ap (λ (z : ℤ). cond (parent_in rows n == no_node) (level_in rows n)
          (cond (flag kept n) (value_of_kept rule (level_in rows n) (level_in rows (parent_in rows n)) z) z)) (same_value (parent_in rows n) (omega arith))

  pub values_more : HasRisingLevels rows → length values < length rows → AreValues rows rule kept values
      → v ≡ value_of_node rows rule kept values (length values)
      → IsWithinRange v → v ≤ℤ level_in rows (length values) → AreValues rows rule kept (values ++ v ∷ [])
  values_more rising room made exact range most = record {
    each = λ n l. side n l (λ k. same_value n k ∙ made.each n k ∙ sym (same_node n rising (omega arith) (omega arith)))
        (λ e. ap (λ (m : ℕ). value_in (values ++ v ∷ []) m) e ∙ get_or-append_seam values v [] (pos 0) ∙ exact ∙ ap
        (λ (m : ℕ). value_of_node rows rule kept values m) (sym e)
        ∙ sym (same_node n rising (omega (arith, e)) (omega (arith, e))));
    in_range = λ n l. side n l (λ k. subst IsWithinRange (sym (same_value n k)) (made.in_range n k))
        (λ e. subst IsWithinRange (sym (ap (λ (m : ℕ). value_in (values ++ v ∷ []) m) e ∙ get_or-append_seam values v [] (pos 0))) range);
    at_most = λ n l. side n l (λ k. subst (λ (z : ℤ). z ≤ℤ level_in rows n) (sym (same_value n k)) (made.at_most n k))
        (λ e. subst (λ (z : ℤ). z ≤ℤ level_in rows n) (sym (ap (λ (m : ℕ). value_in (values ++ v ∷ []) m) e ∙ get_or-append_seam values v [] (pos 0)))
        (subst (λ (m : ℕ). v ≤ℤ level_in rows m) (sym e) most));
  }
    where
      side : {P : Type 0} (n : ℕ) → n < length (values ++ v ∷ []) → (n < length values → P) → (n ≡ length values → P) → P
      side n l before here = choose (cases_lt n (length values)) before (λ k. here (omega (arith, length-append values (v ∷ []))))

-- as the code pushes it
pub record IsPushed (rows : List NodeRow) (rule : Rule) (kept : List Bool) (n : ℕ) (values : List ℤ) : Type 0 where
  pub one_each : length values ≡ n
  pub made : AreValues rows rule kept values

pub values_pushed : (rows : List NodeRow) (rule : Rule) (kept : List Bool) (n : ℕ) (values lent pushed : List ℤ) (v : ℤ) → HasRisingLevels rows
    → n < length rows
    → IsPushed rows rule kept n values → lent ≡ values → v ≡ value_of_node rows rule kept lent n → IsWithinRange v → v ≤ℤ level_in rows n
    → pushed ≡ values ++ to_z w64 (of_z w64 v) ∷ [] → IsPushed rows rule kept (n + 1) pushed
values_pushed rows rule kept n values lent pushed v rising node h same exact range most is =
    subst (IsPushed rows rule kept (n + 1)) (sym (is ∙ ap (λ (z : ℤ). values ++ z ∷ []) (to_z-of_z w64 v (fits_range v range))))
    (record {
      one_each = omega (arith, length-append values (v ∷ []), h.one_each);
      made = values_more rows rule kept values v rising (omega (arith, h.one_each)) h.made
          (exact ∙ ap (λ (xs : List ℤ). value_of_node rows rule kept xs n) same ∙ ap (value_of_node rows rule kept values) (sym h.one_each)) range
          (subst (λ (m : ℕ). v ≤ℤ level_in rows m) (sym h.one_each) most);
    })

-- ---- a narrower range

-- the value of a node, where those of the nodes before it are within the bound
value_within : (rows : List NodeRow) (rule : Rule) (kept : List Bool) (values : List ℤ) (b m : ℕ) → HasRisingLevels rows → length values ≡ length rows
    → AreValues rows rule kept values → ((n : ℕ) → n < length rows → IsWithin b (level_in rows n)) → m < length values
    → ((j : ℕ) → j < m → IsWithin b (value_in values j)) → IsWithin b (value_in values m)
value_within rows rule kept values b m rising whole made levels h before =
    subst (IsWithin b) (sym (made.each m h)) (by (parent_in rows m == no_node) refl (flag kept m))
  where
    inside : m < length rows
    inside = omega (arith, whole, h)

    less : (parent_in rows m == no_node) ≡ false → parent_in rows m < m
    less e = cases (rising.parents m inside)
      where
        cases : (parent_in rows m ≡ no_node) ⊎ (parent_in rows m < m) → parent_in rows m < m
        cases (inl same) = absurd (true≢false (sym (eq-eqb (parent_in rows m) no_node same) ∙ e))
        cases (inr lower) = lower

    kept_value : (parent_in rows m == no_node) ≡ false → (s : Rule)
        → IsWithin b (value_of_kept s (level_in rows m) (level_in rows (parent_in rows m)) (value_in values (parent_in rows m)))
    kept_value e Min = levels m inside
    kept_value e Max = levels m inside
    kept_value e Direct = levels m inside
    kept_value e Subtractive =
        let a : IsWithin b (value_in values (parent_in rows m)) = before (parent_in rows m) (less e) in
        let l : IsWithin b (level_in rows m) = levels m inside in
        let most : value_in values (parent_in rows m) ≤ℤ level_in rows (parent_in rows m) =
        made.at_most (parent_in rows m) (omega (arith, less e, h)) in
        let rise : level_in rows (parent_in rows m) ≤ℤ level_in rows m = rising.rising m inside (omega (arith, inside, less e)) in
        record { low = omega (arith, ints, a.low, rise); high = omega (arith, ints, most, l.high) }

    by : (t : Bool) → (parent_in rows m == no_node) ≡ t → (f : Bool)
        → IsWithin b (cond t (level_in rows m)
        (cond f (value_of_kept rule (level_in rows m) (level_in rows (parent_in rows m)) (value_in values (parent_in rows m)))
        (value_in values (parent_in rows m))))
    by true e f = levels m inside
    by false e true = kept_value e rule
    by false e false = before (parent_in rows m) (less e)

-- values are within any bound that the levels are within
pub values_within : (rows : List NodeRow) (rule : Rule) (kept : List Bool) (values : List ℤ) (b : ℕ) → HasRisingLevels rows → length values ≡ length rows
    → AreValues rows rule kept values → ((n : ℕ) → n < length rows → IsWithin b (level_in rows n))
    → (n : ℕ) → n < length values → IsWithin b (value_in values n)
values_within rows rule kept values b rising whole made levels n h = go (suc n) n (omega arith) h
  where
    go : (k m : ℕ) → m < k → m < length values → IsWithin b (value_in values m)
    go zero m l h = absurd (omega arith)
    go (suc k) m l h =
        value_within rows rule kept values b m rising whole made levels h (λ j less. go k j (omega (arith, less, l)) (omega (arith, less, h)))

-- so is what a pixel gets
pub filled_within : (values : List ℤ) (b m : ℕ) → (m ≡ no_node) ⊎ (m < length values) → ((n : ℕ) → n < length values → IsWithin b (value_in values n))
    → IfSome (filled_pixel values m) (λ v. IsWithin b v)
filled_within values b m known small = go (m == no_node) refl
  where
    go : (t : Bool) → (m == no_node) ≡ t → IfSome (cond t None (Some (value_in values m))) (λ v. IsWithin b v)
    go true e = tt
    go false e = small m (cases known)
      where
        cases : (m ≡ no_node) ⊎ (m < length values) → m < length values
        cases (inl same) = absurd (true≢false (sym (eq-eqb m no_node same) ∙ e))
        cases (inr lower) = lower
