-- The passes over the nodes that `Min` and `Max` take.
use Rattle.std.proofs.Common.{◌≡◌, ℕ, ◌+◌, ◌<◌, ◌≤◌, zero, suc, Bool, true, false, ◌&&◌, ◌||◌, List, length, refl, sym, ◌∙◌, ap, subst, arith, ◌⊎◌, inl}
use Rattle.std.proofs.Common.{inr, set}
use Rattle.std.specs.Prelude.{◌==◌, slice_index_or}
use Rattle.std.proofs.lemmas.Bool.{and_parts, and_from, or_cases, or_left, or_right, eqb-true, eq-eqb, ne_eqb, true≢false, cases_lt}
use Rattle.std.proofs.lemmas.List.{length-set, get_or-set_same, get_or-set_other}
use Rattle.lemmas.proofs.Exported.{same_bool}
use Rattle.comp_tree.specs.declared.shape.Connect.{Connect}
use Rattle.comp_tree.specs.declared.tree.NodeRow.{NodeRow}
use Rattle.comp_tree.specs.Raster.{Raster, IsPlane}
use Rattle.comp_tree.specs.ComponentTree.{ComponentTree, parent_in, no_node}
use Rattle.comp_tree.specs.Components.{nodes, tree_of}
use Rattle.comp_tree.specs.Laws.{IsAncestor, parent, above}
use Rattle.comp_tree.proofs.Exported.{length-rows}
use Rattle.node_sums.proofs.Exported.{ancestor_up, row-parent}
use Rattle.filter_rules.specs.declared.rule.Rule.{Rule}
use Rattle.filter_rules.specs.declared.rule.Rule.TheVariants.{Min, Max, Direct, Subtractive}
use Rattle.filter_rules.specs.declared.rule.Criterion.{Criterion}
use Rattle.filter_rules.specs.Criteria.{satisfies}
use Rattle.filter_rules.specs.Filtered.{satisfies_rule}
use Rattle.filter_rules.specs.Passes.{HasRisingLevels, flag, flag_with_parent, AreWithParents, ComesFrom, AreWithChildren, AreKeptBy}
use Rattle.filter_rules.proofs.Around.{IsAbove, ancestor_listed, min_gives, min_from, IsKeptFor, max_gives, max_from}

module _ (rows : List NodeRow) (rising : HasRisingLevels rows) (own flags : List Bool) where
  not_none : (n : ℕ) → n < length rows → n ≡ no_node → ⊥
  not_none n h e = absurd (omega (arith, rising.few))

  -- ---- `Min`

  module _ (w : AreWithParents rows own flags (length rows)) where
    own_from_flag : (n : ℕ) → n < length rows → flag flags n ≡ true → flag own n ≡ true
    own_from_flag n h f = (and_parts (flag own n) (parent_in rows n == no_node || flag flags (parent_in rows n)) (sym (w.asked n h h) ∙ f)).0

    parent_from_flag : (n m : ℕ) → n < length rows → flag flags n ≡ true → parent_in rows n ≡ m → m < length rows → flag flags m ≡ true
    parent_from_flag n m h f e l =
        go (or_cases (parent_in rows n == no_node) (flag flags (parent_in rows n))
        (and_parts (flag own n) (parent_in rows n == no_node || flag flags (parent_in rows n)) (sym (w.asked n h h) ∙ f)).1)
      where
        go : ((parent_in rows n == no_node) ≡ true) ⊎ (flag flags (parent_in rows n) ≡ true) → flag flags m ≡ true
        go (inl x) = absurd (not_none m l (sym e ∙ eqb-true (parent_in rows n) no_node x))
        go (inr x) = ap (flag flags) (sym e) ∙ x

    ancestors_own : (m n : ℕ) → n < length rows → flag flags n ≡ true → IsAncestor rows m n → flag own m ≡ true
    ancestors_own m _ h f (parent n e l) = own_from_flag m l (parent_from_flag n m h f e l)
    ancestors_own m _ h f (above k n e l rest) = ancestors_own m k l (parent_from_flag n k h f e l) rest

    pub all_own : (m n : ℕ) → n < length rows → flag flags n ≡ true → IsAbove rows m n → flag own m ≡ true
    all_own m n h f (inl e) = own_from_flag m (omega (arith, e)) (ap (flag flags) e ∙ f)
    all_own m n h f (inr a) = ancestors_own m n h f a

    flag_by : (fuel n : ℕ) → n < fuel → n < length rows → ((m : ℕ) → IsAbove rows m n → flag own m ≡ true) → flag flags n ≡ true
    flag_by zero n f h g = absurd (omega arith)
    flag_by (suc fuel) n f h g =
        w.asked n h h ∙ and_from (flag own n) (parent_in rows n == no_node || flag flags (parent_in rows n)) (g n (inl refl))
        (go (rising.parents n h) (λ l x. flag_by fuel (parent_in rows n) l x))
      where
        go : (parent_in rows n ≡ no_node) ⊎ (parent_in rows n < n)
            → (parent_in rows n < fuel → parent_in rows n < length rows → ((m : ℕ) → IsAbove rows m (parent_in rows n) → flag own m ≡ true)
            → flag flags (parent_in rows n) ≡ true)
            → parent_in rows n == no_node || flag flags (parent_in rows n) ≡ true
        go (inl e) ih = or_left (parent_in rows n == no_node) (flag flags (parent_in rows n)) (eq-eqb (parent_in rows n) no_node e)
        go (inr l) ih =
            or_right (parent_in rows n == no_node) (flag flags (parent_in rows n))
            (ih (omega arith) (omega arith) (λ m a. g m (inr (up m a))))
          where
            up : (m : ℕ) → IsAbove rows m (parent_in rows n) → IsAncestor rows m n
            up m (inl e) = parent n (sym e) (omega (arith, e))
            up m (inr a) = above (parent_in rows n) n refl (omega arith) a

    pub flag_from : (n : ℕ) → n < length rows → ((m : ℕ) → IsAbove rows m n → flag own m ≡ true) → flag flags n ≡ true
    flag_from n h g = flag_by (suc n) n (omega arith) h g

  -- ---- `Max`

  module _ (w : AreWithChildren rows own flags 0) where
    climb : (m n : ℕ) → n < length rows → flag flags n ≡ true → IsAncestor rows m n → flag flags m ≡ true
    climb m _ h f (parent n e l) = ap (flag flags) (sym e) ∙ w.goes_up n (omega arith) h (omega (arith, e)) f
    climb m _ h f (above k n e l rest) = climb m k l (ap (flag flags) (sym e) ∙ w.goes_up n (omega arith) h (omega (arith, e)) f) rest

    pub flag_from_below : (m n : ℕ) → n < length rows → flag own n ≡ true → IsAbove rows m n → flag flags m ≡ true
    flag_from_below m n h o (inl e) = ap (flag flags) e ∙ w.own_kept n o
    flag_from_below m n h o (inr a) = climb m n h (w.own_kept n o) a

-- ---- one node more

module _ (rows : List NodeRow) (rising : HasRisingLevels rows) (own flags : List Bool) (n : ℕ) (node : n < length rows) where
  pub parent_less : (d : NodeRow) → ((slice_index_or rows n d).parent ≡ no_node → ⊥) → (slice_index_or rows n d).parent < n
  parent_less d some = go (rising.parents n node)
    where
      is : (slice_index_or rows n d).parent ≡ parent_in rows n
      is = row-parent rows n d node

      go : (parent_in rows n ≡ no_node) ⊎ (parent_in rows n < n) → (slice_index_or rows n d).parent < n
      go (inl e) = absurd (some (is ∙ e))
      go (inr l) = omega (arith, is)

  -- the parents of the nodes up to n come before n
  parent_not_here : (m : ℕ) → m ≤ n → parent_in rows m ≡ n → ⊥
  parent_not_here m l e = go (rising.parents m (omega arith))
    where
      go : (parent_in rows m ≡ no_node) ⊎ (parent_in rows m < m) → ⊥
      go (inl f) = absurd (omega (arith, e, f, rising.few))
      go (inr k) = absurd (omega (arith, e, k))

  module _ (one_each : length own ≡ length rows) (w : AreWithParents rows own flags n) where
    -- the flag is taken
    pub parent_refuses : (parent_in rows n ≡ no_node → ⊥) → flag flags (parent_in rows n) ≡ false → AreWithParents rows own (set flags n false) (n + 1)
    parent_refuses some off = record {
      one_each = length-set flags n false ∙ w.one_each;
      asked = λ m l h. side m l (before m h) here;
      others = λ m l. other m (λ e. absurd (omega arith)) ∙ w.others m (omega arith);
    }
      where
        other : (m : ℕ) → (m ≡ n → ⊥) → flag (set flags n false) m ≡ flag flags m
        other m ne = get_or-set_other flags n m false false ne

        same : (m : ℕ) → m ≤ n → flag_with_parent rows own (set flags n false) m ≡ flag_with_parent rows own flags m
        same m l = ap (λ (b : Bool). flag own m && (parent_in rows m == no_node || b)) (other (parent_in rows m) (parent_not_here m l))

        before : (m : ℕ) → m < length rows → m < n → flag (set flags n false) m ≡ flag_with_parent rows own (set flags n false) m
        before m h l = other m (λ e. absurd (omega arith)) ∙ w.asked m l h ∙ sym (same m (omega arith))

        here : (m : ℕ) → m ≡ n → flag (set flags n false) m ≡ flag_with_parent rows own (set flags n false) m
        here m e =
            ap (flag (set flags n false)) e ∙ get_or-set_same flags n false false (omega (arith, one_each, w.one_each)) ∙ sym refused
            ∙ sym (ap (λ (j : ℕ). flag_with_parent rows own (set flags n false) j) e)
          where
            both : (b : Bool) → b && false ≡ false
            both true = refl
            both false = refl

            refused : flag_with_parent rows own (set flags n false) n ≡ false
            refused =
                same n (omega arith) ∙ ap (λ (b : Bool). flag own n && (b || flag flags (parent_in rows n))) (ne_eqb (parent_in rows n) no_node some)
                ∙ ap (λ (b : Bool). flag own n && b) off ∙ both (flag own n)

        side : (m : ℕ) → m < n + 1 → (m < n → flag (set flags n false) m ≡ flag_with_parent rows own (set flags n false) m)
            → ((j : ℕ) → j ≡ n → flag (set flags n false) j ≡ flag_with_parent rows own (set flags n false) j)
            → flag (set flags n false) m ≡ flag_with_parent rows own (set flags n false) m
        side m l x y = go (cases_lt m n)
          where
            go : (m < n) ⊎ (n ≤ m) → flag (set flags n false) m ≡ flag_with_parent rows own (set flags n false) m
            go (inl k) = x k
            go (inr k) = y m (omega arith)

    -- the flag stays
    pub parent_allows : (parent_in rows n == no_node || flag flags (parent_in rows n)) ≡ true → AreWithParents rows own flags (n + 1)
    parent_allows on = record { one_each = w.one_each; asked = λ m l h. go m h l (cases_lt m n); others = λ m l. w.others m (omega arith) }
      where
        kept : (b : Bool) → b && true ≡ b
        kept true = refl
        kept false = refl

        here : flag flags n ≡ flag_with_parent rows own flags n
        here = w.others n (omega arith) ∙ sym (kept (flag own n)) ∙ ap (λ (b : Bool). flag own n && b) (sym on)

        go : (m : ℕ) → m < length rows → m < n + 1 → (m < n) ⊎ (n ≤ m) → flag flags m ≡ flag_with_parent rows own flags m
        go m h l (inl k) = w.asked m k h
        go m h l (inr k) = let e : n ≡ m = omega arith in subst (λ (j : ℕ). flag flags j ≡ flag_with_parent rows own flags j) e here

  module _ (one_each : length own ≡ length rows) (w : AreWithChildren rows own flags (suc n)) where
    -- the parent gets the flag
    pub parent_gets : (a : ℕ) → parent_in rows n ≡ a → a < n → flag flags n ≡ true → AreWithChildren rows own (set flags a true) n
    parent_gets a e less on = record {
      one_each = length-set flags a true ∙ w.one_each;
      comes = λ m h f. from m h f (m == a) refl;
      own_kept = λ m f. more m (w.own_kept m f);
      goes_up = λ m l h k f. up m l h k f (cases_lt n m);
    }
      where
        other : (m : ℕ) → (m ≡ a → ⊥) → flag (set flags a true) m ≡ flag flags m
        other m ne = get_or-set_other flags a m true false ne

        given : flag (set flags a true) a ≡ true
        given = get_or-set_same flags a true false (omega (arith, one_each, w.one_each))

        more : (m : ℕ) → flag flags m ≡ true → flag (set flags a true) m ≡ true
        more m f = go (m == a) refl
          where
            go : (b : Bool) → m == a ≡ b → flag (set flags a true) m ≡ true
            go true u = ap (flag (set flags a true)) (eqb-true m a u) ∙ given
            go false u = other m (λ x. true≢false (sym (eq-eqb m a x) ∙ u)) ∙ f

        listed : a < length rows
        listed = omega arith

        of_parent : ComesFrom rows own n → ComesFrom rows own a
        of_parent c = record { node = c.node; listed = c.listed; own_flag = c.own_flag; above = inr (go c.above) }
          where
            go : (c.node ≡ n) ⊎ IsAncestor rows n c.node → IsAncestor rows a c.node
            go (inl x) = parent c.node (ap (parent_in rows) x ∙ e) listed
            go (inr x) = ancestor_up rows a n c.node e listed x

        from : (m : ℕ) → m < length rows → flag (set flags a true) m ≡ true → (b : Bool) → m == a ≡ b → ComesFrom rows own m
        from m h f true u = subst (λ (j : ℕ). ComesFrom rows own j) (sym (eqb-true m a u)) (of_parent (w.comes n node on))
        from m h f false u = w.comes m h (sym (other m (λ x. true≢false (sym (eq-eqb m a x) ∙ u))) ∙ f)

        up : (m : ℕ) → n ≤ m → m < length rows → parent_in rows m < length rows → flag (set flags a true) m ≡ true → (n < m) ⊎ (m ≤ n)
            → flag (set flags a true) (parent_in rows m) ≡ true
        up m l h k f (inl x) = more (parent_in rows m) (w.goes_up m (omega arith) h k (sym (other m (λ y. absurd (omega arith))) ∙ f))
        up m l h k f (inr x) =
            let same : m ≡ n = omega arith in
            ap (flag (set flags a true)) (ap (parent_in rows) same ∙ e) ∙ given

    -- nothing is given
    pub parent_stays : (parent_in rows n < length rows → flag flags n ≡ true → ⊥) → AreWithChildren rows own flags n
    parent_stays no_gift = record { one_each = w.one_each; comes = w.comes; own_kept = w.own_kept; goes_up = λ m l h k f. up m l h k f (cases_lt n m) }
      where
        up : (m : ℕ) → n ≤ m → m < length rows → parent_in rows m < length rows → flag flags m ≡ true → (n < m) ⊎ (m ≤ n) → flag flags (parent_in rows m) ≡ true
        up m l h k f (inl x) = w.goes_up m (omega arith) h k f
        up m l h k f (inr x) =
            let same : m ≡ n = omega arith in
            absurd (no_gift (subst (λ (j : ℕ). parent_in rows j < length rows) same k) (subst (λ (j : ℕ). flag flags j ≡ true) same f))

-- ---- the flags are the definition's

direct : (r : Raster) (connect : Connect) (criterion : Criterion) (n : ℕ) → satisfies r connect criterion n ≡ satisfies_rule r connect Direct criterion n
unfolding satisfies_rule
direct r connect criterion n = refl

subtractive : (r : Raster) (connect : Connect) (criterion : Criterion) (n : ℕ)
    → satisfies r connect criterion n ≡ satisfies_rule r connect Subtractive criterion n
unfolding satisfies_rule
subtractive r connect criterion n = refl

pub kept_by_rule : (r : Raster) (connect : Connect) (criterion : Criterion) (rule : Rule) (own flags : List Bool) → IsPlane r
    → HasRisingLevels (tree_of r connect).rows
    → ((n : ℕ) → n < length (tree_of r connect).rows → flag own n ≡ satisfies r connect criterion n) → AreKeptBy rule (tree_of r connect).rows own flags
    → (n : ℕ) → n < length (tree_of r connect).rows → flag flags n ≡ satisfies_rule r connect rule criterion n
kept_by_rule r connect criterion Min own flags plane rising o w n h =
    same_bool (flag flags n) (satisfies_rule r connect Min criterion n)
    (λ f. min_from r connect criterion n plane (here n h) (λ m hm a. sym (o m (there m hm)) ∙ all_own (tree_of r connect).rows rising own flags w m n h f a))
    (λ k. flag_from (tree_of r connect).rows rising own flags w n h
    (λ m a. let l : m < length (tree_of r connect).rows = listed m a in o m l ∙ min_gives r connect criterion n m plane (here n h) k (here m l) a))
  where
    here : (m : ℕ) → m < length (tree_of r connect).rows → m < length (nodes r connect)
    here m l = omega (arith, length-rows r connect)

    there : (m : ℕ) → m < length (nodes r connect) → m < length (tree_of r connect).rows
    there m l = omega (arith, length-rows r connect)

    listed : (m : ℕ) → IsAbove (tree_of r connect).rows m n → m < length (tree_of r connect).rows
    listed m (inl e) = omega (arith, e)
    listed m (inr a) = ancestor_listed (tree_of r connect).rows m n a
kept_by_rule r connect criterion Max own flags plane rising o w n h =
    same_bool (flag flags n) (satisfies_rule r connect Max criterion n)
    (λ f. upwards (w.comes n h f))
    (λ k. downwards (max_gives r connect criterion n plane (here n h) k))
  where
    here : (m : ℕ) → m < length (tree_of r connect).rows → m < length (nodes r connect)
    here m l = omega (arith, length-rows r connect)

    upwards : ComesFrom (tree_of r connect).rows own n → satisfies_rule r connect Max criterion n ≡ true
    upwards c = max_from r connect criterion n c.node plane (here n h) (here c.node c.listed) (turned c.above) (sym (o c.node c.listed) ∙ c.own_flag)
      where
        turned : (c.node ≡ n) ⊎ IsAncestor (tree_of r connect).rows n c.node → IsAbove (tree_of r connect).rows n c.node
        turned (inl e) = inl (sym e)
        turned (inr a) = inr a

    downwards : IsKeptFor r connect criterion n → flag flags n ≡ true
    downwards k =
        let l : k.node < length (tree_of r connect).rows = omega (arith, length-rows r connect, k.listed) in
        flag_from_below (tree_of r connect).rows rising own flags w n k.node l (o k.node l ∙ k.satisfied) k.within
kept_by_rule r connect criterion Direct own flags plane rising o w n h = ap (λ (xs : List Bool). flag xs n) w ∙ o n h ∙ direct r connect criterion n
kept_by_rule r connect criterion Subtractive own flags plane rising o w n h = ap (λ (xs : List Bool). flag xs n) w ∙ o n h ∙ subtractive r connect criterion n

-- the same for a tree of a plane, and as the code hands the lists on
pub kept_of_tree : (r : Raster) (connect : Connect) (criterion : Criterion) (rule : Rule) (tree : ComponentTree) (rows : List NodeRow)
    (own lent flags : List Bool) → IsPlane r
    → tree ≡ tree_of r connect → HasRisingLevels tree.rows → ((n : ℕ) → n < length tree.rows → flag own n ≡ satisfies r connect criterion n)
    → rows ≡ tree.rows → lent ≡ own → AreKeptBy rule rows lent flags → (n : ℕ) → n < length tree.rows → flag flags n ≡ satisfies_rule r connect rule criterion n
kept_of_tree r connect criterion rule tree rows own lent flags plane e rising o same handed w n h =
    kept_by_rule r connect criterion rule own flags plane (subst (λ (t : ComponentTree). HasRisingLevels t.rows) e rising)
    (λ m l. o m (subst (λ (t : ComponentTree). m < length t.rows) (sym e) l))
    (subst (λ (xs : List NodeRow). AreKeptBy rule xs own flags) (same ∙ ap (λ (t : ComponentTree). t.rows) e)
    (subst (λ (bs : List Bool). AreKeptBy rule rows bs flags) handed w))
    n (subst (λ (t : ComponentTree). n < length t.rows) e h)
