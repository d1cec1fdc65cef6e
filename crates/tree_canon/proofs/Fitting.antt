-- Links that fit the tree pixel by pixel are a forest that stands for all adjacencies.
use Rattle.std.proofs.Common.{◌≡◌, ◌≢◌, ℕ, ◌+◌, ◌<◌, ◌≤◌, ◌⊎◌, Bool, true, false, List, length, refl, sym, ap, subst, ◌∙◌, inl, inr, arith, Some, Option}
use Rattle.std.proofs.Common.{get_or, ◌<ℤ◌}
use Rattle.std.specs.Prelude.{IsTrue, IsFalse, ℤ, int_le, int_lt}
use Rattle.std.proofs.lemmas.Bool.{true≢false, cases_eq}
use Rattle.std.proofs.lemmas.List.{get_or-map, length-map}
use Rattle.comp_tree.specs.declared.shape.Connect.{Connect}
use Rattle.comp_tree.specs.Raster.{Raster, IsPlane, value_at, is_defined, is_at_least, level}
use Rattle.comp_tree.specs.Grid.{IsAdjacency}
use Rattle.comp_tree.specs.Joined.{Joined}
use Rattle.comp_tree.specs.Forest.{no_node, IsHigh, ComesBefore, ComesEarlier, link_of, IsForest, WayEndsAt, stop, go, HaveSameLast}
use Rattle.comp_tree.specs.declared.shape.Connect.TheVariants.{Four, Eight}
use Rattle.comp_tree.specs.declared.tree.NodeRow.{NodeRow}
use Rattle.comp_tree.specs.Components.{reaches, representative, is_representative, nodes, node_of, parent_of, row_of, tree_of, is_candidate, is_in_node}
use Rattle.comp_tree.specs.Laws.{top_of}
use Rattle.comp_tree.proofs.Exported.{before_is, int_le_trans, int_le_antisym, int_lt-true, cases_int, joined_wider, reaches-is_IsReached, below_from_defined}
use Rattle.comp_tree.proofs.Exported.{defined_from_at_least, value-level, last_there, last_start, each_component_is_a_node, top-representative, top-defined}
use Rattle.comp_tree.proofs.Exported.{below_no_node, rep-of, rows-are, node-undefined, read-node_of, tree_of-is}
use Rattle.tree_canon.proofs.Finding.{read_link}
use Rattle.tree_canon.proofs.Parents.{blank}
use Rattle.comp_tree.proofs.Exported as Nodes
use Rattle.comp_tree.specs.Forest.{StandsForAll}
use Rattle.tree_canon.specs.Fitting.{IsFit, outside, root, inside, up, AreFit}

module _ (r : Raster) (connect : Connect) (links : List ℕ) (plane : IsPlane r) (whole : length links ≡ length r.values)
    (fit : AreFit r connect links (length r.values)) where
  few : length links ≤ no_node
  few = omega (arith, whole, plane, r.shape.within_limits.few_pixels)

  -- pixels of one node have one representative
  same_node : (p q : ℕ) → IsTrue (is_defined r p) → IsTrue (is_defined r q) → node_of r connect p ≡ node_of r connect q
      → representative r connect p ≡ representative r connect q
  same_node p q dp dq e =
      sym (Nodes.node_of-is r connect p dp).it_is ∙ ap (λ n. get_or (nodes r connect) n 0) e ∙ (Nodes.node_of-is r connect q dq).it_is

  same_level : (p q : ℕ) → IsTrue (is_defined r p) → IsTrue (is_defined r q) → representative r connect p ≡ representative r connect q → level r p ≡ level r q
  same_level p q dp dq e = sym (Nodes.representative-is r connect p dp).same_level ∙ ap (level r) e ∙ (Nodes.representative-is r connect q dq).same_level

  -- and reach each other at their level
  reach_each_other : (p q : ℕ) → IsTrue (is_defined r p) → IsTrue (is_defined r q) → representative r connect p ≡ representative r connect q
      → IsTrue (reaches r connect (level r p) p q)
  reach_each_other p q dp dq e =
      Nodes.reaches_trans r connect (level r p) p (representative r connect p) q (Nodes.representative-is r connect p dp).reached
      (Nodes.reaches_sym r connect (level r p) q (representative r connect p)
      (subst (λ (x : ℕ). IsTrue (reaches r connect (level r p) q x)) (sym e)
      (subst (λ (h : ℤ). IsTrue (reaches r connect h q (representative r connect q))) (sym (same_level p q dp dq e))
      (Nodes.representative-is r connect q dq).reached)))

  -- ---- a link that is a pixel

  -- the link is earlier, and reaches the pixel at its own level
  record IsStep (p : ℕ) : Type 0 where
    defined : IsTrue (is_defined r p)
    link_defined : IsTrue (is_defined r (link_of 0 links p))
    earlier : ComesEarlier r.values (link_of 0 links p) p
    reached : IsTrue (reaches r connect (level r (link_of 0 links p)) (link_of 0 links p) p)

  -- the link of a pixel that represents its node is a candidate of the greatest value
  record IsHighest (p q : ℕ) : Type 0 where
    candidate : Nodes.IsCandidate r connect p q
    highest : (s : ℕ) → IsTrue (is_candidate r connect p s) → int_le (level r s) (level r q) ≡ true

  up_candidate : (p : ℕ) → IsTrue (is_defined r (link_of 0 links p)) → node_of r connect (link_of 0 links p) ≡ parent_of r connect p
      → IsHighest p (link_of 0 links p)
  up_candidate p dl e = on (parent_of r connect p) (Nodes.parent-case r connect p) e
    where
      of_same : (q : ℕ) → IsTrue (is_candidate r connect p q) → ((s : ℕ) → IsTrue (is_candidate r connect p s) → int_le (level r s) (level r q) ≡ true)
          → node_of r connect (link_of 0 links p) ≡ node_of r connect q → IsHighest p (link_of 0 links p)
      of_same q c high f = record {
        candidate = record {
          lower = subst (λ (h : ℤ). int_lt h (level r p) ≡ true) levels m.lower;
          reaches_it = Nodes.reaches_trans r connect (level r (link_of 0 links p)) (link_of 0 links p) q p (reach_each_other (link_of 0 links p) q dl dq reps)
              (subst (λ (h : ℤ). IsTrue (reaches r connect h q p)) levels m.reaches_it);
        };
        highest = λ s k. subst (λ (h : ℤ). int_le (level r s) h ≡ true) levels (high s k);
      }
        where
          m : Nodes.IsCandidate r connect p q
          m = Nodes.candidate-parts r connect p q c

          dq : IsTrue (is_defined r q)
          dq = defined_from_at_least r (level r q) q (Nodes.reaches_start r connect (level r q) q p m.reaches_it)

          reps : representative r connect (link_of 0 links p) ≡ representative r connect q
          reps = same_node (link_of 0 links p) q dl dq f

          levels : level r q ≡ level r (link_of 0 links p)
          levels = sym (same_level (link_of 0 links p) q dl dq reps)

      on : (n : ℕ) → Nodes.ParentCase r connect p n → node_of r connect (link_of 0 links p) ≡ n → IsHighest p (link_of 0 links p)
      on n (Nodes.root none) f =
          absurd (below_no_node r connect (node_of r connect (link_of 0 links p)) plane (Nodes.node_of-is r connect (link_of 0 links p) dl).below f)
      on n (Nodes.child q c high) f = of_same q c high f

  earlier_from : (a b : ℕ) → IsTrue (is_defined r a) → IsTrue (is_defined r b) → (level r a <ℤ level r b) ⊎ ((level r a ≡ level r b) × (a < b))
      → ComesEarlier r.values a b
  earlier_from a b da db k =
      subst (λ (v : Option ℤ). ComesBefore v a (value_at r.values b) b) (sym (value-level r a da))
      (subst (λ (v : Option ℤ). ComesBefore (Some (level r a)) a v b) (sym (value-level r b db)) (before_is (Some (level r a)) (Some (level r b)) a b k))

  step : (p : ℕ) → p < length r.values → link_of 0 links p ≢ no_node → IsStep p
  step p lt some = on (fit p lt)
    where
      on : IsFit r connect links p → IsStep p
      on (outside d none) = absurd (some none)
      on (root d e f none) = absurd (some none)
      on (inside d dl e low) =
          let reps = same_node (link_of 0 links p) p dl d e in
          let levels = same_level (link_of 0 links p) p dl d reps in
          record {
            defined = d;
            link_defined = dl;
            earlier = earlier_from (link_of 0 links p) p dl d (inr (levels, low));
            reached = reach_each_other (link_of 0 links p) p dl d reps;
          }
      on (up d e dl f) =
          let k = up_candidate p dl f in
          record {
            defined = d;
            link_defined = dl;
            earlier = earlier_from (link_of 0 links p) p dl d (inl (int_lt-true (level r (link_of 0 links p)) (level r p) k.candidate.lower));
            reached = k.candidate.reaches_it;
          }

  pub fit_forest : IsForest r.values 0 links
  fit_forest = record {
    earlier = λ p within. elim (cases_eq (link_of 0 links p) no_node) [
      | inl none ↦ inl none
      | inr some ↦
          let k : IsStep p = step p (let high = within.high in omega (arith, high, whole)) some in
          let below = below_from_defined r (link_of 0 links p) k.link_defined in
          inr (record { low = omega arith; high = omega (arith, below, whole) }, k.earlier)
    ];
  }

  -- ---- walks

  high_from : (h : ℤ) (p : ℕ) → IsTrue (is_at_least r h p) → IsHigh r.values 0 (length links) h p
  high_from h p k = record {
    within = record { low = omega arith; high = (let below = below_from_defined r p (defined_from_at_least r h p k) in omega (arith, below, whole)) };
    value = k;
  }

  -- a walk stays in one component
  walked : (h : ℤ) (p z : ℕ) → WayEndsAt r.values 0 links h p z → IsTrue (reaches r connect h p z)
  walked h p z (stop g n) = Nodes.reaches_here r connect h p g.value
  walked h p z (go g l) =
      let next : IsHigh r.values 0 (length links) h (link_of 0 links p) =
      last_start r.values 0 links h fit_forest (let e : 0 + length links ≤ no_node = omega (arith, few) in e) (link_of 0 links p) z l in
      let below = next.within.high in let here = g.within.high in
      let k : IsStep p = step p (omega (arith, here, whole)) (λ (e : link_of 0 links p ≡ no_node). omega (arith, below, few, e)) in
      Nodes.reaches_trans r connect h p (link_of 0 links p) z
      (Nodes.reaches_sym r connect h (link_of 0 links p) p
      (Nodes.reaches_lower r connect h (level r (link_of 0 links p)) (link_of 0 links p) p
      (Nodes.level_from_at_least r h (link_of 0 links p) next.value) k.reached))
      (walked h (link_of 0 links p) z l)

  ended : (h : ℤ) (p z : ℕ) → WayEndsAt r.values 0 links h p z
      → IsHigh r.values 0 (length links) h z × (IsHigh r.values 0 (length links) h (link_of 0 links z) → ⊥)
  ended h p z (stop g n) = (g, n)
  ended h p z (go g l) = ended h (link_of 0 links p) z l

  -- m represents the whole component of z at level h
  record IsBottom (h : ℤ) (z m : ℕ) : Type 0 where
    represents : IsTrue (is_representative r connect m)
    reached : IsTrue (reaches r connect h z m)
    covers : (x : ℕ) → IsTrue (reaches r connect h z x) → IsTrue (reaches r connect (level r m) m x)

  bottom_of : (h : ℤ) (z : ℕ) → IsTrue (is_at_least r h z) → (m : ℕ) × IsBottom h z m
  unfolding is_in_node
  bottom_of h z k =
      let c = each_component_is_a_node r connect h z k in
      let m = top_of r connect c.0 in (
        m,
        record {
          represents = top-representative r connect c.0 c.1;
          reached = (reaches-is_IsReached r connect h z m).1
              ((c.2 m).1 (Nodes.reaches_here r connect (level r m) m (Nodes.at_least-own r m (top-defined r connect c.0 c.1))));
          covers = λ x l. (c.2 x).0 ((reaches-is_IsReached r connect h z x).0 l);
        },
      )

  bottom_moved : (h : ℤ) (y z m : ℕ) → IsTrue (reaches r connect h y z) → IsBottom h y m → IsBottom h z m
  bottom_moved h y z m k b = record {
    represents = b.represents;
    reached = Nodes.reaches_trans r connect h z y m (Nodes.reaches_sym r connect h y z k) b.reached;
    covers = λ x l. b.covers x (Nodes.reaches_trans r connect h y z x k l);
  }

  -- where a walk ends is that pixel
  at_bottom : (h : ℤ) (z m : ℕ) → IsHigh r.values 0 (length links) h z → (IsHigh r.values 0 (length links) h (link_of 0 links z) → ⊥) → IsBottom h z m → z ≡ m
  at_bottom h z m high low b = elim (cases_int (level r m) (level r z)) [
    | inl lower ↦ absurd (no_lower lower (fit z below))
    | inr same ↦
        let levels : level r z ≡ level r m = int_le_antisym (level r z) (level r m) same least in
        let own = Nodes.is_representative-parts r connect m b.represents in
        sym (itself (fit z below)) ∙ Nodes.representative-same r connect m z reached levels ∙ own.1
  ]
    where
      d : IsTrue (is_defined r z)
      d = defined_from_at_least r h z high.value

      below : z < length r.values
      below = below_from_defined r z d

      reached : IsTrue (reaches r connect (level r m) m z)
      reached = b.covers z (Nodes.reaches_here r connect h z high.value)

      least : int_le (level r m) (level r z) ≡ true
      least = Nodes.level_from_at_least r (level r m) z (Nodes.reaches_end r connect (level r m) m z reached)

      h_m : int_le h (level r m) ≡ true
      h_m = Nodes.level_from_at_least r h m (Nodes.reaches_end r connect h z m b.reached)

      within_level : IsTrue (is_defined r (link_of 0 links z)) → node_of r connect (link_of 0 links z) ≡ node_of r connect z → ⊥
      within_level dl e =
          low (high_from h (link_of 0 links z) (Nodes.at_least-from r h (link_of 0 links z) dl
          (subst (λ (g : ℤ). int_le h g ≡ true) (sym (same_level (link_of 0 links z) z dl d (same_node (link_of 0 links z) z dl d e)))
          (Nodes.level_from_at_least r h z high.value))))

      itself : IsFit r connect links z → representative r connect z ≡ z
      itself (outside u none) = absurd (true≢false (sym d ∙ u))
      itself (root _ e _ _) = e
      itself (inside _ dl e _) = absurd (within_level dl e)
      itself (up _ e _ _) = e

      no_lower : int_lt (level r m) (level r z) ≡ true → IsFit r connect links z → ⊥
      no_lower lower (outside u none) = true≢false (sym d ∙ u)
      no_lower lower (root _ _ top _) = on (parent_of r connect z) (Nodes.parent-case r connect z) top
        where
          on : (n : ℕ) → Nodes.ParentCase r connect z n → n ≡ no_node → ⊥
          on n (Nodes.root none) e = none m (Nodes.candidate-from r connect z m (record { lower = lower; reaches_it = reached }))
          on n (Nodes.child q c _) e =
              below_no_node r connect (node_of r connect q) plane
              (Nodes.node_of-is r connect q (defined_from_at_least r (level r q) q
              (Nodes.reaches_start r connect (level r q) q z (Nodes.candidate-parts r connect z q c).reaches_it))).below e
      no_lower lower (inside _ dl e _) = within_level dl e
      no_lower lower (up _ _ dl f) =
          low (high_from h (link_of 0 links z) (Nodes.at_least-from r h (link_of 0 links z) dl
          (int_le_trans h (level r m) (level r (link_of 0 links z)) h_m
          ((up_candidate z dl f).highest m (Nodes.candidate-from r connect z m (record { lower = lower; reaches_it = reached }))))))

  pub fit_stands : StandsForAll r connect links
  fit_stands =
      record {
        joins =
            λ h p q hp hq. (
              λ same. joined_from h p q
                  (Nodes.reaches_trans r connect h p same.0 q (walked h p same.0 same.1.0)
                  (Nodes.reaches_sym r connect h q same.0 (walked h q same.0 same.1.1))),
              λ j. both h p q hp hq (reaches_from h p q j),
            );
      }
    where
      reaches_from : (h : ℤ) (p q : ℕ) → Joined (IsHigh r.values 0 (length links) h) (IsAdjacency r.values r.shape.width connect) p q
          → IsTrue (reaches r connect h p q)
      reaches_from h p q j = (reaches-is_IsReached r connect h p q).1 (joined_wider (λ x g. g.value) j)

      joined_from : (h : ℤ) (p q : ℕ) → IsTrue (reaches r connect h p q)
          → Joined (IsHigh r.values 0 (length links) h) (IsAdjacency r.values r.shape.width connect) p q
      joined_from h p q k = joined_wider (high_from h) ((reaches-is_IsReached r connect h p q).0 k)

      both : (h : ℤ) (p q : ℕ) → IsHigh r.values 0 (length links) h p → IsHigh r.values 0 (length links) h q → IsTrue (reaches r connect h p q)
          → HaveSameLast r.values 0 links h p q
      both h p q hp hq k =
          let small : 0 + length links ≤ no_node = omega (arith, few) in
          let a = last_there r.values 0 links h fit_forest small p hp in let b = last_there r.values 0 links h fit_forest small q hq in
          let ea = ended h p a.0 a.1 in let eb = ended h q b.0 b.1 in
          let m = bottom_of h a.0 ea.0.value in
          let across = Nodes.reaches_trans r connect h a.0 q b.0
          (Nodes.reaches_trans r connect h a.0 p q (Nodes.reaches_sym r connect h p a.0 (walked h p a.0 a.1)) k) (walked h q b.0 b.1) in
          let same : b.0 ≡ a.0 = at_bottom h b.0 m.0 eb.0 eb.1 (bottom_moved h a.0 b.0 m.0 across m.1) ∙ sym (at_bottom h a.0 m.0 ea.0 ea.1 m.1) in
          (a.0, (a.1, subst (λ (z : ℕ). WayEndsAt r.values 0 links h q z) same b.1))

-- ---- reading a tree

pub number_read : (r : Raster) (connect : Connect) (ns : List ℕ) → ns ≡ (tree_of r connect).node_of → (p : ℕ) → p < length r.values
    → get_or ns p 0 ≡ node_of r connect p
unfolding tree_of
number_read r connect ns is p lt = ap (λ xs. get_or xs p 0) is ∙ read-node_of r connect p lt

pub numbers_count : (r : Raster) (connect : Connect) (ns : List ℕ) → ns ≡ (tree_of r connect).node_of → length ns ≡ length r.values
numbers_count r connect ns is = ap length is ∙ (tree_of-is r connect).one_each

rows_read : (r : Raster) (connect : Connect) (rows : List NodeRow) → rows ≡ (tree_of r connect).rows → (p : ℕ) → IsTrue (is_defined r p)
    → get_or rows (node_of r connect p) blank ≡ row_of r connect (representative r connect p)
rows_read r connect rows is p d =
    let place = Nodes.node_of-is r connect p d in
    ap (λ xs. get_or xs (node_of r connect p) blank) (is ∙ rows-are r connect)
    ∙ get_or-map (row_of r connect) (nodes r connect) (node_of r connect p) 0 blank place.below ∙ ap (row_of r connect) place.it_is

parent_in : (r : Raster) (connect : Connect) (p : ℕ) → (row_of r connect p).parent ≡ parent_of r connect p
unfolding row_of
parent_in r connect p = refl

numbered_defined : (r : Raster) (connect : Connect) (p : ℕ) → node_of r connect p ≢ no_node → IsTrue (is_defined r p)
numbered_defined r connect p some = on (is_defined r p) refl
  where
    on : (b : Bool) → is_defined r p ≡ b → is_defined r p ≡ true
    on true u = u
    on false u = absurd (some (sym (node-undefined r connect p u)))

bare_undefined : (r : Raster) (connect : Connect) (p : ℕ) → IsPlane r → node_of r connect p ≡ no_node → IsFalse (is_defined r p)
bare_undefined r connect p plane none = on (is_defined r p) refl
  where
    on : (b : Bool) → is_defined r p ≡ b → is_defined r p ≡ false
    on false u = u
    on true d = absurd (below_no_node r connect (node_of r connect p) plane (Nodes.node_of-is r connect p d).below none)

module _ (r : Raster) (connect : Connect) (links : List ℕ) (plane : IsPlane r) (whole : length links ≡ length r.values) (p : ℕ) (lt : p < length r.values)
    (ns : List ℕ) (ns_is : ns ≡ (tree_of r connect).node_of) (rows : List NodeRow) (rows_is : rows ≡ (tree_of r connect).rows) where
  link_is : get_or links p 0 ≡ link_of 0 links p
  link_is = read_link links p (omega (arith, whole, lt))

  node_is : get_or ns p 0 ≡ node_of r connect p
  node_is = number_read r connect ns ns_is p lt

  defined : get_or ns p 0 ≢ no_node → IsTrue (is_defined r p)
  defined some = numbered_defined r connect p (λ e. some (node_is ∙ e))

  row_is : IsTrue (is_defined r p) → get_or rows (get_or ns p 0) blank ≡ row_of r connect (representative r connect p)
  row_is d = ap (λ n. get_or rows n blank) node_is ∙ rows_read r connect rows rows_is p d

  represents : IsTrue (is_defined r p) → (get_or rows (get_or ns p 0) blank).rep ≡ p → representative r connect p ≡ p
  represents d e = sym (rep-of r connect (representative r connect p)) ∙ sym (ap (λ (row : NodeRow). row.rep) (row_is d)) ∙ e

  parent_is : IsTrue (is_defined r p) → (get_or rows (get_or ns p 0) blank).rep ≡ p → (get_or rows (get_or ns p 0) blank).parent ≡ parent_of r connect p
  parent_is d e =
      ap (λ (row : NodeRow). row.parent) (row_is d) ∙ parent_in r connect (representative r connect p) ∙ ap (parent_of r connect) (represents d e)

  pub some_row : get_or ns p 0 ≢ no_node → get_or ns p 0 < length rows
  some_row some =
      omega (
        arith,
        node_is,
        (Nodes.node_of-is r connect p (defined some)).below,
        ap length (rows_is ∙ rows-are r connect),
        length-map (nodes r connect) (row_of r connect),
      )

  pub when_outside : get_or ns p 0 ≡ no_node → get_or links p 0 ≡ no_node → IsFit r connect links p
  when_outside none bare = outside (bare_undefined r connect p plane (sym node_is ∙ none)) (sym link_is ∙ bare)

  pub when_root : get_or ns p 0 ≢ no_node → get_or links p 0 ≡ no_node → (get_or rows (get_or ns p 0) blank).rep ≡ p
      → (get_or rows (get_or ns p 0) blank).parent ≡ no_node
      → IsFit r connect links p
  when_root some bare e top = root (defined some) (represents (defined some) e) (sym (parent_is (defined some) e) ∙ top) (sym link_is ∙ bare)

  module _ (others : List ℕ) (others_is : others ≡ (tree_of r connect).node_of) (inner : get_or links p 0 < length r.values)
      (up_some : get_or others (get_or links p 0) 0 ≢ no_node) where
    up_is : get_or others (get_or links p 0) 0 ≡ node_of r connect (link_of 0 links p)
    up_is = number_read r connect others others_is (get_or links p 0) inner ∙ ap (node_of r connect) link_is

    link_defined : IsTrue (is_defined r (link_of 0 links p))
    link_defined = numbered_defined r connect (link_of 0 links p) (λ e. up_some (up_is ∙ e))

    pub when_inside : get_or ns p 0 ≢ no_node → get_or others (get_or links p 0) 0 ≡ get_or ns p 0 → get_or links p 0 < p → IsFit r connect links p
    when_inside some same low = inside (defined some) link_defined (sym up_is ∙ same ∙ node_is) (omega (arith, link_is, low))

    pub when_up : get_or ns p 0 ≢ no_node → (get_or rows (get_or ns p 0) blank).rep ≡ p
        → get_or others (get_or links p 0) 0 ≡ (get_or rows (get_or ns p 0) blank).parent
        → IsFit r connect links p
    when_up some e same = up (defined some) (represents (defined some) e) link_defined (sym up_is ∙ same ∙ parent_is (defined some) e)

-- a connectivity is one of the two
pub one_of_two : (r : Raster) (connect : Connect) (links : List ℕ) → StandsForAll r connect links → StandsForAll r Four links ⊎ StandsForAll r Eight links
one_of_two r Four links k = inl k
one_of_two r Eight links k = inr k
