-- What the links give is the component tree, for each connectivity whose adjacencies they stand for.
use Rattle.std.proofs.Common.{◌≡◌, ◌≢◌, ℕ, zero, suc, ◌+◌, ◌<◌, ◌≤◌, ◌⊎◌, Bool, true, false, not, List, [], ◌∷◌, length, map, refl, sym, ap, subst, ◌∙◌, inl}
use Rattle.std.proofs.Common.{inr, arith, Some, None}
use Rattle.std.specs.Prelude.{IsTrue, IsFalse, ℤ, int_le, ◌==◌, filter}
use Rattle.std.proofs.lemmas.Bool.{true≢false, cases_eq, and_from, eq-eqb}
use Rattle.std.proofs.lemmas.List.{get_or_past, get_or_default}
use Rattle.std.proofs.lemmas.List.FromFn.{fill_by_all}
use Rattle.comp_tree.specs.declared.shape.Shape.{Shape}
use Rattle.comp_tree.specs.declared.shape.Connect.{Connect}
use Rattle.comp_tree.specs.declared.shape.Connect.TheVariants.{Four, Eight}
use Rattle.comp_tree.specs.declared.tree.NodeRow.{NodeRow}
use Rattle.comp_tree.specs.ComponentTree.{ComponentTree, IsWellFormed}
use Rattle.comp_tree.specs.Raster.{Raster, IsPlane, value_at, at_least, is_defined, is_at_least, level, pixels}
use Rattle.comp_tree.specs.Forest.{no_node, IsHigh, link_of, IsForest, WayEndsAt, stop, go, HaveSameLast}
use Rattle.comp_tree.specs.Grid.{IsAdjacency}
use Rattle.comp_tree.specs.Joined.{Joined}
use Rattle.comp_tree.specs.Components.{reaches, representative, is_representative, in_order, nodes, node_of, parent_of, row_of, tree_of, is_candidate}
use Rattle.comp_tree.proofs.Exported.{value-level, level-value, last_is, last_own, representative_from_link, link_from_representative, parent_from_link}
use Rattle.comp_tree.proofs.Exported.{before_level, last_start, last_earlier, int_lt_le, int_le_refl, IsAmong, earlier-level, node-undefined}
use Rattle.comp_tree.proofs.Exported.{reaches-is_IsReached, below_from_defined, defined_from_at_least, joined_wider, get_is, make_tree, tree_of-well_formed}
use Rattle.comp_tree.proofs.Exported as Nodes
use Rattle.comp_tree.specs.Forest.{StandsForAll}
use Rattle.tree_canon.specs.Canonical.{is_canonical, canonical_pixels, node_number_at, IsNumbering, loose_row, with_parent}
use Rattle.tree_canon.proofs.Finding.{IsPixelLink, pixel_link, canonical-none, canonical-some, link_high}
use Rattle.tree_canon.proofs.Sorting.{canonical-defined, canonical-is}
use Rattle.tree_canon.proofs.Numbering.{place_of}
use Rattle.lemmas.proofs.Exported.{same_bool}

not_true : (b : Bool) → not b ≡ true → b ≡ false
not_true true e = sym e
not_true false e = refl

map_same : {X : Type 0} (f g : ℕ → X) (ps : List ℕ) → ((p : ℕ) → IsAmong p ps → f p ≡ g p) → map f ps ≡ map g ps
map_same f g [] h = refl
map_same f g (p ∷ ps) h = let first : f p ≡ g p = h p (inl refl) in let rest : map f ps ≡ map g ps = map_same f g ps (λ q m. h q (inr m)) in cc

map_map : {X Y : Type 0} (f : X → Y) (g : ℕ → X) (ps : List ℕ) → map f (map g ps) ≡ map (λ p. f (g p)) ps
map_map f g [] = refl
map_map f g (p ∷ ps) = ap (λ ys. f (g p) ∷ ys) (map_map f g ps)

module _ (r : Raster) (connect : Connect) (links : List ℕ) (plane : IsPlane r) (whole : length links ≡ length r.values)
    (forest : IsForest r.values 0 links) (stands : StandsForAll r connect links) where
  few : length r.values ≤ no_node
  few = omega (arith, plane, r.shape.within_limits.few_pixels)

  no_value : value_at r.values no_node ≡ None
  no_value = get_or_past r.values no_node None few

  high_from : (h : ℤ) (p : ℕ) → IsTrue (is_at_least r h p) → IsHigh r.values 0 (length links) h p
  high_from h p k = record {
    within = record { low = omega arith; high = (let below = below_from_defined r p (defined_from_at_least r h p k) in omega (arith, below, whole)) };
    value = k;
  }

  joined_from : (h : ℤ) (p q : ℕ) → IsTrue (reaches r connect h p q)
      → Joined (IsHigh r.values 0 (length links) h) (IsAdjacency r.values r.shape.width connect) p q
  joined_from h p q k = joined_wider (high_from h) ((reaches-is_IsReached r connect h p q).0 k)

  link_low : (p : ℕ) → IsTrue (is_canonical r links p) → IsFalse (is_at_least r (level r p) (link_of 0 links p))
  link_low p h = elim (cases_eq (link_of 0 links p) no_node) [
    | inl none ↦ ap (λ q. is_at_least r (level r p) q) none ∙ ap (at_least (level r p)) no_value
    | inr some ↦ not_true (is_at_least r (level r p) (link_of 0 links p)) (canonical-some r links p (canonical-defined r links p h) some ∙ h)
  ]

  to_representative : (p : ℕ) → is_canonical r links p ≡ true → is_representative r connect p ≡ true
  unfolding is_representative
  to_representative p h =
      let d = canonical-defined r links p h in
      and_from (is_defined r p) (representative r connect p == p) d
      (eq-eqb (representative r connect p) p (representative_from_link r connect links plane whole forest stands p d (link_low p h)))

  from_representative : (p : ℕ) → is_representative r connect p ≡ true → is_canonical r links p ≡ true
  from_representative p h =
      let k = Nodes.is_representative-parts r connect p h in
      elim (cases_eq (link_of 0 links p) no_node) [
        | inl none ↦ sym (canonical-none r links p none) ∙ k.0
        | inr some ↦ sym (canonical-some r links p k.0 some) ∙ ap not (link_from_representative r connect links plane whole forest stands p k.0 k.1)
      ]

  canonical_same : (p : ℕ) → is_canonical r links p ≡ is_representative r connect p
  canonical_same p = same_bool (is_canonical r links p) (is_representative r connect p) (to_representative p) (from_representative p)

  pub canonical_nodes : canonical_pixels r links ≡ nodes r connect
  unfolding canonical_pixels nodes
  canonical_nodes = ap (λ (t : ℕ → Bool). in_order r (filter t (pixels r))) (λ i p. canonical_same p i)

  -- the link of a pixel that isn't canonical has the same representative
  link_same : (p : ℕ) → IsTrue (is_defined r p) → IsHigh r.values 0 (length links) (level r p) (link_of 0 links p)
      → value_at r.values (link_of 0 links p) ≡ Some (level r p)
      → IsTrue (is_defined r (link_of 0 links p)) → representative r connect p ≡ representative r connect (link_of 0 links p)
  link_same p d high value dl = on (representative r connect p) (last_own r connect links plane whole forest stands p d)
    where
      same_level : level r (link_of 0 links p) ≡ level r p
      same_level = level-value r (link_of 0 links p) (level r p) value

      on : (z : ℕ) → WayEndsAt r.values 0 links (level r p) p z → z ≡ representative r connect (link_of 0 links p)
      on z (stop g n) = absurd (n high)
      on z (go g l) = last_is r connect links plane whole forest stands (link_of 0 links p) z dl
          (subst (λ (h : ℤ). WayEndsAt r.values 0 links h (link_of 0 links p) z) (sym same_level) l)

  module _ (numbers : List ℕ) (numbering : IsNumbering r links numbers) where
    abbrev Numbered : ℕ → Type 0
    Numbered p = Nodes.IsPlace (nodes r connect) (representative r connect p) (node_number_at numbers p)

    number_canonical : (p : ℕ) → IsTrue (is_canonical r links p) → Numbered p
    number_canonical p h =
        let k = place_of r links p h in
        let place = get_is (canonical_pixels r links) k.0 p k.1 in
        let e : representative r connect p ≡ p = (Nodes.is_representative-parts r connect p (to_representative p h)).1 in
        subst (λ (xs : List ℕ). Nodes.IsPlace xs (representative r connect p) (node_number_at numbers p)) canonical_nodes
        (subst (λ (n : ℕ). Nodes.IsPlace (canonical_pixels r links) (representative r connect p) n) (sym (numbering.canonical k.0 p k.1))
        (record { below = place.0; it_is = place.1 ∙ sym e }))

    -- one after the other, since a link within a level leads to a smaller pixel
    number_defined : (n p : ℕ) → p < n → IsTrue (is_defined r p) → Numbered p
    number_defined zero p lt d = absurd (omega arith)
    number_defined (suc n) p lt d = on (is_canonical r links p) refl (number_defined n)
      where
        some : is_canonical r links p ≡ false → link_of 0 links p ≢ no_node
        some u none = true≢false (sym d ∙ canonical-none r links p none ∙ u)

        on : (b : Bool) → is_canonical r links p ≡ b → ((q : ℕ) → q < n → IsTrue (is_defined r q) → Numbered q) → Numbered p
        on true u ih = number_canonical p u
        on false u ih =
            let below = below_from_defined r p d in
            let k : IsPixelLink r links p = pixel_link r links p forest (omega (arith, whole, below)) (some u) in
            let high = link_high r links p d (some u) u in
            let lower = before_level (value_at r.values (link_of 0 links p)) (value_at r.values p) (level r p) (link_of 0 links p) p
            (value-level r p d) high k.earlier in
            let e = link_same p d (record { within = record { low = omega arith; high = omega (arith, k.below) }; value = high }) lower.0 k.link_defined in
            subst (λ (x : ℕ). Nodes.IsPlace (nodes r connect) x (node_number_at numbers p)) (sym e)
            (subst (λ (m : ℕ). Nodes.IsPlace (nodes r connect) (representative r connect (link_of 0 links p)) m) (sym (numbering.others p u))
            (ih (link_of 0 links p) (omega (arith, lower.1)) k.link_defined))

    number_none : node_number_at numbers no_node ≡ no_node
    number_none = get_or_past numbers no_node no_node (omega (arith, numbering.one_each, whole, few))

    number_is : (p : ℕ) → p < length r.values → node_number_at numbers p ≡ node_of r connect p
    number_is p lt = on (is_defined r p) refl
      where
        undefined : is_defined r p ≡ false → (b : Bool) → is_canonical r links p ≡ b → is_canonical r links p ≡ false
        undefined u false c = c
        undefined u true c = absurd (true≢false (sym (canonical-defined r links p c) ∙ u))

        none : is_defined r p ≡ false → link_of 0 links p ≡ no_node
        none u = elim (cases_eq (link_of 0 links p) no_node) [
          | inl e ↦ e
          | inr some ↦ absurd (true≢false (sym (pixel_link r links p forest (omega (arith, whole)) some).defined ∙ u))
        ]

        on : (b : Bool) → is_defined r p ≡ b → node_number_at numbers p ≡ node_of r connect p
        on true d = sym (Nodes.node-unique r connect p (node_number_at numbers p) d (number_defined (suc p) p (omega arith) d))
        on false u =
            numbering.others p (undefined u (is_canonical r links p) refl) ∙ ap (node_number_at numbers) (none u) ∙ number_none ∙ node-undefined r connect p u

    -- where the link is none there is no candidate for the parent
    no_parent : (p : ℕ) → IsTrue (is_defined r p) → link_of 0 links p ≡ no_node → parent_of r connect p ≡ no_node
    no_parent p d none = on (parent_of r connect p) (Nodes.parent-case r connect p)
      where
        small : 0 + length links ≤ no_node
        small = omega (arith, whole, few)

        nowhere : (h : ℤ) → IsHigh r.values 0 (length links) h (link_of 0 links p) → ⊥
        nowhere h g = let b = g.within.high in omega (arith, none, b, small)

        itself : (h : ℤ) (z : ℕ) → WayEndsAt r.values 0 links h p z → z ≡ p
        itself h z (stop g n) = refl
        itself h z (go g l) = absurd (nowhere h (last_start r.values 0 links h forest small (link_of 0 links p) z l))

        no_candidate : (q : ℕ) → IsTrue (is_candidate r connect p q) → ⊥
        no_candidate q c = int_lt_le (level r q) (level r p) m.lower above
          where
            m : Nodes.IsCandidate r connect p q
            m = Nodes.candidate-parts r connect p q c

            same : HaveSameLast r.values 0 links (level r q) q p
            same =
                (stands.joins (level r q) q p
                (high_from (level r q) q (Nodes.reaches_start r connect (level r q) q p m.reaches_it))
                (high_from (level r q) p (Nodes.reaches_end r connect (level r q) q p m.reaches_it))).1
                (joined_from (level r q) q p m.reaches_it)

            q_last : WayEndsAt r.values 0 links (level r q) q p
            q_last = subst (λ (x : ℕ). WayEndsAt r.values 0 links (level r q) q x) (itself (level r q) same.0 same.1.1) same.1.0

            above : int_le (level r p) (level r q) ≡ true
            above = elim (last_earlier r.values 0 links (level r q) forest small q p q_last) [
              | inl x ↦ subst (λ (y : ℕ). int_le (level r p) (level r y) ≡ true) x (int_le_refl (level r p))
              | inr x ↦ earlier-level r p q x
            ]

        on : (n : ℕ) → Nodes.ParentCase r connect p n → n ≡ no_node
        on n (Nodes.root _) = refl
        on n (Nodes.child q c _) = absurd (no_candidate q c)

    parent_is : (p : ℕ) → IsTrue (is_canonical r links p) → node_number_at numbers (link_of 0 links p) ≡ parent_of r connect p
    parent_is p h = elim (cases_eq (link_of 0 links p) no_node) [
      | inl none ↦ ap (node_number_at numbers) none ∙ number_none ∙ sym (no_parent p d none)
      | inr some ↦
          let below = below_from_defined r p d in
          let k : IsPixelLink r links p = pixel_link r links p forest (omega (arith, whole, below)) some in
          number_is (link_of 0 links p) (omega (arith, whole, k.below)) ∙ sym (parent_from_link r connect links plane whole forest stands p d e k.link_defined)
    ]
      where
        d : IsTrue (is_defined r p)
        d = canonical-defined r links p h

        e : representative r connect p ≡ p
        e = (Nodes.is_representative-parts r connect p (to_representative p h)).1

    row_is : (p : ℕ) → IsAmong p (canonical_pixels r links) → with_parent links numbers (loose_row r p) ≡ row_of r connect p
    unfolding row_of
    row_is p m = ap (λ (x : ℕ). let y : NodeRow = record { level = level r p; rep = p; parent = x } in y) (parent_is p (canonical-is r links p m))

    rows_are : map (with_parent links numbers) (map (loose_row r) (canonical_pixels r links)) ≡ map (row_of r connect) (nodes r connect)
    rows_are =
        map_map (with_parent links numbers) (loose_row r) (canonical_pixels r links)
        ∙ map_same (λ p. with_parent links numbers (loose_row r p)) (row_of r connect) (canonical_pixels r links) row_is
        ∙ ap (map (row_of r connect)) canonical_nodes

    numbers_are : numbers ≡ map (node_of r connect) (pixels r)
    unfolding pixels
    numbers_are =
        fill_by_all (node_of r connect) numbers (length r.values) 0 (numbering.one_each ∙ whole) (λ p lt.
        get_or_default numbers p 0 no_node (omega (arith, numbering.one_each, whole)) ∙ number_is p lt)

    pub tree_is : (s : Shape) (rows : List NodeRow) → s ≡ r.shape → rows ≡ map (with_parent links numbers) (map (loose_row r) (canonical_pixels r links))
        → (let t : ComponentTree = record { shape = s; rows = rows; node_of = numbers } in t) ≡ tree_of r connect
    unfolding tree_of
    tree_is s rows e is =
        make_tree s r.shape rows (map (row_of r connect) (nodes r connect)) numbers (map (node_of r connect) (pixels r)) e (is ∙ rows_are) numbers_are

-- the rows, from what the steps of the code say
pub rows_from : (r : Raster) (links numbers lent : List ℕ) (xs given new : List NodeRow) → xs ≡ map (loose_row r) (canonical_pixels r links) → given ≡ xs
    → lent ≡ numbers
    → new ≡ map (with_parent links lent) given → new ≡ map (with_parent links numbers) (map (loose_row r) (canonical_pixels r links))
rows_from r links numbers lent xs given new is same same_numbers made =
    made ∙ ap (λ (ns : List ℕ). map (with_parent links ns) given) same_numbers ∙ ap (map (with_parent links numbers)) (same ∙ is)

pub well_formed : (r : Raster) (links : List ℕ) → IsPlane r → length links ≡ length r.values → IsForest r.values 0 links
    → StandsForAll r Four links ⊎ StandsForAll r Eight links
    → (numbers : List ℕ) → IsNumbering r links numbers → (s : Shape) (rows : List NodeRow) → s ≡ r.shape
    → rows ≡ map (with_parent links numbers) (map (loose_row r) (canonical_pixels r links))
    → (let t : ComponentTree = record { shape = s; rows = rows; node_of = numbers } in IsWellFormed t)
well_formed r links plane whole forest stands numbers numbering s rows e is = elim stands [ inl four ↦ at Four four | inr eight ↦ at Eight eight ]
  where
    at : (connect : Connect) → StandsForAll r connect links → (let t : ComponentTree = record { shape = s; rows = rows; node_of = numbers } in IsWellFormed t)
    at connect k = subst IsWellFormed (sym (tree_is r connect links plane whole forest k numbers numbering s rows e is)) (tree_of-well_formed r connect plane)
