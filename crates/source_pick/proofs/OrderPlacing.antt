-- The sources with their sums: sorted by their least pixels they stand as in the list of the sources.
use Rattle.std.proofs.Common.{◌≡◌, ℕ, ◌+◌, ◌<◌, ◌≤◌, List, [], ◌∷◌, ◌++◌, length, map, take, get_or, eqb, All, IsPermutation, refl, sym, ◌∙◌, ap, subst, arith}
use Rattle.std.proofs.Common.{add-one, true, false, zero, suc, inl, inr}
use Rattle.std.specs.Prelude.{Result, Ok, Err, IfOk, Some, slice_get, filter, ◌↔◌}
use Rattle.std.specs.List.{range_with_len, IsDistinct, AllByRecursion}
use Rattle.std.specs.List.Sorted.{IsNonDecreasingBy}
use Rattle.std.proofs.lemmas.Bool.{ne_eqb, eqb-false}
use Rattle.std.proofs.lemmas.Cmp.{nat_eq_equiv}
use Rattle.std.proofs.lemmas.Option.{slice_get_within, get_or_from_slice_get}
use Rattle.std.proofs.lemmas.List.{length-map, get_or-map, map_push, map-id}
use Rattle.std.proofs.lemmas.List.Elements.{All-from_recursion, recursion_from_All}
use Rattle.std.proofs.lemmas.List.Sorted.{All-permutation, Contains-permutation, IsPermutation-map, IsPermutation-sym}
use Rattle.std.proofs.lemmas.Map.Keys.{IsDistinct-IsPermutation, apart_from_distinct}
use Rattle.lemmas.proofs.Exported.{IsAmong, IsRising, IsRisingBy, ArePaired, among-filter, among_from_filter, among_at_place, among_of, contains_from_among}
use Rattle.lemmas.proofs.Exported.{paired_from_rising, paired_map, rising-pixels}
use Rattle.comp_tree.specs.declared.shape.Connect.{Connect}
use Rattle.comp_tree.specs.Raster.{Raster, IsPlane}
use Rattle.comp_tree.specs.ComponentTree.{ComponentTree}
use Rattle.comp_tree.specs.Components.{nodes, tree_of}
use Rattle.comp_tree.specs.Nesting.{node_numbers}
use Rattle.node_sums.specs.declared.entry.Sums.{Sums}
use Rattle.node_sums.specs.declared.outline.Outline.{Outline}
use Rattle.node_sums.specs.Sums.{sums_of}
use Rattle.node_sums.specs.Outlines.{outlines_in, AreOutlinesOfTree, ForEachPlaneOutlined}
use Rattle.node_sums.specs.DisjointNodes.{AreDisjointNodes}
use Rattle.node_sums.proofs.Exported.{range-push, filter_yes, filter_no, among_nodes, node_from_among, rows_are}
use Rattle.source_pick.specs.declared.choice.Choice.{Choice}
use Rattle.source_pick.specs.declared.picking.PlacedSource.{PlacedSource}
use Rattle.source_pick.specs.Sources.{is_source, sources, ArePickedFrom}
use Rattle.source_pick.specs.Passes.{with_sums, AreListedSources, placed_nodes, placed_sums}
use Rattle.source_pick.proofs.NodesSourcing.{sources_that_share}
use Rattle.source_pick.proofs.OrderListing.{IsSourceAt, same_source, source_node, sources_apart}
use Rattle.source_pick.proofs.WindowsPairing.{among_sources, source_from_among, sources_rise, rising_from_get}

-- ---- the pass over the nodes

pub listed_none : (choice : Choice) (tree : ComponentTree) (outlines : List Outline) (listed : List ℕ) → listed ≡ []
    → AreListedSources choice tree outlines 0 listed
listed_none choice tree outlines listed e = record { are = λ r connect of_tree of_outlines is_plane. e }

range_next : (k : ℕ) → range_with_len 0 (k + 1) ≡ range_with_len 0 k ++ k ∷ []
range_next k = rw add-one (range-push 0 k k (omega arith))

pub listed_more : (choice : Choice) (tree : ComponentTree) (outlines : List Outline) (k : ℕ) (listed : List ℕ) → AreListedSources choice tree outlines k listed
    → ForEachPlaneOutlined tree outlines (λ r connect. IsPlane r → is_source r connect choice k ≡ true)
    → AreListedSources choice tree outlines (k + 1) (listed ++ k ∷ [])
listed_more choice tree outlines k listed h source = record {
  are = λ r connect of_tree of_outlines is_plane.
      ap (λ (ns : List ℕ). ns ++ k ∷ []) (h.are r connect of_tree of_outlines is_plane)
      ∙ sym (filter_yes (is_source r connect choice) (range_with_len 0 k) k (source r connect of_tree of_outlines is_plane))
      ∙ ap (filter (is_source r connect choice)) (sym (range_next k));
}

pub listed_same : (choice : Choice) (tree : ComponentTree) (outlines : List Outline) (k : ℕ) (listed : List ℕ) → AreListedSources choice tree outlines k listed
    → ForEachPlaneOutlined tree outlines (λ r connect. IsPlane r → is_source r connect choice k ≡ false)
    → AreListedSources choice tree outlines (k + 1) listed
listed_same choice tree outlines k listed h other = record {
  are = λ r connect of_tree of_outlines is_plane.
      h.are r connect of_tree of_outlines is_plane
      ∙ sym (filter_no (is_source r connect choice) (range_with_len 0 k) k (other r connect of_tree of_outlines is_plane))
      ∙ ap (filter (is_source r connect choice)) (sym (range_next k));
}

pub listed_up_to : (choice : Choice) (tree : ComponentTree) (outlines : List Outline) (j k : ℕ) (listed : List ℕ)
    → AreListedSources choice tree outlines k listed → j ≡ k → AreListedSources choice tree outlines j listed
listed_up_to choice tree outlines j k listed h e = subst (λ (n : ℕ). AreListedSources choice tree outlines n listed) (sym e) h

-- ---- the sources with their sums, one after the other

take_next : (xs : List ℕ) (i d : ℕ) → i < length xs → take (suc i) xs ≡ take i xs ++ get_or xs i d ∷ []
take_next [] i d l = absurd (omega arith)
take_next (x ∷ xs) zero d l = refl
take_next (x ∷ xs) (suc i) d l = ap (λ (ys : List ℕ). x ∷ ys) (take_next xs i d (omega arith))

take_more : (xs : List ℕ) (i d : ℕ) → i < length xs → take (i + 1) xs ≡ take i xs ++ get_or xs i d ∷ []
take_more xs i d l = ap (λ (j : ℕ). take j xs) (add-one i) ∙ take_next xs i d l

pub placed_more : (r : Raster) (connect : Connect) (ns : List ℕ) (sums : List Sums) (placed : List PlacedSource) (i d : ℕ) (e : Sums)
    → sums ≡ map (sums_of r connect) ns → i < length ns → placed ≡ map (with_sums r connect) (take i ns)
    → placed ++ record { node = get_or ns i d; sums = get_or sums i e } ∷ [] ≡ map (with_sums r connect) (take (i + 1) ns)
placed_more r connect ns sums placed i d e are l h =
    let read : get_or sums i e ≡ sums_of r connect (get_or ns i d) =
    ap (λ (xs : List Sums). get_or xs i e) are ∙ get_or-map (sums_of r connect) ns i d e l in
    ap (λ (ss : List PlacedSource). ss ++ record { node = get_or ns i d; sums = get_or sums i e } ∷ []) h
    ∙ ap (λ (s : Sums). map (with_sums r connect) (take i ns) ++ record { node = get_or ns i d; sums = s } ∷ []) read
    ∙ sym (map_push (with_sums r connect) (take i ns) (get_or ns i d))
    ∙ ap (map (with_sums r connect)) (sym (take_more ns i d l))

take_whole : (xs : List ℕ) (i : ℕ) → length xs ≤ i → take i xs ≡ xs
take_whole [] zero l = refl
take_whole [] (suc i) l = refl
take_whole (x ∷ xs) zero l = absurd (omega arith)
take_whole (x ∷ xs) (suc i) l = ap (λ (ys : List ℕ). x ∷ ys) (take_whole xs i (omega arith))

pub placed_whole : (r : Raster) (connect : Connect) (ns : List ℕ) (placed : List PlacedSource) (i : ℕ) → placed ≡ map (with_sums r connect) (take i ns)
    → length ns ≤ i → placed ≡ map (with_sums r connect) ns
placed_whole r connect ns placed i h l = h ∙ ap (map (with_sums r connect)) (take_whole ns i l)

-- ---- lists that rise

distinct_from_rising : (xs : List ℕ) → IsRising xs → IsDistinct eqb xs
unfolding IsDistinct
distinct_from_rising [] h = tt
distinct_from_rising (x ∷ xs) h = (apart xs h.0, distinct_from_rising xs h.1)
  where
    apart : (ys : List ℕ) → ((y : ℕ) → IsAmong y ys → x < y) → AllByRecursion (λ y. eqb x y ≡ false) ys
    apart [] above = tt
    apart (y ∷ ys) above = (ne_eqb x y (λ e. let l : x < y = above y (inl refl) in absurd (omega arith)), apart ys (λ z m. above z (inr m)))

-- two lists that rise by the same number of their members, and have the same members, are one list
same_from_rising : (f : ℕ → ℕ) (xs ys : List ℕ) → IsRisingBy f xs → IsRisingBy f ys → ((n : ℕ) → IsAmong n xs → IsAmong n ys)
    → ((n : ℕ) → IsAmong n ys → IsAmong n xs) → xs ≡ ys
same_from_rising f xs ys hx hy there back = sym (map-id xs) ∙ paired_map (λ m n. m ≡ n) (λ n. n) (λ n. n) xs ys (λ m n e. e) paired ∙ map-id ys
  where
    order : (p q a b : ℕ) → p ≡ q → a ≡ b → (f p < f a) ↔ (f q < f b)
    order p q a b e d = let u : f p ≡ f q = ap f e in let v : f a ≡ f b = ap f d in ((λ l. omega arith), (λ l. omega arith))

    paired : ArePaired (λ m n. m ≡ n) xs ys
    paired = paired_from_rising (λ m n. m ≡ n) f f xs ys order hx hy
        (λ n m. record { it = n; among = there n m; pair = refl })
        (λ n m. record { it = n; among = back n m; pair = refl })

-- ---- a source with its sums

nodes-placed : (r : Raster) (connect : Connect) (ns : List ℕ) → placed_nodes (map (with_sums r connect) ns) ≡ ns
nodes-placed r connect [] = refl
nodes-placed r connect (n ∷ ns) = ap (λ (ms : List ℕ). n ∷ ms) (nodes-placed r connect ns)

sums-placed : (r : Raster) (connect : Connect) (ns : List ℕ) → placed_sums (map (with_sums r connect) ns) ≡ map (sums_of r connect) ns
sums-placed r connect [] = refl
sums-placed r connect (n ∷ ns) = ap (λ (ss : List Sums). sums_of r connect n ∷ ss) (sums-placed r connect ns)

-- the sums are those of the node
abbrev HasItsSums : Raster → Connect → PlacedSource → Type 0
HasItsSums r connect s = s ≡ with_sums r connect s.node

all_have_sums : (r : Raster) (connect : Connect) (ns : List ℕ) → AllByRecursion (HasItsSums r connect) (map (with_sums r connect) ns)
all_have_sums r connect [] = tt
all_have_sums r connect (n ∷ ns) = (refl, all_have_sums r connect ns)

placed_back : (r : Raster) (connect : Connect) (ss : List PlacedSource) → AllByRecursion (HasItsSums r connect) ss
    → ss ≡ map (with_sums r connect) (placed_nodes ss)
placed_back r connect [] h = refl
placed_back r connect (s ∷ ss) h =
    ap (λ (x : PlacedSource). x ∷ ss) h.0 ∙ ap (λ (xs : List PlacedSource). with_sums r connect s.node ∷ xs) (placed_back r connect ss h.1)

-- ---- sorted by the least pixels

module _ (r : Raster) (connect : Connect) (choice : Choice) (plane : IsPlane r) (xs ys : List PlacedSource)
    (placed_are : xs ≡ map (with_sums r connect) (filter (is_source r connect choice) (node_numbers r connect)))
    (moved : IsPermutation xs ys) (up : IsNonDecreasingBy (λ (s : PlacedSource). s.sums.first) ys) where
  -- the sources in the order of nodes, and as they are sorted
  abbrev own : List ℕ
  own = filter (is_source r connect choice) (node_numbers r connect)

  abbrev sorted : List ℕ
  sorted = placed_nodes ys

  abbrev first : ℕ → ℕ
  first n = (sums_of r connect n).first

  ys_are : ys ≡ map (with_sums r connect) sorted
  ys_are =
      placed_back r connect ys (recursion_from_All (HasItsSums r connect) ys (All-permutation (HasItsSums r connect) xs ys moved
      (subst (λ (ss : List PlacedSource). All (HasItsSums r connect) ss) (sym placed_are)
      (All-from_recursion (HasItsSums r connect) (map (with_sums r connect) own) (all_have_sums r connect own)))))

  nodes_moved : IsPermutation own sorted
  nodes_moved =
      subst (λ (ns : List ℕ). IsPermutation ns sorted) (ap (λ (ss : List PlacedSource). placed_nodes ss) placed_are ∙ nodes-placed r connect own)
      (IsPermutation-map (λ (s : PlacedSource). s.node) xs ys moved)

  distinct : IsDistinct eqb sorted
  distinct =
      IsDistinct-IsPermutation eqb nat_eq_equiv.symm own sorted nodes_moved
      (distinct_from_rising own (rising-pixels (is_source r connect choice) (length (nodes r connect))))

  source : (n : ℕ) → IsAmong n sorted → IsSourceAt r connect choice (first n) n
  source n m =
      let k = among_from_filter (is_source r connect choice) n (node_numbers r connect)
      (among_of n own (Contains-permutation sorted own n (IsPermutation-sym own sorted nodes_moved) (contains_from_among n sorted m))) in
      record { node = node_from_among r connect n k.0; source = k.1; first = refl }

  back : (n : ℕ) → IsAmong n (sources r connect choice) → IsAmong n sorted
  back n m =
      let k = source_from_among r connect choice n plane m in
      among_of n sorted (Contains-permutation own sorted n nodes_moved
      (contains_from_among n own (among-filter (is_source r connect choice) n (node_numbers r connect) (among_nodes r connect n k.0) k.1)))

  -- what stands at a place
  within : (i n : ℕ) → slice_get sorted i ≡ Some n → i < length ys
  within i n g = let l : i < length sorted = slice_get_within sorted i n g in omega (arith, length-map ys (λ (s : PlacedSource). s.node))

  first_there : (i n : ℕ) → slice_get sorted i ≡ Some n → (get_or ys i (with_sums r connect 0)).sums.first ≡ first n
  first_there i n g =
      ap (λ (ss : List PlacedSource). (get_or ss i (with_sums r connect 0)).sums.first) ys_are
      ∙ ap (λ (s : PlacedSource). s.sums.first) (get_or-map (with_sums r connect) sorted i 0 (with_sums r connect 0) (slice_get_within sorted i n g))
      ∙ ap first (get_or_from_slice_get sorted i n 0 g)

  among : (i n : ℕ) → slice_get sorted i ≡ Some n → IsAmong n sorted
  among i n g = among_at_place n sorted i (slice_get_within sorted i n g) (get_or_from_slice_get sorted i n n g)

  apart : (i j m n : ℕ) → i < j → slice_get sorted i ≡ Some m → slice_get sorted j ≡ Some n → m ≡ n → ⊥
  apart i j m n l f g e =
      eqb-false (get_or sorted i 0) (get_or sorted j 0) (apart_from_distinct eqb sorted i j 0 distinct l (slice_get_within sorted j n g))
      (get_or_from_slice_get sorted i m 0 f ∙ e ∙ sym (get_or_from_slice_get sorted j n 0 g))

  rise : (i j m n : ℕ) → i < j → slice_get sorted i ≡ Some m → slice_get sorted j ≡ Some n → first m < first n
  rise i j m n l f g =
      let here : IsSourceAt r connect choice (first m) m = source m (among i m f) in
      let order = up i j (with_sums r connect 0) (omega arith) (within j n g) in
      let other : first m ≡ first n → ⊥ = λ e. apart i j m n l f g (same_source r connect choice (first n) m n plane
      (record { node = here.node; source = here.source; first = e }) (source n (among j n g))) in
      let a = first_there i m f in
      let b = first_there j n g in
      omega arith

  pub sorted_sources : sorted ≡ sources r connect choice
  sorted_sources =
      same_from_rising first sorted (sources r connect choice) (rising_from_get first sorted rise) (sources_rise r connect choice plane)
      (λ n m. let k : IsSourceAt r connect choice (first n) n = source n m in among_sources r connect choice n plane k.node k.source) back

  pub sorted_sums : placed_sums ys ≡ map (sums_of r connect) sorted
  sorted_sums = ap (λ (ss : List PlacedSource). placed_sums ss) ys_are ∙ sums-placed r connect sorted

-- ---- as the code answers

-- the listed nodes share no pixel
pub listed_disjoint : (choice : Choice) (tree : ComponentTree) (outlines : List Outline) (listed : List ℕ) → AreOutlinesOfTree tree outlines
    → AreListedSources choice tree outlines (length tree.rows) listed → AreDisjointNodes tree listed
listed_disjoint choice tree outlines listed t h = record {
  plane = t.plane;
  connect = t.of_plane.connect;
  one_each = t.one_each;
  tree_is = t.of_plane.tree_is;
  nodes = λ i s g. (let l : s < length (nodes t.plane t.of_plane.connect) = (there i s g).node in omega (arith, l, rows));
  disjoint = λ i j m n l f g q in_m in_n. apart i j m n l f g
      (sources_that_share t.plane t.of_plane.connect choice m n q t.one_each (there i m f).node (there j n g).node (there i m f).source (there j n g).source in_m
      in_n);
}
  where
    rows : length tree.rows ≡ length (nodes t.plane t.of_plane.connect)
    rows = rows_are t.plane t.of_plane.connect tree t.of_plane.tree_is

    listed_are : listed ≡ filter (is_source t.plane t.of_plane.connect choice) (node_numbers t.plane t.of_plane.connect)
    listed_are =
        h.are t.plane t.of_plane.connect t.of_plane.tree_is t.of_plane.outlines_are t.one_each
        ∙ ap (λ (n : ℕ). filter (is_source t.plane t.of_plane.connect choice) (range_with_len 0 n)) rows

    there : (i n : ℕ) → slice_get listed i ≡ Some n → IsSourceAt t.plane t.of_plane.connect choice (sums_of t.plane t.of_plane.connect n).first n
    there i n g =
        let k = among_from_filter (is_source t.plane t.of_plane.connect choice) n (node_numbers t.plane t.of_plane.connect)
        (subst (λ (xs : List ℕ). IsAmong n xs) listed_are
        (among_at_place n listed i (slice_get_within listed i n g) (get_or_from_slice_get listed i n n g))) in
        record { node = node_from_among t.plane t.of_plane.connect n k.0; source = k.1; first = refl }

    distinct : IsDistinct eqb listed
    distinct = subst (λ (xs : List ℕ). IsDistinct eqb xs) (sym listed_are)
        (distinct_from_rising (filter (is_source t.plane t.of_plane.connect choice) (node_numbers t.plane t.of_plane.connect))
        (rising-pixels (is_source t.plane t.of_plane.connect choice) (length (nodes t.plane t.of_plane.connect))))

    apart : (i j m n : ℕ) → i < j → slice_get listed i ≡ Some m → slice_get listed j ≡ Some n → m ≡ n → ⊥
    apart i j m n l f g e =
        eqb-false (get_or listed i 0) (get_or listed j 0) (apart_from_distinct eqb listed i j 0 distinct l (slice_get_within listed j n g))
        (get_or_from_slice_get listed i m 0 f ∙ e ∙ sym (get_or_from_slice_get listed j n 0 g))

pub picked_exact : (choice : Choice) (r : Raster) (connect : Connect) (tree : ComponentTree) (outlines : List Outline) (ns : List ℕ) (sums : List Sums)
    (placed sorted : List PlacedSource) (picked : List ℕ) (picked_sums : List Sums) → IsPlane r → tree ≡ tree_of r connect → outlines ≡ outlines_in r connect
    → AreListedSources choice tree outlines (length tree.rows) ns → placed ≡ map (with_sums r connect) ns → IsPermutation placed sorted
    → IsNonDecreasingBy (λ (s : PlacedSource). s.sums.first) sorted → picked ≡ placed_nodes sorted → picked_sums ≡ placed_sums sorted
    → ArePickedFrom r connect choice picked picked_sums
picked_exact choice r connect tree outlines ns sums placed sorted picked picked_sums plane of_tree of_outlines h made moved up e f = record {
  nodes_are = e ∙ sorted_sources r connect choice plane placed sorted placed_are moved up;
  sums_are = f ∙ sorted_sums r connect choice plane placed sorted placed_are moved up ∙ ap (map (sums_of r connect)) (sym e);
}
  where
    placed_are : placed ≡ map (with_sums r connect) (filter (is_source r connect choice) (node_numbers r connect))
    placed_are = made ∙ ap (map (with_sums r connect)) (h.are r connect of_tree of_outlines plane
        ∙ ap (λ (n : ℕ). filter (is_source r connect choice) (range_with_len 0 n)) (rows_are r connect tree of_tree))

pub picked_disjoint : (choice : Choice) (tree : ComponentTree) (r : Raster) (connect : Connect) (picked : List ℕ) → IsPlane r → tree ≡ tree_of r connect
    → picked ≡ sources r connect choice → AreDisjointNodes tree picked
picked_disjoint choice tree r connect picked plane tree_is e = record {
  plane = r;
  connect = connect;
  one_each = plane;
  tree_is = tree_is;
  nodes = λ i s g.
      let a : s < length (nodes r connect) = source_node r connect choice i s plane (ap (λ (xs : List ℕ). slice_get xs i) (sym e) ∙ g) in
      let b : length tree.rows ≡ length (nodes r connect) = rows_are r connect tree tree_is in
      omega arith;
  disjoint = λ i j m n l f g.
      sources_apart r connect choice i j m n plane l (ap (λ (xs : List ℕ). slice_get xs i) (sym e) ∙ f)
      (ap (λ (xs : List ℕ). slice_get xs j) (sym e) ∙ g);
}

pub if_ok_more : {X E : Type 0} (result : Result X E) (A B : X → Type 0) → ((x : X) → A x → B x) → IfOk result A → IfOk result B
if_ok_more (Ok x) A B f a = f x a
if_ok_more (Err e) A B f a = tt

pub if_ok_both : {X E : Type 0} (result : Result X E) (A B C : X → Type 0) → ((x : X) → A x → B x → C x) → IfOk result A → IfOk result B → IfOk result C
if_ok_both (Ok x) A B C f a b = f x a b
if_ok_both (Err e) A B C f a b = tt
