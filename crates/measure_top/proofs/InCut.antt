-- The sources of a plane in the plane that is cut at the lowest of their bases: they are its nodes too, with the same cells.
use Rattle.std.proofs.Common.{◌≡◌, ◌∙◌, ap, sym, subst, refl, arith, ℕ, zero, suc, ◌+◌, ◌<◌, Bool, false, cond, List, [], ◌∷◌, length, map}
use Rattle.std.proofs.Common.{inl, inr}
use Rattle.std.specs.Prelude.{ℤ, ◌≤ℤ◌, Some, slice_get}
use Rattle.std.specs.List.{enumerate_from}
use Rattle.std.proofs.lemmas.Int.{ints}
use Rattle.lemmas.proofs.Exported.{IsAmong, ArePaired, at_end, at_more, paired_flat_map}
use Rattle.comp_tree.specs.declared.shape.Connect.{Connect}
use Rattle.comp_tree.specs.Raster.{Raster, IsPlane, level}
use Rattle.comp_tree.specs.ComponentTree.{ComponentTree}
use Rattle.comp_tree.specs.Components.{nodes, node_of, tree_of}
use Rattle.comp_tree.specs.Nesting.{is_root, level_in, level_of_node}
use Rattle.comp_tree.specs.Laws.{top_of, parent_of_node, parent_in}
use Rattle.comp_tree.proofs.Exported.{top-defined, below_from_defined}
use Rattle.node_sums.specs.Flux.{base_of}
use Rattle.node_sums.proofs.Exported.{BaseCase, at_root, at_child, base-case, level-of_node, rows_are}
use Rattle.source_pick.specs.declared.choice.Choice.{Choice}
use Rattle.source_pick.specs.declared.catalogue.CatRow.{CatRow}
use Rattle.source_pick.specs.Sources.{sources}
use Rattle.source_pick.specs.Catalogue.{measured_row, catalogue_row, catalogue_of}
use Rattle.source_pick.proofs.Exported.{numbers-length, source_from_among}
use Rattle.dual_measure.specs.Measures.{measure_of, back_of}
use Rattle.dual_measure.specs.Columns.{measured_cells_of}
use Rattle.source_sheet.specs.declared.tops.PickedSource.{PickedSource}
use Rattle.measure_top.specs.MeasuredCatalogues.{row_with_measure, rows_with_measures}
use Rattle.measure_top.specs.Cuts.{cut, node_in_cut}
use Rattle.measure_top.specs.Picks.{AreNodesOf, HaveBasesFrom, StandIn, cells_at, all_cells}
use Rattle.measure_top.proofs.CutPlanes.{length-cut}
use Rattle.measure_top.proofs.MeasuredRows.{number_read}
use Rattle.measure_top.proofs.CutNodes.{cut_is_a_plane, node_there, same_measure, same_back}

-- ---- levels from the base on

level_from_base : (r : Raster) (connect : Connect) (h : ℤ) (n : ℕ) → IsPlane r → n < length (nodes r connect) → h ≤ℤ base_of (tree_of r connect) n
    → h ≤ℤ level_of_node r connect n
level_from_base r connect h n plane within low = go (base-case r connect n plane within)
  where
    own : level_of_node r connect n ≡ level r (top_of r connect n)
    own = level-of_node r connect n within

    go : BaseCase r connect n → h ≤ℤ level_of_node r connect n
    go (at_root root is) = omega (arith, ints, own, low)
    go (at_child a parent inside is lower) = omega (arith, ints, own, low)

parent_from_base : (r : Raster) (connect : Connect) (h : ℤ) (n : ℕ) → h ≤ℤ base_of (tree_of r connect) n → is_root (tree_of r connect) n ≡ false
    → h ≤ℤ level_of_node r connect (parent_of_node r connect n)
unfolding base_of
parent_from_base r connect h n low child =
    subst (λ (z : ℤ). h ≤ℤ z)
    (ap (λ (b : Bool). cond b (level_in (tree_of r connect).rows n) (level_in (tree_of r connect).rows (parent_in (tree_of r connect).rows n))) child) low

-- ---- one source

-- the node was picked as the source n of the plane with this number, and its base isn't below h
record IsPickedAs (r : Raster) (connect : Connect) (h : ℤ) (number n : ℕ) (node : PickedSource) : Type 0 where
  within : n < length (nodes r connect)
  row_is : node.row ≡ catalogue_row r connect number n
  rep_is : node.rep ≡ top_of r connect n
  low : h ≤ℤ node.row.base

base_low : (r : Raster) (connect : Connect) (h : ℤ) (number n : ℕ) (node : PickedSource) → IsPickedAs r connect h number n node
    → h ≤ℤ base_of (tree_of r connect) n
unfolding catalogue_row measured_row
base_low r connect h number n node k = subst (λ (z : ℤ). h ≤ℤ z) (ap (λ (row : CatRow). row.base) k.row_is) k.low

stands : (r : Raster) (connect : Connect) (h : ℤ) (number n : ℕ) (node : PickedSource) → IsPlane r → IsPickedAs r connect h number n node
    → (node.rep < length r.values) × (node_in_cut r connect h node.rep < length (nodes (cut r h) connect))
stands r connect h number n node plane k = (
  subst (λ p. p < length r.values) (sym k.rep_is) (below_from_defined r (top_of r connect n) (top-defined r connect n k.within)),
  subst (λ p. node_in_cut r connect h p < length (nodes (cut r h) connect)) (sym k.rep_is)
      (node_there r connect h n plane k.within (level_from_base r connect h n plane k.within (base_low r connect h number n node k))),
)

cells_same : (r values : Raster) (connect : Connect) (h : ℤ) (number n : ℕ) (node : PickedSource) → IsPlane r → IsPickedAs r connect h number n node
    → cells_at (cut r h) values connect node ≡ row_with_measure r values connect number n
unfolding cells_at row_with_measure
cells_same r values connect h number n node plane k = λ i. measured_cells_of (k.row_is i) (measure i) (back i)
  where
    low : h ≤ℤ base_of (tree_of r connect) n
    low = base_low r connect h number n node k

    high : h ≤ℤ level_of_node r connect n
    high = level_from_base r connect h n plane k.within low

    measure : measure_of values (cut r h) connect (node_of (cut r h) connect node.rep) ≡ measure_of values r connect n
    measure = ap (λ p. measure_of values (cut r h) connect (node_of (cut r h) connect p)) k.rep_is ∙ same_measure r values connect h n plane k.within high

    back : back_of values (cut r h) connect (node_of (cut r h) connect node.rep) ≡ back_of values r connect n
    back =
        ap (λ p. back_of values (cut r h) connect (node_of (cut r h) connect p)) k.rep_is
        ∙ same_back r values connect h n plane k.within high (parent_from_base r connect h n low)

-- ---- all of them

-- each node was picked as the source at its place, with numbers that rise from this one
abbrev ArePickedAs : Raster → Connect → ℤ → ℕ → List ℕ → List PickedSource → Type 0
ArePickedAs r connect h number picked found = ArePaired (λ e node. IsPickedAs r connect h e.0 e.1 node) (enumerate_from number picked) found

picked_as : (r : Raster) (connect : Connect) (h : ℤ) (number : ℕ) (picked : List ℕ) (found : List PickedSource)
    → ((n : ℕ) → IsAmong n picked → n < length (nodes r connect))
    → map (λ n. n.row) found ≡ map (λ e. catalogue_row r connect e.0 e.1) (enumerate_from number picked)
    → map (λ n. n.rep) found ≡ map (top_of r connect) picked
    → HaveBasesFrom h found → ArePickedAs r connect h number picked found
picked_as r connect h number [] [] within rows reps low = at_end
picked_as r connect h number [] (node ∷ found) within rows reps low = absurd (cc)
picked_as r connect h number (n ∷ picked) [] within rows reps low = absurd (cc)
picked_as r connect h number (n ∷ picked) (node ∷ found) within rows reps low =
    let row_is : node.row ≡ catalogue_row r connect number n = cc in
    let rows_are : map (λ n. n.row) found ≡ map (λ e. catalogue_row r connect e.0 e.1) (enumerate_from (number + 1) picked) = cc in
    let rep_is : node.rep ≡ top_of r connect n = cc in
    let reps_are : map (λ n. n.rep) found ≡ map (top_of r connect) picked = cc in
    at_more (record { within = within n (inl refl); row_is = row_is; rep_is = rep_is; low = low 0 node refl })
    (picked_as r connect h (number + 1) picked found (λ m a. within m (inr a)) rows_are reps_are (λ k x at. low (suc k) x at))

-- what follows for each second member of a pair
each_second : {X Y : Type 0} (R : X → Y → Type 0) (P : Y → Type 0) (xs : List X) (ys : List Y) → ((x : X) (y : Y) → R x y → P y) → ArePaired R xs ys
    → (k : ℕ) (y : Y) → slice_get ys k ≡ Some y → P y
each_second R P _ _ so at_end k z at = absurd (cc)
each_second R P _ _ so (at_more {x} {y} {xs} {ys} pair rest) zero z at = let same : y ≡ z = cc in subst P same (so x y pair)
each_second R P _ _ so (at_more {x} {y} {xs} {ys} pair rest) (suc k) z at = each_second R P xs ys so rest k z at

sources_picked : (r : Raster) (connect : Connect) (choice : Choice) (h : ℤ) (found : List PickedSource) → IsPlane r
    → AreNodesOf r connect (sources r connect choice) found → HaveBasesFrom h found
    → ArePickedAs r connect h 1 (sources r connect choice) found
unfolding catalogue_of
sources_picked r connect choice h found plane are low =
    picked_as r connect h 1 (sources r connect choice) found (λ n m. (source_from_among r connect choice n plane m).0) are.rows are.representatives low

shape-cut : (r : Raster) (h : ℤ) → (cut r h).shape ≡ r.shape
unfolding cut
shape-cut r h = refl

-- the sources are nodes of the cut plane's tree
pub sources_stand : (r plane : Raster) (connect : Connect) (choice : Choice) (h : ℤ) (tree : ComponentTree) (found : List PickedSource) → IsPlane r
    → plane ≡ cut r h
    → tree ≡ tree_of plane connect → AreNodesOf r connect (sources r connect choice) found → HaveBasesFrom h found → StandIn tree found
sources_stand r plane connect choice h tree found one is tree_is are low k node at =
    let stand = each_second _ (λ (n : PickedSource). (n.rep < length r.values) × (node_in_cut r connect h n.rep < length (nodes (cut r h) connect))) _ found
    (λ e n c. stands r connect h e.0 e.1 n one c) (sources_picked r connect choice h found one are low) k node at in
    let cut_tree = tree_is ∙ ap (λ (p : Raster). tree_of p connect) is in
    let many = numbers-length (cut r h) connect tree cut_tree in
    let rows = rows_are (cut r h) connect tree cut_tree in
    let number = number_read (cut r h) connect tree node.rep cut_tree (omega (arith, stand.0, length-cut r h)) in
    (omega (arith, stand.0, many, length-cut r h), omega (arith, stand.1, rows, number))

-- and their cells there are those of their rows
pub sources_measured : (r plane values : Raster) (connect : Connect) (choice : Choice) (h : ℤ) (found : List PickedSource) → IsPlane r → plane ≡ cut r h
    → AreNodesOf r connect (sources r connect choice) found → HaveBasesFrom h found
    → all_cells plane values connect found ≡ rows_with_measures r values connect (sources r connect choice)
unfolding all_cells rows_with_measures
sources_measured r plane values connect choice h found one is are low =
    ap (λ (p : Raster). all_cells p values connect found) is
    ∙ sym (paired_flat_map _ (λ e. row_with_measure r values connect e.0 e.1) (cells_at (cut r h) values connect) _ found
    (λ e n c. sym (cells_same r values connect h e.0 e.1 n one c)) (sources_picked r connect choice h found one are low))

pub plane-cut : (r plane : Raster) (h : ℤ) → IsPlane r → plane ≡ cut r h → IsPlane plane
plane-cut r plane h one is = subst IsPlane (sym is) (cut_is_a_plane r h one)

pub same_shape-cut : (r plane : Raster) (h : ℤ) → plane ≡ cut r h → plane.shape ≡ r.shape
same_shape-cut r plane h is = ap (λ (p : Raster). p.shape) is ∙ shape-cut r h
