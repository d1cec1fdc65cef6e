-- The nodes that were picked, put one behind the other.
use Rattle.std.proofs.Common.{◌≡◌, ◌∙◌, ap, sym, subst, refl, arith, ℕ, ◌+◌, ◌<◌, ◌≤◌, List, [], ◌∷◌, ◌++◌, length, map, take, get_or}
use Rattle.std.proofs.Common.{length-append, ℤ}
use Rattle.std.specs.Prelude.{◌≤ℤ◌}
use Rattle.std.proofs.lemmas.Int.{ints}
use Rattle.std.proofs.lemmas.List.{take_more, take_all, map-append, get_or-map}
use Rattle.comp_tree.specs.declared.shape.Connect.{Connect}
use Rattle.comp_tree.specs.Raster.{Raster}
use Rattle.comp_tree.specs.ComponentTree.{ComponentTree}
use Rattle.comp_tree.specs.declared.tree.NodeRow.{NodeRow}
use Rattle.comp_tree.specs.Components.{row_of, tree_of}
use Rattle.comp_tree.specs.Components as of_plane
use Rattle.comp_tree.specs.Laws.{top_of}
use Rattle.node_sums.specs.declared.entry.Sums.{Sums}
use Rattle.node_sums.specs.Sums.{sums_of}
use Rattle.node_sums.proofs.Exported.{rows_are}
use Rattle.source_pick.specs.Catalogue.{catalogue_row, catalogue_of, FitsColumns}
use Rattle.tree_products.proofs.Exported.{row_more, rows_all}
use Rattle.source_sheet.proofs.Exported.{each_more, no_item}
use Rattle.source_sheet.specs.declared.tops.PickedSource.{PickedSource}
use Rattle.measure_top.specs.Picks.{AreNodesOf, HaveFittingRows, HaveBasesFrom}

-- ---- the nodes

-- these are the first count of some nodes, with their numbers from 1
pub record AreFirstNodes (tree : ComponentTree) (sums : List Sums) (picked : List ℕ) (count : ℕ) (nodes : List PickedSource) : Type 0 where
  pub many : length nodes ≡ count
  pub fits : HaveFittingRows nodes
  pub rows : (plane : Raster) (connect : Connect) → tree ≡ tree_of plane connect → sums ≡ map (sums_of plane connect) picked
      → map (λ n. n.row) nodes ≡ take count (catalogue_of plane connect picked)
  pub representatives : (plane : Raster) (connect : Connect) → tree ≡ tree_of plane connect
      → map (λ n. n.rep) nodes ≡ map (top_of plane connect) (take count picked)

pub no_nodes : (tree : ComponentTree) (sums : List Sums) (picked : List ℕ) (nodes : List PickedSource) → nodes ≡ [] → AreFirstNodes tree sums picked 0 nodes
no_nodes tree sums picked nodes empty = record {
  many = ap (λ (l : List PickedSource). length l) empty;
  fits = no_item (λ (n : PickedSource). FitsColumns n.row) nodes empty;
  rows = λ plane connect is are. ap (map (λ (n : PickedSource). n.row)) empty;
  representatives = λ plane connect is. ap (map (λ (n : PickedSource). n.rep)) empty;
}

pub node_more : (tree : ComponentTree) (sums : List Sums) (picked : List ℕ) (count : ℕ) (nodes nodes' : List PickedSource) (node : PickedSource)
    → AreFirstNodes tree sums picked count nodes
    → count < length picked → nodes' ≡ nodes ++ node ∷ [] → FitsColumns node.row
    → ((plane : Raster) (connect : Connect) → tree ≡ tree_of plane connect → sums ≡ map (sums_of plane connect) picked → node.row
    ≡ catalogue_row plane connect (count + 1) (get_or picked count 0))
    → ((plane : Raster) (connect : Connect) → tree ≡ tree_of plane connect → node.rep ≡ top_of plane connect (get_or picked count 0))
    → AreFirstNodes tree sums picked (count + 1) nodes'
node_more tree sums picked count nodes nodes' node before within more fits row rep = record {
  many = ap (λ (l : List PickedSource). length l) more ∙ length-append nodes (node ∷ []) ∙ ap (λ n. n + 1) before.many;
  fits = subst HaveFittingRows (sym more) (each_more (λ (n : PickedSource). FitsColumns n.row) nodes node before.fits fits);
  rows = λ plane connect is are.
      ap (map (λ (n : PickedSource). n.row)) more ∙ map-append (λ (n : PickedSource). n.row) nodes (node ∷ [])
      ∙ row_more plane connect picked count (map (λ n. n.row) nodes) node.row (before.rows plane connect is are) within (row plane connect is are);
  representatives = λ plane connect is.
      ap (map (λ (n : PickedSource). n.rep)) more
      ∙ map-append (λ (n : PickedSource). n.rep) nodes (node ∷ [])
      ∙ ap (λ (l : List ℕ). l ++ node.rep ∷ []) (before.representatives plane connect is)
      ∙ ap (λ (x : ℕ). map (top_of plane connect) (take count picked) ++ x ∷ []) (rep plane connect is)
      ∙ sym (ap (map (top_of plane connect)) (take_more picked count 0 within) ∙ map-append (top_of plane connect) (take count picked)
      (get_or picked count 0 ∷ []));
}

pub all_nodes : (tree : ComponentTree) (sums : List Sums) (picked : List ℕ) (count : ℕ) (nodes : List PickedSource) → AreFirstNodes tree sums picked count nodes
    → length picked ≤ count
    → (plane : Raster) (connect : Connect) → tree ≡ tree_of plane connect → sums ≡ map (sums_of plane connect) picked → AreNodesOf plane connect picked nodes
all_nodes tree sums picked count nodes are whole plane connect is sums_are = record {
  rows = rows_all plane connect picked count (map (λ n. n.row) nodes) (are.rows plane connect is sums_are) whole;
  representatives = are.representatives plane connect is ∙ ap (map (top_of plane connect)) (take_all count picked whole);
}

-- ---- the least of their bases

pub no_bases : (h : ℤ) (nodes : List PickedSource) → HaveBasesFrom h (take 0 nodes)
no_bases h nodes k node at = no_item (λ (n : PickedSource). h ≤ℤ n.row.base) (take 0 nodes) refl k node at

pub base_more : (h h' : ℤ) (nodes : List PickedSource) (count : ℕ) (d : PickedSource) → HaveBasesFrom h (take count nodes) → count < length nodes → h' ≤ℤ h
    → h' ≤ℤ (get_or nodes count d).row.base → HaveBasesFrom h' (take (count + 1) nodes)
base_more h h' nodes count d before within less now =
    subst (HaveBasesFrom h') (sym (take_more nodes count d within))
    (each_more (λ (n : PickedSource). h' ≤ℤ n.row.base) (take count nodes) (get_or nodes count d)
    (λ k node at. let b : h ≤ℤ node.row.base = before k node at in omega (arith, ints)) now)

pub all_bases : (h : ℤ) (nodes : List PickedSource) (count : ℕ) → HaveBasesFrom h (take count nodes) → length nodes ≤ count → HaveBasesFrom h nodes
all_bases h nodes count before whole = subst (HaveBasesFrom h) (take_all count nodes whole) before

-- ---- one node

-- the pixel that represents it, read from its row
pub rep_is : (plane : Raster) (connect : Connect) (tree : ComponentTree) (rows : List NodeRow) (n : ℕ) (d : NodeRow) → tree ≡ tree_of plane connect
    → rows ≡ tree.rows → n < length tree.rows
    → (get_or rows n d).rep ≡ top_of plane connect n
unfolding tree_of row_of
rep_is plane connect tree rows n d is are within =
    ap (λ (l : List NodeRow). (get_or l n d).rep) (are ∙ ap (λ (t : ComponentTree). t.rows) is)
    ∙ ap (λ (x : NodeRow). x.rep) (get_or-map (row_of plane connect) (of_plane.nodes plane connect) n 0 d
    (omega (arith, within, rows_are plane connect tree is)))
