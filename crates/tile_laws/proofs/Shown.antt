-- The pixels of a piece's own source all lie in its window.
use Rattle.std.proofs.Common.{◌≡◌, ℕ, ◌<◌, true, length, subst}
use Rattle.std.specs.Prelude.{IsTrue}
use Rattle.comp_tree.specs.declared.shape.Connect.{Connect}
use Rattle.comp_tree.specs.Raster.{Raster, IsPlane, is_at_least}
use Rattle.comp_tree.specs.Components.{IsReached, is_in_node}
use Rattle.comp_tree.specs.Laws.{IsNode, top_of}
use Rattle.comp_tree.specs.Windows.{in_whole, IsShown, SureComponentsAreTheSame}
use Rattle.comp_tree.proofs.Exported.{below_from_defined, in_node-defined, joined_sym}
use Rattle.comp_tree.proofs.Exported.{joined_trans, reaches-is_IsReached, reaches_end}
use Rattle.node_sums.specs.Sums.{sums_of}
use Rattle.source_pick.specs.declared.choice.Choice.{Choice}
use Rattle.source_pick.specs.Sources.{is_source}
use Rattle.source_pick.proofs.Exported.{first_inside, in_node_reached, top_high}
use Rattle.source_pick.specs.Windows.{Tile, IsTileOf, IsFromTile}

-- ---- the pixels of a source, at the threshold

module _ (r : Raster) (connect : Connect) (choice : Choice) (plane : IsPlane r) where
  -- each pixel of a source is reached from each other one, at the threshold
  pub source_reached : (n p q : ℕ) → IsNode r connect n → IsTrue (is_source r connect choice n) → is_in_node r connect n p ≡ true
      → is_in_node r connect n q ≡ true
      → IsReached r connect choice.threshold p q
  source_reached n p q hn k i j = joined_trans (joined_sym (from_top p i)) (from_top q j)
    where
      from_top : (x : ℕ) → is_in_node r connect n x ≡ true → IsReached r connect choice.threshold (top_of r connect n) x
      from_top x m = in_node_reached r connect choice.threshold n x (top_high r connect choice n plane hn k) m

  pub source_pixel_high : (n p : ℕ) → IsNode r connect n → IsTrue (is_source r connect choice n) → is_in_node r connect n p ≡ true
      → IsTrue (is_at_least r choice.threshold p)
  source_pixel_high n p hn k i =
      reaches_end r connect choice.threshold p p ((reaches-is_IsReached r connect choice.threshold p p).1 (source_reached n p p hn k i i))

-- ---- the pixels of a source that comes from a tile

pub shown_pixel : SureComponentsAreTheSame → (r : Raster) (connect : Connect) (choice : Choice) (t : Tile) (n m p : ℕ) → IsPlane r
    → IsTileOf r connect choice t
    → IsFromTile r connect choice t n m → is_in_node r connect n p ≡ true → IsShown r t.plane t.window p
shown_pixel law r connect choice t n m p plane tile k i =
    (law r t.plane t.window connect choice.threshold t.sure first plane tile.one_each tile.shows first_below
    (tile.core_sure (in_whole r.shape.width t.window first) k.from.own)
    (tile.answers first k.from.own (source_pixel_high t.plane connect choice tile.one_each m first k.from.node k.from.source first_in))).1 p
    (subst (λ (x : ℕ). IsReached r connect choice.threshold x p) k.moved.first
    (source_reached r connect choice plane n (sums_of r connect n).first p k.node k.source (first_inside r connect n plane k.node) i))
  where
    first : ℕ
    first = (sums_of t.plane connect m).first

    first_in : is_in_node t.plane connect m first ≡ true
    first_in = first_inside t.plane connect m tile.one_each k.from.node

    first_below : first < length t.plane.values
    first_below = below_from_defined t.plane first (in_node-defined t.plane connect m first first_in)
