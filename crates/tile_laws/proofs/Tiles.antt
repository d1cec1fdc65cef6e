-- A piece that answers for its core is a tile of the residual.
use Rattle.comp_tree.specs.Raster.{Raster, IsPlane}
use Rattle.comp_tree.specs.Windows.{seen_through, DeepComponentsLieSure}
use Rattle.mesh_background.specs.Residuals.{residual_with}
use Rattle.source_pick.specs.Windows.{Tile, IsTileOf}
use Rattle.tile_laws.specs.Pieces.{DetectionChoice, Piece, searched, LiesInSureBox, HasSureBox, AnswersForCore}
use Rattle.tile_laws.proofs.Sure.{BackgroundLaws, is_sure, sure_in_box, shows_sure, seen_residual_plane}

abbrev pub tile_of : DetectionChoice → Raster → Piece → Tile
tile_of d r t = record {
  window = t.window;
  plane = searched d (seen_through t.window r);
  sure = is_sure d.empty r t.window d.flat d.mesh;
  core = t.core;
}

pub is_tile : (laws : BackgroundLaws) (deep : DeepComponentsLieSure) (d : DetectionChoice) (r : Raster) (t : Piece) → IsPlane r → AnswersForCore d r t
    → IsTileOf (searched d r) d.connect d.choice (tile_of d r t)
unfolding residual_with
is_tile laws deep d r t plane a = record {
  one_each = seen_residual_plane laws d.empty r t.window d.flat d.mesh plane a.inside a.on_mesh;
  shows = shows_sure laws d.empty r t.window d.flat d.mesh plane a.inside a.on_mesh;
  core_sure = λ p k. let b : LiesInSureBox d.empty r t.window d.flat d.mesh p = a.core_sure p k in
      sure_in_box laws d.empty r t.window d.flat d.mesh plane a.inside a.on_mesh b.box p b.sure b.there;
  answers = λ q k h. let b : HasSureBox d r t q = a.components q k h in
      deep (searched d r) (searched d (seen_through t.window r)) t.window d.connect d.choice.threshold b.box (is_sure d.empty r t.window d.flat d.mesh) q
      (laws.one_each d.empty r d.mesh d.flat plane) (λ p m. sure_in_box laws d.empty r t.window d.flat d.mesh plane a.inside a.on_mesh b.box p b.sure m) b.deep;
}
