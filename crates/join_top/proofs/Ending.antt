-- What the ends of a run say of the bytes, which were all read.
use Rattle.std.proofs.Common.{◌≡◌, ◌∙◌, ℕ, List, length, ap, sym, subst, Some}
use Rattle.std.specs.declared.option.Option.{Option}
use Rattle.std.proofs.lemmas.Option.{same_Some}
use Rattle.dev_io.specs.Streams.{Takes}
use Rattle.comp_tree.specs.Raster.{Raster, IsPlane}
use Rattle.mesh_background.specs.Laws.{IsOwnMedian}
use Rattle.mesh_background.specs.Residuals.{residual_of}
use Rattle.mesh_background.proofs.Exported.{own_median}
use Rattle.run_relation.specs.Headline.{Took}
use Rattle.tree_products.specs.Catalogues.{detected_hdus}
use Rattle.tile_laws.specs.Pieces.{DetectionChoice, searched}
use Rattle.tile_join.specs.declared.tiles.TileCatalogue.{TileCatalogue}
use Rattle.tile_join.specs.Made.{AreTilesMade}
use Rattle.join_top.specs.AllBytes.{IsAllRead}
use Rattle.join_top.specs.Joinings.{AreTilesIn}

pub all_taken : (bytes : List ℕ) (left left' : Option (List ℕ)) (all : List ℕ) → left ≡ Some bytes → IsAllRead bytes left' all
    → Took left left' (length bytes)
all_taken bytes left left' all told read = λ x e. subst (λ l. Takes l left' (length bytes)) (same_Some bytes x (sym told ∙ e)) read.takes

-- what holds of the bytes that were read holds of those that the input told
abbrev pub IsImageOutput : List ℕ → List ℕ → Type 0
IsImageOutput bytes output = (d : DetectionChoice) (r : Raster) (tiles : List TileCatalogue) → IsPlane r → AreTilesIn bytes r.shape tiles
    → AreTilesMade d r tiles → output ≡ detected_hdus (searched d r) d.connect d.choice

pub image_of_all : (read bytes output : List ℕ) → read ≡ bytes → IsImageOutput read output → IsImageOutput bytes output
image_of_all read bytes output same image = subst (λ b. IsImageOutput b output) same image

-- where the number that was given is the image's own median, it is what is written without one
pub whole_of_image : (bytes output : List ℕ) → IsImageOutput bytes output → (d : DetectionChoice) (r : Raster) (tiles : List TileCatalogue) → IsPlane r
    → AreTilesIn bytes r.shape tiles → AreTilesMade d r tiles → IsOwnMedian d.empty r
    → output ≡ detected_hdus (residual_of r d.mesh d.flat) d.connect d.choice
whole_of_image bytes output image d r tiles plane are made own =
    image d r tiles plane are made ∙ ap (λ (s : Raster). detected_hdus s d.connect d.choice) (own_median d.empty r d.mesh d.flat own)
