-- What joined tiles are, from what was found of them one after the other.
use Rattle.std.proofs.Common.{◌≡◌, ℕ, List, length, sym, ◌∙◌, ap, subst}
use Rattle.std.specs.Prelude.{Ok, Err, Result, IfOk, Option, Some, None, MatchOption}
use Rattle.std.proofs.lemmas.Option.{slice_get_within}
use Rattle.comp_tree.specs.declared.shape.Shape.{Shape}
use Rattle.comp_tree.specs.Raster.{Raster, IsPlane}
use Rattle.source_pick.specs.declared.catalogue.CatRow.{CatRow}
use Rattle.tile_laws.specs.Pieces.{DetectionChoice, detected, mapped}
use Rattle.tile_join.specs.declared.joining.Joined.{Joined}
use Rattle.tile_join.specs.declared.fault.JoinFault.{JoinFault}
use Rattle.tile_join.specs.declared.tiles.TileCatalogue.{TileCatalogue}
use Rattle.tile_join.specs.Tiles.{rows_of_tiles, AreJoinable}
use Rattle.tile_join.specs.Joins.{joined_rows, joined_map}
use Rattle.tile_join.specs.Made.{AreTilesMade}
use Rattle.tile_join.specs.Laws.{JoinedTilesAreTheWhole}
use Rattle.tile_join.specs.Marks.{AreFitting, AreKnown, AreCoresApart, AreCoresCovering}
use Rattle.tile_join.specs.Places.{AreFirstsDistinct}

pub joinable_from : (whole : Shape) (tiles : List TileCatalogue) → AreFitting whole tiles (length tiles) → AreKnown tiles (length tiles)
    → AreCoresApart whole tiles → AreCoresCovering whole tiles → AreFirstsDistinct whole.width (rows_of_tiles tiles) → AreJoinable whole tiles
joinable_from whole tiles fit known apart cover distinct = record {
  fit = λ i t g. fit i t (slice_get_within tiles i t g) g;
  known = λ i t g. known i t (slice_get_within tiles i t g) g;
  apart = apart;
  cover = cover;
  distinct = distinct;
}

-- the whole's catalogue and map, by the law of tiles
pub image_from : JoinedTilesAreTheWhole → (whole : Shape) (tiles : List TileCatalogue) (rows : List CatRow) (numbers : List ℕ)
    → rows ≡ joined_rows whole tiles → numbers ≡ joined_map whole tiles → AreJoinable whole tiles → (d : DetectionChoice) (r : Raster) → IsPlane r
    → r.shape ≡ whole → AreTilesMade d r tiles → (rows ≡ detected d r) × (numbers ≡ mapped d r)
image_from law whole tiles rows numbers e f j d r plane s made =
    let k : (joined_rows r.shape tiles ≡ detected d r) × (joined_map r.shape tiles ≡ mapped d r) =
    law d r tiles plane made (subst (λ (x : Shape). AreJoinable x tiles) (sym s) j) in
    (e ∙ ap (λ (x : Shape). joined_rows x tiles) (sym s) ∙ k.0, f ∙ ap (λ (x : Shape). joined_map x tiles) (sym s) ∙ k.1)

-- so is what the crate answers of tiles that fit
pub joinable_of_join : {E : Type 0} (whole : Shape) (tiles : List TileCatalogue) (answer : Result (Result Joined JoinFault) E)
    → AreFitting whole tiles (length tiles) → AreKnown tiles (length tiles) → AreCoresApart whole tiles × AreCoresCovering whole tiles
    → IfOk answer (λ joined. IfOk joined (λ _. AreFirstsDistinct whole.width (rows_of_tiles tiles)))
    → IfOk answer (λ joined. IfOk joined (λ _. AreJoinable whole tiles))
joinable_of_join whole tiles (Ok (Ok joined)) fit known cores d = joinable_from whole tiles fit known cores.0 cores.1 d
joinable_of_join whole tiles (Ok (Err fault)) fit known cores d = tt
joinable_of_join whole tiles (Err stop) fit known cores d = tt

-- an option that is none is said of by what holds of none
pub said_of_none : {X : Type 0} (o : Option X) (A : Type 0) (B : X → Type 0) → o ≡ None → MatchOption o A B → A
said_of_none None A B e h = h
said_of_none (Some x) A B e h = absurd cc
