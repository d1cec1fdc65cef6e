-- What one piece that answers for its core tells for good.
use Rattle.std.proofs.Common.{[], ◌∷◌, subst, inl, inr, ◌≡◌, ◌⊎◌, refl}
use Rattle.std.specs.Prelude.{Contains}
use Rattle.lemmas.proofs.Exported.{IsAmong, among_of, contains_from_among}
use Rattle.comp_tree.specs.Raster.{Raster}
use Rattle.tile_laws.specs.Pieces.{DetectionChoice, Piece, AnswersForCore}
use Rattle.tile_laws.specs.Final.{PartsOfCoresAreAnswered, OwnRowsAreFinal, OwnMeasuresAreFinal}
use Rattle.tile_laws.proofs.Merging.{TileLaws, place_of_row, row_at_place}
use Rattle.tile_laws.proofs.Mapping.{MapLaws}
use Rattle.tile_laws.proofs.Backed.{own_measures}

pub parts_of_cores_are_answered : PartsOfCoresAreAnswered
parts_of_cores_are_answered d r t core answers part = record {
  inside = answers.inside;
  on_mesh = answers.on_mesh;
  core_sure = λ p own. let b = answers.core_sure p (part p own) in record { box = b.box; sure = b.sure; there = b.there };
  components = λ q own high. let b = answers.components q (part _ own) high in record { box = b.box; sure = b.sure; deep = b.deep };
}

-- the one piece of a list answers, where it does
module _ (d : DetectionChoice) (r : Raster) (t : Piece) (answers : AnswersForCore d r t) where
  each_answers : (u : Piece) → Contains (t ∷ []) u → AnswersForCore d r u
  each_answers u k = go (among_of u (t ∷ []) k)
    where
      go : (t ≡ u) ⊎ IsAmong u [] → AnswersForCore d r u
      go (inl e) = subst (AnswersForCore d r) e answers
      go (inr none) = absurd none

  listed : Contains (t ∷ []) t
  listed = contains_from_among t (t ∷ []) (inl refl)

pub own_rows_are_final : TileLaws → OwnRowsAreFinal
own_rows_are_final laws d r t row plane answers f =
    let each = each_answers d r t answers in
    let there = listed d r t answers in
    let place = place_of_row laws d r (t ∷ []) plane each t row there f in
    record { place = place.0; at = row_at_place laws d r (t ∷ []) plane each t row there f place.0 place.1 }

pub own_measures_are_final : MapLaws → OwnMeasuresAreFinal
own_measures_are_final laws d r values t row f i plane value_plane same_shape answers measures number =
    let each = each_answers d r t answers in
    let there = listed d r t answers in
    let place = place_of_row laws.tiles d r (t ∷ []) plane each t row there f in
    let both = own_measures laws d r values (t ∷ []) plane value_plane same_shape each t there measures row f place.0 i place.1 number in
    (record { place = place.0; at = row_at_place laws.tiles d r (t ∷ []) plane each t row there f place.0 place.1 }, both.0, both.1)
