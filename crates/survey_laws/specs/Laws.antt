-- Model: what `detect` writes is what `add` accepts.
use Rattle.std.specs.Prelude.{◌≡◌, ℕ, ◌<◌, ◌≤◌, true, List, ◌∷◌, ◌++◌, length, map, Ok}
use Rattle.std.specs.List.{AllByRecursion}
use Rattle.comp_tree.specs.declared.shape.Connect.{Connect}
use Rattle.comp_tree.specs.Raster.{Raster, IsPlane, HasValuesInRange}
use Rattle.fits_write.specs.CatalogueColumns.{catalogue_columns}
use Rattle.survey_laws.specs.WrittenTables.{table_start}
use Rattle.source_pick.specs.declared.choice.Choice.{Choice}
use Rattle.source_pick.specs.Sources.{sources}
use Rattle.source_pick.specs.Segmentation.{segmentation}
use Rattle.mesh_background.specs.Residuals.{residual_of}
use Rattle.pixel_plane.specs.declared.limits.Limits.{Limits}
use Rattle.pixel_plane.specs.Verdicts.{image, verdict_on}
use Rattle.orders.specs.declared.words.Order.{Order}
use Rattle.orders.specs.declared.words.Job.TheVariants.{Detect}
use Rattle.orders.specs.Words.{order_within}
use Rattle.detect_top.specs.WordAnswers.{answer_to_words}
use Rattle.run_relation.specs.Answers.{end_status}
use Rattle.tree_products.specs.Catalogues.{catalogue_cells, detected_hdus}
use Rattle.survey_core.specs.Fields.{is_name}
use Rattle.survey_core.specs.Tables.{Table}
use Rattle.survey_core.specs.Catalogues.{most_rows, accepted, too_many_rows, catalogue_in}
use Rattle.survey_core.specs.Commands.{read}
use Rattle.survey_core.specs.Sessions.{changes, joined_outcomes, session}
use Rattle.survey_core.specs.Answers.{answer_to_outcome, session_answer, session_status}
use Rattle.survey_core.specs.Additions.{Addition, words_that_add, bytes_to_add, tables_with}

-- ---- one catalogue

-- a plane as a run has it
pub record IsRunsPlane (r : Raster) : Type 0 where
  pub one_each : IsPlane r
  pub in_range : HasValuesInRange r.values

-- The sources of a plane are no more than a survey takes: what is written of them is accepted, to its last byte and whatever follows, and its
-- cells are the catalogue's.
abbrev pub DetectionIsAccepted : Type 0
DetectionIsAccepted =
    (r : Raster) (connect : Connect) (choice : Choice) (rest : List ℕ)
    → IsRunsPlane r → length (sources r connect choice) ≤ most_rows
    → catalogue_in (detected_hdus r connect choice ++ rest)
    ≡ accepted (catalogue_cells r connect choice) (length (detected_hdus r connect choice))

-- There are more: it is refused as such, where its rows begin.
abbrev pub TooManySourcesAreRefused : Type 0
TooManySourcesAreRefused =
    (r : Raster) (connect : Connect) (choice : Choice) (rest : List ℕ)
    → IsRunsPlane r → most_rows < length (sources r connect choice)
    → catalogue_in (detected_hdus r connect choice ++ rest)
    ≡ too_many_rows
    (table_start r.shape (segmentation r connect choice) catalogue_columns (length (sources r connect choice)))

-- ---- what the words of `detect` answer

-- Whatever limits images have, the words order the sources of an image that stands in the input.
-- They are no more than a survey takes: the status is 0, and what is written is accepted as the catalogue of the residual.
abbrev pub AnswerIsAccepted : Type 0
AnswerIsAccepted =
    (limits : Limits) (words : List (List ℕ)) (bytes rest : List ℕ) (order : Order) (choice : Choice) (plane : Raster) (head end : ℕ)
    → order_within limits.pixels words ≡ Ok order → order.job ≡ Detect choice → verdict_on limits bytes order.hdu ≡ image plane head end
    → let residual = residual_of plane order.mesh order.flat in
    length (sources residual order.connect choice) ≤ most_rows
    → let answer = answer_to_words limits words bytes in
    (end_status answer.end ≡ 0)
    × (catalogue_in (answer.output ++ rest) ≡ accepted (catalogue_cells residual order.connect choice) (length answer.output))

-- ---- one catalogue after the other

-- a field, and of which plane and by which choice its catalogue is
pub record Observed : Type 0 where
  pub field : List ℕ
  pub plane : Raster
  pub connect : Connect
  pub choice : Choice

-- the field has a name, and the sources are no more than a survey takes
pub record IsTakeable (d : Observed) : Type 0 where
  pub named : is_name d.field ≡ true
  pub plane : IsRunsPlane d.plane
  pub few : length (sources d.plane d.connect d.choice) ≤ most_rows

-- what is written, and the catalogue's cells
abbrev pub addition_of : Observed → Addition
addition_of d = record {
  field = d.field;
  bytes = detected_hdus d.plane d.connect d.choice;
  cells = catalogue_cells d.plane d.connect d.choice;
}

-- What is written of some planes stands one behind the other, whatever follows: as many `add` take each of them, with status 0 and no byte more,
-- and each field has the cells of the catalogue of its plane.
abbrev pub DetectionsAreAdded : Type 0
DetectionsAreAdded =
    (first : Observed) (others : List Observed) (rest : List ℕ) (tables : List Table) → AllByRecursion IsTakeable (first ∷ others)
    → let all = map addition_of (first ∷ others) in
    let answer = session_answer (words_that_add all) (bytes_to_add all ++ rest) tables in
    (session_status answer.end ≡ 0) × (answer.does ≡ changes (length (bytes_to_add all)) (tables_with all tables))

-- ---- from words and bytes to what a survey answers

-- the HDU with this number is an image of the input's bytes, with this plane
pub record HoldsImage (limits : Limits) (bytes : List ℕ) (number : ℕ) (plane : Raster) : Type 0 where
  pub head : ℕ
  pub end : ℕ
  pub is : verdict_on limits bytes number ≡ image plane head end

-- where the words of `detect` are answered with status 0, their HDU is an image
abbrev pub DoneIsOfAnImage : Type 0
DoneIsOfAnImage =
    (limits : Limits) (words : List (List ℕ)) (bytes : List ℕ) (order : Order) (choice : Choice)
    → order_within limits.pixels words ≡ Ok order → order.job ≡ Detect choice → end_status (answer_to_words limits words bytes).end ≡ 0
    → (plane : Raster) × HoldsImage limits bytes order.hdu plane

-- words and the bytes of an input, with the order that they give and the plane of its image; and the field for its catalogue
pub record DetectRun : Type 0 where
  pub field : List ℕ
  pub words : List (List ℕ)
  pub bytes : List ℕ
  pub order : Order
  pub choice : Choice
  pub plane : Raster

abbrev pub residual_in : DetectRun → Raster
residual_in d = residual_of d.plane d.order.mesh d.order.flat

-- the words order the sources of the image that stands there, no more of them than a survey takes
pub record IsDetectRun (limits : Limits) (d : DetectRun) : Type 0 where
  pub named : is_name d.field ≡ true
  pub order_is : order_within limits.pixels d.words ≡ Ok d.order
  pub job_is : d.order.job ≡ Detect d.choice
  pub image_is : HoldsImage limits d.bytes d.order.hdu d.plane
  pub few : length (sources (residual_in d) d.order.connect d.choice) ≤ most_rows

-- what is answered to them, and the catalogue's cells
abbrev pub detected_addition : Limits → DetectRun → Addition
detected_addition limits d = record {
  field = d.field;
  bytes = (answer_to_words limits d.words d.bytes).output;
  cells = catalogue_cells (residual_in d) d.order.connect d.choice;
}

-- Such answers stand one behind the other, whatever follows: as many `add` take each of them, and no byte more, and any commands behind them find in each
-- field the catalogue of the image's sources.
abbrev pub SurveysHaveWhatIsDetected : Type 0
SurveysHaveWhatIsDetected =
    (limits : Limits) (first : DetectRun) (others : List DetectRun) (words : List (List ℕ)) (commands : _) (rest : List ℕ) (tables : List Table)
    → AllByRecursion (IsDetectRun limits) (first ∷ others) → read words ≡ Ok commands
    → let all = map (detected_addition limits) (first ∷ others) in
    session_answer (words_that_add all ++ words) (bytes_to_add all ++ rest) tables
    ≡ answer_to_outcome (joined_outcomes (changes (length (bytes_to_add all)) (tables_with all tables)) (session rest (tables_with all tables) commands))
