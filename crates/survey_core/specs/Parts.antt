-- Model: the brightest rows of a survey whose fields are split over several.
use Rattle.std.specs.Prelude.{◌≡◌, ℕ, List}
use Rattle.std.specs.List.{flat_map}
use Rattle.std.specs.List.Sorted.{IsPermutation}
use Rattle.survey_core.specs.Tables.{Table, AreTables}
use Rattle.survey_core.specs.Ranking.{ranked, all_rows}

-- all their fields
abbrev pub joined_parts : List (List Table) → List Table
joined_parts parts = flat_map (λ part. part) parts

-- Where the parts together have the fields of the survey, none of them twice, its k brightest rows are the k brightest of the k brightest of each part.
abbrev pub BestOfPartsAreBest : Type 0
BestOfPartsAreBest =
    (survey : List Table) (parts : List (List Table)) (k : ℕ) → AreTables survey → IsPermutation survey (joined_parts parts)
    → ranked (all_rows survey) k ≡ ranked (flat_map (λ part. ranked (all_rows part) k) parts) k
