-- Model: cells as bytes: 64 bits each, the most significant byte first.
use Rattle.std.specs.Prelude.{ℕ, zero, suc, ◌≡◌, ◌/◌, ◌%◌, ℤ, List, [], ◌∷◌, length, take, drop, flat_map}
use Rattle.std.specs.Int.{w64, to_be_bytes, from_be_bytes, cast_unsigned, cast_signed}
use Rattle.survey_core.specs.Tables.{IsNumbered}

abbrev pub blob_cell_bytes : ℤ → List ℕ
blob_cell_bytes table_cell = to_be_bytes w64 (cast_unsigned w64 table_cell)

abbrev pub blob_of : List ℤ → List ℕ
blob_of = flat_map blob_cell_bytes

abbrev pub first_cells : ℕ → List ℕ → List ℤ
first_cells zero blob = []
first_cells (suc count) blob = cast_signed w64 (from_be_bytes w64 (take 8 blob)) ∷ first_cells count (drop 8 blob)

-- the cells of whole eights of bytes
abbrev pub blob_cells : List ℕ → List ℤ
blob_cells blob = first_cells (length blob / 8) blob

-- the bytes of whole rows, each of which has the number of its place
pub record IsBlob (blob : List ℕ) : Type 0 where
  pub whole : length blob % 8 ≡ 0
  pub numbered : IsNumbered (blob_cells blob)
