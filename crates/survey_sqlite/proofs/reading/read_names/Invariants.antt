use Rattle.std.proofs.Common.{◌≡◌, All, map, take}
use Rattle.survey_sqlite.specs.Rows.{text_in, IsNameRow}
use Rattle.survey_sqlite.proofs.reading.read_names.Given as goal

abbrev pub invariant-loop-row : goal.invariant-loop-row
invariant-loop-row l = (l.fields.items ≡ map text_in (take l.row-index l.rows)) × All IsNameRow (take l.row-index l.rows)
