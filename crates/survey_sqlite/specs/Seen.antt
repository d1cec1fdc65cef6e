-- Model: what a keeper over a file is seen as.
use Rattle.std.specs.Prelude.{ℕ, List, Option, None}
use Rattle.survey_core.specs.Tables.{Table}
use Rattle.survey_sqlite.specs.declared.file_keeper.FileKeeper.{FileKeeper}

-- what a file holds isn't told
abbrev pub file_tables : FileKeeper → Option (List Table)
file_tables k = None

-- how often it has failed
abbrev pub file_faults : FileKeeper → ℕ
file_faults k = k.faults
