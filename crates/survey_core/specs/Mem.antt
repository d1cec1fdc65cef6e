-- Model: what a keeper in memory is seen as.
use Rattle.std.specs.Prelude.{List, map}
use Rattle.survey_core.specs.declared.mem_keeper.Entry.{Entry}
use Rattle.survey_core.specs.Tables.{Table}

-- each entry's field, with its cells
abbrev pub tables_kept : List Entry → List Table
tables_kept = map (λ e. (e.field, e.cells.items))
