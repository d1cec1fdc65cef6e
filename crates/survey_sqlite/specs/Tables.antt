-- Model: whether a schema has the table `source`, and has it in the form that is made.
use Rattle.std.specs.Prelude.{◌≡◌, IsNone, IsSomeAnd, slice_get}
use Rattle.sqlite.specs.Schema.{Schema}
use Rattle.sqlite.specs.Table.{Table}
use Rattle.sqlite_schema.specs.Names.{table_named, view_named}
use Rattle.survey_sqlite.specs.Schemas.{source}

-- of the form that is made, wherever its rows stand
abbrev pub IsAsMade : Table → Type 0
IsAsMade t = t ≡ record source { tree = t.tree }

-- the table that goes by the name, in whatever case of letters, is of the form
abbrev pub HasSource : Schema → Type 0
HasSource schema = IsSomeAnd (table_named schema source.name) (λ at. IsSomeAnd (slice_get schema.tables at) IsAsMade)

-- nothing goes by the name
abbrev pub LacksSource : Schema → Type 0
LacksSource schema = IsNone (table_named schema source.name) × IsNone (view_named schema source.name)
