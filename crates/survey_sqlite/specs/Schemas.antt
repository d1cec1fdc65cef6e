-- Model: the schema of the database.
use Rattle.std.specs.Prelude.{ℕ, List, codes, [], ◌∷◌, true, false, None}
use Rattle.sqlite.specs.Collation.TheVariants.{Binary}
use Rattle.sqlite.specs.declared.types.Value.TheVariants.{Null}
use Rattle.sqlite_schema.specs.declared.schema.Kind.{Kind}
use Rattle.sqlite_schema.specs.declared.schema.Kind.TheVariants.{Text, Blob}
use Rattle.sqlite_schema.specs.declared.schema.Column.{Column}
use Rattle.sqlite.specs.Table.{Table}
use Rattle.sqlite.specs.Schema.{Schema}
use Rattle.sqlite_schema.specs.declared.schema.Index.{Index}
use Rattle.sqlite_value.specs.Keys.{plain}

abbrev pub strict_column : List ℕ → Kind → Column
strict_column name kind = record { name = name; kind = kind; is_strict = true; not_null = true; default = Null; collation = Binary }

abbrev pub source : Table
source = record {
  name = codes "source";
  tree = 0;
  columns = strict_column (codes "field") Text ∷ strict_column (codes "cells") Blob ∷ [];
  key = None;
  primary = 1 ∷ [];
  uniques = (1 ∷ []) ∷ [];
  orders = plain ∷ [];
  checks = [];
  references = [];
  computed = [];
  stamps = record { places = []; terms = []; formats = [] };
  is_counted = false;
}

abbrev pub by_field : Index
by_field = record { name = codes "sqlite_autoindex_source_1"; tree = 1; table = 0; columns = 1 ∷ []; order = plain; is_unique = true }

abbrev pub source_schema : Schema
source_schema = record { tables = source ∷ []; indexes = by_field ∷ []; views = [] }

-- that of a database without tables
abbrev pub no_schema : Schema
no_schema = record { tables = []; indexes = []; views = [] }
