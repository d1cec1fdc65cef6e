-- What the statements are compiled to.
use Rattle.std.proofs.Common.{◌≡◌, Ok, refl, List, [], ◌∷◌, Some, None, codes, false, pos, negsuc}
use Rattle.sqlite.specs.declared.types.Value.TheVariants.{Null, Int}
use Rattle.sqlite.specs.Collation.TheVariants.{Binary}
use Rattle.sqlite.specs.Term.{Term, lit, col, op2}
use Rattle.sqlite.specs.Query.{Query, inner, end}
use Rattle.sqlite_schema.specs.declared.program.Program.{Program}
use Rattle.sqlite_schema.specs.declared.command.Conflict.TheVariants.{Abort}
use Rattle.sqlite_schema.specs.declared.command.Upsert.{Upsert}
use Rattle.sqlite_sql.specs.declared.ops.BinaryOp.TheVariants.{Compare}
use Rattle.sqlite_sql.specs.declared.ops.CompareOp.TheVariants.{Eq}
use Rattle.sqlite.specs.Source.TheVariants.{Values}
use Rattle.sqlite.specs.Command.TheVariants.{CreateTable, InsertOr, Delete, Select}
use Rattle.sqlite.specs.Compile.{table_defined_by}
use Rattle.sqlite.specs.Change.{created}
use Rattle.sqlite.specs.Command.{Command}
use Rattle.sqlite.specs.Listing.{understood, reads_listing}
use Rattle.sqlite.proofs.Callers.{IsPlain, command_of, statement_of}
use Rattle.sqlite_tied.specs.Compute.{everything}
use Rattle.survey_sqlite.specs.Statements.{create_text, replace_text, remove_text}
use Rattle.survey_sqlite.specs.Queries.{names_text, rows_text}
use Rattle.survey_sqlite.specs.Schemas.{no_schema}
use Rattle.survey_sqlite.specs.Schemas.{source, source_schema}

abbrev pub all_of : Query → Query
all_of q = record q { group = None; distinct = false; collations = []; limit = lit (Int (negsuc 0)); offset = lit (Int (pos 0)) }

abbrev pub has_field : Term
has_field = op2 (Compare Eq Binary) (col 1 1) (col 0 0)

abbrev pub simple_query : List Term → List Term → Query
simple_query filter project =
    record {
      from = inner 0 end;
      filter = filter;
      group = None;
      project = project;
      distinct = false;
      collations = [];
      order = [];
      limit = lit
          (Int (negsuc 0));
      offset = lit (Int (pos 0));
    }

abbrev pub alone : Query → Program
alone q = record { lets = []; body = q }

abbrev pub update_query : Query
update_query = simple_query (op2 (Compare Eq Binary) (col 1 0) (col 0 2) ∷ []) (col 1 0 ∷ col 1 0 ∷ col 1 1 ∷ col 0 1 ∷ [])

abbrev pub upsert : Upsert
upsert = record { target = Some (1 ∷ []); update = Some (alone update_query) }

abbrev pub replace_command : Command
replace_command = InsertOr 0 Abort (Values (lit Null ∷ col 0 0 ∷ col 0 1 ∷ []) 3) (upsert ∷ [])

abbrev pub remove_command : Command
remove_command = Delete 0 (alone (simple_query (has_field ∷ []) (col 1 0 ∷ [])))

abbrev pub rows_command : Command
rows_command = Select (alone (simple_query (has_field ∷ []) (col 1 2 ∷ []))) (codes "cells" ∷ [])

abbrev pub names_command : Command
names_command =
    Select (alone (record (simple_query [] (col 1 1 ∷ [])) { order = (col 1 1, record { collation = Binary; descending = false }) ∷ [] })) (codes "field" ∷ [])

pub create_is : (command_of (understood no_schema create_text) ≡ CreateTable) × (statement_of create_text (understood no_schema create_text) ≡ create_text)
    × (table_defined_by create_text ≡ Ok source)
unfolding understood everything
create_is = (refl, refl, refl)

pub created_is : created no_schema source ≡ source_schema
unfolding everything
created_is = refl

pub replace_is : command_of (understood source_schema replace_text) ≡ replace_command
unfolding understood everything
replace_is = refl

pub remove_is : command_of (understood source_schema remove_text) ≡ remove_command
unfolding understood everything
remove_is = refl

pub rows_is : (command_of (understood source_schema rows_text) ≡ rows_command) × (reads_listing source_schema rows_text ≡ false)
unfolding understood everything
rows_is = (refl, refl)

pub names_is : (command_of (understood source_schema names_text) ≡ names_command) × (reads_listing source_schema names_text ≡ false)
unfolding understood everything
names_is = (refl, refl)

pub create_plain : IsPlain (understood no_schema create_text)
unfolding understood everything
create_plain = (refl, refl)

pub replace_plain : IsPlain (understood source_schema replace_text)
unfolding understood everything
replace_plain = (refl, refl)

pub remove_plain : IsPlain (understood source_schema remove_text)
unfolding understood everything
remove_plain = (refl, refl)

pub rows_plain : IsPlain (understood source_schema rows_text)
unfolding understood everything
rows_plain = (refl, refl)

pub names_plain : IsPlain (understood source_schema names_text)
unfolding understood everything
names_plain = (refl, refl)
