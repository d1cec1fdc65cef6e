-- Bookkeeping: the two queries on the table of fields.
use Rattle.std.specs.Prelude.{ℕ, codes, List}

abbrev pub names_text : List ℕ
names_text = codes "SELECT field FROM source ORDER BY field"

abbrev pub rows_text : List ℕ
rows_text = codes "SELECT cells FROM source WHERE field = ?1"
