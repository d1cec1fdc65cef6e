-- Bookkeeping: the statements that change the table of fields.
use Rattle.std.specs.Prelude.{codes, List, ℕ}

abbrev pub create_text : List ℕ
create_text = codes "CREATE TABLE IF NOT EXISTS source (field TEXT NOT NULL PRIMARY KEY, cells BLOB NOT NULL) STRICT"

abbrev pub replace_text : List ℕ
replace_text = codes "INSERT INTO source (field, cells) VALUES (?1, ?2) ON CONFLICT (field) DO UPDATE SET cells = ?2"

abbrev pub remove_text : List ℕ
remove_text = codes "DELETE FROM source WHERE field = ?1"
