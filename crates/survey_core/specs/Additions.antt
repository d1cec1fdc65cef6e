-- Model: catalogues that are added one after the other.
use Rattle.std.specs.Prelude.{◌≡◌, ℕ, true, List, [], ◌∷◌, ◌++◌, length, codes, ℤ, Ok}
use Rattle.std.specs.List.{AllByRecursion}
use Rattle.survey_core.specs.declared.words.Command.{Command}
use Rattle.survey_core.specs.Commands.{read}
use Rattle.survey_core.specs.Fields.{is_name}
use Rattle.survey_core.specs.Tables.{Table, put}
use Rattle.survey_core.specs.Catalogues.{accepted, catalogue_in}
use Rattle.survey_core.specs.Sessions.{changes, joined_outcomes, session}
use Rattle.survey_core.specs.Answers.{answer_to_outcome, session_answer, session_status}

-- a field, the bytes of a catalogue, and its cells
pub record Addition : Type 0 where
  pub field : List ℕ
  pub bytes : List ℕ
  pub cells : List ℤ

-- whatever follows them, the bytes are accepted as these cells, to the last byte
pub record IsAddition (a : Addition) : Type 0 where
  pub named : is_name a.field ≡ true
  pub taken : (rest : List ℕ) → catalogue_in (a.bytes ++ rest) ≡ accepted a.cells (length a.bytes)

-- the words of the commands
abbrev pub words_that_add : List Addition → List (List ℕ)
words_that_add [] = []
words_that_add (a ∷ more) = codes "add" ∷ a.field ∷ words_that_add more

-- the bytes one behind the other
abbrev pub bytes_to_add : List Addition → List ℕ
bytes_to_add [] = []
bytes_to_add (a ∷ more) = a.bytes ++ bytes_to_add more

-- the tables, in which each field has the cells of the last catalogue that is added to it
abbrev pub tables_with : List Addition → List Table → List Table
tables_with [] tables = tables
tables_with (a ∷ more) tables = tables_with more (put a.field a.cells tables)

-- So many commands take the catalogues one after the other, and no byte more: the status is 0, and each field has its cells.
abbrev pub EachAddTakesItsCatalogue : Type 0
EachAddTakesItsCatalogue =
    (first : Addition) (others : List Addition) (rest : List ℕ) (tables : List Table) → AllByRecursion IsAddition (first ∷ others)
    → let all = first ∷ others in
    let answer = session_answer (words_that_add all) (bytes_to_add all ++ rest) tables in
    (session_status answer.end ≡ 0) × (answer.does ≡ changes (length (bytes_to_add all)) (tables_with all tables))

-- Whatever commands stand behind them, these find just those tables, and the bytes that are left.
abbrev pub CommandsBehindFindTheCatalogues : Type 0
CommandsBehindFindTheCatalogues =
    (first : Addition) (others : List Addition) (words : List (List ℕ)) (commands : List Command) (rest : List ℕ) (tables : List Table)
    → AllByRecursion IsAddition (first ∷ others) → read words ≡ Ok commands
    → let all = first ∷ others in
    session_answer (words_that_add all ++ words) (bytes_to_add all ++ rest) tables
    ≡ answer_to_outcome (joined_outcomes (changes (length (bytes_to_add all)) (tables_with all tables)) (session rest (tables_with all tables) commands))
