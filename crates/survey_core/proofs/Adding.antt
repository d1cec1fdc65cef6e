-- Catalogues one behind the other are added one by one.
use Rattle.std.proofs.Common.{◌≡◌, ◌∙◌, ℕ, List, [], ◌∷◌, ◌++◌, length, drop, None, Ok, refl, sym, ap, append_assoc, length-append}
use Rattle.std.specs.List.{AllByRecursion}
use Rattle.std.proofs.Math.Seq.{drop-append_seam}
use Rattle.survey_core.specs.declared.words.Command.{Command}
use Rattle.survey_core.specs.declared.words.Command.TheVariants.{Add}
use Rattle.survey_core.specs.Commands.{session_command, read, commands_of}
use Rattle.survey_core.specs.Tables.{Table, put}
use Rattle.survey_core.specs.Sessions.{Outcome, changes, added, effect, followed_by, joined_outcomes, session}
use Rattle.survey_core.specs.Answers.{answer_to_outcome, session_answer, session_answer_by, session_end, session_status}
use Rattle.survey_core.specs.Additions.{Addition, IsAddition, words_that_add, bytes_to_add, tables_with, EachAddTakesItsCatalogue}
use Rattle.survey_core.specs.Additions.{CommandsBehindFindTheCatalogues}
use Rattle.survey_core.proofs.Going.{session_app}

commands_that_add : List Addition → List Command
commands_that_add [] = []
commands_that_add (a ∷ list) = Add a.field ∷ commands_that_add list

read_adds : (list : List Addition) → AllByRecursion IsAddition list → read (words_that_add list) ≡ Ok (commands_that_add list)
unfolding read session_command commands_that_add
read_adds [] are = refl
read_adds (a ∷ list) are = rw (are.0.named, read_adds list are.1) refl

words_add : (a : Addition) (list : List Addition) → AllByRecursion IsAddition (a ∷ list)
    → commands_of (words_that_add (a ∷ list)) ≡ Ok (commands_that_add (a ∷ list))
unfolding commands_of
words_add a list are = rw (read_adds (a ∷ list) are) refl

one_add : (a : Addition) (rest : List ℕ) (tables : List Table) → IsAddition a
    → effect (a.bytes ++ rest) tables (Add a.field) ≡ changes (length a.bytes) (put a.field a.cells tables)
one_add a rest tables is = ap (added a.field tables) (is.taken rest)

all_added : (list : List Addition) (rest : List ℕ) (tables : List Table) → AllByRecursion IsAddition list
    → session (bytes_to_add list ++ rest) tables (commands_that_add list) ≡ changes (length (bytes_to_add list)) (tables_with list tables)
unfolding session commands_that_add
all_added [] rest tables are = refl
all_added (a ∷ list) rest tables are =
    let more = bytes_to_add list ++ rest in
    let tables' = put a.field a.cells tables in
    let after : List ℕ → Outcome → Outcome = λ bytes e. followed_by e (session (drop e.taken bytes) e.tables (commands_that_add list)) in
    ap (λ bytes. after bytes (effect bytes tables (Add a.field))) (append_assoc a.bytes (bytes_to_add list) rest)
    ∙ ap (after (a.bytes ++ more)) (one_add a more tables are.0)
    ∙ ap (λ bytes. followed_by (changes (length a.bytes) tables') (session bytes tables' (commands_that_add list))) (drop-append_seam a.bytes more)
    ∙ ap (followed_by (changes (length a.bytes) tables')) (all_added list rest tables' are.1)
    ∙ ap (λ n. changes n (tables_with list tables')) (sym (length-append a.bytes (bytes_to_add list)))

pub each_add : EachAddTakesItsCatalogue
each_add first others rest tables are =
    let list = first ∷ others in
    let bytes = bytes_to_add list ++ rest in
    let answer : session_answer (words_that_add list) bytes tables ≡ session_answer_by (Ok (commands_that_add list)) bytes tables =
    ap (λ commands. session_answer_by commands bytes tables) (words_add first others are) in
    let done = all_added list rest tables are in
    (ap (λ a. session_status a.end) answer ∙ ap (λ (o : Outcome). session_status (session_end o.stop)) done, ap (λ a. a.does) answer ∙ done)

-- ---- commands behind them

read_behind : (list : List Addition) (words : List (List ℕ)) (commands : List Command) → AllByRecursion IsAddition list → read words ≡ Ok commands
    → read (words_that_add list ++ words) ≡ Ok (commands_that_add list ++ commands)
unfolding read session_command commands_that_add
read_behind [] words commands are is = is
read_behind (a ∷ list) words commands are is = rw (are.0.named, read_behind list words commands are.1 is) refl

words_behind : (a : Addition) (list : List Addition) (words : List (List ℕ)) (commands : List Command) → AllByRecursion IsAddition (a ∷ list)
    → read words ≡ Ok commands → commands_of (words_that_add (a ∷ list) ++ words) ≡ Ok (commands_that_add (a ∷ list) ++ commands)
unfolding commands_of
words_behind a list words commands are is = rw (read_behind (a ∷ list) words commands are is) refl

pub commands_behind : CommandsBehindFindTheCatalogues
commands_behind first others words commands rest tables are is =
    let list = first ∷ others in
    let bytes = bytes_to_add list ++ rest in
    let adds = commands_that_add list in
    let done = all_added list rest tables are in
    let passed : (session bytes tables adds).stop ≡ None = ap (λ (o : Outcome). o.stop) done in
    ap (λ commands. session_answer_by commands bytes tables) (words_behind first others words commands are is)
    ∙ ap answer_to_outcome (
    session_app bytes tables adds commands passed
    ∙ ap (λ (o : Outcome). joined_outcomes o (session (drop o.taken bytes) o.tables commands)) done
    ∙ ap (λ (left : List ℕ). joined_outcomes (changes (length (bytes_to_add list)) (tables_with list tables))
    (session left (tables_with list tables) commands)) (drop-append_seam (bytes_to_add list) rest)
    )
