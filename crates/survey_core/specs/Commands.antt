-- Model: what the words of a session mean: its commands, one behind the other.
use Rattle.std.specs.Prelude.{ℕ, ◌+◌, min, List, [], ◌∷◌, ◌==◌, length, drop, pos, unsigned_abs, Option, Some, None, Result, Ok, Err, codes, if◌then◌else◌}
use Rattle.std.specs.Str.{bytes_eq}
use Rattle.std.specs.Option.{option_map}
use Rattle.survey_core.specs.declared.words.Command.{Command}
use Rattle.survey_core.specs.declared.words.Command.TheVariants.{Add, Drop, List as Listing, Brightest}
use Rattle.survey_core.specs.Fields.{is_name}
use Rattle.command_line.specs.Numbers.{number_between}

-- how many words a command has
abbrev pub width : Command → ℕ
width (Add field) = 2
width (Drop field) = 2
width Listing = 1
width (Brightest count) = 2

-- the field that an argument names
abbrev pub field_read : Option (List ℕ) → Result (List ℕ) ℕ
field_read None = Err 1
field_read (Some text) = if is_name text then Ok text else Err 1

abbrev pub with_field : (List ℕ → Command) → Result (List ℕ) ℕ → Result Command ℕ
with_field make (Ok field) = Ok (make field)
with_field make (Err at) = Err at

-- from 1 to 1,000
unfoldable pub count_in : List ℕ → Option ℕ
count_in text = option_map unsigned_abs (number_between (pos 1) (pos 1000) text)

abbrev pub count_or_fault : Option ℕ → Result ℕ ℕ
count_or_fault None = Err 1
count_or_fault (Some count) = Ok count

-- the number that an argument is
abbrev pub number_in : Option (List ℕ) → Result ℕ ℕ
number_in None = Err 1
number_in (Some text) = count_or_fault (count_in text)

abbrev pub with_number : Result ℕ ℕ → Result Command ℕ
with_number (Ok count) = Ok (Brightest count)
with_number (Err at) = Err at

-- the command that a word names, with the word behind it; or how far behind the first of them the word at fault stands
unfoldable pub session_command : List ℕ → Option (List ℕ) → Result Command ℕ
session_command word next =
    if bytes_eq word (codes "add") then with_field Add (field_read next)
    else (if bytes_eq word (codes "drop") then with_field Drop (field_read next)
    else (if bytes_eq word (codes "list") then Ok Listing
    else (if bytes_eq word (codes "brightest") then with_number (number_in next) else Err 0)))

-- a command, and what the words behind it mean: by whether it has one word or two
abbrev pub behind : Command → Result (List Command) ℕ → Result (List Command) ℕ
behind command (Ok commands) = Ok (command ∷ commands)
behind command (Err at) = Err (width command + at)

abbrev pub with_rest : Result Command ℕ → Result (List Command) ℕ → Result (List Command) ℕ → Result (List Command) ℕ
with_rest (Err at) after_one after_two = Err at
with_rest (Ok command) after_one after_two = behind command (if width command == 1 then after_one else after_two)

-- the commands, or the place of the first word at fault, from 0; a word that is missing stands behind the last
unfoldable pub read : List (List ℕ) → Result (List Command) ℕ
read [] = Ok []
read (word ∷ []) = with_rest (session_command word None) (Ok []) (Ok [])
read (word ∷ next ∷ rest) = with_rest (session_command word (Some next)) (read (next ∷ rest)) (read rest)

-- the same, where there must be one
abbrev pub some_commands : List (List ℕ) → Result (List Command) ℕ
some_commands [] = Err 0
some_commands (word ∷ rest) = read (word ∷ rest)

-- the path of a file, where `--file` is the first word
abbrev pub path_of : List (List ℕ) → Option (List ℕ)
path_of [] = None
path_of (word ∷ []) = None
path_of (word ∷ path ∷ rest) = if bytes_eq word (codes "--file") then Some path else None

-- how many words name it: its path may be missing
abbrev pub file_words : List (List ℕ) → ℕ
file_words [] = 0
file_words (word ∷ rest) = if bytes_eq word (codes "--file") then min 2 (1 + length rest) else 0

-- a place among the words behind so many
abbrev pub further : ℕ → Result (List Command) ℕ → Result (List Command) ℕ
further before (Ok commands) = Ok commands
further before (Err at) = Err (before + at)

-- the commands of a session, behind the file that it may name
unfoldable pub commands_of : List (List ℕ) → Result (List Command) ℕ
commands_of words = further (file_words words) (some_commands (drop (file_words words) words))

-- the command at the front
abbrev pub front : List (List ℕ) → Result Command ℕ
front [] = Err 0
front (word ∷ []) = session_command word None
front (word ∷ next ∷ rest) = session_command word (Some next)
