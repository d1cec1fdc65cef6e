-- The words of a session, command by command.
use Rattle.std.proofs.Common.{◌≡◌, ◌∙◌, inl, inr, ℕ, zero, suc, ◌+◌, ◌-◌, ◌≤◌, ◌<◌, ◌==◌, cond, List, [], ◌∷◌, ◌++◌, length, drop, length-drop, Some}
use Rattle.std.proofs.Common.{None, Result, Ok, Err, IfOk, refl, sym, ap, ap₂, get_or, arith, append_assoc}
use Rattle.std.specs.Prelude.{Option, slice_get, IsOk, codes}
use Rattle.std.proofs.lemmas.List.{drop-drop, drop_all, drop-map, get_or-map, length-map}
use Rattle.std.proofs.lemmas.Bool.{cases_Bool}
use Rattle.std.specs.Str.{bytes_eq}
use Rattle.std.specs.Option.{option_to_list}
use native.Mathlib.Numerals.{unary_clauses}
use denote.Ref.{Bor}
use Rattle.survey_core.specs.declared.words.Command.{Command}
use Rattle.survey_core.specs.declared.words.Command.TheVariants.{Add, Drop, List as Listing, Brightest}
use Rattle.command_line.specs.Lines.{texts}
use Rattle.survey_core.specs.Commands.{read, front, width, behind, session_command, some_commands, file_words, further, commands_of}

-- these commands of so many words, and what the words behind them mean
abbrev pub onward : List Command → ℕ → Result (List Command) ℕ → Result (List Command) ℕ
onward before at (Ok rest) = Ok (before ++ rest)
onward before at (Err k) = Err (at + k)

-- the words after a command
by_width : (c : Command) (w : List ℕ) → behind c (cond (width c == 1) (Ok []) (Ok [])) ≡ behind c (read (drop (width c) (w ∷ [])))
unfolding read
by_width (Add f) w = refl
by_width (Drop f) w = refl
by_width Listing w = refl
by_width (Brightest n) w = refl

by_widths : (c : Command) (w v : List ℕ) (rest : List (List ℕ))
    → behind c (cond (width c == 1) (read (v ∷ rest)) (read rest)) ≡ behind c (read (drop (width c) (w ∷ v ∷ rest)))
by_widths (Add f) w v rest = refl
by_widths (Drop f) w v rest = refl
by_widths Listing w v rest = refl
by_widths (Brightest n) w v rest = refl

pub read_front : (words : List (List ℕ)) (c : Command) → front words ≡ Ok c → read words ≡ behind c (read (drop (width c) words))
unfolding read
read_front [] c e = absurd (cc)
read_front (w ∷ []) c e = rw e (by_width c w)
read_front (w ∷ v ∷ rest) c e = rw e (by_widths c w v rest)

read_fault : (words : List (List ℕ)) (k : ℕ) → 0 < length words → front words ≡ Err k → read words ≡ Err k
unfolding read
read_fault [] k some e = absurd (omega arith)
read_fault (w ∷ []) k some e = rw e refl
read_fault (w ∷ v ∷ rest) k some e = rw e refl

onward_behind : (before : List Command) (at : ℕ) (c : Command) (r : Result (List Command) ℕ)
    → onward before at (behind c r) ≡ onward (before ++ c ∷ []) (at + width c) r
onward_behind before at c (Ok rest) = ap Ok (sym (append_assoc before (c ∷ []) rest))
onward_behind before at c (Err k) = ap Err (omega arith)

pub onward_next : (words : List (List ℕ)) (before : List Command) (at : ℕ) (c : Command) → front (drop at words) ≡ Ok c
    → read words ≡ onward before at (read (drop at words))
    → read words ≡ onward (before ++ c ∷ []) (at + width c) (read (drop (at + width c) words))
onward_next words before at c e so_far =
    so_far ∙ ap (onward before at) (read_front (drop at words) c e ∙ ap (λ ws. behind c (read ws)) (drop-drop (width c) at words))
    ∙ onward_behind before at c (read (drop (at + width c) words))

-- the first word at fault
pub fault_at : (words : List (List ℕ)) (before : List Command) (at k n : ℕ) → at < length words → front (drop at words) ≡ Err k
    → read words ≡ onward before at (read (drop at words))
    → n ≡ at + k + 1 → (some_commands words ≡ Err (n - 1)) × (0 < n)
fault_at [] before at k n h e so_far is = absurd (omega arith)
fault_at (w ∷ words) before at k n h e so_far is =
    (so_far ∙ ap (onward before at) (read_fault (drop at (w ∷ words)) k (omega (arith, length-drop at (w ∷ words))) e) ∙ ap Err (omega arith), omega arith)

-- none is at fault
pub all_read : (words : List (List ℕ)) (before : List Command) (at : ℕ) → 0 < length words → length words ≤ at
    → read words ≡ onward before at (read (drop at words)) → IsOk (some_commands words)
unfolding read
all_read [] before at some h so_far = absurd (omega arith)
all_read (w ∷ words) before at some h so_far = rw (so_far ∙ ap (λ ws. onward before at (read ws)) (drop_all at (w ∷ words) h)) refl

-- the command at a place
front_here : (words : List (List ℕ)) (at : ℕ) (d : List ℕ) → at < length words
    → front (drop at words) ≡ session_command (get_or words at d) (slice_get words (at + 1))
front_here [] at d h = absurd (omega arith)
front_here (v ∷ []) zero d h = refl
front_here (v ∷ u ∷ rest) zero d h = refl
front_here (v ∷ rest) (suc at) d h = let here = simp unary_clauses at (front_here rest at d (omega arith)) in simp unary_clauses here

pub front_at : (words : List (Bor (List ℕ))) (at : ℕ) (d : Bor (List ℕ)) (next : Option (List ℕ)) (r : Result Command ℕ) → at < length words
    → next ≡ slice_get (texts words) (at + 1)
    → r ≡ session_command (get_or words at d).now next → r ≡ front (drop at (texts words))
front_at words at d next r h next_is is =
    is ∙ ap₂ session_command (sym (get_or-map (λ (word : Bor (List ℕ)). word.now) words at d [] h)) next_is
    ∙ sym (front_here (texts words) at [] (omega (arith, length-map words (λ (word : Bor (List ℕ)). word.now))))

-- a command has as many words as there are
pub has_words : (words : List (Bor (List ℕ))) (at : ℕ) (next : Option (List ℕ)) (r : Result Command ℕ) → at < length words
    → next ≡ slice_get (texts words) (at + 1)
    → IfOk r (λ command. width command ≤ 1 + length (option_to_list next)) → IfOk r (λ command. at + width command ≤ length words)
has_words words at next (Err k) h is few = tt
has_words words at None (Ok c) h is few = omega (arith, few)
has_words words at (Some w) (Ok c) h is few =
    omega (arith, few, get_within (texts words) (at + 1) w (sym is), length-map words (λ (word : Bor (List ℕ)). word.now))
  where
    get_within : (ws : List (List ℕ)) (i : ℕ) (w : List ℕ) → slice_get ws i ≡ Some w → i < length ws
    get_within [] i w e = absurd (cc)
    get_within (v ∷ ws) zero w e = omega arith
    get_within (v ∷ ws) (suc i) w e = omega (arith, get_within ws i w e)

pub some_words : (words : List (Bor (List ℕ))) (at : ℕ) → at < length words → at < length (texts words)
some_words words at h = omega (arith, length-map words (λ (word : Bor (List ℕ)). word.now))

-- there is no command where no word is left, and none at fault otherwise
pub no_front : (words : List (List ℕ)) (k : ℕ) (rest : List Command) → front words ≡ Err k → read words ≡ Ok rest → rest ≡ []
unfolding read
no_front [] k [] e is = refl
no_front [] k (x ∷ rest) e is = absurd (cc)
no_front (w ∷ words) k rest e is = let bad = sym (read_fault (w ∷ words) k (omega arith) e) ∙ is in absurd (cc)

pub behind_ok : (c : Command) (r : Result (List Command) ℕ) (rest : List Command) → behind c r ≡ Ok rest
    → (more : List Command) × (r ≡ Ok more) × (rest ≡ c ∷ more)
behind_ok c (Ok more) rest e = (more, refl, cc)
behind_ok c (Err k) rest e = absurd (cc)

-- ---- the words that name a file

pub texts_behind : (words : List (Bor (List ℕ))) (n : ℕ) → texts (drop n words) ≡ drop n (texts words)
texts_behind words n = sym (drop-map (λ (word : Bor (List ℕ)). word.now) n words)

pub file_within : (words : List (List ℕ)) → file_words words ≤ length words
file_within [] = omega arith
file_within (word ∷ rest) = elim (cases_Bool (bytes_eq word (codes "--file"))) [
  | inl it ↦ rw it (omega arith)
  | inr it ↦ rw it (omega arith)
]

-- a word at fault behind the file
pub fault_behind : (words : List (List ℕ)) (n : ℕ) → some_commands (drop (file_words words) words) ≡ Err (n - 1) → 0 < n
    → (commands_of words ≡ Err (file_words words + n - 1)) × (0 < file_words words + n)
unfolding commands_of
fault_behind words n e some = (ap (further (file_words words)) e ∙ ap Err (omega (arith, some)), omega (arith, some))

pub none_behind : (words : List (List ℕ)) → IsOk (some_commands (drop (file_words words) words)) → IsOk (commands_of words)
unfolding commands_of
none_behind words is = by (some_commands (drop (file_words words) words)) is
  where
    by : (r : Result (List Command) ℕ) → IsOk r → IsOk (further (file_words words) r)
    by (Ok commands) some = refl
    by (Err at) some = absurd (cc)

-- what the words behind the file mean
pub read_behind : (words rest : List (Bor (List ℕ))) (commands : List Command) → rest ≡ drop (file_words (texts words)) words
    → read (drop (file_words (texts words)) (texts words)) ≡ Ok commands → read (texts rest) ≡ Ok commands
read_behind words rest commands e is = ap read (ap texts e ∙ texts_behind words (file_words (texts words))) ∙ is
