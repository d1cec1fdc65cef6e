-- Headers and data, and what fills their blocks, taken off bytes.
use Rattle.std.proofs.Common.{◌≡◌, ◌∙◌, ℕ, ◌+◌, ◌-◌, ◌<◌, ◌≤◌, List, [], ◌∷◌, ◌++◌, get_or, length, replicate, take, drop, sym, ap, arith, subst}
use Rattle.std.proofs.Common.{append_assoc, take-append-drop, length-append, Option, Some, None, MatchOption, Bor}
use Rattle.std.proofs.lemmas.List.{append_cancel_left, drop_at, at_drop_more, drop_all}
use Rattle.std.proofs.lemmas.List.Folds.{concat-append}
use Rattle.std.specs.List.{concat}
use Rattle.fits_write.specs.declared.table.Column.{Column}
use Rattle.fits_write.specs.Blocks.{filled, room_after}
use Rattle.fits_write.specs.Columns.{column_cards}
use Rattle.fits_write.specs.Hdus.{header, table_front, named_back, named_cards}
use Rattle.fits_back.specs.Fronts.{BeginsNot, BeginsWithNoData}
use Rattle.fits_back.proofs.Stripping.{IsLeft, piece_off, piece_missing, none_left}

-- ---- the fill of a header

pub cards_missing : (cards : List (List ℕ)) (bytes : List ℕ) → BeginsNot (concat cards) bytes → BeginsNot (header cards) bytes
unfolding header filled
cards_missing cards bytes missing = λ rest is.
    let fill : List ℕ = replicate (room_after (length (concat cards))) 32 in
    missing (fill ++ rest) (is ∙ append_assoc (concat cards) fill rest)

fill_missing : (cards : List (List ℕ)) (bytes behind : List ℕ) → bytes ≡ concat cards ++ behind
    → BeginsNot (replicate (room_after (length (concat cards))) 32) behind → BeginsNot (header cards) bytes
unfolding header filled
fill_missing cards bytes behind e missing = λ rest is.
    let fill : List ℕ = replicate (room_after (length (concat cards))) 32 in
    missing rest (append_cancel_left (concat cards) behind (fill ++ rest) (sym e ∙ is ∙ append_assoc (concat cards) fill rest))

fill_off : (cards : List (List ℕ)) (bytes behind rest : List ℕ) → bytes ≡ concat cards ++ behind
    → behind ≡ replicate (room_after (length (concat cards))) 32 ++ rest → bytes ≡ header cards ++ rest
unfolding header filled
fill_off cards bytes behind rest e here =
    let fill : List ℕ = replicate (room_after (length (concat cards))) 32 in
    e ∙ ap (λ l. concat cards ++ l) here ∙ sym (append_assoc (concat cards) fill rest)

header_by : (cards : List (List ℕ)) (bytes behind : List ℕ) (r : Option (Bor (List ℕ))) → bytes ≡ concat cards ++ behind
    → MatchOption r (BeginsNot (replicate (room_after (length (concat cards))) 32) behind)
    (λ rest. behind ≡ replicate (room_after (length (concat cards))) 32 ++ rest.now)
    → MatchOption r (BeginsNot (header cards) bytes) (λ rest. bytes ≡ header cards ++ rest.now)
header_by cards bytes behind None e missing = fill_missing cards bytes behind e missing
header_by cards bytes behind (Some x) e here = fill_off cards bytes behind x.now e here

pub header_stripped : (cards : List (List ℕ)) (bytes behind : List ℕ) (r : Option (Bor (List ℕ))) → bytes ≡ concat cards ++ behind
    → MatchOption r (BeginsNot (replicate (room_after (length bytes - length behind)) 32) behind)
    (λ rest. behind ≡ replicate (room_after (length bytes - length behind)) 32 ++ rest.now)
    → MatchOption r (BeginsNot (header cards) bytes) (λ rest. bytes ≡ header cards ++ rest.now)
header_stripped cards bytes behind r e h =
    let long : length bytes - length behind ≡ length (concat cards) = omega (arith, ap length e, length-append (concat cards) behind) in
    header_by cards bytes behind r e
    (subst (λ n. MatchOption r (BeginsNot (replicate (room_after n) 32) behind) (λ rest. behind ≡ replicate (room_after n) 32 ++ rest.now)) long h)

-- ---- the cards of columns

columns_left : (columns : List Column) (i n : ℕ) (x : Column) → concat (column_cards n (x ∷ drop i columns))
    ≡ concat (column_cards n (x ∷ [])) ++ concat (column_cards (n + 1) (drop i columns))
columns_left columns i n x = concat-append (column_cards n (x ∷ [])) (column_cards (n + 1) (drop i columns))

-- from the column at place i on
abbrev pub columns_from : ℕ → List Column → List ℕ
columns_from i columns = concat (column_cards (i + 1) (drop i columns))

columns_split : (columns : List Column) (i : ℕ) (d : Column) → i < length columns
    → columns_from i columns ≡ concat (column_cards (i + 1) (get_or columns i d ∷ [])) ++ columns_from (i + 1) columns
columns_split columns i d h = at_drop_more (λ l. concat (column_cards (i + 1) l)) columns i d h ∙ columns_left columns (i + 1) (i + 1) (get_or columns i d)

pub column_off : (columns : List Column) (i : ℕ) (x : Column) (cards : List (List ℕ)) (bytes rest next : List ℕ) → i < length columns → x ≡ get_or columns i x
    → cards ≡ column_cards (i + 1) (x ∷ []) → IsLeft (columns_from 0 columns) (columns_from i columns) bytes rest → rest ≡ concat cards ++ next
    → IsLeft (columns_from 0 columns) (columns_from (i + 1) columns) bytes next
column_off columns i x cards bytes rest next h here are left e =
    let piece : concat cards ≡ concat (column_cards (i + 1) (get_or columns i x ∷ [])) = ap concat are ∙ ap (λ y. concat (column_cards (i + 1) (y ∷ []))) here in
    piece_off (columns_from 0 columns) (concat (column_cards (i + 1) (get_or columns i x ∷ []))) (columns_from (i + 1) columns) bytes rest next
    (subst (λ l. IsLeft (columns_from 0 columns) l bytes rest) (columns_split columns i x h) left) (e ∙ ap (λ l. l ++ next) piece)

pub column_missing : (columns : List Column) (i : ℕ) (x : Column) (cards : List (List ℕ)) (bytes rest : List ℕ) → i < length columns → x ≡ get_or columns i x
    → cards ≡ column_cards (i + 1) (x ∷ []) → IsLeft (columns_from 0 columns) (columns_from i columns) bytes rest → BeginsNot (concat cards) rest
    → BeginsNot (columns_from 0 columns) bytes
column_missing columns i x cards bytes rest h here are left missing =
    let piece : concat cards ≡ concat (column_cards (i + 1) (get_or columns i x ∷ [])) = ap concat are ∙ ap (λ y. concat (column_cards (i + 1) (y ∷ []))) here in
    piece_missing (columns_from 0 columns) (concat (column_cards (i + 1) (get_or columns i x ∷ []))) (columns_from (i + 1) columns) bytes rest
    (subst (λ l. IsLeft (columns_from 0 columns) l bytes rest) (columns_split columns i x h) left) (subst (λ l. BeginsNot l rest) piece missing)

pub columns_off : (columns : List Column) (i : ℕ) (bytes rest : List ℕ) → length columns ≤ i → IsLeft (columns_from 0 columns) (columns_from i columns) bytes rest
    → bytes ≡ columns_from 0 columns ++ rest
columns_off columns i bytes rest h left =
    none_left (columns_from 0 columns) bytes rest
    (subst (λ l. IsLeft (columns_from 0 columns) (concat (column_cards (i + 1) l)) bytes rest) (drop_all i columns h) left)

-- ---- the cards of a table's header: those before the columns', those of the columns, and those behind them

all_cards : (name : List ℕ) (columns : List Column) (rows : ℕ) → concat (named_cards name columns rows)
    ≡ concat (table_front columns rows) ++ (concat (column_cards 1 columns) ++ concat (named_back name))
unfolding named_cards
all_cards name columns rows =
    concat-append (table_front columns rows ++ column_cards 1 columns) (named_back name)
    ∙ ap (λ l. l ++ concat (named_back name)) (concat-append (table_front columns rows) (column_cards 1 columns))
    ∙ append_assoc (concat (table_front columns rows)) (concat (column_cards 1 columns)) (concat (named_back name))

all_but_last : (name : List ℕ) (columns : List Column) (rows : ℕ) (bytes : List ℕ) → IsLeft (concat (named_cards name columns rows))
    (concat (table_front columns rows) ++ (concat (column_cards 1 columns) ++ concat (named_back name))) bytes bytes
all_but_last name columns rows bytes = record {
  forth = λ behind e. e ∙ ap (λ l. l ++ behind) (sym (all_cards name columns rows));
  back = λ behind e. e ∙ ap (λ l. l ++ behind) (all_cards name columns rows);
}

pub front_missing : (name : List ℕ) (columns : List Column) (rows : ℕ) (cards : List (List ℕ)) (bytes : List ℕ) → cards ≡ table_front columns rows
    → BeginsNot (concat cards) bytes → BeginsNot (header (named_cards name columns rows)) bytes
front_missing name columns rows cards bytes are missing =
    cards_missing (named_cards name columns rows) bytes
    (piece_missing (concat (named_cards name columns rows)) (concat (table_front columns rows)) (concat (column_cards 1 columns) ++ concat (named_back name)) bytes bytes
    (all_but_last name columns rows bytes) (subst (λ l. BeginsNot (concat l) bytes) are missing))

behind_front_left : (name : List ℕ) (columns : List Column) (rows : ℕ) (cards : List (List ℕ)) (bytes behind : List ℕ) → cards ≡ table_front columns rows
    → bytes ≡ concat cards ++ behind
    → IsLeft (concat (named_cards name columns rows)) (concat (column_cards 1 columns) ++ concat (named_back name)) bytes behind
behind_front_left name columns rows cards bytes behind are e =
    piece_off (concat (named_cards name columns rows)) (concat (table_front columns rows)) (concat (column_cards 1 columns) ++ concat (named_back name)) bytes bytes behind
    (all_but_last name columns rows bytes) (e ∙ ap (λ l. concat l ++ behind) are)

pub columns_missing : (name : List ℕ) (columns : List Column) (rows : ℕ) (cards : List (List ℕ)) (bytes behind : List ℕ) → cards ≡ table_front columns rows
    → bytes ≡ concat cards ++ behind → BeginsNot (concat (column_cards 1 columns)) behind → BeginsNot (header (named_cards name columns rows)) bytes
columns_missing name columns rows cards bytes behind are e missing =
    cards_missing (named_cards name columns rows) bytes
    (piece_missing (concat (named_cards name columns rows)) (concat (column_cards 1 columns)) (concat (named_back name)) bytes behind
    (behind_front_left name columns rows cards bytes behind are e) missing)

behind_columns_left : (name : List ℕ) (columns : List Column) (rows : ℕ) (cards : List (List ℕ)) (bytes behind next : List ℕ) → cards ≡ table_front columns rows
    → bytes ≡ concat cards ++ behind → behind ≡ concat (column_cards 1 columns) ++ next
    → IsLeft (concat (named_cards name columns rows)) (concat (named_back name)) bytes next
behind_columns_left name columns rows cards bytes behind next are e f =
    piece_off (concat (named_cards name columns rows)) (concat (column_cards 1 columns)) (concat (named_back name)) bytes behind next
    (behind_front_left name columns rows cards bytes behind are e) f

pub back_missing : (name : List ℕ) (columns : List Column) (rows : ℕ) (cards last_cards : List (List ℕ)) (bytes behind next : List ℕ) → cards ≡ table_front columns rows
    → last_cards ≡ named_back name → bytes ≡ concat cards ++ behind → behind ≡ concat (column_cards 1 columns) ++ next → BeginsNot (concat last_cards) next
    → BeginsNot (header (named_cards name columns rows)) bytes
back_missing name columns rows cards last_cards bytes behind next are last_are e f missing = λ rest is.
    let left = behind_columns_left name columns rows cards bytes behind next are e f in
    cards_missing (named_cards name columns rows) bytes
    (λ more here. subst (λ l. BeginsNot (concat l) next) last_are missing more (left.back more here)) rest is

pub cards_off : (name : List ℕ) (columns : List Column) (rows : ℕ) (cards last_cards : List (List ℕ)) (bytes behind next last : List ℕ) → cards ≡ table_front columns rows
    → last_cards ≡ named_back name → bytes ≡ concat cards ++ behind → behind ≡ concat (column_cards 1 columns) ++ next → next ≡ concat last_cards ++ last
    → bytes ≡ concat (named_cards name columns rows) ++ last
cards_off name columns rows cards last_cards bytes behind next last are last_are e f g =
    (behind_columns_left name columns rows cards bytes behind next are e f).forth last (g ∙ ap (λ l. concat l ++ last) last_are)

-- ---- data

pub no_room : (bytes : List ℕ) (count : ℕ) → length bytes < count → BeginsWithNoData count bytes
unfolding filled
no_room bytes count short = λ data_bytes rest many is.
    let fill : List ℕ = replicate (room_after (length data_bytes)) 0 in
    omega (arith, short, many, ap length is, length-append (data_bytes ++ fill) rest, length-append data_bytes fill)

pub no_fill : (bytes behind : List ℕ) (count : ℕ) → behind ≡ drop count bytes → BeginsNot (replicate (room_after count) 0) behind
    → BeginsWithNoData count bytes
unfolding filled
no_fill bytes behind count at missing = λ data_bytes rest many is.
    let fill : List ℕ = replicate (room_after (length data_bytes)) 0 in
    missing rest (at ∙ ap (drop count) (is ∙ append_assoc data_bytes fill rest) ∙ drop_at data_bytes (fill ++ rest) count many
    ∙ ap (λ n. replicate (room_after n) 0 ++ rest) many)

pub data_off : (bytes front behind rest : List ℕ) (count : ℕ) → front ≡ take count bytes → behind ≡ drop count bytes → length front ≡ count
    → behind ≡ replicate (room_after count) 0 ++ rest → (bytes ≡ filled 0 front ++ rest) × (length front ≡ count)
unfolding filled
data_off bytes front behind rest count at_front at_behind many here =
    let fill : List ℕ = replicate (room_after (length front)) 0 in
    let whole : bytes ≡ front ++ behind = sym (take-append-drop count bytes) ∙ ap (λ l. l ++ drop count bytes) (sym at_front) ∙ ap (λ l. front ++ l) (sym at_behind) in
    (whole ∙ ap (λ l. front ++ l) (here ∙ ap (λ n. replicate (room_after n) 0 ++ rest) (sym many)) ∙ sym (append_assoc front fill rest), many)
