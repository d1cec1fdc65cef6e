-- The cards of a table's columns one behind the other, and the bytes of its cells.
use Rattle.std.proofs.Common.{◌≡◌, ◌∙◌, ℕ, ◌+◌, ◌<◌, ◌≤◌, List, [], ◌∷◌, ◌++◌, get_or, length, map, replicate, take, drop, ap, sym, subst, append-nil}
use Rattle.std.proofs.Common.{append_assoc, zero-add, take-append-drop, arith, ℤ, Option}
use Rattle.std.specs.Prelude.{codes}
use Rattle.std.specs.List.{concat, range_with_len}
use Rattle.std.proofs.lemmas.List.{take_more, length-take-le}
use Rattle.std.proofs.lemmas.List.Folds.{concat-append}
use Rattle.std.proofs.lemmas.List.FromFn.{get_or-map-range_with_len, length-map-range_with_len}
use Rattle.std.specs.declared.result.Result.{Result}
use Rattle.dev_io.specs.Streams.{AppendsPrefix, PutAppends}
use Rattle.dev_io.specs.Laws.{AppendsPrefix-more}
use Rattle.dev_io.proofs.Exported.{front_empty}
use Rattle.fits_card.specs.Written.{numbered_keyword, written_text}
use Rattle.fits_write.specs.declared.table.Cell.{Cell}
use Rattle.fits_write.specs.declared.table.Column.{Column}
use Rattle.fits_write.specs.Blocks.{room_after}
use Rattle.fits_write.specs.Waiting.{Waits}
use Rattle.fits_write.specs.Hdus.{header, named_cards, table_front, named_back}
use Rattle.fits_write.specs.Columns.{column_cards, form_of, bytes_at, cell_bytes, cell_at, number_at}
use Rattle.fits_write.proofs.Pieces.{Waits-after, Waits-cut, from_nothing, cut_filled, waits_filled}

column_cards-append : (n : ℕ) (xs ys : List Column) → column_cards n (xs ++ ys) ≡ column_cards n xs ++ column_cards (n + length xs) ys
column_cards-append n [] ys = ap (λ k. column_cards k ys) (omega arith)
column_cards-append n (x ∷ xs) ys =
    let e : column_cards (n + 1) (xs ++ ys) ≡ column_cards (n + 1) xs ++ column_cards (n + length (x ∷ xs)) ys =
    column_cards-append (n + 1) xs ys ∙ ap (λ k. column_cards (n + 1) xs ++ column_cards k ys) (omega arith) in
    ap (λ l. written_text (numbered_keyword (codes "TTYPE") n) x.name ∷ written_text (numbered_keyword (codes "TFORM") n) (form_of x.cell) ∷ l) e

columns_more : (columns : List Column) (i : ℕ) (d : Column) → i < length columns
    → concat (column_cards 1 (take (i + 1) columns)) ≡ concat (column_cards 1 (take i columns)) ++ concat (column_cards (i + 1) (get_or columns i d ∷ []))
columns_more columns i d h =
    let front : length (take i columns) ≡ i = length-take-le i columns (omega arith) in
    let place : 1 + length (take i columns) ≡ i + 1 = omega arith in
    ap (λ l. concat (column_cards 1 l)) (take_more columns i d h) ∙ ap concat (column_cards-append 1 (take i columns) (get_or columns i d ∷ []))
    ∙ concat-append (column_cards 1 (take i columns)) (column_cards (1 + length (take i columns)) (get_or columns i d ∷ []))
    ∙ ap (λ k. concat (column_cards 1 (take i columns)) ++ concat (column_cards k (get_or columns i d ∷ []))) place

columns_split : (columns : List Column) (k : ℕ)
    → concat (column_cards 1 columns) ≡ concat (column_cards 1 (take k columns)) ++ concat (column_cards (1 + length (take k columns)) (drop k columns))
columns_split columns k =
    ap (λ l. concat (column_cards 1 l)) (sym (take-append-drop k columns)) ∙ ap concat (column_cards-append 1 (take k columns) (drop k columns))
    ∙ concat-append (column_cards 1 (take k columns)) (column_cards (1 + length (take k columns)) (drop k columns))

-- the cards of the column at place i behind those before it
pub columns_wait : (a b c : Option (List ℕ)) (start : List ℕ) (columns : List Column) (v w : List ℕ) (i : ℕ) (x : Column) (cards : List (List ℕ))
    → i < length columns
    → x ≡ get_or columns i x → cards ≡ column_cards (i + 1) (x ∷ []) → Waits a b (start ++ concat (column_cards 1 (take i columns))) v
    → Waits b c (v ++ concat cards) w
    → Waits a c (start ++ concat (column_cards 1 (take (i + 1) columns))) w
columns_wait a b c start columns v w i x cards h here are before now =
    let front = concat (column_cards 1 (take i columns)) in
    let more : (start ++ front) ++ concat cards ≡ start ++ concat (column_cards 1 (take (i + 1) columns)) =
    append_assoc start front (concat cards) ∙ ap (λ l. start ++ (front ++ concat l)) are
    ∙ ap (λ y. start ++ (front ++ concat (column_cards (i + 1) (y ∷ [])))) here
    ∙ ap (λ l. start ++ l) (sym (columns_more columns i x h)) in
    subst (λ l. Waits a c l w) more (Waits-after a b c (start ++ front) (concat cards) v w before now)

-- a front of them is a front of the cards of all columns
pub columns_cut : (a b c : Option (List ℕ)) (start : List ℕ) (columns : List Column) (v : List ℕ) (i : ℕ) (x : Column) (cards : List (List ℕ))
    → i < length columns
    → x ≡ get_or columns i x → cards ≡ column_cards (i + 1) (x ∷ []) → Waits a b (start ++ concat (column_cards 1 (take i columns))) v
    → AppendsPrefix b c (v ++ concat cards)
    → AppendsPrefix a c (start ++ concat (column_cards 1 columns))
columns_cut a b c start columns v i x cards h here are before now =
    let front = concat (column_cards 1 (take i columns)) in
    let rest = concat (column_cards (1 + length (take (i + 1) columns)) (drop (i + 1) columns)) in
    let more : (start ++ front) ++ concat cards ≡ start ++ concat (column_cards 1 (take (i + 1) columns)) =
    append_assoc start front (concat cards) ∙ ap (λ l. start ++ (front ++ concat l)) are
    ∙ ap (λ y. start ++ (front ++ concat (column_cards (i + 1) (y ∷ [])))) here
    ∙ ap (λ l. start ++ l) (sym (columns_more columns i x h)) in
    let all : ((start ++ front) ++ concat cards) ++ rest ≡ start ++ concat (column_cards 1 columns) =
    ap (λ l. l ++ rest) more ∙ append_assoc start (concat (column_cards 1 (take (i + 1) columns))) rest
    ∙ ap (λ l. start ++ l) (sym (columns_split columns (i + 1))) in
    subst (AppendsPrefix a c) all (Waits-cut a b c (start ++ front) (concat cards) rest v before now)

-- ---- cells

abbrev pub cell_pieces : List Column → List ℤ → List (List ℕ)
cell_pieces columns cells = map (bytes_at columns cells) (range_with_len 0 (length cells))

pub cell_in : (columns : List Column) (cells : List ℤ) (k : ℕ) → k < length cells → k < length (cell_pieces columns cells)
cell_in columns cells k h = omega (arith, length-map-range_with_len (bytes_at columns cells) 0 (length cells))

pub cells_over : (columns : List Column) (cells : List ℤ) (k : ℕ) → length cells ≤ k → length (cell_pieces columns cells) ≤ k
cells_over columns cells k h = omega (arith, length-map-range_with_len (bytes_at columns cells) 0 (length cells))

pub cell_is : (columns : List Column) (cells : List ℤ) (k : ℕ) (cell : Cell) (number : ℤ) → k < length cells → cell ≡ cell_at columns k
    → number ≡ number_at cells k
    → cell_bytes cell number ≡ get_or (cell_pieces columns cells) k []
unfolding bytes_at
cell_is columns cells k cell number h where_is here =
    ap (λ l. cell_bytes l number) where_is ∙ ap (cell_bytes (cell_at columns k)) here
    ∙ sym (get_or-map-range_with_len (bytes_at columns cells) 0 (length cells) k k [] h (zero-add k))

-- ---- the header: the cards before the columns', those of the columns, and those behind them

all_cards : (front middle back : List (List ℕ)) → concat (front ++ middle ++ back) ≡ (concat front ++ concat middle) ++ concat back
all_cards front middle back = concat-append (front ++ middle) back ∙ ap (λ l. l ++ concat back) (concat-append front middle)

pub front_cut : (name : List ℕ) (a b : Option (List ℕ)) (start : List ℕ) (columns : List Column) (rows : ℕ) (cards : List (List ℕ)) → start ≡ []
    → cards ≡ table_front columns rows
    → AppendsPrefix a b (start ++ concat cards) → AppendsPrefix a b (header (named_cards name columns rows))
unfolding header named_cards
front_cut name a b start columns rows cards empty are p =
    let front = table_front columns rows in
    let middle = column_cards 1 columns in
    let here : AppendsPrefix a b (concat front) = subst (λ l. AppendsPrefix a b (concat l)) are (front_empty a b start (concat cards) empty p) in
    let more : AppendsPrefix a b ((concat front ++ concat middle) ++ concat (named_back name)) =
    AppendsPrefix-more a b (concat front ++ concat middle) (concat (named_back name)) (AppendsPrefix-more a b (concat front) (concat middle) here) in
    cut_filled a b (concat (front ++ middle ++ (named_back name))) 32 (subst (AppendsPrefix a b) (sym (all_cards front middle (named_back name))) more)

pub middle_waits : (a b c : Option (List ℕ)) (start : List ℕ) (columns : List Column) (rows : ℕ) (cards : List (List ℕ)) (v w : List ℕ) → start ≡ []
    → cards ≡ table_front columns rows
    → Waits a b (start ++ concat cards) v → Waits b c (v ++ concat (column_cards 1 columns)) w
    → Waits a c (concat (table_front columns rows) ++ concat (column_cards 1 columns)) w
middle_waits a b c start columns rows cards v w empty are p q =
    Waits-after a b c (concat (table_front columns rows)) (concat (column_cards 1 columns)) v w
    (subst (λ l. Waits a b (concat l) v) are (from_nothing a b start (concat cards) v empty p)) q

pub middle_cut : (name : List ℕ) (a b c : Option (List ℕ)) (start : List ℕ) (columns : List Column) (rows : ℕ) (cards : List (List ℕ)) (v : List ℕ) → start ≡ []
    → cards ≡ table_front columns rows
    → Waits a b (start ++ concat cards) v → AppendsPrefix b c (v ++ concat (column_cards 1 columns)) → AppendsPrefix a c (header (named_cards name columns rows))
unfolding header named_cards
middle_cut name a b c start columns rows cards v empty are p q =
    let front = table_front columns rows in
    let middle = column_cards 1 columns in
    let before : Waits a b (concat front) v = subst (λ l. Waits a b (concat l) v) are (from_nothing a b start (concat cards) v empty p) in
    cut_filled a c (concat (front ++ middle ++ (named_back name))) 32
    (subst (AppendsPrefix a c) (sym (all_cards front middle (named_back name))) (Waits-cut a b c (concat front) (concat middle) (concat (named_back name)) v before q))

pub back_cut : (name : List ℕ) (a b c : Option (List ℕ)) (columns : List Column) (rows : ℕ) (cards : List (List ℕ)) (v : List ℕ) → cards ≡ named_back name
    → Waits a b (concat (table_front columns rows) ++ concat (column_cards 1 columns)) v → AppendsPrefix b c (v ++ concat cards)
    → AppendsPrefix a c (header (named_cards name columns rows))
unfolding header named_cards
back_cut name a b c columns rows cards v are p q =
    let front = table_front columns rows in
    let middle = column_cards 1 columns in
    let cut : AppendsPrefix a c (((concat front ++ concat middle) ++ concat (named_back name)) ++ []) =
    Waits-cut a b c (concat front ++ concat middle) (concat (named_back name)) [] v p (subst (λ l. AppendsPrefix b c (v ++ concat l)) are q) in
    let all : ((concat front ++ concat middle) ++ concat (named_back name)) ++ [] ≡ concat (front ++ middle ++ (named_back name)) =
    append-nil ((concat front ++ concat middle) ++ concat (named_back name)) ∙ sym (all_cards front middle (named_back name)) in
    cut_filled a c (concat (front ++ middle ++ (named_back name))) 32 (subst (AppendsPrefix a c) all cut)

pub header_filled : {T E : Type 0} (name : List ℕ) (a b c d : Option (List ℕ)) (r : Result T E) (columns : List Column) (rows : ℕ) (cards : List (List ℕ)) (v w : List ℕ)
    → cards ≡ named_back name
    → Waits a b (concat (table_front columns rows) ++ concat (column_cards 1 columns)) v → Waits b c (v ++ concat cards) w
    → PutAppends c d r (w ++ replicate (room_after (length w)) 32) → PutAppends a d r (header (named_cards name columns rows))
unfolding header named_cards
header_filled name a b c d r columns rows cards v w are p q put =
    let front = table_front columns rows in
    let middle = column_cards 1 columns in
    let all : Waits a c ((concat front ++ concat middle) ++ concat (named_back name)) w =
    Waits-after a b c (concat front ++ concat middle) (concat (named_back name)) v w p (subst (λ l. Waits b c (v ++ concat l) w) are q) in
    waits_filled a c d r (concat (front ++ middle ++ (named_back name))) w 32 (subst (λ l. Waits a c l w) (sym (all_cards front middle (named_back name))) all) put
