-- Rows that are read one after the other, and the table that they are.
use Rattle.std.proofs.Common.{◌≡◌, ◌∙◌, ℕ, ◌+◌, ◌-◌, ◌*◌, ◌%◌, ◌<◌, ◌≤◌, Bool, true, false, cond, not, nat_lt, get_or, List, [], ◌++◌, length, take}
use Rattle.std.proofs.Common.{drop, min, Some, None, refl, sym, ap, ap₂, subst, arith, length-drop, length-append, ℤ, pos}
use Rattle.std.specs.Prelude.{Option, slice_get, Result, Ok, Err, MatchResult}
use Rattle.std.proofs.lemmas.List.{take_all}
use Rattle.std.proofs.lemmas.Option.{slice_get-get_or, get_or_from_slice_get}
use Rattle.std.specs.Ordering.{int_eq}
use Rattle.std.proofs.lemmas.Bool.Decides.{Decides-int_eq}
use Rattle.std.proofs.lemmas.Bool.Decides.{nat_tests}
use Rattle.fits_write.specs.declared.table.Column.{Column}
use Rattle.fits_write.specs.Columns.{row_size}
use Rattle.fits_write.proofs.Exported.{length-row_cells, table_cells-more}
use Rattle.fits_write.specs.CatalogueColumns.{bytes_in_row, cells_in_row, catalogue_columns}
use Rattle.dev_io.specs.Streams.{Takes, TakesAtMost, Fills}
use Rattle.dev_io.specs.Laws.{Takes-after, TakesAtMost-after}
use Rattle.fits_hdu.specs.declared.answer.Hdu.{Hdu as HduSaid}
use Rattle.fits_hdu.specs.declared.fault.HduFault.{HduFault}
use Rattle.fits_hdu.specs.declared.fault.HduStop.{HduStop}
use Rattle.fits_hdu.specs.declared.fault.HduStop.TheVariants as at_hdu
use Rattle.fits_hdu.specs.Headers.{Found, found, refused}
use Rattle.fits_hdu.specs.Finding.{padded, find_of, taken_by}
use Rattle.fits_hdu.specs.Streams.{Stopped}
use Rattle.survey_core.specs.declared.fault.Stop.{Stop}
use Rattle.survey_core.specs.declared.fault.Stop.TheVariants.{Refused, ReadFault, WriteFault, NoMemory, KeeperFault}
use Rattle.survey_core.specs.declared.fault.Fault.TheVariants.{Hdu, TruncatedTable, RowNumber, NotCatalogue, TooManyRows}
use Rattle.survey_core.specs.Tables.{IsNumbered}
use Rattle.survey_core.specs.Stops.{survey_stop_at_hdu}
use Rattle.survey_core.specs.Catalogues.{Reading, accepted, rejected, is_misnumbered, first_misnumbered, numbered, table_of, beyond, is_catalogue}
use Rattle.survey_core.specs.Catalogues.{most_rows, reading_by, catalogue_in}
use Rattle.survey_core.specs.Reads.{taken_of}
use Rattle.fits_write.specs.Rows.{row_cells, table_cells}
use Rattle.survey_core.specs.Reads.{IsCutWithin, IsRow, AreTableRows, IsAccepted, IsRejected, MayLackIn}

-- ---- bytes that are gone

pub at_most : (bytes : List ℕ) (left : Option (List ℕ)) (m n : ℕ) → TakesAtMost bytes left m → m ≤ n → TakesAtMost bytes left n
at_most bytes left m n lost h = record { count = lost.count; few = omega (arith, lost.few); takes = lost.takes }

pub taken_at_most : (bytes : List ℕ) (left : Option (List ℕ)) (m n : ℕ) → Takes bytes left m → m ≤ n → TakesAtMost bytes left n
taken_at_most bytes left m n takes h = record { count = m; few = h; takes = takes }

-- no more than there are
pub lost_within : (bytes : List ℕ) (left : Option (List ℕ)) (m n : ℕ) → TakesAtMost bytes left m → min m (length bytes) ≤ n → TakesAtMost bytes left n
lost_within bytes left m n lost h = record { count = lost.count; few = omega (arith, lost.few, lost.takes.within); takes = lost.takes }

pads_to : (size : ℕ) → size + (2880 - size % 2880) % 2880 ≡ padded size
pads_to size = omega arith

-- ---- rows

-- the catalogue's columns have so many cells and bytes
pub many_columns : length catalogue_columns ≡ cells_in_row
unfolding catalogue_columns
many_columns = refl

pub columns_size : row_size catalogue_columns ≡ bytes_in_row
unfolding catalogue_columns
columns_size = refl

table_more : (bytes : List ℕ) (n : ℕ)
    → table_cells catalogue_columns bytes (n + 1)
    ≡ table_cells catalogue_columns bytes n ++ row_cells catalogue_columns (take bytes_in_row (drop (bytes_in_row * n) bytes))
table_more bytes n = subst (λ k. table_cells catalogue_columns bytes (n + 1)
    ≡ table_cells catalogue_columns bytes n ++ row_cells catalogue_columns (take k (drop (k * n) bytes)))
    columns_size (table_cells-more catalogue_columns bytes n)

pub no_rows : (bytes : List ℕ) (left : Option (List ℕ)) (cells : List ℤ) → left ≡ Some bytes → cells ≡ [] → AreTableRows bytes 0 left cells
no_rows bytes left cells is none = record { cells_are = none; takes = record { within = omega arith; rest = is } }

pub rows_more : (bytes : List ℕ) (k : ℕ) (a b : Option (List ℕ)) (columns : List Column) (row : List ℕ) (cells cells' : List ℤ)
    → AreTableRows bytes k a cells → IsRow (drop (bytes_in_row * k) bytes) b row → columns ≡ catalogue_columns → cells' ≡ cells ++ row_cells columns row
    → AreTableRows bytes (k + 1) b cells'
rows_more bytes k a b columns row cells cells' rows here are all = record {
  cells_are = all ∙ ap₂ ◌++◌ rows.cells_are (ap₂ row_cells are here.row_is) ∙ sym (table_more bytes k);
  takes = subst (Takes bytes b) (omega arith) (Takes-after bytes a b (bytes_in_row * k) bytes_in_row rows.takes here.takes);
}

pub cells_more : (k : ℕ) (columns : List Column) (row : List ℕ) (cells cells' : List ℤ) → length cells ≡ cells_in_row * k → columns ≡ catalogue_columns
    → cells' ≡ cells ++ row_cells columns row → length cells' ≡ cells_in_row * (k + 1)
cells_more k columns row cells cells' many are all =
    let more : length (row_cells columns row) ≡ cells_in_row = length-row_cells columns row ∙ ap length are ∙ many_columns in
    omega (arith, ap length all, length-append cells (row_cells columns row), more, many)

-- a row that was read
pub row_read : (bytes : List ℕ) (left : Option (List ℕ)) (n : ℕ) (buf : List ℕ) → Fills bytes left n buf → n ≡ bytes_in_row → length buf ≡ bytes_in_row
    → IsRow bytes left buf
row_read bytes left n buf fills is long = record {
  row_is = sym (take_all bytes_in_row buf (omega arith)) ∙ ap (λ k. take k buf) (sym is) ∙ fills.front ∙ ap (λ k. take k bytes) is;
  takes = subst (Takes bytes left) is fills.takes;
}

pub rows_short : (bytes : List ℕ) (k count : ℕ) (a b : Option (List ℕ)) (cells : List ℤ) (stop : Stop) → AreTableRows bytes k a cells → k < count
    → IsCutWithin (drop (bytes_in_row * k) bytes) bytes_in_row b stop → IsCutWithin bytes (bytes_in_row * count) b stop
rows_short bytes k count a b cells (Refused fault) rows h short =
    let long = length-drop (bytes_in_row * k) bytes in
    let all : bytes_in_row * k + length (drop (bytes_in_row * k) bytes) ≡ length bytes = omega (arith, long, rows.takes.within) in
    (short.0, omega (arith, short.1, all), subst (Takes bytes b) all (Takes-after bytes a b (bytes_in_row * k) _ rows.takes short.2))
rows_short bytes k count a b cells ReadFault rows h short =
    at_most bytes b (bytes_in_row * k + bytes_in_row) (bytes_in_row * count) (TakesAtMost-after bytes a b (bytes_in_row * k) bytes_in_row rows.takes short)
    (omega arith)
rows_short bytes k count a b cells WriteFault rows h short = short
rows_short bytes k count a b cells NoMemory rows h short =
    at_most bytes b (bytes_in_row * k + bytes_in_row) (bytes_in_row * count) (TakesAtMost-after bytes a b (bytes_in_row * k) bytes_in_row rows.takes short)
    (omega arith)
rows_short bytes k count a b cells KeeperFault rows h short = short

pub rows_wanted : (bytes : List ℕ) (k count : ℕ) (a b : Option (List ℕ)) (row : List ℕ) (cells : List ℤ) → AreTableRows bytes k a cells → k < count
    → IsRow (drop (bytes_in_row * k) bytes) b row → TakesAtMost bytes b (bytes_in_row * count)
rows_wanted bytes k count a b row cells rows h here =
    taken_at_most bytes b (bytes_in_row * k + bytes_in_row) (bytes_in_row * count) (Takes-after bytes a b (bytes_in_row * k) bytes_in_row rows.takes here.takes)
    (omega arith)

-- ---- the table

pub lt_false : (m n : ℕ) → n ≤ m → nat_lt m n ≡ false
lt_false m n h = grind (arith, nat_tests)

pub lt_true : (m n : ℕ) → m < n → nat_lt m n ≡ true
lt_true m n h = grind (arith, nat_tests)

table_short : (bytes : List ℕ) (rows : ℕ) → length bytes < bytes_in_row * rows → table_of bytes rows ≡ rejected (Refused TruncatedTable) (length bytes)
unfolding table_of
table_short bytes rows h = rw (lt_true (length bytes) (bytes_in_row * rows) h) refl

table_whole : (bytes : List ℕ) (rows : ℕ) → bytes_in_row * rows ≤ length bytes
    → table_of bytes rows ≡ numbered bytes (bytes_in_row * rows) (table_cells catalogue_columns bytes rows)
    (first_misnumbered (table_cells catalogue_columns bytes rows))
unfolding table_of
table_whole bytes rows h = rw (lt_false (length bytes) (bytes_in_row * rows) h) refl

numbered_takes : (bytes : List ℕ) (size : ℕ) (cells : List ℤ) (first : Option ℕ) → size ≤ length bytes → size ≤ taken_of (numbered bytes size cells first)
numbered_takes bytes size cells None h = omega (arith, pads_to size)
numbered_takes bytes size cells (Some i) h = omega arith

numbered_wants : (bytes : List ℕ) (size : ℕ) (cells : List ℤ) (first : Option ℕ) → MayLackIn (numbered bytes size cells first)
numbered_wants bytes size cells None = tt
numbered_wants bytes size cells (Some i) = tt

-- at least so many bytes are taken, or all
table_takes : (bytes : List ℕ) (rows : ℕ) → min (bytes_in_row * rows) (length bytes) ≤ taken_of (table_of bytes rows)
unfolding table_of
table_takes bytes rows = by (nat_lt (length bytes) (bytes_in_row * rows)) refl
  where
    by : (b : Bool) → nat_lt (length bytes) (bytes_in_row * rows) ≡ b
        → min (bytes_in_row * rows) (length bytes) ≤ taken_of
        (cond b (rejected (Refused TruncatedTable) (length bytes))
        (numbered bytes (bytes_in_row * rows) (table_cells catalogue_columns bytes rows) (first_misnumbered (table_cells catalogue_columns bytes rows))))
    by true h = omega arith
    by false h = let whole : bytes_in_row * rows ≤ length bytes = grind (arith, nat_tests) in
        let least =
        numbered_takes bytes (bytes_in_row * rows) (table_cells catalogue_columns bytes rows)
        (first_misnumbered (table_cells catalogue_columns bytes rows)) whole in omega (arith, least)

table_wants : (bytes : List ℕ) (rows : ℕ) → MayLackIn (table_of bytes rows)
unfolding table_of
table_wants bytes rows = by (nat_lt (length bytes) (bytes_in_row * rows))
  where
    by : (b : Bool)
        → MayLackIn (cond b (rejected (Refused TruncatedTable) (length bytes))
        (numbered bytes (bytes_in_row * rows) (table_cells catalogue_columns bytes rows) (first_misnumbered (table_cells catalogue_columns bytes rows))))
    by true = tt
    by false =
        numbered_wants bytes (bytes_in_row * rows) (table_cells catalogue_columns bytes rows) (first_misnumbered (table_cells catalogue_columns bytes rows))

pub table_cut : (bytes : List ℕ) (rows : ℕ) (left : Option (List ℕ)) (stop : Stop) → IsCutWithin bytes (bytes_in_row * rows) left stop
    → IsRejected (table_of bytes rows) bytes left stop
table_cut bytes rows left (Refused fault) short = (
  length bytes,
  table_short bytes rows short.1
      ∙ ap (λ f. rejected (Refused f) (length bytes)) (sym short.0),
  short.2,
)
table_cut bytes rows left ReadFault short = lost_within bytes left (bytes_in_row * rows) _ short (table_takes bytes rows)
table_cut bytes rows left WriteFault short = short
table_cut bytes rows left NoMemory short = (table_wants bytes rows, lost_within bytes left (bytes_in_row * rows) _ short (table_takes bytes rows))
table_cut bytes rows left KeeperFault short = short

pub table_misnumbered : (bytes : List ℕ) (rows i row : ℕ) (left : Option (List ℕ)) (cells : List ℤ) → AreTableRows bytes rows left cells
    → Some i ≡ first_misnumbered cells → row ≡ i + 1
    → IsRejected (table_of bytes rows) bytes left (Refused (RowNumber row))
table_misnumbered bytes rows i row left cells all first is = (
  bytes_in_row * rows,
  table_whole bytes rows all.takes.within
      ∙ ap (numbered bytes (bytes_in_row * rows) (table_cells catalogue_columns bytes rows)) (ap first_misnumbered (sym all.cells_are) ∙ sym first)
      ∙ ap (λ r. rejected (Refused (RowNumber r)) (bytes_in_row * rows)) (sym is),
  all.takes,
)

module _ (bytes : List ℕ) (rows : ℕ) (a : Option (List ℕ)) (cells : List ℤ) (all : AreTableRows bytes rows a cells) (first : None
    ≡ first_misnumbered cells) (pad : ℕ) (pad_is : pad ≡ (2880 - bytes_in_row * rows % 2880) % 2880) where
  whole : table_of bytes rows ≡ accepted cells (min (padded (bytes_in_row * rows)) (length bytes))
  whole = table_whole bytes rows all.takes.within
      ∙ ap (numbered bytes (bytes_in_row * rows) (table_cells catalogue_columns bytes rows)) (ap first_misnumbered (sym all.cells_are) ∙ sym first)
      ∙ ap (λ c. accepted c (min (padded (bytes_in_row * rows)) (length bytes))) (sym all.cells_are)

  place : bytes_in_row * rows + min pad (length (drop (bytes_in_row * rows) bytes)) ≡ min (padded (bytes_in_row * rows)) (length bytes)
  place = omega (arith, pads_to (bytes_in_row * rows), pad_is, length-drop (bytes_in_row * rows) bytes, all.takes.within)

  pub table_read : (b : Option (List ℕ)) → Takes (drop (bytes_in_row * rows) bytes) b (min pad (length (drop (bytes_in_row * rows) bytes)))
      → IsAccepted (table_of bytes rows) bytes b cells
  table_read b pads = record {
    taken = min (padded (bytes_in_row * rows)) (length bytes);
    reading_is = whole;
    takes = subst (Takes bytes b) place (Takes-after bytes a b (bytes_in_row * rows) _ all.takes pads);
  }

  pub table_lost : (b : Option (List ℕ)) → TakesAtMost (drop (bytes_in_row * rows) bytes) b (min pad (length (drop (bytes_in_row * rows) bytes)))
      → TakesAtMost bytes b (taken_of (table_of bytes rows))
  table_lost b lost = rw whole (subst (TakesAtMost bytes b) place (TakesAtMost-after bytes a b (bytes_in_row * rows) _ all.takes lost))

-- rows none of which is misnumbered
pub all_numbered : (cells : List ℤ) (rows : ℕ) → length cells ≡ cells_in_row * rows
    → ((i : ℕ) → cells_in_row * i + cells_in_row ≤ length cells → is_misnumbered cells i ≡ false) → IsNumbered cells
all_numbered cells rows whole none = record { whole = omega (arith, whole); numbers = numbers }
  where
    number : (i : ℕ) → (b : Bool) → int_eq (get_or cells (cells_in_row * i + 0) (pos 0)) (pos (i + 1)) ≡ b → not b ≡ false
        → get_or cells (cells_in_row * i + 0) (pos 0) ≡ pos (i + 1)
    number i true e h = (Decides-int_eq _ _).0 e
    number i false e h = absurd (cc)

    numbers : (i : ℕ) → cells_in_row * i < length cells → slice_get cells (cells_in_row * i) ≡ Some (pos (i + 1))
    numbers i h =
        let place : cells_in_row * i + 0 ≡ cells_in_row * i = omega arith in
        slice_get-get_or cells (cells_in_row * i) (pos 0) h ∙ ap (λ k. Some (get_or cells k (pos 0))) (sym place)
        ∙ ap Some (number i _ refl (none i (omega (arith, whole, h))))

-- and numbered rows aren't misnumbered
pub none_misnumbered : (cells : List ℤ) (i : ℕ) → IsNumbered cells → cells_in_row * i < length cells → is_misnumbered cells i ≡ true → ⊥
none_misnumbered cells i is h bad =
    let place : cells_in_row * i + 0 ≡ cells_in_row * i = omega arith in
    let number : get_or cells (cells_in_row * i + 0) (pos 0) ≡ pos (i + 1) = ap (λ k. get_or cells k (pos 0)) place
    ∙ get_or_from_slice_get cells (cells_in_row * i) (pos (i + 1)) (pos 0) (is.numbers i h) in
    let same : int_eq (get_or cells (cells_in_row * i + 0) (pos 0)) (pos (i + 1)) ≡ true = (Decides-int_eq _ _).1 number in
    let no_it : is_misnumbered cells i ≡ false = ap not same in
    let both : true ≡ false = sym bad ∙ no_it in cc

-- ---- the catalogue

beyond_takes : (head : ℕ) (reading : Reading) → head ≤ taken_of (beyond head reading)
beyond_takes head (accepted cells taken) = omega arith
beyond_takes head (rejected stop taken) = omega arith

-- what is taken up to HDU 2 is no more than what is taken in all
hdu_takes : (bytes : List ℕ) (expected : Found) → taken_by expected ≤ taken_of (reading_by bytes expected)
unfolding reading_by
hdu_takes bytes (refused fault taken) = omega arith
hdu_takes bytes (found hdu head) = by (is_catalogue hdu) (nat_lt most_rows hdu.height)
  where
    by : (a b : Bool)
        → head ≤ taken_of (cond a (cond b (rejected (Refused TooManyRows) head) (beyond head (table_of (drop head bytes) hdu.height)))
        (rejected (Refused NotCatalogue) head))
    by true true = omega arith
    by true false = beyond_takes head (table_of (drop head bytes) hdu.height)
    by false b = omega arith

is_refused : (bytes : List ℕ) (fault : HduFault) (taken : ℕ) → find_of bytes 2 ≡ refused fault taken → catalogue_in bytes ≡ rejected (Refused (Hdu fault)) taken
unfolding catalogue_in reading_by
is_refused bytes fault taken is = rw is refl

gone_within : (bytes : List ℕ) (left : Option (List ℕ)) → TakesAtMost bytes left (taken_by (find_of bytes 2))
    → TakesAtMost bytes left (taken_of (catalogue_in bytes))
unfolding catalogue_in
gone_within bytes left gone = at_most bytes left _ _ gone (hdu_takes bytes (find_of bytes 2))

pub no_hdu : (bytes : List ℕ) (left : Option (List ℕ)) (hdu_stop : HduStop) (stop : Stop) → stop ≡ survey_stop_at_hdu hdu_stop
    → Stopped (find_of bytes 2) bytes left hdu_stop
    → IsRejected (catalogue_in bytes) bytes left stop
no_hdu bytes left hdu_stop stop is stopped = subst (IsRejected (catalogue_in bytes) bytes left) (sym is) (by hdu_stop stopped)
  where
    by : (hdu_stop : HduStop) → Stopped (find_of bytes 2) bytes left hdu_stop → IsRejected (catalogue_in bytes) bytes left (survey_stop_at_hdu hdu_stop)
    by (at_hdu.Fault fault) s = (s.0, is_refused bytes fault s.0 s.1, s.2)
    by at_hdu.ReadFault s = gone_within bytes left s

pub no_table : (bytes : List ℕ) (head : ℕ) (hdu : HduSaid) (left : Option (List ℕ)) → find_of bytes 2 ≡ found hdu head → Takes bytes left head
    → is_catalogue hdu ≡ false
    → (x : ℕ) × (catalogue_in bytes ≡ rejected (Refused NotCatalogue) x) × Takes bytes left x
unfolding catalogue_in reading_by
no_table bytes head hdu left is takes none = (head, rw (is, none) refl, takes)

pub too_many : (bytes : List ℕ) (head : ℕ) (hdu : HduSaid) (left : Option (List ℕ)) → find_of bytes 2 ≡ found hdu head → Takes bytes left head
    → is_catalogue hdu ≡ true → most_rows < hdu.height
    → (x : ℕ) × (catalogue_in bytes ≡ rejected (Refused TooManyRows) x) × Takes bytes left x
unfolding catalogue_in reading_by
too_many bytes head hdu left is takes some many = (head, rw (is, some, lt_true most_rows hdu.height many) refl, takes)

table_there : (bytes : List ℕ) (head : ℕ) (hdu : HduSaid) → find_of bytes 2 ≡ found hdu head → is_catalogue hdu ≡ true → hdu.height ≤ most_rows
    → catalogue_in bytes ≡ beyond head (table_of (drop head bytes) hdu.height)
unfolding catalogue_in reading_by
table_there bytes head hdu is some few = rw (is, some, lt_false most_rows hdu.height few) refl

beyond_wants : (head : ℕ) (reading : Reading) → MayLackIn reading → MayLackIn (beyond head reading)
beyond_wants head (accepted cells taken) h = h
beyond_wants head (rejected stop taken) h = h

beyond_lost : (bytes : List ℕ) (head : ℕ) (a b : Option (List ℕ)) (reading : Reading) → Takes bytes a head
    → TakesAtMost (drop head bytes) b (taken_of reading) → TakesAtMost bytes b (taken_of (beyond head reading))
beyond_lost bytes head a b (accepted cells taken) takes lost = TakesAtMost-after bytes a b head taken takes lost
beyond_lost bytes head a b (rejected stop taken) takes lost = TakesAtMost-after bytes a b head taken takes lost

beyond_read : (bytes : List ℕ) (head : ℕ) (a b : Option (List ℕ)) (reading : Reading) (cells : List ℤ) → Takes bytes a head
    → IsAccepted reading (drop head bytes) b cells → IsAccepted (beyond head reading) bytes b cells
beyond_read bytes head a b reading cells takes read = record {
  taken = head + read.taken;
  reading_is = ap (beyond head) read.reading_is;
  takes = Takes-after bytes a b head read.taken takes read.takes;
}

beyond_cut : (bytes : List ℕ) (head : ℕ) (a b : Option (List ℕ)) (reading : Reading) (stop : Stop) → Takes bytes a head
    → IsRejected reading (drop head bytes) b stop → IsRejected (beyond head reading) bytes b stop
beyond_cut bytes head a b reading (Refused fault) takes cut = (head + cut.0, ap (beyond head) cut.1, Takes-after bytes a b head cut.0 takes cut.2)
beyond_cut bytes head a b reading ReadFault takes cut = beyond_lost bytes head a b reading takes cut
beyond_cut bytes head a b reading WriteFault takes cut = cut
beyond_cut bytes head a b reading NoMemory takes cut = (beyond_wants head reading cut.0, beyond_lost bytes head a b reading takes cut.1)
beyond_cut bytes head a b reading KeeperFault takes cut = cut

-- the table behind its header
pub behind_header : {C : Type 0} (items : C → List ℤ) (bytes : List ℕ) (head : ℕ) (hdu : HduSaid) (a b : Option (List ℕ)) (r : Result C Stop)
    → find_of bytes 2 ≡ found hdu head → Takes bytes a head → is_catalogue hdu ≡ true → hdu.height ≤ most_rows
    → MatchResult r (λ cells. IsAccepted (table_of (drop head bytes) hdu.height) (drop head bytes) b (items cells))
    (IsRejected (table_of (drop head bytes) hdu.height) (drop head bytes) b)
    → MatchResult r (λ cells. IsAccepted (catalogue_in bytes) bytes b (items cells)) (IsRejected (catalogue_in bytes) bytes b)
behind_header items bytes head hdu a b (Ok cells) is takes some few read =
    rw (table_there bytes head hdu is some few) (beyond_read bytes head a b (table_of (drop head bytes) hdu.height) (items cells) takes read)
behind_header items bytes head hdu a b (Err stop) is takes some few cut =
    rw (table_there bytes head hdu is some few) (beyond_cut bytes head a b (table_of (drop head bytes) hdu.height) stop takes cut)
