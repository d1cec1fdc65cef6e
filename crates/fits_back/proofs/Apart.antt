-- Tables that are told apart, and those that aren't there.
use Rattle.std.proofs.Common.{◌≡◌, ◌∙◌, ℕ, ◌*◌, ◌/◌, ◌≤◌, List, [], ◌++◌, length, refl, sym, ap, ap₂, subst, ℤ, pos, Option, Some, None, Result, Ok, Err, w64, FitsSigned, All}
use Rattle.std.proofs.Common.{append_assoc, IfOk}
use Rattle.std.specs.Option.{IfSome, IfNone}
use Rattle.std.proofs.lemmas.List.{append_cancel_left}
use Rattle.fits_card.specs.Laws.{IntegerIsReadBack}
use Rattle.fits_write.specs.declared.table.Column.{Column}
use Rattle.fits_write.specs.Blocks.{filled}
use Rattle.fits_write.specs.Columns.{row_size, table_bytes, IsTable}
use Rattle.fits_write.specs.Hdus.{header, named_cards, named_hdu}
use Rattle.fits_write.specs.Rows.{table_cells}
use Rattle.fits_back.specs.Announced.{announced}
use Rattle.fits_back.specs.Fronts.{BeginsNot}
use Rattle.fits_back.specs.TableRows.{StandAsRows, BeginsWithNoRows}
use Rattle.fits_back.proofs.Announcing.{Announces, table_announces}
use Rattle.fits_back.proofs.Cells.{TableLaws}
use Rattle.fits_back.proofs.Numbers.{data_told}

-- ---- tables in the same bytes

same_number : (m n : ℕ) → Some (pos m) ≡ Some (pos n) → m ≡ n
same_number m n e = cc

-- both announce the same rows
rows_told : (bytes : List ℕ) (m n : ℕ) → Announces bytes m → Announces bytes n → m ≡ n
rows_told bytes m n one other = same_number m n (sym one.rows ∙ other.rows)

-- behind a header
data_behind : (name : List ℕ) (columns : List Column) (cells : List ℤ) (n : ℕ) (bytes rest : List ℕ) → length cells / length columns ≡ n
    → bytes ≡ named_hdu name columns cells ++ rest → bytes ≡ header (named_cards name columns n) ++ (filled 0 (table_bytes columns cells) ++ rest)
unfolding named_hdu
data_behind name columns cells n bytes rest e is =
    is ∙ append_assoc (header (named_cards name columns (length cells / length columns))) (filled 0 (table_bytes columns cells)) rest
    ∙ ap (λ (k : ℕ). header (named_cards name columns k) ++ (filled 0 (table_bytes columns cells) ++ rest)) e

pub tables_told : IntegerIsReadBack → TableLaws → (name : List ℕ) (columns : List Column) (xs ys : List ℤ) (a b : List ℕ) → IsTable columns xs → IsTable columns ys
    → All (FitsSigned w64) xs → All (FitsSigned w64) ys → named_hdu name columns xs ++ a ≡ named_hdu name columns ys ++ b → (xs ≡ ys) × (a ≡ b)
tables_told law laws name columns xs ys a b table other whole as_whole e =
    let bytes = named_hdu name columns ys ++ b in
    let m = length xs / length columns in
    let n = length ys / length columns in
    let same : m ≡ n = rows_told bytes m n (subst (λ l. Announces l m) e (table_announces law name columns xs a table))
    (table_announces law name columns ys b other) in
    let behind = append_cancel_left (header (named_cards name columns n)) (filled 0 (table_bytes columns xs) ++ a) (filled 0 (table_bytes columns ys) ++ b)
    (sym (data_behind name columns xs n bytes a same (sym e)) ∙ data_behind name columns ys n bytes b refl refl) in
    let long : length (table_bytes columns xs) ≡ length (table_bytes columns ys) =
    laws.size columns xs table ∙ ap (λ (k : ℕ). row_size columns * k) same ∙ sym (laws.size columns ys other) in
    let parts = data_told (table_bytes columns xs) (table_bytes columns ys) a b long behind in
    let first : table_cells columns (table_bytes columns xs ++ []) m ≡ xs = laws.read_back columns xs [] table whole in
    let second : table_cells columns (table_bytes columns ys ++ []) n ≡ ys = laws.read_back columns ys [] other as_whole in
    (sym first ∙ ap₂ (λ l (k : ℕ). table_cells columns (l ++ []) k) parts.0 same ∙ second, parts.1)

-- ---- a table at the front of bytes

pub table_here : (name : List ℕ) (columns : List Column) (n : ℕ) (bytes behind rest : List ℕ) (cells : List ℤ) → bytes ≡ header (named_cards name columns n) ++ behind
    → StandAsRows columns n behind cells rest → bytes ≡ named_hdu name columns cells ++ rest
unfolding named_hdu
table_here name columns n bytes behind rest cells e are =
    e ∙ ap (λ l. header (named_cards name columns n) ++ l) are.bytes_are
    ∙ sym (append_assoc (header (named_cards name columns n)) (filled 0 (table_bytes columns cells)) rest)
    ∙ ap (λ (k : ℕ). (header (named_cards name columns k) ++ filled 0 (table_bytes columns cells)) ++ rest) (sym are.count)

-- no cells that can be written stand as a table of this name at the front of the bytes
abbrev pub BeginsWithNoTable : List ℕ → List Column → List ℕ → Type 0
BeginsWithNoTable name columns bytes = (cells : List ℤ) (rest : List ℕ) → IsTable columns cells → All (FitsSigned w64) cells
    → bytes ≡ named_hdu name columns cells ++ rest → ⊥

pub none_announced : IntegerIsReadBack → (name : List ℕ) (columns : List Column) (bytes : List ℕ)
    → ((rows : ℕ) → 400 ≤ length bytes → rows ≤ 2147483647 → announced bytes ≡ Some (pos rows) → ⊥) → BeginsWithNoTable name columns bytes
none_announced law name columns bytes missing = λ cells rest table whole is.
    let told : Announces bytes (length cells / length columns) = subst (λ l. Announces l (length cells / length columns)) (sym is)
    (table_announces law name columns cells rest table) in
    missing (length cells / length columns) told.long table.few_rows told.rows

announced_is : IntegerIsReadBack → (name : List ℕ) (columns : List Column) (bytes : List ℕ) (n : ℕ) (cells : List ℤ) (rest : List ℕ) → announced bytes ≡ Some (pos n)
    → IsTable columns cells → bytes ≡ named_hdu name columns cells ++ rest → length cells / length columns ≡ n
announced_is law name columns bytes n cells rest says table is =
    let told : Announces bytes (length cells / length columns) = subst (λ l. Announces l (length cells / length columns)) (sym is)
    (table_announces law name columns cells rest table) in
    same_number (length cells / length columns) n (sym told.rows ∙ says)

pub no_table_header : IntegerIsReadBack → (name : List ℕ) (columns : List Column) (bytes : List ℕ) (n : ℕ) → announced bytes ≡ Some (pos n)
    → BeginsNot (header (named_cards name columns n)) bytes → BeginsWithNoTable name columns bytes
no_table_header law name columns bytes n says missing = λ cells rest table whole is.
    missing (filled 0 (table_bytes columns cells) ++ rest)
    (data_behind name columns cells n bytes rest (announced_is law name columns bytes n cells rest says table is) is)

pub no_table_rows : IntegerIsReadBack → (name : List ℕ) (columns : List Column) (bytes behind : List ℕ) (n : ℕ) → announced bytes ≡ Some (pos n)
    → bytes ≡ header (named_cards name columns n) ++ behind → BeginsWithNoRows columns n behind → BeginsWithNoTable name columns bytes
no_table_rows law name columns bytes behind n says e missing = λ cells rest table whole is.
    let count = announced_is law name columns bytes n cells rest says table is in
    let front = header (named_cards name columns n) in
    missing cells rest (record {
      bytes_are =
          append_cancel_left front behind (filled 0 (table_bytes columns cells) ++ rest) (sym e ∙ data_behind name columns cells n bytes rest count is);
      table = table;
      count = count;
    })

-- ---- along an answer that may want memory

pub found_along : {T E : Type 0} (r : Result (Option T) E) (P Q : T → Type 0) → ((x : T) → P x → Q x) → IfOk r (λ found. IfSome found P)
    → IfOk r (λ found. IfSome found Q)
found_along (Ok (Some x)) P Q f h = f x h
found_along (Ok None) P Q f h = tt
found_along (Err e) P Q f h = tt

pub none_along : {T E : Type 0} (r : Result (Option T) E) (P Q : Type 0) → (P → Q) → IfOk r (λ found. IfNone found P) → IfOk r (λ found. IfNone found Q)
none_along (Ok (Some x)) P Q f h = tt
none_along (Ok None) P Q f h = f h
none_along (Err e) P Q f h = tt
