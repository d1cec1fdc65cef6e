-- The fifth card of a table's header says how many rows it has.
use Rattle.std.proofs.Common.{◌≡◌, ◌∙◌, ℕ, ◌-◌, ◌*◌, ◌/◌, ◌^◌, ◌≤◌, List, ◌++◌, get_or, length, replicate, take, drop, refl, ap, arith, ℤ, pos, Some}
use Rattle.std.proofs.Common.{append_assoc, length-append, cond, None, rules}
use Rattle.std.specs.Prelude.{codes}
use Rattle.std.specs.Fmt.{decimal}
use Rattle.std.specs.List.{concat}
use Rattle.std.proofs.lemmas.Bool.{lt-ltb}
use Rattle.std.proofs.lemmas.Fmt.{length-decimal-le}
use Rattle.std.proofs.lemmas.List.{drop_at, take_at, length-replicate}
use Rattle.std.proofs.lemmas.List.Sums.{sum_by-le}
use Rattle.fits_card.specs.Laws.{IntegerIsReadBack}
use Rattle.fits_card.specs.Values.{value_of, integer_of}
use Rattle.fits_card.specs.Written.{left_justified, spaces, written_integer, written_text}
use Rattle.fits_write.specs.declared.table.Cell.{Cell}
use Rattle.fits_write.specs.declared.table.Cell.TheVariants.{J, K}
use Rattle.fits_write.specs.declared.table.Column.{Column}
use Rattle.fits_write.specs.Blocks.{filled, room_after}
use Rattle.fits_write.specs.Columns.{cell_size, row_size, column_cards, table_bytes, IsTable}
use Rattle.fits_write.specs.Hdus.{header, table_front, named_back, named_cards, named_hdu}
use Rattle.fits_back.specs.Announced.{announced}

-- ---- a card has 80 bytes

filled_out : (width : ℕ) (bytes : List ℕ) → length bytes ≤ width → length (left_justified width bytes) ≡ width
filled_out width bytes short = omega (arith, short, length-append bytes (spaces (width - length bytes)), length-replicate {A = ℕ} (width - length bytes) 32)

pub integer_long : (name : List ℕ) (n : ℕ) → length name ≡ 8 → n ≤ 2147483647 → length (written_integer name (pos n)) ≡ 80
unfolding written_integer
integer_long name n eight small =
    let digits : List ℕ = decimal n in
    let few : length digits ≤ 10 = length-decimal-le 10 n (omega arith) (omega (arith, small)) (omega (arith, small)) in
    let field : List ℕ = spaces (20 - length digits) ++ digits in
    let twenty : length field ≡ 20 = omega (arith, few, length-append (spaces (20 - length digits)) digits, length-replicate {A = ℕ} (20 - length digits) 32) in
    let thirty : length (name ++ codes "= " ++ field) ≡ 30 =
    omega (arith, eight, twenty, length-append (name ++ codes "= ") field, length-append name (codes "= ")) in
    filled_out 80 (name ++ codes "= " ++ field) (omega (arith, thirty))

text_long : length (written_text (codes "XTENSION") (codes "BINTABLE")) ≡ 80
unfolding written_text
text_long = refl

-- ---- the first cards of a table

cell_most : (cell : Cell) → cell_size cell ≤ 8
cell_most J = omega arith
cell_most K = omega arith

row_most : (columns : List Column) → row_size columns ≤ length columns * 8
row_most columns = sum_by-le (λ c. cell_size c.cell) 8 columns (λ k d within. cell_most (get_or columns k d).cell)

-- four cards, the fifth, and what stands behind them
parted : (a b c d e others fill data_blocks rest : List ℕ) → ((a ++ (b ++ (c ++ (d ++ (e ++ others)))) ++ fill) ++ data_blocks) ++ rest
    ≡ (((a ++ b) ++ c) ++ d) ++ (e ++ (others ++ (fill ++ (data_blocks ++ rest))))
parted a b c d e others fill data_blocks rest = simp append_assoc

-- bytes whose fifth card is this one
pub record HasFifth (bytes card : List ℕ) : Type 0 where
  pub front : List ℕ
  pub behind : List ℕ
  pub long : length front ≡ 320
  pub split : bytes ≡ front ++ (card ++ behind)

pub fifth_of_table : (name : List ℕ) (columns : List Column) (cells : List ℤ) (rest : List ℕ) → IsTable columns cells
    → HasFifth (named_hdu name columns cells ++ rest) (written_integer (codes "NAXIS2  ") (pos (length cells / length columns)))
unfolding named_hdu header filled named_cards table_front
fifth_of_table name columns cells rest table =
    let rows = length cells / length columns in
    let a = written_text (codes "XTENSION") (codes "BINTABLE") in
    let b = written_integer (codes "BITPIX  ") (pos 8) in
    let c = written_integer (codes "NAXIS   ") (pos 2) in
    let d = written_integer (codes "NAXIS1  ") (pos (row_size columns)) in
    let e = written_integer (codes "NAXIS2  ") (pos rows) in
    let others = written_integer (codes "PCOUNT  ") (pos 0)
    ++ (written_integer (codes "GCOUNT  ") (pos 1)
    ++ (written_integer (codes "TFIELDS ") (pos (length columns)) ++ concat (column_cards 1 columns ++ named_back name))) in
    let fill : List ℕ = replicate (room_after (length (a ++ (b ++ (c ++ (d ++ (e ++ others))))))) 32 in
    let data_bytes = table_bytes columns cells in
    let data_blocks : List ℕ = data_bytes ++ replicate (room_after (length data_bytes)) 0 in
    let few : row_size columns ≤ 2147483647 = omega (arith, row_most columns, table.few_columns) in
    record {
      front = ((a ++ b) ++ c) ++ d;
      behind = others ++ (fill ++ (data_blocks ++ rest));
      long = omega (
        arith,
        length-append ((a ++ b) ++ c) d,
        length-append (a ++ b) c,
        length-append a b,
        text_long,
        integer_long (codes "BITPIX  ") 8 refl (omega arith),
        integer_long (codes "NAXIS   ") 2 refl (omega arith),
        integer_long (codes "NAXIS1  ") (row_size columns) refl few,
      );
      split = parted a b c d e others fill data_blocks rest;
    }

-- ---- what it announces

number_read : IntegerIsReadBack → (n : ℕ) → n ≤ 2147483647 → integer_of (value_of (written_integer (codes "NAXIS2  ") (pos n))) ≡ Some (pos n)
number_read law n small =
    ap integer_of (law (codes "NAXIS2  ") (pos n) refl (search rules))
    ∙ ap (λ b. cond b (Some (pos n)) None) (lt-ltb n (2 ^ 63) (omega (arith, small)))

announced_by : (bytes card : List ℕ) → HasFifth bytes card → length card ≡ 80 → announced bytes ≡ integer_of (value_of card)
unfolding announced
announced_by bytes card fifth eighty =
    ap (λ l. integer_of (value_of (take 80 l))) (ap (drop 320) fifth.split ∙ drop_at fifth.front (card ++ fifth.behind) 320 fifth.long)
    ∙ ap (λ l. integer_of (value_of l)) (take_at card fifth.behind 80 eighty)

-- the bytes of a table announce its rows, and are long enough to
pub record Announces (bytes : List ℕ) (n : ℕ) : Type 0 where
  pub rows : announced bytes ≡ Some (pos n)
  pub long : 400 ≤ length bytes

pub table_announces : IntegerIsReadBack → (name : List ℕ) (columns : List Column) (cells : List ℤ) (rest : List ℕ) → IsTable columns cells
    → Announces (named_hdu name columns cells ++ rest) (length cells / length columns)
table_announces law name columns cells rest table =
    let bytes = named_hdu name columns cells ++ rest in
    let n = length cells / length columns in
    let card = written_integer (codes "NAXIS2  ") (pos n) in
    let fifth = fifth_of_table name columns cells rest table in
    let eighty : length card ≡ 80 = integer_long (codes "NAXIS2  ") n refl table.few_rows in
    record {
      rows = announced_by bytes card fifth eighty ∙ number_read law n table.few_rows;
      long = omega (arith, ap length fifth.split, length-append fifth.front (card ++ fifth.behind), length-append card fifth.behind, fifth.long, eighty);
    }
