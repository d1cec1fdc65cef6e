-- The three HDUs one behind the other: where each begins, and what is found there.
use Rattle.std.proofs.Common.{◌≡◌, ◌∙◌, ℕ, ◌+◌, ◌*◌, ◌^◌, ◌/◌, ◌≤◌, List, [], ◌∷◌, ◌++◌}
use Rattle.std.proofs.Common.{length, map, replicate, refl, sym, ap, arith, append_assoc, length-append, zero-add, ℤ, pos, nat_lt, false, true}
use Rattle.std.specs.List.{concat, AllByRecursion}
use Rattle.std.proofs.lemmas.List.{length-replicate}
use Rattle.byteorder.specs.Endian.{big_bytes}
use Rattle.byteorder.specs.Numbers.{length-bytes_high_first}
use Rattle.comp_tree.specs.declared.shape.Shape.{Shape}
use Rattle.fits_card.specs.Laws.{LogicalIsReadBack, IntegerIsReadBack, TextIsReadBack}
use Rattle.fits_hdu.specs.declared.answer.Hdu.{Hdu}
use Rattle.fits_hdu.specs.Headers.{found, header_at}
use Rattle.fits_hdu.specs.Finding.{padded, following, following_found, find_of}
use Rattle.fits_write.specs.declared.table.Column.{Column}
use Rattle.fits_write.specs.Blocks.{filled, room_after}
use Rattle.fits_write.specs.Columns.{row_size, table_bytes, IsTable}
use Rattle.fits_write.specs.Hdus.{header, primary_cards, empty_primary, map_cards, map_bytes, map_hdu, table_cards, table_hdu, named_hdu}
use Rattle.survey_laws.specs.WrittenTables.{table_said, table_start}
use Rattle.survey_laws.proofs.Headers.{header_found, not_below}
use Rattle.survey_laws.proofs.Extensions.{hdu_said}
use Rattle.survey_laws.proofs.WrittenHeaders.{primary_said, no_data, primary_header, map_header, table_header_is}

map_size : (numbers : List ℕ) → length (map_bytes numbers) ≡ 4 * length numbers
unfolding map_bytes
map_size [] = refl
map_size (n ∷ numbers) =
    omega (arith, length-append (big_bytes 4 n) (concat (map (big_bytes 4) numbers)), length-bytes_high_first 4 n, map_size numbers)

room_is : (n : ℕ) → n + room_after n ≡ padded n
unfolding room_after
room_is n = omega arith

pub filled_size : (byte : ℕ) (bytes : List ℕ) → length (filled byte bytes) ≡ padded (length bytes)
unfolding filled
filled_size byte bytes =
    length-append bytes (replicate (room_after (length bytes)) byte)
    ∙ ap (λ k. length bytes + k) (length-replicate {A = ℕ} (room_after (length bytes)) byte) ∙ room_is (length bytes)

-- the next HDU begins behind the data of this one
next_there : (bytes : List ℕ) (number size head next : ℕ) → head + padded size ≡ next → next ≤ length bytes
    → following bytes number size head ≡ header_at bytes number next
unfolding following
next_there bytes number size head next is within =
    let held : nat_lt (length bytes) (head + size) ≡ false = not_below (length bytes) (head + size) (omega (arith, is, within)) in
    let all : nat_lt (length bytes) (head + padded size) ≡ false = not_below (length bytes) (head + padded size) (omega (arith, is, within)) in
    rw (held, all) (ap (header_at bytes number) is)

abbrev table_header : List Column → List ℤ → List ℕ
table_header columns cells = header (table_cards columns (length cells / length columns))

module _ (logicals : LogicalIsReadBack) (integers : IntegerIsReadBack) (texts : TextIsReadBack)
    (shape : Shape) (numbers : List ℕ) (columns : List Column) (cells : List ℤ) (rest : List ℕ)
    (one_each : length numbers ≡ shape.width * shape.height) (table : IsTable columns cells)
    (short : AllByRecursion (λ column. length column.name ≤ 68) columns)
    (few_bytes : row_size columns * (length cells / length columns) ≤ 2 ^ 40) where
  abbrev rows : ℕ
  rows = length cells / length columns

  abbrev bytes : List ℕ
  bytes = empty_primary ++ (map_hdu shape numbers ++ (table_hdu columns cells ++ rest))

  abbrev map_said : Hdu
  map_said = hdu_said true (pos 32) shape.width shape.height (4 * (shape.width * shape.height))

  first : find_of bytes 0 ≡ found (primary_said logicals integers) (length empty_primary)
  unfolding empty_primary find_of
  first =
      header_found 0 [] (map_hdu shape numbers ++ (table_hdu columns cells ++ rest)) primary_cards (primary_said logicals integers)
      (primary_header logicals integers)
      ∙ ap (found (primary_said logicals integers)) (zero-add (length (header primary_cards)))

  -- the map's header, its data, and what follows
  behind_map : map_hdu shape numbers ++ (table_hdu columns cells ++ rest)
      ≡ header (map_cards shape) ++ (filled 0 (map_bytes numbers) ++ (table_hdu columns cells ++ rest))
  unfolding map_hdu
  behind_map = append_assoc (header (map_cards shape)) (filled 0 (map_bytes numbers)) (table_hdu columns cells ++ rest)

  second : find_of bytes 1 ≡ found map_said (length empty_primary + length (header (map_cards shape)))
  unfolding find_of
  second =
      let next : length empty_primary + padded 0 ≡ length empty_primary = omega arith in
      let within : length empty_primary ≤ length bytes =
      omega (arith, length-append empty_primary (map_hdu shape numbers ++ (table_hdu columns cells ++ rest))) in
      ap (following_found bytes 1) first
      ∙ ap (λ size. following bytes 1 size (length empty_primary)) (no_data logicals integers)
      ∙ next_there bytes 1 0 (length empty_primary) (length empty_primary) next within
      ∙ ap (λ l. header_at (empty_primary ++ l) 1 (length empty_primary)) behind_map
      ∙ header_found 1 empty_primary (filled 0 (map_bytes numbers) ++ (table_hdu columns cells ++ rest)) (map_cards shape) map_said
      (map_header integers texts shape)

  abbrev front : List ℕ
  front = empty_primary ++ map_hdu shape numbers

  behind_table : bytes ≡ front ++ (table_header columns cells ++ (filled 0 (table_bytes columns cells) ++ rest))
  unfolding table_hdu named_hdu table_cards
  behind_table =
      sym (append_assoc empty_primary (map_hdu shape numbers) (table_hdu columns cells ++ rest))
      ∙ ap (λ l. front ++ l) (append_assoc (table_header columns cells) (filled 0 (table_bytes columns cells)) rest)

  map_long : length (map_hdu shape numbers) ≡ length (header (map_cards shape)) + padded (4 * (shape.width * shape.height))
  unfolding map_hdu
  map_long =
      length-append (header (map_cards shape)) (filled 0 (map_bytes numbers))
      ∙ ap (λ k. length (header (map_cards shape)) + k) (filled_size 0 (map_bytes numbers) ∙ ap padded (map_size numbers ∙ ap (λ k. 4 * k) one_each))

  pub third : find_of bytes 2 ≡ found (table_said columns rows) (table_start shape numbers columns rows)
  unfolding find_of
  third =
      let size = 4 * (shape.width * shape.height) in
      let head = length empty_primary + length (header (map_cards shape)) in
      let long : length front ≡ length empty_primary + length (map_hdu shape numbers) = length-append empty_primary (map_hdu shape numbers) in
      let next : head + padded size ≡ length front = omega (arith, long, map_long) in
      let within : length front ≤ length bytes =
      omega (arith, ap length behind_table, length-append front (table_header columns cells ++ (filled 0 (table_bytes columns cells) ++ rest))) in
      let place : length front + length (table_header columns cells) ≡ table_start shape numbers columns rows =
      omega (arith, long) in
      ap (following_found bytes 2) second
      ∙ next_there bytes 2 size head (length front) next within
      ∙ ap (λ l. header_at l 2 (length front)) behind_table
      ∙ header_found 2 front (filled 0 (table_bytes columns cells) ++ rest) (table_cards columns rows) (table_said columns rows)
      (table_header_is integers texts columns rows table.few_columns table.few_rows few_bytes short)
      ∙ ap (found (table_said columns rows)) place
