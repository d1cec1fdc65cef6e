-- The headers of an empty primary HDU, of a map and of a table, and what they say.
use Rattle.std.proofs.Common.{◌≡◌, ◌∙◌, ℕ, zero, suc, ◌+◌, ◌*◌, ◌^◌, ◌<◌, ◌≤◌, Bool, true, false, List, [], ◌∷◌, ◌++◌}
use Rattle.std.proofs.Common.{length, refl, sym, ap, subst, arith, append_assoc, length-append, mul-one, pos}
use Rattle.std.proofs.Common.{Ok, IsTrue}
use Rattle.std.specs.Prelude.{codes, unwrap_or, is_some}
use Rattle.std.specs.Fmt.{decimal}
use Rattle.std.specs.List.{AllByRecursion, list_all}
use Rattle.std.specs.Str.{bytes_eq}
use Rattle.std.proofs.lemmas.Fmt.{length-decimal-le, decimal_digit}
use Rattle.std.proofs.lemmas.List.Sums.{sum_by-cons}
use Rattle.comp_tree.specs.declared.shape.Shape.{Shape}
use Rattle.fits_card.specs.Written.{left_justified, numbered_keyword, is_plain, written_logical, written_integer, written_text, written_end}
use Rattle.fits_card.specs.Laws.{LogicalIsReadBack, IntegerIsReadBack, TextIsReadBack}
use Rattle.fits_hdu.specs.declared.answer.Hdu.{Hdu}
use Rattle.fits_hdu.specs.Cards.{has_keyword, is_depth, is_text, is_image, is_mandatory}
use Rattle.fits_hdu.specs.Sizes.{number_bytes, data_size}
use Rattle.fits_hdu.specs.Headers.{axis_count, axes_of, others_before, is_bad, ends_header, described, is_groups, judged, header_of}
use Rattle.fits_write.specs.declared.table.Cell.{Cell}
use Rattle.fits_write.specs.declared.table.Cell.TheVariants.{J, K}
use Rattle.fits_write.specs.declared.table.Column.{Column}
use Rattle.fits_write.specs.Columns.{cell_size, form_of, row_size, column_cards}
use Rattle.fits_write.specs.Hdus.{primary_cards, map_cards, table_front, named_back, named_cards, table_cards}
use Rattle.survey_laws.proofs.Cards.{nth}
use Rattle.survey_laws.proofs.Headers.{IsHeader, bad_is, not_below}
use Rattle.survey_laws.proofs.WrittenCards.{filled_up, Apart, Quiet, quiet, full_logical, full_integer, full_text, full_end, ends_at, goes_on_at}
use Rattle.survey_laws.proofs.WrittenCards.{has_not, integer_keyword, logical_keyword}
use Rattle.survey_laws.proofs.WrittenCards.{text_keyword, natural_written, valued_written, depth_written, naxis_written, axis_written, simple_written}
use Rattle.survey_laws.proofs.WrittenCards.{text_written, extension_written}
use Rattle.survey_laws.proofs.Extensions.{hdu_said, is_header}

-- ---- the primary HDU

module _ (logicals : LogicalIsReadBack) (integers : IntegerIsReadBack) where
  abbrev simple : List ℕ
  simple = written_logical (codes "SIMPLE  ") true

  abbrev depth : List ℕ
  depth = written_integer (codes "BITPIX  ") (pos 8)

  abbrev no_axes : List ℕ
  no_axes = written_integer (codes "NAXIS   ") (pos 0)

  abbrev extend : List ℕ
  extend = written_logical (codes "EXTEND  ") true

  abbrev cards : List (List ℕ)
  cards = simple ∷ depth ∷ no_axes ∷ extend ∷ written_end ∷ []

  axes : axis_count (nth cards) ≡ 0
  unfolding axis_count
  axes = ap (λ o. unwrap_or o 0) (naxis_written integers (codes "NAXIS   ") refl 0 (omega arith) refl (omega arith))

  mandatory : (j : ℕ) → j ≤ 3 → is_mandatory true j (nth cards j) ≡ true → is_bad true (nth cards) j ≡ false
  mandatory j h is = bad_is true (nth cards) j ∙ rw (axes, not_below 3 j h, is) refl

  good : (j : ℕ) → 1 ≤ j → j ≤ 5 → is_bad true (nth cards) j ≡ false
  good zero low high = absurd (omega arith)
  good (suc zero) low high = mandatory 1 (omega arith) (simple_written logicals)
  good (suc (suc zero)) low high = mandatory 2 (omega arith) (ap is_some (depth_written integers (codes "BITPIX  ") refl 8 (omega arith) refl refl))
  good (suc (suc (suc zero))) low high =
      mandatory 3 (omega arith) (ap is_some (naxis_written integers (codes "NAXIS   ") refl 0 (omega arith) refl (omega arith)))
  good (suc (suc (suc (suc zero)))) low high = bad_is true (nth cards) 4 ∙ rw axes refl
  good (suc (suc (suc (suc (suc zero))))) low high = bad_is true (nth cards) 5 ∙ rw axes refl
  good (suc (suc (suc (suc (suc (suc j)))))) low high = absurd (omega arith)

  goes_on : (j : ℕ) → 1 ≤ j → j < 5 → ends_header (nth cards) j ≡ false
  unfolding ends_header
  goes_on zero low high = absurd (omega arith)
  goes_on (suc zero) low high = rw axes refl
  goes_on (suc (suc zero)) low high = rw axes refl
  goes_on (suc (suc (suc zero))) low high = rw axes refl
  goes_on (suc (suc (suc (suc zero)))) low high =
      rw (axes, goes_on_at (codes "EXTEND  ") extend (logical_keyword (codes "EXTEND  ") true refl) refl) refl
  goes_on (suc (suc (suc (suc (suc j))))) low high = absurd (omega arith)

  ends : ends_header (nth cards) 5 ≡ true
  unfolding ends_header
  ends = rw (axes, ends_at) refl

  abbrev pub primary_said : Hdu
  primary_said = described true (is_image simple) (pos 8) [] (others_before (nth cards) 5)

  pub no_data : primary_said.data_bytes ≡ 0
  unfolding described data_size
  no_data = refl

  said : header_of true (nth cards) 5 ≡ Ok primary_said
  unfolding header_of judged is_groups axes_of
  said =
      rw (
        depth_written integers (codes "BITPIX  ") refl 8 (omega arith) refl refl,
        axes,
        not_below (2 ^ 40) primary_said.data_bytes (omega (arith, no_data)),
      ) refl

  pub primary_header : IsHeader true primary_cards primary_said
  unfolding primary_cards
  primary_header = record {
    full = (
      full_logical (codes "SIMPLE  ") true refl,
      (
        full_integer (codes "BITPIX  ") 8 refl (omega arith),
        (full_integer (codes "NAXIS   ") 0 refl (omega arith), (full_logical (codes "EXTEND  ") true refl, (full_end, tt))),
      ),
    );
    many = omega arith;
    few = omega arith;
    starts = logical_keyword (codes "SIMPLE  ") true refl;
    good = good;
    goes_on = goes_on;
    ends = ends;
    within = rw axes (omega arith);
    said = said;
  }

-- ---- what both extensions have

apart_extname : Apart (codes "EXTNAME ")
apart_extname = record { going = refl; pcount = refl; gcount = refl; bscale = refl; bzero = refl; blank = refl }

extname_quiet : (text : List ℕ) → length text ≤ 68 → Quiet (written_text (codes "EXTNAME ") text)
extname_quiet text few =
    quiet (codes "EXTNAME ") (written_text (codes "EXTNAME ") text) (text_keyword (codes "EXTNAME ") text refl)
    (full_text (codes "EXTNAME ") text refl few) apart_extname

one_product : (k a b : ℕ) → k * (1 * (0 + a * (b * 1))) ≡ k * (a * b)
one_product k a b =
    let inner : 1 * (0 + a * (b * 1)) ≡ a * b = let e : a * (b * 1) ≡ a * b = ap (λ n. a * n) (mul-one b) in omega (arith, e) in
    ap (λ n. k * n) inner

first_keyword : codes "NAXIS1  " ≡ numbered_keyword (codes "NAXIS") 1
unfolding numbered_keyword
first_keyword = sym (ap (λ digits. left_justified 8 (codes "NAXIS" ++ digits)) (decimal_digit 1 (omega arith)))

second_keyword : codes "NAXIS2  " ≡ numbered_keyword (codes "NAXIS") 2
unfolding numbered_keyword
second_keyword = sym (ap (λ digits. left_justified 8 (codes "NAXIS" ++ digits)) (decimal_digit 2 (omega arith)))

integer_has_not : IntegerIsReadBack → (name other : List ℕ) (n : ℕ) → length name ≡ 8 → bytes_eq name other ≡ false
    → has_keyword other (written_integer name (pos n)) ≡ false
integer_has_not integers name other n eight apart = has_not other name (written_integer name (pos n)) (integer_keyword name (pos n) eight) apart

-- the cards of an extension of this kind, with these bits, sides and further cards
abbrev extension_cards : List ℕ → (bits width height : ℕ) → List (List ℕ) → List (List ℕ)
extension_cards kind bits width height tail =
    written_text (codes "XTENSION") kind
    ∷ written_integer (codes "BITPIX  ") (pos bits)
    ∷ written_integer (codes "NAXIS   ") (pos 2)
    ∷ written_integer (codes "NAXIS1  ") (pos width)
    ∷ written_integer (codes "NAXIS2  ") (pos height)
    ∷ ((written_integer (codes "PCOUNT  ") (pos 0) ∷ written_integer (codes "GCOUNT  ") (pos 1) ∷ tail) ++ written_end ∷ [])

record IsWritten (kind : List ℕ) (bits width height size : ℕ) (tail : List (List ℕ)) (image : Bool) : Type 0 where
  image_is : is_image (written_text (codes "XTENSION") kind) ≡ image
  short : length kind ≤ 68
  plain : IsTrue (list_all is_plain kind)
  few_bits : bits < 2 ^ 40
  depth : is_depth (pos bits) ≡ true
  wide : width < 2 ^ 40
  high : height < 2 ^ 40
  size_is : number_bytes (pos bits) * (width * height) ≡ size
  small : size ≤ 2 ^ 40
  others : AllByRecursion Quiet tail
  few : length tail ≤ 30000

extension_header : IntegerIsReadBack → TextIsReadBack → (kind : List ℕ) (bits width height size : ℕ) (tail : List (List ℕ)) (image : Bool)
    → IsWritten kind bits width height size tail image
    → IsHeader false (extension_cards kind bits width height tail) (hdu_said image (pos bits) width height size)
extension_header integers texts kind bits width height size tail image is =
    let has_none = integer_has_not integers in
    is_header _ _ _ _ _ _ _ tail image (pos bits) width height size
    (record {
      starts = text_keyword (codes "XTENSION") kind refl;
      extension = extension_written texts kind is.short is.plain;
      image_is = is.image_is;
      depth = depth_written integers (codes "BITPIX  ") refl bits is.few_bits refl is.depth;
      naxis = naxis_written integers (codes "NAXIS   ") refl 2 (omega arith) refl (omega arith);
      first_axis = axis_written integers (codes "NAXIS1  ") refl width is.wide 1 first_keyword;
      first_length = natural_written integers (codes "NAXIS1  ") refl width is.wide;
      second_axis = axis_written integers (codes "NAXIS2  ") refl height is.high 2 second_keyword;
      second_length = natural_written integers (codes "NAXIS2  ") refl height is.high;
      full = (
        full_text (codes "XTENSION") kind refl is.short,
        (
          full_integer (codes "BITPIX  ") bits refl is.few_bits,
          (
            full_integer (codes "NAXIS   ") 2 refl (omega arith),
            (
              full_integer (codes "NAXIS1  ") width refl is.wide,
              (
                full_integer (codes "NAXIS2  ") height refl is.high,
                (
                  full_integer (codes "PCOUNT  ") 0 refl (omega arith),
                  (full_integer (codes "GCOUNT  ") 1 refl (omega arith), tt),
                ),
              ),
            ),
          ),
        ),
      );
      pcount = valued_written integers (codes "PCOUNT  ") refl 0 (omega arith);
      no_heap = natural_written integers (codes "PCOUNT  ") refl 0 (omega arith);
      not_gcount = has_none (codes "PCOUNT  ") (codes "GCOUNT  ") 0 refl refl;
      gcount = valued_written integers (codes "GCOUNT  ") refl 1 (omega arith);
      one_group = natural_written integers (codes "GCOUNT  ") refl 1 (omega arith);
      not_pcount = has_none (codes "GCOUNT  ") (codes "PCOUNT  ") 1 refl refl;
      going = (
        goes_on_at (codes "PCOUNT  ") _ (integer_keyword (codes "PCOUNT  ") (pos 0) refl) refl,
        (goes_on_at (codes "GCOUNT  ") _ (integer_keyword (codes "GCOUNT  ") (pos 1) refl) refl, tt),
      );
      bscale = (has_none (codes "PCOUNT  ") (codes "BSCALE  ") 0 refl refl, (has_none (codes "GCOUNT  ") (codes "BSCALE  ") 1 refl refl, tt));
      bzero = (has_none (codes "PCOUNT  ") (codes "BZERO   ") 0 refl refl, (has_none (codes "GCOUNT  ") (codes "BZERO   ") 1 refl refl, tt));
      blank = (has_none (codes "PCOUNT  ") (codes "BLANK   ") 0 refl refl, (has_none (codes "GCOUNT  ") (codes "BLANK   ") 1 refl refl, tt));
      others = is.others;
      few = is.few;
      size_is = one_product (number_bytes (pos bits)) width height ∙ is.size_is;
      small = is.small;
    })

-- ---- the map

image_text : TextIsReadBack → is_image (written_text (codes "XTENSION") (codes "IMAGE")) ≡ true
unfolding is_image
image_text texts = ap (is_text (codes "IMAGE")) (text_written texts (codes "XTENSION") (codes "IMAGE") refl (omega arith) refl)

pub map_header : IntegerIsReadBack → TextIsReadBack → (shape : Shape)
    → IsHeader false (map_cards shape) (hdu_said true (pos 32) shape.width shape.height (4 * (shape.width * shape.height)))
unfolding map_cards
map_header integers texts shape =
    let limits = shape.within_limits in
    extension_header integers texts (codes "IMAGE") 32 shape.width shape.height (4 * (shape.width * shape.height))
    (written_text (codes "EXTNAME ") (codes "SEGMENT") ∷ []) true
    (record {
      image_is = image_text texts;
      short = omega arith;
      plain = refl;
      few_bits = omega arith;
      depth = refl;
      wide = let l : shape.width ≤ 65535 = limits.few_columns in omega (arith, l);
      high = let l : shape.height ≤ 65535 = limits.few_rows in omega (arith, l);
      size_is = refl;
      small = let l : shape.width * shape.height ≤ 2147483647 = limits.few_pixels in omega (arith, l);
      others = (extname_quiet (codes "SEGMENT") (omega arith), tt);
      few = omega arith;
    })

-- ---- the table

table_text : TextIsReadBack → is_image (written_text (codes "XTENSION") (codes "BINTABLE")) ≡ false
unfolding is_image
table_text texts = ap (is_text (codes "IMAGE")) (text_written texts (codes "XTENSION") (codes "BINTABLE") refl (omega arith) refl)

apart_name : (n : ℕ) → Apart (numbered_keyword (codes "TTYPE") n)
unfolding numbered_keyword
apart_name n = record { going = refl; pcount = refl; gcount = refl; bscale = refl; bzero = refl; blank = refl }

apart_form : (n : ℕ) → Apart (numbered_keyword (codes "TFORM") n)
unfolding numbered_keyword
apart_form n = record { going = refl; pcount = refl; gcount = refl; bscale = refl; bzero = refl; blank = refl }

numbered_eight : (root : List ℕ) (n : ℕ) → length root ≡ 5 → n ≤ 99 → length (numbered_keyword root n) ≡ 8
unfolding numbered_keyword
numbered_eight root n five few =
    let digits : length (decimal n) ≤ 2 = length-decimal-le 2 n (omega arith) (omega (arith, few)) (omega (arith, few)) in
    filled_up 8 (5 + length (decimal n)) (root ++ decimal n) (omega (arith, length-append root (decimal n), five)) (omega (arith, digits))

form_short : (cell : Cell) → length (form_of cell) ≤ 68
form_short J = omega arith
form_short K = omega arith

column_card_quiet : (root text : List ℕ) (n : ℕ) → length root ≡ 5 → n ≤ 99 → length text ≤ 68 → Apart (numbered_keyword root n)
    → Quiet (written_text (numbered_keyword root n) text)
column_card_quiet root text n five few short apart =
    let eight = numbered_eight root n five few in
    quiet (numbered_keyword root n) (written_text (numbered_keyword root n) text) (text_keyword (numbered_keyword root n) text eight)
    (full_text (numbered_keyword root n) text eight short) apart

quiet_with : (cards more : List (List ℕ)) → AllByRecursion Quiet cards → AllByRecursion Quiet more → AllByRecursion Quiet (cards ++ more)
quiet_with [] more a b = b
quiet_with (card ∷ cards) more a b = (a.0, quiet_with cards more a.1 b)

columns_quiet : (n : ℕ) (columns : List Column) → n + length columns ≤ 100 → AllByRecursion (λ column. length column.name ≤ 68) columns
    → AllByRecursion Quiet (column_cards n columns)
columns_quiet n [] few short = tt
columns_quiet n (column ∷ columns) few short = (
  column_card_quiet (codes "TTYPE") column.name n refl (omega arith) short.0 (apart_name n),
  (
    column_card_quiet (codes "TFORM") (form_of column.cell) n refl (omega arith) (form_short column.cell) (apart_form n),
    columns_quiet (n + 1) columns (omega arith) short.1,
  ),
)

many_column_cards : (n : ℕ) (columns : List Column) → length (column_cards n columns) ≡ 2 * length columns
many_column_cards n [] = refl
many_column_cards n (column ∷ columns) = let more = many_column_cards (n + 1) columns in omega (arith, more)

cell_few : (cell : Cell) → cell_size cell ≤ 8
cell_few J = omega arith
cell_few K = omega arith

pub row_few : (columns : List Column) → row_size columns ≤ 8 * length columns
row_few [] = omega arith
row_few (column ∷ columns) =
    let size = sum_by-cons (λ c. cell_size c.cell) column columns in
    omega (arith, size, cell_few column.cell, row_few columns)

apart_fields : Apart (codes "TFIELDS ")
apart_fields = record { going = refl; pcount = refl; gcount = refl; bscale = refl; bzero = refl; blank = refl }

table_cards_are : (columns : List Column) (rows : ℕ)
    → extension_cards (codes "BINTABLE") 8 (row_size columns) rows
    (written_integer (codes "TFIELDS ") (pos (length columns)) ∷ (column_cards 1 columns ++ written_text (codes "EXTNAME ") (codes "SOURCES") ∷ []))
    ≡ table_cards columns rows
unfolding table_cards named_cards table_front named_back
table_cards_are columns rows =
    ap (λ (l : List (List ℕ)).
    written_text (codes "XTENSION") (codes "BINTABLE")
    ∷ written_integer (codes "BITPIX  ") (pos 8)
    ∷ written_integer (codes "NAXIS   ") (pos 2)
    ∷ written_integer (codes "NAXIS1  ") (pos (row_size columns))
    ∷ written_integer (codes "NAXIS2  ") (pos rows)
    ∷ written_integer (codes "PCOUNT  ") (pos 0)
    ∷ written_integer (codes "GCOUNT  ") (pos 1)
    ∷ written_integer (codes "TFIELDS ") (pos (length columns)) ∷ l)
    (append_assoc (column_cards 1 columns) (written_text (codes "EXTNAME ") (codes "SOURCES") ∷ []) (written_end ∷ []))

pub table_header_is : IntegerIsReadBack → TextIsReadBack → (columns : List Column) (rows : ℕ) → length columns ≤ 99 → rows ≤ 2147483647
    → row_size columns * rows ≤ 2 ^ 40
    → AllByRecursion (λ column. length column.name ≤ 68) columns
    → IsHeader false (table_cards columns rows) (hdu_said false (pos 8) (row_size columns) rows (row_size columns * rows))
table_header_is integers texts columns rows few_columns few_rows few_bytes short =
    subst (λ l. IsHeader false l (hdu_said false (pos 8) (row_size columns) rows (row_size columns * rows)))
    (table_cards_are columns rows)
    (extension_header integers texts (codes "BINTABLE") 8 (row_size columns) rows (row_size columns * rows) tail false
    (record {
      image_is = table_text texts;
      short = omega arith;
      plain = refl;
      few_bits = omega arith;
      depth = refl;
      wide = omega (arith, row_few columns, few_columns);
      high = omega (arith, few_rows);
      size_is = let one : 1 * (row_size columns * rows) ≡ row_size columns * rows = omega arith in one;
      small = few_bytes;
      others = (
        quiet (codes "TFIELDS ") fields (integer_keyword (codes "TFIELDS ") (pos (length columns)) refl)
            (full_integer (codes "TFIELDS ") (length columns) refl (omega (arith, few_columns))) apart_fields,
        quiet_with (column_cards 1 columns) (name ∷ []) (columns_quiet 1 columns (omega (arith, few_columns)) short)
            (extname_quiet (codes "SOURCES") (omega arith), tt),
      );
      few = omega (arith, many_column_cards 1 columns, length-append (column_cards 1 columns) (name ∷ []), few_columns);
    }))
  where
    fields : List ℕ
    fields = written_integer (codes "TFIELDS ") (pos (length columns))

    name : List ℕ
    name = written_text (codes "EXTNAME ") (codes "SOURCES")

    tail : List (List ℕ)
    tail = fields ∷ (column_cards 1 columns ++ name ∷ [])
