-- What one written card says: its length, its keyword, and its value.
use Rattle.std.proofs.Common.{◌≡◌, ◌∙◌, ℕ, ◌+◌, ◌-◌, ◌^◌, ◌<◌, ◌≤◌, Bool, true, false, cond, List, [], ◌∷◌, ◌++◌}
use Rattle.std.proofs.Common.{length, take, refl, sym, ap, arith, length-append, take_all, ℤ, pos, FitsSigned, w64, Some, None}
use Rattle.std.proofs.Common.{IsTrue}
use Rattle.std.specs.Prelude.{codes, nat_le}
use Rattle.std.specs.Fmt.{decimal, signed_decimal}
use Rattle.std.specs.Str.{bytes_eq}
use Rattle.std.specs.List.{list_all}
use Rattle.std.proofs.lemmas.Int.{ints}
use Rattle.std.proofs.lemmas.Fmt.{length-decimal-le}
use Rattle.std.proofs.lemmas.Bool.Decides.{nat_tests}
use Rattle.std.proofs.lemmas.Slice.Eq.{bytes_eq-Decides}
use Rattle.std.proofs.lemmas.List.{take-append-le, length-replicate}
use Rattle.fits_card.specs.Pieces.{without_trailing_spaces}
use Rattle.fits_card.specs.Values.{Integer, value_of, integer_of, text_of, fits_i64}
use Rattle.fits_card.specs.Written.{spaces, left_justified, right_justified, numbered_keyword, is_plain, written_value, written_logical}
use Rattle.fits_card.specs.Written.{written_integer, written_text, written_end}
use Rattle.fits_card.specs.Laws.{LogicalIsReadBack, IntegerIsReadBack, TextIsReadBack}
use Rattle.fits_hdu.specs.Cards.{has_keyword, is_end, natural_of, natural, is_first, is_depth, bitpix_of, naxis_of, axis_of, is_valued}
use Rattle.survey_laws.proofs.Cards.{Full}

-- ---- its bytes

pub filled_up : (width n : ℕ) (bytes : List ℕ) → length bytes ≡ n → n ≤ width → length (left_justified width bytes) ≡ width
filled_up width n bytes many h =
    let spaces_many = length-replicate {A = ℕ} (width - length bytes) 32 in
    omega (arith, length-append bytes (spaces (width - length bytes)), spaces_many, many)

pub full_card : (name value : List ℕ) → length name ≡ 8 → length value ≤ 70 → Full (written_value name value)
full_card name value eight few =
    let all : length (name ++ codes "= " ++ value) ≡ 8 + 2 + length value =
    omega (arith, length-append (name ++ codes "= ") value, length-append name (codes "= "), eight) in
    filled_up 80 (8 + 2 + length value) (name ++ codes "= " ++ value) all (omega arith)

pub keyword_is : (name value : List ℕ) → length name ≡ 8 → take 8 (written_value name value) ≡ name
keyword_is name value eight =
    let two : length (name ++ codes "= ") ≡ 10 = omega (arith, length-append name (codes "= "), eight) in
    let three = length-append (name ++ codes "= ") value in
    take-append-le 8 (name ++ codes "= " ++ value) (spaces (80 - length (name ++ codes "= " ++ value))) (omega (arith, two, three))
    ∙ take-append-le 8 (name ++ codes "= ") value (omega (arith, two)) ∙ take-append-le 8 name (codes "= ") (omega (arith, eight))
    ∙ take_all 8 name (omega (arith, eight))

pub full_logical : (name : List ℕ) (value : Bool) → length name ≡ 8 → Full (written_logical name value)
unfolding written_logical
full_logical name true eight = full_card name (right_justified 20 (84 ∷ [])) eight (omega arith)
full_logical name false eight = full_card name (right_justified 20 (70 ∷ [])) eight (omega arith)

few_digits : (n : ℕ) → n < 2 ^ 40 → length (decimal n) ≤ 20
few_digits n h = length-decimal-le 20 n (omega arith) (omega (arith, h)) (omega (arith, h))

pub full_integer : (name : List ℕ) (n : ℕ) → length name ≡ 8 → n < 2 ^ 40 → Full (written_integer name (pos n))
unfolding written_integer
full_integer name n eight few =
    let digits : length (decimal n) ≤ 20 = few_digits n few in
    let padding = length-replicate {A = ℕ} (20 - length (decimal n)) 32 in
    full_card name (right_justified 20 (decimal n)) eight (omega (arith, length-append (spaces (20 - length (decimal n))) (decimal n), padding, digits))

pub full_text : (name text : List ℕ) → length name ≡ 8 → length text ≤ 68 → Full (written_text name text)
unfolding written_text
full_text name text eight few =
    let padding = length-replicate {A = ℕ} (8 - length text) 32 in
    let justified = length-append text (spaces (8 - length text)) in
    full_card name (39 ∷ left_justified 8 text ++ 39 ∷ []) eight (omega (arith, length-append (39 ∷ left_justified 8 text) (39 ∷ []), justified, padding, few))

-- ---- its keyword

pub has : (name card : List ℕ) → take 8 card ≡ name → has_keyword name card ≡ true
unfolding has_keyword
has name card is = (bytes_eq-Decides (take 8 card) name).1 is

pub has_not : (name other card : List ℕ) → take 8 card ≡ other → bytes_eq other name ≡ false → has_keyword name card ≡ false
unfolding has_keyword
has_not name other card is apart = ap (λ l. bytes_eq l name) is ∙ apart

pub end_keyword : take 8 written_end ≡ codes "END     "
unfolding written_end
end_keyword = refl

pub goes_on_at : (name card : List ℕ) → take 8 card ≡ name → bytes_eq name (codes "END     ") ≡ false → is_end card ≡ false
unfolding is_end
goes_on_at name card is apart = by (bytes_eq card written_end) refl
  where
    by : (b : Bool) → bytes_eq card written_end ≡ b → b ≡ false
    by false e = refl
    by true e =
        let same : card ≡ written_end = (bytes_eq-Decides card written_end).0 e in
        let names : name ≡ codes "END     " = sym is ∙ ap (take 8) same ∙ end_keyword in
        let bad : bytes_eq name (codes "END     ") ≡ true = (bytes_eq-Decides name (codes "END     ")).1 names in
        absurd (let no_way : true ≡ false = sym bad ∙ apart in cc)

pub ends_at : is_end written_end ≡ true
unfolding is_end
ends_at = (bytes_eq-Decides written_end written_end).1 refl

pub full_end : Full written_end
unfolding written_end
full_end = refl

-- a keyword that is none of those that are looked for behind the mandatory cards
pub record Apart (name : List ℕ) : Type 0 where
  pub going : bytes_eq name (codes "END     ") ≡ false
  pub pcount : bytes_eq name (codes "PCOUNT  ") ≡ false
  pub gcount : bytes_eq name (codes "GCOUNT  ") ≡ false
  pub bscale : bytes_eq name (codes "BSCALE  ") ≡ false
  pub bzero : bytes_eq name (codes "BZERO   ") ≡ false
  pub blank : bytes_eq name (codes "BLANK   ") ≡ false

-- the keyword of a card is none of them
pub record Quiet (card : List ℕ) : Type 0 where
  pub full : Full card
  pub going : is_end card ≡ false
  pub pcount : has_keyword (codes "PCOUNT  ") card ≡ false
  pub gcount : has_keyword (codes "GCOUNT  ") card ≡ false
  pub bscale : has_keyword (codes "BSCALE  ") card ≡ false
  pub bzero : has_keyword (codes "BZERO   ") card ≡ false
  pub blank : has_keyword (codes "BLANK   ") card ≡ false

pub quiet : (name card : List ℕ) → take 8 card ≡ name → Full card → Apart name → Quiet card
quiet name card is full apart = record {
  full = full;
  going = goes_on_at name card is apart.going;
  pcount = has_not _ name card is apart.pcount;
  gcount = has_not _ name card is apart.gcount;
  bscale = has_not _ name card is apart.bscale;
  bzero = has_not _ name card is apart.bzero;
  blank = has_not _ name card is apart.blank;
}

pub integer_keyword : (name : List ℕ) (z : ℤ) → length name ≡ 8 → take 8 (written_integer name z) ≡ name
unfolding written_integer
integer_keyword name z eight = keyword_is name (right_justified 20 (signed_decimal z)) eight

pub logical_keyword : (name : List ℕ) (value : Bool) → length name ≡ 8 → take 8 (written_logical name value) ≡ name
unfolding written_logical
logical_keyword name value eight = keyword_is name (right_justified 20 ((cond value 84 70) ∷ [])) eight

pub text_keyword : (name text : List ℕ) → length name ≡ 8 → take 8 (written_text name text) ≡ name
unfolding written_text
text_keyword name text eight = keyword_is name (39 ∷ left_justified 8 text ++ 39 ∷ []) eight

-- ---- its value

fits : (n : ℕ) → n < 2 ^ 40 → FitsSigned w64 (pos n)
fits n h = record { sfits = omega (arith, ints, h) }

small : (n : ℕ) → n < 2 ^ 40 → fits_i64 (pos n) ≡ true
small n h = let less : n < 2 ^ 63 = omega (arith, h) in grind (arith, nat_tests)

module _ (integers : IntegerIsReadBack) (name : List ℕ) (eight : length name ≡ 8) (n : ℕ) (few : n < 2 ^ 40) where
  abbrev card : List ℕ
  card = written_integer name (pos n)

  value : value_of card ≡ Integer (pos n)
  value = integers name (pos n) eight (fits n few)

  whole_value : integer_of (value_of card) ≡ Some (pos n)
  whole_value = ap integer_of value ∙ ap (λ b. cond b (Some (pos n)) None) (small n few)

  pub natural_written : natural card ≡ Some n
  unfolding natural
  natural_written = ap natural_of whole_value

  pub valued_written : is_valued name card ≡ true
  unfolding is_valued
  valued_written = rw (has name card (integer_keyword name (pos n) eight), value) refl

  pub depth_written : name ≡ codes "BITPIX  " → is_depth (pos n) ≡ true → bitpix_of card ≡ Some (pos n)
  unfolding bitpix_of
  depth_written is depth =
      rw (has (codes "BITPIX  ") card (integer_keyword name (pos n) eight ∙ is), whole_value, depth) refl

  pub naxis_written : name ≡ codes "NAXIS   " → n ≤ 999 → naxis_of card ≡ Some n
  unfolding naxis_of
  naxis_written is most =
      let within : nat_le n 999 ≡ true = grind (arith, nat_tests) in
      rw (has (codes "NAXIS   ") card (integer_keyword name (pos n) eight ∙ is), natural_written, within) refl

  pub axis_written : (k : ℕ) → name ≡ numbered_keyword (codes "NAXIS") k → axis_of k card ≡ Some n
  unfolding axis_of
  axis_written k is =
      rw (has (numbered_keyword (codes "NAXIS") k) card (integer_keyword name (pos n) eight ∙ is), natural_written) refl

pub simple_written : LogicalIsReadBack → is_first true (written_logical (codes "SIMPLE  ") true) ≡ true
unfolding is_first
simple_written logicals =
    rw (
      has (codes "SIMPLE  ") (written_logical (codes "SIMPLE  ") true) (logical_keyword (codes "SIMPLE  ") true refl),
      logicals (codes "SIMPLE  ") true refl,
    ) refl

pub text_written : TextIsReadBack → (name text : List ℕ) → length name ≡ 8 → length text ≤ 68 → IsTrue (list_all is_plain text)
    → text_of (value_of (written_text name text)) ≡ Some (without_trailing_spaces text)
text_written texts name text eight few plain = ap text_of (texts name text eight few plain)

pub extension_written : TextIsReadBack → (text : List ℕ) → length text ≤ 68 → IsTrue (list_all is_plain text)
    → is_first false (written_text (codes "XTENSION") text) ≡ true
unfolding is_first
extension_written texts text few plain =
    rw (
      has (codes "XTENSION") (written_text (codes "XTENSION") text) (text_keyword (codes "XTENSION") text refl),
      text_written texts (codes "XTENSION") text refl few plain,
    ) refl
