-- Model: written cards are read back.
use Rattle.std.specs.Prelude.{[], ◌∷◌, ◌++◌, ◌==◌, if◌then◌else◌, Some, slice_index, ◌≡◌, ℕ, ◌≤◌, ◌≢◌, Bool, IsTrue, List, length, ℤ, FitsSigned}
use Rattle.std.specs.List.{list_all}
use Rattle.std.specs.Int.{w64}
use Rattle.fits_card.specs.declared.number.Whole.TheVariants.{Is}
use Rattle.fits_card.specs.Pieces.{quote, without_trailing_spaces, closed}
use Rattle.fits_card.specs.Values.{Logical, Integer, Text, value_of, whole_of}
use Rattle.fits_card.specs.Written.{is_plain, written_logical, written_integer, written_text}

abbrev pub LogicalIsReadBack : Type 0
LogicalIsReadBack = (name : List ℕ) (value : Bool) → length name ≡ 8 → value_of (written_logical name value) ≡ Logical value

abbrev pub IntegerIsReadBack : Type 0
IntegerIsReadBack =
    (name : List ℕ) (value : ℤ) → length name ≡ 8 → FitsSigned w64 value → value_of (written_integer name value) ≡ Integer value

abbrev pub IntegerIsWhole : Type 0
IntegerIsWhole =
    (name : List ℕ) (value : ℤ) → length name ≡ 8 → FitsSigned w64 value → whole_of (value_of (written_integer name value)) ≡ Is value

abbrev pub TextIsReadBack : Type 0
TextIsReadBack =
    (name text : List ℕ) → length name ≡ 8 → length text ≤ 68 → IsTrue (list_all is_plain text)
    → value_of (written_text name text) ≡ Text (without_trailing_spaces text)

-- a text as it stands between quotes
abbrev pub doubled : List ℕ → List ℕ
doubled [] = []
doubled (b ∷ rest) = if b == quote then quote ∷ quote ∷ doubled rest else b ∷ doubled rest

-- Any text with its quotes doubled is read up to its closing quote, where no further quote follows that one.
abbrev pub DoubledQuotesAreRead : Type 0
DoubledQuotesAreRead =
    (text rest : List ℕ) → slice_index rest 0 ≢ quote → closed (doubled text ++ quote ∷ rest) ≡ Some (record { text = text; rest = rest })
