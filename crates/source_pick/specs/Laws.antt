-- Model: the law of the sources.
use Rattle.std.specs.Prelude.{◌≡◌, ℕ, ◌<◌, ◌↔◌, IsTrue, Contains, Some, slice_get}
use Rattle.comp_tree.specs.declared.shape.Connect.{Connect}
use Rattle.comp_tree.specs.Raster.{Raster, IsPlane}
use Rattle.comp_tree.specs.Laws.{IsNode, IsNestedIn, AreDisjoint}
use Rattle.node_sums.specs.Sums.{sums_of}
use Rattle.source_pick.specs.declared.choice.Choice.{Choice}
use Rattle.source_pick.specs.Sources.{is_entry, is_source, sources}

-- no two entries share a pixel
abbrev pub EntriesAreDisjoint : Type 0
EntriesAreDisjoint = (r : Raster) (connect : Connect) (choice : Choice) (m n : ℕ) → IsPlane r → IsNode r connect m → IsNode r connect n
    → IsTrue (is_entry r connect choice m) → IsTrue (is_entry r connect choice n) → (m ≡ n → ⊥) → AreDisjoint r connect m n

-- no two sources share a pixel
abbrev pub SourcesAreDisjoint : Type 0
SourcesAreDisjoint = (r : Raster) (connect : Connect) (choice : Choice) (m n : ℕ) → IsPlane r → IsNode r connect m → IsNode r connect n
    → IsTrue (is_source r connect choice m) → IsTrue (is_source r connect choice n) → (m ≡ n → ⊥) → AreDisjoint r connect m n

-- a source lies in each entry
abbrev pub EachEntryHoldsASource : Type 0
EachEntryHoldsASource = (r : Raster) (connect : Connect) (choice : Choice) (e : ℕ) → IsPlane r → IsNode r connect e
    → IsTrue (is_entry r connect choice e) → (n : ℕ) × IsNode r connect n × IsTrue (is_source r connect choice n) × IsNestedIn r connect n e

-- each source stands in the list of the sources, and nothing else does
abbrev pub SourcesAreListed : Type 0
SourcesAreListed = (r : Raster) (connect : Connect) (choice : Choice) (n : ℕ) → IsPlane r
    → Contains (sources r connect choice) n ↔ (IsNode r connect n × IsTrue (is_source r connect choice n))

-- they stand there in the order of their least pixels
abbrev pub SourcesAreInOrder : Type 0
SourcesAreInOrder = (r : Raster) (connect : Connect) (choice : Choice) (i j m n : ℕ) → IsPlane r → i < j
    → slice_get (sources r connect choice) i ≡ Some m → slice_get (sources r connect choice) j ≡ Some n
    → (sums_of r connect m).first < (sums_of r connect n).first
