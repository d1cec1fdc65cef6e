-- The sources of a plane as a list that rises by their least pixels, so that the sources of two planes can be paired.
use Rattle.std.proofs.Common.{◌≡◌, ℕ, ◌<◌, suc, List, [], ◌∷◌, refl, arith}
use Rattle.std.specs.Prelude.{IsTrue, Some, slice_get}
use Rattle.lemmas.proofs.Exported.{IsAmong, IsRisingBy, among_get, among_of, contains_from_among}
use Rattle.comp_tree.specs.declared.shape.Connect.{Connect}
use Rattle.comp_tree.specs.Raster.{Raster, IsPlane}
use Rattle.comp_tree.specs.Laws.{IsNode}
use Rattle.node_sums.specs.Sums.{sums_of}
use Rattle.source_pick.specs.declared.choice.Choice.{Choice}
use Rattle.source_pick.specs.Sources.{is_source, sources}
use Rattle.source_pick.proofs.OrderListing.{sources_are_listed, sources_are_in_order}

-- ---- members

-- ---- lists that rise by a number of each member

-- a list rises where members at later places have larger numbers
pub rising_from_get : {X : Type 0} (f : X → ℕ) (xs : List X) → ((i j : ℕ) (x y : X) → i < j → slice_get xs i ≡ Some x → slice_get xs j ≡ Some y → f x < f y)
    → IsRisingBy f xs
rising_from_get f [] rise = tt
rising_from_get f (x ∷ xs) rise = (
  (λ y m. let k : (j : ℕ) × (slice_get xs j ≡ Some y) = among_get y xs m in rise 0 (suc k.0) x y (omega arith) refl k.1),
  rising_from_get f xs (λ i j u v l a b. rise (suc i) (suc j) u v (omega arith) a b),
)

-- ---- the sources

-- a member of the list of sources is a source
pub source_from_among : (r : Raster) (connect : Connect) (choice : Choice) (n : ℕ) → IsPlane r → IsAmong n (sources r connect choice)
    → IsNode r connect n × IsTrue (is_source r connect choice n)
source_from_among r connect choice n plane m = (sources_are_listed r connect choice n plane).0 (contains_from_among n (sources r connect choice) m)

-- and a source is a member
pub among_sources : (r : Raster) (connect : Connect) (choice : Choice) (n : ℕ) → IsPlane r → IsNode r connect n → IsTrue (is_source r connect choice n)
    → IsAmong n (sources r connect choice)
among_sources r connect choice n plane hn k = among_of n (sources r connect choice) ((sources_are_listed r connect choice n plane).1 (hn, k))

-- the list rises
pub sources_rise : (r : Raster) (connect : Connect) (choice : Choice) → IsPlane r → IsRisingBy (λ n. (sums_of r connect n).first) (sources r connect choice)
sources_rise r connect choice plane =
    rising_from_get (λ n. (sums_of r connect n).first) (sources r connect choice) (λ i j m n l a b. sources_are_in_order r connect choice i j m n plane l a b)
