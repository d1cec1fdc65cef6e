-- The catalogue of an image, from those of its tiles.
use Rattle.std.proofs.Common.{◌≡◌, ℕ, ◌<◌, ◌∙◌, arith}
use Rattle.std.specs.Prelude.{IsTrue, Contains, Some, slice_get, ◌↔◌}
use Rattle.lemmas.proofs.Exported.{ArePaired, HasPartnerIn, IsAmong, among_get, among_of, paired_enumerated, paired_from_rising}
use Rattle.comp_tree.specs.declared.shape.Connect.{Connect}
use Rattle.comp_tree.specs.Raster.{Raster}
use Rattle.comp_tree.specs.Laws.{IsNode}
use Rattle.node_sums.specs.Sums.{sums_of}
use Rattle.source_pick.specs.declared.choice.Choice.{Choice}
use Rattle.source_pick.specs.Sources.{is_source, sources}
use Rattle.source_pick.specs.Catalogue.{catalogue_row}
use Rattle.source_pick.specs.Catalogue.{moved_row}
use Rattle.source_pick.specs.Windows.{Tile, IsOwnSource, IsFromTile, first_in_whole, tiles_rows, TilesGiveTheCatalogue}
use Rattle.source_pick.proofs.WindowsPairing.{rising_from_get, source_from_among, among_sources, sources_rise}
use Rattle.source_pick.proofs.Locality.{catalogue-is}
use Rattle.source_pick.proofs.Windows.{each_source_is_a_tiles, own_sources_are_the_wholes}

-- a source of the whole, and the source of a tile that it is
abbrev IsTiles : Raster → Connect → Choice → ℕ → Tile × ℕ → Type 0
IsTiles r connect choice n e = IsFromTile r connect choice e.0 n e.1

-- the pairs keep the order of least pixels
tiles_order : (r : Raster) (connect : Connect) (choice : Choice) (n : ℕ) (d : Tile × ℕ) (m : ℕ) (e : Tile × ℕ) → IsTiles r connect choice n d
    → IsTiles r connect choice m e
    → ((sums_of r connect n).first < (sums_of r connect m).first) ↔ (first_in_whole r connect d.0 d.1 < first_in_whole r connect e.0 e.1)
tiles_order r connect choice n d m e u v =
    let a : (sums_of r connect n).first ≡ first_in_whole r connect d.0 d.1 = u.moved.first in
    let b : (sums_of r connect m).first ≡ first_in_whole r connect e.0 e.1 = v.moved.first in
    ((λ l. omega (arith, a, b, l)), (λ l. omega (arith, a, b, l)))

pub tiles_give_the_catalogue : TilesGiveTheCatalogue
unfolding tiles_rows
tiles_give_the_catalogue r connect choice tiles found plane tile cover k = catalogue-is r connect choice
    ∙ paired_enumerated (IsTiles r connect choice) (catalogue_row r connect) (λ k e. moved_row e.0.window (catalogue_row e.0.plane connect k e.1)) 1
    (sources r connect choice) found (λ k n e c. c.moved.row k) both
  where
    there : (n : ℕ) → IsAmong n (sources r connect choice) → HasPartnerIn (IsTiles r connect choice) n found
    there n m =
        let h : IsNode r connect n × IsTrue (is_source r connect choice n) = source_from_among r connect choice n plane m in
        let g : (t : Tile) × Contains tiles t × ((m : ℕ) × IsFromTile r connect choice t n m) =
        each_source_is_a_tiles r connect choice tiles n plane tile cover h.0 h.1 in
        let c : Contains found (g.0, g.2.0) = k.all g.0 g.2.0 g.1 g.2.1.from in
        record { it = (g.0, g.2.0); among = among_of (g.0, g.2.0) found c; pair = g.2.1 }

    back : (e : Tile × ℕ) → IsAmong e found → HasPartnerIn (λ v u. IsTiles r connect choice u v) e (sources r connect choice)
    back e m =
        let i : (j : ℕ) × (slice_get found j ≡ Some e) = among_get e found m in
        let o : Contains tiles e.0 × IsOwnSource r connect choice e.0 e.1 = k.each i.0 e.0 e.1 i.1 in
        let n : (n : ℕ) × IsFromTile r connect choice e.0 n e.1 = own_sources_are_the_wholes r connect choice e.0 e.1 plane (tile e.0 o.0) o.1 in
        record { it = n.0; among = among_sources r connect choice n.0 plane n.1.node n.1.source; pair = n.1 }

    both : ArePaired (IsTiles r connect choice) (sources r connect choice) found
    both = paired_from_rising (IsTiles r connect choice) (λ n. (sums_of r connect n).first) (λ e. first_in_whole r connect e.0 e.1)
        (sources r connect choice) found (tiles_order r connect choice) (sources_rise r connect choice plane)
        (rising_from_get (λ e. first_in_whole r connect e.0 e.1) found (λ i j d e l a b. k.rise i j d.0 e.0 d.1 e.1 l a b))
        there back
